-- What two disks leave while a store is created.
use Rattle.std.proofs.Common.{◌≡◌, ◌≤◌, ℕ, List, Option, Some, None, refl, subst}
use Rattle.std.specs.Prelude.{IfSome}
use Rattle.outside_disk.specs.Views.{View, LeavesOnly}
use Rattle.round_store.specs.States.{WhereTold}
use Rattle.opened_store.specs.Meanwhile.{KeepTo}

-- Where the disks tell their files.
by_told : (a b : Option (List ℕ)) (P : List ℕ → List ℕ → Type 0) → ((f g : List ℕ) → a ≡ Some f → b ≡ Some g → P f g) → IfSome a (λ f. IfSome b (λ g. P f g))
by_told None b P all = tt
by_told (Some f) None P all = tt
by_told (Some f) (Some g) P all = all f g refl refl

where_both : (a b : Option (List ℕ)) (P : List ℕ → List ℕ → Type 0) (f g : List ℕ) → a ≡ Some f → b ≡ Some g → IfSome a (λ x. IfSome b (λ y. P x y)) → P f g
where_both a b P f g x y has = subst (λ (o : Option (List ℕ)). IfSome o (λ d. P f d)) y (subst (λ (o : Option (List ℕ)). IfSome o (λ c. IfSome b (λ d. P c d))) x has)

pub creating : (related : List ℕ → List ℕ → List ℕ → List ℕ → Type 0) (first first_new second second_new : View)
    → ((t : ℕ) (c : List ℕ) → t ≤ first_new.moment → first_new.image c → first_new.since t c)
    → WhereTold first second (λ f g. LeavesOnly second second_new (λ d. related f g f d))
    → WhereTold first second (λ f g. LeavesOnly first first_new (λ c. (d : List ℕ) → second_new.image d → related f g c d))
    → WhereTold first second (λ f g. KeepTo (related f g) f first first_new second second_new)
creating related first first_new second second_new now second_moves first_moves =
    by_told first.told second.told (λ f g. KeepTo (related f g) f first first_new second second_new)
    (λ f g told1 told2.
    let a = where_both first.told second.told (λ x y. LeavesOnly second second_new (λ d. related x y x d)) f g told1 told2 second_moves in
    let b = where_both first.told second.told (λ x y. LeavesOnly first first_new (λ c. (d : List ℕ) → second_new.image d → related x y c d)) f g told1 told2 first_moves in
    record { second_moves = a; first_moves = b; after = λ c d x y. b.each c (now first.moment c b.later x) d y })
