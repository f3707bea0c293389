-- Two images of disks of which one stayed as it was and the other was written.
use Rattle.std.proofs.Common.{◌≡◌, ℕ, ◌≤◌, Bool, true, false, List, Option, Some, None, IfSome, refl, sym, subst}
use Rattle.cube_rounds.specs.Stands.{Kept}
use Rattle.cube_rounds.specs.declared.round.Round.{Round}
use Rattle.outside_disk.specs.Views.{View, LeavesOnly}
use Rattle.round_store.specs.States.{StandForEither, WhereTold, goes_second, kept_after}
use Rattle.stored_rounds.specs.RoundsInStore.{AddsTo}
use Rattle.stored_rounds.specs.declared.stored.StoredRounds.{StoredRounds}

module _ (Either : List ℕ → List ℕ → Type 0) (still v n : View) (now : (d : List ℕ) → v.moment ≤ n.moment → n.image d → n.since v.moment d) where
  second-written : (t1 t2 : Option (List ℕ)) → IfSome t1 (λ f. (c : List ℕ) → still.image c → c ≡ f)
      → IfSome t1 (λ f. IfSome t2 (λ g. LeavesOnly v n (λ d. Either f d)))
      → IfSome t1 (λ f. IfSome t2 (λ g. (c d : List ℕ) → still.image c → n.image d → Either c d))
  second-written (Some f) (Some g) same leaves = λ c d at_c at_d.
      subst (λ (x : List ℕ). Either x d) (sym (same c at_c)) (leaves.each d (now d leaves.later at_d))
  second-written (Some f) None same leaves = tt
  second-written None t2 same leaves = tt

  first-written : (t1 t2 : Option (List ℕ)) → IfSome t2 (λ g. (d : List ℕ) → still.image d → d ≡ g)
      → IfSome t1 (λ f. IfSome t2 (λ g. LeavesOnly v n (λ c. Either c g)))
      → IfSome t1 (λ f. IfSome t2 (λ g. (c d : List ℕ) → n.image c → still.image d → Either c d))
  first-written (Some f) (Some g) same leaves = λ c d at_c at_d.
      subst (λ (x : List ℕ). Either c x) (sym (same d at_d)) (leaves.each c (now c leaves.later at_c))
  first-written (Some f) None same leaves = tt
  first-written None t2 same leaves = tt

module _ {D : Type 0} (view : D → View)
    (now : (disk : D) (t : ℕ) (c : List ℕ) → t ≤ (view disk).moment → (view disk).image c → (view disk).since t c)
    (kept : Kept) (round : Round) (before after : StoredRounds D) (adds : AddsTo view kept round before after) where
  abbrev Either : List ℕ → List ℕ → Type 0
  Either c d = StandForEither kept (kept_after before.store kept round) c d

  abbrev Stand : View → View → Type 0
  Stand first second = WhereTold (view before.first) (view before.second)
      (λ f g. (c d : List ℕ) → first.image c → second.image d → Either c d)

  by-still : (second : Bool) → goes_second before.store ≡ second → Stand (view after.first) (view after.second)
  by-still true is =
      coe 1 0 (i. Stand (view (adds.first_still is i)) (view after.second))
      (second-written Either (view before.first) (view before.second) (view after.second)
      (λ d later at. now after.second (view before.second).moment d later at)
      (view before.first).told (view before.second).told adds.at.first_synced adds.either.on_second)
  by-still false is =
      coe 1 0 (i. Stand (view after.first) (view (adds.second_still is i)))
      (first-written Either (view before.second) (view before.first) (view after.first)
      (λ c later at. now after.first (view before.first).moment c later at)
      (view before.first).told (view before.second).told adds.at.second_synced adds.either.on_first)

  pub images-of-either : Stand (view after.first) (view after.second)
  images-of-either = by-still (goes_second before.store) refl
