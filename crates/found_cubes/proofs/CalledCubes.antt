-- The cube at a place of a list of cubes named apart is the one of its name.
use Rattle.std.proofs.Common.{◌≡◌, ◌∙◌, ℕ, zero, suc, ◌+◌, Bool, true, false, cond, List, [], ◌∷◌, Option, Some, IsSome, slice_get, refl, sym, ap, subst, arith}
use Rattle.std.specs.List.{position_from}
use Rattle.std.specs.Str.{bytes_eq}
use Rattle.std.proofs.lemmas.Option.{none-some, same_Some}
use Rattle.cube_language.specs.declared.decl.Decl.{Decl}
use Rattle.cube_run.specs.RunRecords.{cube_called}
use Rattle.one_session.proofs.Coded.{other_name, same_name}
use Rattle.one_session.specs.Changes.{AreNamedApart}

-- Only one place has the name.
abbrev IsAlone : List Decl → ℕ → Decl → Type 0
IsAlone cubes cube d = (a : ℕ) (e : Decl) → slice_get cubes a ≡ Some e → e.name ≡ d.name → a ≡ cube

first-is : (x d : Decl) → Some x ≡ Some d → bytes_eq x.name d.name ≡ true
first-is x d h = ap (λ (y : Decl). bytes_eq y.name d.name) (same_Some x d h) ∙ same_name d.name

first-is-not : (x d : Decl) (cubes : List Decl) (cube : ℕ) → IsAlone (x ∷ cubes) (suc cube) d
    → bytes_eq x.name d.name ≡ false
first-is-not x d cubes cube alone =
    other_name x.name d.name (λ same. let no = alone 0 x refl same in omega (arith, no))

alone-behind : (x d : Decl) (cubes : List Decl) (cube : ℕ) → IsAlone (x ∷ cubes) (suc cube) d → IsAlone cubes cube d
alone-behind x d cubes cube alone = λ a e h same. let is = alone (suc a) e h same in omega (arith, is)

called-so : (cubes : List Decl) (cube : ℕ) (d : Decl) → slice_get cubes cube ≡ Some d → IsAlone cubes cube d
    → cube_called cubes d.name ≡ Some d
called-so [] cube d h alone = absurd (none-some d h)
called-so (x ∷ cubes) zero d h alone =
    ap (λ (b : Bool). cond b (Some x) (cube_called cubes d.name)) (first-is x d h) ∙ h
called-so (x ∷ cubes) (suc cube) d h alone =
    ap (λ (b : Bool). cond b (Some x) (cube_called cubes d.name)) (first-is-not x d cubes cube alone)
    ∙ called-so cubes cube d h (alone-behind x d cubes cube alone)

placed-so : (cubes : List Decl) (cube n : ℕ) (d : Decl) → slice_get cubes cube ≡ Some d → IsAlone cubes cube d
    → position_from (λ e. bytes_eq e.name d.name) n cubes ≡ Some (n + cube)
placed-so [] cube n d h alone = absurd (none-some d h)
placed-so (x ∷ cubes) zero n d h alone =
    let here : n ≡ n + 0 = omega arith in
    ap (λ (b : Bool). cond b (Some n) (position_from (λ e. bytes_eq e.name d.name) (n + 1) cubes)) (first-is x d h)
    ∙ ap (λ (k : ℕ). Some k) here
placed-so (x ∷ cubes) (suc cube) n d h alone =
    let there : n + 1 + cube ≡ n + suc cube = omega arith in
    ap (λ (b : Bool). cond b (Some n) (position_from (λ e. bytes_eq e.name d.name) (n + 1) cubes))
    (first-is-not x d cubes cube alone)
    ∙ placed-so cubes cube (n + 1) d h (alone-behind x d cubes cube alone)
    ∙ ap (λ (k : ℕ). Some k) there

alone-in : (cubes : List Decl) (cube : ℕ) (d : Decl) → AreNamedApart cubes → slice_get cubes cube ≡ Some d
    → IsAlone cubes cube d
alone-in cubes cube d apart is = λ a e h same. apart a cube e d h is same

pub called-by-name : (cubes : List Decl) (cube : ℕ) (d : Decl) → AreNamedApart cubes → slice_get cubes cube ≡ Some d
    → cube_called cubes d.name ≡ Some d
called-by-name cubes cube d apart is = called-so cubes cube d is (alone-in cubes cube d apart is)

pub placed-by-name : (cubes : List Decl) (cube : ℕ) (d : Decl) → AreNamedApart cubes → slice_get cubes cube ≡ Some d
    → position_from (λ e. bytes_eq e.name d.name) 0 cubes ≡ Some cube
placed-by-name cubes cube d apart is =
    let here : 0 + cube ≡ cube = omega arith in
    placed-so cubes cube 0 d is (alone-in cubes cube d apart is) ∙ ap (λ (k : ℕ). Some k) here

-- Some cube has the name of one that is there.
pub has-called : (cubes : List Decl) (cube : ℕ) (d : Decl) → slice_get cubes cube ≡ Some d
    → IsSome (cube_called cubes d.name)
has-called [] cube d h = absurd (none-some d h)
has-called (x ∷ cubes) zero d h =
    subst (λ (b : Bool). IsSome (cond b (Some x) (cube_called cubes d.name))) (sym (first-is x d h)) refl
has-called (x ∷ cubes) (suc cube) d h = at (bytes_eq x.name d.name) (has-called cubes cube d h)
  where
    at : (b : Bool) → IsSome (cube_called cubes d.name) → IsSome (cond b (Some x) (cube_called cubes d.name))
    at true rest = refl
    at false rest = rest
