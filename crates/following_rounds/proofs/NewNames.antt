-- Names of which none stands twice: those behind the first ones are new.
use Rattle.std.proofs.Common.{◌≡◌, ℕ, Bool, true, false, ◌||◌, List, [], ◌∷◌, ◌++◌, Some, None, if◌then◌else◌, refl, sym, ◌∙◌}
use Rattle.std.specs.List.{list_any}
use Rattle.std.specs.Str.{bytes_eq}
use Rattle.std.proofs.lemmas.Bool.{both_ways}
use Rattle.std.proofs.lemmas.Option.{none-some}
use Rattle.cube_language.specs.Cubes.{first_repeated, repeated_after}

-- Where none repeats, the first name is none of those before, and none repeats behind it.
record IsNewFirst (before names : List (List ℕ)) (name : List ℕ) : Type 0 where
  pub new : list_any (bytes_eq name) before ≡ false
  pub rest : repeated_after (name ∷ before) names ≡ None

first-is-new : (before names : List (List ℕ)) (name : List ℕ) → repeated_after before (name ∷ names) ≡ None
    → IsNewFirst before names name
first-is-new before names name h = at (list_any (bytes_eq name) before) refl h
  where
    at : (b : Bool) → list_any (bytes_eq name) before ≡ b
        → (if b then Some name else repeated_after (name ∷ before) names) ≡ None → IsNewFirst before names name
    at true is h = absurd (none-some name (sym h))
    at false is h = record { new = is; rest = h }

or-parts : (a b : Bool) → (a || b) ≡ false → (a ≡ false) × (b ≡ false)
or-parts true b h = absurd (both_ways true h refl)
or-parts false b h = (refl, h)

-- Some names have all others.
abbrev HaveAll : List (List ℕ) → List (List ℕ) → Type 0
HaveAll more less = (name : List ℕ) → list_any (bytes_eq name) more ≡ false → list_any (bytes_eq name) less ≡ false

-- Behind fewer names none repeats either.
fewer-before : (more less names : List (List ℕ)) → HaveAll more less → repeated_after more names ≡ None
    → repeated_after less names ≡ None
fewer-before more less [] have h = refl
fewer-before more less (name ∷ names) have h =
    let first = first-is-new more names name h in
    (λ i. if have name first.new i then Some name else repeated_after (name ∷ less) names)
    ∙ fewer-before (name ∷ more) (name ∷ less) names
    (λ other no.
    let apart = or-parts (bytes_eq other name) (list_any (bytes_eq other) more) no in
    λ i. apart.0 i || have other apart.1 i)
    first.rest

behind-some : (before xs ys less : List (List ℕ))
    → ((name : List ℕ) → list_any (bytes_eq name) before ≡ false → list_any (bytes_eq name) xs ≡ false
    → list_any (bytes_eq name) less ≡ false)
    → repeated_after before (xs ++ ys) ≡ None → repeated_after less ys ≡ None
behind-some before [] ys less have h = fewer-before before less ys (λ name no. have name no refl) h
behind-some before (x ∷ xs) ys less have h =
    behind-some (x ∷ before) xs ys less
    (λ name no none.
    let apart = or-parts (bytes_eq name x) (list_any (bytes_eq name) before) no in
    have name apart.1 (λ i. apart.0 i || none i))
    (first-is-new before (xs ++ ys) x h).rest

pub new-behind : (xs ys : List (List ℕ)) → first_repeated (xs ++ ys) ≡ None → repeated_after xs ys ≡ None
new-behind xs ys h = behind-some [] xs ys xs (λ name no none. none) h

pub apart-behind : (xs ys : List (List ℕ)) → first_repeated (xs ++ ys) ≡ None → first_repeated ys ≡ None
apart-behind xs ys h = behind-some [] xs ys [] (λ name no none. refl) h
