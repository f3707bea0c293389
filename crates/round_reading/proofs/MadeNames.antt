-- The names of new cubes, as a loop over them compares them with those before.
use Rattle.std.proofs.Common.{◌≡◌, ℕ, suc, ◌+◌, ◌<◌, Bool, true, false, ◌||◌, List, [], ◌∷◌, ◌++◌, length, take, drop, get_or, Some, None, inl, inr, refl, sym, ap, ◌∙◌}
use Rattle.std.specs.Prelude.{is_none}
use Rattle.std.specs.List.{list_any}
use Rattle.std.specs.Str.{bytes_eq}
use Rattle.std.proofs.Math.Seq.{split_at}
use Rattle.std.proofs.lemmas.Bool.{cases_Bool}
use Rattle.std.proofs.lemmas.List.{take_more, map-append}
use Rattle.std.proofs.lemmas.List.Folds.{list_any-append}
use Rattle.cube_language.specs.declared.decl.Decl.{Decl}
use Rattle.cube_language.specs.Cubes.{repeated_after}
use Rattle.cube_rounds.specs.Demands.{cube_names_of}

or_moved : (a b c : Bool) → (a || (b || c)) ≡ ((b || a) || c)
or_moved true true c = refl
or_moved true false c = refl
or_moved false true c = refl
or_moved false false c = refl

-- Behind names that each stand once, a further name stands before already or not.
after_one : (before names : List (List ℕ)) (name : List ℕ) (more : List (List ℕ)) → repeated_after before names ≡ None
    → (list_any (bytes_eq name) names || list_any (bytes_eq name) before) ≡ true → repeated_after before (names ++ name ∷ more) ≡ Some name
after_one before [] name more apart again = rw again refl
after_one before (first ∷ names) name more apart again =
    elim (cases_Bool (list_any (bytes_eq first) before)) [
      | inl there ↦ let no = rw there at apart in absurd cc
      | inr new ↦ rw new (after_one (first ∷ before) names name more (rw new at apart) (or_moved (list_any (bytes_eq name) names) (bytes_eq name first) (list_any (bytes_eq name) before) ∙ again))
    ]

after_new : (before names : List (List ℕ)) (name : List ℕ) → repeated_after before names ≡ None
    → (list_any (bytes_eq name) names || list_any (bytes_eq name) before) ≡ false → repeated_after before (names ++ name ∷ []) ≡ None
after_new before [] name apart new = rw new refl
after_new before (first ∷ names) name apart new =
    elim (cases_Bool (list_any (bytes_eq first) before)) [
      | inl there ↦ let no = rw there at apart in absurd cc
      | inr once ↦ rw once (after_new (first ∷ before) names name (rw once at apart) (or_moved (list_any (bytes_eq name) names) (bytes_eq name first) (list_any (bytes_eq name) before) ∙ new))
    ]

names_more : (made : List Decl) (i : ℕ) (d : Decl) → i < length made → cube_names_of (take (i + 1) made) ≡ cube_names_of (take i made) ++ (get_or made i d).name ∷ []
names_more made i d lt = ap cube_names_of (take_more made i d lt) ∙ map-append (λ (cube : Decl). cube.name) (take i made) (get_or made i d ∷ [])

-- The next cube has a name of its own.
pub next_apart : (before made : List Decl) (i : ℕ) (cube : Decl) → i < length made → cube ≡ get_or made i cube
    → (list_any (bytes_eq cube.name) (cube_names_of (take i made)) || list_any (bytes_eq cube.name) (cube_names_of before)) ≡ false
    → repeated_after (cube_names_of before) (cube_names_of (take i made)) ≡ None → repeated_after (cube_names_of before) (cube_names_of (take (i + 1) made)) ≡ None
next_apart before made i cube lt is new so_far =
    let one : cube_names_of (take (i + 1) made) ≡ cube_names_of (take i made) ++ cube.name ∷ [] =
    names_more made i cube lt ∙ ap (λ (c : Decl). cube_names_of (take i made) ++ c.name ∷ []) (sym is) in
    ap (repeated_after (cube_names_of before)) one ∙ after_new (cube_names_of before) (cube_names_of (take i made)) cube.name so_far new

or_false : (a b : Bool) → a ≡ false → b ≡ false → (a || (b || false)) ≡ false
or_false a b p q = rw (p, q) refl

or_true : (a b c : Bool) → b ≡ true → (a || (b || c)) ≡ true
or_true true b c p = refl
or_true false b c p = rw p refl

-- No cube so far has the name.
pub none_more : (cubes : List Decl) (i : ℕ) (cube : Decl) (name : List ℕ) → i < length cubes → cube ≡ get_or cubes i cube → bytes_eq name cube.name ≡ false
    → list_any (bytes_eq name) (cube_names_of (take i cubes)) ≡ false → list_any (bytes_eq name) (cube_names_of (take (i + 1) cubes)) ≡ false
none_more cubes i cube name lt is other so_far =
    ap (list_any (bytes_eq name)) (names_more cubes i cube lt ∙ ap (λ (c : Decl). cube_names_of (take i cubes) ++ c.name ∷ []) (sym is))
    ∙ list_any-append (bytes_eq name) (cube_names_of (take i cubes)) (cube.name ∷ [])
    ∙ or_false _ _ so_far other

-- A cube has the name.
pub some_named : (cubes : List Decl) (i : ℕ) (cube : Decl) (name : List ℕ) → i < length cubes → cube ≡ get_or cubes i cube → bytes_eq name cube.name ≡ true
    → true ≡ list_any (bytes_eq name) (cube_names_of cubes)
some_named cubes i cube name lt is same =
    let whole : cubes ≡ take i cubes ++ cube ∷ drop (suc i) cubes = split_at cubes i cube lt ∙ ap (λ (c : Decl). take i cubes ++ c ∷ drop (suc i) cubes) (sym is) in
    sym (ap (λ (cs : List Decl). list_any (bytes_eq name) (cube_names_of cs)) whole
    ∙ ap (list_any (bytes_eq name)) (map-append (λ (cube : Decl). cube.name) (take i cubes) (cube ∷ drop (suc i) cubes))
    ∙ list_any-append (bytes_eq name) (cube_names_of (take i cubes)) (cube.name ∷ cube_names_of (drop (suc i) cubes))
    ∙ or_true (list_any (bytes_eq name) (cube_names_of (take i cubes))) (bytes_eq name cube.name) (list_any (bytes_eq name) (cube_names_of (drop (suc i) cubes))) same)

-- The next cube has a name that stands before already.
pub next_repeats : (before made : List Decl) (i : ℕ) (cube : Decl) → i < length made → cube ≡ get_or made i cube
    → (list_any (bytes_eq cube.name) (cube_names_of (take i made)) || list_any (bytes_eq cube.name) (cube_names_of before)) ≡ true
    → repeated_after (cube_names_of before) (cube_names_of (take i made)) ≡ None → is_none (repeated_after (cube_names_of before) (cube_names_of made)) ≡ false
next_repeats before made i cube lt is there so_far =
    let whole : made ≡ take i made ++ cube ∷ drop (suc i) made = split_at made i cube lt ∙ ap (λ (c : Decl). take i made ++ c ∷ drop (suc i) made) (sym is) in
    let names : cube_names_of made ≡ cube_names_of (take i made) ++ cube.name ∷ cube_names_of (drop (suc i) made) =
    ap cube_names_of whole ∙ map-append (λ (cube : Decl). cube.name) (take i made) (cube ∷ drop (suc i) made) in
    ap (λ (n : List (List ℕ)). is_none (repeated_after (cube_names_of before) n)) names
    ∙ ap is_none (after_one (cube_names_of before) (cube_names_of (take i made)) cube.name (cube_names_of (drop (suc i) made)) so_far there)
