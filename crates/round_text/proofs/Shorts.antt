-- A round that may stand somewhere has short names for each dimension of each cube.
use Rattle.std.proofs.Common.{◌≡◌, ℕ, suc, ◌^◌, ◌<◌, true, false, List, [], ◌∷◌, ◌++◌, length, map, All, refl, sym, ap, subst, arith}
use Rattle.std.specs.Prelude.{MatchBool}
use Rattle.std.specs.List.{zip, AllZip, AllByRecursion}
use Rattle.std.proofs.lemmas.List.{length-map}
use Rattle.std.proofs.lemmas.List.Elements.{All-from_recursion}
use Rattle.cube_language.specs.declared.decl.DimDecl.{DimDecl}
use Rattle.cube_language.specs.declared.decl.Decl.{Decl}
use Rattle.cube_rounds.specs.declared.round.RoundCube.{RoundCube}
use Rattle.cube_rounds.specs.declared.round.Round.{Round}
use Rattle.cube_rounds.specs.Demands.{DimNames, AreNewNames, FitNames, FitsRoundCube, no_names, HaveDims, FitsRound}
use Rattle.round_text.specs.Writing.{HasNames}

abbrev IsShort : List ℕ → Type 0
IsShort name = length name < 2 ^ 8

dim_short : (d : DimDecl × List (List ℕ)) (names : List (List ℕ)) → FitNames d names → AllByRecursion IsShort names
dim_short d names fit =
    elim d.0.text as (λ b. MatchBool b (AreNewNames d.0.cardinality d.1 names) (names ≡ []) → AllByRecursion IsShort names) [
      | true ↦ λ new. new.short
      | false ↦ λ none. subst (AllByRecursion IsShort) (sym none) tt
    ] fit

dims_short : (dims : List DimDecl) (earlier lists : DimNames) → length earlier ≡ length dims → AllZip FitNames (zip dims earlier) lists
    → (length lists ≡ length dims) × AllByRecursion (λ names. All IsShort names) lists
dims_short [] [] [] same fit = (refl, tt)
dims_short [] [] (names ∷ lists) same fit = absurd fit
dims_short [] (first ∷ earlier) lists same fit = absurd (omega arith)
dims_short (dim ∷ dims) [] lists same fit = absurd (omega arith)
dims_short (dim ∷ dims) (first ∷ earlier) [] same fit = absurd fit
dims_short (dim ∷ dims) (first ∷ earlier) (names ∷ lists) same fit =
    let rest = dims_short dims earlier lists (omega arith) fit.1 in
    (ap suc rest.0, (All-from_recursion IsShort names (dim_short (dim, first) names fit.0), rest.1))

pub has_names : (from epoch : ℕ) (cube : Decl) (earlier : DimNames) (part : RoundCube) → length earlier ≡ length cube.dims → FitsRoundCube from epoch cube earlier part → HasNames cube part
has_names from epoch cube earlier part same fits =
    let both = dims_short cube.dims earlier part.names same fits.names in
    record { dims = both.0; short = All-from_recursion (λ names. All IsShort names) part.names both.1 }

have_names : (from epoch : ℕ) (cubes : List Decl) (names : List DimNames) (parts : List RoundCube) → HaveDims cubes names
    → AllZip (λ c part. FitsRoundCube from epoch c.0 c.1 part) (zip cubes names) parts → AllZip HasNames cubes parts
have_names from epoch [] [] [] dims fit = tt
have_names from epoch [] [] (part ∷ parts) dims fit = absurd fit
have_names from epoch [] (lists ∷ names) parts dims fit = absurd dims
have_names from epoch (cube ∷ cubes) [] parts dims fit = absurd dims
have_names from epoch (cube ∷ cubes) (lists ∷ names) [] dims fit = absurd fit
have_names from epoch (cube ∷ cubes) (lists ∷ names) (part ∷ parts) dims fit =
    (has_names from epoch cube lists part dims.0 fit.0, have_names from epoch cubes names parts dims.1 fit.1)

new_dims : (made : List Decl) → HaveDims made (map no_names made)
new_dims [] = tt
new_dims (cube ∷ cubes) = (length-map cube.dims (λ dim. []), new_dims cubes)

dims_append : (cubes made : List Decl) (names more : List DimNames) → HaveDims cubes names → HaveDims made more → HaveDims (cubes ++ made) (names ++ more)
dims_append [] made [] more a b = b
dims_append [] made (lists ∷ names) more a b = absurd a
dims_append (cube ∷ cubes) made [] more a b = absurd a
dims_append (cube ∷ cubes) made (lists ∷ names) more a b = (a.0, dims_append cubes made names more a.1 b)

-- The names of each cube of a round that fits.
pub round_names : (before : List Decl) (names : List DimNames) (round : Round) → FitsRound before names round → AllZip HasNames (before ++ round.made) round.cubes
round_names before names round fits =
    have_names round.from round.epoch (before ++ round.made) (names ++ map no_names round.made) round.cubes
    (dims_append before round.made names (map no_names round.made) fits.dims (new_dims round.made)) fits.cubes
