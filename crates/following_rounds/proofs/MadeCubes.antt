-- Cubes that the desk has behind others may be made behind them.
use Rattle.std.proofs.Common.{◌≡◌, ◌∙◌, ◌≤◌, List, [], ◌∷◌, ◌++◌, length, drop, Option, Some, None, All, refl, sym, ap, arith, append_assoc, append-nil, length-append}
use mathlib.Core.List.{IsPrefix}
use Rattle.std.specs.List.{AllByRecursion}
use Rattle.std.proofs.Math.Seq.{drop-append_seam}
use Rattle.std.proofs.lemmas.List.{map-append}
use Rattle.std.proofs.lemmas.List.Elements.{All-append, All-from_recursion, recursion_from_All}
use Rattle.cube_language.specs.Cubes.{IsStorable, first_repeated}
use Rattle.cube_language.specs.CubesText.{cubes_limit}
use Rattle.cube_language.specs.declared.decl.Decl.{Decl}
use Rattle.cube_rounds.specs.Demands.{MayBeMade}
use Rattle.aosi_desk.specs.Desks.{decl_names}
use Rattle.core_events.specs.Cells.{desk_of}
use Rattle.core_events.specs.Events.{Opening, CoreEvent, By, At}
use Rattle.core_events.specs.Fitting.{CanBeMade}
use Rattle.core_events.specs.Runs.{IsCoreRun}
use Rattle.core_records.proofs.CubesOnRecord.{cube_made, cubes_with, desk-cubes, names-apart}
use Rattle.known_cubes.proofs.CubesMade.{cubes-made, few-cubes}
use Rattle.following_rounds.proofs.DeclaredCubes.{AreProperCubes, declared-by-text}
use Rattle.following_rounds.proofs.NewNames.{apart-behind, new-behind}

behind : (P : Decl → Type 0) (xs ys : List Decl) → AllByRecursion P (xs ++ ys) → AllByRecursion P ys
behind P [] ys all = all
behind P (x ∷ xs) ys all = behind P xs ys all.1

are-proper : (cubes : List Decl) → AllByRecursion CanBeMade cubes → AreProperCubes cubes
are-proper [] can = tt
are-proper (d ∷ cubes) can = (can.0.proper, are-proper cubes can.1)

are-storable : (cubes : List Decl) → AllByRecursion CanBeMade cubes → AllByRecursion IsStorable cubes
are-storable [] can = tt
are-storable (d ∷ cubes) can = (can.0.storable, are-storable cubes can.1)

-- The desk's cubes are the first ones with more behind them.

one-more : (made : Option Decl) (xs : List Decl) → (more : List Decl) × (cubes_with made xs ≡ xs ++ more)
one-more None xs = ([], sym (append-nil xs))
one-more (Some d) xs = (d ∷ [], refl)

pub cubes-grow : (o : Opening) (later es : List CoreEvent)
    → (more : List Decl) × ((desk_of o (later ++ es)).cubes ≡ (desk_of o es).cubes ++ more)
cubes-grow o [] es = ([], sym (append-nil (desk_of o es).cubes))
cubes-grow o (By b call ∷ later) es =
    let before = cubes-grow o later es in
    let step = one-more (cube_made call) (desk_of o (later ++ es)).cubes in (
      before.0 ++ step.0,
      desk-cubes b call (desk_of o (later ++ es)) ∙ step.1 ∙ ap (λ (xs : List Decl). xs ++ step.0) before.1
          ∙ append_assoc (desk_of o es).cubes before.0 step.0,
    )
cubes-grow o (At mail move ∷ later) es = cubes-grow o later es

pub cubes-behind : (o : Opening) (es since : List CoreEvent) (cubes made : List Decl)
    → IsPrefix cubes (desk_of o es).cubes → made ≡ drop (length cubes) (desk_of o (since ++ es)).cubes
    → (desk_of o (since ++ es)).cubes ≡ cubes ++ made
cubes-behind o es since cubes made first are =
    let grows = cubes-grow o since es in
    let now : (desk_of o (since ++ es)).cubes ≡ cubes ++ (first.0 ++ grows.0) =
    grows.1 ∙ ap (λ (xs : List Decl). xs ++ grows.0) (sym first.1) ∙ append_assoc cubes first.0 grows.0
    in
    let behind : made ≡ first.0 ++ grows.0 =
    are ∙ ap (drop (length cubes)) now ∙ drop-append_seam cubes (first.0 ++ grows.0)
    in
    now ∙ ap (λ (xs : List Decl). cubes ++ xs) (sym behind)

-- They can be made.

can-be-made : (o : Opening) (es : List CoreEvent) → IsCoreRun o es → All CanBeMade o.cubes
    → All CanBeMade (desk_of o es).cubes
can-be-made o es run first =
    let after = cubes-made o es run in
    coe 1 0 (i. All CanBeMade (after.are i)) (All-append CanBeMade o.cubes after.made first after.each)

pub may-be-made : (o : Opening) (es : List CoreEvent) (cubes made : List Decl) → IsCoreRun o es → All CanBeMade o.cubes
    → first_repeated (decl_names o.cubes) ≡ None → (desk_of o es).cubes ≡ cubes ++ made → MayBeMade cubes made
may-be-made o es cubes made run first named are =
    let all = coe 0 1 (i. All CanBeMade (are i)) (can-be-made o es run first) in
    let can = behind CanBeMade cubes made (recursion_from_All CanBeMade (cubes ++ made) all) in
    let apart : first_repeated (decl_names cubes ++ decl_names made) ≡ None =
    ap first_repeated (sym (map-append (λ (d : Decl). d.name) cubes made) ∙ ap decl_names (sym are))
    ∙ names-apart o es run named
    in
    let few : length (cubes ++ made) ≤ cubes_limit =
    coe 0 1 (i. length (are i) ≤ cubes_limit) (few-cubes o es run)
    in
    let long = length-append cubes made in
    let few_made : length made ≤ cubes_limit = omega (arith, few, long) in
    record {
      declared =
          declared-by-text made (are-proper made can)
          (All-from_recursion IsStorable made (are-storable made can))
          (apart-behind (decl_names cubes) (decl_names made) apart) few_made;
      apart = new-behind (decl_names cubes) (decl_names made) apart;
      most = few;
    }
