-- What the cube of a statement settles.
use Rattle.std.proofs.Common.{◌≡◌, ◌∙◌, ℕ, Bool, not, List, [], ◌++◌, take, drop, filter_map, Option, Some, None, IsSome, unwrap_or, ap, sym, subst}
use Rattle.std.specs.List.{prefix_len}
use Rattle.std.specs.Option.{option_and_then, option_or}
use Rattle.std.specs.Str.{bytes_eq}
use Rattle.std.proofs.lemmas.Bool.{false≢true}
use Rattle.std.proofs.lemmas.List.{append_assoc, take-append-drop}
use Rattle.std.proofs.lemmas.List.Elements.{filter_map-append}
use Rattle.std.proofs.lemmas.List.Folds.{find-append}
use Rattle.cube_language.specs.Misfits.{FitsCube, HasMisfit}
use Rattle.cube_language.specs.declared.decl.Decl.{Decl}
use Rattle.cube_language.specs.declared.misfit.Misfit.{Misfit}
use Rattle.cube_language.specs.declared.statement.Statement.{Statement}
use Rattle.cube_journal.specs.declared.journal_entry.JournalEntry.{JournalEntry}
use Rattle.cube_run.specs.Merge.{HasCube}
use Rattle.cube_run.specs.RunRecords.{RunRecord, Says, catalog_of, cube_called, cube_needed, cubes_at, declaration_of, made_by}
use Rattle.cube_run.specs.SessionSteps.{SessionStep, is_from}
use Rattle.cube_run.specs.StepOutcomes.{IsMisfitOf, IsMisfitOn}
use Rattle.session_replies.specs.RowSteps.{IsOnCube}

some_or : (a b : Option Decl) → IsSome a → IsSome (option_or a b)
some_or None b h = absurd (false≢true h)
some_or (Some d) b h = h

is_value : (o : Option Decl) (other d : Decl) → IsSome o → unwrap_or o other ≡ d → o ≡ Some d
is_value None other d h is = absurd (false≢true h)
is_value (Some e) other d h is = ap (λ (x : Decl). Some x) is

-- A cube that stands before a step stands in the end.
stays : (run : RunRecord) (n : ℕ) (name : List ℕ) → IsSome (cube_called (cubes_at run (take n run.journal)) name)
    → IsSome (cube_called (cubes_at run run.journal) name)
stays run n name h =
    let more : List Decl = filter_map (made_by run) (drop n run.journal) in
    let whole : cubes_at run (take n run.journal) ++ more ≡ cubes_at run run.journal =
    append_assoc run.cubes (filter_map (made_by run) (take n run.journal)) more
    ∙ ap (λ (made : List Decl). run.cubes ++ made)
    (sym (filter_map-append (made_by run) (take n run.journal) (drop n run.journal)))
    ∙ ap (cubes_at run) (take-append-drop n run.journal)
    in
    let found =
    sym (find-append (λ (d : Decl). bytes_eq d.name name) (cubes_at run (take n run.journal)) more)
    ∙ ap (λ (cubes : List Decl). cube_called cubes name) whole
    in
    subst (λ (o : Option Decl). IsSome o) found
    (some_or (cube_called (cubes_at run (take n run.journal)) name) (cube_called more name) h)

-- The cube of a statement is the one of its name in the end.
pub cube_is : (run : RunRecord) (step : SessionStep) (s : Statement) (d : Decl) → IsOnCube run step s d
    → option_and_then (cube_called (catalog_of run).cubes) (cube_needed s) ≡ Some d
cube_is run step s d on =
    let p : JournalEntry → Bool = λ e. not (is_from step.session step.number e) in
    ap (option_and_then (cube_called (catalog_of run).cubes)) on.needed
    ∙ is_value (cube_called (catalog_of run).cubes d.name) (record { name = d.name; dims = []; metrics = [] }) d
    (stays run (prefix_len p run.journal) d.name on.stands) on.declared

pub fits : (run : RunRecord) (step : SessionStep) (s : Statement) (d : Decl) → IsOnCube run step s d → FitsCube d s
    → IsMisfitOf (catalog_of run) (Says s) None
fits run step s d on h = subst (λ (o : Option Decl). IsMisfitOn o s None) (sym (cube_is run step s d on)) h

pub fails : (run : RunRecord) (step : SessionStep) (s : Statement) (d : Decl) (misfit : Misfit)
    → IsOnCube run step s d → HasMisfit d s misfit → IsMisfitOf (catalog_of run) (Says s) (Some misfit)
fails run step s d misfit on h =
    subst (λ (o : Option Decl). IsMisfitOn o s (Some misfit)) (sym (cube_is run step s d on)) h

pub stands : (run : RunRecord) (step : SessionStep) (s : Statement) (d : Decl) → IsOnCube run step s d
    → HasCube run step (cube_needed s)
stands run step s d on = subst (λ (name : Option (List ℕ)). HasCube run step name) (sym on.needed) on.stands

-- The declaration of the cube of a statement.
pub declared_so : (run : RunRecord) (step : SessionStep) (s : Statement) (d : Decl) → IsOnCube run step s d
    → declaration_of (catalog_of run) (unwrap_or (cube_needed s) []) ≡ d
declared_so run step s d on =
    ap (λ (o : Option (List ℕ)). declaration_of (catalog_of run) (unwrap_or o [])) on.needed ∙ on.declared
