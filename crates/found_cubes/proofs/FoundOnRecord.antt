-- A cube that a session found is on record of each run that goes on.
use Rattle.std.proofs.Common.{◌≡◌, ◌∙◌, ℕ, ◌<◌, Bool, not, List, [], ◌++◌, take, drop, slice_get, Option, Some, None, IsSome, unwrap_or, refl, sym, ap, subst, append_assoc}
use Rattle.std.specs.List.{filter_map, position_from, prefix_len}
use Rattle.std.specs.Option.{option_and_then}
use Rattle.std.specs.Str.{bytes_eq}
use Rattle.std.proofs.lemmas.List.{take-append-drop}
use Rattle.std.proofs.lemmas.List.Elements.{filter_map-append}
use mathlib.Core.List.{IsPrefix}
use Rattle.aosi_desk.specs.Desks.{IsFound, decl_names}
use Rattle.aosi_desk.specs.declared.cube.CubeFound.TheVariants.{Found}
use Rattle.condition_spans.specs.Codes.{lists_at}
use Rattle.core_cubes.specs.StandingCubes.{StandsBefore}
use Rattle.core_events.specs.Events.{Opening, CoreEvent}
use Rattle.core_events.specs.Jobs.{CoreJob, JobOutcome}
use Rattle.core_events.specs.ShardView.{ShardView}
use Rattle.core_states.specs.CorePasts.{CorePast, last_number}
use Rattle.core_program.proofs.KnownCalls.{earlier-run}
use Rattle.core_program.specs.CoreFits.{CoreEntry}
use Rattle.core_program.specs.Knowing.{IsLaterRun}
use Rattle.core_records.proofs.NamedApart.{record-apart}
use Rattle.core_records.specs.CoreRecords.{RunScripts, record_of}
use Rattle.core_records.specs.ScriptedCalls.{FollowScripts}
use Rattle.core_states.specs.StandingInCore.{StandsInCore}
use Rattle.cube_core.specs.declared.cell.CoreCell.{CoreCell}
use Rattle.cube_core.specs.declared.shard.ShardAnswer.{ShardAnswer}
use Rattle.cube_core.specs.declared.shard.ShardCall.{ShardCall}
use Rattle.cube_journal.specs.declared.journal_entry.JournalEntry.{JournalEntry}
use Rattle.cube_language.specs.Cubes.{first_repeated}
use Rattle.cube_language.specs.declared.decl.Decl.{Decl}
use Rattle.cube_language.specs.declared.statement.Statement.{Statement}
use Rattle.cube_run.specs.RunRecords.{RunRecord, catalog_of, cube_called, cube_needed, cubes_at, made_by}
use Rattle.cube_run.specs.SessionSteps.{SessionStep, is_from, journal_before}
use Rattle.found_cubes.proofs.CalledCubes.{called-by-name, has-called, placed-by-name}
use Rattle.found_cubes.specs.CubesOnRecord.{HasCubeAt}
use Rattle.one_session.proofs.CubesBehind.{some_front}
use Rattle.one_session.specs.Changes.{AreNamedApart}

-- A cube that is there before a step is there in the end.
stays-there : (run : RunRecord) (session number place : ℕ) (d : Decl)
    → slice_get (cubes_at run (journal_before session number run.journal)) place ≡ Some d
    → slice_get (catalog_of run).cubes place ≡ Some d
stays-there run session number place d is =
    let p : JournalEntry → Bool = λ e. not (is_from session number e) in
    let n : ℕ = prefix_len p run.journal in
    let more : List Decl = filter_map (made_by run) (drop n run.journal) in
    let whole : cubes_at run (take n run.journal) ++ more ≡ cubes_at run run.journal =
    append_assoc run.cubes (filter_map (made_by run) (take n run.journal)) more
    ∙ ap (λ (made : List Decl). run.cubes ++ made)
    (sym (filter_map-append (made_by run) (take n run.journal) (drop n run.journal)))
    ∙ ap (cubes_at run) (take-append-drop n run.journal)
    in
    ap (λ (cubes : List Decl). slice_get cubes place) (sym whole)
    ∙ some_front (cubes_at run (take n run.journal)) more place d is

-- Found before its step, in a record whose cubes are named apart.
on-record : (run : RunRecord) (step : SessionStep) (s : Statement) (name : List ℕ) (place : ℕ) (d : Decl)
    → IsFound (cubes_at run (journal_before step.session step.number run.journal)) name (Found place d)
    → AreNamedApart (catalog_of run).cubes → cube_needed s ≡ Some name → HasCubeAt run step s place d
on-record run step s name place d found apart needs =
    let cubes : List Decl = (catalog_of run).cubes in
    let there : slice_get cubes place ≡ Some d = stays-there run step.session step.number place d found.0 in
    record {
      on = record {
        needed = needs ∙ ap (λ (n : List ℕ). Some n) (sym found.1);
        stands = has-called (cubes_at run (journal_before step.session step.number run.journal)) place d found.0;
        declared =
            ap (λ (o : Option Decl). unwrap_or o (record { name = d.name; dims = []; metrics = [] }))
            (called-by-name cubes place d apart there);
      };
      place_is = there;
      names =
          ap (λ (o : Option ℕ). unwrap_or (option_and_then (slice_get run.names) o) [])
          (placed-by-name cubes place d apart there);
    }

module _ {S : Type 0} (fits : Opening → ℕ → ShardCall → Type 0) (stands : Opening → ℕ → ℕ → S → ShardView → Type 0)
    (says : CoreJob → ShardAnswer → JobOutcome → Type 0) (cells : List (CoreCell S)) (caller session number : ℕ)
    (own mid now : List CoreEntry) where
  pub found-on-record : (name : List ℕ) (place : ℕ) (d : Decl) (past : CorePast) (o : Opening) (given : RunScripts)
      (log : List CoreEntry) (events : List CoreEvent) (step : SessionStep) (s : Statement)
      → StandsBefore fits stands says cells caller session number own mid name place d → IsPrefix mid now
      → StandsInCore fits stands says cells caller session own past → last_number past < number
      → IsLaterRun fits stands says cells o caller now log events → FollowScripts o given events
      → first_repeated (decl_names o.cubes) ≡ None → step.session ≡ session → step.number ≡ number
      → cube_needed s ≡ Some name → HasCubeAt (record_of o given events) step s place d
  found-on-record name place d past o given log events step s before more st below later follow apart session_is
      number_is needs =
      let run : RunRecord = record_of o given events in
      let earlier : IsLaterRun fits stands says cells o caller mid log events =
      earlier-run fits stands says cells o caller mid more.0 log events
      (subst (λ (l : List CoreEntry). IsLaterRun fits stands says cells o caller l log events) (sym more.1) later)
      in
      on-record run step s name place d
      (coe 1 0 (i. IsFound (cubes_at run (journal_before (session_is i) (number_is i) run.journal)) name (Found place d))
      (before past st below o given log events earlier follow))
      (record-apart o given events later.is_run follow apart) needs
