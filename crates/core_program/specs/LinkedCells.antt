-- The cells of the core are linked to it, and can take each call that fits.
use Rattle.std.proofs.Common.{◌≡◌, ℕ, eqb, Bool, true, false, true≢false, List, [], ◌∷◌, ◌++◌, slice_get, Option, Some, None, refl, sym, ◌∙◌, subst, eqb-true, eq-eqb}
use Rattle.std.proofs.lemmas.Option.{none-some}
use lib.ListN.{get_elem?}
use mathlib.Core.Option.{some, some-injective}
use Rattle.cube_language.specs.declared.decl.Decl.{Decl}
use Rattle.cube_core.specs.CoreSteps.{CanTake, CoreStep}
use Rattle.cube_core.specs.declared.cell.CoreCall.{CoreCall}
use Rattle.cube_core.specs.declared.cell.CoreCell.{CoreCell}
use Rattle.cube_core.specs.declared.shard.ShardAnswer.{ShardAnswer}
use Rattle.cube_core.specs.declared.shard.ShardCall.{ShardCall}
use Rattle.core_events.specs.Events.{Opening, CoreEvent}
use Rattle.core_events.specs.Jobs.{CoreJob, JobOutcome}
use Rattle.core_events.specs.Runs.{IsCoreRun}
use Rattle.core_events.specs.ShardView.{ShardView}
use Rattle.cube_core.specs.Links.{AreEventsOf, IsCallLinked, IsLinked}
use Rattle.cube_core.proofs.LinkedHistories.{run-end}
use Rattle.cube_core.specs.BoardCells.{IsShardLinked, IsEntryEvent, StandsInCell}
use Rattle.cube_core.proofs.EntrySteps as entry
use Rattle.turn_board.proofs.Places.{there as place-there}
use Rattle.turn_board.specs.History.{of_cell, of_caller, LeadsTo, IsHistory, IsSafe}
use Rattle.core_program.specs.CoreFits.{CoreEntry, first_decl, decl_made_by, decl_made_in, decl_at, OpensCells, FitsOwnCalls}

-- A declaration that a history makes is made in each that goes on from it.

first-again : (one two three : Option Decl) (decl : Decl) → (two ≡ Some decl → three ≡ Some decl)
    → first_decl one two ≡ Some decl → first_decl one three ≡ Some decl
first-again (Some d) two three decl later is = is
first-again None two three decl later is = later is

made-again : (place : ℕ) (log later : List CoreEntry) (decl : Decl) → decl_made_in place log ≡ Some decl
    → decl_made_in place (log ++ later) ≡ Some decl
made-again place [] later decl is = absurd (none-some decl is)
made-again place (e ∷ log) later decl is =
    first-again (decl_made_by place e.call e.answer) (decl_made_in place log) (decl_made_in place (log ++ later)) decl
    (made-again place log later decl) is

at-again : (cubes : List Decl) (place : ℕ) (log later : List CoreEntry) (decl : Decl) → decl_at cubes place log ≡ Some decl
    → decl_at cubes place (log ++ later) ≡ Some decl
at-again cubes place log later decl is =
    first-again (slice_get cubes place) (decl_made_in place log) (decl_made_in place (log ++ later)) decl
    (made-again place log later decl) is

module _ {S : Type 0} (can_shard : S → ShardCall → Type 0) (step_shard : S → ShardCall → ShardAnswer → S → Type 0)
    (fits : Opening → ℕ → ShardCall → Type 0) (stands : Opening → ℕ → ℕ → S → ShardView → Type 0)
    (says : CoreJob → ShardAnswer → JobOutcome → Type 0) (link : IsShardLinked can_shard step_shard fits stands says) where
  abbrev Opens : Opening → List (CoreCell S) → List CoreEntry → Type 0
  Opens o cells log = OpensCells fits stands says o cells log

  opens-earlier : (o : Opening) (cells : List (CoreCell S)) (log later : List CoreEntry) → Opens o cells (log ++ later)
      → Opens o cells log
  opens-earlier o cells log later opens = record {
    limits = opens.limits;
    long = opens.long;
    stand = opens.stand;
    shapes = λ place decl is. opens.shapes place decl (at-again o.cubes place log later decl is);
  }

  -- A call that fits is one event of the run.
  linked-call : (o : Opening) (cells : List (CoreCell S)) (log : List CoreEntry) (es : List CoreEvent) (e : CoreEntry) (x y : CoreCell S)
      → Opens o cells (log ++ e ∷ []) → AreEventsOf (IsEntryEvent fits stands says o) log es → IsCoreRun o es
      → FitsOwnCalls fits stands says cells e.caller (of_caller e.caller log) e.cell e.call
      → StandsInCell fits stands says o e.cell x es → CoreStep step_shard x e.call e.answer y
      → IsCallLinked (IsEntryEvent fits stands says o) (StandsInCell fits stands says o) o es e y
  linked-call o cells log es e x y opens are run may stand step =
      entry.steps can_shard step_shard fits stands says link o es e x y run
      (may.in_runs o log es (opens-earlier o cells log (e ∷ []) opens) refl are run) stand step

  -- The cells are linked to the core.
  pub linked-cells : IsLinked (CoreStep step_shard) (FitsOwnCalls fits stands says) Opens
      (λ p. IsEntryEvent fits stands says p) (λ p. StandsInCell fits stands says p)
  linked-cells = record {
    begins = λ o cells log opens. opens.limits;
    earlier = opens-earlier;
    stand = λ o cells log k x opens at. opens.stand k x at;
    there = λ o cells log by k own call opens may. place-there cells k may.there;
    calls = linked-call;
  }

  -- A cell can take each call that fits.

  -- The cell k ends as y, where it is this cell.
  abbrev Ends : ℕ → CoreCell S → ℕ → CoreCell S → Type 0
  Ends k y j z = (j ≡ k) → z ≡ y

  lead : (cells : List (CoreCell S)) (log : List CoreEntry) (k : ℕ) (x y : CoreCell S)
      → IsHistory (CoreStep step_shard) (FitsOwnCalls fits stands says) cells log → get_elem? cells k ≡ some x
      → LeadsTo (CoreStep step_shard) x (of_cell k log) y → (here : Bool) (j : ℕ) (z : CoreCell S) → eqb j k ≡ here
      → get_elem? cells j ≡ some z → (w : CoreCell S) × Ends k y j w × LeadsTo (CoreStep step_shard) z (of_cell j log) w
  lead cells log k x y history at leads true j z is there =
      let same : j ≡ k = eqb-true j k is in
      let first : z ≡ x = some-injective z x (sym there ∙ subst (λ (i : ℕ). get_elem? cells i ≡ some x) (sym same) at) in (
        y,
        (λ _. refl),
        subst (λ (i : ℕ). LeadsTo (CoreStep step_shard) z (of_cell i log) y) (sym same)
            (subst (λ (w : CoreCell S). LeadsTo (CoreStep step_shard) w (of_cell k log) y) (sym first) leads),
      )
  lead cells log k x y history at leads false j z is there =
      let to = history.leads j z there in (to.0, (λ same. absurd (true≢false (sym (eq-eqb j k same) ∙ is))), to.1)

  -- It does in the run that its history is.
  safe-in-run : (o : Opening) (cells : List (CoreCell S)) (log : List CoreEntry) (by k : ℕ) (call : CoreCall) (y : CoreCell S)
      → Opens o cells log → FitsOwnCalls fits stands says cells by (of_caller by log) k call → (es : List CoreEvent)
      → AreEventsOf (IsEntryEvent fits stands says o) log es → IsCoreRun o es → StandsInCell fits stands says o k y es
      → CanTake can_shard y call
  safe-in-run o cells log by k call y opens may es are run stand =
      entry.can can_shard step_shard fits stands says link o es by k call y run (may.in_runs o log es opens refl are run) stand

  pub safe-cells : IsSafe (CoreStep step_shard) (FitsOwnCalls fits stands says) (CanTake can_shard)
  safe-cells cells log by k call x y history at leads may =
      let first = may.opening log in
      let last =
      run-end (CoreStep step_shard) (FitsOwnCalls fits stands says) Opens (λ p. IsEntryEvent fits stands says p)
      (λ p. StandsInCell fits stands says p) linked-cells first.0 cells (Ends k y) log first.1 history.fitting
      (λ j z there. lead cells log k x y history at leads (eqb j k) j z refl there)
      in
      let here = last.cells k x at in
      safe-in-run first.0 cells log by k call y first.1 may last.of.es last.of.events last.of.run
      (subst (λ (z : CoreCell S). StandsInCell fits stands says first.0 k z last.of.es) (here.1 refl) here.2)
