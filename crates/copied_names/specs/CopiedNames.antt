-- The names of a cube, copied by a session for a query, and when they were those of the dictionaries.
-- Source: Cubrick (VLDB 2016), dictionary encoding of text dimensions. A promise speaks of every run that goes on, as
-- with prophecy variables (Abadi and Lamport, 1991).
use Rattle.std.specs.Prelude.{◌≡◌, ℕ, List, ◌++◌, Result, Ok, Err}
use Rattle.core_program.specs.ClientCalls.{names_entry}
use Rattle.condition_spans.specs.Codes.{lists_at}
use Rattle.core_agreements.specs.NamedQueries.{EndAs}
use Rattle.cube_core.specs.Links.{AreEventsAfter}
use Rattle.cube_core.specs.BoardCells.{IsEntryEvent}
use Rattle.core_program.specs.Knowing.{IsClientOf, IsLaterRun, IsSessionOf}
use Rattle.core_cells.specs.declared.names.NamesAnswer.{NamesAnswer}
use Rattle.core_cells.specs.declared.names.NamesAnswer.TheVariants as told
use Rattle.core_cells.specs.declared.names.NamesCall.TheVariants as names
use Rattle.core_events.specs.Events.{Opening, CoreEvent}
use Rattle.core_events.specs.Jobs.{CoreJob, JobOutcome}
use Rattle.core_events.specs.ShardView.{ShardView}
use Rattle.core_names.specs.NamesInTheEnd.{OpenWithNames}
use Rattle.core_program.specs.CoreFits.{CoreEntry}
use Rattle.core_records.specs.CoreRecords.{names_left}
use Rattle.cube_core.specs.declared.cell.CoreCell.{CoreCell}
use Rattle.cube_core.specs.declared.shard.ShardAnswer.{ShardAnswer}
use Rattle.cube_core.specs.declared.shard.ShardCall.{ShardCall}
use Rattle.cube_language.specs.declared.decl.Decl.{Decl}
use Rattle.known_cubes.specs.KnownCubes.{IsToldOfCube, OpenWithStorableCubes}
use Rattle.turn_board.specs.History.{of_caller}

-- The names answer a copy, or are out of memory.
abbrev pub copied_answer : {E : Type 0} → Result (List (List ℕ)) E → NamesAnswer
copied_answer (Ok list) = told.Copied list
copied_answer (Err e) = told.NoMemory

-- A caller's call that copies all names of a dimension, with what came of it.
abbrev pub copy_entry : {E : Type 0} → ℕ → ℕ → ℕ → Result (List (List ℕ)) E → CoreEntry
copy_entry caller place dim came = names_entry caller (names.CopyFrom place dim 0) (copied_answer came)

module _ {S : Type 0} (fits : Opening → ℕ → ShardCall → Type 0) (stands : Opening → ℕ → ℕ → S → ShardView → Type 0)
    (says : CoreJob → ShardAnswer → JobOutcome → Type 0) (cells : List (CoreCell S)) where
  -- The caller is a session's, which was told of the cube at a place, in a core with dictionaries for its cubes.
  pub record MayCopyCube (caller : ℕ) (own : List CoreEntry) (session place : ℕ) (d : Decl) : Type 0 where
    pub client : IsClientOf fits stands says cells caller session
    pub is_session : IsSessionOf fits stands says cells session
    pub storable : OpenWithStorableCubes fits stands says cells
    pub named : OpenWithNames fits stands says cells
    pub name : List ℕ
    pub cube : IsToldOfCube own name place d

  -- A moment of a run at which the caller has made just these calls: a first part of the history has them.
  pub record IsMomentAfter (o : Opening) (caller : ℕ) (own log : List CoreEntry) (run es : List CoreEvent)
      : Type 0 where
    pub earlier : List CoreEntry
    pub rest : List CoreEntry
    pub whole : log ≡ earlier ++ rest
    pub mine : of_caller caller earlier ≡ own
    pub run_then : IsLaterRun fits stands says cells o caller own earlier es
    pub goes_on : AreEventsAfter (IsEntryEvent fits stands says o) es rest run

  -- The names of the cube at a place were those of its dictionaries, each dimension's at some moment between the
  -- earlier and the later calls: those of the moment after the earlier ones, and then maybe more; and the dictionaries
  -- of each run with the later ones have them, and then maybe more.
  pub record AreCopiedBetween (caller : ℕ) (own now : List CoreEntry) (place : ℕ) (d : Decl)
      (names : List (List (List (List ℕ)))) : Type 0 where
    pub since : (o : Opening) (log : List CoreEntry) (run es : List CoreEvent)
        → IsLaterRun fits stands says cells o caller now log run → IsMomentAfter o caller own log run es
        → EndAs d (lists_at (names_left o es) place) (lists_at names place)
    pub until : (o : Opening) (log : List CoreEntry) (run : List CoreEvent)
        → IsLaterRun fits stands says cells o caller now log run
        → EndAs d (lists_at names place) (lists_at (names_left o run) place)
