-- What a run of scripts leaves, and what it gives back where no session began.
-- Source: this project's own.
use Rattle.std.specs.Prelude.{◌≡◌, ℕ, ◌≤◌, List, length, map}
use Rattle.std.specs.Bool.{OnTrue}
use Rattle.std.specs.List.{AllByRecursion}
use Rattle.core_events.specs.Clients.{calls_of}
use Rattle.core_events.specs.Events.{CoreEvent, Opening, flusher}
use Rattle.core_scripts.specs.ToldFiles.{ShelfTold}
use Rattle.core_program.specs.CoreFits.{CoreEntry}
use Rattle.core_program.specs.declared.size.CoreSize.{CoreSize}
use Rattle.cube_journal.specs.Counters.{counters}
use Rattle.cube_language.specs.declared.piece.TheConstants.{MOST_STATEMENTS}
use Rattle.cube_rounds.specs.Stands.{Kept}
use Rattle.cube_run.specs.RunRecords.{Sentence}
use Rattle.cube_values.specs.declared.call_error.CallError.{CallError}
use Rattle.cube_values.specs.declared.call_error.CallError.TheVariants.{Fault, NoMemory}
use Rattle.flush_loop.specs.MadeRounds.{KeptClaim}
use Rattle.opened_core.specs.KeptShards.{IsTooFull}
use Rattle.opened_core.specs.Openings.{opening_over}
use Rattle.opened_core.specs.declared.full.FullShard.{FullShard}
use Rattle.run_threads.specs.CoreWorks.{OpeningCells}
use Rattle.threaded_core.specs.CoreParts.{IsLeftByRun}
use Rattle.threaded_core.specs.declared.cores.CoreLeft.{CoreLeft}
use Rattle.played_runs.specs.ReadySessions.{said_in}
use Rattle.played_runs.specs.RunsOnRecord.{HasPlayedOver, IsRunOver, LeavesLegal, has_saved}
use Rattle.played_runs.specs.Shelves.{ShelvesGoOn}
use Rattle.played_runs.specs.declared.running.PlayedRun.{PlayedRun}
use Rattle.played_runs.specs.declared.running.UnplayedRun.{UnplayedRun}

-- A shard is too full for what is kept, or memory ran out.
abbrev pub IsFullFor : Kept → ℕ → CallError FullShard → Type 0
IsFullFor kept shards (Fault full) = IsTooFull kept shards full
IsFullFor kept shards NoMemory = Unit {0}

-- Since what makes the rounds was begun it has kept something of which its claim holds in a run, by the flusher's calls
-- in it.
pub record HasKeptOf {M : Type 0} (has_kept : M → M → KeptClaim) (begun maker : M) (o : Opening) (run : List CoreEvent)
    : Type 0 where
  pub saved : Kept
  pub holds : has_kept begun maker saved o run (calls_of (flusher o) run)

module _ {H M : Type 0} where
  -- The shelves and the maker of rounds are as they were given.
  pub record IsGivenBack (shelves : List H) (maker : M) (run : UnplayedRun H M) : Type 0 where
    pub same_shelves : run.shelves.items ≡ shelves
    pub same_maker : run.maker ≡ maker

  module _ (told : H → ShelfTold) (has_kept : M → M → KeptClaim) where
    -- The journal, the names and the shards are what one history over what is kept leaves, also where a script was not
    -- played to its end, and the maker of rounds has kept of it what it says. Where each script was played to its end,
    -- that history has played them, with these replies, and is on record.
    pub record IsOfOneRun (kept : Kept) (size : CoreSize) (every : ℕ) (scripts : List (List Sentence)) (shelves : List H)
        (maker : M) (ran : PlayedRun H M) : Type 0 where
      pub log : List CoreEntry
      pub cells : OpeningCells
      pub left : CoreLeft
      pub by_run : IsLeftByRun (opening_over kept size.shards size.sessions log) log cells left
      pub journal_is : ran.journal.items ≡ left.desk.register.journal
      pub names_are : ran.names ≡ left.names
      pub shards_are : ran.shards ≡ left.shards
      pub keeps : HasKeptOf has_kept maker ran.maker (opening_over kept size.shards size.sessions log) by_run.to.es
      pub plays : OnTrue ran.whole (HasPlayedOver kept every (map told shelves) scripts
          (map said_in ran.replies.items) ran.names ran.journal.items (has_saved ran.last_round) ran.shards.items
          (opening_over kept size.shards size.sessions log) by_run.to.es)

  module _ (told : H → ShelfTold) (fault_count absence_count : H → ℕ) (has_kept : M → M → KeptClaim)
      (becomes : M → M → Type 0) where
    -- A run over what is kept leaves a legal journal and its counters, and gives the shelves back. Where each of these
    -- scripts was played to its end, it is on record with them and with their replies.
    pub record IsLeftByScripts (kept : Kept) (size : CoreSize) (every : ℕ) (scripts : List (List Sentence))
        (shelves : List H) (maker : M) (ran : PlayedRun H M) : Type 0 where
      pub as_many : length ran.replies.items ≡ size.sessions
      pub of_run : IsOfOneRun told has_kept kept size every scripts shelves maker ran
      pub legal : LeavesLegal kept ran.journal.items
      pub counted : ran.counters ≡ counters kept.epoch ran.journal.items
      pub run : OnTrue ran.whole (IsRunOver kept every (map told shelves) scripts
          (map said_in ran.replies.items) ran.names ran.journal.items (has_saved ran.last_round) ran.shards.items)
      pub few : OnTrue ran.whole
          (AllByRecursion (λ said. length said ≤ MOST_STATEMENTS) (map said_in ran.replies.items))
      pub shelves_go_on : ShelvesGoOn told fault_count absence_count size.sessions ran.whole
          (map said_in ran.replies.items) shelves ran.shelves.items
      pub made : becomes maker ran.maker
