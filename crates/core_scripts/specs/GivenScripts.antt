-- The room of sessions, their works that may begin, and the run in which these have then played their scripts.
-- Source: this project's own; linearizability (Herlihy and Wing, 1990) makes one list of the calls of all threads.
use Rattle.std.specs.Prelude.{◌≡◌, ℕ, ◌+◌, ◌≤◌, true, List, [], ◌∷◌, map, vec_capacity}
use Rattle.core_events.specs.Events.{Opening}
use Rattle.core_program.specs.CoreFits.{CoreEntry, OpensCells}
use Rattle.core_program.specs.declared.size.CoreSize.{CoreSize}
use Rattle.core_scripts.specs.PlayedWhole.{MayPlay}
use Rattle.core_scripts.specs.ScriptWorks.{HasPlayedOut, script_in}
use Rattle.core_scripts.specs.ToldFiles.{ShelfTold}
use Rattle.core_scripts.specs.declared.work.PlayRoom.{PlayRoom}
use Rattle.core_scripts.specs.declared.work.ScriptWork.{ScriptWork}
use Rattle.core_watches.specs.BoundReaders.{OpenWithRowsOfCubes}
use Rattle.cube_rounds.specs.Stands.{Kept}
use Rattle.flush_loop.specs.MadeRounds.{KeptClaim}
use Rattle.kept_data.specs.KeptFiles.{IsKeptByFile}
use Rattle.linked_shards.specs.CellShards.{CoreShardStands}
use Rattle.opened_core.specs.Openings.{AreCellsOver, OpenOver}
use Rattle.run_threads.specs.CoreWorks.{OpeningCells}
use Rattle.scripted_ends.specs.PlayedHistories.{IsPlayedRun}
use Rattle.scripted_pasts.specs.Served.{IsServed}
use Rattle.session_texts.specs.ToldTexts.{AreTextsTold}
use Rattle.shard_events.specs.ShardsInRuns.{FitsShard, ShardAnswerSays}
use Rattle.threaded_core.specs.RanCores.{HasRunOnThreads}
use Rattle.threaded_core.specs.declared.cores.RanCore.{RanCore}
use Rattle.core_scripts.specs.ScriptsOnThreads.{AreOfSessions, AreShelvesOf, AreWhole, files_of_shelves, replies_in}

-- The cells of a core that was opened over what a file keeps.
pub record AreCellsOfCore (shards sessions : ℕ) (cells : OpeningCells) : Type 0 where
  pub kept : Kept
  pub by_file : IsKeptByFile kept
  pub over : AreCellsOver kept shards sessions cells
  pub opens : OpenOver kept shards sessions cells

-- Room for so many replies. Nothing is known yet of any text, and no statement was answered.
pub record IsPlayRoom (statements : ℕ) (room : PlayRoom) : Type 0 where
  pub texts : (own : List CoreEntry) → AreTextsTold own room.texts
  pub no_replies : room.replies.items ≡ []
  pub fits : statements ≤ vec_capacity room.replies

module _ {H G : Type 0} where
  -- The work of the session of a number. It may begin on a core that serves it.
  pub record IsReadyWork (size : CoreSize) (number : ℕ) (work : ScriptWork H G) : Type 0 where
    pub size_is : work.size ≡ size
    pub number_is : work.player.session.number ≡ number
    pub ready : (callers caller : ℕ) (cells : OpeningCells) → number ≤ size.sessions
        → size.sessions + 2 + size.shards ≤ callers → IsServed cells caller number size.shards
        → OpenWithRowsOfCubes cells
        → MayPlay size.shards size.sessions work.player work.script.items work.closing.items work.replies.items
        (vec_capacity work.replies) callers cells caller

  -- So are these works, of which the first has this number.
  abbrev pub AreReadyWorks : CoreSize → ℕ → List (ScriptWork H G) → Type 0
  AreReadyWorks size from [] = Unit {0}
  AreReadyWorks size from (work ∷ works) = IsReadyWork size from work × AreReadyWorks size (from + 1) works

module _ {H G M : Type 0} (told : H → ShelfTold) (fault_count absence_count : H → ℕ)
    (serves : M → OpeningCells → Type 0) (has_kept : M → M → KeptClaim) (becomes : M → M → Type 0) where
  -- The works of sessions ran on threads over a core with these cells.
  pub record HavePlayedOnThreads (size : CoreSize) (cells : OpeningCells) (works : List (ScriptWork H G)) (maker : M)
      (ran : RanCore (ScriptWork H G) M) : Type 0 where
    pub run : HasRunOnThreads (HasPlayedOut told fault_count absence_count) serves has_kept becomes size.shards
        size.sessions cells works maker ran
    -- Where they began and each was played to its end, then, however a run opens with the cells, the run that the one
    -- history is has played their scripts, with their replies.
    pub on_record : (every : ℕ) (shelves : ℕ → H) → AreOfSessions size.sessions every works
        → AreShelvesOf size.sessions works shelves → ran.began ≡ true → AreWhole size.sessions ran.sessions.items
        → (o : Opening) (opens : OpensCells FitsShard CoreShardStands ShardAnswerSays o cells run.log)
        → IsPlayedRun (files_of_shelves told shelves) every (map script_in works) (map replies_in ran.sessions.items) o
        (run.runs o opens).to.es
