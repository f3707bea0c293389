-- What a run of scripts leaves, by the law of what runs leave.
use Rattle.std.proofs.Common.{◌≡◌, ◌∙◌, ℕ, ◌+◌, ◌-◌, ◌<◌, ◌≤◌, true, false, List, [], ◌++◌, length, map, get_or, Option, Some, None, IsSomeAnd, slice_get, unwrap_or, refl, sym, ap, arith}
use Rattle.std.specs.Bool.{OnTrue}
use Rattle.std.specs.List.{AllByRecursion}
use Rattle.core_agreements.specs.ScriptedRuns.{IsScriptedRun}
use Rattle.core_events.specs.Events.{Opening}
use Rattle.core_records.specs.CoreRecords.{RunScripts, record_of}
use Rattle.core_scripts.proofs.PlayedWorks.{element-at}
use Rattle.core_scripts.specs.GivenScripts.{AreReadyWorks, HavePlayedOnThreads}
use Rattle.core_scripts.specs.ScriptWorks.{script_in}
use Rattle.core_scripts.specs.ScriptsOnThreads.{replies_in}
use Rattle.core_scripts.specs.ToldFiles.{ShelfTold, files_told}
use Rattle.core_scripts.specs.declared.work.ScriptWork.{ScriptWork}
use Rattle.counted_scripts.specs.CountedLoads.{CountsInTurn}
use Rattle.counted_scripts.specs.RepliesOfSessions.{replies_of_session}
use Rattle.core_program.specs.CoreFits.{OpensCells}
use Rattle.core_program.specs.declared.size.CoreSize.{CoreSize}
use Rattle.cube_journal.specs.declared.counters.Counters.{Counters}
use Rattle.cube_journal.specs.declared.reply.Reply.{Reply}
use Rattle.cube_rounds.specs.Stands.{Kept}
use Rattle.cube_run.specs.Merge.{IsMerge}
use Rattle.cube_run.specs.RunRecords.{RunRecord, Sentence, script_of as script_on_record}
use Rattle.flush_loop.specs.MadeRounds.{KeptClaim}
use Rattle.flush_loop.specs.declared.round_result.RoundResult.{RoundResult}
use Rattle.flush_loop.specs.declared.round_result.RoundResult.TheVariants as result
use Rattle.last_rounds.specs.SavedEpochs.{HasSaved}
use Rattle.linked_shards.specs.CellShards.{CoreShardStands}
use Rattle.loaded_files.specs.CountedReplies.{CountsAbsence, CountsFault, GainsReplies}
use Rattle.opened_core.specs.Openings.{OpenOver, opening_over}
use Rattle.played_scripts.specs.PlayedRuns.{HavePlayed}
use Rattle.run_ends.specs.AllSafeEnds.{EndsWithAllSafe}
use Rattle.run_threads.specs.CoreWorks.{OpeningCells}
use Rattle.scripted_ends.specs.PlayedHistories.{IsPlayedRun}
use Rattle.shard_events.specs.ShardsInRuns.{FitsShard, ShardAnswerSays}
use Rattle.threaded_core.specs.CoreParts.{IsLeftByRun}
use Rattle.threaded_core.specs.declared.cores.RanCore.{RanCore}
use Rattle.played_runs.proofs.LeftShelves.{counts-at}
use Rattle.played_runs.proofs.Lists.{all-at, mapped-place, mapped-session}
use Rattle.played_runs.proofs.PlayedRuns.{on-true, played-over}
use Rattle.played_runs.specs.ReadySessions.{IsWhole, shelf_of}
use Rattle.played_runs.specs.RunsOnRecord.{EndsSafe, has_saved, told_to}

-- A last round that saved, and up to which epoch.
record HasSavedBy (last : Option RoundResult) : Type 0 where
  how : RoundResult
  epoch : ℕ
  is : last ≡ Some how
  saved : HasSaved epoch how

none-saved : false ≡ true → ⊥
none-saved e = cc

saved-so : (last : Option RoundResult) → has_saved last ≡ true → HasSavedBy last
saved-so None is = absurd (none-saved is)
saved-so (Some (result.Safe epoch)) is =
    record { how = result.Safe epoch; epoch = epoch; is = refl; saved = refl }
saved-so (Some (result.Idle epoch)) is =
    record { how = result.Idle epoch; epoch = epoch; is = refl; saved = refl }
saved-so (Some result.NoMemory) is = absurd (none-saved is)
saved-so (Some (result.Lost cause)) is = absurd (none-saved is)

module _ {H G M : Type 0} (told : H → ShelfTold) (fault_count absence_count : H → ℕ)
    (serves : M → OpeningCells → Type 0)
    (has_kept : M → M → KeptClaim) (becomes : M → M → Type 0) (kept : Kept) (size : CoreSize) (every : ℕ)
    (cells : OpeningCells) (works : List (ScriptWork H G)) (rest given : List H) (maker : M)
    (ran : RanCore (ScriptWork H G) M) (many : length works ≡ size.sessions) (some : 1 ≤ size.sessions)
    (ready : AreReadyWorks size 1 works)
    (rounds : (k : ℕ) (d : ScriptWork H G) → k < size.sessions
    → unwrap_or (get_or works k d).player.session.round_every 0 ≡ every)
    (shelves : map shelf_of works ++ rest ≡ given) (opens : OpenOver kept size.shards size.sessions cells)
    (h : HavePlayedOnThreads told fault_count absence_count serves has_kept becomes size cells works maker ran) where
  abbrev o : Opening
  o = opening_over kept size.shards size.sessions h.run.log

  abbrev opened : OpensCells FitsShard CoreShardStands ShardAnswerSays o cells h.run.log
  opened = opens h.run.log

  abbrev l : IsLeftByRun o h.run.log h.run.left ran.left
  l = h.run.runs o opened

  abbrev scripts : List (List Sentence)
  scripts = map script_in works

  abbrev replies : List (List Reply)
  replies = map replies_in ran.sessions.items

  abbrev Played : Type 0
  Played = IsPlayedRun (λ session. files_told (told_to (map told given) session)) every scripts replies o l.to.es

  pub played : ran.began ≡ true → AllByRecursion IsWhole ran.sessions.items → Played
  played begun whole =
      played-over told fault_count absence_count serves has_kept becomes size every cells works rest given maker ran
      many some ready rounds shelves h o refl begun whole opened

  -- ---- the end

  safe-of : (run : RunRecord) (final : Option Counters)
      → IsSomeAnd final (λ c. EndsWithAllSafe run c ran.left.desk ran.left.shards.items)
      → EndsSafe run ran.left.shards.items
  safe-of run None ends = absurd ends
  safe-of run (Some c) ends = record { final = c; desk = ran.left.desk; ends = ends }

  abbrev SafeLaw : Type 0
  SafeLaw = (epoch : ℕ) (how : RoundResult) (given : RunScripts) → ran.began ≡ true → ran.last_round ≡ Some how
      → HasSaved epoch how → IsScriptedRun o given l.to.es → IsMerge (record_of o given l.to.es)
      → IsSomeAnd ran.counters (λ c. EndsWithAllSafe (record_of o given l.to.es) c ran.left.desk ran.left.shards.items)

  pub ends-safe : SafeLaw → ran.began ≡ true → (p : Played)
      → OnTrue (has_saved ran.last_round) (EndsSafe (record_of o p.given l.to.es) ran.left.shards.items)
  ends-safe law begun p =
      on-true (has_saved ran.last_round) _
      (λ is.
      let last = saved-so ran.last_round is in
      safe-of (record_of o p.given l.to.es) ran.counters
      (law last.epoch last.how p.given begun last.is last.saved p.run p.merge))

  -- ---- the counts

  abbrev CountsLaw : Type 0
  CountsLaw = (run : RunRecord) (all : List (List Reply)) (session faults new_faults absences new_absences : ℕ)
      → HavePlayed run all
      → CountsInTurn CountsFault (script_on_record run session) (replies_of_session all session) faults new_faults
      → CountsInTurn CountsAbsence (script_on_record run session) (replies_of_session all session) absences new_absences
      → GainsReplies [] (replies_of_session all session) faults new_faults absences new_absences

  pub gained : CountsLaw → ran.began ≡ true → AllByRecursion IsWhole ran.sessions.items → (k : ℕ) (d : H)
      → k < size.sessions
      → GainsReplies [] (get_or replies k []) (fault_count (get_or given k d))
      (fault_count (get_or (map shelf_of ran.sessions.items ++ rest) k d)) (absence_count (get_or given k d))
      (absence_count (get_or (map shelf_of ran.sessions.items ++ rest) k d))
  gained law begun whole k d lt =
      let p = played begun whole in
      let as_many = h.run.order.as_many in
      let lt-works : k < length works = omega (arith, lt, many) in
      let lt-after : k < length ran.sessions.items = omega (arith, lt, as_many) in
      let e = element-at works k lt-works in
      let counts =
      counts-at told fault_count absence_count cells size.sessions h.run.order.played h.run.log ran.began works
      ran.sessions.items rest many as_many h.run.order.plays begun
      (λ j x below. all-at IsWhole ran.sessions.items j x whole (omega (arith, below, as_many))) k d e lt
      in
      let there : 1 + k - 1 ≡ k = omega arith in
      let script : script_on_record (record_of o p.given l.to.es) (1 + k) ≡ script_in (get_or works k e) =
      ap (λ (all : List (List Sentence)). unwrap_or (slice_get all (1 + k - 1)) []) p.scripts_are
      ∙ ap (λ n. unwrap_or (slice_get scripts n) []) there
      ∙ mapped-session script_in works k e lt-works
      in
      let said : replies_of_session replies (1 + k) ≡ replies_in (get_or ran.sessions.items k e) =
      ap (λ n. unwrap_or (slice_get replies n) []) there
      ∙ mapped-session replies_in ran.sessions.items k e lt-after
      in
      let of-given : GainsReplies [] (replies_of_session replies (1 + k)) (fault_count (get_or given k d))
      (fault_count (get_or (map shelf_of ran.sessions.items ++ rest) k d)) (absence_count (get_or given k d))
      (absence_count (get_or (map shelf_of ran.sessions.items ++ rest) k d)) =
      law (record_of o p.given l.to.es) replies (1 + k) _ _ _ _ p.played
      (coe 1 0 (i. CountsInTurn CountsFault (script i) (said i) (fault_count (get_or given k d))
      (fault_count (get_or (map shelf_of ran.sessions.items ++ rest) k d)))
      (coe 0 1 (i. CountsInTurn CountsFault (script_in (get_or works k e)) (replies_in (get_or ran.sessions.items k e))
      (fault_count (get_or (shelves i) k d)) (fault_count (get_or (map shelf_of ran.sessions.items ++ rest) k d)))
      counts.count_faults))
      (coe 1 0 (i. CountsInTurn CountsAbsence (script i) (said i) (absence_count (get_or given k d))
      (absence_count (get_or (map shelf_of ran.sessions.items ++ rest) k d)))
      (coe 0 1 (i. CountsInTurn CountsAbsence (script_in (get_or works k e))
      (replies_in (get_or ran.sessions.items k e)) (absence_count (get_or (shelves i) k d))
      (absence_count (get_or (map shelf_of ran.sessions.items ++ rest) k d))) counts.count_absences))
      in
      coe 0 1 (i. GainsReplies []
      ((said ∙ sym (mapped-place replies_in ran.sessions.items k e [] lt-after)) i)
      (fault_count (get_or given k d)) (fault_count (get_or (map shelf_of ran.sessions.items ++ rest) k d))
      (absence_count (get_or given k d)) (absence_count (get_or (map shelf_of ran.sessions.items ++ rest) k d)))
      of-given
