-- What a run of scripts leaves and gives back.
use Rattle.std.proofs.Common.{◌≡◌, ◌∙◌, ℕ, ◌+◌, ◌<◌, ◌≤◌, Bool, true, false, List, [], ◌∷◌, ◌++◌, length, map, get_or, Some, IsSomeAnd, IsTrue, Option, unwrap_or, sym, ap, subst, arith, length-append}
use Rattle.std.specs.Bool.{OnTrue}
use Rattle.std.specs.Global.{Vec}
use Rattle.std.specs.List.{AllByRecursion}
use Rattle.core_agreements.specs.ScriptedRuns.{IsScriptedRun}
use Rattle.core_events.specs.Events.{Opening}
use Rattle.core_records.specs.CoreRecords.{RunScripts, record_of}
use Rattle.core_scripts.specs.GivenScripts.{AreReadyWorks, HavePlayedOnThreads}
use Rattle.core_scripts.specs.ScriptWorks.{script_in}
use Rattle.core_scripts.specs.ScriptsOnThreads.{replies_in}
use Rattle.core_scripts.specs.ToldFiles.{ShelfTold, files_told}
use Rattle.core_scripts.specs.declared.work.ScriptWork.{ScriptWork}
use Rattle.counted_scripts.specs.CountedLoads.{CountsInTurn}
use Rattle.counted_scripts.specs.RepliesOfSessions.{replies_of_session}
use Rattle.core_program.specs.CoreFits.{CoreEntry}
use Rattle.core_program.specs.declared.size.CoreSize.{CoreSize}
use Rattle.cube_journal.specs.Counters.{counters}
use Rattle.cube_journal.specs.declared.reply.Reply.{Reply}
use Rattle.cube_language.specs.declared.piece.TheConstants.{MOST_STATEMENTS}
use Rattle.cube_rounds.specs.Stands.{Kept}
use Rattle.cube_run.specs.Merge.{IsMerge}
use Rattle.cube_run.specs.RunRecords.{RunRecord, Sentence, script_of as script_on_record}
use Rattle.flush_loop.specs.MadeRounds.{KeptClaim}
use Rattle.flush_loop.specs.declared.round_result.RoundResult.{RoundResult}
use Rattle.last_rounds.specs.SavedEpochs.{HasSaved}
use Rattle.loaded_files.specs.CountedReplies.{CountsAbsence, CountsFault, GainsReplies}
use Rattle.opened_core.specs.Openings.{OpenOver, opening_over}
use Rattle.played_scripts.specs.PlayedRuns.{HavePlayed}
use Rattle.run_ends.specs.AllSafeEnds.{EndsWithAllSafe}
use Rattle.run_ends.proofs.FlusherEvents.{caller_here}
use Rattle.run_threads.specs.CoreWorks.{KeepsRounds, OpeningCells}
use Rattle.script_sentences.specs.Sentences.{sentence_of}
use Rattle.scripted_ends.specs.PlayedHistories.{IsPlayedRun}
use Rattle.threaded_core.specs.CoreParts.{IsLeftByRun}
use Rattle.threaded_core.specs.RanCores.{FlusherEnds}
use Rattle.threaded_core.specs.declared.cores.RanCore.{RanCore}
use Rattle.turn_board.specs.History.{of_caller}
use Rattle.played_runs.proofs.KeptByRuns.{keeps-at-end, kept-in-run}
use Rattle.played_runs.proofs.LeftByScripts.{ends-safe, gained, played}
use Rattle.played_runs.proofs.LeftShelves.{shelves-go-on}
use Rattle.played_runs.specs.declared.rooms.ReadyScript.{ReadyScript}
use Rattle.played_runs.proofs.Lists.{all-at, length-mapped, mapped-twice}
use Rattle.played_runs.proofs.PlayedRuns.{on-true}
use Rattle.played_runs.specs.LeftByRuns.{HasKeptOf, IsLeftByScripts}
use Rattle.played_runs.specs.ReadySessions.{HasRounds, IsReadyScript, IsWhole, replies_of, said_in, script_ready, shelf_of}
use Rattle.played_runs.specs.RunsOnRecord.{EndsSafe, HasPlayedOver, IsOnRecord, LeavesLegal, has_saved, told_to}
use Rattle.played_runs.specs.Shelves.{ShelvesGoOn}
use Rattle.played_runs.specs.declared.running.PlayedRun.{PlayedRun}

module _ {H G M : Type 0} (told : H → ShelfTold) (fault_count absence_count : H → ℕ)
    (serves : M → OpeningCells → Type 0)
    (has_kept : M → M → KeptClaim) (becomes : M → M → Type 0) (kept : Kept) (size : CoreSize) (every : ℕ)
    (cells : OpeningCells) (works : List (ScriptWork H G)) (rest given : List H) (maker : M)
    (ran : RanCore (ScriptWork H G) M) (many : length works ≡ size.sessions) (some : 1 ≤ size.sessions)
    (ready : AreReadyWorks size 1 works)
    (rounds : (k : ℕ) (d : ScriptWork H G) → k < size.sessions
    → unwrap_or (get_or works k d).player.session.round_every 0 ≡ every)
    (shelves : map shelf_of works ++ rest ≡ given) (opens : OpenOver kept size.shards size.sessions cells)
    (h : HavePlayedOnThreads told fault_count absence_count serves has_kept becomes size cells works maker ran)
    (keeps : KeepsRounds serves has_kept size.sessions maker maker cells (size.sessions + 1 + size.shards) [])
    (given_scripts : List (List Sentence)) (scripts_are : map script_in works ≡ given_scripts)
    (few : AllByRecursion (λ (script : List Sentence). length script ≤ MOST_STATEMENTS) given_scripts)
    (r : PlayedRun H M) (same_shelves : r.shelves.items ≡ map shelf_of ran.sessions.items ++ rest)
    (same_replies : r.replies.items ≡ map replies_of ran.sessions.items)
    (is_whole : IsTrue r.whole → IsTrue ran.began × AllByRecursion IsWhole ran.sessions.items)
    (same_journal : r.journal.items ≡ ran.left.desk.register.journal)
    (same_counters : r.counters ≡ counters ran.left.desk.register.safe ran.left.desk.register.journal)
    (same_names : r.names ≡ ran.left.names) (same_shards : r.shards ≡ ran.left.shards)
    (same_last : r.last_round ≡ ran.last_round) (same_maker : r.maker ≡ ran.maker) (made : becomes maker ran.maker)
    (legal : LeavesLegal kept ran.left.desk.register.journal) (safe : ran.left.desk.register.safe ≡ kept.epoch) where
  abbrev o : Opening
  o = opening_over kept size.shards size.sessions h.run.log

  abbrev l : IsLeftByRun o h.run.log h.run.left ran.left
  l = h.run.runs o (opens h.run.log)

  abbrev replies : List (List Reply)
  replies = map replies_in ran.sessions.items

  abbrev Played : Type 0
  Played = IsPlayedRun (λ session. files_told (told_to (map told given) session)) every (map script_in works) replies o
      l.to.es

  replies-same : map said_in r.replies.items ≡ replies
  replies-same =
      ap (λ (all : List (Vec Reply)). map said_in all) same_replies
      ∙ mapped-twice replies_of said_in ran.sessions.items

  abbrev RunLaw : Type 0
  RunLaw = length (map script_in works) ≡ size.sessions → (p : Played) (saved : Bool)
      → OnTrue saved (EndsSafe (record_of o p.given l.to.es) ran.left.shards.items)
      → IsOnRecord kept every (map told given) (map script_in works) replies ran.left.names
      ran.left.desk.register.journal saved ran.left.shards.items (record_of o p.given l.to.es)

  abbrev FewLaw : Type 0
  FewLaw = Played
      → AllByRecursion (λ (script : List Sentence). length script ≤ MOST_STATEMENTS) (map script_in works)
      → AllByRecursion (λ (said : List Reply). length said ≤ MOST_STATEMENTS) replies

  abbrev SafeLaw : Type 0
  SafeLaw = (epoch : ℕ) (how : RoundResult) (given : RunScripts) → ran.began ≡ true → ran.last_round ≡ Some how
      → HasSaved epoch how → IsScriptedRun o given l.to.es → IsMerge (record_of o given l.to.es)
      → IsSomeAnd ran.counters (λ c. EndsWithAllSafe (record_of o given l.to.es) c ran.left.desk ran.left.shards.items)

  abbrev CountsLaw : Type 0
  CountsLaw = (run : RunRecord) (all : List (List Reply)) (session faults new_faults absences new_absences : ℕ)
      → HavePlayed run all
      → CountsInTurn CountsFault (script_on_record run session) (replies_of_session all session) faults new_faults
      → CountsInTurn CountsAbsence (script_on_record run session) (replies_of_session all session) absences new_absences
      → GainsReplies [] (replies_of_session all session) faults new_faults absences new_absences

  it-played : r.whole ≡ true → Played
  it-played is =
      played told fault_count absence_count serves has_kept becomes kept size every cells works rest given maker ran
      many some ready rounds shelves opens h (is_whole is).0 (is_whole is).1

  run-is : RunLaw → SafeLaw → r.whole ≡ true
      → HasPlayedOver kept every (map told given) given_scripts (map said_in r.replies.items) r.names
      r.journal.items (has_saved r.last_round) r.shards.items o l.to.es
  run-is law end is =
      let p = it-played is in
      let long = length-mapped script_in works in
      coe 1 0 (i. HasPlayedOver kept every (map told given) (sym scripts_are i) (replies-same i) (same_names i)
      (same_journal i) (has_saved (same_last i)) (same_shards i).items o l.to.es)
      (record {
        played = p;
        on_record =
            law (omega (arith, long, many)) p (has_saved ran.last_round)
            (ends-safe told fault_count absence_count serves has_kept becomes kept size every cells works rest given
            maker ran many some ready rounds shelves opens h end (is_whole is).0 p);
      })

  few-are : FewLaw → r.whole ≡ true
      → AllByRecursion (λ (said : List Reply). length said ≤ MOST_STATEMENTS) (map said_in r.replies.items)
  few-are law is =
      subst (λ (all : List (List Reply)). AllByRecursion (λ (said : List Reply). length said ≤ MOST_STATEMENTS) all)
      (sym replies-same)
      (law (it-played is)
      (subst (λ (all : List (List Sentence)). AllByRecursion (λ (s : List Sentence). length s ≤ MOST_STATEMENTS) all)
      (sym scripts_are) few))

  pub left-by-scripts : RunLaw → FewLaw → SafeLaw → CountsLaw
      → IsLeftByScripts told fault_count absence_count has_kept becomes kept size every given_scripts given maker r
  left-by-scripts law small end counts = record {
    as_many =
        let a = ap (λ (all : List (Vec Reply)). length all) same_replies in
        let b = length-mapped replies_of ran.sessions.items in
        let c = h.run.order.as_many in
        omega (arith, a, b, c);
    of_run = record {
      log = h.run.log;
      cells = h.run.left;
      left = ran.left;
      by_run = l;
      journal_is = same_journal;
      names_are = same_names;
      shards_are = same_shards;
      keeps = coe 1 0 (i. HasKeptOf has_kept maker (same_maker i) o l.to.es)
          (kept-in-run serves has_kept becomes o maker ran.maker cells h.run.left h.run.log (opens h.run.log) l.to
          (keeps-at-end serves has_kept becomes ran.flushed size.shards size.sessions maker ran.maker ran.last_round
          cells (caller_here o) (of_caller (caller_here o) h.run.log) h.run.order.flushes keeps));
      plays = on-true r.whole _ (run-is law end);
    };
    legal = subst (LeavesLegal kept) (sym same_journal) legal;
    counted = same_counters ∙ (λ i. counters (safe i) (sym same_journal i));
    run = on-true r.whole _ (λ is. (run-is law end is).on_record.over);
    few = on-true r.whole _ (few-are small);
    shelves_go_on =
        coe 1 0 (i. ShelvesGoOn told fault_count absence_count size.sessions r.whole (replies-same i)
        (sym shelves i) (same_shelves i))
        (shelves-go-on told fault_count absence_count cells size.sessions h.run.order.played h.run.log ran.began works
        ran.sessions.items rest many h.run.order.as_many h.run.order.plays r.whole replies
        (on-true r.whole _
        (λ is k d lt.
        coe 1 0 (i. GainsReplies [] (get_or replies k []) (fault_count (get_or (shelves i) k d))
        (fault_count (get_or (map shelf_of ran.sessions.items ++ rest) k d)) (absence_count (get_or (shelves i) k d))
        (absence_count (get_or (map shelf_of ran.sessions.items ++ rest) k d)))
        (gained told fault_count absence_count serves has_kept becomes kept size every cells works rest given maker ran
        many some ready rounds shelves opens h counts (is_whole is).0 (is_whole is).1 k d lt))));
    made = subst (becomes maker) (sym same_maker) made;
  }

-- Scripts that are ready are short.
pub few-scripts : (ready : List ReadyScript) → AllByRecursion IsReadyScript ready
    → AllByRecursion (λ (script : List Sentence). length script ≤ MOST_STATEMENTS)
    (map script_ready ready)
few-scripts [] all = tt
few-scripts (x ∷ ready) all = (
  (let l = length-mapped sentence_of x.script.items in let m = length-mapped sentence_of x.closing.items in
      let both = length-append (map sentence_of x.script.items) (map sentence_of x.closing.items) in
      let f = all.0.few in omega (arith, l, m, both, f)),
  few-scripts ready all.1,
)

-- What the flusher made of the maker of rounds, also where it did not begin.
pub made-by : {M : Type 0} (serves : M → OpeningCells → Type 0) (has_kept : M → M → KeptClaim)
    (becomes : M → M → Type 0) (flushed : Bool) (shards sessions : ℕ) (before after : M) (last : Option RoundResult)
    (cells : OpeningCells) (caller : ℕ) (own : List CoreEntry)
    → FlusherEnds serves has_kept becomes flushed shards sessions before after last cells caller own
    → becomes before before → becomes before after
made-by serves has_kept becomes true shards sessions before after last cells caller own ends stays = ends.made
made-by serves has_kept becomes false shards sessions before after last cells caller own ends stays =
    subst (becomes before) (sym ends.1) stays

-- So often rounds follow in each session.
pub rounds-at : {H G : Type 0} (every : Option ℕ) (sessions : ℕ) (works : List (ScriptWork H G))
    → length works ≡ sessions → AllByRecursion (HasRounds every) works → (k : ℕ) (d : ScriptWork H G) → k < sessions
    → unwrap_or (get_or works k d).player.session.round_every 0 ≡ unwrap_or every 0
rounds-at every sessions works many all k d lt =
    ap (λ (o : Option ℕ). unwrap_or o 0) (all-at (HasRounds every) works k d all (omega (arith, lt, many)))
