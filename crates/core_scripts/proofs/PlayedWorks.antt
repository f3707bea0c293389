-- Each session has played its script to its end, by its work.
use Rattle.std.proofs.Common.{◌≡◌, ◌∙◌, ℕ, zero, suc, ◌+◌, ◌-◌, ◌<◌, ◌≤◌, Bool, true, List, [], ◌∷◌, length, map, slice_get, slice_index_or, unwrap_or, refl, sym, ap, arith}
use Rattle.std.specs.Bool.{OnTrue}
use Rattle.core_events.specs.Events.{IsSession, Opening}
use Rattle.core_program.specs.CoreFits.{CoreEntry}
use Rattle.core_program.specs.Knowing.{IsClientOf}
use Rattle.core_scripts.specs.PlayedWhole.{PlaysToTheEnd}
use Rattle.core_scripts.specs.ScriptWorks.{HasPlayedOut, script_in}
use Rattle.core_scripts.specs.ToldFiles.{ShelfTold, files_told}
use Rattle.core_scripts.specs.declared.work.ScriptWork.{ScriptWork}
use Rattle.cube_core.specs.declared.cell.CoreCell.{CoreCell}
use Rattle.linked_shards.specs.CellShards.{CoreShardStands}
use Rattle.linked_shards.specs.declared.cell.CoreShard.{CoreShard}
use Rattle.scripted_ends.specs.EndedScripts.{HasPlayedToTheEnd}
use Rattle.scripted_ends.specs.PlayedHistories.{HaveAllPlayed, of_session}
use Rattle.scripted_pasts.specs.Performed.{every_of}
use Rattle.shard_events.specs.ShardsInRuns.{FitsShard, ShardAnswerSays}
use Rattle.threaded_callers.specs.Ends.{EndsAs}
use Rattle.threaded_core.specs.CallerEnds.{EndsBy}
use Rattle.core_scripts.specs.ScriptsOnThreads.{AreOfSessions, AreShelvesOf, AreWhole, files_of_shelves, replies_in}
use Rattle.turn_board.specs.History.{of_caller}

-- ---- what stands in a list for a session

mapped-at : {X Y : Type 0} (f : X → List Y) (xs : List X) (k : ℕ) (d : X) → k < length xs
    → unwrap_or (slice_get (map f xs) k) [] ≡ f (slice_index_or xs k d)
mapped-at f [] k d lt = absurd (omega (arith, lt))
mapped-at f (x ∷ xs) zero d lt = refl
mapped-at f (x ∷ xs) (suc k) d lt = mapped-at f xs k d (omega (arith, lt))

-- The element at a place of a list.
pub element-at : {X : Type 0} (xs : List X) (k : ℕ) → k < length xs → X
element-at [] k lt = absurd (omega (arith, lt))
element-at (x ∷ xs) zero lt = x
element-at (x ∷ xs) (suc k) lt = element-at xs k (omega (arith, lt))

length-mapped : {X Y : Type 0} (f : X → Y) (xs : List X) → length (map f xs) ≡ length xs
length-mapped f [] = refl
length-mapped f (x ∷ xs) = ap suc (length-mapped f xs)

module _ {H G : Type 0} (told : H → ShelfTold) (fault_count absence_count : H → ℕ) (cells : List (CoreCell CoreShard))
    (log : List CoreEntry) where
  -- Where the work of a session began and was played to its end, its script is played to the end in the history.
  played-out : (caller session every : ℕ) (before after : ScriptWork H G) (began : Bool)
      → IsClientOf FitsShard CoreShardStands ShardAnswerSays cells caller session → began ≡ true
      → EndsAs (HasPlayedOut told fault_count absence_count) cells began caller (of_caller caller log) before after
      → after.whole ≡ true → before.player.session.number ≡ session → every_of before.player.session ≡ every
      → HasPlayedToTheEnd FitsShard CoreShardStands ShardAnswerSays cells (files_told (told before.shelf)) every session
      (script_in before) (replies_in after) log
  played-out caller session every before after began client begun ends whole number rounds =
      let out =
      coe 0 1 (i. EndsAs (HasPlayedOut told fault_count absence_count) cells (begun i) caller (of_caller caller log)
      before after) ends
      in
      let p =
      coe 0 1 (i. OnTrue (whole i) (PlaysToTheEnd (told before.shelf) cells caller before.player.session.number
      (every_of before.player.session) (script_in before) (replies_in after) (of_caller caller log))) out.whole
      in
      record {
        caller = caller;
        client = client;
        last = p.last;
        number_is = p.number_is ∙ number;
        every_is = p.every_is ∙ rounds;
        watch = p.watch;
        own = p.before;
        played = p.played;
        ends = p.ends;
      }

  module _ (sessions every : ℕ) (works after : List (ScriptWork H G)) (shelves : ℕ → H) (o : Opening)
      (same : o.sessions ≡ sessions) (are : AreOfSessions sessions every works) (tells : AreShelvesOf sessions works shelves) (as_many : length after ≡ sessions)
      (clients : (caller : ℕ) → caller ≤ sessions
      → IsClientOf FitsShard CoreShardStands ShardAnswerSays cells caller caller) (began : Bool)
      (begun : began ≡ true) (played : List CoreEntry) (whole : AreWhole sessions after)
      (plays : (k : ℕ) (d : ScriptWork H G) → k < sessions
      → EndsBy (HasPlayedOut told fault_count absence_count) cells played log began (1 + k) (slice_index_or works k d)
      (slice_index_or after k d)) where
    of-work : (session : ℕ) → IsSession o session
        → HasPlayedToTheEnd FitsShard CoreShardStands ShardAnswerSays cells (files_of_shelves told shelves session)
        every session (of_session (map script_in works) session) (of_session (map replies_in after) session) log
    of-work session is =
        let first = is.first in
        let last = is.last in
        let many = are.as_many in
        let k = session - 1 in
        let lt : k < sessions = omega (arith, first, last, same) in
        let back : 1 + k ≡ session = omega (arith, first) in
        let d = element-at works k (omega (arith, lt, many)) in
        let before = slice_index_or works k d in
        let then = slice_index_or after k d in
        let script = mapped-at script_in works k d (omega (arith, lt, many)) in
        let replies = mapped-at replies_in after k d (omega (arith, lt, as_many)) in
        let shelf : before.shelf ≡ shelves session =
        sym (tells k d lt) ∙ ap shelves back
        in
        coe 1 0 (i. HasPlayedToTheEnd FitsShard CoreShardStands ShardAnswerSays cells (files_of_shelves told shelves session)
        every session (script i) (replies i) log)
        (coe 0 1 (i. HasPlayedToTheEnd FitsShard CoreShardStands ShardAnswerSays cells (files_told (told (shelf i)))
        every (back i) (script_in before) (replies_in then) log)
        (played-out (1 + k) (1 + k) every before then began (clients (1 + k) (omega (arith, lt))) begun
        (plays k d lt).ends (whole k d lt) (are.numbers k d lt) (are.rounds k d lt)))

    pub all-played : HaveAllPlayed FitsShard CoreShardStands ShardAnswerSays cells o log
        (files_of_shelves told shelves) every (map script_in works) (map replies_in after)
    all-played = record {
      as_many_scripts = length-mapped script_in works ∙ are.as_many ∙ sym same;
      as_many_replies = length-mapped replies_in after ∙ as_many ∙ sym same;
      each = of-work;
    }
