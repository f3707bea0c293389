-- What the works of a core came to on threads.
use Rattle.std.proofs.Common.{◌≡◌, ℕ, ◌+◌, ◌<◌, ◌≤◌, Bool, true, false, None, List, [], length, map, take, sym, ap, ◌∙◌, subst, arith}
use Rattle.std.specs.Global.{Vec}
use Rattle.core_events.specs.Events.{Opening}
use Rattle.core_program.specs.CoreFits.{CoreEntry, FitsOwnCalls, OpensCells}
use Rattle.core_program.specs.declared.size.CoreSize.{CoreSize}
use Rattle.cube_core.specs.CoreSteps.{CoreStep}
use Rattle.cube_core.specs.declared.cell.CoreAnswer.{CoreAnswer}
use Rattle.cube_core.specs.declared.cell.CoreCall.{CoreCall}
use Rattle.cube_core.specs.declared.cell.CoreCell.{CoreCell}
use Rattle.flush_loop.specs.MadeRounds.{KeptClaim}
use Rattle.linked_shards.specs.CellShards.{CoreShardStands, CoreShardStep}
use Rattle.linked_shards.specs.declared.cell.CoreShard.{CoreShard}
use Rattle.opened_core.specs.Openings.{opening_over}
use Rattle.run_threads.specs.CoreRuns.{IsRunTo}
use Rattle.run_threads.specs.CoreWorks.{HasClosedFlusher, HasClosedShards, HasFlushedAll, OpeningCells}
use Rattle.run_threads.specs.declared.flusher.FlusherWork.{FlusherWork}
use Rattle.run_threads.specs.declared.main_work.ClosingMain.{ClosingMain}
use Rattle.run_threads.specs.declared.worker.ShardWorker.{ShardWorker}
use Rattle.shard_events.specs.ShardsInRuns.{FitsShard, ShardAnswerSays}
use Rattle.shard_work.specs.Serving.{HasServedAll}
use Rattle.threaded_callers.specs.Ends.{EndsAs, FlusherStopped, HaveRun, IsHistoryTo, WorkDone, WorkersStopped}
use Rattle.threaded_callers.specs.declared.running.Ended.{Ended}
use Rattle.turn_board.proofs.Places.{there}
use Rattle.turn_board.specs.History.{of_caller}
use Rattle.turn_board.specs.declared.cells.Cells.{Ghosts}
use Rattle.threaded_core.specs.CallerEnds.{EndsBy}
use Rattle.threaded_core.specs.CoreParts.{BeginWithCore, HoldParts, IsLeftByRun}
use Rattle.threaded_core.specs.RanCores.{EndInOrder, FlusherEnds, HasRunOnThreads, MayRun, SessionDone, SessionMay}
use Rattle.threaded_core.specs.TaskLists.{AreTasksOf, numbered_done, work_in}
use Rattle.threaded_core.specs.declared.cores.CoreLeft.{CoreLeft}
use Rattle.threaded_core.specs.declared.cores.RanCore.{RanCore}
use Rattle.threaded_core.specs.declared.giving.AllTasks.{AllTasks}
use Rattle.threaded_core.specs.declared.numbered.NumberedWork.{NumberedWork}
use Rattle.threaded_core.proofs.EndedWorks.{as_many_back, ended_by, long_enough, sessions_end}
use Rattle.threaded_core.proofs.LeftCells.{core_there, desk_is, names_are, shard_is}

-- What the works of main, a worker and the flusher have done.

abbrev pub main_stopped : FlusherStopped (CoreCell CoreShard) CoreCall CoreAnswer ClosingMain
main_stopped before after callers cells own =
    HasClosedFlusher before.size.shards before.size.sessions callers cells own × (after ≡ before)

abbrev pub main_ended : WorkersStopped (CoreCell CoreShard) CoreCall CoreAnswer ClosingMain
main_ended before after cells began own now = HasClosedShards before.size.shards began after.counters cells own now

abbrev pub worker_done : {G : Type 0} → WorkDone (CoreCell CoreShard) CoreCall CoreAnswer (ShardWorker G)
worker_done before after cells caller own =
    HasServedAll caller before.number (2 + before.size.shards + before.number) [] own

abbrev pub flusher_done : {M : Type 0} → (M → OpeningCells → Type 0) → (M → M → KeptClaim) → (M → M → Type 0)
    → WorkDone (CoreCell CoreShard) CoreCall CoreAnswer (FlusherWork M)
flusher_done serves has_kept becomes before after cells caller own = HasFlushedAll serves has_kept becomes
    before.size.shards before.size.sessions before.maker after.maker after.last_round cells caller own

module _ {M : Type 0} (serves : M → OpeningCells → Type 0) (has_kept : M → M → KeptClaim) (becomes : M → M → Type 0) where
  flusher_ends : (size : CoreSize) (maker : M) (cells : OpeningCells) (began : Bool) (caller : ℕ)
      (own : List CoreEntry) (f f' : FlusherWork M) → f.size ≡ size → f.maker ≡ maker → f.last_round ≡ None
      → EndsAs (flusher_done serves has_kept becomes) cells began caller own f f'
      → FlusherEnds serves has_kept becomes began size.shards size.sessions maker f'.maker f'.last_round cells caller
      own
  flusher_ends size maker cells true caller own f f' size-is maker-is none e =
      coe 0 1 (i. HasFlushedAll serves has_kept becomes (size-is i).shards (size-is i).sessions (maker-is i) f'.maker
      f'.last_round cells caller own) e
  flusher_ends size maker cells false caller own f f' size-is maker-is none e = (
    e.0,
    ap (λ (f : FlusherWork M). f.maker) e.1 ∙ maker-is,
    ap (λ (f : FlusherWork M). f.last_round) e.1 ∙ none,
  )

-- The works of a core as tasks with their callers, and what these came to.
module _ (C W M G : Type 0) (g : Ghosts C (CoreCell CoreShard) CoreCall CoreAnswer) where
  abbrev pub Begun : Type 0
  Begun = AllTasks C ClosingMain (NumberedWork W) (ShardWorker G) (FlusherWork M) (CoreCell CoreShard) CoreCall
      CoreAnswer g

  abbrev pub AllEnded : Type 0
  AllEnded = Ended C ClosingMain (NumberedWork W) (ShardWorker G) (FlusherWork M) (CoreCell CoreShard) CoreCall
      CoreAnswer g

-- A history from the cells is a run of the core, in whichever way that opens with them.
abbrev pub AreRuns : Type 0
AreRuns = (o : Opening) (callers : ℕ) (opening cells : List (CoreCell CoreShard)) (log : List CoreEntry)
    → OpensCells FitsShard CoreShardStands ShardAnswerSays o opening log
    → IsHistoryTo (CoreStep CoreShardStep) (FitsOwnCalls FitsShard CoreShardStands ShardAnswerSays) callers opening
    cells log → IsRunTo o cells log

module _ {C W M G : Type 0} {g : Ghosts C (CoreCell CoreShard) CoreCall CoreAnswer} (may : SessionMay W)
    (done : SessionDone W) (serves : M → OpeningCells → Type 0) (has_kept : M → M → KeptClaim) (becomes : M → M → Type 0)
    (size : CoreSize) (callers : ℕ) (cells : OpeningCells) (works : List W) (maker : M) (tasks : Begun C W M G g)
    (e : AllEnded C W M G g) (all : callers ≡ size.sessions + 2 + size.shards)
    (given : MayRun may serves has_kept size.shards size.sessions cells works maker)
    (are : AreTasksOf size works maker tasks)
    (run : HaveRun (CoreStep CoreShardStep) (FitsOwnCalls FitsShard CoreShardStands ShardAnswerSays) main_stopped
    main_ended (numbered_done done) worker_done (flusher_done serves has_kept becomes) callers cells e.played.began
    e.played.flushed tasks.main.work e.played.main.work tasks.sessions.items e.played.sessions.items
    tasks.workers.items e.workers.items tasks.flusher.work e.played.flusher.work e.cells.items) (are_runs : AreRuns)
  where
    abbrev number : ℕ
    number = size.sessions + 1 + size.shards

    sessions_are : length tasks.sessions.items ≡ size.sessions
    sessions_are = are.sessions.as_many ∙ given.as_many

    run_to : (o : Opening) → OpensCells FitsShard CoreShardStands ShardAnswerSays o cells run.log
        → IsRunTo o e.cells.items run.log
    run_to o opens = are_runs o callers cells e.cells.items run.log opens run.history

    as_many_shards : (o : Opening) → OpensCells FitsShard CoreShardStands ShardAnswerSays o cells run.log
        → o.shards ≡ size.shards
    as_many_shards o opens = let a = opens.long in let b = given.opened.over.long in omega (arith, a, b)

    -- What is left begins with a desk, names and all shards.
    pub core_left : BeginWithCore size.shards e.cells.items
    core_left =
        let o = opening_over given.opened.kept size.shards size.sessions run.log in
        let to = run_to o (given.opened.opens run.log) in
        core_there o to.es e.cells.items (run.history.long ∙ given.opened.over.long) to.stand

    -- So many works come back.
    pub works_left : size.sessions ≤ length e.played.sessions.items
    works_left =
        let enough = long_enough done cells run.play.before.played.moment run.log e.played.began works
        tasks.sessions.items e.played.sessions.items are.sessions.as_many are.sessions.each run.play.before.played.each
        in let many = given.as_many in omega (arith, enough, many)

    flusher_is : 1 + length tasks.sessions.items + length tasks.workers.items ≡ number
    flusher_is = let s = sessions_are in let w = are.workers in omega (arith, s, w)

    flusher_by : EndsBy (flusher_done serves has_kept becomes) cells run.play.before.moment run.log e.played.flushed
        number tasks.flusher.work e.played.flusher.work
    flusher_by =
        subst (λ n. EndsBy (flusher_done serves has_kept becomes) cells run.play.before.moment run.log e.played.flushed
        n tasks.flusher.work e.played.flusher.work) flusher_is
        (ended_by (flusher_done serves has_kept becomes) cells run.play.before.moment run.log e.played.flushed
        (1 + length tasks.sessions.items + length tasks.workers.items) tasks.flusher.work e.played.flusher.work
        run.play.before.flushes)

    worker_served : (shard : ℕ) → shard < size.shards
        → HasServedAll (size.sessions + 1 + shard) shard (2 + size.shards + shard) []
        (of_caller (size.sessions + 1 + shard) run.log)
    worker_served shard lt =
        let within : shard < length tasks.workers.items = subst (λ n. shard < n) (sym are.workers) lt in
        let d = (there tasks.workers.items shard within).0 in let s = run.serving shard d within in
        let caller : 1 + length tasks.sessions.items + shard ≡ size.sessions + 1 + shard =
        (let same = sessions_are in omega (arith, same)) in
        let shard_is = are.numbers shard d lt in let size_is = are.sizes shard d lt in
        coe 0 1 (i. HasServedAll (caller i) (shard_is i) (2 + (size_is i).shards + shard_is i) []
        ((sym s.tells ∙ ap (λ n. of_caller n run.log) caller) i)) s.ends

    -- What is handed out: what the cells held, the works, and what else the tasks came to.
    abbrev pub handed_out : CoreLeft → Vec W → RanCore W M
    handed_out left back = record {
      left = left;
      sessions = back;
      began = e.played.began;
      maker = e.played.flusher.work.maker;
      last_round = e.played.flusher.work.last_round;
      flushed = e.played.flushed;
      counters = e.played.main.work.counters;
      starter = e.starter;
    }

    module _ (left : CoreLeft) (back : Vec W)
        (works_are : back.items ≡ map work_in (take size.sessions e.played.sessions.items))
        (parts : HoldParts e.cells.items left.desk left.names left.shards.items)
        (as_many : length left.shards.items ≡ size.shards) where
      order : EndInOrder done serves has_kept becomes size.shards size.sessions cells works maker (handed_out left back)
          run.log
      order =
          let b = run.play.before in let main_size = are.main in let many = given.as_many in record {
            played = b.played.moment;
            flushed = b.moment;
            before_flusher = b.played.goes_on;
            before_main = b.goes_on;
            main_waits = b.played.main_waits;
            as_many = as_many_back done cells b.played.moment run.log e.played.began works tasks.sessions.items
                e.played.sessions.items are.sessions.as_many are.sessions.each b.played.each back.items size.sessions
                many works_are ∙ many;
            plays = λ k d lt. sessions_end done cells b.played.moment run.log e.played.began works tasks.sessions.items
                e.played.sessions.items are.sessions.as_many are.sessions.each b.played.each back.items size.sessions
                many works_are k d (subst (λ n. k < n) (sym many) lt);
            stops = coe 0 1 (i. HasClosedFlusher (main_size i).shards (main_size i).sessions (all i) cells
                (sym b.main_waits i)) b.stops.0;
            all_rounds = flusher_by.all;
            flushes = flusher_ends serves has_kept becomes size maker cells e.played.flushed number
                (of_caller number run.log) tasks.flusher.work e.played.flusher.work are.flusher are.maker_is
                are.no_round flusher_by.ends;
            closes = let middle = ap (λ (w : ClosingMain). w.size) b.stops.1 ∙ main_size in
                coe 0 1 (i. HasClosedShards (middle i).shards e.played.began e.played.main.work.counters cells
                (sym b.main_waits i) (of_caller 0 run.log)) run.play.ends;
          }

      left_by : (o : Opening) → OpensCells FitsShard CoreShardStands ShardAnswerSays o cells run.log
          → IsLeftByRun o run.log e.cells.items left
      left_by o opens =
          let to = run_to o opens in
          let count : o.shards ≡ length left.shards.items = as_many_shards o opens ∙ sym as_many
          in record {
            to = to;
            desk = desk_is o to.es e.cells.items left.desk left.names left.shards.items parts to.stand;
            names = names_are o to.es e.cells.items left.desk left.names left.shards.items parts to.stand;
            as_many = sym count;
            shards = λ shard d lt. shard_is o to.es e.cells.items left.desk left.names left.shards.items parts
                to.stand shard d (subst (λ n. shard < n) count lt);
          }

      -- The core has run.
      pub has_run : HasRunOnThreads done serves has_kept becomes size.shards size.sessions cells works maker
          (handed_out left back)
      has_run = record {
        log = run.log;
        left = e.cells.items;
        history = subst (λ n. IsHistoryTo (CoreStep CoreShardStep)
            (FitsOwnCalls FitsShard CoreShardStands ShardAnswerSays) n cells e.cells.items run.log) all run.history;
        parts = parts;
        runs = left_by;
        order = order;
        workers = worker_served;
      }
