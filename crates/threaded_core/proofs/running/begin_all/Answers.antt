use Rattle.std.proofs.Common.{◌+◌, ◌<◌, length, slice_index_or, sym, ap, ◌∙◌, subst, arith}
use Rattle.turn_board.specs.Passes.{callers_of, opening_of}
use Rattle.threaded_core.proofs.BeginningTasks.{flusher_begins, main_begins, worker_begins}
use Rattle.threaded_core.proofs.WorkLists.{session_begins, tasks_given}
use Rattle.threaded_core.proofs.running.begin_all.Goals as goal

pub with_callers-requires-clause-main : goal.with_callers-requires-clause-main
with_callers-requires-clause-main g c =
    let b = c.args.board.now in let size = c.args.size in let o = c.requires.may.opened in
    let all = c.requires.callers in
    main_begins size (callers_of b) (opening_of b) c.new.result.work (ap (λ w. w.size) c.new.ensures)
    (c.callers_of_an_opened_core_may_begin.ensures.main o.kept size.shards size.sessions (callers_of b) (opening_of b)
    o.over o.opens c.requires.may.some (omega (arith, all)))

pub with_callers-requires-clause-sessions : goal.with_callers-requires-clause-sessions
with_callers-requires-clause-sessions g c k d lt =
    let b = c.args.board.now in let size = c.args.size in let m = c.requires.may in let n = c.session_tasks.ensures in
    let here : k < length c.args.works.items = subst (λ l. k < l) n.as_many lt in
    session_begins g.W.CallerWork.may_begin (opening_of b) c.args.works.items c.session_tasks.result.items n k d
    (size.sessions + 2 + size.shards) (callers_of b) (sym c.requires.callers) here
    (λ e. m.begin k e (subst (λ l. k < l) m.as_many here))

pub with_callers-requires-clause-workers : goal.with_callers-requires-clause-workers
with_callers-requires-clause-workers g c k d lt =
    let b = c.args.board.now in let size = c.args.size in let o = c.requires.may.opened in
    let w = c.worker_tasks.ensures in let all = c.requires.callers in
    let here : k < size.shards = subst (λ l. k < l) w.long lt in
    let n = c.session_tasks.ensures.as_many in let many = c.requires.may.as_many in
    worker_begins size (callers_of b) (opening_of b) (slice_index_or c.worker_tasks.result.items k d).work k
    (1 + length c.session_tasks.result.items + k) (w.sizes k d here) (w.numbers k d here) (omega (arith, n, many))
    (c.callers_of_an_opened_core_may_begin.ensures.worker o.kept size.shards size.sessions (callers_of b) k
    (opening_of b) o.over o.opens here (omega (arith, all)))

pub with_callers-requires-clause-flusher : goal.with_callers-requires-clause-flusher
with_callers-requires-clause-flusher g c =
    let b = c.args.board.now in let size = c.args.size in let m = c.requires.may in let o = m.opened in
    let all = c.requires.callers in
    let n = c.session_tasks.ensures.as_many in let many = m.as_many in let w = c.worker_tasks.ensures.long in
    flusher_begins size (callers_of b) (opening_of b) g.M.MakesRounds.serves g.M.MakesRounds.has_kept
    c.new-2.result.work c.args.maker (1 + length c.session_tasks.result.items + length c.worker_tasks.result.items)
    (ap (λ w. w.size) c.new-2.ensures) (ap (λ w. w.maker) c.new-2.ensures) (omega (arith, n, many, w))
    (c.callers_of_an_opened_core_may_begin.ensures.flusher o.kept size.shards size.sessions (callers_of b) c.args.maker
    (opening_of b) o.over o.opens m.some (omega (arith, all)) m.keeps)

pub returns-clause-tasks : goal.returns-clause-tasks
returns-clause-tasks g c =
    let e = c.with_callers.ensures in let w = c.worker_tasks.ensures in let n = c.session_tasks.ensures in
    record {
      main = ap (λ w. w.size) (e.main_work ∙ c.new.ensures);
      sessions = tasks_given c.args.works.items c.session_tasks.result.items c.with_callers.result.sessions.items n
          e.as_many_sessions e.sessions_work;
      workers = e.as_many_workers ∙ w.long;
      numbers = λ k d lt. ap (λ w. w.number) (e.workers_work k d (subst (λ l. k < l) (sym w.long) lt))
          ∙ w.numbers k d lt;
      sizes = λ k d lt. ap (λ w. w.size) (e.workers_work k d (subst (λ l. k < l) (sym w.long) lt)) ∙ w.sizes k d lt;
      flusher = ap (λ w. w.size) (e.flusher_work ∙ c.new-2.ensures);
      maker_is = ap (λ w. w.maker) (e.flusher_work ∙ c.new-2.ensures);
      no_round = ap (λ w. w.last_round) (e.flusher_work ∙ c.new-2.ensures);
    }
