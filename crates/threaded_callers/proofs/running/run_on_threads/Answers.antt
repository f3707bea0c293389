use Rattle.std.proofs.Common.{◌≡◌, ◌+◌, ◌<◌, ℕ, true, length, drop, slice_index_or, sym, ◌∙◌, subst, arith}
use Rattle.turn_board.specs.Passes.{view_of, opening_of}
use Rattle.threaded_callers.specs.Ends.{AllEnd, InHistory}
use Rattle.threaded_callers.specs.Hands.{AreAmong}
use Rattle.threaded_callers.specs.Tasks.{IsTaskOf, hands_in, others_in}
use Rattle.threaded_callers.proofs.Elements.{taken}
use Rattle.threaded_callers.proofs.Tasks.{view_is}
use Rattle.threaded_callers.proofs.WholeRuns.{history, main_shut, workers_shut}
use Rattle.threaded_callers.proofs.running.run_on_threads.Goals as goal

pub gather_into-requires-clause-main : goal.gather_into-requires-clause-main
gather_into-requires-clause-main g c =
    (c.serve-served.ensures.ended (1 + length c.args.sessions.items + length c.args.workers.items)
    c.requires.flush.held).of

pub gather_into-requires-clause-number : goal.gather_into-requires-clause-number
gather_into-requires-clause-number g c =
    (c.serve-served.ensures.ended (1 + length c.args.sessions.items + length c.args.workers.items)
    c.requires.flush.held).number_is

pub gather_into-requires-clause-tasks : goal.gather_into-requires-clause-tasks
gather_into-requires-clause-tasks g c =
    let p = c.serve-served in
    subst (λ l. (k : ℕ) (d : _) → k < length l → IsTaskOf c.args.board (slice_index_or l k d))
    (sym c.as_mut_slice.ensures.value)
    (λ k d lt. let lt0 : k < length c.args.workers.items = subst (λ n. k < n) p.ensures.long lt in
    (p.ensures.worked k d lt0 (1 + length c.args.sessions.items + k) (c.requires.serve k d lt0).held).held.of)

pub returns-clause-run : goal.returns-clause-run
returns-clause-run g c =
    let b = c.args.board in let p = c.serve-served in
    let number = 1 + length c.args.sessions.items + length c.args.workers.items in
    let f = p.ensures.ended number c.requires.flush.held in let e = c.gather_into.ensures in
    let played = p.result.served.played in let m = played.main in let m1 = c.gather_into.new.main in
    let t = c.take_pass-pass in let v = view_of t.result in
    let shut = c.shut-cells.ensures in let cells = c.shut-cells.result.items in
    let view = view_is m1 t.result t.ensures.pass in
    let step = g.C.Cells.step in let fits = g.C.Cells.fits in
    let w2 = p.result.served.workers.items in let w3 = c.gather_into.new.tasks in
    let long : length w3 ≡ p.result.served.workers.len = omega (arith, c.as_mut_slice.ensures.len) in
    record {
      log = shut.log;
      history = history b step fits m m1 v cells shut view e.main f.number_is e.keeps;
      play = main_shut b step fits m m1 v cells shut view e.main f.number_is e.keeps g.M.MainWork.has_stopped
          g.M.MainWork.has_ended g.W.CallerWork.has_done g.F.CallerWork.has_done played.began played.flushed number c.args.main
          c.args.sessions.items played.sessions.items c.args.flusher played.flusher t.new.self.work f
          (t.ensures.work ∙ e.work);
      serving = subst (λ l. AllEnd g.K.CallerWork.has_done (opening_of b) (InHistory shut.log) true
          (1 + length c.args.sessions.items) c.args.workers.items l)
          (sym (taken p.result.served.workers.len w3 (drop (length w3) w2) long))
          (workers_shut b step fits m m1 v cells shut view e.main f.number_is e.keeps g.K.CallerWork.may_begin
          g.K.CallerWork.has_done (1 + length c.args.sessions.items) c.args.workers.items w2 w3 c.requires.serve
          p.ensures.long p.ensures.worked
          (subst (λ l. (k : ℕ) (d : _) → k < length l → (slice_index_or w3 k d).work ≡ (slice_index_or l k d).work)
          c.as_mut_slice.ensures.value e.works)
          (subst (λ l. (k : ℕ) (d : _) → k < length l → AreAmong (hands_in (slice_index_or l k d)) (others_in m1))
          c.as_mut_slice.ensures.value e.gathered));
    }

pub serve-served-requires-clause-may : goal.serve-served-requires-clause-may
serve-served-requires-clause-may g c κs within = c.requires.play

pub serve-served-requires-clause-workers : goal.serve-served-requires-clause-workers
serve-served-requires-clause-workers g c κs within = c.requires.serve

pub serve-served-requires-clause-flusher : goal.serve-served-requires-clause-flusher
serve-served-requires-clause-flusher g c κs within =
    (1 + length c.args.sessions.items + length c.args.workers.items, c.requires.flush)

pub returns-clause-threads : goal.returns-clause-threads
returns-clause-threads g c = c.serve-served.ensures.threads

pub returns-clause-first : goal.returns-clause-first
returns-clause-first g c = c.serve-served.ensures.first
