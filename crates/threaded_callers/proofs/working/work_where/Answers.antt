use Rattle.std.proofs.Common.{◌≡◌, ◌+◌, ◌<◌, [], MatchBool, length, sym, subst, slice_index_or, arith}
use Rattle.turn_board.specs.Passes.{opening_of}
use Rattle.threaded_callers.proofs.working.work_where.Goals as goal

pub finish_all-requires : goal.finish_all-requires
finish_all-requires g c =
    let ready = c.requires.ready in
    record {
      done = λ k d lt.
          let lt0 : k < length c.args.tasks.now = omega arith in
          let begun = ready.1 k d lt0 in
          let r = c.work_all.ensures k d lt0 (ready.0 + k) begun.held in (
            ready.0 + k,
            (slice_index_or c.args.tasks.now k d).work,
            record { own = r.own; held = r.held; may_begin = begun.may_begin; work = r.work },
          );
    }

pub returns-then-begins : goal.returns-then-begins
returns-then-begins g c from k d ready lt =
    let begun = ready k d lt in
    let r = c.work_all.ensures k d lt (from + k) begun.held in
    let lt1 : k < length c.work_all.new.tasks = omega arith in
    let before = slice_index_or c.args.tasks.now k d in let after = slice_index_or c.finish_all.new.tasks k d in
    let s =
    c.finish_all.ensures k d lt1 (from + k) before.work
    (record { own = r.own; held = r.held; may_begin = begun.may_begin; work = r.work })
    in
    record {
      own = s.own;
      held = s.held;
      ends = subst (λ b. MatchBool b
          (g.W.CallerWork.has_done before.work after.work (opening_of c.args.board.now) (from + k) s.own)
          ((s.own ≡ []) × (after.work ≡ before.work))) (sym c.if-begins.true) s.work;
    }
