use Rattle.std.proofs.Common.{refl, ap, ◌∙◌, subst, sym}
use Rattle.board_callers.specs.Callers.{first_calls, other_hands}
use Rattle.turn_board.specs.Hands.{first_number}
use Rattle.turn_board.specs.Passes.{hands_of, opening_of}
use Rattle.threaded_callers.proofs.Hands.{alone}
use Rattle.threaded_callers.proofs.Tasks.{pass_of, view_is}
use Rattle.threaded_callers.proofs.helping.work_helping.Goals as goal

pub returns : goal.returns
returns g c number held =
    let done = g.W.CallerWork.has_done in
    let b = c.args.board.now in
    let t = c.take_pass-pass in
    let p = t.result in
    let q = c.work.new.caller.pass in
    let own = first_calls (hands_of q) in
    let before = ap (λ v. v.hands) (sym (view_is c.args.task.now p t.ensures.pass)) ∙ held.hands_are in
    let of = pass_of b c.args.task.now p t.ensures.pass held.of in
    let e = c.work.ensures in
    record {
      own = own;
      held = record {
        of = record { pass = q; is = c.give.ensures.pass; of = e.board };
        hands_are = ap (λ v. v.hands) (view_is c.give.new.self q c.give.ensures.pass)
            ∙ alone (hands_of q) number own e.board.some (e.number ∙ ap (λ hs. first_number hs) before) refl
            (e.others ∙ ap (λ hs. other_hands hs) before);
      };
      work = subst (λ w. done w c.give.new.self.work (opening_of b) number own) t.ensures.work
          (subst (λ w. done t.new.self.work w (opening_of b) number own) (sym c.give.ensures.work)
          (subst (λ n. done t.new.self.work c.work.new.self (opening_of b) n own) (ap (λ hs. first_number hs) before)
          (subst (λ o. done t.new.self.work c.work.new.self o (first_number (hands_of p)) own) of.opening e.done)));
    }
