use Rattle.std.proofs.Common.{rules, arith, ℕ, ◌≡◌, ◌*◌, length, get_or, sym, ap, ◌∙◌}
use Rattle.std.proofs.lemmas.Grind.{common_steps}
use Rattle.turn_board.proofs.Ends.{opens, zero_at, replicate_length}
use Rattle.turn_board.proofs.Gathering.{new_idle, new_shut, new_numbers, new_count}
use Rattle.turn_board.proofs.board.Board.new.Goals as goal

pub new-requires : goal.new-requires
new-requires g c =
    let opening = c.of-2.result.value.items in let words = c.as_slice.result.now in let n : ℕ = c.len-count.result in
    let same = ap (λ v. v.items) c.of-2.ensures in
    let many : n ≡ length c.args.cells.items = first_of (search rules, grind (arith, common_steps)) in
    let e = c.as_slice.ensures.value ∙ c.in-Ok.ensures.words in
    opens g.C.Cells.step g.C.Cells.fits opening c.args.callers words c.into_lanes-lanes.result.0.items
    c.requires.few_callers
    (ap length e ∙ (replicate_length (16 * n) 0 ∙ ap (λ k. 16 * k) (many ∙ ap length (sym same))))
    (λ k. ap (λ w. get_or w k 0) e ∙ zero_at (16 * n) k 0)
    (c.into_lanes-lanes.ensures.lanes ∙ sym same)

pub invariant_of-pass : goal.invariant_of-pass
invariant_of-pass g c =
    let opening = c.of-2.result.value.items in let m = c.in-Ok-new.seat.me in let e = c.in-Ok-new.ensures.ok.4 in
    record {
      idle = new_idle opening c.args.callers m e c.requires.some_caller;
      unshut = new_shut opening c.args.callers m e;
      numbered = c.in-Ok.ensures.numbers ∙ sym (new_numbers opening c.args.callers m e);
      counted = sym (new_count opening c.args.callers m e);
    }
