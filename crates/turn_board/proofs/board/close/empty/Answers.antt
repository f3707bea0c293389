use Rattle.std.proofs.Common.{ℕ, ◌≡◌, ◌+◌, suc, Bool, false, List, ◌++◌, [], ◌∷◌, take, get_or, set, sym, ap, ◌∙◌, arith, get_or-set_other}
use Rattle.std.specs.Mem.Slots.{slots_filled, slots_items}
use mathlib.Core.Logic.{dite}
use native.Mathlib.Decide.{ℕ_discrete}
use lib.ListN.{get_elem?}
use Rattle.atomic_table.proofs.Lists.{at_map}
use Rattle.turn_board.specs.Lanes.{lane_value, lane_values}
use Rattle.turn_board.proofs.Ends.{set_false, take_at}
use Rattle.turn_board.proofs.board.close.empty.Goals as goal

pub loop-i-preserved : goal.loop-i-preserved
loop-i-preserved g c =
    let inv = c.loop-i.invariant in let o = c.take.ensures.others in let i : ℕ = c.loop-i.i in
    let filled : List Bool = slots_filled c.loop-i.closed.slots in
    let items = slots_items c.args.closed.slots in
    let here = ap (λ l. get_elem? l i) (sym inv.2) ∙ c.take.ensures.value in
    let value = at_map lane_value items i c.take.result here in
    let next : i + 1 ≡ suc i = omega arith in (
      (λ k above within. let within' = o.2 in ap (λ f. get_or f k false) o.1
          ∙ (get_or-set_other filled i k false false (λ e. omega arith) ∙ inv.0 k (omega arith) (omega arith))),
      (λ k l. ap (λ f. get_or f k false) o.1 ∙ dite (ℕ_discrete k i)
          (λ e. ap (λ n. get_or (set filled i false) n false) e ∙ set_false filled i)
          (λ ne. get_or-set_other filled i k false false ne ∙ inv.1 k (omega (arith, ne)))),
      o.0 ∙ inv.2,
      o.2 ∙ inv.3,
      c.push_reserved.ensures.items
          ∙ ((λ t. inv.4 t ++ c.into_value.ensures t ∷ [])
          ∙ (sym (take_at (lane_values items) i (c.take.result).value value)
          ∙ ap (λ n. take n (lane_values items)) (sym next))),
    )
