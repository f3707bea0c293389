use Rattle.std.proofs.Common.{ap, ◌∙◌, ◌≡◌, length, List, [], ◌∷◌, ◌++◌, arith}
use Rattle.brick_store.specs.Bricks.{BrickState}
use Rattle.brick_map.specs.Places.{brick_place}
use Rattle.brick_map.proofs.Placed.{placed_born}
use Rattle.brick_map.proofs.list.BrickList.add.Goals as goal

pub invariant_of-self-2 : goal.invariant_of-self-2
invariant_of-self-2 c =
    let old = c.self.inside in
    let none = ap (brick_place c.args.number) c.self.view_is ∙ c.requires.new in
    let items = c.push_reserved.ensures.items ∙ ap (λ (l : List BrickState). l ++ c.args.brick ∷ []) c.in_ok-reserve.ensures.items in
    let count : c.len.result ≡ length old.bricks.items = omega (arith, c.len.ensures, c.in_ok-reserve.ensures.len, old.bricks.ok.0) in
    placed_born old c.push_reserved.new.self c.insert.new.self c.args.brick c.args.number c.len.result c.self.invariant c.requires.number none items count c.in_ok-insert.ensures.updates.0
