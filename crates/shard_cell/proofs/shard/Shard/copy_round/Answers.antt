use Rattle.std.proofs.Common.{[], List, Option, None, get_or, length, sym, ap, subst, ◌∙◌}
use Rattle.std.specs.List.{AllZip}
use Rattle.cube_rounds.specs.Bricks.{BrickPart}
use Rattle.brick_map.specs.Births.{CubeState}
use Rattle.shard_cell.specs.Slots.{IsSlotCopy}
use Rattle.shard_cell.specs.Shards.{ShardState, cube_at}
use Rattle.shard_cell.proofs.Slots.{copied_at, long_copied}
use Rattle.shard_cell.proofs.shard.Shard.copy_round.Goals as goal

pub returns-clause-cubes : goal.returns-clause-cubes
returns-clause-cubes c =
    let items = c.self.inside.cubes.items in
    let parts : List (List BrickPart) = c.in_ok-copied.copied.items in
    ap length c.from_vec.ensures
    ∙ long_copied c.args.from c.args.to items parts (subst (λ (l : List (Option CubeState)). AllZip (IsSlotCopy c.args.from c.args.to) l parts) c.as_slice.ensures.value c.in_ok-copied.ensures)
    ∙ c.self.invariant.places

pub returns-clause-parts : goal.returns-clause-parts
returns-clause-parts c = λ cube.
    let items = c.self.inside.cubes.items in
    let parts : List (List BrickPart) = c.in_ok-copied.copied.items in
    let each = copied_at c.args.from c.args.to items parts (subst (λ (l : List (Option CubeState)). AllZip (IsSlotCopy c.args.from c.args.to) l parts) c.as_slice.ensures.value c.in_ok-copied.ensures) cube in
    subst (λ (s : ShardState). IsSlotCopy c.args.from c.args.to (cube_at s cube) (get_or c.from_vec.result cube [])) c.self.view_is
    (subst (λ (l : List (List BrickPart)). IsSlotCopy c.args.from c.args.to (get_or items cube None) (get_or l cube [])) (sym c.from_vec.ensures) each)
