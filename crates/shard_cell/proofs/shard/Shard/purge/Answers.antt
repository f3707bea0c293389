use Rattle.std.proofs.Common.{List, Option, None, get_or, length, filter, sum_by, refl, sym, ap, subst, ◌∙◌, arith}
use Rattle.std.specs.List.{AllZip}
use Rattle.brick_map.specs.Births.{CubeState, content_purged}
use Rattle.brick_map.specs.Waiting.{is_above}
use Rattle.shard_cell.specs.Slots.{HasShape, IsSlotAfter, slot_brick, slot_rows, slot_waits}
use Rattle.shard_cell.specs.Shards.{ShardState, cube_at, shard_brick, shard_rows, shard_waits}
use Rattle.shard_cell.proofs.Places.{after_at, fewer_after, items_kept, long_after}
use Rattle.shard_cell.proofs.shard.Shard.purge.Goals as goal

pub count_rows-self-inside-requires : goal.count_rows-self-inside-requires
count_rows-self-inside-requires c =
    let old = c.self.inside in
    let change = content_purged c.args.epoch in
    let stays = is_above c.args.epoch in
    let new = c.purge_each.new.cubes in
    let all : AllZip (IsSlotAfter change stays) old.cubes.items new = subst (λ (l : List (Option CubeState)). AllZip (IsSlotAfter change stays) l new) c.as_mut_slice.ensures.value c.purge_each.ensures in
    let items = items_kept old.cubes new (long_after change stays refl old.cubes.items new all) in
    let fewer = fewer_after change stays refl old.cubes.items new all in
    let now = ap (sum_by slot_rows) (c.as_slice.ensures.value ∙ items) in
    omega (arith, fewer, now, c.self.invariant.rows, c.self.invariant.few, c.self.invariant.limit)

pub invariant_of-self : goal.invariant_of-self
invariant_of-self c =
    let old = c.self.inside in
    let change = content_purged c.args.epoch in
    let stays = is_above c.args.epoch in
    let new = c.purge_each.new.cubes in
    let all : AllZip (IsSlotAfter change stays) old.cubes.items new = subst (λ (l : List (Option CubeState)). AllZip (IsSlotAfter change stays) l new) c.as_mut_slice.ensures.value c.purge_each.ensures in
    let items = items_kept old.cubes new (long_after change stays refl old.cubes.items new all) in
    let fewer = fewer_after change stays refl old.cubes.items new all in
    let now = ap (sum_by slot_rows) items in
    let counted = c.count_rows-self-inside.ensures ∙ ap (sum_by slot_rows) c.as_slice.ensures.value in
    record {
      places = ap length items ∙ long_after change stays refl old.cubes.items new all ∙ c.self.invariant.places;
      rows = counted;
      few = omega (arith, fewer, now, counted, c.self.invariant.rows, c.self.invariant.few);
      limit = c.self.invariant.limit;
    }

pub returns-clause-bricks : goal.returns-clause-bricks
returns-clause-bricks c = λ cube number.
    let old = c.self.inside in
    let change = content_purged c.args.epoch in
    let stays = is_above c.args.epoch in
    let new = c.purge_each.new.cubes in
    let all : AllZip (IsSlotAfter change stays) old.cubes.items new = subst (λ (l : List (Option CubeState)). AllZip (IsSlotAfter change stays) l new) c.as_mut_slice.ensures.value c.purge_each.ensures in
    let items = items_kept old.cubes new (long_after change stays refl old.cubes.items new all) in
    ap (λ (l : List (Option CubeState)). slot_brick (get_or l cube None) number) items
    ∙ (after_at change stays refl old.cubes.items new all cube).bricks number
    ∙ ap (λ (s : ShardState). change (shard_brick s cube number)) c.self.view_is

pub returns-clause-waits : goal.returns-clause-waits
returns-clause-waits c = λ cube.
    let old = c.self.inside in
    let change = content_purged c.args.epoch in
    let stays = is_above c.args.epoch in
    let new = c.purge_each.new.cubes in
    let all : AllZip (IsSlotAfter change stays) old.cubes.items new = subst (λ (l : List (Option CubeState)). AllZip (IsSlotAfter change stays) l new) c.as_mut_slice.ensures.value c.purge_each.ensures in
    let items = items_kept old.cubes new (long_after change stays refl old.cubes.items new all) in
    ap (λ (l : List (Option CubeState)). slot_waits (get_or l cube None)) items
    ∙ (after_at change stays refl old.cubes.items new all cube).waits
    ∙ ap (λ (s : ShardState). filter stays (shard_waits s cube)) c.self.view_is

pub returns-clause-fewer : goal.returns-clause-fewer
returns-clause-fewer c =
    let old = c.self.inside in
    let change = content_purged c.args.epoch in
    let stays = is_above c.args.epoch in
    let new = c.purge_each.new.cubes in
    let all : AllZip (IsSlotAfter change stays) old.cubes.items new = subst (λ (l : List (Option CubeState)). AllZip (IsSlotAfter change stays) l new) c.as_mut_slice.ensures.value c.purge_each.ensures in
    let items = items_kept old.cubes new (long_after change stays refl old.cubes.items new all) in
    let fewer = fewer_after change stays refl old.cubes.items new all in
    let now = ap (sum_by slot_rows) items in
    omega (arith, fewer, now, ap shard_rows c.self.view_is)

pub returns-clause-shapes : goal.returns-clause-shapes
returns-clause-shapes c = λ shapes had cube.
    let old = c.self.inside in
    let change = content_purged c.args.epoch in
    let stays = is_above c.args.epoch in
    let new = c.purge_each.new.cubes in
    let all : AllZip (IsSlotAfter change stays) old.cubes.items new = subst (λ (l : List (Option CubeState)). AllZip (IsSlotAfter change stays) l new) c.as_mut_slice.ensures.value c.purge_each.ensures in
    let items = items_kept old.cubes new (long_after change stays refl old.cubes.items new all) in
    let before = subst (λ (s : ShardState). HasShape (shapes cube) (cube_at s cube)) (sym c.self.view_is) (had cube) in
    subst (λ (l : List (Option CubeState)). HasShape (shapes cube) (get_or l cube None)) (sym items) ((after_at change stays refl old.cubes.items new all cube).shape (shapes cube) before)
