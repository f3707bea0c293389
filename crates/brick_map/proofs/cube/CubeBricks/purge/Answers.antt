use Rattle.std.proofs.Common.{All, filter, refl, sym, ap, subst, ◌∙◌, arith}
use Rattle.std.proofs.lemmas.List.Elements.{All-filter}
use Rattle.brick_store.specs.Bricks.{BrickState}
use Rattle.brick_store.proofs.Folds.{set_short}
use Rattle.purge_plan.specs.Purged.{spared_bits}
use Rattle.brick_map.specs.declared.deletion.Deletion.{Deletion}
use Rattle.brick_map.specs.Births.{CubeState, brick_in, content_among, content_purged, rows_count}
use Rattle.brick_map.specs.Lists.{IsBrickOf, brick_purged}
use Rattle.brick_map.specs.Waiting.{IsWaiting, is_above}
use Rattle.brick_map.proofs.Content.{purged_among}
use Rattle.brick_map.proofs.Counts.{count_map}
use Rattle.brick_map.proofs.Cubes.{all_mapped, whole_with}
use Rattle.brick_map.proofs.cube.CubeBricks.purge.Goals as goal

pub count_rows-self-inside-requires : goal.count_rows-self-inside-requires
count_rows-self-inside-requires c =
    let old = c.self.inside in
    let f : BrickState → BrickState = brick_purged c.args.epoch in
    let fewer = count_map f old.list (λ b. set_short (spared_bits c.args.epoch b.entries) b.rows) in
    let now = ap rows_count (c.as_slice.ensures.items ∙ c.purge.ensures) in
    omega (arith, fewer, now, c.self.invariant.few)

pub invariant_of-self : goal.invariant_of-self
invariant_of-self c =
    let old = c.self.inside in
    let f : BrickState → BrickState = brick_purged c.args.epoch in
    let fewer = count_map f old.list (λ b. set_short (spared_bits c.args.epoch b.entries) b.rows) in
    let now = ap rows_count c.purge.ensures in
    let P : Deletion → Type 0 = IsWaiting old.shape.shape.sizes in
    let bricks = subst (All (IsBrickOf old.shape)) (sym c.purge.ensures) (all_mapped old.shape f old.list (λ b. refl) c.self.invariant.bricks) in
    let recent = subst (All P) (sym c.forget_up_to.ensures) (All-filter (is_above c.args.epoch) P old.recent.items c.self.invariant.recent) in
    whole_with old c.purge.new.self c.forget_up_to.new.recent c.count_rows-self-inside.result c.self.invariant bricks recent (c.count_rows-self-inside.ensures ∙ ap rows_count c.as_slice.ensures.items) (omega (arith, fewer, now, c.self.invariant.few))

pub returns-clause-bricks : goal.returns-clause-bricks
returns-clause-bricks c = λ number.
    let old = c.self.inside in
    (λ t. content_among old.shape.shape.sizes (c.forget_up_to.ensures t) (c.purge.ensures t) number)
    ∙ purged_among old.shape.shape.sizes old.recent.items c.args.epoch number old.list
    ∙ ap (λ (s : CubeState). content_purged c.args.epoch (brick_in s number)) c.self.view_is

pub returns-clause-waits : goal.returns-clause-waits
returns-clause-waits c = c.forget_up_to.ensures ∙ ap (λ (s : CubeState). filter (is_above c.args.epoch) s.recent) c.self.view_is

pub returns-clause-fewer : goal.returns-clause-fewer
returns-clause-fewer c =
    let old = c.self.inside in
    let f : BrickState → BrickState = brick_purged c.args.epoch in
    let fewer = count_map f old.list (λ b. set_short (spared_bits c.args.epoch b.entries) b.rows) in
    let now = ap rows_count c.purge.ensures in
    omega (arith, fewer, now, ap (λ (s : CubeState). rows_count s.bricks) c.self.view_is)
