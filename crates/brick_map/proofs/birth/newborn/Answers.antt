use Rattle.std.proofs.Common.{◌<◌, ap, sym, subst, ◌∙◌, arith}
use Rattle.std.proofs.lemmas.List.{take_all}
use Rattle.std.proofs.lemmas.List.Elements.{All-get_or}
use Rattle.cube_values.specs.Shapes.{bricks_of}
use Rattle.brick_store.specs.Bricks.{BrickState, Home}
use Rattle.brick_map.specs.Births.{content_of_brick, newborn}
use Rattle.brick_map.specs.Waiting.{IsWaiting}
use Rattle.brick_map.proofs.Newborn.{born_more, deleted_home, deleted_spare, may_mark}
use Rattle.brick_map.proofs.birth.newborn.Goals as goal

pub deletions-init : goal.deletions-init
deletions-init c =
    let e = c.in_ok-prepare.ensures.ok in
    let n = c.in_ok-brick.ensures in
    record {
      home = ap (λ (b : BrickState). b.home) e ∙ ap (λ (b : BrickState). b.home) n;
      content = ap content_of_brick e ∙ ap content_of_brick n;
      spare = omega (arith, ap (λ (b : BrickState). b.spare_entries) e);
    }

pub delete_from-requires-clause-parts : goal.delete_from-requires-clause-parts
delete_from-requires-clause-parts c =
    let d = c.deletion-item.result in
    (subst (IsWaiting c.args.shape.now.shape.sizes) (sym c.deletion-item.is) (All-get_or (IsWaiting c.args.shape.now.shape.sizes) c.args.recent.now c.deletions.deletion-index d (omega arith) c.requires.recent)).parts

pub delete_from-requires-clause-whole : goal.delete_from-requires-clause-whole
delete_from-requires-clause-whole c =
    let d = c.deletion-item.result in
    (subst (IsWaiting c.args.shape.now.shape.sizes) (sym c.deletion-item.is) (All-get_or (IsWaiting c.args.shape.now.shape.sizes) c.args.recent.now c.deletions.deletion-index d (omega arith) c.requires.recent)).whole

pub delete_from-requires-clause-brick : goal.delete_from-requires-clause-brick
delete_from-requires-clause-brick c =
    subst (λ (home : Home). home.number < bricks_of c.args.shape.now.shape.sizes) (sym c.deletions.invariant.home) c.requires.number

pub delete_from-requires-clause-room : goal.delete_from-requires-clause-room
delete_from-requires-clause-room c =
    may_mark c.args.shape.now.shape.sizes c.deletion-item.result.span c.deletions.brick (omega (arith, c.deletions.invariant.spare))

pub deletions-preserved : goal.deletions-preserved
deletions-preserved c =
    let l = c.deletions in
    let sizes = c.args.shape.now.shape.sizes in
    let d = c.deletion-item.result in
    let made = c.delete_from.ensures in
    record {
      home = ap (λ (b : BrickState). b.home) made ∙ deleted_home sizes d.span d.epoch l.brick ∙ l.invariant.home;
      content = ap content_of_brick made ∙ born_more sizes c.args.recent.now l.deletion-index c.args.number d l.brick (omega arith) c.deletion-item.is (ap (λ (home : Home). home.number) l.invariant.home) l.invariant.content;
      spare = omega (arith, l.invariant.spare, deleted_spare sizes d.span d.epoch l.brick, ap (λ (b : BrickState). b.spare_entries) made);
    }

pub returns-clause-content : goal.returns-clause-content
returns-clause-content c =
    c.deletions.invariant.content ∙ ap (λ l. newborn c.args.shape.now.shape.sizes l c.args.number) (take_all c.deletions.deletion-index c.args.recent.now (omega arith))
