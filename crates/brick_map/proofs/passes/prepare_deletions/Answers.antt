use Rattle.std.proofs.Common.{◌+◌, All, take, get_or, refl, ap, sym, ◌∙◌, subst, arith}
use Rattle.std.proofs.lemmas.List.{take_more_set, take_all}
use Rattle.std.proofs.lemmas.List.Elements.{All-get_or, All-push}
use Rattle.cube_values.specs.Shapes.{bricks_of}
use Rattle.brick_columns.proofs.InPlace.{each_here, each_more, each_left, each_all}
use Rattle.brick_map.specs.Lists.{HasNumberBelow, HasSame, MayMark, brick_before_deletion}
use Rattle.brick_map.proofs.Scans.{before_may, before_same}
use Rattle.brick_map.proofs.passes.prepare_deletions.Goals as goal

pub prepare_deletion-requires-clause-brick : goal.prepare_deletion-requires-clause-brick
prepare_deletion-requires-clause-brick c =
    let l = c.loop-brick in
    let old = c.args.bricks.now in
    let b = c.brick-item.result in
    let here = each_here HasSame old old l.bricks l.brick-index b l.invariant.same in
    subst (HasNumberBelow (bricks_of c.args.shape.now.sizes)) (sym here) (All-get_or (HasNumberBelow (bricks_of c.args.shape.now.sizes)) old l.brick-index b (omega arith) c.requires.bricks)

pub loop-brick-preserved : goal.loop-brick-preserved
loop-brick-preserved c =
    let l = c.loop-brick in
    let old = c.args.bricks.now in
    let sizes = c.args.shape.now.sizes in
    let box = c.args.span.now in
    let b = c.brick-item.result in
    let new = c.prepare_deletion.new.brick in
    let here = each_here HasSame old old l.bricks l.brick-index b l.invariant.same in
    let made = c.in_ok-prepare_deletion.ensures.ok ∙ ap (brick_before_deletion sizes box) here in
    record {
      same = each_more HasSame old old l.bricks l.brick-index b new (omega arith) (omega arith) (subst (HasSame (get_or old l.brick-index b)) (sym made) (before_same sizes box (get_or old l.brick-index b))) l.invariant.same;
      room = rw (take_more_set l.bricks l.brick-index new (omega arith)) (All-push (MayMark sizes box) (take l.brick-index l.bricks) new l.invariant.room (subst (MayMark sizes box) (sym made) (before_may sizes box (get_or old l.brick-index b))));
    }

pub returns-in_err-prepare_deletion-clause-same : goal.returns-in_err-prepare_deletion-clause-same
returns-in_err-prepare_deletion-clause-same c =
    let l = c.loop-brick in
    let old = c.args.bricks.now in
    let b = c.brick-item.result in
    let new = c.prepare_deletion.new.brick in
    let here = each_here HasSame old old l.bricks l.brick-index b l.invariant.same in
    let made = c.in_err-prepare_deletion.ensures.err ∙ here in
    let step : HasSame (get_or old l.brick-index b) new = subst (HasSame (get_or old l.brick-index b)) (sym made) (record { home = refl; rows = refl; entries = refl }) in
    let front = each_more HasSame old old l.bricks l.brick-index b new (omega arith) (omega arith) step l.invariant.same in
    each_left HasSame (λ v. record { home = refl; rows = refl; entries = refl }) old _ (l.brick-index + 1) front

pub returns : goal.returns
returns c =
    let l = c.loop-brick in
    let old = c.args.bricks.now in
    record {
      same = each_all HasSame old old l.bricks l.brick-index (omega arith) (omega arith) l.invariant.same;
      room = subst (All (MayMark c.args.shape.now.sizes c.args.span.now)) (take_all l.brick-index l.bricks (omega arith)) l.invariant.room;
    }
