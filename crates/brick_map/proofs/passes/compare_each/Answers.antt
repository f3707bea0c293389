use Rattle.std.proofs.Common.{All, ap, subst, sym, arith}
use Rattle.std.proofs.lemmas.List.{take_all}
use Rattle.std.proofs.lemmas.List.Elements.{All-get_or, All-more, All-nil}
use Rattle.brick_store.specs.Deltas.{seen_apart}
use Rattle.brick_store.proofs.Folds.{gains_none, gains_same}
use Rattle.brick_map.specs.Births.{rows_found_apart}
use Rattle.brick_map.specs.Lists.{IsAsked, OwnsRows}
use Rattle.brick_map.proofs.Scans.{found_more, room_for_next}
use Rattle.brick_map.proofs.passes.compare_each.Goals as goal

pub loop-brick-init : goal.loop-brick-init
loop-brick-init c = record {
  came = gains_none c.args.query.now c.args.came.now.groups;
  went = gains_none c.args.query.now c.args.went.now.groups;
  own = All-nil OwnsRows;
}

pub delta-requires-clause-sound : goal.delta-requires-clause-sound
delta-requires-clause-sound c =
    let b = c.brick-item.result in
    (subst (IsAsked c.args.query.now) (sym c.brick-item.is) (All-get_or (IsAsked c.args.query.now) c.args.bricks.now c.loop-brick.brick-index b (omega arith) c.requires.sound)).sound

pub delta-requires-clause-parts : goal.delta-requires-clause-parts
delta-requires-clause-parts c =
    let b = c.brick-item.result in
    (All-get_or (IsAsked c.args.query.now) c.args.bricks.now c.loop-brick.brick-index b (omega arith) c.requires.sound).parts

pub delta-requires-clause-came_room : goal.delta-requires-clause-came_room
delta-requires-clause-came_room c =
    let l = c.loop-brick in
    let b = c.brick-item.result in
    room_for_next c.args.query.now (seen_apart c.args.to.now c.args.from.now) c.args.bricks.now l.brick-index b c.args.came.now.groups l.came.groups (omega arith) c.brick-item.is c.requires.came_room l.invariant.came

pub delta-requires-clause-went_room : goal.delta-requires-clause-went_room
delta-requires-clause-went_room c =
    let l = c.loop-brick in
    let b = c.brick-item.result in
    room_for_next c.args.query.now (seen_apart c.args.from.now c.args.to.now) c.args.bricks.now l.brick-index b c.args.went.now.groups l.went.groups (omega arith) c.brick-item.is c.requires.went_room l.invariant.went

pub loop-brick-preserved : goal.loop-brick-preserved
loop-brick-preserved c =
    let l = c.loop-brick in
    let b = c.brick-item.result in
    record {
      came = found_more c.args.query.now (seen_apart c.args.to.now c.args.from.now) c.args.bricks.now l.brick-index b c.args.came.now.groups l.came.groups c.delta.new.came.groups (omega arith) c.brick-item.is l.invariant.came c.in_ok-delta.ensures.came;
      went = found_more c.args.query.now (seen_apart c.args.from.now c.args.to.now) c.args.bricks.now l.brick-index b c.args.went.now.groups l.went.groups c.delta.new.went.groups (omega arith) c.brick-item.is l.invariant.went c.in_ok-delta.ensures.went;
      own = All-more OwnsRows c.args.bricks.now l.brick-index b (omega arith) l.invariant.own (subst OwnsRows c.brick-item.is c.len-rows.ensures.sound);
    }

pub returns : goal.returns
returns c =
    let l = c.loop-brick in
    let all = take_all l.brick-index c.args.bricks.now (omega arith) in
    record {
      came = gains_same c.args.query.now _ _ _ _ (ap (rows_found_apart c.args.query.now.span c.args.to.now c.args.from.now) all) l.invariant.came;
      went = gains_same c.args.query.now _ _ _ _ (ap (rows_found_apart c.args.query.now.span c.args.from.now c.args.to.now) all) l.invariant.went;
      own = subst (All OwnsRows) all l.invariant.own;
    }
