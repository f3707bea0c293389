use Rattle.std.proofs.Common.{All, ap, subst, sym, arith}
use Rattle.std.proofs.lemmas.List.{take_all}
use Rattle.std.proofs.lemmas.List.Elements.{All-get_or, All-more, All-nil}
use Rattle.epochs_vector.specs.Seen.{seen_rows}
use Rattle.brick_store.proofs.Folds.{gains_none, gains_same}
use Rattle.brick_map.specs.Births.{rows_found}
use Rattle.brick_map.specs.Lists.{IsAsked, OwnsRows}
use Rattle.brick_map.proofs.Scans.{found_more, room_for_next}
use Rattle.brick_map.proofs.passes.scan_each.Goals as goal

pub loop-brick-init : goal.loop-brick-init
loop-brick-init c = record { found = gains_none c.args.query.now c.args.into.now.groups; own = All-nil OwnsRows }

pub scan-requires-clause-sound : goal.scan-requires-clause-sound
scan-requires-clause-sound c =
    let b = c.brick-item.result in
    (subst (IsAsked c.args.query.now) (sym c.brick-item.is) (All-get_or (IsAsked c.args.query.now) c.args.bricks.now c.loop-brick.brick-index b (omega arith) c.requires.sound)).sound

pub scan-requires-clause-parts : goal.scan-requires-clause-parts
scan-requires-clause-parts c =
    let b = c.brick-item.result in
    (All-get_or (IsAsked c.args.query.now) c.args.bricks.now c.loop-brick.brick-index b (omega arith) c.requires.sound).parts

pub scan-requires-clause-room : goal.scan-requires-clause-room
scan-requires-clause-room c =
    let l = c.loop-brick in
    let b = c.brick-item.result in
    room_for_next c.args.query.now (seen_rows c.args.snapshot.now) c.args.bricks.now l.brick-index b c.args.into.now.groups l.into.groups (omega arith) c.brick-item.is c.requires.room l.invariant.found

pub loop-brick-preserved : goal.loop-brick-preserved
loop-brick-preserved c =
    let l = c.loop-brick in
    let b = c.brick-item.result in
    record {
      found = found_more c.args.query.now (seen_rows c.args.snapshot.now) c.args.bricks.now l.brick-index b c.args.into.now.groups l.into.groups c.scan.new.into.groups (omega arith) c.brick-item.is l.invariant.found c.in_ok-scan.ensures;
      own = All-more OwnsRows c.args.bricks.now l.brick-index b (omega arith) l.invariant.own (subst OwnsRows c.brick-item.is c.len-rows.ensures.sound);
    }

pub returns : goal.returns
returns c =
    let l = c.loop-brick in
    let all = take_all l.brick-index c.args.bricks.now (omega arith) in
    record {
      found = gains_same c.args.query.now _ _ _ _ (ap (rows_found c.args.query.now.span c.args.snapshot.now) all) l.invariant.found;
      own = subst (All OwnsRows) all l.invariant.own;
    }
