use Rattle.std.proofs.Common.{sym, subst}
use Rattle.brick_map.specs.Waiting.{IsReadied}
use Rattle.brick_map.proofs.Readied.{HasRoomAt, readied_room, readied_twice, room_made}
use Rattle.brick_map.proofs.birth.prepare_brick.Goals as goal

pub returns-in_err-prepare-clause-readied : goal.returns-in_err-prepare-clause-readied
returns-in_err-prepare-clause-readied c =
    subst (IsReadied c.args.shape.now c.args.recent.now c.args.list.now) (sym c.in_err-prepare.ensures.err) c.give_birth.ensures.readied

pub returns-clause-readied : goal.returns-clause-readied
returns-clause-readied c =
    let mid = c.give_birth.new.list in
    let shape = c.args.shape.now in
    let recent = c.args.recent.now in
    subst (IsReadied shape recent c.args.list.now) (sym c.in_ok-prepare.ensures.ok)
    (readied_twice shape recent c.args.list.now mid _ c.give_birth.ensures.readied (readied_room shape recent mid c.args.number c.args.rows c.args.entries c.give_birth.ensures.readied.bricks))

pub returns-clause-rows : goal.returns-clause-rows
returns-clause-rows c =
    let room = room_made c.give_birth.new.list c.args.number c.args.rows c.args.entries c.in_ok-give_birth.ensures.there in
    (subst (HasRoomAt c.args.number c.args.rows c.args.entries) (sym c.in_ok-prepare.ensures.ok) room).for_rows

pub returns-clause-entries : goal.returns-clause-entries
returns-clause-entries c =
    let room = room_made c.give_birth.new.list c.args.number c.args.rows c.args.entries c.in_ok-give_birth.ensures.there in
    (subst (HasRoomAt c.args.number c.args.rows c.args.entries) (sym c.in_ok-prepare.ensures.ok) room).for_entries
