use Rattle.std.proofs.Common.{take, All, subst, arith}
use Rattle.std.proofs.lemmas.List.{take_all}
use Rattle.std.proofs.lemmas.List.Elements.{All-more, All-nil}
use Rattle.brick_map.proofs.BatchRuns.{runs_over}
use Rattle.brick_map.proofs.Readied.{IsRoomFor, number_there, numbers_few, readied_none, readied_twice, ready_all, room_still}
use Rattle.brick_map.proofs.birth.prepare_runs.Goals as goal

pub do_rise-apart-requires : goal.do_rise-apart-requires
do_rise-apart-requires c = numbers_few c.args.shape.now.shape.sizes c.args.batch.now.rows 0 c.args.runs.now c.requires.shape.shape.bricks c.requires.runs

pub runs-init : goal.runs-init
runs-init c = record {
  readied = readied_none c.args.shape.now c.args.recent.now c.args.list.now c.requires.bricks;
  room = All-nil (IsRoomFor c.args.list.now c.args.runs.now);
}

pub room_for-room-requires-clause-runs : goal.room_for-room-requires-clause-runs
room_for-room-requires-clause-runs c =
    let over = runs_over c.args.shape.now.shape.sizes c.args.batch.now.rows 0 c.args.runs.now c.requires.runs in
    rw c.len.ensures.rows over

pub prepare_brick-requires-clause-number : goal.prepare_brick-requires-clause-number
prepare_brick-requires-clause-number c = number_there c.args.shape.now.shape.sizes c.args.batch.now.rows 0 c.runs.i c.args.runs.now (omega arith) c.requires.runs

pub runs-preserved : goal.runs-preserved
runs-preserved c =
    let l = c.runs in
    let shape = c.args.shape.now in
    let recent = c.args.recent.now in
    let new = c.prepare_brick.new.list in
    let step = c.prepare_brick.ensures.readied in
    let ok = c.in_ok-prepare_brick.ensures in
    record {
      readied = readied_twice shape recent c.args.list.now l.list new l.invariant.readied step;
      room = All-more (IsRoomFor new c.args.runs.now) c.args.runs.now l.i (record { number = 0; from = 0; to = 0 }) (omega arith) (room_still shape recent l.list new c.args.runs.now (take l.i c.args.runs.now) step l.invariant.room)
          (record { for_rows = omega (arith, ok.rows, c.room_for-room.ensures.rows); for_entries = omega (arith, ok.entries, c.room_for-room.ensures.entries) });
    }

pub returns-in_err-prepare_brick-clause-readied : goal.returns-in_err-prepare_brick-clause-readied
returns-in_err-prepare_brick-clause-readied c =
    readied_twice c.args.shape.now c.args.recent.now c.args.list.now c.runs.list c.prepare_brick.new.list c.runs.invariant.readied c.prepare_brick.ensures.readied

pub returns-clause-room : goal.returns-clause-room
returns-clause-room c = λ number e.
    ready_all c.runs.list c.args.runs.now c.args.runs.now number (subst (All (IsRoomFor c.runs.list c.args.runs.now)) (take_all c.runs.i c.args.runs.now (omega arith)) c.runs.invariant.room) e
