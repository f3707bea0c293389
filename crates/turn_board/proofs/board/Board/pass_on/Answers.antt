use Rattle.std.proofs.Common.{arith}
use Rattle.turn_board.proofs.Passing.{passes_on}
use Rattle.turn_board.proofs.board.Board.pass_on.Goals as goal

pub fetch_add-requires : goal.fetch_add-requires
fetch_add-requires g c =
    let b = c.args.self.now in let words = b.words in let inside = c.requires.cell in let t = c.requires.turn in (
      c.requires.table,
      omega arith,
      passes_on g.C.Cells.step g.C.Cells.fits b.table.shared.key.cells.value.items b.table.shared.key.callers
          b.table.shared.table_id.slots c.args.seat.now.id c.args.cell t.ticket c.args.seat.now.me
          t.lane t.value t.slots t.turn c.requires.hands c.requires.also c.args._asked.now.value c.args._answer.now
          g.E.Naming.event c.requires.named c.requires.fits t.stepped,
    )

pub returns-clause-joined : goal.returns-clause-joined
returns-clause-joined g c = let t = c.fetch_add.ensures.2 in
    record { made = t.0; is = t.1; joined = t.2 }
