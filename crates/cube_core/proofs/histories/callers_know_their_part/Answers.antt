use Rattle.cube_core.proofs.OwnParts.{own-part, told-calls, told-moves, told-rounds}
use Rattle.cube_core.proofs.histories.callers_know_their_part.Goals as goal

pub returns-clause-calls : goal.returns-clause-calls
returns-clause-calls g c = λ o. told-calls (g.C.CoreBoard.event o)

pub returns-clause-moves : goal.returns-clause-moves
returns-clause-moves g c = λ o. told-moves (g.C.CoreBoard.event o)

pub returns-clause-rounds : goal.returns-clause-rounds
returns-clause-rounds g c = λ o. told-rounds o (g.C.CoreBoard.event o)

pub returns-clause-own : goal.returns-clause-own
returns-clause-own g c = λ o caller told log es by hangs are. own-part (g.C.CoreBoard.event o) caller told by hangs log es are
