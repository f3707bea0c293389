use Rattle.turn_board.specs.Passes.{view_of}
use Rattle.threaded_callers.proofs.Hands.{prefix_taken}
use Rattle.threaded_callers.proofs.later.LaterPass.into_pass.Goals as goal

pub returns-clause-later : goal.returns-clause-later
returns-clause-later g c = prefix_taken g.E.Moment.past (view_of c.args.self.pass).past c.args.self.later
