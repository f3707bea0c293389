use Rattle.std.proofs.Common.{◌≡◌, ◌+◌, []}
use Rattle.aosi_desk.specs.State.{state_of}
use Rattle.measures.proofs.desks.take_turns.Given as goal

abbrev pub invariant-turns : goal.invariant-turns
invariant-turns l = record {
  idle : (state_of l.desk.register).snapshots ≡ [];
  sessions : l.desk.register.sessions ≡ 16;
  ec : (state_of l.desk.register).ec ≡ (state_of l.fn.desk.register).ec + l.turn;
}
