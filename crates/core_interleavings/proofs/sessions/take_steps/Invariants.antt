use Rattle.core_steps.specs.Seats.{IsSeated}
use Rattle.core_interleavings.proofs.sessions.take_steps.Given as goal

abbrev pub invariant-steps : goal.invariant-steps
invariant-steps g l = record {
  board : g.P.CellCaller.calls_on l.board l.seat.traced.caller;
  sits : IsSeated l.seat (g.P.CellCaller.opening l.seat.traced.caller) (g.P.CellCaller.number l.seat.traced.caller)
      (g.P.CellCaller.own l.seat.traced.caller);
}
