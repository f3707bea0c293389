use denote.Param.Send.{sendable}
use Rattle.std.proofs.Common.{arith}
use Rattle.std.proofs.Crossing.{crosses}
use Rattle.threaded_callers.proofs.serving.serve_lent.Goals as goal

-- What the closure asks beside its clauses is what is known of the types that cross threads.
pub scoped-requires : goal.scoped-requires
scoped-requires g c = record {
  at = λ a. (c.requires.board, (c.requires.may, search (sendable, crosses) depth 40));
}

pub invariant_of-help : goal.invariant_of-help
invariant_of-help g c =
    let slots = c.as_slice.ensures.len in let few = c.slots_for-slots.ensures in let workers = c.len.ensures in
    let sessions = c.len-2.ensures in let behind = c.caller_behind.ensures in let callers = c.requires.callers in
    record { of = c.requires.board; numbers = omega (arith, slots, few, workers, sessions, behind, callers) }
