use Rattle.measured_rows.proofs.rounds.round_in.Goals as goal

pub returns-in-Err-Fault-clause-none : goal.returns-in-Err-Fault-clause-none
returns-in-Err-Fault-clause-none c = λ round begins. cc (c.in-Err-Fault.ensures.only round begins)
