use Rattle.std.proofs.Common.{[], refl}
use Rattle.core_states.proofs.law.sessions_stand_at_their_beginning.Goals as goal

pub returns-clause-stands : goal.returns-clause-stands
returns-clause-stands g c = λ cells caller session.
    record {
      turn = tt;
      begins = ([], refl);
      leaves = c.desk_calls_leave_entries.ensures.none cells caller session;
    }

pub returns-clause-holds : goal.returns-clause-holds
returns-clause-holds g c = λ cells caller session. c.sessions_begin_with_nothing.ensures cells caller session
