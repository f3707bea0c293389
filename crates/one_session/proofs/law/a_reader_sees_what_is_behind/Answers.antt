use Rattle.one_session.proofs.Views.{reader_view}
use Rattle.one_session.proofs.law.a_reader_sees_what_is_behind.Goals as goal

pub returns : goal.returns
returns c = reader_view
