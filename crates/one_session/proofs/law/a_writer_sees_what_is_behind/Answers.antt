use Rattle.one_session.proofs.Views.{writer_view}
use Rattle.one_session.proofs.law.a_writer_sees_what_is_behind.Goals as goal

pub returns : goal.returns
returns c = writer_view
