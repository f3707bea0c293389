use Rattle.std.proofs.Common.{ap}
use Rattle.session_replies.specs.Modes.{mode_of}
use Rattle.session_replies.specs.declared.mode.SessionMode.{SessionMode}
use Rattle.core_selects.proofs.answering.answer_select.Goals as goal

pub answer_alone-requires-clause-idle : goal.answer_alone-requires-clause-idle
answer_alone-requires-clause-idle g c = ap (λ (m : SessionMode). mode_of m) c.in-Idle.is

pub answer_inside-requires-clause-inside : goal.answer_inside-requires-clause-inside
answer_inside-requires-clause-inside g c = ap (λ (m : SessionMode). mode_of m) c.in-Open.is
