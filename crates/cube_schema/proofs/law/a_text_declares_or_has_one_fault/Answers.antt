use Rattle.cube_schema.proofs.TextLaws.{one_list, no_fault, one_fault, declares_or_has_fault}
use Rattle.cube_schema.proofs.law.a_text_declares_or_has_one_fault.Goals as goal

pub returns : goal.returns
returns c = record { either = declares_or_has_fault; one_list = one_list; no_fault = no_fault; one_fault = one_fault }
