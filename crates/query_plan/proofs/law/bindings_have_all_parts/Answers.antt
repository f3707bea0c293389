use Rattle.query_plan.proofs.AllParts.{bindings_have_all_parts}
use Rattle.query_plan.proofs.law.bindings_have_all_parts.Goals as goal

pub returns : goal.returns
returns c = bindings_have_all_parts
