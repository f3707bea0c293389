use Rattle.std.proofs.lemmas.List.Elements.{recursion_from_All}
use Rattle.run_inputs.proofs.ReadScripts.{IsShort, may-be-said}
use Rattle.run_inputs.proofs.given.scripts_that_were_read_may_be_given.Goals as goal

pub returns : goal.returns
returns c = λ names reading scripts give few.
    may-be-said 1 names reading scripts.items give (recursion_from_All IsShort scripts.items few)
