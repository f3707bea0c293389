use Rattle.std.proofs.Common.{◌≡◌, Ok, ◌∙◌}
use Rattle.std.proofs.lemmas.Result.{IfOk-weaker}
use Rattle.cube_language.specs.CubesText.{Declares}
use Rattle.cube_schema.specs.Outcomes.{outcome}
use Rattle.cube_schema.proofs.TextLaws.{declares_from, fault_answered}
use Rattle.cube_schema.proofs.read.read_cubes.Goals as goal

pub returns-in-Ok-clause-declared : goal.returns-in-Ok-clause-declared
returns-in-Ok-clause-declared c =
    let utf8 = c.in-Ok.ensures.cases in
    let cubes = rw (c.as_bytes.ensures.value ∙ utf8.0) at c.read_text.ensures.cubes in
    IfOk-weaker c.read_text.result (λ cubes. outcome c.args.bytes.now ≡ Ok cubes.items) (λ cubes. Declares c.args.bytes.now cubes.items) (λ cubes. declares_from c.args.bytes.now cubes.items utf8.1) cubes

pub returns-in-Ok-clause-fault : goal.returns-in-Ok-clause-fault
returns-in-Ok-clause-fault c =
    let utf8 = c.in-Ok.ensures.cases in
    fault_answered c.args.bytes.now c.read_text.result utf8.1 (rw (c.as_bytes.ensures.value ∙ utf8.0) at c.read_text.ensures.fault)
