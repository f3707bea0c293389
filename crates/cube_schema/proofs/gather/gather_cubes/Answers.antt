use Rattle.std.proofs.Common.{Ok, sym, ap, ◌∙◌, rules, tests, arith}
use Rattle.std.specs.Prelude.{◌==◌}
use Rattle.std.proofs.lemmas.Iterator.Consumers.{YieldsList-turn, YieldsList-end}
use Rattle.std.proofs.lemmas.Iterator.Splits.{YieldsList-from_slice_split}
use Rattle.std.proofs.lemmas.List.{length_push}
use Rattle.cube_schema.proofs.LineSteps.{piece_at, one_line, bad_line, all_read}
use Rattle.cube_schema.proofs.gather.gather_cubes.Goals as goal

pub returns-in_default-clause-fault : goal.returns-in_default-clause-fault
returns-in_default-clause-fault c =
    let pieces = YieldsList-from_slice_split _ (λ byte. byte == 10) c.args.text.now (cc) (cc) (cc) (λ x r q k. search (rules, tests)) in
    let turn = YieldsList-turn pieces c.lines.yielded _ c.lines.yielded_by _ _ c.in-Some.line c.in-Some.is c.next.ensures.steps in
    let piece = piece_at c.args.text.now c.in-Some.line.now _ c.lines.number c.lines.invariant.count turn in
    bad_line c.args.text.now c.in-Some.line.now c.lines.cubes.items c.lines.current c.lines.number piece c.lines.invariant.reads (sym c.in_ok-next.ensures ∙ c.in_default.is)

pub lines-preserved : goal.lines-preserved
lines-preserved c =
    let pieces = YieldsList-from_slice_split _ (λ byte. byte == 10) c.args.text.now (cc) (cc) (cc) (λ x r q k. search (rules, tests)) in
    let turn = YieldsList-turn pieces c.lines.yielded _ c.lines.yielded_by _ _ c.in-Some.line c.in-Some.is c.next.ensures.steps in
    let piece = piece_at c.args.text.now c.in-Some.line.now _ c.lines.number c.lines.invariant.count turn in
    record {
      reads = rw c.in_ok-push_some.ensures (one_line c.args.text.now c.in-Some.line.now c.lines.cubes.items c.lines.current c.lines.number c.in-Some-2.next piece c.lines.invariant.reads (sym c.in_ok-next.ensures ∙ c.in-Some-2.is));
      count = omega (arith, length_push c.lines.yielded c.in-Some.line);
    }

pub returns-clause-cubes : goal.returns-clause-cubes
returns-clause-cubes c =
    let pieces = YieldsList-from_slice_split _ (λ byte. byte == 10) c.args.text.now (cc) (cc) (cc) (λ x r q k. search (rules, tests)) in
    let end = YieldsList-end pieces c.lines.yielded _ c.lines.yielded_by _ _ c.in-None.is c.next.ensures.steps in
    all_read c.args.text.now c.lines.cubes.items c.lines.current c.lines.number (omega (arith, end.1)) c.lines.invariant.reads ∙ ap Ok (sym c.in_ok-push_some-2.ensures)
