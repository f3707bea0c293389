use Rattle.std.proofs.lemmas.Result.{err_from_is_err_and}
use Rattle.std.proofs.Common.{ℕ, List, [], Ok, ap, sym, ◌∙◌}
use Rattle.round_fields.specs.Reading.{repeat_step}
use Rattle.round_reading.specs.Payload.{name_step}
use Rattle.round_reading.proofs.Loops.{steps_go_on, steps_end, steps_done}
use Rattle.round_reading.proofs.names.counted_names.Goals as goal

pub returns-then-count-eq0 : goal.returns-then-count-eq0
unfolding repeat_step
returns-then-count-eq0 c =
    ap (λ (n : ℕ). repeat_step (name_step c.args.earlier.now) n [] c.args.bytes.now) c.if-count-eq0.true
    ∙ ap (λ (l : List (List ℕ)). Ok (l, c.args.bytes.now)) (sym c.new-names.ensures.items)

pub returns-in_err-rest : goal.returns-in_err-rest
returns-in_err-rest c =
    let p = err_from_is_err_and c.from_residual-in_err-rest.result c.from_residual-in_err-rest.ensures.1 in
    rw (p.1, p.2) (steps_end (name_step c.args.earlier.now) _ c.args.count c.names.counter _ _ _ c.names-test.true (c.in_err-rest.ensures.name c.args.earlier.now c.names.invariant.known) c.names.invariant.read)

pub names-preserved : goal.names-preserved
names-preserved c = record {
  read = steps_go_on (name_step c.args.earlier.now) c.args.count c.names.counter _ _ _ _ _ c.names-test.true (c.in_ok-rest.ensures.name c.args.earlier.now c.names.invariant.known) c.names.invariant.read;
  known = c.in_ok-rest.ensures.known c.args.earlier.now c.names.invariant.known;
}

pub returns : goal.returns
returns c = steps_done (name_step c.args.earlier.now) c.args.count c.names.counter _ _ _ c.names-test.false c.names.invariant.read
