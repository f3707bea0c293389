use Rattle.std.proofs.Common.{ap, sym, ◌∙◌, ◌||◌}
use Rattle.std.specs.List.{list_any}
use Rattle.std.specs.Str.{bytes_eq}
use Rattle.cube_rounds.specs.Demands.{cube_names_of}
use Rattle.round_reading.proofs.MadeNames.{next_apart, next_repeats}
use Rattle.round_reading.proofs.made.are_apart.Goals as goal

pub returns-then-is_repeated : goal.returns-then-is_repeated
returns-then-is_repeated c =
    let cube = c.index-made-i.result in
    sym (next_repeats c.args.before.now c.args.made.now c.cubes.i cube c.cubes-test.true c.index-made-i.is
    (ap (λ front. list_any (bytes_eq cube.name) (cube_names_of front) || list_any (bytes_eq cube.name) (cube_names_of c.args.before.now)) (sym c.split_at.ensures.front)
    ∙ sym c.is_repeated.ensures ∙ c.if-is_repeated.true) c.cubes.invariant)

pub cubes-preserved : goal.cubes-preserved
cubes-preserved c =
    let cube = c.index-made-i.result in
    next_apart c.args.before.now c.args.made.now c.cubes.i cube c.cubes-test.true c.index-made-i.is
    (ap (λ front. list_any (bytes_eq cube.name) (cube_names_of front) || list_any (bytes_eq cube.name) (cube_names_of c.args.before.now)) (sym c.split_at.ensures.front)
    ∙ sym c.is_repeated.ensures ∙ c.if-is_repeated.false) c.cubes.invariant
