use Rattle.std.proofs.Common.{◌≡◌, None, subst, sym, ap, ◌∙◌}
use Rattle.cube_language.specs.Cubes.{first_repeated}
use Rattle.cube_schema.specs.Outcomes as outcomes
use Rattle.cube_schema.specs.Repeats.{IsFirstRepeat, RepeatsAt, names_lent}
use Rattle.cube_schema.proofs.RepeatedCubes.{none-repeated, repeated-at}
use Rattle.cube_schema.proofs.read.repeated_in.Goals as goal
use Rattle.cube_schema.proofs.read.repeated_in.Goals.{In_ok-place}

found : (c : In_ok-place) → IsFirstRepeat (outcomes.begun_names c.args.cubes.now) c.in_ok-place.field-0
found c = subst (λ names. IsFirstRepeat names c.in_ok-place.field-0) (ap names_lent c.as_slice.ensures.value ∙ c.in_ok-names.ensures) c.in_ok-place.ensures

pub returns-in-Some : goal.returns-in-Some
returns-in-Some c =
    let repeats : RepeatsAt (outcomes.begun_names c.args.cubes.now) c.in-Some.place = rw c.in-Some.is at (found (goal.at.returns-in-Some c).In_ok-place) in
    sym (repeated-at c.args.cubes.now c.in-Some.place c.index-cubes-place.result repeats)

pub returns : goal.returns
returns c =
    let apart : first_repeated (outcomes.begun_names c.args.cubes.now) ≡ None = rw c.in-None.is at (found (goal.at.returns c).In_ok-place) in
    sym (none-repeated c.args.cubes.now apart)
