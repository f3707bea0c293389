use Rattle.std.proofs.Common.{Some, subst, sym, ap, ◌∙◌}
use Rattle.std.specs.Option.{option_map}
use Rattle.cube_language.specs.Cubes.{first_repeated}
use Rattle.cube_language.specs.declared.cubes_fault.SchemaFault.TheVariants.{DuplicateName}
use Rattle.cube_schema.specs.Repeats.{IsFirstRepeat, RepeatsAt, names_lent}
use Rattle.cube_schema.proofs.Repeated.{first-at}
use Rattle.cube_schema.proofs.fault.duplicate_in.Goals as goal

pub returns-in-Some : goal.returns-in-Some
returns-in-Some c =
    let repeats : RepeatsAt (names_lent c.in_ok-names.names.items) c.in-Some.place =
    subst (IsFirstRepeat (names_lent c.in_ok-names.names.items)) c.in-Some.is (subst (λ refs. IsFirstRepeat (names_lent refs) c.in_ok-place.field-0) c.as_slice.ensures.value c.in_ok-place.ensures) in
    let first = first-at c.in_ok-names.names.items c.in-Some.place c.index.result.now repeats c.index.ensures in
    ap (λ name. Some (DuplicateName name)) c.in_ok-name-in-Some.ensures
    ∙ sym (ap (option_map DuplicateName) (ap first_repeated (sym c.in_ok-names.ensures) ∙ first))
