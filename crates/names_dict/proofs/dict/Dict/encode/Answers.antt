use Rattle.std.proofs.Common.{arith, sym, ap, ◌∙◌, is_some, length, refl, string_bytes}
use Rattle.names_dict.proofs.Places.{number_is, known_code, added_code, full_code, length_is, names_after, at_any_err}
use Rattle.names_dict.proofs.dict.Dict.encode.Goals as goal

pub returns-in-Some-clause-code : goal.returns-in-Some-clause-code
returns-in-Some-clause-code c =
    known_code c.args.self.now c.args.name.now c.in-Some.place
    (sym c.in-Some.is ∙ number_is string_bytes c.self.inside.cardinality c.self.inside.names.keys c.args.name.now c.args.self.now c.get_index_of.result c.self.view_is c.get_index_of.ensures.index)

pub returns-then-place-self-clause-code : goal.returns-then-place-self-clause-code
returns-then-place-self-clause-code c =
    let l = length_is string_bytes c.self.inside.cardinality c.self.inside.names.keys c.args.self.now c.self.view_is in
    full_code c.args.self.now c.args.name.now
    (sym c.in_default.is ∙ number_is string_bytes c.self.inside.cardinality c.self.inside.names.keys c.args.name.now c.args.self.now c.get_index_of.result c.self.view_is c.get_index_of.ensures.index)
    (omega arith)

pub returns-in_err-owned-clause-wanted : goal.returns-in_err-owned-clause-wanted
returns-in_err-owned-clause-wanted c =
    let l = length_is string_bytes c.self.inside.cardinality c.self.inside.names.keys c.args.self.now c.self.view_is in
    at_any_err c.from_residual.result _ (sym (added_code c.args.self.now c.args.name.now (length c.args.self.now.names)
    (sym c.in_default.is ∙ number_is string_bytes c.self.inside.cardinality c.self.inside.names.keys c.args.name.now c.args.self.now c.get_index_of.result c.self.view_is c.get_index_of.ensures.index)
    refl (omega (arith, c.self.invariant.1))))

pub returns-in_err-insert-clause-wanted : goal.returns-in_err-insert-clause-wanted
returns-in_err-insert-clause-wanted c =
    let l = length_is string_bytes c.self.inside.cardinality c.self.inside.names.keys c.args.self.now c.self.view_is in
    at_any_err c.from_residual-in_err-insert.result _ (sym (added_code c.args.self.now c.args.name.now (length c.args.self.now.names)
    (sym c.in_default.is ∙ number_is string_bytes c.self.inside.cardinality c.self.inside.names.keys c.args.name.now c.args.self.now c.get_index_of.result c.self.view_is c.get_index_of.ensures.index)
    refl (omega (arith, c.self.invariant.1))))

pub returns-clause-code : goal.returns-clause-code
returns-clause-code c =
    let l = length_is string_bytes c.self.inside.cardinality c.self.inside.names.keys c.args.self.now c.self.view_is in
    added_code c.args.self.now c.args.name.now c.len-place.result
    (sym c.in_default.is ∙ number_is string_bytes c.self.inside.cardinality c.self.inside.names.keys c.args.name.now c.args.self.now c.get_index_of.result c.self.view_is c.get_index_of.ensures.index)
    (omega arith) (omega (arith, c.self.invariant.1))

pub returns-clause-names : goal.returns-clause-names
returns-clause-names c =
    names_after string_bytes c.self.inside.cardinality c.self.inside.names.keys c.insert.new.self.keys c.in_ok-owned.owned c.args.name.now c.args.self.now c.self.view_is
    c.in_ok-owned.ensures.ok (sym c.get_index_of.ensures.found ∙ ap is_some c.in_default.is) c.in_ok-insert.ensures.keys
