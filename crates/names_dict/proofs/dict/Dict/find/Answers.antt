use Rattle.std.proofs.Common.{arith, sym, ◌∙◌, string_bytes}
use Rattle.names_dict.proofs.Places.{number_is}
use Rattle.names_dict.proofs.dict.Dict.find.Goals as goal

pub returns-in_err-place : goal.returns-in_err-place
returns-in_err-place c =
    c.from_residual.ensures ∙ sym c.in_err-place.was
    ∙ number_is string_bytes c.self.inside.cardinality c.self.inside.names.keys c.args.name.now c.args.self.now c.get_index_of.result c.self.view_is c.get_index_of.ensures.index

pub overflow_cast-result : goal.overflow_cast-result
overflow_cast-result c = omega (arith, c.in_ok-place.ensures.within, c.self.invariant.1, c.self.invariant.2)

pub returns : goal.returns
returns c =
    sym c.in_ok-place.was
    ∙ number_is string_bytes c.self.inside.cardinality c.self.inside.names.keys c.args.name.now c.args.self.now c.get_index_of.result c.self.view_is c.get_index_of.ensures.index
