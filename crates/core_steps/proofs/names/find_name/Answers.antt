use Rattle.std.proofs.Common.{None, subst}
use Rattle.cube_values.specs.declared.shape.CubeShape.{CubeShape}
use Rattle.names_dict.specs.Dictionaries.{IsTextDimension}
use Rattle.core_steps.proofs.names.find_name.Goals as goal

pub ask_names-requires-clause-may : goal.ask_names-requires-clause-may
ask_names-requires-clause-may g c =
    let mid = c.look_for.new.caller in
    let knows = c.in_ok-cube.ensures.knows in
    let on = knows.on_core in
    let texts = c.begins_with_texts.ensures c.if-not-begins_with_texts.false in
    c.sessions_may_ask_names_of_told_cubes.ensures.find (g.P.CellCaller.opening mid) (g.P.CellCaller.number mid)
    c.args.session (g.P.CellCaller.own mid) knows.name c.in_ok-cube.cube.place 0 c.in_ok-cube.cube.schema
    c.in_ok-name.name on.client on.by_number on.storable knows.told
    (subst (λ (s : CubeShape). IsTextDimension s 0) c.shared_shape-shape.ensures.value texts)

pub returns-clause-holds : goal.returns-clause-holds
returns-clause-holds g c =
    c.ask_names.ensures.same.ready None (c.in_ok-cube.ensures.same.ready None c.requires.holds)
