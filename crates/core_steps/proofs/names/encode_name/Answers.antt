use Rattle.std.proofs.Common.{◌∙◌, ◌++◌, ◌≤◌, [], ◌∷◌, None, List, length, sym, ap, subst, arith}
use Rattle.core_program.specs.ClientCalls.{names_entry}
use Rattle.core_cells.specs.declared.names.NamesAnswer.{NamesAnswer}
use Rattle.core_cells.specs.declared.names.NamesCall.TheVariants as names
use Rattle.core_program.specs.CoreFits.{CoreEntry}
use Rattle.core_steps.proofs.OnCore.{knows-after}
use Rattle.core_steps.proofs.ToldNames.{told-by-code}
use Rattle.core_steps.specs.OnCore.{IsToldOfCode}
use Rattle.core_steps.proofs.names.encode_name.Goals as goal

pub ask_names-requires-clause-may : goal.ask_names-requires-clause-may
ask_names-requires-clause-may g c =
    let before = c.args.caller.now in
    let on = c.requires.on_core in
    let knows = c.requires.knows in
    let long : length c.in_ok-name.name ≤ 255 =
    grind (arith, c.if-name-gt255.false, c.in_ok-name.ensures)
    in
    c.sessions_may_ask_names_of_told_cubes.ensures.encode (g.P.CellCaller.opening before)
    (g.P.CellCaller.number before) c.args.session (g.P.CellCaller.own before) knows.name c.args.cube.now.place 0
    c.args.cube.now.schema c.in_ok-shape.shape c.in_ok-name.name on.client on.by_number on.storable knows.told
    c.in_ok-shape.ensures.value c.in_ok-shape.ensures.sound
    (c.begins_with_texts.ensures c.if-not-begins_with_texts.false) long

pub returns-clause-knows : goal.returns-clause-knows
returns-clause-knows g c =
    let opening = g.P.CellCaller.opening in
    let number = g.P.CellCaller.number in
    let own = g.P.CellCaller.own in
    let before = c.args.caller.now in
    let after = c.ask_names.new.caller in
    let did = c.ask_names.ensures in
    let place = c.args.cube.now.place in
    knows-after c.args.size.now.shards place c.args.cube.now.schema (opening before) (opening after) (number before)
    (number after) c.args.session (own before) (own after) did.opening did.number
    (record {
      more = names_entry (number before) (names.Encode place 0 c.in_ok-shape.shape c.in_ok-name.name)
          c.ask_names.result ∷ [];
      whole = did.own;
    }) c.requires.knows

pub returns-clause-holds : goal.returns-clause-holds
returns-clause-holds g c = c.ask_names.ensures.same.ready None c.requires.holds

pub returns-clause-told : goal.returns-clause-told
returns-clause-told g c =
    let opening = g.P.CellCaller.opening in
    let number = g.P.CellCaller.number in
    let own = g.P.CellCaller.own in
    let before = c.args.caller.now in
    let did = c.ask_names.ensures in
    let place = c.args.cube.now.place in
    let shape = c.in_ok-shape.shape in
    let name = c.in_ok-name.name in
    let code = c.in_ok-code.code in
    subst (λ (l : List CoreEntry). IsToldOfCode l place code)
    (sym (did.own ∙ ap (λ (a : NamesAnswer). own before
    ++ names_entry (number before) (names.Encode place 0 shape name) a ∷ []) c.in_ok-code.ensures))
    (told-by-code (own before) (number before) place shape name code)
