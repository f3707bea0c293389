use Rattle.core_names.proofs.GivenCodes.{moved}
use Rattle.core_names.proofs.PlainNames.{copies-are-names}
use Rattle.session_snapshots.specs.KnownHolds.{HoldsTheSame}
use Rattle.copied_names.proofs.CopiedLists.{between-result, distinct-result}
use Rattle.copied_names.proofs.cube_names.copy_names_of_cube.Goals as goal

pub returns-in_err-lists-clause-holds : goal.returns-in_err-lists-clause-holds
returns-in_err-lists-clause-holds g c =
    let cells = g.P.CellCaller.opening c.args.caller.now in
    let caller = g.P.CellCaller.number c.args.caller.now in
    let own = g.P.CellCaller.own c.args.caller.now in
    let now = g.P.CellCaller.own c.copy_dims.new.caller in
    moved (λ x n. HoldsTheSame g.S.LinkedShard.fits g.S.LinkedShard.stands g.S.LinkedShard.says c.args.session cells caller own x n now)
    cells (g.P.CellCaller.opening c.copy_dims.new.caller) caller (g.P.CellCaller.number c.copy_dims.new.caller) c.copy_dims.ensures.opening c.copy_dims.ensures.number
    (c.names_calls_keep_what_is_held.ensures.holds cells caller c.args.session own now c.requires.may.client
    (copies-are-names caller own now c.copy_dims.ensures.asks))

pub returns-clause-holds : goal.returns-clause-holds
returns-clause-holds g c =
    let cells = g.P.CellCaller.opening c.args.caller.now in
    let caller = g.P.CellCaller.number c.args.caller.now in
    let own = g.P.CellCaller.own c.args.caller.now in
    let now = g.P.CellCaller.own c.copy_dims.new.caller in
    moved (λ x n. HoldsTheSame g.S.LinkedShard.fits g.S.LinkedShard.stands g.S.LinkedShard.says c.args.session cells caller own x n now)
    cells (g.P.CellCaller.opening c.copy_dims.new.caller) caller (g.P.CellCaller.number c.copy_dims.new.caller) c.copy_dims.ensures.opening c.copy_dims.ensures.number
    (c.names_calls_keep_what_is_held.ensures.holds cells caller c.args.session own now c.requires.may.client
    (copies-are-names caller own now c.copy_dims.ensures.asks))

pub returns-clause-copied : goal.returns-clause-copied
returns-clause-copied g c =
    between-result g.S.LinkedShard.fits g.S.LinkedShard.stands g.S.LinkedShard.says (g.P.CellCaller.opening c.args.caller.now)
    (g.P.CellCaller.number c.args.caller.now) c.args.session c.args.place c.args.cube.now (g.P.CellCaller.own c.args.caller.now)
    (g.P.CellCaller.own c.copy_dims.new.caller) c.in_ok-lists.lists c.names_at_place.result c.requires.may c.in_ok-lists.ensures.told
    c.names_at_place.ensures

pub returns-clause-distinct : goal.returns-clause-distinct
returns-clause-distinct g c =
    distinct-result c.args.place c.in_ok-lists.lists c.names_at_place.result c.in_ok-lists.ensures.distinct c.names_at_place.ensures
