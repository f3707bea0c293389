use Rattle.core_cells.specs.declared.desk.DeskAnswer.TheVariants as answer
use Rattle.core_cells.specs.declared.desk.DeskCall.TheVariants as call
use Rattle.core_events.specs.Clients.{calls_of, state_from_calls}
use Rattle.cube_core.proofs.Looking.{counts, may-count}
use Rattle.session_snapshots.proofs.KnownSteps.{holds-on}
use Rattle.session_snapshots.proofs.looks.read_counters.Goals as goal

pub call_desk_cell-requires-clause-may : goal.call_desk_cell-requires-clause-may
call_desk_cell-requires-clause-may g c = λ o log run es later are.
    may-count o c.args.session (state_from_calls o c.args.session (calls_of c.args.session es))

pub returns-clause-same : goal.returns-clause-same
returns-clause-same g c =
    let own = g.P.CellCaller.own in
    let opening = g.P.CellCaller.opening in
    let number = g.P.CellCaller.number in
    let before = c.args.caller.now in
    let after = c.call_desk_cell.new.caller in
    let did = c.call_desk_cell.ensures in
    holds-on g.S.LinkedShard.fits g.S.LinkedShard.stands g.S.LinkedShard.says (opening before) (number before)
    c.args.session c.requires.client c.requires.session (own before) (own after)
    call.Counters
    (opening after) (number after) did.opening did.number c.call_desk_cell.result did.own
    (answer.Counted c.counters_in.result) c.counters_in.ensures
    (λ held o k r. (counts o c.args.session c.counters_in.result held k r).stands)
