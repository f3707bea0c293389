use Rattle.core_scripts.proofs.PlayedOn.{plays-as-told}
use Rattle.core_scripts.proofs.RefusedOn.{refused-absences, refused-faults}
use Rattle.cube_run.specs.RunRecords.{Says}
use Rattle.core_scripts.proofs.playing.play_statement.Goals as goal

pub returns-in-Some-clause-faults : goal.returns-in-Some-clause-faults
returns-in-Some-clause-faults g c =
    refused-faults c.args.statement c.play_refused.result (g.H.Shelf.fault_count c.args.shelf.now)
    c.play_refused.ensures.unread

pub returns-in-Some-clause-absences : goal.returns-in-Some-clause-absences
returns-in-Some-clause-absences g c =
    refused-absences c.args.statement c.play_refused.result (g.H.Shelf.absence_count c.args.shelf.now)
    c.play_refused.ensures.unread

pub returns-in-Some-clause-plays : goal.returns-in-Some-clause-plays
returns-in-Some-clause-plays g c =
    let before = c.args.caller.now in
    plays-as-told (g.P.CellCaller.opening before) (g.P.CellCaller.number before) c.args.player.now
    c.play_refused.new.player (g.P.CellCaller.own before) (g.P.CellCaller.own c.play_refused.new.caller)
    (Says c.args.statement) (g.H.Shelf.told c.args.shelf.now) c.play_refused.result c.play_refused.ensures.plays
