use Rattle.core_scripts.proofs.PlayedOn.{plays-as-told}
use Rattle.cube_run.specs.RunRecords.{Says}
use Rattle.core_scripts.proofs.playing.play_allowed.Goals as goal

pub returns-in-Begin-clause-plays : goal.returns-in-Begin-clause-plays
returns-in-Begin-clause-plays g c =
    let before = c.args.caller.now in
    plays-as-told (g.P.CellCaller.opening before) (g.P.CellCaller.number before) c.args.player.now
    c.play_without_rows.new.player (g.P.CellCaller.own before) (g.P.CellCaller.own c.play_without_rows.new.caller) (Says c.args.statement)
    (g.H.Shelf.told c.args.shelf.now) c.play_without_rows.result c.play_without_rows.ensures.plays

pub returns-in-Watch-clause-plays : goal.returns-in-Watch-clause-plays
returns-in-Watch-clause-plays g c =
    let before = c.args.caller.now in
    plays-as-told (g.P.CellCaller.opening before) (g.P.CellCaller.number before) c.args.player.now
    c.play_watching.new.player (g.P.CellCaller.own before) (g.P.CellCaller.own c.play_watching.new.caller) (Says c.args.statement)
    (g.H.Shelf.told c.args.shelf.now) c.play_watching.result c.play_watching.ensures.plays

pub returns-in-Select-clause-plays : goal.returns-in-Select-clause-plays
returns-in-Select-clause-plays g c =
    let before = c.args.caller.now in
    plays-as-told (g.P.CellCaller.opening before) (g.P.CellCaller.number before) c.args.player.now
    c.play_on_rows.new.player (g.P.CellCaller.own before) (g.P.CellCaller.own c.play_on_rows.new.caller) (Says c.args.statement)
    (g.H.Shelf.told c.args.shelf.now) c.play_on_rows.result c.play_on_rows.ensures.plays
