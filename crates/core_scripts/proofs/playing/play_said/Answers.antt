use Rattle.core_scripts.proofs.PlayedOn.{plays-as-told}
use Rattle.core_scripts.specs.PlayingSessions.{PlaysOn}
use Rattle.cube_run.specs.RunRecords.{SaysNone}
use Rattle.script_sentences.specs.Sentences.{sentence_of}
use Rattle.session_desk.specs.Executed.{IfReplied}
use Rattle.core_scripts.proofs.playing.play_said.Goals as goal

pub returns-in-Nothing-clause-plays : goal.returns-in-Nothing-clause-plays
returns-in-Nothing-clause-plays g c =
    let before = c.args.caller.now in
    let cells = g.P.CellCaller.opening before in
    let caller = g.P.CellCaller.number before in
    let old = c.args.player.now in
    let new = c.play_nothing.new.player in
    let own = g.P.CellCaller.own before in
    let now = g.P.CellCaller.own c.play_nothing.new.caller in
    let told = g.H.Shelf.told c.args.shelf.now in
    coe 1 0 (i. IfReplied c.play_nothing.result
    (PlaysOn told cells caller old own (sentence_of (c.in-Nothing.is i)) new now))
    (plays-as-told cells caller old new own now (SaysNone c.in-Nothing.fault.at) told c.play_nothing.result
    c.play_nothing.ensures.plays)
