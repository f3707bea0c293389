use Rattle.std.proofs.Common.{refl}
use Rattle.core_scripts.proofs.PlayedOn.{held-here, kept-here, plays-watching, texts-go}
use Rattle.core_scripts.specs.PlayingSessions.{PlaysOn}
use Rattle.core_scripts.specs.ToldFiles.{ShelfTold}
use Rattle.core_scripts.specs.declared.player.ScriptPlayer.{ScriptPlayer}
use Rattle.cube_language.specs.declared.statement.Statement.TheVariants as asked
use Rattle.cube_run.specs.RunRecords.{Says}
use Rattle.session_desk.specs.Executed.{IfReplied}
use Rattle.core_scripts.proofs.watching.play_watching.Goals as goal

pub returns-in-ShowWatch-clause-plays : goal.returns-in-ShowWatch-clause-plays
returns-in-ShowWatch-clause-plays g c =
    let before = c.args.caller.now in
    let cells = g.P.CellCaller.opening before in
    let caller = g.P.CellCaller.number before in
    let old = c.args.player.now in
    let after = c.show_watch.new.caller in
    let said = c.show_watch.ensures in
    let new : ScriptPlayer =
    record { session = c.show_watch.new.session; watch = c.show_watch.new.kept; texts = old.texts } in
    let own = g.P.CellCaller.own before in
    let now = g.P.CellCaller.own after in
    coe 1 0 (i. IfReplied c.show_watch.result (λ said. (told : ShelfTold)
    → PlaysOn told cells caller old own (Says (c.in-ShowWatch.is i)) new now said))
    (plays-watching cells caller old new own now asked.ShowWatch c.show_watch.result tt said.more
    (held-here cells caller old new own now (g.P.CellCaller.opening after) (g.P.CellCaller.number after) said.opening
    said.number said.holds)
    (kept-here cells caller old new own now (g.P.CellCaller.opening after) (g.P.CellCaller.number after) said.opening
    said.number said.keeps)
    (texts-go cells caller old new own now refl) said.performed)

pub returns-in_default-clause-plays : goal.returns-in_default-clause-plays
returns-in_default-clause-plays g c =
    let before = c.args.caller.now in
    let cells = g.P.CellCaller.opening before in
    let caller = g.P.CellCaller.number before in
    let old = c.args.player.now in
    let after = c.watch.new.caller in
    let said = c.watch.ensures in
    let new : ScriptPlayer =
    record { session = c.watch.new.session; watch = c.watch.new.kept; texts = old.texts } in
    let own = g.P.CellCaller.own before in
    let now = g.P.CellCaller.own after in
    plays-watching cells caller old new own now c.args.statement c.watch.result c.requires.form said.more
    (held-here cells caller old new own now (g.P.CellCaller.opening after) (g.P.CellCaller.number after) said.opening
    said.number said.holds)
    (kept-here cells caller old new own now (g.P.CellCaller.opening after) (g.P.CellCaller.number after) said.opening
    said.number said.keeps)
    (texts-go cells caller old new own now refl) said.performed
