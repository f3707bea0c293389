use Rattle.std.proofs.Common.{refl}
use Rattle.core_scripts.proofs.PlayedOn.{always-held, held-here, held-if, on-rows-has-none, on-rows-is-let, plays-beside, texts-go}
use Rattle.core_scripts.specs.declared.player.ScriptPlayer.{ScriptPlayer}
use Rattle.core_scripts.proofs.statements.play_on_rows.Goals as goal

pub returns-in-Select-clause-plays : goal.returns-in-Select-clause-plays
returns-in-Select-clause-plays g c =
    let before = c.args.caller.now in
    let cells = g.P.CellCaller.opening before in
    let caller = g.P.CellCaller.number before in
    let old = c.args.player.now in
    let after = c.select.new.caller in
    let said = c.select.ensures in
    let answered = c.select.result in
    let new : ScriptPlayer = record { session = c.select.new.session; watch = old.watch; texts = old.texts } in
    let own = g.P.CellCaller.own before in
    let now = g.P.CellCaller.own after in
    let s = c.args.statement.now in
    plays-beside cells caller old new own now s answered
    (record {
      no_file = on-rows-has-none s c.requires.form;
      lets = on-rows-is-let s c.requires.form;
      more = said.more;
      same = refl;
      leaves = said.readers;
    })
    (always-held cells caller old new own now answered
    (held-here cells caller old new own now (g.P.CellCaller.opening after) (g.P.CellCaller.number after) said.opening
    said.number said.holds))
    (texts-go cells caller old new own now refl) said.performed

pub returns-in-Insert-clause-plays : goal.returns-in-Insert-clause-plays
returns-in-Insert-clause-plays g c =
    let before = c.args.caller.now in
    let cells = g.P.CellCaller.opening before in
    let caller = g.P.CellCaller.number before in
    let old = c.args.player.now in
    let after = c.insert.new.caller in
    let said = c.insert.ensures in
    let answered = c.insert.result in
    let new : ScriptPlayer = record { session = c.insert.new.session; watch = old.watch; texts = c.insert.new.texts } in
    let own = g.P.CellCaller.own before in
    let now = g.P.CellCaller.own after in
    let s = c.args.statement.now in
    plays-beside cells caller old new own now s answered
    (record {
      no_file = on-rows-has-none s c.requires.form;
      lets = on-rows-is-let s c.requires.form;
      more = said.more;
      same = refl;
      leaves = said.readers;
    })
    (held-if cells caller old new own now answered (g.P.CellCaller.opening after) (g.P.CellCaller.number after)
    said.opening said.number said.holds)
    (λ told goes. said.texts) said.performed

pub returns-in-Delete-clause-plays : goal.returns-in-Delete-clause-plays
returns-in-Delete-clause-plays g c =
    let before = c.args.caller.now in
    let cells = g.P.CellCaller.opening before in
    let caller = g.P.CellCaller.number before in
    let old = c.args.player.now in
    let after = c.delete.new.caller in
    let said = c.delete.ensures in
    let answered = c.delete.result in
    let new : ScriptPlayer = record { session = c.delete.new.session; watch = old.watch; texts = old.texts } in
    let own = g.P.CellCaller.own before in
    let now = g.P.CellCaller.own after in
    let s = c.args.statement.now in
    plays-beside cells caller old new own now s answered
    (record {
      no_file = on-rows-has-none s c.requires.form;
      lets = on-rows-is-let s c.requires.form;
      more = said.more;
      same = refl;
      leaves = said.readers;
    })
    (held-if cells caller old new own now answered (g.P.CellCaller.opening after) (g.P.CellCaller.number after)
    said.opening said.number said.holds)
    (texts-go cells caller old new own now refl) said.performed
