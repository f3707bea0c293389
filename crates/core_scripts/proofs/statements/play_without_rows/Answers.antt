use Rattle.std.proofs.Common.{refl}
use Rattle.core_scripts.proofs.PlayedOn.{always-held, held-here, plays-beside, texts-go, untouched-has-none, untouched-is-let}
use Rattle.core_scripts.specs.declared.player.ScriptPlayer.{ScriptPlayer}
use Rattle.core_scripts.proofs.statements.play_without_rows.Goals as goal

pub returns-clause-plays : goal.returns-clause-plays
returns-clause-plays g c =
    let before = c.args.caller.now in
    let cells = g.P.CellCaller.opening before in
    let caller = g.P.CellCaller.number before in
    let old = c.args.player.now in
    let after = c.exec_without_rows.new.caller in
    let said = c.exec_without_rows.ensures in
    let answered = c.exec_without_rows.result in
    let new : ScriptPlayer =
    record { session = c.exec_without_rows.new.session; watch = old.watch; texts = old.texts } in
    let own = g.P.CellCaller.own before in
    let now = g.P.CellCaller.own after in
    plays-beside cells caller old new own now c.args.statement answered
    (record {
      no_file = untouched-has-none c.args.statement c.requires.form;
      lets = untouched-is-let c.args.statement c.requires.form;
      more = said.more;
      same = refl;
      leaves = said.readers;
    })
    (always-held cells caller old new own now answered
    (held-here cells caller old new own now (g.P.CellCaller.opening after) (g.P.CellCaller.number after) said.opening
    said.number said.holds))
    (texts-go cells caller old new own now refl) said.performed
