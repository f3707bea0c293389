use Rattle.std.proofs.Common.{refl}
use Rattle.core_scripts.proofs.PlayedOn.{held-here, texts-go}
use Rattle.core_scripts.proofs.RefusedOn.{plays-refused, refused-unread}
use Rattle.core_scripts.specs.declared.player.ScriptPlayer.{ScriptPlayer}
use Rattle.core_scripts.proofs.playing.play_refused.Goals as goal

pub returns-clause-unread : goal.returns-clause-unread
returns-clause-unread g c =
    let before = c.args.caller.now in
    let cells = g.P.CellCaller.opening before in
    let caller = g.P.CellCaller.number before in
    let old = c.args.player.now in
    let after = c.refuse_by_mode.new.caller in
    let said = c.refuse_by_mode.ensures in
    let new : ScriptPlayer =
    record { session = c.refuse_by_mode.new.session; watch = old.watch; texts = old.texts } in
    let own = g.P.CellCaller.own before in
    let now = g.P.CellCaller.own after in
    refused-unread cells caller old new own now c.args.statement.now c.args.refusal c.requires.refused c.refuse_by_mode.result
    said.said

pub returns-clause-plays : goal.returns-clause-plays
returns-clause-plays g c =
    let before = c.args.caller.now in
    let cells = g.P.CellCaller.opening before in
    let caller = g.P.CellCaller.number before in
    let old = c.args.player.now in
    let after = c.refuse_by_mode.new.caller in
    let said = c.refuse_by_mode.ensures in
    let new : ScriptPlayer =
    record { session = c.refuse_by_mode.new.session; watch = old.watch; texts = old.texts } in
    let own = g.P.CellCaller.own before in
    let now = g.P.CellCaller.own after in
    plays-refused cells caller old new own now c.args.statement.now c.args.refusal c.requires.refused c.refuse_by_mode.result
    (record {
      more = said.more;
      same = refl;
      holds =
          held-here cells caller old new own now (g.P.CellCaller.opening after) (g.P.CellCaller.number after)
          said.opening said.number said.holds;
      leaves = c.other_calls_leave_the_holders.ensures.plain cells caller old.session.number own now said.plain;
      goes = said.plain;
      texts = texts-go cells caller old new own now refl;
    })
    said.said said.executed
