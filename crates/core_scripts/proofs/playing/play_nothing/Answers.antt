use Rattle.std.proofs.Common.{refl}
use Rattle.core_scripts.proofs.PlayedOn.{held-here, texts-go}
use Rattle.core_scripts.proofs.RefusedOn.{plays-nothing}
use Rattle.core_scripts.specs.declared.player.ScriptPlayer.{ScriptPlayer}
use Rattle.core_scripts.proofs.playing.play_nothing.Goals as goal

pub returns-clause-plays : goal.returns-clause-plays
returns-clause-plays g c =
    let before = c.args.caller.now in
    let cells = g.P.CellCaller.opening before in
    let caller = g.P.CellCaller.number before in
    let old = c.args.player.now in
    let after = c.refuse_syntax.new.caller in
    let said = c.refuse_syntax.ensures in
    let new : ScriptPlayer =
    record { session = c.refuse_syntax.new.session; watch = old.watch; texts = old.texts } in
    let own = g.P.CellCaller.own before in
    let now = g.P.CellCaller.own after in
    plays-nothing cells caller old new own now c.args.fault.at c.refuse_syntax.result
    (record {
      more = said.more;
      same = refl;
      holds =
          held-here cells caller old new own now (g.P.CellCaller.opening after) (g.P.CellCaller.number after)
          said.opening said.number said.holds;
      leaves = c.other_calls_leave_the_holders.ensures.plain cells caller old.session.number own now said.plain;
      goes = said.plain;
      texts = texts-go cells caller old new own now refl;
    })
    said.executed
