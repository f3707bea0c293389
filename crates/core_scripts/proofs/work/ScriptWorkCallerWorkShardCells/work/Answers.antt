use Rattle.std.proofs.Common.{[], refl}
use Rattle.turn_board.specs.Passes.{callers_of}
use Rattle.core_scripts.proofs.FinishedWorks.{nothing-left, played-at-once, played-halfway}
use Rattle.core_scripts.proofs.FreshSessions.{playing-at-first}
use Rattle.core_scripts.specs.PlayingSessions.{IsPlaying}
use Rattle.core_scripts.proofs.work.ScriptWorkCallerWorkShardCells.work.Goals as goal

pub play_to_the_end-self-requires-clause-playing : goal.play_to_the_end-self-requires-clause-playing
play_to_the_end-self-requires-clause-playing g c =
    let caller = c.args.caller.now in
    let self = c.args.self.now in
    let told = g.H.Shelf.told self.shelf in
    let cells = g.P.CellCaller.opening caller in
    let number = g.P.CellCaller.number caller in
    let own = g.P.CellCaller.own caller in (
      [],
      coe 1 0 (i. IsPlaying told cells number self.player own [] (c.requires.may.no_replies i))
          (playing-at-first told cells number self.player own c.requires.may.fresh c.requires.fresh
          (c.sessions_begin_with_nothing.ensures cells number self.player.session.number)),
    )

pub play_texts-self-requires-clause-playing : goal.play_texts-self-requires-clause-playing
play_texts-self-requires-clause-playing g c =
    let caller = c.args.caller.now in
    let self = c.args.self.now in
    let told = g.H.Shelf.told self.shelf in
    let cells = g.P.CellCaller.opening caller in
    let number = g.P.CellCaller.number caller in
    let own = g.P.CellCaller.own caller in (
      [],
      coe 1 0 (i. IsPlaying told cells number self.player own [] (c.requires.may.no_replies i))
          (playing-at-first told cells number self.player own c.requires.may.fresh c.requires.fresh
          (c.sessions_begin_with_nothing.ensures cells number self.player.session.number)),
    )

pub returns-then-last-clause-done : goal.returns-then-last-clause-done
returns-then-last-clause-done g c =
    let caller = c.args.caller.now in
    let self = c.args.self.now in
    let shelf = g.H.Shelf in
    let cells = g.P.CellCaller.opening caller in
    let number = g.P.CellCaller.number caller in
    let own = g.P.CellCaller.own caller in
    let e = c.play_to_the_end-self.ensures in
    let may = c.requires.may in
    played-at-once shelf.told shelf.fault_count shelf.absence_count cells number self c.replace-script.result
    c.replace-script.ensures.value (nothing-left self.closing c.if-last.ensures) own e.same e.later refl may.no_replies
    (playing-at-first (shelf.told self.shelf) cells number self.player own may.fresh c.requires.fresh
    (c.sessions_begin_with_nothing.ensures cells number self.player.session.number)) e.ended e.counts

pub returns-else-last-clause-done : goal.returns-else-last-clause-done
returns-else-last-clause-done g c =
    let caller = c.args.caller.now in
    let self = c.args.self.now in
    let shelf = g.H.Shelf in
    let cells = g.P.CellCaller.opening caller in
    let number = g.P.CellCaller.number caller in
    let own = g.P.CellCaller.own caller in
    let e = c.play_texts-self.ensures in
    let may = c.requires.may in
    played-halfway shelf.told shelf.fault_count shelf.absence_count cells number self c.replace-script.result
    c.replace-script.ensures.value (callers_of c.args.board.now) may own
    (g.P.CellCaller.opening c.play_texts-self.new.caller) (g.P.CellCaller.number c.play_texts-self.new.caller) e.opening
    e.number e.same e.later refl refl refl e.session e.every e.capacity e.more e.answered
    (playing-at-first (shelf.told self.shelf) cells number self.player own may.fresh c.requires.fresh
    (c.sessions_begin_with_nothing.ensures cells number self.player.session.number)) e.played e.counts
