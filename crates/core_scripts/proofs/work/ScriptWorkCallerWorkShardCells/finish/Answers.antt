use Rattle.std.proofs.Common.{map, refl}
use Rattle.turn_board.specs.Passes.{callers_of}
use Rattle.core_scripts.proofs.FinishedWorks.{finished, halfway-playing, may-go-on}
use Rattle.script_sentences.specs.Sentences.{sentence_of}
use Rattle.core_scripts.proofs.work.ScriptWorkCallerWorkShardCells.finish.Goals as goal

pub play_to_the_end-self-requires-clause-callers : goal.play_to_the_end-self-requires-clause-callers
play_to_the_end-self-requires-clause-callers g c =
    (may-go-on g.H.Shelf.told g.H.Shelf.fault_count g.H.Shelf.absence_count (g.P.CellCaller.opening c.args.caller.now)
    (g.P.CellCaller.number c.args.caller.now) c.requires.done.0 c.args.self.now (g.P.CellCaller.own c.args.caller.now)
    c.requires.done.2 c.if-halfway.true c.replace-closing.result c.replace-closing.ensures.value
    (callers_of c.args.board.now) c.requires.done.1).all

pub play_to_the_end-self-requires-clause-served : goal.play_to_the_end-self-requires-clause-served
play_to_the_end-self-requires-clause-served g c =
    (may-go-on g.H.Shelf.told g.H.Shelf.fault_count g.H.Shelf.absence_count (g.P.CellCaller.opening c.args.caller.now)
    (g.P.CellCaller.number c.args.caller.now) c.requires.done.0 c.args.self.now (g.P.CellCaller.own c.args.caller.now)
    c.requires.done.2 c.if-halfway.true c.replace-closing.result c.replace-closing.ensures.value
    (callers_of c.args.board.now) c.requires.done.1).served

pub play_to_the_end-self-requires-clause-number : goal.play_to_the_end-self-requires-clause-number
play_to_the_end-self-requires-clause-number g c =
    (may-go-on g.H.Shelf.told g.H.Shelf.fault_count g.H.Shelf.absence_count (g.P.CellCaller.opening c.args.caller.now)
    (g.P.CellCaller.number c.args.caller.now) c.requires.done.0 c.args.self.now (g.P.CellCaller.own c.args.caller.now)
    c.requires.done.2 c.if-halfway.true c.replace-closing.result c.replace-closing.ensures.value
    (callers_of c.args.board.now) c.requires.done.1).is_session

pub play_to_the_end-self-requires-clause-few : goal.play_to_the_end-self-requires-clause-few
play_to_the_end-self-requires-clause-few g c =
    (may-go-on g.H.Shelf.told g.H.Shelf.fault_count g.H.Shelf.absence_count (g.P.CellCaller.opening c.args.caller.now)
    (g.P.CellCaller.number c.args.caller.now) c.requires.done.0 c.args.self.now (g.P.CellCaller.own c.args.caller.now)
    c.requires.done.2 c.if-halfway.true c.replace-closing.result c.replace-closing.ensures.value
    (callers_of c.args.board.now) c.requires.done.1).few

pub play_to_the_end-self-requires-clause-proper : goal.play_to_the_end-self-requires-clause-proper
play_to_the_end-self-requires-clause-proper g c =
    (may-go-on g.H.Shelf.told g.H.Shelf.fault_count g.H.Shelf.absence_count (g.P.CellCaller.opening c.args.caller.now)
    (g.P.CellCaller.number c.args.caller.now) c.requires.done.0 c.args.self.now (g.P.CellCaller.own c.args.caller.now)
    c.requires.done.2 c.if-halfway.true c.replace-closing.result c.replace-closing.ensures.value
    (callers_of c.args.board.now) c.requires.done.1).proper

pub play_to_the_end-self-requires-clause-room : goal.play_to_the_end-self-requires-clause-room
play_to_the_end-self-requires-clause-room g c =
    (may-go-on g.H.Shelf.told g.H.Shelf.fault_count g.H.Shelf.absence_count (g.P.CellCaller.opening c.args.caller.now)
    (g.P.CellCaller.number c.args.caller.now) c.requires.done.0 c.args.self.now (g.P.CellCaller.own c.args.caller.now)
    c.requires.done.2 c.if-halfway.true c.replace-closing.result c.replace-closing.ensures.value
    (callers_of c.args.board.now) c.requires.done.1).fits

pub play_to_the_end-self-requires-clause-playing : goal.play_to_the_end-self-requires-clause-playing
play_to_the_end-self-requires-clause-playing g c = (
  map sentence_of c.requires.done.0.script.items,
  halfway-playing g.H.Shelf.told g.H.Shelf.fault_count g.H.Shelf.absence_count
      (g.P.CellCaller.opening c.args.caller.now) (g.P.CellCaller.number c.args.caller.now) c.requires.done.0
      c.args.self.now (g.P.CellCaller.own c.args.caller.now) c.requires.done.2 c.if-halfway.true,
)

pub returns-then-halfway-clause-done : goal.returns-then-halfway-clause-done
returns-then-halfway-clause-done g c first may d =
    let e = c.play_to_the_end-self.ensures in
    finished g.H.Shelf.told g.H.Shelf.fault_count g.H.Shelf.absence_count (g.P.CellCaller.opening c.args.caller.now)
    (g.P.CellCaller.number c.args.caller.now) first c.args.self.now (g.P.CellCaller.own c.args.caller.now) d
    c.if-halfway.true c.replace-closing.result c.replace-closing.ensures.value e.same e.later refl e.ended e.counts
