use Rattle.std.proofs.Common.{ap, true, None}
use Rattle.aosi_desk.specs.State.{state_of}
use Rattle.aosi_desk.specs.Desks.{DeskState}
use Rattle.session_desk.specs.Entries.{HasFollowed}
use Rattle.session_desk.proofs.Asking.{flush_fits}
use Rattle.session_desk.proofs.Following.{if_true, keeps_round, keeps_through, refusal_followed, round_followed_if}
use Rattle.session_desk.proofs.Moving.{moves_then}
use Rattle.session_desk.proofs.RoundEntries.{keeps_same}
use Rattle.session_desk.proofs.rounds.round_after_commit.Goals as goal

pub note_round-requires : goal.note_round-requires
note_round-requires c =
    flush_fits c.args.desk.now.register.safe c.args.desk.now.register.journal
    c.make_round.new.desk.register.journal (state_of c.args.desk.now.register)
    (ap (λ (d : DeskState). d.register.journal) c.in-Ok.ensures.made)

pub returns-in-Ok-clause-followed : goal.returns-in-Ok-clause-followed
returns-in-Ok-clause-followed c =
    round_followed_if c.note_round.result c.args.statement c.args.desk.now c.make_round.new.desk
    c.note_round.new.desk c.in-Ok.ensures.made c.note_round.ensures.noted

pub returns-in-Ok-clause-kept : goal.returns-in-Ok-clause-kept
returns-in-Ok-clause-kept c =
    keeps_through c.args.desk.now c.make_round.new.desk c.note_round.new.desk
    (keeps_round c.args.desk.now c.make_round.new.desk c.in-Ok.ensures.made) c.note_round.ensures.kept

pub returns-in-Err-clause-followed : goal.returns-in-Err-clause-followed
returns-in-Err-clause-followed c =
    if_true c.note_no_memory.result _
    (HasFollowed c.args.statement true c.args.desk.now c.note_no_memory.new.desk) c.note_no_memory.ensures.noted
    (refusal_followed c.args.statement c.args.desk.now c.make_round.new.desk c.note_no_memory.new.desk
    c.in-Err.ensures.same)

pub returns-in-Err-clause-kept : goal.returns-in-Err-clause-kept
returns-in-Err-clause-kept c =
    keeps_through c.args.desk.now c.make_round.new.desk c.note_no_memory.new.desk
    (keeps_same c.args.desk.now c.make_round.new.desk c.in-Err.ensures.same) c.note_no_memory.ensures.kept

pub returns-in-Ok-clause-moves : goal.returns-in-Ok-clause-moves
returns-in-Ok-clause-moves c =
    moves_then None c.args.desk.now c.make_round.new.desk c.note_round.new.desk c.make_round.ensures.moves
    c.note_round.ensures.moves

pub returns-in-Err-clause-moves : goal.returns-in-Err-clause-moves
returns-in-Err-clause-moves c =
    moves_then None c.args.desk.now c.make_round.new.desk c.note_no_memory.new.desk c.make_round.ensures.moves
    c.note_no_memory.ensures.moves
