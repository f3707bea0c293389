use Rattle.std.proofs.Common.{◌∙◌, ◌+◌, ℕ, ap, refl, subst, sym}
use Rattle.cube_values.specs.declared.snapshot.Snapshot.{Snapshot}
use Rattle.cube_language.specs.declared.statement.Statement.TheVariants.{Begin}
use Rattle.cube_journal.specs.declared.reply.Reply.TheVariants as reply
use Rattle.cube_run.specs.RunRecords.{Says}
use Rattle.cube_run.specs.SessionStates.{Open}
use Rattle.aosi_desk.specs.State.{after_begin}
use Rattle.aosi_desk.specs.Desks.{desk_over}
use Rattle.session_replies.specs.declared.mode.SessionMode.TheVariants as variant
use Rattle.session_desk.specs.declared.session.Session.{Session}
use Rattle.session_desk.specs.Executed.{ExecutesAtDesk}
use Rattle.session_desk.proofs.Begun.{begin_executes}
use Rattle.session_desk.proofs.May.{begin_idle}
use Rattle.session_desk.proofs.Replying.{memory_refused}
use Rattle.std.proofs.Common.{None}
use Rattle.aosi_desk.specs.State.{state_of}
use Rattle.session_replies.specs.Modes.{mode_of}
use Rattle.session_desk.proofs.Turning.{begins_open, keeps_itself, moves_begun, moves_from}
use Rattle.session_desk.proofs.transactions.begin.Goals as goal

pub returns-in-Ok-clause-executed : goal.returns-in-Ok-clause-executed
returns-in-Ok-clause-executed c =
    let desk = c.args.desk.now in
    let session = c.args.session.now in
    let snapshot = c.in-Ok.ensures.snapshot in
    let now : Session = record {
      mode = variant.Open c.in-Ok.writer;
      statements = session.statements + 1;
      commits = session.commits;
      round_every = session.round_every;
    } in
    subst (λ (e : ℕ). ExecutesAtDesk (Says Begin) desk session c.open_write.new.self now (reply.Begun e))
    (sym (ap (λ (s : Snapshot). s.epoch) snapshot))
    (begin_executes desk session c.open_write.new.self now (record {
      was = begin_idle session.mode c.requires.may;
      desk_is =
          c.in-Ok.ensures.desk
          ∙ ap (λ (s : Snapshot). desk_over desk (after_begin desk.register 1 (session.statements + 1) s)) snapshot;
      mode_is = ap (λ (s : Snapshot). Open s) snapshot;
      statements = refl;
      commits = refl;
      every = refl;
    }))

pub returns-in-Err-clause-executed : goal.returns-in-Err-clause-executed
returns-in-Err-clause-executed c =
    memory_refused (Says Begin) c.refuse.result c.args.desk.now c.args.session.now c.open_write.new.self
    c.refuse.new.desk c.in-Err.ensures.same c.refuse.ensures.said c.refuse.ensures.desk

pub returns-in-Ok-clause-moves : goal.returns-in-Ok-clause-moves
returns-in-Ok-clause-moves c =
    moves_begun (c.args.session.now.statements + 1) c.in-Ok.writer c.args.desk.now c.open_write.new.self
    c.in-Ok.ensures.desk

pub returns-in-Ok-clause-turns : goal.returns-in-Ok-clause-turns
returns-in-Ok-clause-turns c =
    begins_open (state_of c.args.desk.now.register).ec (mode_of c.args.session.now.mode) c.in-Ok.writer
    (begin_idle c.args.session.now.mode c.requires.may) (ap (λ (s : Snapshot). s.epoch) c.in-Ok.ensures.snapshot)

pub returns-in-Err-clause-moves : goal.returns-in-Err-clause-moves
returns-in-Err-clause-moves c =
    moves_from None c.args.desk.now c.open_write.new.self c.refuse.new.desk c.in-Err.ensures.same c.refuse.ensures.moves

pub returns-in-Err-clause-turns : goal.returns-in-Err-clause-turns
returns-in-Err-clause-turns c =
    keeps_itself (state_of c.args.desk.now.register).ec (mode_of c.args.session.now.mode)
