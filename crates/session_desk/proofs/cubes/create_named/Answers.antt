use Rattle.std.proofs.Common.{◌∙◌, ◌+◌, ap, sym, subst}
use Rattle.cube_language.specs.declared.decl.Decl.{Decl}
use Rattle.cube_language.specs.declared.statement.Statement.TheVariants.{CreateCube}
use Rattle.cube_journal.specs.declared.refusal.Refusal.TheVariants.{NoMemory}
use Rattle.cube_journal.specs.declared.reply.Reply.{Reply}
use Rattle.cube_run.specs.RunRecords.{Says}
use Rattle.cube_values.specs.declared.text.Text.{Text}
use Rattle.aosi_desk.specs.Desks.{DeskState}
use Rattle.session_desk.specs.declared.answered.Answered.TheVariants.{Replied}
use Rattle.session_desk.specs.CubeReplies.{HasNewName, created_reply, cubes_after_answer, cubes_after_create}
use Rattle.session_desk.specs.Executed.{ExecutesAtDesk}
use Rattle.session_desk.proofs.Making.{answers_made, at_answer}
use Rattle.session_desk.proofs.MakingCubes.{after_reply, desk_cubes, new_name, refusal_makes_none, refusal_names_none}
use Rattle.session_desk.proofs.Replying.{at_refuse, counted, memory_refused}
use Rattle.std.proofs.Common.{None}
use Rattle.aosi_desk.specs.State.{state_of}
use Rattle.session_replies.specs.Modes.{mode_of}
use Rattle.session_desk.proofs.Turning.{keeps_itself, moves_answered, moves_from}
use Rattle.session_desk.proofs.Unread.{created_unread}
use Rattle.session_desk.specs.FileReplies.{SpeaksOfNoFile}
use Rattle.session_desk.proofs.cubes.create_named.Goals as goal

pub returns-in-Ok-clause-at : goal.returns-in-Ok-clause-at
returns-in-Ok-clause-at c =
    at_answer c.args.decl c.args.desk.now c.args.session.now c.create_cube.new.self c.in-Ok.answer c.requires.at
    c.requires.idle c.is_in_order.ensures.cubes.few c.in-Ok.ensures.answer c.in-Ok.ensures.desk

pub returns-in-Ok-clause-executed : goal.returns-in-Ok-clause-executed
returns-in-Ok-clause-executed c =
    subst (λ (said : Reply). ExecutesAtDesk (Says (CreateCube c.args.decl)) c.args.desk.now c.args.session.now
    c.create_cube.new.self (counted c.args.session.now) said)
    (sym (c.created_reply.ensures ∙ ap (λ (name : Text). created_reply c.in-Ok.answer name) c.requires.copy))
    (answers_made c.args.decl c.args.desk.now c.args.session.now c.create_cube.new.self c.in-Ok.answer c.requires.idle
    c.is_in_order.ensures.cubes.few c.requires.storable c.in-Ok.ensures.answer c.in-Ok.ensures.desk)

pub returns-in-Err-clause-at : goal.returns-in-Err-clause-at
returns-in-Err-clause-at c =
    at_refuse 16 c.refuse.result c.args.desk.now c.args.session.now c.create_cube.new.self c.refuse.new.desk
    c.in-Err.ensures.same c.requires.at c.refuse.ensures.desk c.refuse.ensures.same

pub returns-in-Err-clause-executed : goal.returns-in-Err-clause-executed
returns-in-Err-clause-executed c =
    memory_refused (Says (CreateCube c.args.decl)) c.refuse.result c.args.desk.now c.args.session.now
    c.create_cube.new.self c.refuse.new.desk c.in-Err.ensures.same c.refuse.ensures.said c.refuse.ensures.desk

pub returns-in-Ok-clause-cubes : goal.returns-in-Ok-clause-cubes
returns-in-Ok-clause-cubes c =
    desk_cubes c.args.decl (c.args.session.now.statements + 1) c.args.desk.now c.create_cube.new.self c.in-Ok.answer
    c.args.name c.in-Ok.ensures.desk
    ∙ ap (λ (said : Reply). cubes_after_create c.args.desk.now.cubes c.args.decl (Replied said)) (sym c.created_reply.ensures)

pub returns-in-Ok-clause-schemas : goal.returns-in-Ok-clause-schemas
returns-in-Ok-clause-schemas c =
    c.join.ensures
    ∙ ap (λ (d : Decl). cubes_after_answer c.args.cubes.now.items d c.in-Ok.answer) c.requires.checked
    ∙ after_reply c.args.cubes.now.items c.args.decl c.in-Ok.answer c.args.name
    ∙ ap (λ (said : Reply). cubes_after_create c.args.cubes.now.items c.args.decl (Replied said))
    (sym c.created_reply.ensures)

pub returns-in-Ok-clause-new : goal.returns-in-Ok-clause-new
returns-in-Ok-clause-new c =
    subst (λ (said : Reply). HasNewName c.args.desk.now.cubes c.args.decl (Replied said)) (sym c.created_reply.ensures)
    (new_name c.args.decl c.args.desk.now c.in-Ok.answer c.args.name c.in-Ok.ensures.answer)

pub returns-in-Err-clause-cubes : goal.returns-in-Err-clause-cubes
returns-in-Err-clause-cubes c =
    c.refuse.ensures.cubes ∙ ap (λ (x : DeskState). x.cubes) c.in-Err.ensures.same
    ∙ refusal_makes_none c.refuse.result NoMemory c.args.desk.now.cubes c.args.decl c.refuse.ensures.said

pub returns-in-Err-clause-schemas : goal.returns-in-Err-clause-schemas
returns-in-Err-clause-schemas c =
    refusal_makes_none c.refuse.result NoMemory c.args.cubes.now.items c.args.decl c.refuse.ensures.said

pub returns-in-Err-clause-new : goal.returns-in-Err-clause-new
returns-in-Err-clause-new c =
    refusal_names_none c.refuse.result NoMemory c.args.desk.now.cubes c.args.decl c.refuse.ensures.said

pub returns-in-Ok-clause-moves : goal.returns-in-Ok-clause-moves
returns-in-Ok-clause-moves c =
    moves_answered (c.args.session.now.statements + 1) c.args.decl c.in-Ok.answer c.args.desk.now c.create_cube.new.self
    c.in-Ok.ensures.desk

pub returns-in-Ok-clause-turns : goal.returns-in-Ok-clause-turns
returns-in-Ok-clause-turns c =
    keeps_itself (state_of c.args.desk.now.register).ec (mode_of c.args.session.now.mode)

pub returns-in-Err-clause-moves : goal.returns-in-Err-clause-moves
returns-in-Err-clause-moves c =
    moves_from None c.args.desk.now c.create_cube.new.self c.refuse.new.desk c.in-Err.ensures.same
    c.refuse.ensures.moves

pub returns-in-Err-clause-turns : goal.returns-in-Err-clause-turns
returns-in-Err-clause-turns c =
    keeps_itself (state_of c.args.desk.now.register).ec (mode_of c.args.session.now.mode)

pub returns-in-Ok-clause-no_file : goal.returns-in-Ok-clause-no_file
returns-in-Ok-clause-no_file c =
    subst SpeaksOfNoFile (sym c.created_reply.ensures) (created_unread c.in-Ok.answer c.args.name)
