use Rattle.cube_language.specs.declared.statement.Statement.TheVariants.{CreateCube}
use Rattle.cube_journal.specs.declared.reply.Reply.{Reply}
use Rattle.cube_run.specs.RunRecords.{Sentence, Says}
use Rattle.session_desk.specs.Executed.{ExecutesAtDesk}
use Rattle.session_desk.proofs.Replying.{if_replied}
use Rattle.session_desk.proofs.cubes.refuse_create.Goals as goal

pub returns-clause-executed : goal.returns-clause-executed
returns-clause-executed c =
    if_replied c.refuse_memory.result
    (λ (said : Reply). (sentence : Sentence)
    → ExecutesAtDesk sentence c.args.desk.now c.args.session.now c.refuse_memory.new.desk c.refuse_memory.new.session said)
    (λ (said : Reply). ExecutesAtDesk (Says (CreateCube c.args.decl.now)) c.args.desk.now c.args.session.now
    c.refuse_memory.new.desk c.refuse_memory.new.session said)
    c.refuse_memory.ensures.executed
    (λ said all. all (Says (CreateCube c.args.decl.now)))
