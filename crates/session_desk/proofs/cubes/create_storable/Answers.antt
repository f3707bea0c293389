use Rattle.std.proofs.Common.{◌∙◌}
use Rattle.cube_journal.specs.declared.refusal.Refusal.TheVariants.{NoMemory}
use Rattle.session_desk.proofs.MakingCubes.{refusal_makes_none, refusal_names_none}
use Rattle.session_desk.proofs.cubes.create_storable.Goals as goal

pub returns-in-Err-clause-cubes : goal.returns-in-Err-clause-cubes
returns-in-Err-clause-cubes c =
    c.refuse_create.ensures.cubes
    ∙ refusal_makes_none c.refuse_create.result NoMemory c.args.desk.now.cubes c.args.decl c.refuse_create.ensures.said

pub returns-in-Err-clause-schemas : goal.returns-in-Err-clause-schemas
returns-in-Err-clause-schemas c =
    c.reserve.ensures.items ∙ refusal_makes_none c.refuse_create.result NoMemory c.args.cubes.now.items c.args.decl c.refuse_create.ensures.said

pub returns-in-Err-clause-new : goal.returns-in-Err-clause-new
returns-in-Err-clause-new c =
    refusal_names_none c.refuse_create.result NoMemory c.args.desk.now.cubes c.args.decl c.refuse_create.ensures.said
