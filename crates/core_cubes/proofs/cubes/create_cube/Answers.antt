use Rattle.session_desk.proofs.May.{create_idle}
use Rattle.core_cubes.proofs.cubes.create_cube.Goals as goal

pub create_storable-requires-clause-idle : goal.create_storable-requires-clause-idle
create_storable-requires-clause-idle g c = create_idle c.args.session.now.mode c.args.decl c.requires.may

pub refuse_fault-requires-clause-idle : goal.refuse_fault-requires-clause-idle
refuse_fault-requires-clause-idle g c = create_idle c.args.session.now.mode c.args.decl c.requires.may
