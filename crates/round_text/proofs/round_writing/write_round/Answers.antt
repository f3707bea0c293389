use Rattle.round_text.proofs.Shorts.{round_names}
use Rattle.round_text.proofs.round_writing.write_round.Goals as goal

pub body_of-requires-clause-names : goal.body_of-requires-clause-names
body_of-requires-clause-names c = round_names c.args.cubes.now c.requires.0 c.args.round.now c.requires.1

pub body_of-requires-clause-made : goal.body_of-requires-clause-made
body_of-requires-clause-made c = c.requires.1.made.declared
