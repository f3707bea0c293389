use Rattle.kept_data.proofs.SoundCubes.{declared_kept, round_kept, either_kept, header_cubes, file_has_rounds, begun_alone, file_sound}
use Rattle.kept_data.proofs.law.kept_data_are_sound.Goals as goal

pub returns-clause-sound : goal.returns-clause-sound
returns-clause-sound c = file_sound

pub returns-clause-header : goal.returns-clause-header
returns-clause-header c = header_cubes

pub returns-clause-rounds : goal.returns-clause-rounds
returns-clause-rounds c = file_has_rounds

pub returns-clause-begun : goal.returns-clause-begun
returns-clause-begun c = begun_alone

pub returns-clause-either : goal.returns-clause-either
returns-clause-either c = either_kept

pub returns-clause-declared : goal.returns-clause-declared
returns-clause-declared c = declared_kept

pub returns-clause-round : goal.returns-clause-round
returns-clause-round c = round_kept
