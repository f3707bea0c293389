use Rattle.std.proofs.Common.{length}
use Rattle.shard_cases.proofs.checks.+are_sound_parts.Given as goal

abbrev pub decreases-are_sound_parts : goal.decreases-are_sound_parts
decreases-are_sound_parts l = length l.parts.now
