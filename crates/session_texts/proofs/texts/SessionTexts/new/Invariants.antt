use Rattle.std.proofs.Common.{◌≡◌, None, replicate}
use Rattle.session_texts.proofs.texts.SessionTexts.new.Given as goal

abbrev pub invariant-cubes : goal.invariant-cubes
invariant-cubes l = l.cubes.items ≡ replicate l._cube None
