use Rattle.round_text.proofs.TextLengths.{canonical_short}
use Rattle.round_text.proofs.law.canonical_texts_are_short.Goals as goal

pub returns : goal.returns
returns c = canonical_short
