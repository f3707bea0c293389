use Rattle.session_texts.proofs.KeptTexts.{texts-later}
use Rattle.session_texts.proofs.law.told_texts_stay_told.Goals as goal

pub returns : goal.returns
returns c = texts-later
