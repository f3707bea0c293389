use Rattle.scripted_pasts.proofs.TextsOffered.{step-offers}
use Rattle.scripted_pasts.proofs.behind.changes_offer_their_texts.Goals as goal

pub returns : goal.returns
returns c = step-offers
