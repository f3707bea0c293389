use Rattle.sql_words.proofs.TokensStand.{tokens_cut}
use Rattle.sql_words.proofs.law.a_text_may_be_cut_at_its_tokens.Goals as goal

pub returns : goal.returns
returns c = tokens_cut
