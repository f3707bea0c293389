use Rattle.std.proofs.Common.{◌∙◌, subst, arith}
use Rattle.std.proofs.lemmas.Bool.Decides.{nat_tests}
use Rattle.std.proofs.lemmas.Grind.{common_steps}
use Rattle.cube_language.specs.Tokens.{AreTokens, HasTokenFault}
use Rattle.sql_words.proofs.TokensLeft.{read_none, read_more, read_all, read_fails, rest_shorter}
use Rattle.sql_words.proofs.token.tokens.Goals as goal

pub tokens-init : goal.tokens-init
tokens-init c =
    rw (c.from_vec-tokens.ensures ∙ c.in_ok-with_capacity.ensures.items)
    (read_none _ _ c.behind_gap-rest.ensures.gap)

pub returns-in-Err-clause-fault : goal.returns-in-Err-clause-fault
returns-in-Err-clause-fault c =
    let wrong = c.in-Err.ensures.fault in
    subst (λ text. HasTokenFault text c.in-Err.fault) c.as_bytes-bytes.ensures.value (read_fails _ _ _ c.in-Err.fault c.tokens.invariant wrong.0 wrong.1)

pub tokens-smaller : goal.tokens-smaller
tokens-smaller c =
    rest_shorter c.in-Ok.front.0 c.in-Ok.front.1 _ _ c.in-Ok.ensures.token (rw c.split_at.ensures.back at c.behind_gap-rest-in-tokens.ensures.gap)

pub tokens-preserved : goal.tokens-preserved
tokens-preserved c =
    rw c.in_ok-push.ensures.ok
    (read_more _ _ _ _ c.in-Ok.front.0 c.in-Ok.front.1 c.tokens.invariant c.in-Ok.ensures.token (rw c.split_at.ensures.back at c.behind_gap-rest-in-tokens.ensures.gap))

pub returns-clause-found : goal.returns-clause-found
returns-clause-found c =
    subst (λ text. AreTokens text c.tokens.tokens) c.as_bytes-bytes.ensures.value (read_all _ _ _ c.tokens.invariant (grind (arith, nat_tests, common_steps)))
