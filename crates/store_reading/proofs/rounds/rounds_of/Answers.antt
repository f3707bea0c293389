use Rattle.std.proofs.Common.{◌≡◌, List, ℕ, Option, subst, arith}
use Rattle.std.proofs.lemmas.Result.{err_from_is_err_and}
use Rattle.sha2.specs.Sha256.{sha256}
use Rattle.round_fields.specs.Reading.{FailsRead}
use Rattle.store_reading.proofs.Growing.{round_names_fit}
use Rattle.store_reading.proofs.RoundsRead.{rounds_ended, rounds_failed, further, started}
use Rattle.store_reading.proofs.rounds.rounds_of.Goals as goal

pub rounds-init : goal.rounds-init
rounds-init c = record {
  size = c.requires.size;
  readable = c.requires.readable;
  so_far = started sha256 c.args.size c.args.begun c.args.bytes.now (omega (arith, c.requires.size));
}

pub returns-in_err-round-clause-exact : goal.returns-in_err-round-clause-exact
returns-in_err-round-clause-exact c = λ told tells.
    let p = err_from_is_err_and c.from_residual.result c.from_residual.ensures.1 in
    let on = c.rounds.invariant.so_far in
    rw (p.1, p.2, ← on.same told tells)
    (rounds_failed sha256 told c.args.size on.most c.rounds.kept c.rounds.left.now _ on.few (c.in_err-round.ensures.exact told tells))

pub with_round-requires-clause-names : goal.with_round-requires-clause-names
with_round-requires-clause-names c =
    let is = rw c.in-Some.is at c.in_ok-round.ensures.found in
    round_names_fit c.rounds.kept c.in-Some.round is.fits

pub rounds-preserved : goal.rounds-preserved
rounds-preserved c =
    let is = rw c.in-Some.is at c.in_ok-round.ensures.found in
    let f = further sha256 c.args.size c.rounds.kept c.args.begun c.in_ok-kept.kept c.rounds.left.now c.args.bytes.now c.split_at.result.1.now (c.in-Some.round, c.in-Some.n) is
    (λ told tells. rw c.in-Some.is at (c.in_ok-round.ensures.exact told tells)) c.in_ok-kept.ensures c.split_at.ensures.back c.rounds.invariant.readable c.rounds.invariant.size c.rounds.invariant.so_far in
    record { size = f.size_is; readable = f.readable; so_far = f.so_far }

pub returns-clause-exact : goal.returns-clause-exact
returns-clause-exact c = λ told tells.
    let on = c.rounds.invariant.so_far in
    rw (← on.same told tells) (rounds_ended sha256 told c.args.size on.most c.rounds.kept c.rounds.left.now (rw c.in_default.is at (c.in_ok-round.ensures.exact told tells)))
