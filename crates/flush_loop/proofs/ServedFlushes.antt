-- The flusher serves a FLUSH that it took, and makes its last round.
use Rattle.std.proofs.Common.{◌≡◌, ◌∙◌, ℕ, Bool, true, false, true≢false, List, [], ◌∷◌, ◌++◌, append_assoc, append-nil, Some, None, refl, sym, ap, subst}
use Rattle.cube_core.specs.Links.{AreEventsOf}
use Rattle.cube_core.specs.BoardCells.{IsEntryEvent}
use Rattle.core_program.proofs.KnownCalls.{earlier-run}
use Rattle.core_program.specs.Knowing.{IsLaterRun}
use Rattle.core_events.specs.Cells.{Took, WorkerState, worker_of}
use Rattle.core_events.specs.Clients.{calls_of, state_from_calls}
use Rattle.core_events.specs.Events.{Opening, flush_mail, flusher, Reply, ClientCall, CoreEvent, At}
use Rattle.core_events.specs.Fitting.{FitsWork, FlushSays, round_progress}
use Rattle.core_events.specs.Jobs.{CoreJob, Flush, JobOutcome, StoreLost}
use Rattle.core_events.specs.ShardView.{ShardView}
use Rattle.core_program.specs.Flushing.{IsFlusherOf, KnowsPart, MayReplyTo, PartClaim}
use Rattle.core_events.specs.Histories.{job_served}
use Rattle.core_program.specs.CoreFits.{CoreEntry}
use Rattle.cube_core.specs.declared.cell.CoreCell.{CoreCell}
use Rattle.cube_core.specs.declared.jobs.FlushAnswer.{FlushAnswer}
use Rattle.cube_core.specs.declared.jobs.FlushAnswer.TheVariants as flush
use Rattle.cube_core.specs.declared.jobs.JobAnswer.TheVariants as reply
use Rattle.cube_core.specs.declared.shard.ShardAnswer.{ShardAnswer}
use Rattle.cube_core.specs.declared.shard.ShardCall.{ShardCall}
use Rattle.flush_loop.proofs.OwnRounds.{outcome-is, says-so, stands-so, worker-left}
use Rattle.flush_loop.specs.FlushTurns.{ByLostStore, ByRound, FlushService, LearnsOfLastRound, LearnsOfService, SuitsStore, service_events}
use Rattle.flush_loop.specs.MadeRounds.{HoldsInRuns, KnowsBetween, LearnsOfOwnRound, KeptClaim}
use Rattle.flush_loop.specs.RoundResults.{flush_answer, flush_outcome, loses_store}
use Rattle.flush_loop.specs.declared.round_result.RoundResult.{RoundResult}
use Rattle.flusher_mail.specs.FlusherMail.{HasFlush, IsAtMail, LearnsOfReply}
use Rattle.flusher_rounds.specs.RoundStates.{IsBetweenRounds}
use Rattle.job_groups.specs.AskedEach.{HasMore}

pub more-and-more : (own mid now : List CoreEntry) → HasMore own mid → HasMore mid now → HasMore own now
more-and-more own mid now one two = record {
  more = one.more ++ two.more;
  whole = two.whole ∙ ap (λ (l : List CoreEntry). l ++ two.more) one.whole ∙ append_assoc own one.more two.more;
}

pub one-more : (own now : List CoreEntry) (e : CoreEntry) → now ≡ own ++ e ∷ [] → HasMore own now
one-more own now e is = record { more = e ∷ []; whole = is }

pub none-more : (own : List CoreEntry) → HasMore own own
none-more own = record { more = []; whole = sym (append-nil own) }

module _ {S : Type 0} (fits : Opening → ℕ → ShardCall → Type 0) (stands : Opening → ℕ → ℕ → S → ShardView → Type 0)
    (says : CoreJob → ShardAnswer → JobOutcome → Type 0) (cells : List (CoreCell S)) (caller client shards : ℕ) where
  abbrev Later : Opening → List CoreEntry → List CoreEntry → List CoreEvent → Type 0
  Later o own log run = IsLaterRun fits stands says cells o caller own log run

  abbrev Of : Opening → List CoreEntry → List CoreEvent → Type 0
  Of o own es = AreEventsOf (IsEntryEvent fits stands says o) own es

  abbrev KnowsIt : List CoreEntry → PartClaim → Type 0
  KnowsIt own P = KnowsPart fits stands says cells caller own P

  abbrev Keeps : KeptClaim → List CoreEntry → Type 0
  Keeps Holds own = HoldsInRuns fits stands says cells caller client Holds own

  -- A run after more calls is one after the calls before them.
  pub earlier : (o : Opening) (own now log : List CoreEntry) (run : List CoreEvent) → HasMore own now → Later o now log run → Later o own log run
  earlier o own now log run more later =
      earlier-run fits stands says cells o caller own more.more log run
      (subst (λ (l : List CoreEntry). Later o l log run) more.whole later)

  -- A round that it made.
  module _ (flush : IsFlusherOf fits stands says cells caller client shards) where
    pub between-known : (worker : WorkerState) (lost : Bool) (own : List CoreEntry) → KnowsIt own (IsAtMail worker lost)
        → KnowsBetween fits stands says cells caller client lost own
    between-known worker lost own knows o log run es later are =
        let is = flush.client_is o log later.opens in
        coe 1 0 (i. IsBetweenRounds o lost (state_from_calls o (is i) (calls_of (is i) es))) (knows o log run es later are).between

    module _ (result : RoundResult) (own mid : List CoreEntry) (more : HasMore own mid)
        (learns : LearnsOfOwnRound fits stands says cells caller client result own mid)
        (between : KnowsBetween fits stands says cells caller client (loses_store result) mid) where
      same-worker : (worker : WorkerState) → KnowsIt own (IsAtMail worker false) → (o : Opening) (log : List CoreEntry) (run es : List CoreEvent)
          → Later o mid log run → Of o mid es → worker_of (flush_mail o) es ≡ worker
      same-worker worker knows o log run es later are =
          let r = learns o log run es later are in
          ap (worker_of (flush_mail o)) r.whole
          ∙ worker-left client (flush_mail o) r.calls r.before
          ∙ (knows o log run r.before (earlier o own mid log run more later) r.events).has

      between-then : (o : Opening) (log : List CoreEntry) (run es : List CoreEvent) → Later o mid log run → Of o mid es
          → IsBetweenRounds o (loses_store result) (state_from_calls o (flusher o) (calls_of (flusher o) es))
      between-then o log run es later are =
          let is = flush.client_is o log later.opens in
          coe 0 1 (i. IsBetweenRounds o (loses_store result) (state_from_calls o (is i) (calls_of (is i) es))) (between o log run es later are)

      pub after-own-round : (worker : WorkerState) → KnowsIt own (IsAtMail worker false) → KnowsIt mid (IsAtMail worker (loses_store result))
      after-own-round worker knows o log run es later are = record {
        has = same-worker worker knows o log run es later are;
        between = between-then o log run es later are;
      }

      pub may-say : (to : ℕ) → KnowsIt own (HasFlush to false) → KnowsIt mid (MayReplyTo says to (reply.Flush (flush_answer result)))
      may-say to knows o log run es later are =
          let r = learns o log run es later are in
          let took = same-worker (Took to Flush) knows o log run es later are in
          let lost = (state_from_calls o (flusher o) (calls_of (flusher o) es)).store_lost in
          record {
            job = Flush;
            outcome = flush_outcome result;
            serves = ap job_served took;
            stands = stands-so says Flush result;
            fits = subst (λ (w : WorkerState). FitsWork (round_progress o es) lost w (Reply to (flush_outcome result))) (sym took) (
              refl,
              subst (λ (l : List CoreEvent). FlushSays (round_progress o l) lost (flush_outcome result)) (sym r.whole)
                  (says-so o client r.before result r.calls lost r.of_round (between-then o log run es later are).store),
            );
          }

      pub served-by-round : (to : ℕ) (now : List CoreEntry) → HasMore mid now
          → LearnsOfReply fits stands says cells caller shards to (flush_answer result) mid now
          → LearnsOfService fits stands says cells caller client shards false to (loses_store result) own now
      served-by-round to now more_now said o log run es later are =
          let g = said o log run es later are in
          let r = learns o log run g.before (earlier o mid now log run more_now later) g.events in
          let outcome = outcome-is says g.job result g.outcome g.stands_for in
          record {
            before = r.before;
            events = r.events;
            service = ByRound result r.calls;
            suits = (refl, r.of_round);
            loses = refl;
            whole = g.whole ∙ (λ i. At shards (Reply to (outcome i)) ∷ r.whole i);
          }

  -- It makes none, since the store is lost.
  pub may-refuse : (to : ℕ) (own : List CoreEntry) → KnowsIt own (HasFlush to true) → KnowsIt own (MayReplyTo says to (reply.Flush flush.StoreFailed))
  may-refuse to own knows o log run es later are =
      let was = knows o log run es later are in record {
        job = Flush;
        outcome = StoreLost;
        serves = ap job_served was.has;
        stands = refl;
        fits = subst (λ (w : WorkerState). FitsWork (round_progress o es)
            (state_from_calls o (flusher o) (calls_of (flusher o) es)).store_lost w (Reply to StoreLost)) (sym was.has)
            (refl, was.between.store);
      }

  pub served-by-none : (to : ℕ) (own now : List CoreEntry) → LearnsOfReply fits stands says cells caller shards to flush.StoreFailed own now
      → LearnsOfService fits stands says cells caller client shards true to true own now
  served-by-none to own now said o log run es later are =
      let g = said o log run es later are in record {
        before = g.before;
        events = g.events;
        service = ByLostStore;
        suits = refl;
        loses = refl;
        whole = g.whole ∙ ap (λ (outcome : JobOutcome). At shards (Reply to outcome) ∷ g.before) g.stands_for;
      }

  -- What was kept.

  pub kept-by-reply : (to : ℕ) (said : FlushAnswer) (own now : List CoreEntry) (Holds : KeptClaim) → HasMore own now
      → LearnsOfReply fits stands says cells caller shards to said own now → Keeps Holds own → Keeps Holds now
  kept-by-reply to said own now Holds more learns held = record {
    kept = held.kept;
    in_runs = λ o log run es later are.
        let g = learns o log run es later are in
        subst (λ (l : List CoreEvent). Holds held.kept o run (calls_of client l)) (sym g.whole)
        (held.in_runs o log run g.before (earlier o own now log run more later) g.events);
  }

  without-calls : (to : ℕ) (service : FlushService) (before : List CoreEvent) → SuitsStore true service
      → calls_of client (service_events client shards to service ++ before) ≡ calls_of client before
  without-calls to (ByRound result calls) before suits = absurd (true≢false suits.0)
  without-calls to ByLostStore before suits = refl

  pub kept-by-refusal : (to : ℕ) (own now : List CoreEntry) (Holds : KeptClaim) → HasMore own now
      → LearnsOfService fits stands says cells caller client shards true to true own now → Keeps Holds own → Keeps Holds now
  kept-by-refusal to own now Holds more learns held = record {
    kept = held.kept;
    in_runs = λ o log run es later are.
        let s = learns o log run es later are in
        subst (λ (calls : List ClientCall). Holds held.kept o run calls)
        (sym (ap (calls_of client) s.whole ∙ without-calls to s.service s.before s.suits))
        (held.in_runs o log run s.before (earlier o own now log run more later) s.events);
  }

  -- The last round.

  pub last-made : (result : RoundResult) (own now : List CoreEntry) → LearnsOfOwnRound fits stands says cells caller client result own now
      → LearnsOfLastRound fits stands says cells caller client shards false (Some result) own now
  last-made result own now learns o log run es later are =
      let r = learns o log run es later are in
      record { before = r.before; events = r.events; calls = r.calls; last = (refl, r.of_round); whole = r.whole }

  pub last-left : (own : List CoreEntry) → LearnsOfLastRound fits stands says cells caller client shards true None own own
  last-left own o log run es later are = record { before = es; events = are; calls = []; last = (refl, refl); whole = refl }
