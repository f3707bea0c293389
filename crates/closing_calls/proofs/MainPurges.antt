-- Main has each shard purge: what it knows before, and after they have answered.
use Rattle.std.proofs.Common.{◌≡◌, ◌∙◌, ℕ, zero, suc, ◌+◌, ◌<◌, ◌≤◌, Bool, true, false, not, ◌&&◌, List, [], ◌∷◌, length, replicate, slice_get, Some, refl, sym, ap, subst, arith}
use Rattle.std.specs.List.{list_any}
use Rattle.std.proofs.lemmas.Bool.{or_right}
use Rattle.std.proofs.lemmas.List.{length-replicate}
use Rattle.board_callers.specs.Callers.{HasHistoryOf}
use Rattle.closing_calls.specs.ClosingCalls.{HasPurgedAll, IsMainReady, MainIsReady, MainKnows, MainStays}
use Rattle.cube_core.specs.Links.{AreEventsOf}
use Rattle.cube_core.specs.BoardCells.{AnswerSays, IsEntryEvent}
use Rattle.core_program.proofs.ClientRuns.{client-run}
use Rattle.core_program.proofs.KnownCalls.{earlier-run}
use Rattle.core_program.specs.Knowing.{Claim, HasRunOfClient, IsClientOf, IsLaterRun, Knows}
use Rattle.core_events.proofs.Knowledge.{known-by-calls}
use Rattle.core_events.specs.Clients.{ClientState, calls_of, client_state, state_from_calls}
use Rattle.core_events.specs.Events.{Opening, CoreEvent}
use Rattle.core_events.specs.Fitting.{HasAllDone}
use Rattle.core_events.specs.Groups.{JobGroup, Purges, has_all_below, has_refusal, is_complete, is_empty, is_ready, is_spoiled, mails_of}
use Rattle.core_events.specs.Jobs.{JobOutcome, Purge, is_refusal}
use Rattle.core_program.specs.CoreFits.{CoreEntry, FitsOwnCalls, OpensCells}
use Rattle.cube_core.specs.CoreSteps.{CoreStep}
use Rattle.cube_core.specs.declared.cell.CoreCell.{CoreCell}
use Rattle.cube_core.specs.declared.jobs.FlushAnswer.TheVariants as flush
use Rattle.cube_core.specs.declared.jobs.JobAnswer.{JobAnswer}
use Rattle.cube_core.specs.declared.jobs.JobAnswer.TheVariants as reply
use Rattle.cube_core.specs.declared.shard.ShardAnswer.TheVariants as answer
use Rattle.cube_core.specs.declared.shard.ShardCall.{ShardCall}
use Rattle.cube_core.specs.declared.shard.ShardCall.TheVariants as call
use Rattle.job_groups.proofs.Ended.{has-all, refused-each}
use Rattle.job_groups.specs.AskedEach.{AreShardMails, HasAskedEach, HasMore, MayAskEach, MayAskShard, received, whole_group}
use Rattle.job_groups.specs.EachPosted.{LearnsOfEach}
use Rattle.linked_shards.specs.CellShards.{CanCallCoreShard, CoreShardStands, CoreShardStep, linked-shards}
use Rattle.linked_shards.specs.declared.cell.CoreShard.{CoreShard}
use Rattle.session_groups.proofs.InTurn.{any-undone, get-same, kind-same, stand-in-turn}
use Rattle.session_groups.specs.AnswersInTurn.{is_undone}
use Rattle.cube_core.proofs.Groups.{ready-ended}
use Rattle.session_requests.proofs.Outcomes.{purges-are-done}
use Rattle.session_requests.specs.SessionRequests.{KnowsSafe}
use Rattle.shard_events.specs.ShardsInRuns.{FitsShard, ShardAnswerSays}

-- What an answer to a purge stands for.
undone-purge : (epoch : ℕ) (said : JobAnswer) (outcome : JobOutcome) → AnswerSays ShardAnswerSays (Purge epoch) said outcome
    → is_refusal outcome ≡ is_undone said
undone-purge epoch (reply.Flush flush.Done) outcome h = ap is_refusal h
undone-purge epoch (reply.Flush flush.StoreFailed) outcome h = ap is_refusal h
undone-purge epoch (reply.Flush flush.NoMemory) outcome h = ap is_refusal h
undone-purge epoch (reply.Shard answer.Done) outcome h = ap is_refusal h
undone-purge epoch (reply.Shard (answer.ShardFull rows)) outcome h = ap is_refusal h
undone-purge epoch (reply.Shard answer.NoMemory) outcome h = ap is_refusal h
undone-purge epoch (reply.Shard said) outcome h = absurd h

-- The group of purges has all its answers.
group-ready : (shards epoch : ℕ) (g : JobGroup) → g.kind ≡ Purges epoch → is_empty g.waits ≡ true → has_all_below shards (mails_of g.answers) ≡ true
    → is_ready shards g ≡ true
group-ready shards epoch g kind none all =
    (λ i. (none i && is_complete shards (kind i) (has_refusal g.answers) (mails_of g.answers))
    && not (is_spoiled (kind i) (has_refusal g.answers)))
    ∙ ap (λ (b : Bool). b && true) (or_right (has_refusal g.answers) (has_all_below shards (mails_of g.answers)) all)

module _ (cells : List (CoreCell CoreShard)) (acts : IsClientOf FitsShard CoreShardStands ShardAnswerSays cells 0 0) (shards : ℕ)
    (some : 1 ≤ shards) (mails : AreShardMails FitsShard CoreShardStands ShardAnswerSays cells 0 shards (2 + shards)) (epoch : ℕ)
    (own : List CoreEntry) where
  abbrev pub purge : ShardCall
  purge = call.Purge epoch

  abbrev pub purge_calls : List ShardCall
  purge_calls = replicate shards purge

  abbrev Later : Opening → List CoreEntry → List CoreEntry → List CoreEvent → Type 0
  Later o mine log run = IsLaterRun FitsShard CoreShardStands ShardAnswerSays cells o 0 mine log run

  abbrev Of : Opening → List CoreEntry → List CoreEvent → Type 0
  Of o mine es = AreEventsOf (IsEntryEvent FitsShard CoreShardStands ShardAnswerSays o) mine es

  abbrev state : Opening → List CoreEvent → ClientState
  state o es = state_from_calls o 0 (calls_of 0 es)

  abbrev Asked : List JobAnswer → Opening → List CoreEvent → Type 0
  Asked answers o es = HasAskedEach FitsShard CoreShardStands ShardAnswerSays o 0 purge_calls answers own es

  same-shards : (o : Opening) (log : List CoreEntry) → OpensCells FitsShard CoreShardStands ShardAnswerSays o cells log → o.shards ≡ shards
  same-shards o log opens = let is = (mails.each 0 some).cell_is o log opens in omega (arith, is)

  none-below : (n : ℕ) → 0 ≤ n
  none-below n = omega arith

  -- Before it asks.
  pub may-purge-each : MainIsReady cells own → KnowsSafe cells 0 0 own epoch
      → Knows FitsShard CoreShardStands ShardAnswerSays cells 0 0 own (MayAskEach FitsShard 0 purge_calls)
  may-purge-each ready safe o log run es later are =
      let r = ready o log run es later are in
      let low = safe o log run es later are in
      record {
        shards = length-replicate shards purge ∙ sym (same-shards o log later.opens);
        ended = ready-ended o.shards (state o es).group r;
        each = λ number d is.
            subst (λ (x : ShardCall). MayAskShard FitsShard 0 o (state o es) number x) (get-same shards number purge d is)
            (record { suits = tt; bears = λ g. (none-below o.sessions, low); begins = r });
      }

  -- After the answers.
  module _ (now : List CoreEntry) (answers : List JobAnswer) (each : length answers ≡ shards) (more : HasMore own now)
      (learns : LearnsOfEach FitsShard CoreShardStands ShardAnswerSays cells 0 0 purge_calls answers own now)
      (history : HasHistoryOf (CoreStep CoreShardStep) (FitsOwnCalls FitsShard CoreShardStands ShardAnswerSays) cells 0 now) where
    run-now : (o : Opening) × HasRunOfClient FitsShard CoreShardStands ShardAnswerSays cells o 0 0 now history.log
    run-now =
        let first = acts.opening history.log in
        (first.0, client-run FitsShard CoreShardStands ShardAnswerSays CanCallCoreShard CoreShardStep linked-shards cells 0 0 now first.0 acts history first.1)

    said-as : (o : Opening) (es : List CoreEvent) → (h : Asked answers o es) → has_refusal (received 0 h.outcomes []) ≡ list_any is_undone answers
    said-as o es h =
        refused-each h.outcomes
        ∙ any-undone answers h.outcomes
        (stand-in-turn (λ said outcome. is_refusal outcome ≡ is_undone said) shards purge answers h.outcomes each h.each h.stand
        (undone-purge epoch))

    all-done : list_any is_undone answers ≡ false
    all-done =
        let first = run-now in
        let o = first.0 in
        let r = first.1 in
        let h = (learns o history.log r.run r.es r.is_later r.events).asked in
        let is : (client_state o 0 r.run).group ≡ whole_group purge_calls h.outcomes =
        ap (λ (k : ClientState). k.group) (known-by-calls o 0 r.run ∙ ap (state_from_calls o 0) r.calls ∙ h.group)
        in
        sym (said-as o r.es h)
        ∙ purges-are-done o r.run 0 epoch (whole_group purge_calls h.outcomes) r.is_later.is_run is (kind-same shards purge some)

    all-below : (o : Opening) (log : List CoreEntry) (outcomes : List JobOutcome) → OpensCells FitsShard CoreShardStands ShardAnswerSays o cells log
        → length outcomes ≡ length purge_calls → has_all_below o.shards (mails_of (received 0 outcomes [])) ≡ true
    all-below o log outcomes opens long =
        ap (λ (n : ℕ). has_all_below n (mails_of (received 0 outcomes [])))
        (same-shards o log opens ∙ sym (length-replicate shards purge) ∙ sym long)
        ∙ has-all outcomes

    -- What was known before holds of the calls before.
    known-before : (P : Claim) → Knows FitsShard CoreShardStands ShardAnswerSays cells 0 0 own P → (o : Opening) (log : List CoreEntry)
        (run es : List CoreEvent) → Later o now log run → (h : Asked answers o es) → P o (calls_of 0 h.before)
    known-before P knows o log run es later h =
        knows o log run h.before
        (earlier-run FitsShard CoreShardStands ShardAnswerSays cells o 0 own more.more log run
        (subst (λ (l : List CoreEntry). Later o l log run) more.whole later)) h.events

    pub has-purged : MainKnows cells now (HasPurgedAll epoch)
    has-purged o log run es later are =
        let h = (learns o log run es later are).asked in
        subst (λ (k : ClientState). HasPurgedAll epoch o k) (sym h.group)
        (record {
          purges = kind-same shards purge some;
          done = record { all = all-below o log h.outcomes later.opens h.each; fetched = refl; none = said-as o es h ∙ all-done };
        })

    pub stays-after : MainStays cells own cells now
    stays-after = record {
      ready = λ knows o log run es later are.
          let h = (learns o log run es later are).asked in
          subst (λ (k : ClientState). IsMainReady o k) (sym h.group)
          (group-ready o.shards epoch (whole_group purge_calls h.outcomes) (kind-same shards purge some) refl
          (all-below o log h.outcomes later.opens h.each));
      safe = λ e knows o log run es later are.
          let h = (learns o log run es later are).asked in
          subst (λ (k : ClientState). e ≤ k.lse) (sym h.group)
          (known-before (λ p calls. e ≤ (state_from_calls p 0 calls).lse) knows o log run es later h);
    }
