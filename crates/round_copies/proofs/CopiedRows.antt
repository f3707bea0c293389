-- The flusher asks each shard for its copy: what it knows before, and after they have answered.
use Rattle.std.proofs.Common.{◌≡◌, ◌∙◌, ℕ, ◌≤◌, List, [], ◌∷◌, length, map, replicate, All, refl, sym, ap, subst}
use Rattle.std.specs.List.{AllByRecursion}
use Rattle.std.proofs.lemmas.List.{length-replicate}
use Rattle.core_program.proofs.ClientRuns.{client-run}
use Rattle.core_program.specs.Knowing.{Knows}
use Rattle.core_events.specs.Clients.{ClientState, calls_of, state_from_calls}
use Rattle.core_events.specs.Events.{Opening, Fetch, NoChange, Post, ClientCall, CoreEvent}
use Rattle.core_events.specs.Groups.{Copies, JobGroup, has_all_below, has_refusal, mails_of}
use Rattle.core_events.specs.Jobs.{CopyRound, JobOutcome}
use Rattle.core_program.proofs.FlusherCalls.{is-client}
use Rattle.core_program.specs.Flushing.{IsFlusherOf}
use Rattle.core_program.specs.CoreFits.{CoreEntry, OpensCells}
use Rattle.cube_core.specs.declared.cell.CoreCell.{CoreCell}
use Rattle.cube_core.specs.declared.jobs.JobAnswer.{JobAnswer}
use Rattle.cube_core.specs.declared.shard.ShardCall.{ShardCall}
use Rattle.cube_core.specs.declared.shard.ShardCall.TheVariants as call
use Rattle.flusher_rounds.proofs.Rounds.{copied, may-copy}
use Rattle.flusher_rounds.specs.FlushReplies.{IsWithinRound}
use Rattle.job_groups.proofs.Ended.{has-all, refused-each}
use Rattle.job_groups.specs.AskedEach.{HasAskedEach, HasMore, IsGroupCall, MayAskEach, MayAskShard, received, whole_group}
use Rattle.job_groups.specs.EachPosted.{LearnsOfEach}
use Rattle.joined_copies.specs.JoinedCopies.{ShardCopy}
use Rattle.linked_shards.specs.CellShards.{CanCallCoreShard, CoreShardStands, CoreShardStep, linked-shards}
use Rattle.linked_shards.specs.declared.cell.CoreShard.{CoreShard}
use Rattle.round_copies.proofs.CopyTurns.{all-copied, all-sound, copies-shown, get-same, kind-same}
use Rattle.round_copies.proofs.FlusherSteps.{IsState, before-more}
use Rattle.round_copies.proofs.RoundSteps.{begins-there, told-in-group, within-answers}
use Rattle.round_copies.specs.CopyAnswers.{copy_answer}
use Rattle.round_copies.specs.RoundCopies.{HasOpened, HasRows, IsSoundCopy, IsToldOf, IsWithin, first_epoch}
use Rattle.round_copies.specs.WithinRounds.{HasHistory, KnowsOfFlusher, StaysWithinRound}
use Rattle.round_copies.specs.declared.span.RoundSpan.{RoundSpan}
use Rattle.cube_core.specs.GroupEnds.{HasAllAnswers, MayBeginBy}
use Rattle.shard_events.specs.ShardsInRuns.{FitsShard, ShardAnswerSays}

-- The calls of a group are within the round.

group-within : (c : ClientCall) → IsGroupCall c → IsWithinRound c
group-within (Post number job) is = tt
group-within (Fetch number outcome) is = tt
group-within NoChange is = tt
group-within c is = absurd is

groups-within : (calls : List ClientCall) → AllByRecursion IsGroupCall calls → AllByRecursion IsWithinRound calls
groups-within [] all = tt
groups-within (c ∷ calls) all = (group-within c all.0, groups-within calls all.1)

module _ (cells : List (CoreCell CoreShard)) (caller client shards : ℕ)
    (flush : IsFlusherOf FitsShard CoreShardStands ShardAnswerSays cells caller client shards) (some : 1 ≤ shards) (span : RoundSpan) where
  abbrev copy : ShardCall
  copy = call.CopyRound (first_epoch span) span.epoch

  abbrev state : Opening → List CoreEvent → ClientState
  state o es = state_from_calls o client (calls_of client es)

  same-shards : (o : Opening) (log : List CoreEntry) → OpensCells FitsShard CoreShardStands ShardAnswerSays o cells log → o.shards ≡ shards
  same-shards o log opens = sym (flush.mail_is o log opens)

  -- Before it asks.
  pub may-copy-each : (own : List CoreEntry) → KnowsOfFlusher cells caller client own (HasOpened span)
      → Knows FitsShard CoreShardStands ShardAnswerSays cells caller client own (MayAskEach FitsShard client (replicate shards copy))
  may-copy-each own knows o log run es later are =
      let k = state o es in
      let begins : (number : ℕ) → MayBeginBy o client number (CopyRound (first_epoch span) span.epoch) k =
      λ number. subst (λ (n : ℕ). MayBeginBy o n number (CopyRound (first_epoch span) span.epoch) k)
      (sym (flush.client_is o log later.opens))
      (may-copy o number span.from span.epoch (first_epoch span) k (knows o log run es later are) (begins-there span.whole span.from))
      in
      record {
        shards = length-replicate shards copy ∙ sym (same-shards o log later.opens);
        ended = (begins 0).ended;
        each = λ number d is.
            subst (λ (x : ShardCall). MayAskShard FitsShard client o k number x) (get-same shards number copy d is)
            (record { suits = tt; bears = (begins number).bears; begins = (begins number).begins });
      }

  -- After the answers.
  module _ (own now : List CoreEntry) (answers : List JobAnswer) (each : length answers ≡ shards) (more : HasMore own now)
      (learns : LearnsOfEach FitsShard CoreShardStands ShardAnswerSays cells caller client (replicate shards copy) answers own now) where
    abbrev group_of : List JobOutcome → JobGroup
    group_of outcomes = whole_group (replicate shards copy) outcomes

    abbrev Asked : Opening → List CoreEvent → Type 0
    Asked o es = HasAskedEach FitsShard CoreShardStands ShardAnswerSays o client (replicate shards copy) answers own es

    all-answers : (o : Opening) (log : List CoreEntry) (outcomes : List JobOutcome)
        → OpensCells FitsShard CoreShardStands ShardAnswerSays o cells log → length outcomes ≡ length (replicate shards copy)
        → HasAllAnswers o.shards (Copies (first_epoch span) span.epoch) (group_of outcomes)
    all-answers o log outcomes opens as_many = record {
      fetched = record { kind_is = kind-same shards copy some; none_out = refl };
      all = ap (λ (n : ℕ). has_all_below n (mails_of (received 0 outcomes [])))
          (same-shards o log opens ∙ sym (length-replicate shards copy) ∙ sym as_many)
          ∙ has-all outcomes;
    }

    -- From what was known before the calls to what is known after them.
    known-by-answers : (Is Then : IsState) → KnowsOfFlusher cells caller client own Is
        → ((o : Opening) (log : List CoreEntry) (es : List CoreEvent) → OpensCells FitsShard CoreShardStands ShardAnswerSays o cells log
        → (h : Asked o es) → Is o (state o h.before) → Then o (record (state o h.before) { group = group_of h.outcomes }))
        → KnowsOfFlusher cells caller client now Then
    known-by-answers Is Then knows leads o log run es later are =
        let h = (learns o log run es later are).asked in
        let was = knows o log run h.before (before-more cells caller client own more.more now log o run more.whole later) h.events in
        subst (λ (k : ClientState). Then o k) (sym h.group) (leads o log es later.opens h was)

    pub copies-open : KnowsOfFlusher cells caller client own (HasOpened span) → KnowsOfFlusher cells caller client now (IsWithin span)
    copies-open knows =
        known-by-answers (HasOpened span) (IsWithin span) knows
        (λ o log es opens h was.
        within-answers (has_refusal (received 0 h.outcomes [])) span o (state o h.before) (group_of h.outcomes) refl was
        (all-answers o log h.outcomes opens h.each))

    pub copies-told : (cubes : ℕ) (counts : List (List ℕ)) → KnowsOfFlusher cells caller client own (λ o k. IsToldOf cubes counts k)
        → KnowsOfFlusher cells caller client now (λ o k. IsToldOf cubes counts k)
    copies-told cubes counts knows =
        known-by-answers (λ o k. IsToldOf cubes counts k) (λ o k. IsToldOf cubes counts k) knows
        (λ o log es opens h was. told-in-group cubes counts (state o h.before) (group_of h.outcomes) was)

    pub copies-within : StaysWithinRound cells caller client own now
    copies-within o log run es later are =
        let h = (learns o log run es later are).asked in
        record {
          before = h.before;
          events = h.events;
          added = h.added;
          whole = h.whole;
          within = groups-within h.added h.only;
        }

    -- They are sound in the run that the calls are, and that is enough.
    pub copies-sound : (copies : List ShardCopy) → answers ≡ map copy_answer copies → length copies ≡ shards → HasHistory cells caller now
        → All IsSoundCopy copies
    copies-sound copies same many h =
        let first = flush.opening h.log in
        let acts = is-client FitsShard CoreShardStands ShardAnswerSays cells caller client shards flush in
        let r =
        client-run FitsShard CoreShardStands ShardAnswerSays CanCallCoreShard CoreShardStep linked-shards cells caller client now first.0 acts h
        first.1
        in
        let asked = (learns first.0 h.log r.run r.es r.is_later r.events).asked in
        all-sound shards (first_epoch span) span.epoch copies answers asked.outcomes many same (asked.each ∙ length-replicate shards copy)
        asked.stand

    pub copies-rows : (copies : List ShardCopy) → answers ≡ map copy_answer copies → length copies ≡ shards
        → KnowsOfFlusher cells caller client own (HasOpened span) → KnowsOfFlusher cells caller client now (HasRows span copies)
    copies-rows copies same many knows =
        known-by-answers (HasOpened span) (HasRows span copies) knows
        (λ o log es opens h was.
        let as_many = h.each ∙ length-replicate shards copy in
        let none =
        refused-each h.outcomes
        ∙ all-copied shards (first_epoch span) span.epoch copies answers h.outcomes many same as_many h.stand
        in
        record {
          copied = copied o span.from span.epoch (first_epoch span) (state o h.before) (group_of h.outcomes) was
              (all-answers o log h.outcomes opens h.each) none;
          rows = λ cube brick.
              copies-shown shards (first_epoch span) span.epoch copies answers h.outcomes many same as_many h.stand o cube brick
              (same-shards o log opens) some;
        })
