-- The state of a client that fetches the answers of some shards, call by call, and a group in its two parts.
use Rattle.std.proofs.Common.{◌≡◌, ◌≢◌, ◌∙◌, ℕ, zero, suc, ◌+◌, nat_eq, true, List, [], ◌∷◌, ◌++◌, append_assoc, length, map, drop, replicate, slice_get, Option, Some, inl, inr, ◌⊎◌, refl, sym, ap, arith}
use Rattle.std.proofs.lemmas.List.{map-append}
use Rattle.std.proofs.lemmas.Option.{none-some, same_Some, slice_get_within}
use Rattle.std.specs.List.{AllByRecursion, IsDistinct}
use Rattle.cube_core.specs.Links.{AreEventsOf}
use Rattle.cube_core.specs.BoardCells.{AnswerSays, IsEntryEvent, call_job}
use Rattle.core_program.specs.Knowing.{last_posted}
use Rattle.core_events.specs.Clients.{ClientState, after_client_call, calls_of, flush_after_fetch, state_from_calls}
use Rattle.core_events.specs.Events.{Opening, OnDesk, OnNames, Post, Fetch, CloseMail, NoChange, ClientCall, CoreEvent, By}
use Rattle.core_events.specs.Groups.{GroupKind, NoGroup, Puts, Drops, Asks, Compares, RollsBack, Purges, Copies, Flushes, JobGroup, has_number, kind_of, numbers_without}
use Rattle.core_events.specs.Jobs.{CoreJob, JobOutcome}
use Rattle.core_events.specs.ShardView.{ShardView}
use Rattle.core_program.specs.CoreFits.{CoreEntry}
use Rattle.cube_core.specs.declared.jobs.JobAnswer.{JobAnswer}
use Rattle.cube_core.specs.declared.shard.ShardAnswer.{ShardAnswer}
use Rattle.cube_core.specs.declared.shard.ShardCall.{ShardCall}
use Rattle.cube_core.specs.declared.shard.ShardCall.TheVariants as shard
use Rattle.job_groups.proofs.GroupLoops.{some-at}
use Rattle.job_groups.proofs.GroupSteps.{after-fetch, after-waits, got-last, one-longer, posted-waits, waits-by}
use Rattle.job_groups.proofs.Waits.{none-left, received-more, waits-after, waits-has}
use Rattle.job_groups.specs.AskedEach.{IsGroupCall, kind_of_calls, with_group}
use Rattle.job_groups.specs.AskedSome.{HasAskedSome, posts_among, received_from}
use Rattle.job_groups.specs.PostedSome.{AwaitsSome, HasFetchedSome, HasPostedSome, IsFetchCall, group_with, waits_of}

-- A group that asks for no FLUSH leaves no answer to one.
no-answer : (kind : GroupKind) (outcome : JobOutcome) (flush : Option JobOutcome) → kind ≢ Flushes
    → flush_after_fetch kind outcome flush ≡ flush
no-answer NoGroup outcome flush other = refl
no-answer Puts outcome flush other = refl
no-answer (Drops cube box) outcome flush other = refl
no-answer (Asks query snapshot) outcome flush other = refl
no-answer (Compares query from to) outcome flush other = refl
no-answer RollsBack outcome flush other = refl
no-answer (Purges epoch) outcome flush other = refl
no-answer (Copies from to) outcome flush other = refl
no-answer Flushes outcome flush other = absurd (other refl)

-- Nor does a call on a shard.
kind-no-flush : (c : ShardCall) → kind_of (call_job c) ≢ Flushes
kind-no-flush (shard.Append cube shape epoch rows) same = absurd (let e = same in cc)
kind-no-flush (shard.DropBox cube shape epoch span) same = absurd (let e = same in cc)
kind-no-flush (shard.Scan shape query snapshot) same = absurd (let e = same in cc)
kind-no-flush (shard.Delta shape query from to) same = absurd (let e = same in cc)
kind-no-flush (shard.Rollback epoch) same = absurd (let e = same in cc)
kind-no-flush (shard.Purge epoch) same = absurd (let e = same in cc)
kind-no-flush (shard.CopyRound from to) same = absurd (let e = same in cc)

calls-no-flush : (calls : List ShardCall) → kind_of_calls calls ≢ Flushes
calls-no-flush [] same = absurd (let e = same in cc)
calls-no-flush (c ∷ calls) same = kind-no-flush c same

fetch-waits : (waits : ℕ) (calls : List ClientCall) → AllByRecursion IsFetchCall calls
    → AllByRecursion IsFetchCall (replicate waits NoChange ++ calls)
fetch-waits zero calls only = only
fetch-waits (suc waits) calls only = (tt, fetch-waits waits calls only)

-- Fetches are calls of a group, and post nothing.
pub fetches-group : (calls : List ClientCall) → AllByRecursion IsFetchCall calls → AllByRecursion IsGroupCall calls
fetches-group [] only = tt
fetches-group (Fetch number outcome ∷ calls) only = (tt, fetches-group calls only.1)
fetches-group (NoChange ∷ calls) only = (tt, fetches-group calls only.1)
fetches-group (Post number job ∷ calls) only = absurd only.0
fetches-group (OnDesk c ∷ calls) only = absurd only.0
fetches-group (OnNames c ∷ calls) only = absurd only.0
fetches-group (CloseMail number ∷ calls) only = absurd only.0

pub fetches-post-none : (calls more : List ClientCall) → AllByRecursion IsFetchCall calls
    → posts_among (calls ++ more) ≡ posts_among more
fetches-post-none [] more only = refl
fetches-post-none (Fetch number outcome ∷ calls) more only = fetches-post-none calls more only.1
fetches-post-none (NoChange ∷ calls) more only = fetches-post-none calls more only.1
fetches-post-none (Post number job ∷ calls) more only = absurd only.0
fetches-post-none (OnDesk c ∷ calls) more only = absurd only.0
fetches-post-none (OnNames c ∷ calls) more only = absurd only.0
fetches-post-none (CloseMail number ∷ calls) more only = absurd only.0

pub all-of-two : {X : Type 0} (P : X → Type 0) (xs ys : List X) → AllByRecursion P xs → AllByRecursion P ys
    → AllByRecursion P (xs ++ ys)
all-of-two P [] ys one two = two
all-of-two P (x ∷ xs) ys one two = (one.0, all-of-two P xs ys one.1 two)

module _ {S : Type 0} (fits : Opening → ℕ → ShardCall → Type 0) (stands : Opening → ℕ → ℕ → S → ShardView → Type 0)
    (says : CoreJob → ShardAnswer → JobOutcome → Type 0) (o : Opening) (client : ℕ) (numbers : List ℕ) where
  abbrev state : List ClientCall → ClientState
  state past = state_from_calls o client past

  abbrev Of : List CoreEntry → List CoreEvent → Type 0
  Of own before = AreEventsOf (IsEntryEvent fits stands says o) own before

  -- The group with some of the answers fetched, and the others out.
  abbrev group_at : ℕ → List JobOutcome → JobGroup → JobGroup
  group_at n outcomes g = record {
    kind = g.kind;
    waits = waits_of (drop n numbers);
    answers = received_from numbers outcomes g.answers;
  }

  module _ (own : List CoreEntry) where
    -- After so many answers.
    pub record IsFetchedFrom (n : ℕ) (answers : List JobAnswer) (es : List CoreEvent) : Type 0 where
      pub before : List CoreEvent
      pub events : Of own before
      pub added : List ClientCall
      pub whole : es ≡ map (λ c. By client c) added ++ before
      pub past : calls_of client es ≡ added ++ calls_of client before
      pub only : AllByRecursion IsFetchCall added
      pub jobs : (state (calls_of client before)).group.kind ≢ Flushes
      pub outcomes : List JobOutcome
      pub long : length outcomes ≡ n
      pub stand : (place number : ℕ) (job : CoreJob) (said : JobAnswer) (outcome : JobOutcome)
          → slice_get numbers place ≡ Some number → last_posted number (calls_of client before) ≡ Some job
          → slice_get answers place ≡ Some said → slice_get outcomes place ≡ Some outcome
          → AnswerSays says job said outcome
      pub group : state (calls_of client es)
          ≡ with_group (group_at n outcomes (state (calls_of client before)).group) (state (calls_of client before))
      pub last : (number : ℕ) → last_posted number (calls_of client es) ≡ last_posted number (calls_of client before)

    pub none-fetched-from : (es : List CoreEvent) → Of own es → AwaitsSome client numbers o (calls_of client es)
        → IsFetchedFrom 0 [] es
    none-fetched-from es events awaits =
        let k = state (calls_of client es) in record {
          before = es;
          events = events;
          added = [];
          whole = refl;
          past = refl;
          only = tt;
          jobs = awaits.jobs;
          outcomes = [];
          long = refl;
          stand = λ place number job said outcome at asked told got. absurd (none-some outcome got);
          group = ap (λ (waits : List ℕ).
              with_group (record { kind = k.group.kind; waits = waits; answers = k.group.answers }) k) awaits.waits;
          last = λ number. refl;
        }

    -- The next may be fetched.
    pub may-fetch-from : (n number : ℕ) (answers : List JobAnswer) (es : List CoreEvent) → IsFetchedFrom n answers es
        → slice_get numbers n ≡ Some number
        → has_number (state (calls_of client es)).group.waits number ≡ true
    may-fetch-from n number answers es f at =
        ap (λ (k : ClientState). has_number k.group.waits number) f.group ∙ waits-has numbers n number at

    pub next-fetched-from : (distinct : IsDistinct nat_eq numbers) (n number : ℕ) (answers : List JobAnswer)
        (es mid : List CoreEvent) (said : JobAnswer) (waits : ℕ) (job : CoreJob) (outcome : JobOutcome)
        → IsFetchedFrom n answers mid → length answers ≡ n → slice_get numbers n ≡ Some number
        → last_posted number (calls_of client mid) ≡ Some job → AnswerSays says job said outcome
        → es ≡ By client (Fetch number outcome) ∷ replicate waits (By client NoChange) ++ mid
        → calls_of client es ≡ Fetch number outcome ∷ replicate waits NoChange ++ calls_of client mid
        → IsFetchedFrom (n + 1) (answers ++ said ∷ []) es
    next-fetched-from distinct n number answers es mid said waits job outcome f answered at asked holds by goes = record {
      before = f.before;
      events = f.events;
      added = Fetch number outcome ∷ replicate waits NoChange ++ f.added;
      whole = by ∙ ap (λ (l : List CoreEvent). By client (Fetch number outcome) ∷ replicate waits (By client NoChange) ++ l) f.whole
          ∙ ap (λ (l : List CoreEvent). By client (Fetch number outcome) ∷ l) (waits-by client waits f.added f.before);
      past = goes ∙ ap (λ (l : List ClientCall). Fetch number outcome ∷ replicate waits NoChange ++ l) f.past
          ∙ ap (λ (l : List ClientCall). Fetch number outcome ∷ l) (sym (append_assoc (replicate waits NoChange) f.added (calls_of client f.before)));
      only = (tt, fetch-waits waits f.added f.only);
      jobs = f.jobs;
      outcomes = f.outcomes ++ outcome ∷ [];
      long = one-longer f.outcomes outcome ∙ ap (λ (m : ℕ). m + 1) f.long;
      stand = λ place other work told there is posted answer had.
          last-stands place other work told there is posted (got-last answers said told place answer)
          (got-last f.outcomes outcome there place had);
      group = ap state goes
          ∙ ap (λ (k : ClientState). after_client_call o client (Fetch number outcome) k) (after-waits o client waits (calls_of client mid) ∙ f.group)
          ∙ after-fetch o client number outcome (group_at n f.outcomes first.group) first (no-answer first.group.kind outcome first.flush f.jobs)
          ∙ (λ i. with_group (record {
            kind = first.group.kind;
            waits = waits-are i;
            answers = answers-are i;
          }) first);
      last = λ other. ap (last_posted other) goes ∙ posted-waits other waits (calls_of client mid) ∙ f.last other;
    } where
      first : ClientState
      first = state (calls_of client f.before)

      more : (m : ℕ) → suc m ≡ m + 1
      more m = omega arith

      waits-are : numbers_without number (waits_of (drop n numbers)) ≡ waits_of (drop (n + 1) numbers)
      waits-are = waits-after numbers n number distinct at ∙ ap (λ (m : ℕ). waits_of (drop m numbers)) (more n)

      answers-are : record { mail = number; answer = outcome } ∷ received_from numbers f.outcomes first.group.answers
          ≡ received_from numbers (f.outcomes ++ outcome ∷ []) first.group.answers
      answers-are = sym (received-more numbers f.outcomes number outcome first.group.answers (ap (slice_get numbers) f.long ∙ at))

      last-stands : (place other : ℕ) (work : CoreJob) (told : JobAnswer) (there : JobOutcome)
          → slice_get numbers place ≡ Some other → last_posted other (calls_of client f.before) ≡ Some work
          → (slice_get answers place ≡ Some told) ⊎ ((place ≡ length answers) × (said ≡ told))
          → (slice_get f.outcomes place ≡ Some there) ⊎ ((place ≡ length f.outcomes) × (outcome ≡ there))
          → AnswerSays says work told there
      last-stands place other work told there is posted (inl one-is) (inl two-is) =
          f.stand place other work told there is posted one-is two-is
      last-stands place other work told there is posted (inl one-is) (inr two-is) =
          let low = slice_get_within answers place told one-is in
          let high = two-is.0 in
          let long = f.long in
          absurd (omega (arith, low, high, long, answered))
      last-stands place other work told there is posted (inr one-is) (inl two-is) =
          let low = slice_get_within f.outcomes place there two-is in
          let high = one-is.0 in
          let long = f.long in
          absurd (omega (arith, low, high, long, answered))
      last-stands place other work told there is posted (inr one-is) (inr two-is) =
          let same : place ≡ n = one-is.0 ∙ answered in
          let number-is : number ≡ other = same_Some number other (sym at ∙ ap (slice_get numbers) (sym same) ∙ is) in
          let job-is : job ≡ work =
          same_Some job work (sym asked ∙ ap (λ (m : ℕ). last_posted m (calls_of client mid)) number-is ∙ f.last other ∙ posted)
          in
          coe 0 1 (i. AnswerSays says (job-is i) (one-is.1 i) (two-is.1 i)) holds

    -- After all of them.
    pub all-fetched-from : (n : ℕ) (answers : List JobAnswer) (es : List CoreEvent) → n ≡ length numbers
        → IsFetchedFrom n answers es → HasFetchedSome fits stands says numbers o client answers own es
    all-fetched-from n answers es all f = record {
      before = f.before;
      events = f.events;
      added = f.added;
      whole = f.whole;
      past = f.past;
      only = f.only;
      outcomes = f.outcomes;
      each = f.long ∙ all;
      stand = f.stand;
      group = f.group
          ∙ ap (λ (l : List ℕ). with_group (record {
            kind = (state (calls_of client f.before)).group.kind;
            waits = waits_of l;
            answers = received_from numbers f.outcomes (state (calls_of client f.before)).group.answers;
          }) (state (calls_of client f.before))) (none-left numbers n all);
    }

  -- Once its calls are posted a group waits for their answers.
  pub awaits-posted : (calls : List ShardCall) (own : List CoreEntry) (es : List CoreEvent)
      → HasPostedSome fits stands says numbers calls o client own es → AwaitsSome client numbers o (calls_of client es)
  awaits-posted calls own es p = record {
    waits = ap (λ (k : ClientState). k.group.waits) p.group;
    jobs = λ same. calls-no-flush calls (sym (ap (λ (k : ClientState). k.group.kind) p.group) ∙ same);
  }

  -- Both parts are a group with all its answers.
  pub both-parts : (calls : List ShardCall) (answers : List JobAnswer) (own mid : List CoreEntry) (es : List CoreEvent)
      → length calls ≡ length numbers
      → (f : HasFetchedSome fits stands says numbers o client answers mid es)
      → HasPostedSome fits stands says numbers calls o client own f.before
      → HasAskedSome fits stands says numbers calls o client answers own es
  both-parts calls answers own mid es each f p = record {
    asked = record {
      before = p.before;
      events = p.events;
      added = f.added ++ p.added;
      whole = f.whole ∙ ap (λ (l : List CoreEvent). map (λ c. By client c) f.added ++ l) p.whole
          ∙ sym (append_assoc (map (λ c. By client c) f.added) (map (λ c. By client c) p.added) p.before)
          ∙ ap (λ (l : List CoreEvent). l ++ p.before) (sym (map-append (λ c. By client c) f.added p.added));
      past = f.past ∙ ap (λ (l : List ClientCall). f.added ++ l) p.past
          ∙ sym (append_assoc f.added p.added (calls_of client p.before));
      only = all-of-two IsGroupCall f.added p.added (fetches-group f.added f.only) p.only;
      outcomes = f.outcomes;
      each = f.each ∙ sym each;
      stand = λ place c said outcome got told there.
          let low = slice_get_within calls place c got in
          let at = some-at numbers place (omega (arith, low, each)) in
          f.stand place at.0 (call_job c) said outcome at.1 (p.last place at.0 c at.1 got) told there;
      group = f.group
          ∙ ap (λ (k : ClientState). with_group (group_with numbers f.outcomes k.group) k) p.group;
    };
    posts = fetches-post-none f.added p.added f.only ∙ p.posts;
  }
