-- The posts and the fetches of a group, by a client's own calls.
use Rattle.std.proofs.Common.{◌≡◌, ◌∙◌, ℕ, zero, suc, ◌+◌, ◌<◌, ◌≤◌, List, [], ◌∷◌, ◌++◌, append_assoc, append-nil, length, take, drop, replicate, slice_get, slice_index_or, nat_eq, Some, refl, sym, ap, subst, arith}
use Rattle.std.proofs.lemmas.Option.{same_Some, slice_get_within}
use Rattle.std.specs.List.{IsDistinct}
use Rattle.mail_cell.specs.declared.answer.Fetched.TheVariants.{Got, NotYet}
use Rattle.core_program.specs.ClientCalls.{HasFetched, LearnsByFetch, ask_entry, post_entry}
use Rattle.cube_core.specs.Links.{AreEventsOf}
use Rattle.cube_core.specs.BoardCells.{IsEntryEvent, call_job, job_asked}
use Rattle.core_program.specs.Knowing.{GoOnBy, IsLaterRun, Knows, MayFetchFrom, MayPostJob}
use Rattle.core_program.proofs.KnownCalls.{earlier-run}
use Rattle.core_events.specs.Clients.{calls_of, state_from_calls}
use Rattle.core_events.specs.Events.{Opening, ClientCall, Post, CoreEvent}
use Rattle.core_events.specs.Groups.{JobGroup, Received}
use Rattle.core_events.specs.Jobs.{CoreJob, JobOutcome}
use Rattle.core_events.specs.ShardView.{ShardView}
use Rattle.core_program.specs.CoreFits.{CoreEntry, OpensCells}
use Rattle.cube_core.specs.declared.cell.CoreCell.{CoreCell}
use Rattle.cube_core.specs.declared.jobs.Job.{Job}
use Rattle.cube_core.specs.declared.jobs.JobAnswer.{JobAnswer}
use Rattle.cube_core.specs.declared.jobs.Work.TheVariants as work
use Rattle.cube_core.specs.declared.shard.ShardAnswer.{ShardAnswer}
use Rattle.cube_core.specs.declared.shard.ShardCall.{ShardCall}
use Rattle.job_groups.proofs.GroupSteps.{IsPostedUpTo, IsFetchedUpTo, none-posted, may-post, next-posted, none-fetched, may-fetch, next-fetched, all-fetched, all-posted}
use Rattle.job_groups.proofs.Waits.{as-many, number-at, numbers_from, received-in-order}
use Rattle.job_groups.specs.AskedEach.{AreOfOneKind, HasAskedShards, HasMore, MayAskEach, MayAskShard, kind_of_calls, whole_group}
use Rattle.job_groups.specs.AskedSome.{MayAskSome, posts_to, received_from}
use Rattle.job_groups.specs.EachPosted.{LearnsOfEach, posts_from}
use Rattle.job_groups.specs.PostedSome.{LearnsOfPosts}

-- The first of those that are left of a list.
pub next-of : {X : Type 0} (xs rest new : List X) (n : ℕ) (x : X) → rest ≡ drop n xs → n < length xs → x ≡ slice_index_or rest 0 x
    → new ≡ take 0 rest ++ drop 1 rest → (slice_get xs n ≡ Some x) × (new ≡ drop (n + 1) xs)
next-of [] rest new n x is lt first others = absurd (omega (arith, lt))
next-of (y ∷ ys) rest new zero x is lt first others =
    (ap Some (sym (first ∙ ap (λ (l : List _). slice_index_or l 0 x) is)), others ∙ ap (λ (l : List _). take 0 l ++ drop 1 l) is)
next-of (y ∷ ys) rest new (suc n) x is lt first others =
    let more = next-of ys rest new n x is (omega (arith, lt)) first others in
    (more.0, more.1 ∙ ap (λ (m : ℕ). drop m (y ∷ ys)) (one-more n))
  where
    one-more : (m : ℕ) → suc (m + 1) ≡ suc m + 1
    one-more m = omega arith

pub some-at : {X : Type 0} (xs : List X) (n : ℕ) → n < length xs → (x : X) × (slice_get xs n ≡ Some x)
some-at [] n lt = absurd (omega (arith, lt))
some-at (y ∷ ys) zero lt = (y, refl)
some-at (y ∷ ys) (suc n) lt = some-at ys n (omega (arith, lt))

module _ {S : Type 0} (fits : Opening → ℕ → ShardCall → Type 0) (stands : Opening → ℕ → ℕ → S → ShardView → Type 0)
    (says : CoreJob → ShardAnswer → JobOutcome → Type 0) (cells : List (CoreCell S)) (caller client : ℕ)
    (numbers : List ℕ) (calls : List ShardCall) (own : List CoreEntry) where
  abbrev Opens : Opening → List CoreEntry → Type 0
  Opens o log = OpensCells fits stands says o cells log

  abbrev Of : Opening → List CoreEntry → List CoreEvent → Type 0
  Of o entries es = AreEventsOf (IsEntryEvent fits stands says o) entries es

  abbrev Later : Opening → List CoreEntry → List CoreEntry → List CoreEvent → Type 0
  Later o now log run = IsLaterRun fits stands says cells o caller now log run

  -- A run after some calls is one after the first of them.
  earlier : (o : Opening) (first more now log : List CoreEntry) (run : List CoreEvent) → now ≡ first ++ more → Later o now log run → Later o first log run
  earlier o first more now log run is later =
      earlier-run fits stands says cells o caller first more log run (subst (λ (l : List CoreEntry). Later o l log run) is later)

  abbrev shard_job : ℕ → ShardCall → Job
  shard_job statement c = record { session = client; statement = statement; work = work.Shard c }

  pub record PostedSome (n : ℕ) (now : List CoreEntry) : Type 0 where
    pub more : HasMore own now
    pub learns : (o : Opening) (log : List CoreEntry) (run es : List CoreEvent) → Later o now log run → Of o now es
        → IsPostedUpTo fits stands says o client numbers calls own n es

  pub posted-none : PostedSome 0 own
  posted-none = record {
    more = record { more = []; whole = sym (append-nil own) };
    learns = λ o log run es later are. none-posted fits stands says o client numbers calls own es are;
  }

  pub knows-post : (one : AreOfOneKind calls) (distinct : IsDistinct nat_eq numbers) (n number statement : ℕ) (now : List CoreEntry) (c : ShardCall)
      → PostedSome n now
      → Knows fits stands says cells caller client own (MayAskSome fits client numbers calls) → slice_get numbers n ≡ Some number → slice_get calls n ≡ Some c
      → Knows fits stands says cells caller client now (MayPostJob fits client number (shard_job statement c))
  knows-post one distinct n number statement now c posted may at is o log run es later are =
      let p = posted.learns o log run es later are in
      let first = earlier o own posted.more.more now log run posted.more.whole later in
      may-post fits stands says o client numbers calls own one distinct n number es c client statement p (may o log run p.before first p.events) at is

  pub posted-next : (one : AreOfOneKind calls) (distinct : IsDistinct nat_eq numbers) (n number cell statement : ℕ) (now next : List CoreEntry) (c : ShardCall)
      → PostedSome n now
      → Knows fits stands says cells caller client own (MayAskSome fits client numbers calls) → slice_get numbers n ≡ Some number → slice_get calls n ≡ Some c
      → next ≡ now ++ post_entry caller client cell (shard_job statement c) ∷ []
      → ((o : Opening) (log : List CoreEntry) (es : List CoreEvent) → Opens o log → Of o (now ++ post_entry caller client cell (shard_job statement c) ∷ []) es
      → GoOnBy fits stands says cells o client now es (λ past. Post number (job_asked (shard_job statement c)))) → PostedSome (n + 1) next
  posted-next one distinct n number cell statement now next c posted may at is made goes = record {
    more = record {
      more = posted.more.more ++ post_entry caller client cell (shard_job statement c) ∷ [];
      whole = made
          ∙ ap (λ (l : List CoreEntry). l ++ post_entry caller client cell (shard_job statement c) ∷ []) posted.more.whole
          ∙ append_assoc own posted.more.more (post_entry caller client cell (shard_job statement c) ∷ []);
    };
    learns = λ o log run es later are.
        let s = goes o log es later.opens (subst (λ (l : List CoreEntry). Of o l es) made are) in
        let mid = earlier o now (post_entry caller client cell (shard_job statement c) ∷ []) next log run made later in
        let p = posted.learns o log run s.before mid s.events in
        let first = earlier o own posted.more.more now log run posted.more.whole mid in
        next-posted fits stands says o client numbers calls own one distinct n number es c s.before p (may o log run p.before first p.events) at is s.whole s.calls;
  }

  pub record FetchedSome (n : ℕ) (answers : List JobAnswer) (now : List CoreEntry) : Type 0 where
    pub answered : length answers ≡ n
    pub more : HasMore own now
    pub learns : (o : Opening) (log : List CoreEntry) (run es : List CoreEvent) → Later o now log run → Of o now es
        → IsFetchedUpTo fits stands says o client numbers calls own n answers es

  pub fetched-none : (n : ℕ) (answers : List JobAnswer) (now : List CoreEntry) → n ≡ length numbers → 1 ≤ n → answers ≡ [] → PostedSome n now
      → FetchedSome 0 answers now
  fetched-none n answers now all some none posted =
      subst (λ (l : List JobAnswer). FetchedSome 0 l now) (sym none)
      (record {
        answered = refl;
        more = posted.more;
        learns = λ o log run es later are. none-fetched fits stands says o client numbers calls own n es some all (posted.learns o log run es later are);
      })

  pub knows-fetch : (n number : ℕ) (answers : List JobAnswer) (now : List CoreEntry) → FetchedSome n answers now → slice_get numbers n ≡ Some number
      → Knows fits stands says cells caller client now (MayFetchFrom client number)
  knows-fetch n number answers now fetched at o log run es later are =
      may-fetch fits stands says o client numbers calls own n number answers es (fetched.learns o log run es later are) at

  one-answer : (answers : List JobAnswer) (said : JobAnswer) → length (answers ++ said ∷ []) ≡ length answers + 1
  one-answer [] said = refl
  one-answer (a ∷ answers) said = let rest = one-answer answers said in omega (arith, rest)

  pub fetched-next : (one : AreOfOneKind calls) (distinct : IsDistinct nat_eq numbers) (n number cell : ℕ) (answers : List JobAnswer)
      (now next : List CoreEntry) (c : ShardCall) (said : JobAnswer) → FetchedSome n answers now → slice_get numbers n ≡ Some number
      → slice_get calls n ≡ Some c → HasFetched caller client cell said now next
      → LearnsByFetch fits stands says cells client number said now next → FetchedSome (n + 1) (answers ++ said ∷ []) next
  fetched-next one distinct n number cell answers now next c said fetched at is got goes = record {
    answered = one-answer answers said ∙ ap (λ (m : ℕ). m + 1) fetched.answered;
    more = record {
      more = fetched.more.more ++ (replicate got.waits (ask_entry caller client cell NotYet) ++ ask_entry caller client cell (Got said) ∷ []);
      whole = got.whole
          ∙ append_assoc now (replicate got.waits (ask_entry caller client cell NotYet)) (ask_entry caller client cell (Got said) ∷ [])
          ∙ ap (λ (l : List CoreEntry). l ++ (replicate got.waits (ask_entry caller client cell NotYet) ++ ask_entry caller client cell (Got said) ∷ [])) fetched.more.whole
          ∙ append_assoc own fetched.more.more (replicate got.waits (ask_entry caller client cell NotYet) ++ ask_entry caller client cell (Got said) ∷ []);
    };
    learns = λ o log run es later are.
        let s = goes o log es later.opens are in
        let asks = replicate got.waits (ask_entry caller client cell NotYet) ++ ask_entry caller client cell (Got said) ∷ [] in
        let mid = earlier o now asks next log run
        (got.whole ∙ append_assoc now (replicate got.waits (ask_entry caller client cell NotYet)) (ask_entry caller client cell (Got said) ∷ [])) later
        in
        let f = fetched.learns o log run s.before mid s.events in
        next-fetched fits stands says o client numbers calls own one distinct n number answers es s.before c said s.waits s.job s.outcome f fetched.answered at is s.asked
        s.stands_for s.whole s.calls;
  }

  pub learns-all : (group_of : List JobOutcome → JobGroup) (n : ℕ) (answers : List JobAnswer) (now : List CoreEntry) → n ≡ length numbers
      → length calls ≡ n → FetchedSome n answers now
      → ((outcomes : List JobOutcome) → length outcomes ≡ n
      → record { kind = kind_of_calls calls; waits = []; answers = received_from numbers outcomes [] } ≡ group_of outcomes)
      → (o : Opening) (log : List CoreEntry) (run es : List CoreEvent) → Later o now log run → Of o now es
      → HasAskedShards fits stands says group_of o client calls answers own es
  learns-all group_of n answers now all each fetched is o log run es later are =
      all-fetched fits stands says o client numbers calls own group_of n answers es all each (fetched.learns o log run es later are) is

  pub learns-of-posts : (n : ℕ) (now : List CoreEntry) → 1 ≤ n → n ≡ length numbers → PostedSome n now
      → LearnsOfPosts fits stands says cells caller client numbers calls own now
  learns-of-posts n now some all posted o log run es later are =
      all-posted fits stands says o client numbers calls own n es some all (posted.learns o log run es later are)

-- A call for each shard.
pub number-is : (shards place : ℕ) → place < shards → slice_get (numbers_from 0 shards) place ≡ Some place
number-is shards place lt = number-at 0 shards place lt ∙ ap Some (none-more place)
  where
    none-more : (m : ℕ) → 0 + m ≡ m
    none-more m = omega arith

module _ {S : Type 0} (fits : Opening → ℕ → ShardCall → Type 0) (stands : Opening → ℕ → ℕ → S → ShardView → Type 0)
    (says : CoreJob → ShardAnswer → JobOutcome → Type 0) (cells : List (CoreCell S)) (caller client : ℕ)
    (calls : List ShardCall) (own : List CoreEntry) where
  abbrev pub all_numbers : List ℕ
  all_numbers = numbers_from 0 (length calls)

  pub knows-each : Knows fits stands says cells caller client own (MayAskEach fits client calls)
      → Knows fits stands says cells caller client own (MayAskSome fits client all_numbers calls)
  knows-each may o log run es later are =
      let m = may o log run es later are in record {
        ended = m.ended;
        each = λ place number c at is.
            let low = slice_get_within calls place c is in
            let same : place ≡ number = same_Some place number (sym (number-is (length calls) place low) ∙ at) in
            let all = m.shards in
            record {
              there = omega (arith, low, same, all);
              ask = subst (λ (n : ℕ). MayAskShard fits client o (state_from_calls o client (calls_of client es)) n c) same (m.each place c is);
            };
      }

  posts-in-order : (number : ℕ) (cs : List ShardCall) → posts_to (numbers_from number (length cs)) cs ≡ posts_from number cs
  posts-in-order number [] = refl
  posts-in-order number (c ∷ cs) = ap (λ (l : List ClientCall). l ++ Post number (call_job c) ∷ []) (posts-in-order (number + 1) cs)

  pub learns-of-each : (n : ℕ) (answers : List JobAnswer) (now : List CoreEntry) → n ≡ length calls
      → FetchedSome fits stands says cells caller client all_numbers calls own n answers now
      → LearnsOfEach fits stands says cells caller client calls answers own now
  learns-of-each n answers now all fetched o log run es later are =
      let f = fetched.learns o log run es later are in record {
        asked = all-fetched fits stands says o client all_numbers calls own (whole_group calls) n answers es (all ∙ sym (as-many 0 (length calls)))
            (sym all) f
            (λ outcomes long. ap (λ (answers : List Received). record { kind = kind_of_calls calls; waits = []; answers = answers })
            (ap (λ (m : ℕ). received_from (numbers_from 0 m) outcomes []) (sym all ∙ sym long) ∙ received-in-order 0 outcomes []));
        later = f.fetches;
        order = f.order ∙ ap (λ (l : List ClientCall). f.fetches ++ l) (posts-in-order 0 calls);
        none = f.none;
      }
