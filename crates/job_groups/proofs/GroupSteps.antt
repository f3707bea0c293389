-- The state of a client in a group, call by call.
use Rattle.std.proofs.Common.{◌≡◌, ◌∙◌, ℕ, zero, suc, ◌+◌, ◌<◌, ◌≤◌, ◌==◌, nat_eq, ◌&&◌, Bool, true, false, List, [], ◌∷◌, ◌++◌, append_assoc, length, map, take, drop, replicate, slice_get, Option, Some, inl, inr, ◌⊎◌, refl, sym, ap, subst, arith, eq-eqb, if◌then◌else◌}
use Rattle.std.proofs.lemmas.Option.{none-some, same_Some, slice_get_within}
use Rattle.std.specs.List.{AllByRecursion, IsDistinct}
use Rattle.cube_core.specs.Links.{AreEventsOf}
use Rattle.core_events.proofs.Counts.{in-order}
use Rattle.cube_core.specs.BoardCells.{AnswerSays, IsEntryEvent, call_job}
use Rattle.core_program.specs.Knowing.{MayPostJob, last_posted}
use Rattle.core_events.specs.Clients.{ClientState, after_client_call, calls_of, flush_after_fetch, state_from_calls}
use Rattle.core_events.specs.Events.{Opening, Post, Fetch, NoChange, ClientCall, CoreEvent, By}
use Rattle.core_events.specs.Fitting.{BeginsGroup, FitsCall, IsFor, JoinsGroup}
use Rattle.core_events.specs.Groups.{GroupKind, JobGroup, group_after_fetch, group_after_post, has_ended, has_number, has_refusal, is_complete, kind_of, mails_of, may_begin, numbers_without}
use Rattle.core_events.specs.Jobs.{CoreJob, JobOutcome}
use Rattle.core_events.specs.ShardView.{ShardView}
use Rattle.core_program.specs.CoreFits.{CoreEntry}
use Rattle.cube_core.specs.declared.jobs.JobAnswer.{JobAnswer}
use Rattle.cube_core.specs.declared.jobs.Work.TheVariants as work
use Rattle.cube_core.specs.declared.shard.ShardAnswer.{ShardAnswer}
use Rattle.cube_core.specs.declared.shard.ShardCall.{ShardCall}
use Rattle.cube_core.specs.declared.shard.ShardCall.TheVariants as shard
use Rattle.job_groups.proofs.Waits.{apart, has-waits, never-empty, none-before, none-left, received-more, take-next, waits-after, waits-has, waits-more, whole-taken}
use Rattle.job_groups.specs.AskedEach.{AreOfOneKind, HasAskedShards, IsGroupCall, StandForEach, kind_of_calls, with_group}
use Rattle.job_groups.specs.AskedSome.{MayAskSome, posts_among, posts_to, received_from}
use Rattle.job_groups.specs.PostedSome.{HasPostedSome, waits_of}

-- A call on a shard goes to a shard's mail, and is no FLUSH.
is-for : (o : Opening) (number : ℕ) (c : ShardCall) → number < o.shards → IsFor o number (call_job c)
is-for o number (shard.Append cube shape epoch rows) lt = lt
is-for o number (shard.DropBox cube shape epoch span) lt = lt
is-for o number (shard.Scan shape query snapshot) lt = lt
is-for o number (shard.Delta shape query from to) lt = lt
is-for o number (shard.Rollback epoch) lt = lt
is-for o number (shard.Purge epoch) lt = lt
is-for o number (shard.CopyRound from to) lt = lt

no-flush : (c : ShardCall) (outcome : JobOutcome) (flush : Option JobOutcome) → flush_after_fetch (kind_of (call_job c)) outcome flush ≡ flush
no-flush (shard.Append cube shape epoch rows) outcome flush = refl
no-flush (shard.DropBox cube shape epoch span) outcome flush = refl
no-flush (shard.Scan shape query snapshot) outcome flush = refl
no-flush (shard.Delta shape query from to) outcome flush = refl
no-flush (shard.Rollback epoch) outcome flush = refl
no-flush (shard.Purge epoch) outcome flush = refl
no-flush (shard.CopyRound from to) outcome flush = refl

-- The group after posts to these mails.
abbrev pub group_posted : GroupKind → JobGroup → List ℕ → JobGroup
group_posted kind old [] = old
group_posted kind old (x ∷ xs) = record { kind = kind; waits = waits_of (x ∷ xs); answers = [] }

pub some-posted : (kind : GroupKind) (old : JobGroup) (posted : List ℕ) → 1 ≤ length posted
    → group_posted kind old posted ≡ record { kind = kind; waits = waits_of posted; answers = [] }
some-posted kind old [] le = absurd (omega (arith, le))
some-posted kind old (x ∷ xs) le = refl

under-way : (shards : ℕ) (kind : GroupKind) (x : ℕ) (xs : List ℕ)
    → has_ended shards (record { kind = kind; waits = waits_of (x ∷ xs); answers = [] }) ≡ false
under-way shards kind x xs = ap (λ (b : Bool). b && is_complete shards kind (has_refusal []) (mails_of [])) (never-empty (waits_of xs) x)

post-group : (shards n : ℕ) (job : CoreJob) (kind : GroupKind) (old : JobGroup) (posted : List ℕ) → kind_of job ≡ kind → has_ended shards old ≡ true
    → group_after_post shards n job (group_posted kind old posted) ≡ group_posted kind old (posted ++ n ∷ [])
post-group shards n job kind old [] same ended =
    ap (λ (b : Bool). if b then record { kind = kind_of job; waits = n ∷ []; answers = [] } else record old { waits = n ∷ old.waits }) ended
    ∙ ap (λ (k : GroupKind). record { kind = k; waits = n ∷ []; answers = [] }) same
post-group shards n job kind old (x ∷ xs) same ended =
    ap (λ (b : Bool). if b then record { kind = kind_of job; waits = n ∷ []; answers = [] }
    else record { kind = kind; waits = n ∷ waits_of (x ∷ xs); answers = [] }) (under-way shards kind x xs)
    ∙ ap (λ (waits : List ℕ). record { kind = kind; waits = waits; answers = [] }) (sym (waits-more (x ∷ xs) n))

may-join : (shards n : ℕ) (job : CoreJob) (kind : GroupKind) (old : JobGroup) (posted : List ℕ) → kind_of job ≡ kind → has_ended shards old ≡ true
    → may_begin shards job old ≡ true → has_number posted n ≡ false
    → BeginsGroup shards job (group_posted kind old posted) ⊎ JoinsGroup shards n job (group_posted kind old posted)
may-join shards n job kind old [] same ended begins none = inl (record { ended = ended; next = begins })
may-join shards n job kind old (x ∷ xs) same ended begins none =
    inr (record { under_way = under-way shards kind x xs; kind = same; not_out = has-waits (x ∷ xs) n ∙ none; not_done = refl })

-- The rest of what the client knows stays.
after-post : (o : Opening) (a n : ℕ) (job : CoreJob) (g : JobGroup) (k : ClientState)
    → after_client_call o a (Post n job) (with_group g k) ≡ with_group (group_after_post o.shards n job g) k
after-post o a n job g k = refl

pub after-fetch : (o : Opening) (a n : ℕ) (outcome : JobOutcome) (g : JobGroup) (k : ClientState) → flush_after_fetch g.kind outcome k.flush ≡ k.flush
    → after_client_call o a (Fetch n outcome) (with_group g k) ≡ with_group (group_after_fetch n outcome g) k
after-fetch o a n outcome g k same = λ i. record (with_group (group_after_fetch n outcome g) k) { flush = same i }

pub after-waits : (o : Opening) (a waits : ℕ) (calls : List ClientCall) → state_from_calls o a (replicate waits NoChange ++ calls) ≡ state_from_calls o a calls
after-waits o a zero calls = refl
after-waits o a (suc waits) calls = after-waits o a waits calls

only-waits : (waits : ℕ) (calls : List ClientCall) → AllByRecursion IsGroupCall calls → AllByRecursion IsGroupCall (replicate waits NoChange ++ calls)
only-waits zero calls only = only
only-waits (suc waits) calls only = (tt, only-waits waits calls only)

pub waits-by : (client waits : ℕ) (calls : List ClientCall) (before : List CoreEvent)
    → replicate waits (By client NoChange) ++ (map (λ c. By client c) calls ++ before) ≡ map (λ c. By client c) (replicate waits NoChange ++ calls) ++ before
waits-by client zero calls before = refl
waits-by client (suc waits) calls before = ap (λ (l : List CoreEvent). By client NoChange ∷ l) (waits-by client waits calls before)

pub posted-waits : (number waits : ℕ) (calls : List ClientCall) → last_posted number (replicate waits NoChange ++ calls) ≡ last_posted number calls
posted-waits number zero calls = refl
posted-waits number (suc waits) calls = posted-waits number waits calls

kinds-flush : (calls : List ShardCall) (n : ℕ) (c : ShardCall) (outcome : JobOutcome) (flush : Option JobOutcome) → AreOfOneKind calls
    → slice_get calls n ≡ Some c → flush_after_fetch (kind_of_calls calls) outcome flush ≡ flush
kinds-flush calls n c outcome flush one is =
    ap (λ (k : GroupKind). flush_after_fetch k outcome flush) (sym (one n c is)) ∙ no-flush c outcome flush

pub one-longer : (xs : List JobOutcome) (x : JobOutcome) → length (xs ++ x ∷ []) ≡ length xs + 1
one-longer [] x = refl
one-longer (y ∷ xs) x = let rest = one-longer xs x in omega (arith, rest)

in-or : (j n : ℕ) → j < n + 1 → (j < n) ⊎ (j ≡ n)
in-or j n lt = at (in-order j n)
  where
    at : (j < n) ⊎ ((j ≡ n) ⊎ (n < j)) → (j < n) ⊎ (j ≡ n)
    at (inl low) = inl low
    at (inr (inl same)) = inr same
    at (inr (inr high)) = absurd (omega (arith, lt, high))

pub got-last : {X : Type 0} (xs : List X) (x y : X) (n : ℕ) → slice_get (xs ++ x ∷ []) n ≡ Some y
    → (slice_get xs n ≡ Some y) ⊎ ((n ≡ length xs) × (x ≡ y))
got-last [] x y zero is = inr (refl, same_Some x y is)
got-last [] x y (suc n) is = absurd (none-some y is)
got-last (z ∷ xs) x y zero is = inl is
got-last (z ∷ xs) x y (suc n) is = at (got-last xs x y n is)
  where
    at : (slice_get xs n ≡ Some y) ⊎ ((n ≡ length xs) × (x ≡ y)) → (slice_get xs n ≡ Some y) ⊎ ((suc n ≡ suc (length xs)) × (x ≡ y))
    at (inl earlier) = inl earlier
    at (inr last) = inr (ap suc last.0, last.1)

posts-next : (numbers : List ℕ) (calls : List ShardCall) (n number : ℕ) (c : ShardCall) → slice_get numbers n ≡ Some number
    → slice_get calls n ≡ Some c
    → posts_to (take (suc n) numbers) (take (suc n) calls) ≡ Post number (call_job c) ∷ posts_to (take n numbers) (take n calls)
posts-next [] calls n number c at is = absurd (none-some number at)
posts-next (x ∷ xs) [] n number c at is = absurd (none-some c is)
posts-next (x ∷ xs) (d ∷ ds) zero number c at is = λ i. Post (same_Some x number at i) (call_job (same_Some d c is i)) ∷ []
posts-next (x ∷ xs) (d ∷ ds) (suc n) number c at is =
    ap (λ (l : List ClientCall). l ++ Post x (call_job d) ∷ []) (posts-next xs ds n number c at is)

pub posts-all : (numbers : List ℕ) (calls : List ShardCall) (n : ℕ) → n ≡ length numbers
    → posts_to (take n numbers) (take n calls) ≡ posts_to numbers calls
posts-all [] calls zero all = refl
posts-all [] calls (suc n) all = absurd (omega (arith, all))
posts-all (x ∷ xs) calls zero all = absurd (omega (arith, all))
posts-all (x ∷ xs) [] (suc n) all = refl
posts-all (x ∷ xs) (c ∷ calls) (suc n) all =
    ap (λ (l : List ClientCall). l ++ Post x (call_job c) ∷ []) (posts-all xs calls n (omega (arith, all)))

pub posts-waits : (waits : ℕ) (calls : List ClientCall) → posts_among (replicate waits NoChange ++ calls) ≡ posts_among calls
posts-waits zero calls = refl
posts-waits (suc waits) calls = posts-waits waits calls

module _ {S : Type 0} (fits : Opening → ℕ → ShardCall → Type 0) (stands : Opening → ℕ → ℕ → S → ShardView → Type 0)
    (says : CoreJob → ShardAnswer → JobOutcome → Type 0) (o : Opening) (client : ℕ) (numbers : List ℕ) (calls : List ShardCall)
    (own : List CoreEntry) where
  abbrev state : List ClientCall → ClientState
  state past = state_from_calls o client past

  abbrev Own : List CoreEvent → Type 0
  Own before = AreEventsOf (IsEntryEvent fits stands says o) own before

  -- After so many posts.
  pub record IsPostedUpTo (n : ℕ) (es : List CoreEvent) : Type 0 where
    pub before : List CoreEvent
    pub events : Own before
    pub added : List ClientCall
    pub whole : es ≡ map (λ c. By client c) added ++ before
    pub past : calls_of client es ≡ added ++ calls_of client before
    pub only : AllByRecursion IsGroupCall added
    pub posts : posts_among added ≡ posts_to (take n numbers) (take n calls)
    pub just : added ≡ posts_to (take n numbers) (take n calls)
    pub group : state (calls_of client es)
        ≡ with_group (group_posted (kind_of_calls calls) (state (calls_of client before)).group (take n numbers)) (state (calls_of client before))
    pub last : (j number : ℕ) (c : ShardCall) → j < n → slice_get numbers j ≡ Some number → slice_get calls j ≡ Some c
        → last_posted number (calls_of client es) ≡ Some (call_job c)

  pub none-posted : (es : List CoreEvent) → Own es → IsPostedUpTo 0 es
  none-posted es events = record {
    before = es;
    events = events;
    added = [];
    whole = refl;
    past = refl;
    only = tt;
    posts = refl;
    just = refl;
    group = refl;
    last = λ j number c lt at is. absurd (omega (arith, lt));
  }

  -- The next may be posted.
  pub may-post : (one : AreOfOneKind calls) (distinct : IsDistinct nat_eq numbers) (n number : ℕ) (es : List CoreEvent) (c : ShardCall) (session statement : ℕ)
      → (p : IsPostedUpTo n es) → MayAskSome fits client numbers calls o (calls_of client p.before) → slice_get numbers n ≡ Some number → slice_get calls n ≡ Some c
      → MayPostJob fits client number (record { session = session; statement = statement; work = work.Shard c }) o (calls_of client es)
  may-post one distinct n number es c session statement p may at is =
      let k = state (calls_of client p.before) in
      let numbered = may.each n number c at is in
      record {
        suits = (numbered.there, numbered.ask.suits);
        may = subst (λ (now : ClientState). FitsCall o client (Post number (call_job c)) now) (sym p.group)
            (record {
              goes = is-for o number c numbered.there;
              bears = numbered.ask.bears (group_posted (kind_of_calls calls) k.group (take n numbers));
              group = may-join o.shards number (call_job c) (kind_of_calls calls) k.group (take n numbers) (one n c is) may.ended numbered.ask.begins
                  (none-before numbers n number distinct at);
            });
      }

  pub next-posted : (one : AreOfOneKind calls) (distinct : IsDistinct nat_eq numbers) (n number : ℕ) (es : List CoreEvent) (c : ShardCall)
      (mid : List CoreEvent) → (p : IsPostedUpTo n mid) → MayAskSome fits client numbers calls o (calls_of client p.before)
      → slice_get numbers n ≡ Some number → slice_get calls n ≡ Some c
      → es ≡ By client (Post number (call_job c)) ∷ mid → calls_of client es ≡ Post number (call_job c) ∷ calls_of client mid → IsPostedUpTo (n + 1) es
  next-posted one distinct n number es c mid p may at is by goes = record {
    before = p.before;
    events = p.events;
    added = Post number (call_job c) ∷ p.added;
    whole = by ∙ ap (λ (l : List CoreEvent). By client (Post number (call_job c)) ∷ l) p.whole;
    past = goes ∙ ap (λ (l : List ClientCall). Post number (call_job c) ∷ l) p.past;
    only = (tt, p.only);
    posts = ap (λ (l : List ClientCall). Post number (call_job c) ∷ l) p.posts
        ∙ sym (posts-next numbers calls n number c at is)
        ∙ ap (λ (m : ℕ). posts_to (take m numbers) (take m calls)) (more n);
    just = ap (λ (l : List ClientCall). Post number (call_job c) ∷ l) p.just
        ∙ sym (posts-next numbers calls n number c at is)
        ∙ ap (λ (m : ℕ). posts_to (take m numbers) (take m calls)) (more n);
    group = ap state goes
        ∙ ap (λ (k : ClientState). after_client_call o client (Post number (call_job c)) k) p.group
        ∙ after-post o client number (call_job c) (group_posted (kind_of_calls calls) (state (calls_of client p.before)).group (take n numbers))
        (state (calls_of client p.before))
        ∙ ap (λ (g : JobGroup). with_group g (state (calls_of client p.before)))
        (post-group o.shards number (call_job c) (kind_of_calls calls) (state (calls_of client p.before)).group (take n numbers) (one n c is) may.ended)
        ∙ ap (λ (l : List ℕ). with_group (group_posted (kind_of_calls calls) (state (calls_of client p.before)).group l) (state (calls_of client p.before)))
        (sym (take-next numbers n number at) ∙ ap (λ (m : ℕ). take m numbers) (more n));
    last = λ j other d lt there got. ap (last_posted other) goes ∙ at-place j other d there got (in-or j n lt);
  } where
    more : (m : ℕ) → suc m ≡ m + 1
    more m = omega arith

    at-place : (j other : ℕ) (d : ShardCall) → slice_get numbers j ≡ Some other → slice_get calls j ≡ Some d → (j < n) ⊎ (j ≡ n)
        → (if number == other then Some (call_job c) else last_posted other (calls_of client mid)) ≡ Some (call_job d)
    at-place j other d there got (inl low) =
        ap (λ (b : Bool). if b then Some (call_job c) else last_posted other (calls_of client mid)) (apart numbers j n other number distinct low there at)
        ∙ p.last j other d low there got
    at-place j other d there got (inr same) =
        ap (λ (b : Bool). if b then Some (call_job c) else last_posted other (calls_of client mid))
        (eq-eqb number other (same_Some number other (sym at ∙ ap (slice_get numbers) (sym same) ∙ there)))
        ∙ ap (λ (x : ShardCall). Some (call_job x)) (same_Some c d (sym is ∙ ap (slice_get calls) (sym same) ∙ got))

  -- After all of them.
  pub all-posted : (n : ℕ) (es : List CoreEvent) → 1 ≤ n → n ≡ length numbers → IsPostedUpTo n es
      → HasPostedSome fits stands says numbers calls o client own es
  all-posted n es some all p = record {
    before = p.before;
    events = p.events;
    added = p.added;
    whole = p.whole;
    past = p.past;
    only = p.only;
    posts = p.posts ∙ posts-all numbers calls n all;
    group = p.group
        ∙ ap (λ (l : List ℕ). with_group (group_posted (kind_of_calls calls) (state (calls_of client p.before)).group l) (state (calls_of client p.before)))
        (whole-taken numbers n all)
        ∙ ap (λ (g : JobGroup). with_group g (state (calls_of client p.before)))
        (some-posted (kind_of_calls calls) (state (calls_of client p.before)).group numbers (omega (arith, some, all)));
    last = λ place number c at got. let low = slice_get_within numbers place number at in p.last place number c (omega (arith, low, all)) at got;
  }

  -- After so many answers.
  pub record IsFetchedUpTo (n : ℕ) (answers : List JobAnswer) (es : List CoreEvent) : Type 0 where
    pub before : List CoreEvent
    pub events : Own before
    pub added : List ClientCall
    pub whole : es ≡ map (λ c. By client c) added ++ before
    pub past : calls_of client es ≡ added ++ calls_of client before
    pub only : AllByRecursion IsGroupCall added
    pub posts : posts_among added ≡ posts_to numbers calls
    pub fetches : List ClientCall
    pub order : added ≡ fetches ++ posts_to numbers calls
    pub none : posts_among fetches ≡ []
    pub outcomes : List JobOutcome
    pub long : length outcomes ≡ n
    pub stand : StandForEach fits stands says calls answers outcomes
    pub group : state (calls_of client es)
        ≡ with_group (record { kind = kind_of_calls calls; waits = waits_of (drop n numbers); answers = received_from numbers outcomes [] })
        (state (calls_of client before))
    pub last : (j number : ℕ) (c : ShardCall) → slice_get numbers j ≡ Some number → slice_get calls j ≡ Some c
        → last_posted number (calls_of client es) ≡ Some (call_job c)

  pub none-fetched : (n : ℕ) (es : List CoreEvent) → 1 ≤ n → n ≡ length numbers → IsPostedUpTo n es → IsFetchedUpTo 0 [] es
  none-fetched n es some all p = record {
    before = p.before;
    events = p.events;
    added = p.added;
    whole = p.whole;
    past = p.past;
    only = p.only;
    posts = p.posts ∙ posts-all numbers calls n all;
    fetches = [];
    order = p.just ∙ posts-all numbers calls n all;
    none = refl;
    outcomes = [];
    long = refl;
    stand = λ place c said outcome got answer is. absurd (none-some outcome is);
    group = p.group
        ∙ ap (λ (l : List ℕ). with_group (group_posted (kind_of_calls calls) (state (calls_of client p.before)).group l) (state (calls_of client p.before)))
        (whole-taken numbers n all)
        ∙ ap (λ (g : JobGroup). with_group g (state (calls_of client p.before)))
        (some-posted (kind_of_calls calls) (state (calls_of client p.before)).group numbers (omega (arith, some, all)));
    last = λ j number c at got. let low = slice_get_within numbers j number at in p.last j number c (omega (arith, low, all)) at got;
  }

  -- The next may be fetched.
  pub may-fetch : (n number : ℕ) (answers : List JobAnswer) (es : List CoreEvent) → IsFetchedUpTo n answers es → slice_get numbers n ≡ Some number
      → has_number (state (calls_of client es)).group.waits number ≡ true
  may-fetch n number answers es f at =
      ap (λ (k : ClientState). has_number k.group.waits number) f.group ∙ waits-has numbers n number at

  pub next-fetched : (one : AreOfOneKind calls) (distinct : IsDistinct nat_eq numbers) (n number : ℕ) (answers : List JobAnswer) (es mid : List CoreEvent)
      (c : ShardCall) (said : JobAnswer) (waits : ℕ) (job : CoreJob) (outcome : JobOutcome) → IsFetchedUpTo n answers mid → length answers ≡ n
      → slice_get numbers n ≡ Some number → slice_get calls n ≡ Some c
      → last_posted number (calls_of client mid) ≡ Some job → AnswerSays says job said outcome
      → es ≡ By client (Fetch number outcome) ∷ replicate waits (By client NoChange) ++ mid
      → calls_of client es ≡ Fetch number outcome ∷ replicate waits NoChange ++ calls_of client mid
      → IsFetchedUpTo (n + 1) (answers ++ said ∷ []) es
  next-fetched one distinct n number answers es mid c said waits job outcome f answered at is asked holds by goes = record {
    before = f.before;
    events = f.events;
    added = Fetch number outcome ∷ replicate waits NoChange ++ f.added;
    whole = by ∙ ap (λ (l : List CoreEvent). By client (Fetch number outcome) ∷ replicate waits (By client NoChange) ++ l) f.whole
        ∙ ap (λ (l : List CoreEvent). By client (Fetch number outcome) ∷ l) (waits-by client waits f.added f.before);
    past = goes ∙ ap (λ (l : List ClientCall). Fetch number outcome ∷ replicate waits NoChange ++ l) f.past
        ∙ ap (λ (l : List ClientCall). Fetch number outcome ∷ l) (sym (append_assoc (replicate waits NoChange) f.added (calls_of client f.before)));
    only = (tt, only-waits waits f.added f.only);
    posts = posts-waits waits f.added ∙ f.posts;
    fetches = Fetch number outcome ∷ replicate waits NoChange ++ f.fetches;
    order = ap (λ (l : List ClientCall). Fetch number outcome ∷ replicate waits NoChange ++ l) f.order
        ∙ ap (λ (l : List ClientCall). Fetch number outcome ∷ l) (sym (append_assoc (replicate waits NoChange) f.fetches (posts_to numbers calls)));
    none = posts-waits waits f.fetches ∙ f.none;
    outcomes = f.outcomes ++ outcome ∷ [];
    long = one-longer f.outcomes outcome ∙ ap (λ (m : ℕ). m + 1) f.long;
    stand = λ place d told there got answer had.
        last-stands place d told there got (got-last answers said told place answer) (got-last f.outcomes outcome there place had);
    group = ap state goes
        ∙ ap (λ (k : ClientState). after_client_call o client (Fetch number outcome) k) (after-waits o client waits (calls_of client mid) ∙ f.group)
        ∙ after-fetch o client number outcome
        (record { kind = kind_of_calls calls; waits = waits_of (drop n numbers); answers = received_from numbers f.outcomes [] })
        (state (calls_of client f.before)) (kinds-flush calls n c outcome (state (calls_of client f.before)).flush one is)
        ∙ (λ i. with_group (record {
          kind = kind_of_calls calls;
          waits = waits-are i;
          answers = answers-are i;
        }) (state (calls_of client f.before)));
    last = λ j other d there got. ap (last_posted other) goes ∙ posted-waits other waits (calls_of client mid) ∙ f.last j other d there got;
  } where
    more : (m : ℕ) → suc m ≡ m + 1
    more m = omega arith

    waits-are : numbers_without number (waits_of (drop n numbers)) ≡ waits_of (drop (n + 1) numbers)
    waits-are = waits-after numbers n number distinct at ∙ ap (λ (m : ℕ). waits_of (drop m numbers)) (more n)

    answers-are : record { mail = number; answer = outcome } ∷ received_from numbers f.outcomes [] ≡ received_from numbers (f.outcomes ++ outcome ∷ []) []
    answers-are = sym (received-more numbers f.outcomes number outcome [] (ap (slice_get numbers) f.long ∙ at))

    last-stands : (place : ℕ) (d : ShardCall) (told : JobAnswer) (there : JobOutcome) → slice_get calls place ≡ Some d
        → (slice_get answers place ≡ Some told) ⊎ ((place ≡ length answers) × (said ≡ told))
        → (slice_get f.outcomes place ≡ Some there) ⊎ ((place ≡ length f.outcomes) × (outcome ≡ there))
        → AnswerSays says (call_job d) told there
    last-stands place d told there got (inl one-is) (inl two-is) = f.stand place d told there got one-is two-is
    last-stands place d told there got (inl one-is) (inr two-is) =
        let low = slice_get_within answers place told one-is in
        let high = two-is.0 in
        let long = f.long in
        absurd (omega (arith, low, high, long, answered))
    last-stands place d told there got (inr one-is) (inl two-is) =
        let low = slice_get_within f.outcomes place there two-is in
        let high = one-is.0 in
        let long = f.long in
        absurd (omega (arith, low, high, long, answered))
    last-stands place d told there got (inr one-is) (inr two-is) =
        let same : place ≡ n = one-is.0 ∙ answered in
        let job-is : job ≡ call_job d =
        same_Some job (call_job d) (sym asked ∙ f.last place number d (ap (slice_get numbers) same ∙ at) got)
        in
        coe 0 1 (i. AnswerSays says (job-is i) (one-is.1 i) (two-is.1 i)) holds

  -- After all answers.
  abbrev pub all-fetched : (group_of : List JobOutcome → JobGroup) (n : ℕ) (answers : List JobAnswer) (es : List CoreEvent) → n ≡ length numbers
      → length calls ≡ n → IsFetchedUpTo n answers es
      → ((outcomes : List JobOutcome) → length outcomes ≡ n
      → record { kind = kind_of_calls calls; waits = []; answers = received_from numbers outcomes [] } ≡ group_of outcomes)
      → HasAskedShards fits stands says group_of o client calls answers own es
  all-fetched group_of n answers es all each f is = record {
    before = f.before;
    events = f.events;
    added = f.added;
    whole = f.whole;
    past = f.past;
    only = f.only;
    outcomes = f.outcomes;
    each = f.long ∙ sym each;
    stand = f.stand;
    group = f.group
        ∙ ap (λ (l : List ℕ). with_group (record { kind = kind_of_calls calls; waits = waits_of l; answers = received_from numbers f.outcomes [] })
        (state (calls_of client f.before))) (none-left numbers n all)
        ∙ ap (λ (g : JobGroup). with_group g (state (calls_of client f.before))) (is f.outcomes f.long);
  }
