-- What was posted of a transaction is read off the calls of the session that opened it.
use Rattle.std.proofs.Common.{◌≡◌, ◌⊎◌, ◌∙◌, ℕ, ◌+◌, ◌%◌, ◌<◌, ◌≤◌, ◌==◌, Bool, true, false, List, [], ◌∷◌, ◌++◌, Option, Some, None, IsSomeAnd, inl, inr, refl, sym, ap, arith, eqb-true, eq-eqb, if◌then◌else◌}
use Rattle.std.proofs.lemmas.Bool.{false≢true, eqb-false}
use Rattle.cube_values.specs.declared.snapshot.Snapshot.{Snapshot}
use Rattle.cube_journal.specs.declared.journal_entry.JournalEntry.{JournalEntry}
use Rattle.cube_journal.specs.Counters.{JournalState}
use Rattle.core_events.specs.ShardView.{BrickEntry}
use Rattle.core_events.specs.Jobs.{CoreJob, Append, DropBox, Scan, Delta, Rollback, Purge, CopyRound, Flush}
use Rattle.core_events.specs.Events.{Opening, OpenWrite, OpenRead, Commit, AbortEnd, CloseRead, TakeNote, CreateCube, FindCube, CubesFrom, CountersNow, RoundOpen, RoundClose, StoreFailed, ClientCall, OnDesk, OnNames, Post, Fetch, CloseMail, NoChange, CoreEvent, By, At}
use Rattle.core_events.specs.Clients.{Holding, ClientState, client_state, client_after_call, held_under, holds_after, writer_at}
use Rattle.core_events.specs.Cells.{counters_of_run}
use Rattle.core_events.specs.Fitting.{FitsCall, OwnsWriter}
use Rattle.core_events.specs.Runs.{IsCoreRun}
use Rattle.core_events.proofs.Finished.{or-is}
use Rattle.core_events.proofs.DeskSteps.{client_entry, state_with_entry, run-step}
use Rattle.core_events.proofs.Places.{place}
use Rattle.core_events.specs.Clients.{calls_of, reader_up_to}
use Rattle.core_events.specs.BrickTransactions.{entries_of_epoch}
use Rattle.core_events.proofs.Lookups.{with_one, without_one, held-under-append, held-under-without}
use Rattle.core_serial.specs.PostedEntries.{entries_of_job, posted_after_post, posted_after, posted_of, posted_by_calls, opens_writer, has_opened}
use Rattle.core_serial.proofs.Fates.{HaveFates, fates-call, fates-move, or-left, or-right}
use Rattle.core_serial.proofs.PostedJobs.{epoch-append, IsOtherEpoch, none-fresh}
use Rattle.core_serial.proofs.PostedRuns.{run-posted-fates, job-entry-fates, post-fates, other-post}
use Rattle.cube_journal.specs.Entries.{takes_epoch}

-- A writer that is held after a call was held before, or the call opened it.

abbrev IsWriterAt : ℕ → Option Snapshot → Type 0
IsWriterAt e h = IsSomeAnd h (λ x. (x.own ≡ true) × (x.epoch ≡ e))

opens-cases : (here : Bool) (h : Option Snapshot) (v : Snapshot) (e : ℕ) → IsWriterAt e (with_one h here v)
    → IsWriterAt e h ⊎ ((v.own ≡ true) × (v.epoch ≡ e))
opens-cases here (Some x) v e owns = inl owns
opens-cases true None v e owns = inr owns
opens-cases false None v e owns = absurd owns

ends-cases : (here : Bool) (h : Option Snapshot) (e : ℕ) → IsWriterAt e (without_one here h) → IsWriterAt e h
ends-cases true h e owns = absurd owns
ends-cases false h e owns = owns

owns-or-opens : (a e : ℕ) (call : ClientCall) (holds : List Holding) → IsWriterAt e (held_under a (holds_after a call holds))
    → IsWriterAt e (held_under a holds) ⊎ (opens_writer e call ≡ true)
owns-or-opens a e (OnDesk (OpenWrite statement epoch deps)) holds owns =
    elim (opens-cases (a == a) (held_under a holds) (writer_at epoch deps) e
    (coe 0 1 (i. IsWriterAt e (held-under-append holds (record { number = a; snapshot = writer_at epoch deps }) a i)) owns)) [
      | inl old ↦ inl old
      | inr new ↦ inr (eq-eqb epoch e new.1)
    ]
owns-or-opens a e (OnDesk (OpenRead number statement epoch)) holds owns =
    elim (opens-cases (number == a) (held_under a holds) (reader_up_to epoch) e
    (coe 0 1 (i. IsWriterAt e (held-under-append holds (record { number = number; snapshot = reader_up_to epoch }) a i)) owns)) [
      | inl old ↦ inl old
      | inr new ↦ absurd (false≢true new.0)
    ]
owns-or-opens a e (OnDesk (Commit statement epoch)) holds owns =
    inl (ends-cases (a == a) (held_under a holds) e (coe 0 1 (i. IsWriterAt e (held-under-without holds a a i)) owns))
owns-or-opens a e (OnDesk (AbortEnd statement epoch cause)) holds owns =
    inl (ends-cases (a == a) (held_under a holds) e (coe 0 1 (i. IsWriterAt e (held-under-without holds a a i)) owns))
owns-or-opens a e (OnDesk (CloseRead number statement)) holds owns =
    inl (ends-cases (number == a) (held_under a holds) e (coe 0 1 (i. IsWriterAt e (held-under-without holds number a i)) owns))
owns-or-opens a e (OnDesk (TakeNote note counters)) holds owns = inl owns
owns-or-opens a e (OnDesk (CreateCube statement decl answer)) holds owns = inl owns
owns-or-opens a e (OnDesk (FindCube statement name answer)) holds owns = inl owns
owns-or-opens a e (OnDesk (CubesFrom place cubes)) holds owns = inl owns
owns-or-opens a e (OnDesk (CountersNow counters)) holds owns = inl owns
owns-or-opens a e (OnDesk (RoundOpen answer)) holds owns = inl owns
owns-or-opens a e (OnDesk (RoundClose epoch end)) holds owns = inl owns
owns-or-opens a e (OnDesk (StoreFailed failed)) holds owns = inl owns
owns-or-opens a e (OnNames call) holds owns = inl owns
owns-or-opens a e (Post mail job) holds owns = inl owns
owns-or-opens a e (Fetch mail answer) holds owns = inl owns
owns-or-opens a e (CloseMail mail) holds owns = inl owns
owns-or-opens a e NoChange holds owns = inl owns

-- Who opened an epoch.

abbrev OpenedBy : ℕ → ℕ → List CoreEvent → Type 0
OpenedBy a e es = has_opened e (calls_of a es) ≡ true

opened-now : (own : Bool) (a e : ℕ) (call : ClientCall) (k : ClientState) (o : Opening) (calls : List ClientCall)
    → OwnsWriter a e (client_after_call o own a call k) → (OwnsWriter a e k → has_opened e calls ≡ true)
    → has_opened e (if own then call ∷ calls else calls) ≡ true
opened-now true a e call k o calls owns before = elim (owns-or-opens a e call k.holds owns) [
  | inl old ↦ or-right (opens_writer e call) (has_opened e calls) (before old)
  | inr new ↦ or-left (opens_writer e call) (has_opened e calls) new
]
opened-now false a e call k o calls owns before = before owns

owner-opened : (o : Opening) (es : List CoreEvent) (a e : ℕ) → OwnsWriter a e (client_state o a es) → OpenedBy a e es
owner-opened o [] a e owns = absurd owns
owner-opened o (By b call ∷ es) a e owns =
    opened-now (b == a) a e call (client_state o a es) o (calls_of a es) owns (owner-opened o es a e)
owner-opened o (At mail move ∷ es) a e owns = owner-opened o es a e owns

-- An epoch is opened by the call, or it was opened before.
opened-cases : (own : Bool) (e : ℕ) (call : ClientCall) (calls : List ClientCall) → has_opened e (if own then call ∷ calls else calls) ≡ true
    → ((own ≡ true) × (opens_writer e call ≡ true)) ⊎ (has_opened e calls ≡ true)
opened-cases true e call calls is = elim (or-is (opens_writer e call) (has_opened e calls) is) [
  | inl new ↦ inl (refl, new)
  | inr old ↦ inr old
]
opened-cases false e call calls is = inr is

-- The epoch that a call opens is the next one.
pub opens-next : (o : Opening) (b e : ℕ) (call : ClientCall) (es : List CoreEvent) → IsCoreRun o (By b call ∷ es) → opens_writer e call ≡ true
    → (e ≡ (counters_of_run o es).ec) × (e < (counters_of_run o (By b call ∷ es)).ec)
opens-next o b e (OnDesk (OpenWrite statement epoch deps)) es run is =
    let same = eqb-true epoch e is in
    let next = run.1.says.0 in
    let step = ap (λ (s : JournalState). s.ec) (run-step o b (OnDesk (OpenWrite statement epoch deps)) es) in
    (sym same ∙ next, omega (arith, same, next, step))
opens-next o b e call es run is = absurd (false≢true is)

ec-entry : (takes : Bool) (ec : ℕ) → ec ≤ (if takes then ec + 1 else ec)
ec-entry true ec = omega arith
ec-entry false ec = omega arith

ec-rises : (s : JournalState) (x : Option JournalEntry) → s.ec ≤ (state_with_entry x s).ec
ec-rises s None = omega arith
ec-rises s (Some x) = ec-entry (takes_epoch x) s.ec

opened-below : (o : Opening) (es : List CoreEvent) (a e : ℕ) → IsCoreRun o es → OpenedBy a e es → e < (counters_of_run o es).ec
opened-below o [] a e run is = absurd (false≢true is)
opened-below o (By b call ∷ es) a e run is = elim (opened-cases (b == a) e call (calls_of a es) is) [
  | inl new ↦ (opens-next o b e call es run new.1).1
  | inr old ↦
      (let l = opened-below o es a e run.0 old in
      let rises = ec-rises (counters_of_run o es) (client_entry b call) in
      let step = ap (λ (s : JournalState). s.ec) (run-step o b call es) in
      omega (arith, l, rises, step))
]
opened-below o (At mail move ∷ es) a e run is = opened-below o es a e run.0 is

one-opener : (o : Opening) (es : List CoreEvent) (a b e : ℕ) → IsCoreRun o es → OpenedBy a e es → OpenedBy b e es → a ≡ b
one-opener o [] a b e run x y = absurd (false≢true x)
one-opener o (By c call ∷ es) a b e run x y = elim (opened-cases (c == a) e call (calls_of a es) x) [
  | inl newa ↦ elim (opened-cases (c == b) e call (calls_of b es) y) [
    | inl newb ↦ sym (eqb-true c a newa.0) ∙ eqb-true c b newb.0
    | inr oldb ↦ absurd (let l = opened-below o es b e run.0 oldb in let next = (opens-next o c e call es run newa.1).0 in omega (arith, l, next))
  ]
  | inr olda ↦ elim (opened-cases (c == b) e call (calls_of b es) y) [
    | inl newb ↦ absurd (let l = opened-below o es a e run.0 olda in let next = (opens-next o c e call es run newb.1).0 in omega (arith, l, next))
    | inr oldb ↦ one-opener o es a b e run.0 olda oldb
  ]
]
one-opener o (At mail move ∷ es) a b e run x y = one-opener o es a b e run.0 x y

-- What a client's own calls posted has a fate.

call-fates : (o : Opening) (es : List CoreEvent) (b cube brick : ℕ) (call : ClientCall) (xs : List BrickEntry) → IsCoreRun o es
    → FitsCall o b call (client_state o b es) → HaveFates o es xs → HaveFates o es (posted_after o cube brick call xs)
call-fates o es b cube brick (Post other job) xs run f fates =
    post-fates (other == brick % o.shards) o es (entries_of_job o cube brick job) xs (job-entry-fates o es b other cube brick job run f) fates
call-fates o es b cube brick (OnDesk call) xs run f fates = fates
call-fates o es b cube brick (OnNames call) xs run f fates = fates
call-fates o es b cube brick (Fetch mail answer) xs run f fates = fates
call-fates o es b cube brick (CloseMail mail) xs run f fates = fates
call-fates o es b cube brick NoChange xs run f fates = fates

own-call-fates : (own : Bool) (o : Opening) (es : List CoreEvent) (a b cube brick : ℕ) (call : ClientCall) (calls : List ClientCall)
    → IsCoreRun o es → FitsCall o b call (client_state o b es) → HaveFates o es (posted_by_calls o calls cube brick)
    → HaveFates o es (posted_by_calls o (if own then call ∷ calls else calls) cube brick)
own-call-fates true o es a b cube brick call calls run f fates =
    call-fates o es b cube brick call (posted_by_calls o calls cube brick) run f fates
own-call-fates false o es a b cube brick call calls run f fates = fates

own-fates : (o : Opening) (es : List CoreEvent) (a cube brick : ℕ) → IsCoreRun o es → HaveFates o es (posted_by_calls o (calls_of a es) cube brick)
own-fates o [] a cube brick run = tt
own-fates o (By b call ∷ es) a cube brick run =
    fates-call o b call es (posted_by_calls o (calls_of a (By b call ∷ es)) cube brick)
    (own-call-fates (b == a) o es a b cube brick call (calls_of a es) run.0 run.1.fits (own-fates o es a cube brick run.0))
own-fates o (At mail move ∷ es) a cube brick run = fates-move o mail move es (posted_by_calls o (calls_of a es) cube brick) (own-fates o es a cube brick run.0)

-- The same call adds the same entries.
post-alike : (here : Bool) (e : ℕ) (new xs ys : List BrickEntry) → entries_of_epoch e xs ≡ entries_of_epoch e ys
    → entries_of_epoch e (posted_after_post here new xs) ≡ entries_of_epoch e (posted_after_post here new ys)
post-alike true e new xs ys same =
    epoch-append e new xs ∙ ap (λ zs. entries_of_epoch e new ++ zs) same ∙ sym (epoch-append e new ys)
post-alike false e new xs ys same = same

call-alike : (o : Opening) (cube brick e : ℕ) (call : ClientCall) (xs ys : List BrickEntry) → entries_of_epoch e xs ≡ entries_of_epoch e ys
    → entries_of_epoch e (posted_after o cube brick call xs) ≡ entries_of_epoch e (posted_after o cube brick call ys)
call-alike o cube brick e (Post other job) xs ys same = post-alike (other == brick % o.shards) e (entries_of_job o cube brick job) xs ys same
call-alike o cube brick e (OnDesk call) xs ys same = same
call-alike o cube brick e (OnNames call) xs ys same = same
call-alike o cube brick e (Fetch mail answer) xs ys same = same
call-alike o cube brick e (CloseMail mail) xs ys same = same
call-alike o cube brick e NoChange xs ys same = same

-- A post of a client that did not open the epoch.
pub post-other : (o : Opening) (es : List CoreEvent) (a b e other : ℕ) (job : CoreJob) → IsCoreRun o es → FitsCall o b (Post other job) (client_state o b es)
    → OpenedBy a e es → (b ≡ a → ⊥) → IsOtherEpoch e job
post-other o es a b e other (Append c epoch rows) run f opened apart = λ same.
    apart (one-opener o es b a e run (owner-opened o es b e (coe 0 1 (i. OwnsWriter b (same i) (client_state o b es)) f.bears.writer)) opened)
post-other o es a b e other (DropBox c epoch box) run f opened apart = λ same.
    apart (one-opener o es b a e run (owner-opened o es b e (coe 0 1 (i. OwnsWriter b (same i) (client_state o b es)) f.bears.writer)) opened)
post-other o es a b e other (Scan query snapshot) run f opened apart = tt
post-other o es a b e other (Delta query from to) run f opened apart = tt
post-other o es a b e other (Rollback epoch) run f opened apart = tt
post-other o es a b e other (Purge epoch) run f opened apart = tt
post-other o es a b e other (CopyRound from to) run f opened apart = tt
post-other o es a b e other Flush run f opened apart = tt

call-other : (o : Opening) (es : List CoreEvent) (a b e cube brick : ℕ) (call : ClientCall) → IsCoreRun o es → FitsCall o b call (client_state o b es)
    → OpenedBy a e es → (b ≡ a → ⊥)
    → entries_of_epoch e (posted_after o cube brick call (posted_of o es cube brick)) ≡ entries_of_epoch e (posted_of o es cube brick)
call-other o es a b e cube brick (Post other job) run f opened apart =
    other-post (other == brick % o.shards) o cube brick e job (posted_of o es cube brick) (post-other o es a b e other job run f opened apart)
call-other o es a b e cube brick (OnDesk call) run f opened apart = refl
call-other o es a b e cube brick (OnNames call) run f opened apart = refl
call-other o es a b e cube brick (Fetch mail answer) run f opened apart = refl
call-other o es a b e cube brick (CloseMail mail) run f opened apart = refl
call-other o es a b e cube brick NoChange run f opened apart = refl

opener-posts-nothing : (o : Opening) (cube brick e : ℕ) (call : ClientCall) (xs : List BrickEntry) → opens_writer e call ≡ true
    → posted_after o cube brick call xs ≡ xs
opener-posts-nothing o cube brick e (OnDesk call) xs is = refl
opener-posts-nothing o cube brick e (OnNames call) xs is = refl
opener-posts-nothing o cube brick e (Post other job) xs is = absurd (false≢true is)
opener-posts-nothing o cube brick e (Fetch mail answer) xs is = refl
opener-posts-nothing o cube brick e (CloseMail mail) xs is = refl
opener-posts-nothing o cube brick e NoChange xs is = refl

step-own : (own : Bool) (o : Opening) (es : List CoreEvent) (a b e cube brick : ℕ) (call : ClientCall) → (b == a) ≡ own
    → IsCoreRun o (By b call ∷ es)
    → (OpenedBy a e es → entries_of_epoch e (posted_of o es cube brick) ≡ entries_of_epoch e (posted_by_calls o (calls_of a es) cube brick))
    → has_opened e (if own then call ∷ calls_of a es else calls_of a es) ≡ true
    → entries_of_epoch e (posted_after o cube brick call (posted_of o es cube brick))
    ≡ entries_of_epoch e (posted_by_calls o (if own then call ∷ calls_of a es else calls_of a es) cube brick)
step-own true o es a b e cube brick call is run before opened = elim (or-is (opens_writer e call) (has_opened e (calls_of a es)) opened) [
  | inl new ↦
      (let next = (opens-next o b e call es run new).0 in
      let high : (counters_of_run o es).ec ≤ e = omega (arith, next) in
      ap (entries_of_epoch e) (opener-posts-nothing o cube brick e call (posted_of o es cube brick) new)
      ∙ none-fresh o es e (posted_of o es cube brick) run.0 high (run-posted-fates o es cube brick run.0)
      ∙ sym (none-fresh o es e (posted_by_calls o (calls_of a es) cube brick) run.0 high (own-fates o es a cube brick run.0))
      ∙ ap (entries_of_epoch e) (sym (opener-posts-nothing o cube brick e call (posted_by_calls o (calls_of a es) cube brick) new)))
  | inr old ↦ call-alike o cube brick e call (posted_of o es cube brick) (posted_by_calls o (calls_of a es) cube brick) (before old)
]
step-own false o es a b e cube brick call is run before opened =
    call-other o es a b e cube brick call run.0 run.1.fits opened (eqb-false b a is) ∙ before opened

pub own-posts : (o : Opening) (es : List CoreEvent) (a e cube brick : ℕ) → IsCoreRun o es → has_opened e (calls_of a es) ≡ true
    → entries_of_epoch e (posted_of o es cube brick) ≡ entries_of_epoch e (posted_by_calls o (calls_of a es) cube brick)
own-posts o [] a e cube brick run opened = absurd (false≢true opened)
own-posts o (By b call ∷ es) a e cube brick run opened =
    step-own (b == a) o es a b e cube brick call refl run (own-posts o es a e cube brick run.0) opened
own-posts o (At mail move ∷ es) a e cube brick run opened = own-posts o es a e cube brick run.0 opened

pub one-opens : (o : Opening) (es : List CoreEvent) (a b e : ℕ) → IsCoreRun o es → has_opened e (calls_of a es) ≡ true
    → has_opened e (calls_of b es) ≡ true → a ≡ b
one-opens = one-opener
