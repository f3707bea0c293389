-- Which epochs a session opened, and which of them it committed.
use Rattle.std.proofs.Common.{◌≡◌, ◌⊎◌, ◌∙◌, ℕ, ◌<◌, ◌==◌, Bool, true, false, ◌||◌, List, [], ◌∷◌, Option, Some, None, IsSomeAnd, if◌then◌else◌, inl, inr, refl, sym, ap, arith, eqb-true, eq-eqb}
use Rattle.std.specs.List.{list_any}
use Rattle.std.proofs.lemmas.Bool.{false≢true, leb-true}
use Rattle.std.proofs.lemmas.List.Folds.{list_any-append}
use Rattle.cube_values.specs.declared.snapshot.Snapshot.{Snapshot}
use Rattle.cube_journal.specs.Counters.{JournalState, held_by}
use Rattle.cube_journal.specs.declared.journal_entry.JournalEntry.{JournalEntry}
use Rattle.cube_journal.specs.declared.note.Note.TheVariants as note
use Rattle.cube_run.specs.RunTransactions.{is_commit_of}
use Rattle.aosi_desk.specs.declared.answer.RoundAnswer.TheVariants.{Target, Nothing}
use Rattle.aosi_desk.specs.declared.answer.RoundEnd.TheVariants.{Safe, Lost}
use Rattle.aosi_desk.specs.declared.cube.CubeAnswer.TheVariants.{Created, Exists, TooMany}
use Rattle.aosi_desk.specs.declared.cube.CubeFound.TheVariants.{Found, Unknown}
use Rattle.core_events.specs.Cells.{counters_of_run}
use Rattle.core_events.specs.Clients.{ClientState, Holding, calls_of, client_after_call, client_state, held_under, holds_after, reader_up_to, writer_at}
use Rattle.core_events.specs.Events.{Opening, IsSession, OpenWrite, OpenRead, Commit, AbortEnd, CloseRead, TakeNote, CreateCube, FindCube, CubesFrom, CountersNow, RoundOpen, RoundClose, StoreFailed, ClientCall, OnDesk, OnNames, Post, Fetch, CloseMail, NoChange, CoreEvent, By, At}
use Rattle.core_events.specs.Fitting.{OwnsWriter}
use Rattle.core_events.specs.Runs.{IsCoreRun}
use Rattle.core_events.specs.Serial.{commits, has_committed}
use Rattle.core_events.proofs.Agreement.{agree}
use Rattle.core_events.proofs.DeskSteps.{client_entry, run-step}
use Rattle.core_events.proofs.Finished.{or-is}
use Rattle.core_events.proofs.Lookups.{held-under-append, held-under-without, with_one, without_one}
use Rattle.core_serial.proofs.Entries.{journal_with}
use Rattle.core_serial.specs.PostedEntries.{has_opened, opens_writer}
use Rattle.core_serial.proofs.OwnPosts.{opens-next}
use Rattle.core_settled.proofs.Settled.{ec-rises}
use Rattle.core_records.specs.OwnEntries.{desk_by_calls, entries_by_calls}
use Rattle.core_records.proofs.SessionParts.{desk-journal}

or-true : (b : Bool) → (b || true) ≡ true
or-true true = refl
or-true false = refl

-- ---- an epoch is opened by the newest call or was before

pub opened-cases : (own : Bool) (e : ℕ) (call : ClientCall) (calls : List ClientCall)
    → has_opened e (if own then call ∷ calls else calls) ≡ true
    → ((own ≡ true) × (opens_writer e call ≡ true)) ⊎ (has_opened e calls ≡ true)
opened-cases true e call calls is = elim (or-is (opens_writer e call) (has_opened e calls) is) [
  | inl new ↦ inl (refl, new)
  | inr old ↦ inr old
]
opened-cases false e call calls is = inr is

ec-above : (o : Opening) (es : List CoreEvent) → IsCoreRun o es → o.safe < (counters_of_run o es).ec
ec-above o [] run = omega arith
ec-above o (By b call ∷ es) run =
    let before = ec-above o es run.0 in
    let rises = ec-rises (counters_of_run o es) (client_entry b call) in
    let step = ap (λ (s : JournalState). s.ec) (run-step o b call es) in
    omega (arith, before, rises, step)
ec-above o (At mail move ∷ es) run = ec-above o es run.0

-- It is above the kept ones, and below the next one.
pub record IsTaken (o : Opening) (es : List CoreEvent) (e : ℕ) : Type 0 where
  pub above : o.safe < e
  pub below : e < (counters_of_run o es).ec

pub opened-taken : (o : Opening) (es : List CoreEvent) (a e : ℕ) → IsCoreRun o es → has_opened e (calls_of a es) ≡ true
    → IsTaken o es e
opened-taken o [] a e run is = absurd (false≢true is)
opened-taken o (By b call ∷ es) a e run is = elim (opened-cases (b == a) e call (calls_of a es) is) [
  | inl new ↦ (
      let next = opens-next o b e call es run new.1 in
      let is_next = next.0 in
      let below = next.1 in
      let above = ec-above o es run.0 in
      record { above = omega (arith, is_next, above); below = below })
  | inr old ↦ (
      let before = opened-taken o es a e run.0 old in
      let below = before.below in
      let rises = ec-rises (counters_of_run o es) (client_entry b call) in
      let step = ap (λ (s : JournalState). s.ec) (run-step o b call es) in
      record { above = before.above; below = omega (arith, below, rises, step) })
]
opened-taken o (At mail move ∷ es) a e run is =
    let before = opened-taken o es a e run.0 is in record { above = before.above; below = before.below }

pub one-opener : (o : Opening) (es : List CoreEvent) (a b e : ℕ) → IsCoreRun o es → has_opened e (calls_of a es) ≡ true
    → has_opened e (calls_of b es) ≡ true → a ≡ b
one-opener o [] a b e run x y = absurd (false≢true x)
one-opener o (By c call ∷ es) a b e run x y = elim (opened-cases (c == a) e call (calls_of a es) x) [
  | inl newa ↦ elim (opened-cases (c == b) e call (calls_of b es) y) [
    | inl newb ↦ sym (eqb-true c a newa.0) ∙ eqb-true c b newb.0
    | inr oldb ↦ absurd (
        let l = (opened-taken o es b e run.0 oldb).below in
        let next = (opens-next o c e call es run newa.1).0 in
        omega (arith, l, next))
  ]
  | inr olda ↦ elim (opened-cases (c == b) e call (calls_of b es) y) [
    | inl newb ↦ absurd (
        let l = (opened-taken o es a e run.0 olda).below in
        let next = (opens-next o c e call es run newb.1).0 in
        omega (arith, l, next))
    | inr oldb ↦ one-opener o es a b e run.0 olda oldb
  ]
]
one-opener o (At mail move ∷ es) a b e run x y = one-opener o es a b e run.0 x y

-- ---- who holds a writer has opened it

abbrev IsWriterAt : ℕ → Option Snapshot → Type 0
IsWriterAt e h = IsSomeAnd h (λ x. (x.own ≡ true) × (x.epoch ≡ e))

opens-cases : (here : Bool) (h : Option Snapshot) (v : Snapshot) (e : ℕ) → IsWriterAt e (with_one h here v)
    → IsWriterAt e h ⊎ ((v.own ≡ true) × (v.epoch ≡ e))
opens-cases here (Some x) v e owns = inl owns
opens-cases true None v e owns = inr owns
opens-cases false None v e owns = absurd owns

ends-cases : (here : Bool) (h : Option Snapshot) (e : ℕ) → IsWriterAt e (without_one here h) → IsWriterAt e h
ends-cases true h e owns = absurd owns
ends-cases false h e owns = owns

owns-or-opens : (a e : ℕ) (call : ClientCall) (holds : List Holding)
    → IsWriterAt e (held_under a (holds_after a call holds))
    → IsWriterAt e (held_under a holds) ⊎ (opens_writer e call ≡ true)
owns-or-opens a e (OnDesk (OpenWrite statement epoch deps)) holds owns =
    elim (opens-cases (a == a) (held_under a holds) (writer_at epoch deps) e
    (coe 0 1 (i. IsWriterAt e
    (held-under-append holds (record { number = a; snapshot = writer_at epoch deps }) a i)) owns)) [
      | inl old ↦ inl old
      | inr new ↦ inr (eq-eqb epoch e new.1)
    ]
owns-or-opens a e (OnDesk (OpenRead number statement epoch)) holds owns =
    elim (opens-cases (number == a) (held_under a holds) (reader_up_to epoch) e
    (coe 0 1 (i. IsWriterAt e
    (held-under-append holds (record { number = number; snapshot = reader_up_to epoch }) a i)) owns)) [
      | inl old ↦ inl old
      | inr new ↦ absurd (false≢true new.0)
    ]
owns-or-opens a e (OnDesk (Commit statement epoch)) holds owns =
    inl (ends-cases (a == a) (held_under a holds) e (coe 0 1 (i. IsWriterAt e (held-under-without holds a a i)) owns))
owns-or-opens a e (OnDesk (AbortEnd statement epoch cause)) holds owns =
    inl (ends-cases (a == a) (held_under a holds) e (coe 0 1 (i. IsWriterAt e (held-under-without holds a a i)) owns))
owns-or-opens a e (OnDesk (CloseRead number statement)) holds owns =
    inl (ends-cases (number == a) (held_under a holds) e
    (coe 0 1 (i. IsWriterAt e (held-under-without holds number a i)) owns))
owns-or-opens a e (OnDesk (TakeNote note counters)) holds owns = inl owns
owns-or-opens a e (OnDesk (CreateCube statement decl answer)) holds owns = inl owns
owns-or-opens a e (OnDesk (FindCube statement name answer)) holds owns = inl owns
owns-or-opens a e (OnDesk (CubesFrom place cubes)) holds owns = inl owns
owns-or-opens a e (OnDesk (CountersNow counters)) holds owns = inl owns
owns-or-opens a e (OnDesk (RoundOpen answer)) holds owns = inl owns
owns-or-opens a e (OnDesk (RoundClose epoch end)) holds owns = inl owns
owns-or-opens a e (OnDesk (StoreFailed failed)) holds owns = inl owns
owns-or-opens a e (OnNames call) holds owns = inl owns
owns-or-opens a e (Post mail job) holds owns = inl owns
owns-or-opens a e (Fetch mail answer) holds owns = inl owns
owns-or-opens a e (CloseMail mail) holds owns = inl owns
owns-or-opens a e NoChange holds owns = inl owns

opened-now : (own : Bool) (a e : ℕ) (call : ClientCall) (k : ClientState) (o : Opening) (calls : List ClientCall)
    → OwnsWriter a e (client_after_call o own a call k) → (OwnsWriter a e k → has_opened e calls ≡ true)
    → has_opened e (if own then call ∷ calls else calls) ≡ true
opened-now true a e call k o calls owns before = elim (owns-or-opens a e call k.holds owns) [
  | inl old ↦ ap (λ (b : Bool). opens_writer e call || b) (before old) ∙ or-true (opens_writer e call)
  | inr new ↦ ap (λ (b : Bool). b || has_opened e calls) new
]
opened-now false a e call k o calls owns before = before owns

pub owner-opened : (o : Opening) (es : List CoreEvent) (a e : ℕ) → OwnsWriter a e (client_state o a es)
    → has_opened e (calls_of a es) ≡ true
owner-opened o [] a e owns = absurd owns
owner-opened o (By b call ∷ es) a e owns =
    opened-now (b == a) a e call (client_state o a es) o (calls_of a es) owns (owner-opened o es a e)
owner-opened o (At mail move ∷ es) a e owns = owner-opened o es a e owns

-- A session that holds a writer at the desk.
pub held-opened : (o : Opening) (es : List CoreEvent) (a : ℕ) (s : Snapshot) → IsCoreRun o es → IsSession o a
    → held_by (counters_of_run o es).snapshots a ≡ Some s → s.own ≡ true → has_opened s.epoch (calls_of a es) ≡ true
held-opened o es a s run session held own =
    owner-opened o es a s.epoch
    (coe 1 0 (i. IsWriterAt s.epoch ((sym (agree o es run a session a (inl refl)) ∙ held) i)) (own, refl))

-- ---- commits among a session's own entries

abbrev own_commits : ℕ → List ClientCall → Bool
own_commits e [] = false
own_commits e (call ∷ calls) = own_commits e calls || commits call e

abbrev commit_in : ℕ → Option JournalEntry → Bool
commit_in e None = false
commit_in e (Some x) = is_commit_of e x

entry-commits : (a e : ℕ) (call : ClientCall) → commit_in e (client_entry a call) ≡ commits call e
entry-commits a e (OnDesk (OpenWrite statement epoch deps)) = refl
entry-commits a e (OnDesk (OpenRead number statement epoch)) = refl
entry-commits a e (OnDesk (Commit statement epoch)) = refl
entry-commits a e (OnDesk (AbortEnd statement epoch cause)) = refl
entry-commits a e (OnDesk (CloseRead number statement)) = refl
entry-commits a e (OnDesk (TakeNote (note.Refused session statement code) counters)) = refl
entry-commits a e (OnDesk (TakeNote (note.Cleared session statement) counters)) = refl
entry-commits a e (OnDesk (TakeNote (note.Show session statement) counters)) = refl
entry-commits a e (OnDesk (TakeNote (note.Flushed session statement) counters)) = refl
entry-commits a e (OnDesk (TakeNote (note.Purged session statement epoch) counters)) = refl
entry-commits a e (OnDesk (CreateCube statement decl (Created epoch place))) = refl
entry-commits a e (OnDesk (CreateCube statement decl Exists)) = refl
entry-commits a e (OnDesk (CreateCube statement decl TooMany)) = refl
entry-commits a e (OnDesk (FindCube statement name (Found place decl))) = refl
entry-commits a e (OnDesk (FindCube statement name Unknown)) = refl
entry-commits a e (OnDesk (CubesFrom place cubes)) = refl
entry-commits a e (OnDesk (CountersNow counters)) = refl
entry-commits a e (OnDesk (RoundOpen (Target from epoch))) = refl
entry-commits a e (OnDesk (RoundOpen (Nothing epoch))) = refl
entry-commits a e (OnDesk (RoundClose epoch Safe)) = refl
entry-commits a e (OnDesk (RoundClose epoch (Lost cause))) = refl
entry-commits a e (OnDesk (StoreFailed failed)) = refl
entry-commits a e (OnNames call) = refl
entry-commits a e (Post mail job) = refl
entry-commits a e (Fetch mail answer) = refl
entry-commits a e (CloseMail mail) = refl
entry-commits a e NoChange = refl

or-false : (b : Bool) → b ≡ (b || false)
or-false true = refl
or-false false = refl

any-with : (e : ℕ) (x : Option JournalEntry) (journal : List JournalEntry)
    → list_any (is_commit_of e) (journal_with x journal) ≡ (list_any (is_commit_of e) journal || commit_in e x)
any-with e None journal = or-false (list_any (is_commit_of e) journal)
any-with e (Some x) journal =
    list_any-append (is_commit_of e) journal (x ∷ [])
    ∙ ap (λ (b : Bool). list_any (is_commit_of e) journal || b) (sym (or-false (is_commit_of e x)))

entries-commit : (o : Opening) (a e : ℕ) (calls : List ClientCall)
    → list_any (is_commit_of e) (entries_by_calls o a calls) ≡ own_commits e calls
entries-commit o a e [] = refl
entries-commit o a e (call ∷ calls) =
    ap (list_any (is_commit_of e)) (desk-journal a call (desk_by_calls o a calls))
    ∙ any-with e (client_entry a call) (entries_by_calls o a calls)
    ∙ (λ i. entries-commit o a e calls i || entry-commits a e call i)

-- What a session commits is committed, and it has opened it.
abbrev pub HasCommitted : Opening → ℕ → ℕ → List CoreEvent → Type 0
HasCommitted o a e es = list_any (is_commit_of e) (entries_by_calls o a (calls_of a es)) ≡ true

own-committed : (o : Opening) (es : List CoreEvent) (a e : ℕ) → own_commits e (calls_of a es) ≡ true
    → has_committed o es e ≡ true
own-committed o [] a e is = absurd (false≢true is)
own-committed o (By b call ∷ es) a e is = at (b == a) is (own-committed o es a e)
  where
    at : (own : Bool) → own_commits e (if own then call ∷ calls_of a es else calls_of a es) ≡ true
        → (own_commits e (calls_of a es) ≡ true → has_committed o es e ≡ true)
        → (commits call e || has_committed o es e) ≡ true
    at true is before = elim (or-is (own_commits e (calls_of a es)) (commits call e) is) [
      | inl old ↦ ap (λ (c : Bool). commits call e || c) (before old) ∙ or-true (commits call e)
      | inr new ↦ ap (λ (c : Bool). c || has_committed o es e) new
    ]
    at false is before = ap (λ (c : Bool). commits call e || c) (before is) ∙ or-true (commits call e)
own-committed o (At mail move ∷ es) a e is = own-committed o es a e is

pub committed-is : (o : Opening) (es : List CoreEvent) (a e : ℕ) → HasCommitted o a e es
    → has_committed o es e ≡ true
committed-is o es a e is = own-committed o es a e (sym (entries-commit o a e (calls_of a es)) ∙ is)

-- Who commits an epoch that is not kept.
pub record IsCommittedBy (o : Opening) (es : List CoreEvent) (e : ℕ) : Type 0 where
  pub session : ℕ
  pub is_session : IsSession o session
  pub opened : has_opened e (calls_of session es) ≡ true
  pub committed : HasCommitted o session e es

record CommitsNow (o : Opening) (b e : ℕ) (call : ClientCall) (es : List CoreEvent) : Type 0 where
  session : IsSession o b
  opened : has_opened e (calls_of b es) ≡ true

commits-now : (o : Opening) (b e : ℕ) (call : ClientCall) (es : List CoreEvent) → IsCoreRun o (By b call ∷ es)
    → commits call e ≡ true → CommitsNow o b e call es
commits-now o b e (OnDesk (Commit statement epoch)) es run is =
    let f = run.1.fits in
    record {
      session = f.session;
      opened =
          owner-opened o es b e
          (coe 0 1 (i. OwnsWriter b (eqb-true epoch e is i) (client_state o b es)) f.writer);
    }
commits-now o b e call es run is = absurd (false≢true is)

-- With more calls it has still.
still-opened : (e : ℕ) (own : Bool) (call : ClientCall) (calls : List ClientCall) → has_opened e calls ≡ true
    → has_opened e (if own then call ∷ calls else calls) ≡ true
still-opened e true call calls is = ap (λ (b : Bool). opens_writer e call || b) is ∙ or-true (opens_writer e call)
still-opened e false call calls is = is

still-committed : (e : ℕ) (own : Bool) (call : ClientCall) (calls : List ClientCall) → own_commits e calls ≡ true
    → own_commits e (if own then call ∷ calls else calls) ≡ true
still-committed e true call calls is = ap (λ (b : Bool). b || commits call e) is
still-committed e false call calls is = is

now-committed : (e b : ℕ) (call : ClientCall) (calls : List ClientCall) → commits call e ≡ true
    → own_commits e (if b == b then call ∷ calls else calls) ≡ true
now-committed e b call calls is =
    ap (λ (own : Bool). own_commits e (if own then call ∷ calls else calls)) (eq-eqb b b refl)
    ∙ ap (λ (c : Bool). own_commits e calls || c) is
    ∙ or-true (own_commits e calls)

pub committed-by : (o : Opening) (es : List CoreEvent) (e : ℕ) → IsCoreRun o es → has_committed o es e ≡ true
    → o.safe < e → IsCommittedBy o es e
committed-by o [] e run is above = absurd (let low = leb-true e o.safe is in omega (arith, low, above))
committed-by o (By b call ∷ es) e run is above = elim (or-is (commits call e) (has_committed o es e) is) [
  | inl new ↦ (
      let now = commits-now o b e call es run new in
      record {
        session = b;
        is_session = now.session;
        opened = still-opened e (b == b) call (calls_of b es) now.opened;
        committed =
            entries-commit o b e (calls_of b (By b call ∷ es)) ∙ now-committed e b call (calls_of b es) new;
      })
  | inr old ↦ (
      let before = committed-by o es e run.0 old above in
      let a = before.session in
      record {
        session = a;
        is_session = before.is_session;
        opened = still-opened e (b == a) call (calls_of a es) before.opened;
        committed =
            entries-commit o a e (calls_of a (By b call ∷ es))
            ∙ still-committed e (b == a) call (calls_of a es)
            (sym (entries-commit o a e (calls_of a es)) ∙ before.committed);
      })
]
committed-by o (At mail move ∷ es) e run is above =
    let before = committed-by o es e run.0 is above in
    record {
      session = before.session;
      is_session = before.is_session;
      opened = before.opened;
      committed = before.committed;
    }
