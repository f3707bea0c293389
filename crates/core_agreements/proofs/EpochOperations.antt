-- The transactions of the record, epoch by epoch: the kept rows, and what each session committed.
use Rattle.std.proofs.Common.{◌≡◌, ◌≢◌, ◌⊎◌, ◌∙◌, ℕ, zero, suc, ◌+◌, ◌-◌, ◌<◌, ◌≤◌, ◌==◌, Bool, true, false, true≢false, cond, ◌||◌, List, [], ◌∷◌, ◌++◌, length, slice_get, unwrap_or, append-nil, Option, Some, None, if◌then◌else◌, inl, inr, refl, sym, ap, arith, eq-eqb, ne_eqb}
use Rattle.std.specs.List.{cons_option, enumerate_from, filter_map, flat_map, list_any}
use Rattle.std.proofs.lemmas.Bool.{cases_Bool, false≢true, false_from_ne_true}
use Rattle.std.proofs.lemmas.Bool.Decides.{eqb_tells, leb_tells}
use Rattle.std.proofs.lemmas.List.Elements.{filter-append, filter_map-append}
use Rattle.std.proofs.lemmas.Option.{none-some, same_Some, slice_get_within}
use Rattle.cube_values.specs.declared.operation.Transaction.{Transaction}
use Rattle.cube_journal.specs.declared.journal_entry.JournalEntry.{JournalEntry}
use Rattle.cube_journal.specs.declared.note.Note.TheVariants as note
use Rattle.cube_run.specs.RunRecords.{RunRecord, Sentence, script_of}
use Rattle.cube_run.specs.RunTransactions.{DoneOperation, committed_transaction, is_commit_of, kept_transaction, operations_at, run_transactions, session_operations, session_transactions}
use Rattle.aosi_desk.specs.declared.answer.RoundAnswer.TheVariants.{Target, Nothing}
use Rattle.aosi_desk.specs.declared.answer.RoundEnd.TheVariants.{Safe, Lost}
use Rattle.aosi_desk.specs.declared.cube.CubeAnswer.TheVariants.{Created, Exists, TooMany}
use Rattle.aosi_desk.specs.declared.cube.CubeFound.TheVariants.{Found, Unknown}
use Rattle.core_events.specs.Clients.{calls_of}
use Rattle.core_events.specs.Events.{Opening, IsSession, OpenWrite, OpenRead, Commit, AbortEnd, CloseRead, TakeNote, CreateCube, FindCube, CubesFrom, CountersNow, RoundOpen, RoundClose, StoreFailed, ClientCall, OnDesk, OnNames, Post, Fetch, CloseMail, NoChange, CoreEvent, By, At}
use Rattle.core_events.specs.Runs.{IsCoreRun}
use Rattle.core_events.specs.Serial.{has_committed}
use Rattle.core_events.proofs.DeskSteps.{client_entry}
use Rattle.core_serial.proofs.Entries.{journal_with}
use Rattle.core_serial.specs.PostedEntries.{has_opened, opens_writer}
use Rattle.core_serial.proofs.OwnPosts.{opens-next}
use Rattle.serial_transactions.specs.SerialTransactions.{transactions_of_epoch}
use Rattle.serial_transactions.proofs.ByEpochs.{filter-made}
use Rattle.core_records.specs.CoreRecords.{RunScripts, record_of}
use Rattle.core_records.specs.OwnEntries.{desk_by_calls, entries_by_calls}
use Rattle.core_records.proofs.SessionParts.{desk-journal, own-part}
use Rattle.core_agreements.proofs.OpenedEpochs.{IsCommittedBy, committed-by, committed-is, one-opener, opened-taken}

-- ---- what a session committed of an epoch

-- The one transaction of an epoch that is committed.
abbrev transaction_at : ℕ → List DoneOperation → Transaction
transaction_at e done = record { epoch = e; operations = operations_at e done }

abbrev pub transaction_if : Bool → ℕ → List DoneOperation → List Transaction
transaction_if true e done = transaction_at e done ∷ []
transaction_if false e done = []

module _ (part : List JournalEntry) (done : List DoneOperation) (e : ℕ) where
  -- Those of the epoch that entries begin.
  abbrev begun_by : List JournalEntry → List Transaction
  begun_by entries = transactions_of_epoch (filter_map (committed_transaction part done) entries) e

  abbrev committed_here : List Transaction
  committed_here = transaction_if (list_any (is_commit_of e) part) e done

  chosen : (c : Bool) (epoch : ℕ) → list_any (is_commit_of epoch) part ≡ c
      → transactions_of_epoch (cons_option (if c then Some (transaction_at epoch done) else None) []) e
      ≡ (if epoch == e then committed_here else [])
  chosen true epoch is = elim (eqb_tells epoch e) [
    | inl same ↦
        (λ i. cond (same.0 i) (transaction_at (same.1 i) done ∷ []) [])
        ∙ sym (ap (λ (b : Bool). transaction_if b e done)
        (ap (λ (k : ℕ). list_any (is_commit_of k) part) (sym same.1) ∙ is))
        ∙ sym (ap (λ (b : Bool). if b then committed_here else []) same.0)
    | inr other ↦
        (λ i. cond (other.0 i) (transaction_at epoch done ∷ []) [])
        ∙ sym (ap (λ (b : Bool). if b then committed_here else []) other.0)
  ]
  chosen false epoch is = elim (eqb_tells epoch e) [
    | inl same ↦
        sym (ap (λ (b : Bool). transaction_if b e done)
        (ap (λ (k : ℕ). list_any (is_commit_of k) part) (sym same.1) ∙ is))
        ∙ sym (ap (λ (b : Bool). if b then committed_here else []) same.0)
    | inr other ↦ sym (ap (λ (b : Bool). if b then committed_here else []) other.0)
  ]

  -- A call begins the one of the epoch where it opens its writer.
  call-begins : (a : ℕ) (call : ClientCall)
      → begun_by (journal_with (client_entry a call) []) ≡ (if opens_writer e call then committed_here else [])
  call-begins a (OnDesk (OpenWrite statement epoch deps)) = chosen (list_any (is_commit_of epoch) part) epoch refl
  call-begins a (OnDesk (OpenRead number statement epoch)) = refl
  call-begins a (OnDesk (Commit statement epoch)) = refl
  call-begins a (OnDesk (AbortEnd statement epoch cause)) = refl
  call-begins a (OnDesk (CloseRead number statement)) = refl
  call-begins a (OnDesk (TakeNote (note.Refused session statement code) counters)) = refl
  call-begins a (OnDesk (TakeNote (note.Cleared session statement) counters)) = refl
  call-begins a (OnDesk (TakeNote (note.Show session statement) counters)) = refl
  call-begins a (OnDesk (TakeNote (note.Flushed session statement) counters)) = refl
  call-begins a (OnDesk (TakeNote (note.Purged session statement epoch) counters)) = refl
  call-begins a (OnDesk (CreateCube statement decl (Created epoch place))) = refl
  call-begins a (OnDesk (CreateCube statement decl Exists)) = refl
  call-begins a (OnDesk (CreateCube statement decl TooMany)) = refl
  call-begins a (OnDesk (FindCube statement name (Found place decl))) = refl
  call-begins a (OnDesk (FindCube statement name Unknown)) = refl
  call-begins a (OnDesk (CubesFrom place cubes)) = refl
  call-begins a (OnDesk (CountersNow counters)) = refl
  call-begins a (OnDesk (RoundOpen (Target from epoch))) = refl
  call-begins a (OnDesk (RoundOpen (Nothing epoch))) = refl
  call-begins a (OnDesk (RoundClose epoch Safe)) = refl
  call-begins a (OnDesk (RoundClose epoch (Lost cause))) = refl
  call-begins a (OnDesk (StoreFailed failed)) = refl
  call-begins a (OnNames call) = refl
  call-begins a (Post mail job) = refl
  call-begins a (Fetch mail answer) = refl
  call-begins a (CloseMail mail) = refl
  call-begins a NoChange = refl

  begun-more : (x : Option JournalEntry) (journal : List JournalEntry)
      → begun_by (journal_with x journal) ≡ begun_by journal ++ begun_by (journal_with x [])
  begun-more None journal = sym (append-nil (begun_by journal))
  begun-more (Some x) journal =
      ap (λ (ts : List Transaction). transactions_of_epoch ts e)
      (filter_map-append (committed_transaction part done) journal (x ∷ []))
      ∙ filter-append (λ (t : Transaction). t.epoch == e) (filter_map (committed_transaction part done) journal)
      (filter_map (committed_transaction part done) (x ∷ []))

  either-opened : (new old : Bool) → (new ≡ true → old ≡ false)
      → (if old then committed_here else []) ++ (if new then committed_here else [])
      ≡ (if new || old then committed_here else [])
  either-opened true true apart = absurd (true≢false (apart refl))
  either-opened true false apart = refl
  either-opened false true apart = append-nil committed_here
  either-opened false false apart = refl

  pub begun-opened : (o : Opening) (es : List CoreEvent) (a : ℕ) → IsCoreRun o es
      → begun_by (entries_by_calls o a (calls_of a es))
      ≡ (if has_opened e (calls_of a es) then committed_here else [])
  begun-opened o [] a run = refl
  begun-opened o (By b call ∷ es) a run = at (b == a) refl (begun-opened o es a run.0)
    where
      -- An epoch is opened but once.
      once : (b == a) ≡ true → opens_writer e call ≡ true → has_opened e (calls_of a es) ≡ false
      once own new = false_from_ne_true (has_opened e (calls_of a es)) (λ old.
          let below = (opened-taken o es a e run.0 old).below in
          let next = (opens-next o b e call es run new).0 in
          omega (arith, below, next))

      at : (own : Bool) → (b == a) ≡ own
          → begun_by (entries_by_calls o a (calls_of a es))
          ≡ (if has_opened e (calls_of a es) then committed_here else [])
          → begun_by (entries_by_calls o a (if own then call ∷ calls_of a es else calls_of a es))
          ≡ (if has_opened e (if own then call ∷ calls_of a es else calls_of a es) then committed_here else [])
      at true own before =
          ap begun_by (desk-journal a call (desk_by_calls o a (calls_of a es)))
          ∙ begun-more (client_entry a call) (entries_by_calls o a (calls_of a es))
          ∙ (λ i. before i ++ call-begins a call i)
          ∙ either-opened (opens_writer e call) (has_opened e (calls_of a es)) (once own)
      at false own before = before
  begun-opened o (At mail move ∷ es) a run = begun-opened o es a run.0

-- ---- over all sessions

pub none-of : {X Y : Type 0} (f : ℕ × X → List Y) (n : ℕ) (xs : List X)
    → ((k : ℕ) (x : X) → slice_get xs k ≡ Some x → f (n + k, x) ≡ []) → flat_map f (enumerate_from n xs) ≡ []
none-of f n [] none = refl
none-of {X} {Y} f n (x ∷ xs) none =
    let here : n + 0 ≡ n = omega arith in
    (λ i. (ap (λ (k : ℕ). f (k, x)) (sym here) ∙ none 0 x refl) i
    ++ none-of f (n + 1) xs (λ k y is.
    let there : n + 1 + k ≡ n + suc k = omega arith in
    ap (λ (m : ℕ). f (m, y)) there ∙ none (suc k) y is) i)

pub one-of : {X Y : Type 0} (f : ℕ × X → List Y) (n : ℕ) (xs : List X) (at : ℕ) (one : X) → slice_get xs at ≡ Some one
    → ((k : ℕ) (x : X) → slice_get xs k ≡ Some x → k ≢ at → f (n + k, x) ≡ [])
    → flat_map f (enumerate_from n xs) ≡ f (n + at, one)
one-of f n [] at one is others = absurd (none-some one is)
one-of {X} {Y} f n (x ∷ xs) zero one is others =
    let here : n ≡ n + 0 = omega arith in
    (λ i. f (here i, same_Some x one is i)
    ++ none-of f (n + 1) xs (λ k y stands.
    let there : n + 1 + k ≡ n + suc k = omega arith in
    ap (λ (m : ℕ). f (m, y)) there ∙ others (suc k) y stands (λ same. omega (arith, same))) i)
    ∙ append-nil (f (n + 0, one))
one-of {X} {Y} f n (x ∷ xs) (suc at) one is others =
    let here : n + 0 ≡ n = omega arith in
    let there : n + 1 + at ≡ n + suc at = omega arith in
    (λ i. (ap (λ (k : ℕ). f (k, x)) (sym here) ∙ others 0 x refl (λ same. omega (arith, same))) i
    ++ one-of f (n + 1) xs at one is (λ k y stands apart.
    let further : n + 1 + k ≡ n + suc k = omega arith in
    ap (λ (m : ℕ). f (m, y)) further ∙ others (suc k) y stands (λ same. apart (omega (arith, same)))) i)
    ∙ ap (λ (m : ℕ). f (m, one)) there

module _ (o : Opening) (given : RunScripts) (es : List CoreEvent) (run : IsCoreRun o es)
    (each : length given.scripts ≡ o.sessions) (e : ℕ) where
  abbrev record_here : RunRecord
  record_here = record_of o given es

  -- What the session at a place of the scripts committed of the epoch.
  abbrev committed_of : ℕ × List Sentence → List Transaction
  committed_of p = transactions_of_epoch (session_transactions record_here p.0 p.1) e

  session-at : (k : ℕ) (script : List Sentence) → slice_get given.scripts k ≡ Some script → IsSession o (1 + k)
  session-at k script is =
      let within = slice_get_within given.scripts k script is in
      record { first = omega arith; last = omega (arith, within, each) }

  script-at : (k : ℕ) (script : List Sentence) → slice_get given.scripts k ≡ Some script
      → script_of record_here (1 + k) ≡ script
  script-at k script is =
      let place : 1 + k - 1 ≡ k = omega arith in
      ap (λ (n : ℕ). unwrap_or (slice_get given.scripts n) []) place
      ∙ ap (λ (s : Option (List Sentence)). unwrap_or s []) is

  session-begun : (a : ℕ) (script : List Sentence) → IsSession o a
      → committed_of (a, script)
      ≡ (if has_opened e (calls_of a es)
      then transaction_if (list_any (is_commit_of e) (entries_by_calls o a (calls_of a es))) e
      (session_operations record_here a script)
      else [])
  session-begun a script session =
      ap (λ (part : List JournalEntry). transactions_of_epoch
      (filter_map (committed_transaction part (session_operations record_here a script)) part) e)
      (own-part o es a run session)
      ∙ begun-opened (entries_by_calls o a (calls_of a es)) (session_operations record_here a script) e o es a run

  nothing-opened : (a : ℕ) (script : List Sentence) → IsSession o a → has_opened e (calls_of a es) ≡ false
      → committed_of (a, script) ≡ []
  nothing-opened a script session not =
      session-begun a script session
      ∙ ap (λ (b : Bool). if b
      then transaction_if (list_any (is_commit_of e) (entries_by_calls o a (calls_of a es))) e
      (session_operations record_here a script)
      else []) not

  nothing-committed : (a : ℕ) (script : List Sentence) → IsSession o a
      → list_any (is_commit_of e) (entries_by_calls o a (calls_of a es)) ≡ false → committed_of (a, script) ≡ []
  nothing-committed a script session not =
      session-begun a script session
      ∙ ap (λ (b : Bool). if has_opened e (calls_of a es)
      then transaction_if b e (session_operations record_here a script) else []) not
      ∙ either (has_opened e (calls_of a es))
    where
      none : List Transaction
      none = []

      either : (b : Bool) → (if b then none else none) ≡ none
      either true = refl
      either false = refl

  -- The transactions of the epoch.
  pub data EpochCase : Type 0 where
    kept_rows : e ≡ o.safe
        → transactions_of_epoch (run_transactions record_here) e ≡ kept_transaction record_here ∷ [] → EpochCase
    committed_one : (by : IsCommittedBy o es e) → o.safe < e → has_committed o es e ≡ true
        → transactions_of_epoch (run_transactions record_here) e
        ≡ transaction_at e (session_operations record_here by.session (script_of record_here by.session)) ∷ []
        → EpochCase
    no_transaction : (has_committed o es e ≡ true → e < o.safe)
        → transactions_of_epoch (run_transactions record_here) e ≡ [] → EpochCase

  sessions-part : transactions_of_epoch
      (flat_map (λ p. session_transactions record_here p.0 p.1) (enumerate_from 1 given.scripts)) e
      ≡ flat_map committed_of (enumerate_from 1 given.scripts)
  sessions-part =
      filter-made (λ (t : Transaction). t.epoch == e)
      (λ (p : ℕ × List Sentence). session_transactions record_here p.0 p.1) (enumerate_from 1 given.scripts)

  none-committed : ((a : ℕ) → IsSession o a → (has_opened e (calls_of a es) ≡ false)
      ⊎ (list_any (is_commit_of e) (entries_by_calls o a (calls_of a es)) ≡ false))
      → flat_map committed_of (enumerate_from 1 given.scripts) ≡ []
  none-committed not =
      none-of committed_of 1 given.scripts (λ k script is.
      let session = session-at k script is in
      elim (not (1 + k) session) [
        | inl closed ↦ nothing-opened (1 + k) script session closed
        | inr open_still ↦ nothing-committed (1 + k) script session open_still
      ])

  of-kept : e ≡ o.safe → EpochCase
  of-kept is =
      kept_rows is
      ((λ i. cond (eq-eqb o.safe e (sym is) i) (kept_transaction record_here ∷ sessions-part i) (sessions-part i))
      ∙ ap (λ (ts : List Transaction). kept_transaction record_here ∷ ts) (none-committed (λ a session. inl
      (false_from_ne_true (has_opened e (calls_of a es)) (λ old.
      let above = (opened-taken o es a e run old).above in omega (arith, above, is))))))

  place-of : (a : ℕ) → IsSession o a → (script : List Sentence) × (slice_get given.scripts (a - 1) ≡ Some script)
  place-of a session =
      let first = session.first in
      let last = session.last in
      there given.scripts (a - 1) (omega (arith, first, last, each))
    where
      there : (xs : List (List Sentence)) (k : ℕ) → k < length xs → (x : List Sentence) × (slice_get xs k ≡ Some x)
      there [] k low = absurd (omega (arith, low))
      there (x ∷ xs) zero low = (x, refl)
      there (x ∷ xs) (suc k) low = there xs k (omega (arith, low))

  of-committed : (e == o.safe) ≡ false → o.safe < e → has_committed o es e ≡ true → IsCommittedBy o es e → EpochCase
  of-committed other above is by =
      let a = by.session in
      let session = by.is_session in
      let first = session.first in
      let place = place-of a session in
      let back : 1 + (a - 1) ≡ a = omega (arith, first) in
      let apart : (o.safe == e) ≡ false = ne_eqb o.safe e (λ same. omega (arith, same, above)) in
      let script : script_of record_here a ≡ place.0 = ap (λ (s : Option (List Sentence)). unwrap_or s []) place.1 in
      committed_one by above is
      ((λ i. cond (apart i) (kept_transaction record_here ∷ sessions-part i) (sessions-part i))
      ∙ one-of committed_of 1 given.scripts (a - 1) place.0 place.1 (λ k x stands differ.
      let session_k = session-at k x stands in
      nothing-opened (1 + k) x session_k (false_from_ne_true (has_opened e (calls_of (1 + k) es)) (λ old.
      let one = one-opener o es (1 + k) a e run old by.opened in differ (omega (arith, one)))))
      ∙ ap (λ (n : ℕ). committed_of (n, place.0)) back
      ∙ session-begun a place.0 session
      ∙ (λ i. if by.opened i
      then transaction_if (by.committed i) e (session_operations record_here a (sym script i))
      else []))

  of-none : (e == o.safe) ≡ false → (has_committed o es e ≡ true → e < o.safe) → EpochCase
  of-none other not =
      let apart : (o.safe == e) ≡ false =
      ne_eqb o.safe e (λ same. false≢true (sym other ∙ eq-eqb e o.safe (sym same)))
      in
      no_transaction not
      ((λ i. cond (apart i) (kept_transaction record_here ∷ sessions-part i) (sessions-part i))
      ∙ none-committed (λ a session. elim (cases_Bool (has_opened e (calls_of a es))) [
        | inl old ↦ inr
            (false_from_ne_true (list_any (is_commit_of e) (entries_by_calls o a (calls_of a es))) (λ mine.
            let above = (opened-taken o es a e run old).above in
            let below = not (committed-is o es a e mine) in
            omega (arith, above, below)))
        | inr closed ↦ inl closed
      ]))

  pub epoch-case : EpochCase
  epoch-case = elim (eqb_tells e o.safe) [
    | inl same ↦ of-kept same.1
    | inr other ↦ elim (cases_Bool (has_committed o es e)) [
      | inl is ↦ elim (leb_tells e o.safe) [
        | inl low ↦ (let le = low.1 in let no = other.1 in of-none other.0 (λ yes. omega (arith, le, no)))
        | inr high ↦ (
            let gt = high.1 in
            let above : o.safe < e = omega (arith, gt) in
            of-committed other.0 above is (committed-by o es e run is above))
      ]
      | inr not ↦ of-none other.0 (λ yes. absurd (true≢false (sym yes ∙ not)))
    ]
  ]

  pub own-epoch : length (transactions_of_epoch (run_transactions record_here) e) ≤ 1
  own-epoch = at epoch-case
    where
      at : EpochCase → length (transactions_of_epoch (run_transactions record_here) e) ≤ 1
      at (kept_rows is are) = let l = ap length are in omega (arith, l)
      at (committed_one by above is are) = let l = ap length are in omega (arith, l)
      at (no_transaction not are) = let l = ap length are in omega (arith, l)
