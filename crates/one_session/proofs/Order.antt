-- What a snapshot sees of what is behind, as running the operations that count for it.
use Rattle.std.proofs.Common.{◌≡◌, ◌∙◌, ℕ, ◌+◌, ◌<◌, ◌≤◌, Bool, true, false, not, ◌&&◌, ◌||◌, ◌==◌, cond, if◌then◌else◌, Some, None, List, [], ◌∷◌, ◌++◌, filter, flat_map, fold, map, refl, sym, ap, subst, arith, inl, inr}
use Rattle.std.specs.List.{AllByRecursion, cons_option, filter_map, list_any}
use Rattle.std.proofs.lemmas.Bool.{eq-eqb, false≢true, ne_eqb}
use Rattle.std.proofs.lemmas.Bool.Decides.{eqb_tells}
use Rattle.std.proofs.lemmas.List.{map-append}
use Rattle.std.proofs.lemmas.List.Elements.{filter-append}
use Rattle.std.proofs.lemmas.List.Folds.{list_any-append}
use Rattle.std.proofs.lemmas.List.Sums.{fold-append}
use Rattle.cube_values.specs.declared.operation.Operation.{Operation}
use Rattle.cube_values.specs.declared.operation.Operation.TheVariants.{Put}
use Rattle.cube_values.specs.declared.operation.Transaction.{Transaction}
use Rattle.cube_values.specs.declared.row.StoredRow.{StoredRow}
use Rattle.cube_values.specs.declared.snapshot.Snapshot.{Snapshot}
use Rattle.cube_values.specs.Running.{after_operation, after_transaction, rows_left_by}
use Rattle.cube_values.specs.Sees.{sees}
use Rattle.cube_values.specs.Visible.{RisesByEpoch, visible_rows}
use Rattle.cube_values.proofs.WhatIsLeft.{what_is_left}
use Rattle.cube_journal.specs.declared.journal_entry.JournalEntry.{JournalEntry}
use Rattle.cube_journal.specs.declared.journal_entry.JournalEntry.TheVariants as entry
use Rattle.cube_journal.specs.Counters.{JournalState, ec_after, journal_state}
use Rattle.cube_journal.specs.Legal.{CountersAllow, CountersAllowAll}
use Rattle.cube_journal.proofs.Orders.{state-with}
use Rattle.cube_run.specs.RunText.{reader_of}
use Rattle.cube_run.specs.RunTransactions.{DoneOperation, committed_transaction, is_commit_of, operations_at}
use Rattle.cube_run.specs.SessionSteps.{belongs_to, session_part}
use Rattle.one_session.specs.Behind.{transactions_at, transactions_behind}
use Rattle.one_session.specs.Changes.{EpochsNeverFall, AreInEpochOrder, operation_counts, is_begin_of}
use Rattle.one_session.specs.Pasts.{Beginning, SessionPast}
use Rattle.one_session.proofs.Settled.{all_filter, all_more}
use Rattle.one_session.proofs.Views.{at_epochs, filter_twice, other_below, same_view, sees_other, transaction}

-- ---- epochs of transactions rise

-- Each epoch is above the one before it, and the first is not below a number.
abbrev RisesFrom : ℕ → List ℕ → Type 0
RisesFrom low [] = Unit {0}
RisesFrom low (e ∷ es) = (low ≤ e) × RisesFrom (e + 1) es

abbrev epochs_of : List Transaction → List ℕ
epochs_of ts = map (λ t. t.epoch) ts

rises_lower : (low high : ℕ) (es : List ℕ) → low ≤ high → RisesFrom high es → RisesFrom low es
rises_lower low high [] l h = tt
rises_lower low high (e ∷ es) l h = let first = h.0 in (omega (arith, l, first), h.1)

rises_more : (low w : ℕ) (es : List ℕ) → low ≤ w → AllByRecursion (λ e. e < w) es → RisesFrom low es
    → RisesFrom low (es ++ w ∷ [])
rises_more low w [] l all h = (l, tt)
rises_more low w (e ∷ es) l all h = let below = all.0 in (h.0, rises_more (e + 1) w es (omega (arith, below)) all.1 h.1)

begun_rises : (q : ℕ → Bool) (ec epoch : ℕ) (b : Bool) (operations : List Operation) (ts : List Transaction)
    → epoch ≡ ec → RisesFrom (ec + 1) (epochs_of (at_epochs q ts))
    → RisesFrom ec (epochs_of (at_epochs q (cons_option (if b then Some (transaction epoch operations) else None) ts)))
begun_rises q ec epoch false operations ts is h = rises_lower ec (ec + 1) (epochs_of (at_epochs q ts)) (omega arith) h
begun_rises q ec epoch true operations ts is h = at (q epoch)
  where
    at : (b : Bool) → RisesFrom ec (epochs_of (cond b (transaction epoch operations ∷ at_epochs q ts) (at_epochs q ts)))
    at true = (omega (arith, is), rises_lower (epoch + 1) (ec + 1) (epochs_of (at_epochs q ts)) (omega (arith, is)) h)
    at false = rises_lower ec (ec + 1) (epochs_of (at_epochs q ts)) (omega arith) h

ec_rises : (safe : ℕ) (before : List JournalEntry) (e : JournalEntry)
    → (journal_state safe before).ec ≤ (journal_state safe (before ++ e ∷ [])).ec
ec_rises safe before e =
    subst (λ (s : JournalState). (journal_state safe before).ec ≤ s.ec) (sym (state-with safe before e))
    (taken (journal_state safe before).ec e)
  where
    taken : (ec : ℕ) (e : JournalEntry) → ec ≤ ec_after ec e
    taken ec (entry.Begin session statement epoch deps) = omega arith
    taken ec (entry.Cube session statement epoch) = omega arith
    taken ec e = omega arith

begins_rise : (q : ℕ → Bool) (part : List JournalEntry) (done : List DoneOperation) (safe : ℕ)
    (before later : List JournalEntry) → CountersAllowAll safe before later
    → RisesFrom (journal_state safe before).ec
    (epochs_of (at_epochs q (filter_map (committed_transaction part done) (session_part 1 later))))
begins_rise q part done safe before [] a = tt
begins_rise q part done safe before (e ∷ later) a =
    at (belongs_to 1 e) e a.0 (begins_rise q part done safe (before ++ e ∷ []) later a.1)
  where
    at : (b : Bool) (e : JournalEntry) → CountersAllow safe before e
        → RisesFrom (journal_state safe (before ++ e ∷ [])).ec
        (epochs_of (at_epochs q (filter_map (committed_transaction part done) (session_part 1 later))))
        → RisesFrom (journal_state safe before).ec
        (epochs_of (at_epochs q (filter_map (committed_transaction part done)
        (cond b (e ∷ session_part 1 later) (session_part 1 later)))))
    at false e a rest =
        rises_lower (journal_state safe before).ec (journal_state safe (before ++ e ∷ [])).ec
        (epochs_of (at_epochs q (filter_map (committed_transaction part done) (session_part 1 later))))
        (ec_rises safe before e) rest
    at true (entry.Begin session statement epoch deps) a rest =
        begun_rises q (journal_state safe before).ec epoch (list_any (is_commit_of epoch) part)
        (operations_at epoch done) (filter_map (committed_transaction part done) (session_part 1 later)) a.next
        (subst (λ (s : JournalState). RisesFrom s.ec
        (epochs_of (at_epochs q (filter_map (committed_transaction part done) (session_part 1 later)))))
        (state-with safe before (entry.Begin session statement epoch deps)) rest)
    at true e a rest =
        rises_lower (journal_state safe before).ec (journal_state safe (before ++ e ∷ [])).ec
        (epochs_of (at_epochs q (filter_map (committed_transaction part done) (session_part 1 later))))
        (ec_rises safe before e) rest

all_above : (low : ℕ) (ts : List Transaction) → RisesFrom low (epochs_of ts) → AllByRecursion (λ t. low ≤ t.epoch) ts
all_above low [] h = tt
all_above low (t ∷ ts) h =
    let first = h.0 in
    (h.0, all_above low ts (rises_lower low (t.epoch + 1) (epochs_of ts) (omega (arith, first)) h.1))

next_above : (low : ℕ) (ts : List Transaction) → AllByRecursion (λ t. low + 1 ≤ t.epoch) ts
    → AllByRecursion (λ t. low < t.epoch) ts
next_above low [] h = tt
next_above low (t ∷ ts) h = let first = h.0 in (omega (arith, first), next_above low ts h.1)

rise_by_epoch : (low : ℕ) (ts : List Transaction) → RisesFrom low (epochs_of ts) → RisesByEpoch ts
rise_by_epoch low [] h = tt
rise_by_epoch low (t ∷ ts) h =
    (next_above t.epoch ts (all_above (t.epoch + 1) ts h.1), rise_by_epoch (t.epoch + 1) ts h.1)

-- ---- running them

run_all : (rows : List StoredRow) (ts : List Transaction)
    → fold after_transaction rows ts ≡ fold after_operation rows (flat_map (λ t. t.operations) ts)
run_all rows [] = refl
run_all rows (t ∷ ts) =
    run_all (after_transaction rows t) ts
    ∙ sym (fold-append after_operation rows t.operations (flat_map (λ t. t.operations) ts))

-- Where all are seen, what is seen is what running them leaves.
seen_run : (s : Snapshot) (safe : ℕ) (kept : List StoredRow) (ts : List Transaction) → sees s safe ≡ true
    → at_epochs (sees s) ts ≡ ts → RisesFrom (safe + 1) (epochs_of ts)
    → visible_rows s (transaction safe (Put kept ∷ []) ∷ ts)
    ≡ fold after_operation kept (flat_map (λ t. t.operations) ts)
seen_run s safe kept ts first all rises =
    what_is_left s (transaction safe (Put kept ∷ []) ∷ ts)
    (next_above safe ts (all_above (safe + 1) ts rises), rise_by_epoch (safe + 1) ts rises)
    ∙ ap (λ (b : Bool). rows_left_by (cond b (transaction safe (Put kept ∷ []) ∷ at_epochs (sees s) ts) (at_epochs (sees s) ts))) first
    ∙ ap (λ (us : List Transaction). fold after_transaction kept us) all
    ∙ run_all kept ts

-- ---- operations by epochs

abbrev is_at : List ℕ → ℕ → Bool
is_at es x = list_any (λ e. e == x) es

not_at : (low x : ℕ) (es : List ℕ) → x < low → RisesFrom low es → is_at es x ≡ false
not_at low x [] l h = refl
not_at low x (e ∷ es) l h =
    let first = h.0 in
    ap (λ (b : Bool). b || is_at es x) (ne_eqb e x (λ same. omega (arith, same, first, l)))
    ∙ not_at (e + 1) x es (omega (arith, first, l)) h.1

at_above : (low x : ℕ) (es : List ℕ) → RisesFrom low es → is_at es x ≡ true → low ≤ x
at_above low x [] h is = absurd (false≢true is)
at_above low x (e ∷ es) h is =
    let first = h.0 in
    elim (eqb_tells e x) [
      | inl same ↦ let at = same.1 in omega (arith, at, first)
      | inr other ↦
          let rest = at_above (e + 1) x es h.1 (sym (ap (λ (b : Bool). b || is_at es x) other.0) ∙ is) in
          omega (arith, rest, first)
    ]

none_lower : (low high e : ℕ) (done : List DoneOperation) → e < low → EpochsNeverFall low done high
    → filter (λ o. o.epoch == e) done ≡ []
none_lower low high e [] l h = refl
none_lower low high e (o ∷ done) l h =
    let first = h.0 in
    ap (λ (b : Bool). cond b (o ∷ filter (λ o. o.epoch == e) done) (filter (λ o. o.epoch == e) done))
    (ne_eqb o.epoch e (λ same. omega (arith, same, first, l)))
    ∙ none_lower o.epoch high e done (omega (arith, first, l)) h.1

abbrev ops_at : ℕ → List DoneOperation → List DoneOperation
ops_at e done = filter (λ o. o.epoch == e) done

abbrev ops_among : List ℕ → List DoneOperation → List DoneOperation
ops_among es done = filter (λ o. is_at es o.epoch) done

later_part : (o : DoneOperation) (b : Bool) (all own others : List DoneOperation) → all ≡ own ++ others
    → (b ≡ true → own ≡ []) → cond b (o ∷ all) all ≡ own ++ cond b (o ∷ others) others
later_part o true all own others rest none =
    ap (λ (os : List DoneOperation). o ∷ os) (rest ∙ ap (λ (os : List DoneOperation). os ++ others) (none refl))
    ∙ ap (λ (os : List DoneOperation). os ++ (o ∷ others)) (sym (none refl))
later_part o false all own others rest none = rest

first_part_at : (e : ℕ) (es : List ℕ) (o : DoneOperation) (done : List DoneOperation)
    → ops_among (e ∷ es) done ≡ ops_at e done ++ ops_among es done → RisesFrom (e + 1) es
    → (e < o.epoch → ops_at e done ≡ [])
    → ops_among (e ∷ es) (o ∷ done) ≡ ops_at e (o ∷ done) ++ ops_among es (o ∷ done)
first_part_at e es o done rest r none =
    elim (eqb_tells o.epoch e) [
      | inl same ↦
          let at = same.1 in
          let here : is_at (e ∷ es) o.epoch ≡ true =
          ap (λ (b : Bool). b || is_at es o.epoch) (eq-eqb e o.epoch (sym at))
          in
          (λ i. cond (here i) (o ∷ ops_among (e ∷ es) done) (ops_among (e ∷ es) done))
          ∙ ap (λ (os : List DoneOperation). o ∷ os) rest
          ∙ (λ i. cond (sym same.0 i) (o ∷ ops_at e done) (ops_at e done)
          ++ cond (sym (not_at (e + 1) o.epoch es (omega (arith, at)) r) i) (o ∷ ops_among es done) (ops_among es done))
      | inr other ↦
          let apart = other.1 in
          let here : is_at (e ∷ es) o.epoch ≡ is_at es o.epoch =
          ap (λ (b : Bool). b || is_at es o.epoch) (ne_eqb e o.epoch (λ same. apart (sym same)))
          in
          (λ i. cond (here i) (o ∷ ops_among (e ∷ es) done) (ops_among (e ∷ es) done))
          ∙ later_part o (is_at es o.epoch) (ops_among (e ∷ es) done) (ops_at e done) (ops_among es done) rest
          (λ is. none (let above = at_above (e + 1) o.epoch es r is in omega (arith, above)))
          ∙ (λ i. cond (sym other.0 i) (o ∷ ops_at e done) (ops_at e done)
          ++ cond (is_at es o.epoch) (o ∷ ops_among es done) (ops_among es done))
    ]

-- The first epoch's operations, and then those of the others.
first_parts : (low high e : ℕ) (es : List ℕ) (done : List DoneOperation) → RisesFrom (e + 1) es
    → EpochsNeverFall low done high
    → ops_among (e ∷ es) done ≡ ops_at e done ++ ops_among es done
first_parts low high e es [] r h = refl
first_parts low high e es (o ∷ done) r h =
    first_part_at e es o done (first_parts o.epoch high e es done r h.1) r
    (λ l. none_lower o.epoch high e done l h.1)

none_among : (done : List DoneOperation) → ops_among [] done ≡ []
none_among [] = refl
none_among (o ∷ done) = none_among done

-- Transactions that have the operations of their epochs have together the operations of all these epochs, in order.
together : (low lowest high : ℕ) (ts : List Transaction) (done : List DoneOperation)
    → AllByRecursion (λ t. t.operations ≡ operations_at t.epoch done) ts → RisesFrom low (epochs_of ts)
    → EpochsNeverFall lowest done high
    → flat_map (λ t. t.operations) ts ≡ map (λ o. o.operation) (ops_among (epochs_of ts) done)
together low lowest high [] done have r h = ap (map (λ (o : DoneOperation). o.operation)) (sym (none_among done))
together low lowest high (t ∷ ts) done have r h =
    (λ i. have.0 i ++ together (t.epoch + 1) lowest high ts done have.1 r.1 h i)
    ∙ sym (map-append (λ (o : DoneOperation). o.operation) (ops_at t.epoch done) (ops_among (epochs_of ts) done))
    ∙ ap (map (λ (o : DoneOperation). o.operation)) (sym (first_parts lowest high t.epoch (epochs_of ts) done r.1 h))

theirs : (part : List JournalEntry) (done : List DoneOperation) (entries : List JournalEntry)
    → AllByRecursion (λ t. t.operations ≡ operations_at t.epoch done)
    (filter_map (committed_transaction part done) entries)
theirs part done [] = tt
theirs part done (entry.Begin session statement epoch deps ∷ entries) =
    at (list_any (is_commit_of epoch) part) (theirs part done entries)
  where
    at : (b : Bool)
        → AllByRecursion (λ t. t.operations ≡ operations_at t.epoch done)
        (filter_map (committed_transaction part done) entries)
        → AllByRecursion (λ t. t.operations ≡ operations_at t.epoch done)
        (cons_option (if b then Some (transaction epoch (operations_at epoch done)) else None)
        (filter_map (committed_transaction part done) entries))
    at true rest = (refl, rest)
    at false rest = rest
theirs part done (e ∷ entries) = theirs part done entries

-- ---- which epochs are committed

begun_at : (q : ℕ → Bool) (x epoch : ℕ) (c : Bool) (operations : List Operation) (ts : List Transaction)
    → is_at (epochs_of (at_epochs q (cons_option (if c then Some (transaction epoch operations) else None) ts))) x
    ≡ (((epoch == x) && (q epoch && c)) || is_at (epochs_of (at_epochs q ts)) x)
begun_at q x epoch true operations ts = at (q epoch) ∙ both (q epoch) (epoch == x)
  where
    at : (b : Bool) → is_at (epochs_of (cond b (transaction epoch operations ∷ at_epochs q ts) (at_epochs q ts))) x
        ≡ cond b ((epoch == x) || is_at (epochs_of (at_epochs q ts)) x) (is_at (epochs_of (at_epochs q ts)) x)
    at true = refl
    at false = refl

    both : (b y : Bool)
        → cond b (y || is_at (epochs_of (at_epochs q ts)) x) (is_at (epochs_of (at_epochs q ts)) x)
        ≡ ((y && (b && true)) || is_at (epochs_of (at_epochs q ts)) x)
    both true true = refl
    both true false = refl
    both false true = refl
    both false false = refl
begun_at q x epoch false operations ts = at (q epoch) (epoch == x)
  where
    at : (b y : Bool) → is_at (epochs_of (at_epochs q ts)) x
        ≡ ((y && (b && false)) || is_at (epochs_of (at_epochs q ts)) x)
    at true true = refl
    at false true = refl
    at true false = refl
    at false false = refl

step_at_epoch : (y a b c d : Bool) → (y ≡ true → b ≡ c)
    → ((y && b) || (a && c)) ≡ ((y || a) && c)
step_at_epoch true a b c d same = ap (λ (z : Bool). z || (a && c)) (same refl) ∙ once a c
  where
    once : (a c : Bool) → (c || (a && c)) ≡ c
    once a true = refl
    once true false = refl
    once false false = refl
step_at_epoch false a b c d same = refl

-- An epoch that passes is among those of the transactions where it was begun there and is committed.
committed_at : (q : ℕ → Bool) (x : ℕ) (part : List JournalEntry) (done : List DoneOperation)
    (entries : List JournalEntry)
    → is_at (epochs_of (at_epochs q (filter_map (committed_transaction part done) entries))) x
    ≡ (list_any (is_begin_of x) entries && (q x && list_any (is_commit_of x) part))
committed_at q x part done [] = refl
committed_at q x part done (entry.Begin session statement epoch deps ∷ entries) =
    begun_at q x epoch (list_any (is_commit_of epoch) part) (operations_at epoch done)
    (filter_map (committed_transaction part done) entries)
    ∙ ap (λ (b : Bool). ((epoch == x) && (q epoch && list_any (is_commit_of epoch) part)) || b)
    (committed_at q x part done entries)
    ∙ step_at_epoch (epoch == x) (list_any (is_begin_of x) entries) (q epoch && list_any (is_commit_of epoch) part)
    (q x && list_any (is_commit_of x) part) false
    (λ is. ap (λ (e : ℕ). q e && list_any (is_commit_of e) part) (equal is))
  where
    equal : (epoch == x) ≡ true → epoch ≡ x
    equal is =
        elim (eqb_tells epoch x) [
          | inl same ↦ same.1
          | inr other ↦ absurd (false≢true (sym other.0 ∙ is))
        ]
committed_at q x part done (e ∷ entries) = committed_at q x part done entries

same_filter : (p r : DoneOperation → Bool) (P : DoneOperation → Type 0) (done : List DoneOperation)
    → ((o : DoneOperation) → P o → p o ≡ r o) → AllByRecursion P done → filter p done ≡ filter r done
same_filter p r P [] same h = refl
same_filter p r P (o ∷ done) same h =
    (λ i. cond (same o h.0 i) (o ∷ same_filter p r P done same h.1 i) (same_filter p r P done same h.1 i))

-- ---- readers

-- A weaker test takes nothing more away.
weaker : (p q : ℕ → Bool) (ts : List Transaction) → ((e : ℕ) → q e ≡ true → p e ≡ true)
    → at_epochs p (at_epochs q ts) ≡ at_epochs q ts
weaker p q [] all = refl
weaker p q (t ∷ ts) all = at (q t.epoch) refl (weaker p q ts all)
  where
    at : (b : Bool) → q t.epoch ≡ b → at_epochs p (at_epochs q ts) ≡ at_epochs q ts
        → at_epochs p (cond b (t ∷ at_epochs q ts) (at_epochs q ts)) ≡ cond b (t ∷ at_epochs q ts) (at_epochs q ts)
    at true is rest =
        ap (λ (b : Bool). cond b (t ∷ at_epochs p (at_epochs q ts)) (at_epochs p (at_epochs q ts))) (all t.epoch is)
        ∙ ap (λ (us : List Transaction). t ∷ us) rest
    at false is rest = rest

filter_once : (p : ℕ → Bool) (ts : List Transaction) → at_epochs p (at_epochs p ts) ≡ at_epochs p ts
filter_once p ts = weaker p p ts (λ e is. is)

pub reader_run : (beginning : Beginning) (past : SessionPast) (done : List DoneOperation) (high epoch : ℕ)
    → CountersAllowAll beginning.safe [] past.journal → AreInEpochOrder past done high
    → sees (reader_of epoch) beginning.safe ≡ true
    → visible_rows (reader_of epoch) (transactions_behind beginning past done)
    ≡ fold after_operation beginning.kept
    (map (λ o. o.operation) (filter (operation_counts past (reader_of epoch)) done))
reader_run beginning past done high epoch legal order first =
    let s = reader_of epoch in
    let part = session_part 1 past.journal in
    let whole = filter_map (committed_transaction part done) part in
    let seen = at_epochs (sees s) whole in
    let kept = transaction beginning.safe (Put beginning.kept ∷ []) in
    let rises = begins_rise (sees s) part done beginning.safe [] past.journal legal in
    same_view s (kept ∷ whole) (kept ∷ seen)
    (ap (λ (us : List Transaction). cond (sees s beginning.safe) (kept ∷ us) us) (sym (filter_once (sees s) whole)))
    ∙ seen_run s beginning.safe beginning.kept seen first (filter_once (sees s) whole) rises
    ∙ ap (fold after_operation beginning.kept)
    (together (beginning.safe + 1) 0 high seen done
    (all_filter (λ t. sees s t.epoch) (λ t. t.operations ≡ operations_at t.epoch done) whole (theirs part done part))
    rises order.epochs
    ∙ ap (map (λ (o : DoneOperation). o.operation))
    (same_filter (λ o. is_at (epochs_of seen) o.epoch) (operation_counts past s)
    (λ o. list_any (is_begin_of o.epoch) part ≡ true) done
    (λ o begun. committed_at (sees s) o.epoch part done part
    ∙ ap (λ (b : Bool). b && (sees s o.epoch && list_any (is_commit_of o.epoch) part)) begun) order.begun))

-- ---- writers

all_other : (writer : Snapshot) (ts : List Transaction)
    → AllByRecursion (λ e. e < writer.epoch) (epochs_of (at_epochs (sees_other writer) ts))
all_other writer [] = tt
all_other writer (t ∷ ts) = at (sees_other writer t.epoch) refl (all_other writer ts)
  where
    at : (b : Bool) → sees_other writer t.epoch ≡ b
        → AllByRecursion (λ e. e < writer.epoch) (epochs_of (at_epochs (sees_other writer) ts))
        → AllByRecursion (λ e. e < writer.epoch)
        (epochs_of (cond b (t ∷ at_epochs (sees_other writer) ts) (at_epochs (sees_other writer) ts)))
    at true is rest = (other_below writer t.epoch (t.epoch == writer.epoch) refl is, rest)
    at false is rest = rest

other_seen : (b c : Bool) → (not b && c) ≡ true → c ≡ true
other_seen true c h = absurd (false≢true h)
other_seen false c h = h

other_is : (b c : Bool) → b ≡ false → c ≡ true → (not b && c) ≡ true
other_is b c fails passes = (λ i. not (fails i) && passes i)

same_eqb : (a b : ℕ) → (a == b) ≡ (b == a)
same_eqb a b =
    elim (eqb_tells a b) [
      | inl same ↦ same.0 ∙ sym (eq-eqb b a (sym same.1))
      | inr other ↦ other.0 ∙ sym (ne_eqb b a (λ same. other.1 (sym same)))
    ]

own_or_seen : (y a c : Bool) → (((not y && a) && c) || (y || false)) ≡ (y || (a && c))
own_or_seen true a c = refl
own_or_seen false true true = refl
own_or_seen false true false = refl
own_or_seen false false c = refl

counts_own : (past : SessionPast) (writer : Snapshot) (done : List DoneOperation) (o : DoneOperation)
    → writer.own ≡ true → list_any (is_begin_of o.epoch) (session_part 1 past.journal) ≡ true
    → is_at (epochs_of (at_epochs (sees_other writer)
    (filter_map (committed_transaction (session_part 1 past.journal) done) (session_part 1 past.journal)))
    ++ writer.epoch ∷ []) o.epoch
    ≡ operation_counts past writer o
counts_own past writer done o own begun =
    let part = session_part 1 past.journal in
    let q = sees_other writer in
    let commits = list_any (is_commit_of o.epoch) part in
    list_any-append (λ e. e == o.epoch) (epochs_of (at_epochs q (filter_map (committed_transaction part done) part)))
    (writer.epoch ∷ [])
    ∙ ap (λ (b : Bool). b || ((writer.epoch == o.epoch) || false))
    (committed_at q o.epoch part done part ∙ ap (λ (b : Bool). b && (q o.epoch && commits)) begun)
    ∙ ap (λ (b : Bool). (q o.epoch && commits) || (b || false)) (same_eqb writer.epoch o.epoch)
    ∙ own_or_seen (o.epoch == writer.epoch) (sees writer o.epoch) commits
    ∙ ap (λ (b : Bool). (b && (o.epoch == writer.epoch)) || (sees writer o.epoch && commits)) (sym own)

pub writer_run : (beginning : Beginning) (past : SessionPast) (done : List DoneOperation) (high : ℕ)
    (writer : Snapshot) → CountersAllowAll beginning.safe [] past.journal → AreInEpochOrder past done high
    → beginning.safe < writer.epoch → sees writer beginning.safe ≡ true → sees writer writer.epoch ≡ true
    → writer.own ≡ true
    → visible_rows writer (transactions_at beginning past done writer.epoch)
    ≡ fold after_operation beginning.kept (map (λ o. o.operation) (filter (operation_counts past writer) done))
writer_run beginning past done high writer legal order later first sees_own is_own =
    let q = sees_other writer in
    let part = session_part 1 past.journal in
    let whole = filter_map (committed_transaction part done) part in
    let seen = at_epochs q whole in
    let kept = transaction beginning.safe (Put beginning.kept ∷ []) in
    let own = transaction writer.epoch (operations_at writer.epoch done) in
    let us = seen ++ own ∷ [] in
    let last : at_epochs (sees writer) (own ∷ []) ≡ own ∷ [] = ap (λ (b : Bool). cond b (own ∷ []) []) sees_own in
    let all : at_epochs (sees writer) us ≡ us =
    filter-append (λ t. sees writer t.epoch) seen (own ∷ [])
    ∙ (λ i. weaker (sees writer) q whole (λ e is. other_seen (e == writer.epoch) (sees writer e) is) i ++ last i)
    in
    let other : q beginning.safe ≡ true =
    other_is (beginning.safe == writer.epoch) (sees writer beginning.safe)
    (ne_eqb beginning.safe writer.epoch (λ same. omega (arith, same, later))) first
    in
    let names : epochs_of us ≡ epochs_of seen ++ writer.epoch ∷ [] =
    map-append (λ (t : Transaction). t.epoch) seen (own ∷ [])
    in
    let rises : RisesFrom (beginning.safe + 1) (epochs_of us) =
    coe 1 0 (i. RisesFrom (beginning.safe + 1) (names i))
    (rises_more (beginning.safe + 1) writer.epoch (epochs_of seen) (omega (arith, later)) (all_other writer whole)
    (begins_rise q part done beginning.safe [] past.journal legal))
    in
    same_view writer (transactions_at beginning past done writer.epoch) (kept ∷ us)
    (filter-append (λ t. sees writer t.epoch) (filter (λ t. not (t.epoch == writer.epoch)) (kept ∷ whole)) (own ∷ [])
    ∙ (λ i. (filter_twice (λ t. sees writer t.epoch) (λ t. not (t.epoch == writer.epoch)) (kept ∷ whole)
    ∙ ap (λ (b : Bool). cond b (kept ∷ seen) seen) other) i ++ last i)
    ∙ sym (λ i. cond (first i) (kept ∷ all i) (all i)))
    ∙ seen_run writer beginning.safe beginning.kept us first all rises
    ∙ ap (fold after_operation beginning.kept)
    (together (beginning.safe + 1) 0 high us done
    (all_more (λ t. t.operations ≡ operations_at t.epoch done) seen own
    (all_filter (λ t. q t.epoch) (λ t. t.operations ≡ operations_at t.epoch done) whole (theirs part done part)) refl)
    rises order.epochs
    ∙ ap (map (λ (o : DoneOperation). o.operation))
    (same_filter (λ o. is_at (epochs_of us) o.epoch) (operation_counts past writer)
    (λ o. list_any (is_begin_of o.epoch) part ≡ true) done
    (λ o begun. ap (λ (es : List ℕ). is_at es o.epoch) names ∙ counts_own past writer done o is_own begun) order.begun))
