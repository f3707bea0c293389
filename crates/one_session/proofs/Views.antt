-- What a snapshot sees of a run is settled by what is behind.
use Rattle.std.proofs.Common.{◌≡◌, ◌∙◌, ℕ, ◌+◌, ◌<◌, ◌≤◌, Bool, true, false, not, ◌&&◌, ◌||◌, ◌==◌, cond, nat_le, nat_lt, List, [], ◌∷◌, ◌++◌, filter, flat_map, map, Some, None, if◌then◌else◌, unwrap_or, slice_get, refl, sym, ap, arith, append-nil}
use Rattle.std.specs.List.{AllByRecursion, cons_option, enumerate_from, filter_map, list_any}
use Rattle.std.proofs.lemmas.Bool.{false≢true, false_from_ne_true, eq-eqb}
use Rattle.std.proofs.lemmas.Bool.Decides.{nat_tests}
use Rattle.std.proofs.lemmas.List.Elements.{filter-append, filter_map-append}
use Rattle.std.proofs.lemmas.List.Folds.{list_any-append}
use Rattle.cube_values.specs.declared.operation.Operation.{Operation}
use Rattle.cube_values.specs.declared.operation.Operation.TheVariants.{Put}
use Rattle.cube_values.specs.declared.operation.Transaction.{Transaction}
use Rattle.cube_values.specs.declared.snapshot.Snapshot.{Snapshot}
use Rattle.cube_values.specs.Sees.{sees}
use Rattle.cube_values.specs.Visible.{PlacedOperation, placed_operations, remaining_rows, visible_rows}
use Rattle.cube_journal.specs.declared.journal_entry.JournalEntry.{JournalEntry}
use Rattle.cube_journal.specs.declared.journal_entry.JournalEntry.TheVariants as entry
use Rattle.cube_journal.specs.Counters.{journal_state}
use Rattle.cube_journal.specs.Legal.{CountersAllowAll}
use Rattle.cube_run.specs.RunRecords.{RunRecord, Sentence, catalog_of, script_of}
use Rattle.cube_run.specs.RunText.{reader_of}
use Rattle.cube_run.specs.RunTransactions.{DoneOperation, committed_transaction, is_commit_of, operation_done, operations_at, run_transactions, session_operations, session_transactions, transaction_so_far, transactions_inside}
use Rattle.cube_run.specs.SessionStates.{SessionState, fresh_session}
use Rattle.cube_run.specs.SessionSteps.{belongs_to, entries_of, is_of_statement, last_state, session_part, steps_from, steps_of}
use Rattle.one_session.specs.Behind.{HaveDone, IsSettled, IsOpenFrom, transactions_at, transactions_behind}
use Rattle.one_session.specs.Pasts.{Beginning, GoesOn, SessionPast, last_number}
use Rattle.one_session.proofs.Entries.{entries_of_both, none_later}
use Rattle.one_session.proofs.Operations.{IsLater, all_below, front_operations, later_operations, none_below, same_operations, steps_append}
use Rattle.one_session.proofs.Settled.{ChangesFrom, all_filter, later_changes, none_commits}

-- ---- transactions of some epochs

abbrev pub transaction : ℕ → List Operation → Transaction
transaction epoch operations = record { epoch = epoch; operations = operations }

-- Those whose epoch passes a test.
abbrev pub at_epochs : (ℕ → Bool) → List Transaction → List Transaction
at_epochs q ts = filter (λ t. q t.epoch) ts

-- Where its epoch fails the test, a transaction that may be there counts for nothing.
dropped : (q : ℕ → Bool) (epoch : ℕ) (b : Bool) (operations : List Operation) (ts : List Transaction)
    → q epoch ≡ false
    → at_epochs q (cons_option (if b then Some (transaction epoch operations) else None) ts) ≡ at_epochs q ts
dropped q epoch true operations ts fails =
    ap (λ (b : Bool). cond b (transaction epoch operations ∷ at_epochs q ts) (at_epochs q ts)) fails
dropped q epoch false operations ts fails = refl

more_of_both : (q : ℕ → Bool) (epoch : ℕ) (b : Bool) (operations : List Operation) (ts us : List Transaction)
    → at_epochs q ts ≡ at_epochs q us
    → at_epochs q (cons_option (if b then Some (transaction epoch operations) else None) ts)
    ≡ at_epochs q (cons_option (if b then Some (transaction epoch operations) else None) us)
more_of_both q epoch true operations ts us same =
    ap (λ (xs : List Transaction). cond (q epoch) (transaction epoch operations ∷ xs) xs) same
more_of_both q epoch false operations ts us same = same

begun_same : (q : ℕ → Bool) (epoch : ℕ) (passes b c : Bool) (operations others : List Operation)
    (ts us : List Transaction) → q epoch ≡ passes → (passes ≡ true → b ≡ c) → (passes ≡ true → operations ≡ others)
    → at_epochs q ts ≡ at_epochs q us
    → at_epochs q (cons_option (if b then Some (transaction epoch operations) else None) ts)
    ≡ at_epochs q (cons_option (if c then Some (transaction epoch others) else None) us)
begun_same q epoch true b c operations others ts us is commits does same =
    (λ i. at_epochs q (cons_option (if commits refl i then Some (transaction epoch (does refl i)) else None) ts))
    ∙ more_of_both q epoch c others ts us same
begun_same q epoch false b c operations others ts us is commits does same =
    dropped q epoch b operations ts is ∙ same ∙ sym (dropped q epoch c others us is)

-- Two parts of journals whose commits and operations agree at the epochs that pass.
record Agrees (q : ℕ → Bool) (part other : List JournalEntry) (done others : List DoneOperation) : Type 0 where
  commits : (epoch : ℕ) → q epoch ≡ true → list_any (is_commit_of epoch) part ≡ list_any (is_commit_of epoch) other
  does : (epoch : ℕ) → q epoch ≡ true → operations_at epoch done ≡ operations_at epoch others

committed_same : (q : ℕ → Bool) (part other : List JournalEntry) (done others : List DoneOperation)
    → Agrees q part other done others → (entries : List JournalEntry)
    → at_epochs q (filter_map (committed_transaction part done) entries)
    ≡ at_epochs q (filter_map (committed_transaction other others) entries)
committed_same q part other done others a [] = refl
committed_same q part other done others a (entry.Begin session statement epoch deps ∷ entries) =
    begun_same q epoch (q epoch) (list_any (is_commit_of epoch) part) (list_any (is_commit_of epoch) other)
    (operations_at epoch done) (operations_at epoch others)
    (filter_map (committed_transaction part done) entries) (filter_map (committed_transaction other others) entries)
    refl (a.commits epoch) (a.does epoch) (committed_same q part other done others a entries)
committed_same q part other done others a (e ∷ entries) = committed_same q part other done others a entries

later_unseen : (q : ℕ → Bool) (bound : ℕ) (part : List JournalEntry) (done : List DoneOperation)
    → ((epoch : ℕ) → q epoch ≡ true → epoch < bound) → (entries : List JournalEntry)
    → AllByRecursion (ChangesFrom bound) entries
    → at_epochs q (filter_map (committed_transaction part done) entries) ≡ []
later_unseen q bound part done below [] h = refl
later_unseen q bound part done below (entry.Begin session statement epoch deps ∷ entries) h =
    let above = h.0 in
    dropped q epoch (list_any (is_commit_of epoch) part) (operations_at epoch done)
    (filter_map (committed_transaction part done) entries)
    (false_from_ne_true (q epoch) (λ is. let low = below epoch is in omega (arith, low, above)))
    ∙ later_unseen q bound part done below entries h.1
later_unseen q bound part done below (e ∷ entries) h = later_unseen q bound part done below entries h.1

or_false : (b : Bool) → (b || false) ≡ b
or_false true = refl
or_false false = refl

-- What a run committed of the epochs that are settled.
record SplitsAt (run : RunRecord) (past : SessionPast) (done : List DoneOperation) (bound : ℕ) : Type 0 where
  rest : List Sentence
  script : run.scripts ≡ (past.sentences ++ rest) ∷ []
  later : List JournalEntry
  journal : run.journal ≡ past.journal ++ later
  changes : AllByRecursion (ChangesFrom bound) later
  more : List DoneOperation
  operations : session_operations run 1 (past.sentences ++ rest) ≡ done ++ more
  behind : AllByRecursion (λ o. o.number < last_number past + 1) done
  after : AllByRecursion (IsLater bound (last_number past + 1)) more

splits : (beginning : Beginning) (past : SessionPast) (run : RunRecord) (done : List DoneOperation)
    (state : SessionState) (bound : ℕ) → HaveDone beginning past done state → GoesOn beginning past run
    → IsSettled (journal_state beginning.safe past.journal) state.mode bound → SplitsAt run past done bound
splits beginning past run done state bound h g s =
    let changes =
    later_changes bound beginning.safe past.journal g.later
    (coe 0 1 (i. CountersAllowAll (g.safe i) [] (g.journal i)) g.legal) s.next s.writers
    in
    let front = steps_of run 1 past.sentences in
    let last = last_state fresh_session front in
    let catalog = catalog_of run in
    let at : 1 + last_number past ≡ last_number past + 1 = omega arith in
    let own : (k : ℕ) → last_number past + 1 ≤ k → AllByRecursion (ChangesFrom bound) (entries_of 1 k run.journal) =
    (λ k l.
    coe 1 0 (i. AllByRecursion (ChangesFrom bound) ((ap (entries_of 1 k) g.journal
    ∙ entries_of_both 1 k past.journal g.later
    ∙ ap (λ (es : List JournalEntry). es ++ entries_of 1 k g.later)
    (none_later k 1 (last_number past) (session_part 1 past.journal) (omega (arith, l)) h.turn)) i))
    (all_filter (is_of_statement k) (ChangesFrom bound) (session_part 1 g.later)
    (all_filter (belongs_to 1) (ChangesFrom bound) g.later changes)))
    in
    record {
      rest = g.rest;
      script = g.script;
      later = g.later;
      journal = g.journal;
      changes = changes;
      more = filter_map (operation_done catalog) (steps_from run 1 (1 + last_number past) last g.rest);
      operations =
          ap (filter_map (operation_done catalog)) (steps_append run 1 fresh_session past.sentences g.rest)
          ∙ filter_map-append (operation_done catalog) front (steps_from run 1 (1 + last_number past) last g.rest)
          ∙ ap (λ (os : List DoneOperation). os
          ++ filter_map (operation_done catalog) (steps_from run 1 (1 + last_number past) last g.rest))
          (h.operations run g);
      behind =
          coe 0 1 (i. AllByRecursion (λ o. o.number < last_number past + 1) (h.operations run g i))
          (front_operations run catalog (last_number past + 1) 1 fresh_session past.sentences (omega arith));
      after =
          later_operations run catalog bound (last_number past + 1) (1 + last_number past) last g.rest (omega arith) own
          (coe 1 0 (i. IsOpenFrom bound (h.becomes run g i).mode) s.mode_is);
    }

script_is : (run : RunRecord) (past : SessionPast) (done : List DoneOperation) (bound : ℕ)
    (s : SplitsAt run past done bound) → script_of run 1 ≡ past.sentences ++ s.rest
script_is run past done bound s = ap (λ (scripts : List (List Sentence)). unwrap_or (slice_get scripts 0) []) s.script

settled_part : (q : ℕ → Bool) (bound : ℕ) (part new : List JournalEntry) (low : ℕ) (done more : List DoneOperation)
    → ((epoch : ℕ) → q epoch ≡ true → epoch < bound) → AllByRecursion (ChangesFrom bound) new
    → AllByRecursion (IsLater bound low) more
    → at_epochs q (filter_map (committed_transaction (part ++ new) (done ++ more)) (part ++ new))
    ≡ at_epochs q (filter_map (committed_transaction part done) part)
settled_part q bound part new low done more below changes after =
    let agrees : Agrees q (part ++ new) part (done ++ more) done =
    record {
      commits = λ epoch is.
          list_any-append (is_commit_of epoch) part new
          ∙ ap (λ (b : Bool). list_any (is_commit_of epoch) part || b)
          (none_commits bound epoch new (below epoch is) changes)
          ∙ or_false (list_any (is_commit_of epoch) part);
      does = λ epoch is. same_operations bound low epoch done more (below epoch is) after;
    }
    in
    ap (at_epochs q) (filter_map-append (committed_transaction (part ++ new) (done ++ more)) part new)
    ∙ filter-append (λ t. q t.epoch) (filter_map (committed_transaction (part ++ new) (done ++ more)) part)
    (filter_map (committed_transaction (part ++ new) (done ++ more)) new)
    ∙ (λ i. committed_same q (part ++ new) part (done ++ more) done agrees part i
    ++ later_unseen q bound (part ++ new) (done ++ more) below new changes i)
    ∙ append-nil (at_epochs q (filter_map (committed_transaction part done) part))

settled_transactions : (beginning : Beginning) (past : SessionPast) (run : RunRecord) (done : List DoneOperation)
    (bound : ℕ) (q : ℕ → Bool) → GoesOn beginning past run → SplitsAt run past done bound
    → ((epoch : ℕ) → q epoch ≡ true → epoch < bound)
    → at_epochs q (run_transactions run) ≡ at_epochs q (transactions_behind beginning past done)
settled_transactions beginning past run done bound q g s below =
    let part = session_part 1 past.journal in
    let new = session_part 1 s.later in
    let all_of = filter_map (committed_transaction (part ++ new) (done ++ s.more)) (part ++ new) in
    let of_both : session_part 1 run.journal ≡ part ++ new =
    ap (session_part 1) s.journal ∙ filter-append (belongs_to 1) past.journal s.later
    in
    let whole : flat_map (λ p. session_transactions run p.0 p.1) (enumerate_from 1 run.scripts) ≡ all_of =
    ap (λ (scripts : List (List Sentence)). flat_map (λ p. session_transactions run p.0 p.1) (enumerate_from 1 scripts))
    s.script
    ∙ append-nil (session_transactions run 1 (past.sentences ++ s.rest))
    ∙ (λ i. filter_map (committed_transaction (of_both i) (s.operations i)) (of_both i))
    in
    (λ i. at_epochs q (record { epoch = g.safe i; operations = Put (g.kept i) ∷ [] } ∷ whole i))
    ∙ ap (λ (ts : List Transaction). cond (q beginning.safe)
    (transaction beginning.safe (Put beginning.kept ∷ []) ∷ ts) ts)
    (settled_part q bound part new (last_number past + 1) done s.more below
    (all_filter (belongs_to 1) (ChangesFrom bound) s.later s.changes) s.after)

-- ---- what a snapshot sees

abbrev steps_at : ℕ → ℕ → List Operation → List PlacedOperation
steps_at epoch place operations =
    map (λ (p : ℕ × Operation). record { epoch = epoch; place = p.0; operation = p.1 }) (enumerate_from place operations)

placed_of : (p : ℕ → Bool) (epoch place : ℕ) (operations : List Operation)
    → filter (λ o. p o.epoch) (steps_at epoch place operations) ≡ cond (p epoch) (steps_at epoch place operations) []
placed_of p epoch place [] = both (p epoch)
  where
    both : (b : Bool) → [] ≡ cond b (steps_at epoch place []) []
    both true = refl
    both false = refl
placed_of p epoch place (o ∷ operations) = both (p epoch) (placed_of p epoch (place + 1) operations)
  where
    both : (b : Bool)
        → filter (λ o. p o.epoch) (steps_at epoch (place + 1) operations) ≡ cond b (steps_at epoch (place + 1) operations) []
        → cond b (record { epoch = epoch; place = place; operation = o }
        ∷ filter (λ o. p o.epoch) (steps_at epoch (place + 1) operations))
        (filter (λ o. p o.epoch) (steps_at epoch (place + 1) operations))
        ≡ cond b (steps_at epoch place (o ∷ operations)) []
    both true e = ap (λ os. record { epoch = epoch; place = place; operation = o } ∷ os) e
    both false e = e

-- The placed operations of some epochs are those of the transactions of these epochs.
placed_at : (p : ℕ → Bool) (ts : List Transaction)
    → filter (λ o. p o.epoch) (flat_map placed_operations ts) ≡ flat_map placed_operations (at_epochs p ts)
placed_at p [] = refl
placed_at p (t ∷ ts) =
    filter-append (λ o. p o.epoch) (placed_operations t) (flat_map placed_operations ts)
    ∙ (λ i. placed_of p t.epoch 0 t.operations i ++ placed_at p ts i)
    ∙ both (p t.epoch)
  where
    both : (b : Bool) → cond b (placed_operations t) [] ++ flat_map placed_operations (at_epochs p ts)
        ≡ flat_map placed_operations (cond b (t ∷ at_epochs p ts) (at_epochs p ts))
    both true = refl
    both false = refl

-- A snapshot sees the same of transactions that are the same at the epochs that it sees.
pub same_view : (s : Snapshot) (ts us : List Transaction) → at_epochs (sees s) ts ≡ at_epochs (sees s) us
    → visible_rows s ts ≡ visible_rows s us
same_view s ts us same =
    ap remaining_rows (placed_at (sees s) ts ∙ ap (flat_map placed_operations) same ∙ sym (placed_at (sees s) us))

seen_below : (s : Snapshot) (epoch : ℕ) → sees s epoch ≡ true → epoch ≤ s.epoch
seen_below s epoch is = first (nat_le epoch s.epoch) refl is
  where
    first : (b : Bool) → nat_le epoch s.epoch ≡ b → (b && not (list_any (λ dep. dep == epoch) s.deps)) ≡ true
        → epoch ≤ s.epoch
    first true e h = grind (arith, nat_tests, e)
    first false e h = absurd (false≢true h)

pub reader_view : (beginning : Beginning) (past : SessionPast) (run : RunRecord) (done : List DoneOperation)
    (state : SessionState) (bound epoch : ℕ) → HaveDone beginning past done state → GoesOn beginning past run
    → IsSettled (journal_state beginning.safe past.journal) state.mode bound → epoch < bound
    → visible_rows (reader_of epoch) (run_transactions run)
    ≡ visible_rows (reader_of epoch) (transactions_behind beginning past done)
reader_view beginning past run done state bound epoch h g s l =
    same_view (reader_of epoch) (run_transactions run) (transactions_behind beginning past done)
    (settled_transactions beginning past run done bound (sees (reader_of epoch)) g
    (splits beginning past run done state bound h g s)
    (λ e is. let seen = seen_below (reader_of epoch) e is in omega (arith, seen, l)))

-- Filtering twice.
pub filter_twice : (p q : Transaction → Bool) (ts : List Transaction)
    → filter p (filter q ts) ≡ filter (λ t. q t && p t) ts
filter_twice p q [] = refl
filter_twice p q (t ∷ ts) = both (q t) (filter_twice p q ts)
  where
    both : (b : Bool) → filter p (filter q ts) ≡ filter (λ t. q t && p t) ts
        → filter p (cond b (t ∷ filter q ts) (filter q ts))
        ≡ cond (b && p t) (t ∷ filter (λ t. q t && p t) ts) (filter (λ t. q t && p t) ts)
    both true same = ap (λ (xs : List Transaction). cond (p t) (t ∷ xs) xs) same
    both false same = same

-- Epochs that a writer sees but its own.
abbrev pub sees_other : Snapshot → ℕ → Bool
sees_other writer epoch = not (epoch == writer.epoch) && sees writer epoch

pub other_below : (writer : Snapshot) (epoch : ℕ) (b : Bool) → (epoch == writer.epoch) ≡ b
    → (not b && sees writer epoch) ≡ true → epoch < writer.epoch
other_below writer epoch true e is = absurd (false≢true is)
other_below writer epoch false e is =
    let seen = seen_below writer epoch is in
    let differ : (epoch ≡ writer.epoch → ⊥) = (λ same. false≢true (sym e ∙ eq-eqb epoch writer.epoch same)) in
    omega (arith, seen, differ)

pub writer_view : (beginning : Beginning) (past : SessionPast) (run : RunRecord) (done : List DoneOperation)
    (state : SessionState) (writer : Snapshot) → HaveDone beginning past done state → GoesOn beginning past run
    → IsSettled (journal_state beginning.safe past.journal) state.mode writer.epoch
    → visible_rows writer (transactions_inside run 1 (script_of run 1) (last_number past + 1) writer.epoch)
    ≡ visible_rows writer (transactions_at beginning past done writer.epoch)
writer_view beginning past run done state writer h g s =
    let number = last_number past + 1 in
    let split = splits beginning past run done state writer.epoch h g s in
    let older : at_epochs (sees writer) (filter (λ t. not (t.epoch == writer.epoch)) (run_transactions run))
    ≡ at_epochs (sees writer)
    (filter (λ t. not (t.epoch == writer.epoch)) (transactions_behind beginning past done)) =
    filter_twice (λ t. sees writer t.epoch) (λ t. not (t.epoch == writer.epoch)) (run_transactions run)
    ∙ settled_transactions beginning past run done writer.epoch (sees_other writer) g split
    (λ epoch is. other_below writer epoch (epoch == writer.epoch) refl is)
    ∙ sym (filter_twice (λ t. sees writer t.epoch) (λ t. not (t.epoch == writer.epoch))
    (transactions_behind beginning past done))
    in
    let so_far : filter (λ o. nat_lt o.number number) (session_operations run 1 (script_of run 1)) ≡ done =
    ap (λ (script : List Sentence). filter (λ o. nat_lt o.number number) (session_operations run 1 script))
    (script_is run past done writer.epoch split)
    ∙ ap (filter (λ o. nat_lt o.number number)) split.operations
    ∙ filter-append (λ o. nat_lt o.number number) done split.more
    ∙ (λ i. all_below number done split.behind i ++ none_below writer.epoch number split.more split.after i)
    ∙ append-nil done
    in
    let own : transaction_so_far run 1 (script_of run 1) number writer.epoch
    ≡ transaction writer.epoch (operations_at writer.epoch done) =
    ap (λ (os : List DoneOperation). transaction writer.epoch (operations_at writer.epoch os)) so_far
    in
    same_view writer (transactions_inside run 1 (script_of run 1) number writer.epoch)
    (transactions_at beginning past done writer.epoch)
    (filter-append (λ t. sees writer t.epoch) (filter (λ t. not (t.epoch == writer.epoch)) (run_transactions run))
    (transaction_so_far run 1 (script_of run 1) number writer.epoch ∷ [])
    ∙ (λ i. older i ++ at_epochs (sees writer) (own i ∷ []))
    ∙ sym (filter-append (λ t. sees writer t.epoch)
    (filter (λ t. not (t.epoch == writer.epoch)) (transactions_behind beginning past done))
    (transaction writer.epoch (operations_at writer.epoch done) ∷ [])))
