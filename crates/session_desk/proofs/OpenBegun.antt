-- The transaction that is open was begun behind.
use Rattle.std.proofs.Common.{◌≡◌, ◌∙◌, ℕ, Bool, true, false, not, ◌||◌, ◌==◌, cond, List, [], ◌∷◌, ◌++◌, fold, refl, sym, ap, subst, arith, append_assoc, append-nil}
use Rattle.std.specs.List.{AllByRecursion, list_all, list_any}
use Rattle.std.proofs.lemmas.Bool.{and_parts}
use Rattle.std.proofs.lemmas.Bool.Decides.{nat_tests}
use Rattle.std.proofs.lemmas.List.Elements.{filter-append}
use Rattle.std.proofs.lemmas.List.Folds.{list_any-append}
use Rattle.cube_journal.specs.declared.journal_entry.JournalEntry.{JournalEntry}
use Rattle.cube_journal.specs.declared.journal_entry.JournalEntry.TheVariants as entry
use Rattle.cube_journal.specs.Counters.{JournalState, journal_state, opening_state, pending_after, state_after}
use Rattle.cube_run.specs.SessionSteps.{belongs_to, session_part}
use Rattle.one_session.specs.Changes.{is_begin_of}
use Rattle.one_session.specs.Pasts.{Beginning, SessionPast, has_one_owner}
use Rattle.one_session.proofs.Settled.{all_filter, all_more}
use Rattle.cube_run.specs.SessionStates.{Open}
use Rattle.cube_values.specs.declared.snapshot.Snapshot.{Snapshot}
use Rattle.aosi_desk.specs.State.{state_of}
use Rattle.session_replies.specs.Modes.{mode_of}
use Rattle.session_desk.specs.AtDesk.{IsServing, pending_in}
use Rattle.session_desk.specs.Standing.{StandsBehind, World}

-- An epoch was begun by the session.
abbrev IsBegun : List JournalEntry → ℕ → Type 0
IsBegun journal epoch = list_any (is_begin_of epoch) (session_part 1 journal) ≡ true

still : (before added : List JournalEntry) (epochs : List ℕ) → AllByRecursion (IsBegun before) epochs
    → AllByRecursion (IsBegun (before ++ added)) epochs
still before added [] h = tt
still before added (epoch ∷ epochs) h = (
  ap (list_any (is_begin_of epoch)) (filter-append (belongs_to 1) before added)
      ∙ list_any-append (is_begin_of epoch) (session_part 1 before) (session_part 1 added)
      ∙ ap (λ (b : Bool). b || list_any (is_begin_of epoch) (session_part 1 added)) h.0,
  still before added epochs h.1,
)

or_false : (b : Bool) → (b || false) ≡ true → b ≡ true
or_false true h = refl
or_false false h = h

or_true : (b : Bool) → (b || true) ≡ true
or_true true = refl
or_true false = refl

same_epoch : (epoch : ℕ) → (epoch == epoch) ≡ true
same_epoch epoch = grind (arith, nat_tests)

begins : (before : List JournalEntry) (session statement epoch : ℕ) (deps : List ℕ)
    → has_one_owner (entry.Begin session statement epoch deps) ≡ true
    → IsBegun (before ++ entry.Begin session statement epoch deps ∷ []) epoch
begins before session statement epoch deps owner =
    let e : JournalEntry = entry.Begin session statement epoch deps in
    let own : belongs_to 1 e ≡ true = or_false (belongs_to 1 e) owner in
    ap (list_any (is_begin_of epoch)) (filter-append (belongs_to 1) before (e ∷ []))
    ∙ list_any-append (is_begin_of epoch) (session_part 1 before) (session_part 1 (e ∷ []))
    ∙ (λ i. list_any (is_begin_of epoch) (session_part 1 before)
    || list_any (is_begin_of epoch) (cond (own i) (e ∷ []) []))
    ∙ (λ i. list_any (is_begin_of epoch) (session_part 1 before) || (same_epoch epoch i || false))
    ∙ or_true (list_any (is_begin_of epoch) (session_part 1 before))

one : (before : List JournalEntry) (e : JournalEntry) (pending : List ℕ) → has_one_owner e ≡ true
    → AllByRecursion (IsBegun before) pending
    → AllByRecursion (IsBegun (before ++ e ∷ [])) (pending_after pending e)
one before (entry.Begin session statement epoch deps) pending owner h =
    all_more (IsBegun (before ++ entry.Begin session statement epoch deps ∷ [])) pending epoch
    (still before (entry.Begin session statement epoch deps ∷ []) pending h)
    (begins before session statement epoch deps owner)
one before (entry.Committed session statement epoch) pending owner h =
    all_filter (λ x. not (x == epoch)) (IsBegun (before ++ entry.Committed session statement epoch ∷ [])) pending
    (still before (entry.Committed session statement epoch ∷ []) pending h)
one before (entry.Aborted session statement epoch cause) pending owner h =
    all_filter (λ x. not (x == epoch)) (IsBegun (before ++ entry.Aborted session statement epoch cause ∷ [])) pending
    (still before (entry.Aborted session statement epoch cause ∷ []) pending h)
one before e pending owner h = still before (e ∷ []) pending h

all : (before journal : List JournalEntry) (s : JournalState) → list_all has_one_owner journal ≡ true
    → AllByRecursion (IsBegun before) s.pending
    → AllByRecursion (IsBegun (before ++ journal)) (fold state_after s journal).pending
all before [] s owned h =
    subst (λ (es : List JournalEntry). AllByRecursion (IsBegun es) s.pending) (sym (append-nil before)) h
all before (e ∷ journal) s owned h =
    let parts = and_parts (has_one_owner e) (list_all has_one_owner journal) owned in
    subst (λ (es : List JournalEntry). AllByRecursion (IsBegun es) (fold state_after (state_after s e) journal).pending)
    (append_assoc before (e ∷ []) journal)
    (all (before ++ e ∷ []) journal (state_after s e) parts.1 (one before e s.pending parts.0 h))

pub open_was_begun : (beginning : Beginning) (past : SessionPast) (now : World) (safe : ℕ) (writer : Snapshot)
    → StandsBehind beginning past now → IsServing (state_of now.desk.register) safe (mode_of now.session.mode)
    → mode_of now.session.mode ≡ Open writer
    → list_any (is_begin_of writer.epoch) (session_part 1 past.journal) ≡ true
open_was_begun beginning past now safe writer h serving is =
    let pending : (journal_state now.desk.register.safe past.journal).pending ≡ writer.epoch ∷ [] =
    ap (λ (es : List JournalEntry). (journal_state now.desk.register.safe es).pending) (sym h.journal)
    ∙ serving.pending ∙ ap pending_in is
    in
    let begun = all [] past.journal (opening_state now.desk.register.safe) h.owned tt in
    (subst (λ (epochs : List ℕ). AllByRecursion (IsBegun past.journal) epochs) pending begun).0
