-- The entries of the statements behind, and of the one that came last.
use Rattle.std.proofs.Common.{◌≡◌, ◌∙◌, ℕ, ◌+◌, ◌<◌, ◌≤◌, ◌==◌, Bool, false, cond, List, [], ◌∷◌, ◌++◌, length, filter, Option, Some, None, refl, ap, arith, append-nil, length-append}
use Rattle.std.specs.Option.{IsSomeAnd, option_map_or}
use Rattle.std.proofs.lemmas.Bool.{ne_eqb}
use Rattle.std.proofs.lemmas.List.Elements.{filter-append}
use Rattle.cube_journal.specs.Entries.{statement_of}
use Rattle.cube_journal.specs.declared.journal_entry.JournalEntry.{JournalEntry}
use Rattle.cube_run.specs.RunRecords.{RunRecord, Sentence}
use Rattle.cube_run.specs.SessionStates.{SessionState, fresh_session, session_after}
use Rattle.cube_run.specs.SessionSteps.{SessionStep, belongs_to, entries_of, is_of_statement, session_part, step_at, steps_from, steps_of}
use Rattle.played_scripts.specs.PlayedRuns.{AreNumbered}
use Rattle.played_scripts.proofs.Numbered.{all_of_one}
use Rattle.one_session.specs.Behind.{run_so_far, steps_behind}
use Rattle.one_session.specs.Pasts.{Beginning, GoesOn, IsInTurn, IsNumberBehind, IsOneMore, SessionPast, last_number}

is_not_of : (e : JournalEntry) (j k : ℕ) → statement_of e ≡ Some j → (j ≡ k → ⊥) → is_of_statement k e ≡ false
is_not_of e j k s other = ap (λ (o : Option ℕ). option_map_or (λ x. x == k) o false) s ∙ ne_eqb j k other

-- Numbered entries have none of a later statement.
none_later_at : (k first last : ℕ) (e : JournalEntry) (part : List JournalEntry) (o : Option ℕ) → statement_of e ≡ o
    → last < k → IsSomeAnd o (λ j. (first ≤ j) × (j ≤ last) × AreNumbered j last part)
    → ((j : ℕ) → AreNumbered j last part → filter (is_of_statement k) part ≡ [])
    → filter (is_of_statement k) (e ∷ part) ≡ []
none_later_at k first last e part None s l h others = absurd h
none_later_at k first last e part (Some j) s l h others =
    let apart : (j ≡ k → ⊥) = (λ same. omega (arith, same, h.1, l)) in
    ap (λ (b : Bool). cond b (e ∷ filter (is_of_statement k) part) (filter (is_of_statement k) part))
    (is_not_of e j k s apart)
    ∙ others j h.2

pub none_later : (k first last : ℕ) (part : List JournalEntry) → last < k → AreNumbered first last part
    → filter (is_of_statement k) part ≡ []
none_later k first last [] l h = refl
none_later k first last (e ∷ part) l h =
    none_later_at k first last e part (statement_of e) refl l h (λ j n. none_later k j last part l n)

-- Numbered entries, and behind them those of one statement more.
numbered_more_at : (first last : ℕ) (e : JournalEntry) (part more : List JournalEntry) (o : Option ℕ)
    → IsSomeAnd o (λ j. (first ≤ j) × (j ≤ last) × AreNumbered j last part)
    → ((j : ℕ) → j ≤ last → AreNumbered j last part → AreNumbered j (last + 1) (part ++ more))
    → IsSomeAnd o (λ j. (first ≤ j) × (j ≤ last + 1) × AreNumbered j (last + 1) (part ++ more))
numbered_more_at first last e part more None h rest = absurd h
numbered_more_at first last e part more (Some j) h rest =
    (h.0, omega (arith, h.1), rest j h.1 h.2)

lower_first_at : (low first last : ℕ) (e : JournalEntry) (part : List JournalEntry) (o : Option ℕ) → low ≤ first
    → IsSomeAnd o (λ j. (first ≤ j) × (j ≤ last) × AreNumbered j last part)
    → IsSomeAnd o (λ j. (low ≤ j) × (j ≤ last) × AreNumbered j last part)
lower_first_at low first last e part None l h = absurd h
lower_first_at low first last e part (Some j) l h = (omega (arith, l, h.0), h.1, h.2)

pub lower_first : (low first last : ℕ) (part : List JournalEntry) → low ≤ first → AreNumbered first last part
    → AreNumbered low last part
lower_first low first last [] l h = tt
lower_first low first last (e ∷ part) l h = lower_first_at low first last e part (statement_of e) l h

pub numbered_more : (first last : ℕ) (part more : List JournalEntry) → first ≤ last + 1 → AreNumbered first last part
    → AreNumbered (last + 1) (last + 1) more → AreNumbered first (last + 1) (part ++ more)
numbered_more first last [] more l h m = lower_first first (last + 1) (last + 1) more l m
numbered_more first last (e ∷ part) more l h m =
    numbered_more_at first last e part more (statement_of e) h
    (λ j le n. numbered_more j last part more (omega (arith, le)) n m)

-- The session's entries of a journal in two parts.
pub entries_of_both : (session number : ℕ) (front back : List JournalEntry)
    → entries_of session number (front ++ back) ≡ entries_of session number front ++ entries_of session number back
entries_of_both session number front back =
    ap (filter (is_of_statement number)) (filter-append (belongs_to session) front back)
    ∙ filter-append (is_of_statement number) (session_part session front) (session_part session back)

pub entries_behind : (beginning : Beginning) (past : SessionPast) (run : RunRecord) (number : ℕ)
    → GoesOn beginning past run → IsNumberBehind past number
    → entries_of 1 number run.journal ≡ entries_of 1 number past.journal
entries_behind beginning past run number g l =
    ap (entries_of 1 number) g.journal
    ∙ entries_of_both 1 number past.journal g.later
    ∙ ap (λ (es : List JournalEntry). entries_of 1 number past.journal ++ es) (g.others number l)
    ∙ append-nil (entries_of 1 number past.journal)

pub longer_by_one : (before after : SessionPast) (sentence : Sentence) (added : List JournalEntry)
    → IsOneMore before after sentence added → last_number after ≡ last_number before + 1
longer_by_one before after sentence added m =
    ap (λ (ss : List Sentence). length ss) m.sentences ∙ length-append before.sentences (sentence ∷ [])

pub last_entries : (beginning : Beginning) (before after : SessionPast) (sentence : Sentence)
    (added : List JournalEntry) (run : RunRecord)
    → IsOneMore before after sentence added → IsInTurn before → GoesOn beginning after run
    → entries_of 1 (last_number before + 1) run.journal ≡ session_part 1 added
last_entries beginning before after sentence added run m turn g =
    let number = last_number before + 1 in
    let longer = longer_by_one before after sentence added m in
    entries_behind beginning after run number g (omega arith, omega (arith, longer))
    ∙ ap (entries_of 1 number) m.journal
    ∙ entries_of_both 1 number before.journal added
    ∙ (λ i. none_later number 1 (last_number before) (session_part 1 before.journal) (omega arith) turn i
    ++ all_of_one number (session_part 1 added) m.own i)

steps_same : (beginning : Beginning) (past : SessionPast) (run : RunRecord) (number : ℕ) (state : SessionState)
    (script : List Sentence) → GoesOn beginning past run → 1 ≤ number → number + length script ≤ last_number past + 1
    → steps_from run 1 number state script ≡ steps_from (run_so_far beginning past) 1 number state script
steps_same beginning past run number state [] g first l = refl
steps_same beginning past run number state (sentence ∷ script) g first l =
    let here : IsNumberBehind past number = (first, omega (arith, l)) in
    let step : step_at run 1 number state sentence ≡ step_at (run_so_far beginning past) 1 number state sentence =
    (λ i. record {
      session = 1;
      number = number;
      sentence = sentence;
      file = g.files number here i;
      state = state;
      entries = entries_behind beginning past run number g here i;
    })
    in
    (λ i. step i ∷ steps_from run 1 (number + 1) (session_after state sentence (step i).entries) script)
    ∙ ap (λ (steps : List SessionStep). step_at (run_so_far beginning past) 1 number state sentence ∷ steps)
    (steps_same beginning past run (number + 1)
    (session_after state sentence (entries_of 1 number past.journal)) script g (omega arith) (omega (arith, l)))

pub same_steps : (beginning : Beginning) (past : SessionPast) (run : RunRecord)
    → GoesOn beginning past run → steps_of run 1 past.sentences ≡ steps_behind beginning past
same_steps beginning past run g =
    steps_same beginning past run 1 fresh_session past.sentences g (omega arith) (omega arith)
