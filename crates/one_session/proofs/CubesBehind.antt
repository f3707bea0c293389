-- The cubes that are there stay at their places, whatever may follow.
use Rattle.std.proofs.Common.{◌≡◌, ◌∙◌, ℕ, zero, suc, ◌-◌, ◌<◌, ◌≤◌, Bool, true, false, ◌||◌, ◌&&◌, cond, List, [], ◌∷◌, ◌++◌, length, Option, Some, None, is_none, slice_get, unwrap_or, refl, sym, ap, arith, append_assoc}
use Rattle.std.specs.List.{AllByRecursion, cons_option, filter_map, list_all}
use Rattle.std.specs.Option.{IsSomeAnd, option_and_then}
use Rattle.std.proofs.lemmas.Bool.{false≢true}
use Rattle.std.proofs.lemmas.Option.{none-some}
use Rattle.std.proofs.lemmas.List.Elements.{filter_map-append}
use Rattle.cube_language.specs.declared.decl.Decl.{Decl}
use Rattle.cube_journal.specs.Entries.{session_of, statement_of}
use Rattle.cube_journal.specs.declared.journal_entry.JournalEntry.{JournalEntry}
use Rattle.cube_journal.specs.declared.journal_entry.JournalEntry.TheVariants as entry
use Rattle.cube_run.specs.RunRecords.{RunRecord, Sentence, catalog_of, cubes_at, declaration_in, made_by, statement_at, statement_said}
use Rattle.cube_run.specs.SessionSteps.{belongs_to, session_part}
use Rattle.played_scripts.specs.PlayedRuns.{AreNumbered}
use Rattle.one_session.specs.Behind.{cubes_behind, run_so_far}
use Rattle.one_session.specs.Pasts.{Beginning, GoesOn, IsInTurn, IsOneMore, IsOwned, SessionPast, has_one_owner, last_number}
use Rattle.one_session.proofs.Entries.{lower_first}

front_at : {X : Type 0} (front back : List X) (n : ℕ) → n < length front
    → slice_get (front ++ back) n ≡ slice_get front n
front_at [] back n l = absurd (omega (arith, l))
front_at (x ∷ front) back zero l = refl
front_at (x ∷ front) back (suc n) l = front_at front back n (omega (arith, l))

-- A statement behind, by the number of its session: a number past the one session has none.
statement_same : (front back : List Sentence) (place number : ℕ) → 1 ≤ number → number ≤ length front
    → option_and_then statement_said
    (slice_get (unwrap_or (slice_get ((front ++ back) ∷ []) place) []) (number - 1))
    ≡ option_and_then statement_said (slice_get (unwrap_or (slice_get (front ∷ []) place) []) (number - 1))
statement_same front back zero number first last =
    ap (option_and_then statement_said) (front_at front back (number - 1) (omega (arith, first, last)))
statement_same front back (suc place) number first last = refl

abbrev IsBehind : ℕ → JournalEntry → Type 0
IsBehind last (entry.Cube session statement epoch) = (1 ≤ statement) × (statement ≤ last)
IsBehind last _ = Unit {0}

numbered_behind : (first last : ℕ) (e : JournalEntry) (part : List JournalEntry) → 1 ≤ first
    → AreNumbered first last (e ∷ part) → IsBehind last e
numbered_behind first last (entry.Cube session statement epoch) part l h = let low = h.0 in (omega (arith, low, l), h.1)
numbered_behind first last e part l h = tt

rest_numbered_at : (first last : ℕ) (part : List JournalEntry) (o : Option ℕ) → 1 ≤ first
    → IsSomeAnd o (λ j. (first ≤ j) × (j ≤ last) × AreNumbered j last part) → AreNumbered 1 last part
rest_numbered_at first last part None l h = absurd h
rest_numbered_at first last part (Some j) l h = let low = h.0 in lower_first 1 j last part (omega (arith, low, l)) h.2

unowned_behind : (last : ℕ) (e : JournalEntry) → is_none (session_of e) ≡ true → IsBehind last e
unowned_behind last (entry.Cube session statement epoch) is = absurd (false≢true is)
unowned_behind last e is = tt

unowned : (last : ℕ) (e : JournalEntry) (journal : List JournalEntry) (c : Bool) → is_none (session_of e) ≡ c
    → (c && list_all has_one_owner journal) ≡ true
    → (list_all has_one_owner journal ≡ true → AllByRecursion (IsBehind last) journal)
    → AllByRecursion (IsBehind last) (e ∷ journal)
unowned last e journal true is owned rest = (unowned_behind last e is, rest owned)
unowned last e journal false is owned rest = absurd (false≢true owned)

all_behind : (last : ℕ) (journal : List JournalEntry) → AreNumbered 1 last (session_part 1 journal)
    → list_all has_one_owner journal ≡ true → AllByRecursion (IsBehind last) journal
all_behind last [] h owned = tt
all_behind last (e ∷ journal) h owned =
    at (belongs_to 1 e) h owned (λ rest both. all_behind last journal rest both)
  where
    at : (b : Bool) → AreNumbered 1 last (cond b (e ∷ session_part 1 journal) (session_part 1 journal))
        → ((b || is_none (session_of e)) && list_all has_one_owner journal) ≡ true
        → (AreNumbered 1 last (session_part 1 journal) → list_all has_one_owner journal ≡ true
        → AllByRecursion (IsBehind last) journal)
        → AllByRecursion (IsBehind last) (e ∷ journal)
    at true h owned rest = (
      numbered_behind 1 last e (session_part 1 journal) (omega arith) h,
      rest (rest_numbered_at 1 last (session_part 1 journal) (statement_of e) (omega arith) h) owned,
    )
    at false h owned rest = unowned last e journal (is_none (session_of e)) refl owned (rest h)

-- The cubes that entries of the first statements make hang on these statements alone.
made_same : (front rest : List Sentence) (run less : RunRecord) → run.scripts ≡ (front ++ rest) ∷ []
    → less.scripts ≡ front ∷ [] → (journal : List JournalEntry) → AllByRecursion (IsBehind (length front)) journal
    → filter_map (made_by run) journal ≡ filter_map (made_by less) journal
made_same front rest run less more few [] h = refl
made_same front rest run less more few (entry.Cube session statement epoch ∷ journal) h =
    let said : statement_at run session statement ≡ statement_at less session statement =
    ap (λ (scripts : List (List Sentence)). option_and_then statement_said
    (slice_get (unwrap_or (slice_get scripts (session - 1)) []) (statement - 1))) more
    ∙ statement_same front rest (session - 1) statement h.0.0 h.0.1
    ∙ ap (λ (scripts : List (List Sentence)). option_and_then statement_said
    (slice_get (unwrap_or (slice_get scripts (session - 1)) []) (statement - 1))) (sym few)
    in
    (λ i. cons_option (option_and_then declaration_in (said i)) (made_same front rest run less more few journal h.1 i))
made_same front rest run less more few (e ∷ journal) h = made_same front rest run less more few journal h.1

pub cubes_stay : (beginning : Beginning) (past : SessionPast) (run : RunRecord) → GoesOn beginning past run
    → IsInTurn past → IsOwned past → cubes_at run past.journal ≡ cubes_behind beginning past
cubes_stay beginning past run g turn owned =
    (λ i. g.cubes i
    ++ made_same past.sentences g.rest run (run_so_far beginning past) g.script refl past.journal
    (all_behind (last_number past) past.journal turn owned) i)

-- With one statement more, the cubes that there are are those of before, and what it makes.
pub cubes_behind_more : (beginning : Beginning) (past after : SessionPast) (sentence : Sentence)
    (added : List JournalEntry) → IsInTurn past → IsOwned past → IsOneMore past after sentence added
    → cubes_behind beginning after
    ≡ cubes_behind beginning past ++ filter_map (made_by (run_so_far beginning after)) added
cubes_behind_more beginning past after sentence added turn owned more =
    let run = run_so_far beginning after in
    ap (cubes_at run) more.journal
    ∙ ap (λ (made : List Decl). run.cubes ++ made) (filter_map-append (made_by run) past.journal added)
    ∙ ap (λ (made : List Decl). run.cubes ++ (made ++ filter_map (made_by run) added))
    (made_same past.sentences (sentence ∷ []) run (run_so_far beginning past)
    (ap (λ (script : List Sentence). script ∷ []) more.sentences) refl past.journal
    (all_behind (last_number past) past.journal turn owned))
    ∙ sym (append_assoc run.cubes (filter_map (made_by (run_so_far beginning past)) past.journal)
    (filter_map (made_by run) added))

pub some_front : {X : Type 0} (front back : List X) (n : ℕ) (x : X) → slice_get front n ≡ Some x
    → slice_get (front ++ back) n ≡ Some x
some_front [] back n x h = absurd (none-some x h)
some_front (y ∷ front) back zero x h = h
some_front (y ∷ front) back (suc n) x h = some_front front back n x h

pub cube_stays : (beginning : Beginning) (past : SessionPast) (run : RunRecord) (cube : ℕ) (d : Decl)
    → GoesOn beginning past run → IsInTurn past → IsOwned past → slice_get (cubes_behind beginning past) cube ≡ Some d
    → slice_get (catalog_of run).cubes cube ≡ Some d
cube_stays beginning past run cube d g turn owned is =
    ap (λ (journal : List JournalEntry). slice_get (cubes_at run journal) cube) g.journal
    ∙ ap (λ (made : List Decl). slice_get (run.cubes ++ made) cube) (filter_map-append (made_by run) past.journal g.later)
    ∙ ap (λ (cubes : List Decl). slice_get cubes cube)
    (sym (append_assoc run.cubes (filter_map (made_by run) past.journal) (filter_map (made_by run) g.later)))
    ∙ some_front (cubes_at run past.journal) (filter_map (made_by run) g.later) cube d
    (ap (λ (cubes : List Decl). slice_get cubes cube) (cubes_stay beginning past run g turn owned) ∙ is)
