-- The journal before a statement.
use Rattle.std.proofs.Common.{◌≡◌, ◌∙◌, ℕ, zero, suc, ◌+◌, ◌<◌, ◌≤◌, Bool, true, false, not, ◌&&◌, cond, nat_le, List, [], ◌∷◌, ◌++◌, Option, Some, None, IsSome, slice_get, refl, sym, ap, subst, arith, append_assoc, append-nil}
use Rattle.std.specs.List.{filter_map}
use Rattle.std.specs.Option.{IsSomeAnd, option_map_or}
use Rattle.std.specs.Str.{bytes_eq}
use Rattle.std.proofs.lemmas.Bool.Decides.{nat_tests}
use Rattle.std.proofs.lemmas.List.Elements.{filter_map-append}
use Rattle.std.proofs.lemmas.List.Sums.{take_while-cons}
use Rattle.std.proofs.lemmas.Option.{none-some, same_Some}
use Rattle.std.proofs.lemmas.Slice.Eq.{bytes_eq-Decides}
use Rattle.cube_language.specs.declared.decl.Decl.{Decl}
use Rattle.cube_journal.specs.Entries.{statement_of}
use Rattle.cube_journal.specs.declared.journal_entry.JournalEntry.{JournalEntry}
use Rattle.cube_run.specs.RunRecords.{RunRecord, Sentence, cube_called, cubes_at, made_by}
use Rattle.cube_run.specs.SessionSteps.{belongs_to, is_from, journal_before, session_part}
use Rattle.played_scripts.specs.PlayedRuns.{AreNumbered}
use Rattle.one_session.specs.Behind.{cubes_behind}
use Rattle.one_session.specs.Pasts.{Beginning, GoesOn, IsInTurn, IsOneMore, IsOwned, SessionPast, last_number}
use Rattle.one_session.proofs.Backwards.{goes_on_before}
use Rattle.one_session.proofs.CubesBehind.{cubes_stay, some_front}
use Rattle.one_session.proofs.Entries.{lower_first}

le_no : (a b : ℕ) → b < a → nat_le a b ≡ false
le_no a b l = grind (arith, nat_tests)

pub le_yes : (a b : ℕ) → a ≤ b → nat_le a b ≡ true
le_yes a b l = grind (arith, nat_tests)

-- An entry of an earlier statement, and the rest behind it.
earlier_at : (number first last : ℕ) (part : List JournalEntry) (o : Option ℕ) → last < number → 1 ≤ first
    → IsSomeAnd o (λ j. (first ≤ j) × (j ≤ last) × AreNumbered j last part)
    → (option_map_or (λ j. nat_le number j) o false ≡ false) × AreNumbered 1 last part
earlier_at number first last part None l f h = absurd h
earlier_at number first last part (Some j) l f h =
    let low = h.0 in
    let high = h.1 in
    (le_no number j (omega (arith, l, high)), lower_first 1 j last part (omega (arith, low, f)) h.2)

all_before : (number last : ℕ) (front back : List JournalEntry) → last < number
    → AreNumbered 1 last (session_part 1 front)
    → journal_before 1 number (front ++ back) ≡ front ++ journal_before 1 number back
all_before number last [] back l h = refl
all_before number last (e ∷ front) back l h =
    at (belongs_to 1 e) refl h (λ rest. all_before number last front back l rest)
  where
    at : (b : Bool) → belongs_to 1 e ≡ b → AreNumbered 1 last (cond b (e ∷ session_part 1 front) (session_part 1 front))
        → (AreNumbered 1 last (session_part 1 front)
        → journal_before 1 number (front ++ back) ≡ front ++ journal_before 1 number back)
        → journal_before 1 number (e ∷ (front ++ back)) ≡ e ∷ (front ++ journal_before 1 number back)
    at true is h rest =
        let here = earlier_at number 1 last (session_part 1 front) (statement_of e) l (omega arith) h in
        take_while-cons (λ e. not (is_from 1 number e)) e (front ++ back)
        ∙ (λ i. cond (not (is i && here.0 i)) (e ∷ journal_before 1 number (front ++ back)) [])
        ∙ ap (λ (es : List JournalEntry). e ∷ es) (rest here.1)
    at false is h rest =
        take_while-cons (λ e. not (is_from 1 number e)) e (front ++ back)
        ∙ (λ i. cond (not (is i && option_map_or (λ j. nat_le number j) (statement_of e) false))
        (e ∷ journal_before 1 number (front ++ back)) [])
        ∙ ap (λ (es : List JournalEntry). e ∷ es) (rest h)

own_at : (number : ℕ) (part : List JournalEntry) (o : Option ℕ)
    → IsSomeAnd o (λ j. (number ≤ j) × (j ≤ number) × AreNumbered j number part)
    → option_map_or (λ j. nat_le number j) o false ≡ true
own_at number part None h = absurd h
own_at number part (Some j) h = le_yes number j h.0

before_run : (beginning : Beginning) (before after : SessionPast) (sentence : Sentence) (added : List JournalEntry)
    (run : RunRecord) → IsInTurn before → IsOneMore before after sentence added → (g : GoesOn beginning after run)
    → journal_before 1 (last_number before + 1) run.journal
    ≡ before.journal ++ journal_before 1 (last_number before + 1) (added ++ g.later)
before_run beginning before after sentence added run turn m g =
    let number = last_number before + 1 in
    ap (journal_before 1 number)
    (g.journal ∙ ap (λ (es : List JournalEntry). es ++ g.later) m.journal ∙ append_assoc before.journal added g.later)
    ∙ all_before number (last_number before) before.journal (added ++ g.later) (omega arith) turn

pub before_first : (beginning : Beginning) (before after : SessionPast) (sentence : Sentence) (e : JournalEntry)
    (added : List JournalEntry) (run : RunRecord) → IsInTurn before → IsOneMore before after sentence (e ∷ added)
    → belongs_to 1 e ≡ true → GoesOn beginning after run
    → journal_before 1 (last_number before + 1) run.journal ≡ before.journal
before_first beginning before after sentence e added run turn m own g =
    let number = last_number before + 1 in
    let numbered : AreNumbered number number (e ∷ session_part 1 added) =
    coe 0 1 (i. AreNumbered number number (cond (own i) (e ∷ session_part 1 added) (session_part 1 added))) m.own
    in
    before_run beginning before after sentence (e ∷ added) run turn m g
    ∙ ap (λ (es : List JournalEntry). before.journal ++ es)
    (take_while-cons (λ e. not (is_from 1 number e)) e (added ++ g.later))
    ∙ (λ i. before.journal
    ++ cond (not (own i && own_at number (session_part 1 added) (statement_of e) numbered i))
    (e ∷ journal_before 1 number (added ++ g.later)) [])
    ∙ append-nil before.journal

found : (cubes : List Decl) (cube : ℕ) (d : Decl) → slice_get cubes cube ≡ Some d → IsSome (cube_called cubes d.name)
found [] cube d h = absurd (none-some d h)
found (x ∷ cubes) zero d h =
    subst (λ (b : Bool). IsSome (cond b (Some x) (cube_called cubes d.name)))
    (sym ((bytes_eq-Decides x.name d.name).1 (ap (λ (y : Decl). y.name) (same_Some x d h)))) refl
found (x ∷ cubes) (suc cube) d h = at (bytes_eq x.name d.name) (found cubes cube d h)
  where
    at : (b : Bool) → IsSome (cube_called cubes d.name) → IsSome (cond b (Some x) (cube_called cubes d.name))
    at true rest = refl
    at false rest = rest

pub cube_stands : (beginning : Beginning) (before after : SessionPast) (sentence : Sentence)
    (added : List JournalEntry) (run : RunRecord) (cube : ℕ) (d : Decl) → IsInTurn before → IsOwned before
    → IsOneMore before after sentence added → GoesOn beginning after run
    → slice_get (cubes_behind beginning before) cube ≡ Some d
    → IsSome (cube_called (cubes_at run (journal_before 1 (last_number before + 1) run.journal)) d.name)
cube_stands beginning before after sentence added run cube d turn owned m g is =
    let more = journal_before 1 (last_number before + 1) (added ++ g.later) in
    let cubes : cubes_at run (journal_before 1 (last_number before + 1) run.journal)
    ≡ cubes_behind beginning before ++ filter_map (made_by run) more =
    ap (cubes_at run) (before_run beginning before after sentence added run turn m g)
    ∙ ap (λ (made : List Decl). run.cubes ++ made) (filter_map-append (made_by run) before.journal more)
    ∙ sym (append_assoc run.cubes (filter_map (made_by run) before.journal) (filter_map (made_by run) more))
    ∙ ap (λ (cubes : List Decl). cubes ++ filter_map (made_by run) more)
    (cubes_stay beginning before run (goes_on_before beginning before after sentence added run m g) turn owned)
    in
    subst (λ (cubes : List Decl). IsSome (cube_called cubes d.name)) (sym cubes)
    (found (cubes_behind beginning before ++ filter_map (made_by run) more) cube d
    (some_front (cubes_behind beginning before) (filter_map (made_by run) more) cube d is))
