-- From a longer past back to the one before.
use Rattle.std.proofs.Common.{◌≡◌, ◌∙◌, refl, ℕ, ◌+◌, List, [], ◌∷◌, ◌++◌, length, take, drop, sym, ap, arith, append_assoc}
use Rattle.std.proofs.lemmas.List.{take-append-drop}
use Rattle.std.proofs.Math.Seq.{take-append_seam}
use Rattle.std.proofs.lemmas.List.Elements.{filter-append}
use Rattle.cube_journal.specs.Legal.{CountersAllowAll}
use Rattle.cube_journal.specs.declared.journal_entry.JournalEntry.{JournalEntry}
use Rattle.cube_run.specs.FinalNames.{names_at}
use Rattle.cube_run.specs.RunRecords.{RunRecord, Sentence}
use Rattle.cube_run.specs.SessionSteps.{belongs_to, session_part}
use Rattle.played_scripts.specs.PlayedRuns.{AreNumbered}
use Rattle.played_scripts.proofs.Numbered.{none_earlier}
use Rattle.one_session.specs.Pasts.{beginning_of, nothing_behind, Beginning, EndsWithMore, GoesOn, IsInTurn, IsOneMore, NamesOnlyCome, SessionPast, last_number}
use Rattle.one_session.proofs.Entries.{entries_of_both, longer_by_one, numbered_more}

-- A beginning of a beginning.
shorter_front : {X : Type 0} (front middle whole : List X) → take (length front) middle ≡ front
    → take (length middle) whole ≡ middle → take (length front) whole ≡ front
shorter_front front middle whole a b =
    let all : whole ≡ front ++ (drop (length front) middle ++ drop (length middle) whole) =
    sym (take-append-drop (length middle) whole)
    ∙ ap (λ xs. xs ++ drop (length middle) whole)
    (b ∙ sym (take-append-drop (length front) middle) ∙ ap (λ xs. xs ++ drop (length front) middle) a)
    ∙ append_assoc front (drop (length front) middle) (drop (length middle) whole)
    in
    ap (take (length front)) all
    ∙ take-append_seam front (drop (length front) middle ++ drop (length middle) whole)

names_before : (before after : List (List (List (List ℕ)))) (run : RunRecord) → NamesOnlyCome before after
    → EndsWithMore run after → EndsWithMore run before
names_before before after run come ends = λ cube place d dim has.
    let now = ends cube place d dim has in
    record {
      dictionary = record {
        distinct = now.dictionary.distinct;
        short = now.dictionary.short;
        few = now.dictionary.few;
        first =
            shorter_front (names_at before cube place) (names_at after cube place) (names_at run.names cube place)
            (come cube place) now.dictionary.first;
      };
      numbers = now.numbers;
    }

pub goes_on_before : (beginning : Beginning) (before after : SessionPast) (sentence : Sentence)
    (added : List JournalEntry) (run : RunRecord)
    → IsOneMore before after sentence added → GoesOn beginning after run → GoesOn beginning before run
goes_on_before beginning before after sentence added run m g =
    let longer = longer_by_one before after sentence added m in
    record {
      safe = g.safe;
      kept = g.kept;
      kept_names = g.kept_names;
      cubes = g.cubes;
      round_every = g.round_every;
      rest = sentence ∷ g.rest;
      script =
          g.script
          ∙ ap (λ (ss : List Sentence). (ss ++ g.rest) ∷ []) m.sentences
          ∙ ap (λ (ss : List Sentence). ss ∷ []) (append_assoc before.sentences (sentence ∷ []) g.rest);
      files = λ number l. g.files number (l.0, omega (arith, longer, l.1)) ∙ m.files number l;
      later = added ++ g.later;
      journal =
          g.journal
          ∙ ap (λ (es : List JournalEntry). es ++ g.later) m.journal
          ∙ append_assoc before.journal added g.later;
      others = λ number l.
          entries_of_both 1 number added g.later
          ∙ (λ i. none_earlier number (last_number before + 1) (last_number before + 1) (session_part 1 added) (omega (arith, l.1)) m.own i
          ++ g.others number (l.0, omega (arith, longer, l.1)) i);
      legal = g.legal;
      names = names_before before.names after.names run m.names g.names;
    }

pub goes_on_from_nothing : (run : RunRecord) (script : List Sentence) → run.scripts ≡ script ∷ []
    → CountersAllowAll run.safe [] run.journal
    → EndsWithMore run run.kept_names → GoesOn (beginning_of run) (nothing_behind (beginning_of run)) run
goes_on_from_nothing run script scripts legal names = record {
  safe = refl;
  kept = refl;
  kept_names = refl;
  cubes = refl;
  round_every = refl;
  rest = script;
  script = scripts;
  files = λ number l. absurd (omega (arith, l.0, l.1));
  later = run.journal;
  journal = refl;
  others = λ number l. absurd (omega (arith, l.0, l.1));
  legal = legal;
  names = names;
}

pub in_turn_after : (before after : SessionPast) (sentence : Sentence) (added : List JournalEntry)
    → IsOneMore before after sentence added → IsInTurn before → IsInTurn after
in_turn_after before after sentence added m turn =
    let whole : session_part 1 after.journal ≡ session_part 1 before.journal ++ session_part 1 added =
    ap (session_part 1) m.journal ∙ filter-append (belongs_to 1) before.journal added
    in
    coe 1 0 (i. AreNumbered 1 (longer_by_one before after sentence added m i) (whole i))
    (numbered_more 1 (last_number before) (session_part 1 before.journal) (session_part 1 added) (omega arith) turn m.own)
