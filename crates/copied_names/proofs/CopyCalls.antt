-- Where in a run the names of a dimension were copied.
use Rattle.std.proofs.Common.{◌≡◌, ◌∙◌, ℕ, List, [], ◌∷◌, ◌++◌, Contains, sym, ap, append_assoc}
use Rattle.std.specs.List.{AllByRecursion}
use Rattle.std.proofs.lemmas.List.Elements.{All-contains, All-from_recursion, filter-append}
use mathlib.Core.List.{IsPrefix}
use Rattle.cube_core.specs.Links.{AreEventsAfter}
use Rattle.cube_core.specs.BoardCells.{IsEntryEvent, IsEventOf, client_of}
use Rattle.core_program.specs.Knowing.{IsLaterRun}
use Rattle.core_cells.specs.declared.names.NamesAnswer.TheVariants as told
use Rattle.core_cells.specs.declared.names.NamesCall.TheVariants as names
use Rattle.core_events.specs.Cells.{dictionary_of}
use Rattle.core_events.specs.Events.{Opening, CopyFrom, OnNames, CoreEvent, By}
use Rattle.core_events.specs.Jobs.{CoreJob, JobOutcome}
use Rattle.core_events.specs.Runs.{IsCoreRun}
use Rattle.core_events.specs.ShardView.{ShardView}
use Rattle.core_program.specs.CoreFits.{CoreEntry}
use Rattle.cube_core.specs.declared.cell.CoreAnswer.{CoreAnswer}
use Rattle.cube_core.specs.declared.cell.CoreAnswer.TheVariants as answer
use Rattle.cube_core.specs.declared.cell.CoreCall.{CoreCall}
use Rattle.cube_core.specs.declared.cell.CoreCall.TheVariants as call
use Rattle.cube_core.specs.declared.cell.CoreCell.{CoreCell}
use Rattle.cube_core.specs.declared.shard.ShardAnswer.{ShardAnswer}
use Rattle.cube_core.specs.declared.shard.ShardCall.{ShardCall}
use Rattle.known_cubes.proofs.DeskCubes.{earlier-run}
use Rattle.known_cubes.proofs.OwnCalls.{all-own}
use Rattle.turn_board.specs.History.{is_by_caller, of_caller}
use Rattle.copied_names.specs.CopiedNames.{IsMomentAfter}

-- The answer to a call is a copy of all names of the dimension.
pub data TellsCopy (place dim : ℕ) (list : List (List ℕ)) : CoreCall → CoreAnswer → Type 0 where
  by_copying : TellsCopy place dim list (call.Names (names.CopyFrom place dim 0)) (answer.Names (told.Copied list))

-- At one moment of a run, not before its start, these were all names of the dictionary.
pub record HasCopied (o : Opening) (place dim : ℕ) (list : List (List ℕ)) (start es : List CoreEvent) : Type 0 where
  pub mid : List CoreEvent
  pub newer : List CoreEvent
  pub whole : es ≡ newer ++ (mid ++ start)
  pub run : IsCoreRun o (mid ++ start)
  pub is : list ≡ (dictionary_of o place dim (mid ++ start)).names

abbrev behind_first : List CoreEntry → List CoreEntry
behind_first [] = []
behind_first (e ∷ log) = log

same-behind : (own xs ys : List CoreEntry) → own ++ xs ≡ own ++ ys → xs ≡ ys
same-behind [] xs ys is = is
same-behind (e ∷ own) xs ys is = same-behind own xs ys (ap behind_first is)

module _ {S : Type 0} (fits : Opening → ℕ → ShardCall → Type 0) (stands : Opening → ℕ → ℕ → S → ShardView → Type 0)
    (says : CoreJob → ShardAnswer → JobOutcome → Type 0) (o : Opening) (place dim : ℕ) (list : List (List ℕ)) where
  abbrev event : List CoreEvent → CoreEntry → CoreEvent → Type 0
  event es e x = IsEntryEvent fits stands says o es e x

  copied-now : (start mid newer es : List CoreEvent) (b k : ℕ) {c : CoreCall} {a : CoreAnswer} (x : CoreEvent)
      → TellsCopy place dim list c a → IsEventOf fits stands says o (mid ++ start) b k c a x
      → IsCoreRun o (x ∷ mid ++ start) → es ≡ newer ++ (x ∷ mid ++ start) → HasCopied o place dim list start es
  copied-now start mid newer es b k x by_copying is run whole =
      let copy = By (client_of o b) (OnNames (CopyFrom place dim 0 list)) in
      let longer : newer ++ (x ∷ mid ++ start) ≡ (newer ++ x ∷ []) ++ (mid ++ start) = sym (append_assoc newer (x ∷ []) (mid ++ start)) in
      let next : IsCoreRun o (copy ∷ mid ++ start) = coe 0 1 (i. IsCoreRun o (is.1 i ∷ mid ++ start)) run in
      record {
        mid = mid;
        newer = newer ++ x ∷ [];
        whole = whole ∙ longer;
        run = next.0;
        is = next.1.says;
      }

  behind : (log : List CoreEntry) (earlier es : List CoreEvent) → AreEventsAfter event earlier log es
      → (newer : List CoreEvent) × (es ≡ newer ++ earlier)
  behind [] earlier es are = ([], sym are)
  behind (e ∷ log) earlier es are =
      let rest = behind log (are.0 ∷ earlier) es are.2 in
      (rest.0 ++ are.0 ∷ [], rest.1 ∙ sym (append_assoc rest.0 (are.0 ∷ []) earlier))

  all-copied : (log : List CoreEntry) (start mid es : List CoreEvent) → AreEventsAfter event (mid ++ start) log es → IsCoreRun o es
      → AllByRecursion (λ (e : CoreEntry). TellsCopy place dim list e.call e.answer → HasCopied o place dim list start es) log
  all-copied [] start mid es are run = tt
  all-copied (e ∷ log) start mid es are run =
      let rest = behind log (are.0 ∷ mid ++ start) es are.2 in (
        λ tells. copied-now start mid rest.0 es e.caller e.cell are.0 tells are.1
            (earlier-run fits stands says o log (are.0 ∷ mid ++ start) es are.2 run) rest.1,
        all-copied log start (are.0 ∷ mid) es are.2 run,
      )

  -- So it was at a moment after the start, where the caller's calls since then begin with some among which is the copy.
  copied-since : (caller : ℕ) (added log : List CoreEntry) (start es : List CoreEvent) (e : CoreEntry)
      → IsPrefix added (of_caller caller log) → AreEventsAfter event start log es → IsCoreRun o es → Contains added e
      → TellsCopy place dim list e.call e.answer → HasCopied o place dim list start es
  copied-since caller added log start es e begins are run among tells =
      let P : CoreEntry → Type 0 = λ e. TellsCopy place dim list e.call e.answer → HasCopied o place dim list start es in
      let all = all-copied log start [] es are run in
      All-contains P added e (All-from_recursion P added (all-own P caller added log begins all)) among tells

  module _ (cells : List (CoreCell S)) (caller : ℕ) (own log : List CoreEntry) (run : List CoreEvent) where
    -- At a moment of each later run.
    pub copied-in-run : (e : CoreEntry) → IsLaterRun fits stands says cells o caller own log run → Contains own e
        → TellsCopy place dim list e.call e.answer → HasCopied o place dim list [] run
    copied-in-run e later among tells =
        copied-since caller own log [] run e later.begins later.events later.is_run among tells

    -- At one after the moment of the earlier calls.
    pub copied-after : (added : List CoreEntry) (es : List CoreEvent) (e : CoreEntry)
        → IsLaterRun fits stands says cells o caller (own ++ added) log run
        → IsMomentAfter fits stands says cells o caller own log run es → Contains added e
        → TellsCopy place dim list e.call e.answer → HasCopied o place dim list es run
    copied-after added es e later moment among tells =
        let parts : of_caller caller log ≡ own ++ of_caller caller moment.rest =
        ap (of_caller caller) moment.whole
        ∙ filter-append (is_by_caller caller) moment.earlier moment.rest
        ∙ ap (λ (l : List CoreEntry). l ++ of_caller caller moment.rest) moment.mine
        in
        let rest = later.begins.0 in
        let begins : IsPrefix added (of_caller caller moment.rest) = (
          rest,
          same-behind own (added ++ rest) (of_caller caller moment.rest)
              (sym (append_assoc own added rest) ∙ later.begins.1 ∙ parts),
        )
        in
        copied-since caller added moment.rest es run e begins moment.goes_on later.is_run among tells
