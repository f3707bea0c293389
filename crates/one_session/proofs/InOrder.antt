-- Operations in the order of their epochs, with one statement more.
use Rattle.std.proofs.Common.{◌≡◌, ◌∙◌, ℕ, ◌≤◌, Bool, true, ◌||◌, List, [], ◌∷◌, ◌++◌, ap, arith}
use Rattle.std.specs.List.{AllByRecursion, list_any}
use Rattle.std.proofs.lemmas.List.Elements.{filter-append}
use Rattle.std.proofs.lemmas.List.Folds.{list_any-append}
use Rattle.cube_journal.specs.declared.journal_entry.JournalEntry.{JournalEntry}
use Rattle.cube_run.specs.RunRecords.{Sentence}
use Rattle.cube_run.specs.RunTransactions.{DoneOperation}
use Rattle.cube_run.specs.SessionSteps.{belongs_to, session_part}
use Rattle.one_session.specs.Changes.{EpochsNeverFall, AreInEpochOrder, is_begin_of}
use Rattle.one_session.specs.Pasts.{Beginning, IsOneMore, SessionPast, nothing_behind}
use Rattle.one_session.proofs.Settled.{all_more}

epochs_more : (low high : ℕ) (done : List DoneOperation) (o : DoneOperation) → high ≤ o.epoch
    → EpochsNeverFall low done high → EpochsNeverFall low (done ++ o ∷ []) o.epoch
epochs_more low high [] o l h = (omega (arith, l, h), omega arith)
epochs_more low high (d ∷ done) o l h = (h.0, epochs_more d.epoch high done o l h.1)

begun_still : (before added : List JournalEntry) (done : List DoneOperation)
    → AllByRecursion (λ o. list_any (is_begin_of o.epoch) (session_part 1 before) ≡ true) done
    → AllByRecursion (λ o. list_any (is_begin_of o.epoch) (session_part 1 (before ++ added)) ≡ true) done
begun_still before added [] h = tt
begun_still before added (o ∷ done) h = (
  ap (list_any (is_begin_of o.epoch)) (filter-append (belongs_to 1) before added)
      ∙ list_any-append (is_begin_of o.epoch) (session_part 1 before) (session_part 1 added)
      ∙ ap (λ (b : Bool). b || list_any (is_begin_of o.epoch) (session_part 1 added)) h.0,
  begun_still before added done h.1,
)

pub order_at_first : (beginning : Beginning) → AreInEpochOrder (nothing_behind beginning) [] 0
order_at_first beginning = record { epochs = omega arith; begun = tt }

pub order_kept : (before after : SessionPast) (sentence : Sentence) (added : List JournalEntry)
    (done : List DoneOperation) (high : ℕ) → IsOneMore before after sentence added → AreInEpochOrder before done high
    → AreInEpochOrder after done high
order_kept before after sentence added done high m h = record {
  epochs = h.epochs;
  begun =
      coe 1 0 (i. AllByRecursion (λ o. list_any (is_begin_of o.epoch) (session_part 1 (m.journal i)) ≡ true) done)
      (begun_still before.journal added done h.begun);
}

pub order_more : (before after : SessionPast) (sentence : Sentence) (added : List JournalEntry)
    (done : List DoneOperation) (high : ℕ) (o : DoneOperation) → IsOneMore before after sentence added
    → AreInEpochOrder before done high → high ≤ o.epoch
    → list_any (is_begin_of o.epoch) (session_part 1 after.journal) ≡ true
    → AreInEpochOrder after (done ++ o ∷ []) o.epoch
order_more before after sentence added done high o m h l begun =
    let kept = order_kept before after sentence added done high m h in
    record {
      epochs = epochs_more 0 high done o l kept.epochs;
      begun =
          all_more (λ o. list_any (is_begin_of o.epoch) (session_part 1 after.journal) ≡ true) done o kept.begun begun;
    }
