-- What the entries of a statement that changes rows make of its session.
use Rattle.std.proofs.Common.{◌≡◌, ◌∙◌, ℕ, ◌+◌, Bool, true, false, ◌||◌, List, [], ◌∷◌, Option, Some, None, refl, sym, ap, subst, arith, eq-eqb}
use Rattle.std.specs.List.{list_any}
use Rattle.std.specs.Prelude.{count_by, unwrap_or}
use Rattle.std.proofs.lemmas.Bool.{false≢true}
use Rattle.std.proofs.lemmas.Option.{none-some}
use Rattle.core_states.specs.StandingInCore.{state_of_session}
use Rattle.core_states.specs.declared.session.CoreSession.{CoreSession}
use Rattle.cube_journal.specs.declared.journal_entry.AbortCause.{AbortCause}
use Rattle.cube_journal.specs.declared.journal_entry.AbortCause.TheVariants as abort
use Rattle.cube_journal.specs.declared.journal_entry.JournalEntry.{JournalEntry}
use Rattle.cube_journal.specs.declared.journal_entry.JournalEntry.TheVariants as entry
use Rattle.cube_journal.specs.declared.refusal.Refusal.TheVariants as refusal
use Rattle.cube_language.specs.declared.statement.Statement.{Statement}
use Rattle.cube_language.specs.declared.statement.Statement.TheVariants.{Insert, Load, Delete}
use Rattle.cube_run.specs.Merge.{RoundFollows}
use Rattle.cube_run.specs.RunRecords.{Says}
use Rattle.cube_run.specs.SessionStates.{KeptWatch, Mode, Idle, Open, Aborted, is_commit, mode_after, mode_after_abort, session_after, watch_after}
use Rattle.cube_run.specs.StatementEntries.{LeavesRound, is_aborted, is_change, round_done, round_lost, round_without_memory}
use Rattle.cube_run.specs.StepOutcomes.{refused_by_mode, refused_when_aborted}
use Rattle.cube_values.specs.declared.snapshot.Snapshot.{Snapshot}
use Rattle.core_changes.specs.ChangeEnds.{ChangeEnd, Failed, Finished, IsWriterFor, MayEndSo, RefusedBefore, change_entries, commits_after, counted_session, failed_mode, is_failure, round_due_after, session_after_change}
use Rattle.core_changes.specs.ChangesInRuns.{entries_of_change}
use Rattle.played_scripts.specs.PlayedRuns.{AreNumbered}
use Rattle.posted_pasts.specs.PostsBehind.{is_abort_of}
use Rattle.session_replies.specs.Modes.{mode_of}
use Rattle.session_replies.specs.declared.mode.SessionMode.{SessionMode}
use Rattle.session_replies.specs.declared.mode.SessionMode.TheVariants as variant

-- ---- which modes let a change

aborted-refuses : (s : Statement) → is_change s ≡ true → refused_when_aborted s ≡ Some refusal.TransactionAborted
aborted-refuses (Insert cube rows) h = refl
aborted-refuses (Load cube path reject) h = refl
aborted-refuses (Delete cube conds) h = refl
aborted-refuses s h = absurd (false≢true h)

pub change-needs-a-mode : (mode : Mode) (s : Statement) → is_change s ≡ true → refused_by_mode mode s ≡ None
    → is_aborted mode ≡ false
change-needs-a-mode Idle s changes may = refl
change-needs-a-mode (Open writer) s changes may = refl
change-needs-a-mode (Aborted epoch) s changes may =
    absurd (none-some refusal.TransactionAborted (sym may ∙ aborted-refuses s changes))

-- ---- the watch

keeps-watch : (watch : Option KeptWatch) (s : Statement) (entries : List JournalEntry) → is_change s ≡ true
    → watch ≡ watch_after watch (Says s) entries
keeps-watch None (Insert cube rows) entries h = refl
keeps-watch None (Load cube path reject) entries h = refl
keeps-watch None (Delete cube conds) entries h = refl
keeps-watch None s entries h = absurd (false≢true h)
keeps-watch (Some kept) (Insert cube rows) entries h = refl
keeps-watch (Some kept) (Load cube path reject) entries h = refl
keeps-watch (Some kept) (Delete cube conds) entries h = refl
keeps-watch (Some kept) s entries h = absurd (false≢true h)

-- ---- a round that follows

pub round-numbered : (i j : ℕ) (due : Bool) (round : List JournalEntry) → RoundFollows i j due round
    → AreNumbered j j round
round-numbered i j true round follows = of-round round follows
  where
    of-round : (round : List JournalEntry) → LeavesRound i j round → AreNumbered j j round
    of-round round (round_done epoch) = (omega arith, omega arith, (omega arith, omega arith, tt))
    of-round round round_without_memory = (omega arith, omega arith, tt)
    of-round round round_lost = (omega arith, omega arith, tt)
round-numbered i j false round follows = subst (λ (es : List JournalEntry). AreNumbered j j es) (sym follows) tt

one-commit : (i j : ℕ) (due : Bool) (round : List JournalEntry) (epoch : ℕ) (deps : List ℕ) → RoundFollows i j due round
    → count_by is_commit (entry.Begin i j epoch deps ∷ entry.Committed i j epoch ∷ round) ≡ 1
one-commit i j true round epoch deps follows = of-round round follows
  where
    of-round : (round : List JournalEntry) → LeavesRound i j round
        → count_by is_commit (entry.Begin i j epoch deps ∷ entry.Committed i j epoch ∷ round) ≡ 1
    of-round round (round_done at) = refl
    of-round round round_without_memory = refl
    of-round round round_lost = refl
one-commit i j false round epoch deps follows =
    ap (λ (es : List JournalEntry). count_by is_commit (entry.Begin i j epoch deps ∷ entry.Committed i j epoch ∷ es))
    follows

-- ---- by the mode

failure-aborts : (epoch : ℕ) (cause : AbortCause) → is_failure cause ≡ true
    → mode_after_abort epoch cause ≡ Aborted epoch
failure-aborts epoch abort.Asked h = absurd (false≢true h)
failure-aborts epoch abort.EndOfScript h = absurd (false≢true h)
failure-aborts epoch abort.TooManyRejected h = refl
failure-aborts epoch abort.ReadFault h = refl
failure-aborts epoch abort.NoMemory h = refl
failure-aborts epoch (abort.ShardFull shard rows) h = refl

module _ (i j : ℕ) (writer : Snapshot) where
  module _ (every commits : ℕ) (round : List JournalEntry) where
    abbrev Follows : Mode → Type 0
    Follows mode = RoundFollows i j (round_due_after every mode commits) round

    finished-keeps-mode : (mode : Mode) → IsWriterFor mode writer → Follows mode
        → mode ≡ mode_after mode (change_entries i j mode (Finished writer round))
    finished-keeps-mode Idle is follows = refl
    finished-keeps-mode (Open held) is follows =
        sym (ap (λ (es : List JournalEntry). mode_after (Open held) es) follows)
    finished-keeps-mode (Aborted epoch) is follows = absurd is

    finished-commits : (mode : Mode) (n : ℕ) → IsWriterFor mode writer → Follows mode
        → commits_after mode n ≡ n + count_by is_commit (change_entries i j mode (Finished writer round))
    finished-commits Idle n is follows =
        ap (λ (k : ℕ). n + k) (sym (one-commit i j (round_due_after every Idle commits) round writer.epoch writer.deps follows))
    finished-commits (Open held) n is follows =
        let none : n ≡ n + 0 = omega arith in
        none ∙ ap (λ (es : List JournalEntry). n + count_by is_commit es) (sym follows)
    finished-commits (Aborted epoch) n is follows = absurd is

    finished-numbered : (mode : Mode) → IsWriterFor mode writer → Follows mode
        → AreNumbered j j (change_entries i j mode (Finished writer round))
    finished-numbered Idle is follows =
        let rest = round-numbered i j (round_due_after every Idle commits) round follows in
        (omega arith, omega arith, (omega arith, omega arith, rest))
    finished-numbered (Open held) is follows = round-numbered i j false round follows
    finished-numbered (Aborted epoch) is follows = absurd is

  module _ (cause : AbortCause) (fails : is_failure cause ≡ true) where
    failed-mode-is : (mode : SessionMode) → IsWriterFor (mode_of mode) writer
        → mode_of (failed_mode mode) ≡ mode_after (mode_of mode) (change_entries i j (mode_of mode) (Failed writer cause))
    failed-mode-is variant.Idle is = refl
    failed-mode-is (variant.Open held) is =
        ap (λ (w : Snapshot). Aborted w.epoch) (sym is) ∙ sym (failure-aborts writer.epoch cause fails)
    failed-mode-is (variant.Aborted epoch) is = absurd is

    failed-commits : (mode : Mode) (n : ℕ) → IsWriterFor mode writer
        → n ≡ n + count_by is_commit (change_entries i j mode (Failed writer cause))
    failed-commits Idle n is = omega arith
    failed-commits (Open held) n is = omega arith
    failed-commits (Aborted epoch) n is = absurd is

    failed-numbered : (mode : Mode) → IsWriterFor mode writer
        → AreNumbered j j (change_entries i j mode (Failed writer cause))
    failed-numbered Idle is = (omega arith, omega arith, (omega arith, omega arith, tt))
    failed-numbered (Open held) is = (omega arith, omega arith, tt)
    failed-numbered (Aborted epoch) is = absurd is

  -- The epoch of its writer is aborted.
  pub failed-aborts : (cause : AbortCause) (mode : Mode) → IsWriterFor mode writer
      → list_any (is_abort_of writer.epoch) (change_entries i j mode (Failed writer cause)) ≡ true
  failed-aborts cause Idle is = ap (λ (b : Bool). b || false) (eq-eqb writer.epoch writer.epoch refl)
  failed-aborts cause (Open held) is = ap (λ (b : Bool). b || false) (eq-eqb writer.epoch writer.epoch refl)
  failed-aborts cause (Aborted epoch) is = absurd is

refused-keeps-mode : (mode : Mode) (i j n : ℕ) → mode ≡ mode_after mode (entry.Refused i j n ∷ [])
refused-keeps-mode Idle i j n = refl
refused-keeps-mode (Open writer) i j n = refl
refused-keeps-mode (Aborted epoch) i j n = refl

-- ---- by the end

-- The entries are the statement's.
pub end-numbered : (old : CoreSession) (end : ChangeEnd) → MayEndSo (counted_session old) end
    → AreNumbered (old.statements + 1) (old.statements + 1) (entries_of_change old end)
end-numbered old (Finished writer round) may =
    finished-numbered old.number (old.statements + 1) writer (unwrap_or old.round_every 0) old.commits round
    (mode_of old.mode) may.0 may.1
end-numbered old (Failed writer cause) may =
    failed-numbered old.number (old.statements + 1) writer cause may.1 (mode_of old.mode) may.0
end-numbered old (RefusedBefore code) may = (omega arith, omega arith, tt)

-- The session is what they make of it.
pub end-becomes : (old : CoreSession) (end : ChangeEnd) (s : Statement) (watch : Option KeptWatch) → is_change s ≡ true
    → MayEndSo (counted_session old) end
    → state_of_session (session_after_change (counted_session old) end) watch
    ≡ session_after (state_of_session old watch) (Says s) (entries_of_change old end)
end-becomes old (Finished writer round) s watch changes may = λ i. record {
  mode =
      finished-keeps-mode old.number (old.statements + 1) writer (unwrap_or old.round_every 0) old.commits round
      (mode_of old.mode) may.0 may.1 i;
  watch = keeps-watch watch s (entries_of_change old (Finished writer round)) changes i;
  commits =
      finished-commits old.number (old.statements + 1) writer (unwrap_or old.round_every 0) old.commits round
      (mode_of old.mode) old.commits may.0 may.1 i;
}
end-becomes old (Failed writer cause) s watch changes may = λ i. record {
  mode = failed-mode-is old.number (old.statements + 1) writer cause may.1 old.mode may.0 i;
  watch = keeps-watch watch s (entries_of_change old (Failed writer cause)) changes i;
  commits =
      failed-commits old.number (old.statements + 1) writer cause may.1 (mode_of old.mode) old.commits may.0 i;
}
end-becomes old (RefusedBefore code) s watch changes may =
    let none : old.commits ≡ old.commits + 0 = omega arith in
    λ i. record {
      mode = refused-keeps-mode (mode_of old.mode) old.number (old.statements + 1) code i;
      watch = keeps-watch watch s (entries_of_change old (RefusedBefore code)) changes i;
      commits = none i;
    }
