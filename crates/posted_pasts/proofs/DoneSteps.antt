-- Steps that do nothing to rows, and rows of one cube.
use Rattle.std.proofs.Common.{◌≡◌, ◌≢◌, ◌∙◌, ℕ, Bool, true, false, true≢false, cond, List, [], ◌∷◌, Option, Some, None, refl, sym, ap}
use Rattle.std.specs.Str.{bytes_eq}
use Rattle.std.proofs.lemmas.Bool.{false≢true, false_from_ne_true}
use Rattle.std.proofs.lemmas.Slice.Eq.{bytes_eq-Decides}
use Rattle.cube_journal.specs.Refusals.{code}
use Rattle.cube_journal.specs.declared.journal_entry.JournalEntry.{JournalEntry}
use Rattle.cube_journal.specs.declared.journal_entry.JournalEntry.TheVariants as entry
use Rattle.cube_journal.specs.declared.refusal.Refusal.{Refusal}
use Rattle.cube_journal.specs.declared.reply.Reply.{Reply}
use Rattle.cube_journal.specs.declared.reply.Reply.TheVariants as reply
use Rattle.cube_language.specs.declared.statement.Statement.{Statement}
use Rattle.cube_language.specs.declared.statement.Statement.TheVariants.{Insert, Load, Delete}
use Rattle.cube_language.specs.declared.statement.Statement.TheVariants as asked
use Rattle.cube_run.specs.RunRecords.{Catalog, LoadedFile, RunRecord, Says, SaysNone, Sentence, catalog_of}
use Rattle.cube_run.specs.Merge.{IsOutcome}
use Rattle.cube_run.specs.RunText.{IsReply, done_reply, reply_of}
use Rattle.cube_run.specs.RunTransactions.{epoch_done, operation_asked, operation_at, rows_of_cube}
use Rattle.cube_run.specs.SessionStates.{KeptWatch, Mode, Idle, Open, Aborted, first_holder, other_holder}
use Rattle.cube_run.specs.SessionSteps.{SessionStep}
use Rattle.cube_run.specs.StatementEntries.{Outcome, Done, RefusedWith, Leaves, select_idle, select_idle_without_memory, select_open, change_idle, change_idle_ended, change_open, change_open_ended, begin_done, commit_done, rollback_of_open, rollback_of_aborted, flush_done, purge_done, show_done, create_done, watch_done, watch_without_memory, show_watch_done, show_watch_without_memory, other_refusal, entries_to_commit, is_change}
use Rattle.cube_values.specs.declared.row.Row.{Row}
use Rattle.cube_values.specs.declared.row.StoredRow.{StoredRow}
use Rattle.one_session.specs.Changes.{rows_in_cube}
use Rattle.posted_pasts.specs.DoneChanges.{HasNoOperation}

nothing-asked : (number : ℕ) (epoch : Option ℕ) → operation_at number epoch None ≡ None
nothing-asked number None = refl
nothing-asked number (Some epoch) = refl

pub by-no-statement : (run : RunRecord) (step : SessionStep) (at : ℕ) → step.sentence ≡ SaysNone at
    → HasNoOperation run step
by-no-statement run step at is =
    ap (λ (s : Sentence). operation_at step.number (epoch_done step.state.mode step.entries)
    (operation_asked (catalog_of run) step.file s)) is
    ∙ nothing-asked step.number (epoch_done step.state.mode step.entries)

asks-nothing : (catalog : Catalog) (file : LoadedFile) (s : Statement) → is_change s ≡ false
    → operation_asked catalog file (Says s) ≡ None
asks-nothing catalog file (Insert cube rows) not = absurd (false≢true (sym not))
asks-nothing catalog file (Load cube path reject) not = absurd (false≢true (sym not))
asks-nothing catalog file (Delete cube conds) not = absurd (false≢true (sym not))
asks-nothing catalog file s not = refl

pub by-no-change : (run : RunRecord) (step : SessionStep) (s : Statement) → step.sentence ≡ Says s
    → is_change s ≡ false → HasNoOperation run step
by-no-change run step s is not =
    ap (operation_at step.number (epoch_done step.state.mode step.entries))
    (ap (operation_asked (catalog_of run) step.file) is ∙ asks-nothing (catalog_of run) step.file s not)
    ∙ nothing-asked step.number (epoch_done step.state.mode step.entries)

read-not-done : (mode : Mode) (number statement epoch : ℕ) (later : List JournalEntry)
    → epoch_done mode (entry.Read number statement epoch ∷ later) ≡ None
read-not-done Idle number statement epoch later = refl
read-not-done (Open writer) number statement epoch later = refl
read-not-done (Aborted aborted) number statement epoch later = refl

refused-not-done : (mode : Mode) (number statement found : ℕ) (later : List JournalEntry)
    → epoch_done mode (entry.Refused number statement found ∷ later) ≡ None
refused-not-done Idle number statement found later = refl
refused-not-done (Open writer) number statement found later = refl
refused-not-done (Aborted epoch) number statement found later = refl

-- Where a statement was refused, it was done at no epoch.
abbrev NotDoneIfRefused : Outcome → Option ℕ → Type 0
NotDoneIfRefused Done epoch = Unit {0}
NotDoneIfRefused (RefusedWith r) epoch = epoch ≡ None

not-done : {i j : ℕ} {mode : Mode} {watch : Option KeptWatch} {sentence : Sentence} {outcome : Outcome}
    {entries : List JournalEntry} → Leaves i j mode watch sentence outcome entries
    → NotDoneIfRefused outcome (epoch_done mode entries)
not-done (select_idle epoch is) = tt
not-done (select_idle_without_memory epoch is) = refl
not-done (select_open is) = tt
not-done (change_idle epoch deps is) = tt
not-done (change_idle_ended epoch deps cause is by) = refl
not-done (change_open is) = tt
not-done (change_open_ended cause is by) = refl
not-done (begin_done epoch deps) = tt
not-done commit_done = tt
not-done rollback_of_open = tt
not-done rollback_of_aborted = tt
not-done flush_done = tt
not-done (purge_done epoch) = tt
not-done show_done = tt
not-done (create_done epoch) = tt
not-done (watch_done epoch is) = tt
not-done {i = i} {j = j} {mode = mode} (watch_without_memory epoch is can) =
    read-not-done mode (first_holder i) j epoch (entry.ReadEnd (first_holder i) j ∷ entry.Refused i j 16 ∷ [])
not-done (show_watch_done epoch) = tt
not-done {i = i} {j = j} {mode = mode} (show_watch_without_memory {kept = kept} epoch can) =
    read-not-done mode (other_holder i kept.holder) j epoch
    (entry.ReadEnd (other_holder i kept.holder) j ∷ entry.Refused i j 16 ∷ [])
not-done {i = i} {j = j} {mode = mode} (other_refusal {r = r} is) = refused-not-done mode i j (code r) []

-- What follows a commit changes nothing of that.
not-done-later : (mode : Mode) (entries : List JournalEntry) → epoch_done mode (entries_to_commit entries) ≡ None
    → epoch_done mode entries ≡ None
not-done-later Idle (entry.Begin session statement epoch deps ∷ entry.Committed other same done ∷ later) h = h
not-done-later (Open writer) [] h = h
not-done-later mode entries h = refl

pub by-outcome : (run : RunRecord) (step : SessionStep) (r : Refusal) → IsOutcome run step (RefusedWith r)
    → HasNoOperation run step
by-outcome run step r h =
    ap (λ (epoch : Option ℕ). operation_at step.number epoch (operation_asked (catalog_of run) step.file step.sentence))
    (not-done-later step.state.mode step.entries (not-done h.leaves))

-- No statement that is done is answered with a refusal.
abbrev is_refusal_reply : Reply → Bool
is_refusal_reply (reply.Refused r) = true
is_refusal_reply said = false

done-not-refused : (run : RunRecord) (step : SessionStep) (s : Statement)
    → is_refusal_reply (done_reply run step s) ≡ false
done-not-refused run step (asked.Select items cube conds group having order limit) = refl
done-not-refused run step (asked.Insert cube rows) = refl
done-not-refused run step (asked.Load cube path reject) = refl
done-not-refused run step (asked.Delete cube conds) = refl
done-not-refused run step asked.Begin = refl
done-not-refused run step asked.Commit = refl
done-not-refused run step asked.Rollback = refl
done-not-refused run step asked.Flush = refl
done-not-refused run step asked.Purge = refl
done-not-refused run step asked.ShowEpochs = refl
done-not-refused run step (asked.CreateCube d) = refl
done-not-refused run step (asked.Watch items cube conds group) = refl
done-not-refused run step asked.ShowWatch = refl

pub by-reply : (run : RunRecord) (step : SessionStep) (r : Refusal) → IsReply run step (reply.Refused r)
    → HasNoOperation run step
by-reply run step r h = at step.sentence refl h.outcome h.ends h.is
  where
    at : (sentence : Sentence) → step.sentence ≡ sentence → (outcome : Outcome) → IsOutcome run step outcome
        → reply.Refused r ≡ reply_of run step sentence outcome → HasNoOperation run step
    at sentence same (RefusedWith other) ends is = by-outcome run step other ends
    at (Says s) same Done ends is = absurd (true≢false (ap is_refusal_reply is ∙ done-not-refused run step s))
    at (SaysNone place) same Done ends is = by-no-statement run step place same

-- ---- rows of one cube

pub own-rows : (name : List ℕ) (rows : List Row) → rows_in_cube name (rows_of_cube name rows) ≡ rows_of_cube name rows
own-rows name [] = refl
own-rows name (row ∷ rows) =
    ap (λ (b : Bool). cond b (record { cube = name; row = row } ∷ rows_in_cube name (rows_of_cube name rows))
    (rows_in_cube name (rows_of_cube name rows))) ((bytes_eq-Decides name name).1 refl)
    ∙ ap (λ (stored : List StoredRow). record { cube = name; row = row } ∷ stored) (own-rows name rows)

pub no-rows : (name other : List ℕ) → other ≢ name → (rows : List Row)
    → rows_in_cube other (rows_of_cube name rows) ≡ []
no-rows name other differ [] = refl
no-rows name other differ (row ∷ rows) =
    let apart : bytes_eq name other ≡ false =
    false_from_ne_true (bytes_eq name other) (λ same. differ (sym ((bytes_eq-Decides name other).0 same)))
    in
    ap (λ (b : Bool). cond b (record { cube = name; row = row } ∷ rows_in_cube other (rows_of_cube name rows))
    (rows_in_cube other (rows_of_cube name rows))) apart
    ∙ no-rows name other differ rows
