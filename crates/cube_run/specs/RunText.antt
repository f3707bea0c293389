-- What each statement is answered, and the text of a run, by what is on record of it.
-- Source: AOSI (ICDE 2018) for what a query reads; the rest is this project's own.
use Rattle.std.specs.Prelude.{◌≡◌, ℕ, false, List, [], ◌∷◌, length, take, Option, Some, None, unwrap_or}
use Rattle.std.specs.List.{AllZip, enumerate_from}
use Rattle.cube_values.specs.declared.snapshot.Snapshot.{Snapshot}
use Rattle.cube_values.specs.declared.table.Field.{Field}
use Rattle.cube_values.specs.declared.operation.Transaction.{Transaction}
use Rattle.cube_values.specs.Answer.{answer}
use Rattle.cube_values.specs.First.{first_rows}
use Rattle.cube_values.specs.Visible.{visible_rows}
use Rattle.cube_language.specs.declared.statement.Statement.{Statement}
use Rattle.cube_language.specs.declared.statement.Statement.TheVariants.{Select, Insert, Load, Delete, Begin, Commit, Rollback, Flush, Purge, ShowEpochs, CreateCube, Watch, ShowWatch}
use Rattle.cube_language.specs.ResolvedNames.{resolved_query, resolved_plan}
use Rattle.cube_journal.specs.declared.journal_entry.JournalEntry.{JournalEntry}
use Rattle.cube_journal.specs.declared.journal_entry.JournalEntry.TheVariants as entry
use Rattle.cube_journal.specs.declared.refusal.Refusal.TheVariants as refusal
use Rattle.cube_journal.specs.declared.reply.Reply.{Reply}
use Rattle.cube_journal.specs.declared.reply.Reply.TheVariants as reply
use Rattle.cube_journal.specs.Counters.{JournalState, journal_state, counters, lce}
use Rattle.cube_journal.specs.WholeText.{whole_text, generated_text}
use Rattle.cube_run.specs.LoadedRows.{load_records, rows_among, rejections_among}
use Rattle.cube_run.specs.Merge.{IsOutcome}
use Rattle.cube_run.specs.RunRecords.{RunRecord, Sentence, Says, SaysNone, Catalog, catalog_of, declaration_of, cube_needed, script_of}
use Rattle.cube_run.specs.RunTransactions.{epoch_done, run_transactions, transactions_inside}
use Rattle.cube_run.specs.SessionStates.{Mode, Idle, Open, Aborted, KeptWatch}
use Rattle.cube_run.specs.SessionSteps.{SessionStep, journal_before, steps_of}
use Rattle.cube_run.specs.StatementEntries.{Outcome, Done, RefusedWith}

-- A reader at an epoch.
abbrev pub reader_of : ℕ → Snapshot
reader_of epoch = record { epoch = epoch; deps = []; own = false }

-- The epoch that the first of some entries has.
abbrev pub epoch_in : List JournalEntry → ℕ
epoch_in (entry.Begin session statement epoch deps ∷ later) = epoch
epoch_in (entry.Read session statement epoch ∷ later) = epoch
epoch_in (entry.Purged session statement epoch ∷ later) = epoch
epoch_in (entry.Cube session statement epoch ∷ later) = epoch
epoch_in entries = 0

-- The epoch of the transaction that a session has.
abbrev pub epoch_of_mode : Mode → ℕ
epoch_of_mode Idle = 0
epoch_of_mode (Open writer) = writer.epoch
epoch_of_mode (Aborted epoch) = epoch

-- How many rejections of a LOAD are shown at most.
abbrev pub shown_rejections : ℕ
shown_rejections = 100

-- A SELECT reads with the reader that it opened, or at the snapshot of the transaction that is open.
abbrev pub snapshot_read : Mode → List JournalEntry → Snapshot
snapshot_read (Open writer) entries = writer
snapshot_read mode entries = reader_of (epoch_in entries)

-- What there is to read: in an open transaction that has its statements so far.
abbrev pub transactions_read : RunRecord → SessionStep → Mode → List Transaction
transactions_read run step (Open writer) =
    transactions_inside run step.session (script_of run step.session) step.number writer.epoch
transactions_read run step mode = run_transactions run

-- The answer to a SELECT or a WATCH over what a snapshot sees.
abbrev pub table_seen : Catalog → Statement → Snapshot → List Transaction → List (List Field)
table_seen catalog s snapshot ts =
    answer
    (resolved_query (declaration_of catalog (unwrap_or (cube_needed s) [])) s)
    (visible_rows snapshot ts)

-- A SELECT is answered with the first lines of its table.
abbrev pub select_reply : RunRecord → SessionStep → Statement → Reply
select_reply run step s =
    let snapshot = snapshot_read step.state.mode step.entries in
    reply.Rows snapshot.epoch
    (first_rows (resolved_plan s)
    (table_seen (catalog_of run) s snapshot (transactions_read run step step.state.mode)))

-- A watch is shown as its reader sees it.
abbrev pub watching_reply : RunRecord → List JournalEntry → Statement → Reply
watching_reply run entries s =
    let epoch = epoch_in entries in
    reply.Watching epoch (table_seen (catalog_of run) s (reader_of epoch) (run_transactions run))

-- The WATCH of the watch that a session has, or else a statement.
abbrev pub watch_asked : Option KeptWatch → Statement → Statement
watch_asked (Some kept) s = kept.asked
watch_asked None s = s

-- A LOAD is answered with how many records were stored and how many were not, and the first of these.
abbrev pub loaded_reply : RunRecord → SessionStep → List ℕ → ℕ → ℕ → Reply
loaded_reply run step cube reject epoch =
    let records = load_records (catalog_of run) cube reject step.file in
    reply.Loaded (length (rows_among records)) (length (rejections_among records))
    (take shown_rejections (rejections_among records)) epoch

-- The counters before the first entry of a step.
abbrev pub state_before : RunRecord → SessionStep → JournalState
state_before run step = journal_state run.safe (journal_before step.session step.number run.journal)

-- The epoch at which a step changed rows.
abbrev pub epoch_changed : SessionStep → ℕ
epoch_changed step = unwrap_or (epoch_done step.state.mode step.entries) 0

-- What a statement is answered that is done.
abbrev pub done_reply : RunRecord → SessionStep → Statement → Reply
done_reply run step (Select items cube conds group having order limit) =
    select_reply run step (Select items cube conds group having order limit)
done_reply run step (Insert cube rows) = reply.Stored (length rows) (epoch_changed step)
done_reply run step (Load cube path reject) = loaded_reply run step cube reject (epoch_changed step)
done_reply run step (Delete cube conds) = reply.Dropped (epoch_changed step)
done_reply run step Begin = reply.Begun (epoch_in step.entries)
done_reply run step Commit = reply.Committed (epoch_of_mode step.state.mode)
done_reply run step Rollback = reply.RolledBack (epoch_of_mode step.state.mode)
done_reply run step Flush = reply.Flushed (state_before run step).lse
done_reply run step Purge = reply.Purged (epoch_in step.entries)
done_reply run step ShowEpochs =
    reply.Epochs (counters run.safe (journal_before step.session step.number run.journal))
done_reply run step (CreateCube d) = reply.Created (epoch_in step.entries)
done_reply run step (Watch items cube conds group) = watching_reply run step.entries (Watch items cube conds group)
done_reply run step ShowWatch = watching_reply run step.entries (watch_asked step.state.watch ShowWatch)

-- What a statement is answered. A text that spells none is never done.
abbrev pub reply_of : RunRecord → SessionStep → Sentence → Outcome → Reply
reply_of run step sentence (RefusedWith r) = reply.Refused r
reply_of run step (Says s) Done = done_reply run step s
reply_of run step (SaysNone at) Done = reply.Refused (refusal.Syntax (record { at = at }))

-- The reply to a statement, which may end so.
pub record IsReply (run : RunRecord) (step : SessionStep) (said : Reply) : Type 0 where
  pub outcome : Outcome
  pub ends : IsOutcome run step outcome
  pub is : said ≡ reply_of run step step.sentence outcome

-- The replies to the statements of a session.
abbrev pub AreSessionReplies : RunRecord → ℕ × List Sentence → List Reply → Type 0
AreSessionReplies run p replies = AllZip (IsReply run) (steps_of run p.0 p.1) replies

-- The replies to the statements of each session.
abbrev pub AreReplies : RunRecord → List (List Reply) → Type 0
AreReplies run replies = AllZip (AreSessionReplies run) (enumerate_from 1 run.scripts) replies

-- The text of a run: its replies, its journal and its last counters.
pub record IsText (run : RunRecord) (text : List ℕ) : Type 0 where
  pub replies : List (List Reply)
  pub answers : AreReplies run replies
  pub whole : text ≡ whole_text run.safe replies run.journal

-- The replies of a run over generated rows: the first session stores its part and asks the closing query, which reads
-- at this epoch and has this table; the others store theirs.
pub record ClosesWith (replies : List (List Reply)) (epoch : ℕ) (table : List (List Field)) : Type 0 where
  pub stored : Reply
  pub others : List (List Reply)
  pub are : replies ≡ (stored ∷ reply.Rows epoch table ∷ []) ∷ others

-- The text of a run over so many generated rows. Its closing query reads at the last LCE.
pub record IsGeneratedText (run : RunRecord) (rows : ℕ) (text : List ℕ) : Type 0 where
  pub replies : List (List Reply)
  pub table : List (List Field)
  pub answers : AreReplies run replies
  pub closes : ClosesWith replies (lce (journal_state run.safe run.journal)) table
  pub whole : text ≡ generated_text run.safe rows table run.journal
