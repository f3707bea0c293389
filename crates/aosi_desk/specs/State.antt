-- What contracts see of a register, and what its calls answer.
-- Source: AOSI (ICDE 2018), begin, commit and abort of a transaction; rounds are this project's own.
use Rattle.std.specs.Prelude.{◌≡◌, ℕ, ◌+◌, ◌==◌, List, [], ◌∷◌, ◌++◌, true, false, if◌then◌else◌, IsSomeAnd}
use Rattle.std.specs.Option.{option_map_or}
use Rattle.cube_values.specs.declared.snapshot.Snapshot.{Snapshot}
use Rattle.cube_journal.specs.declared.journal_entry.AbortCause.{AbortCause}
use Rattle.cube_journal.specs.declared.journal_entry.JournalEntry.{JournalEntry}
use Rattle.cube_journal.specs.declared.journal_entry.JournalEntry.TheVariants as entry
use Rattle.cube_journal.specs.Counters.{JournalState, journal_state, lce, target, held_by}
use Rattle.aosi_desk.specs.declared.answer.RoundAnswer.{RoundAnswer}
use Rattle.aosi_desk.specs.declared.answer.RoundAnswer.TheVariants.{Target, Nothing}
use Rattle.aosi_desk.specs.declared.answer.RoundEnd.{RoundEnd}
use Rattle.aosi_desk.specs.declared.answer.RoundEnd.TheVariants.{Safe, Lost}

-- The epoch that was safe when the run began, the number of sessions, and the journal since.
pub record RegisterState : Type 0 where
  pub safe : ℕ
  pub sessions : ℕ
  pub journal : List JournalEntry

-- What its journal has come to.
abbrev pub state_of : RegisterState → JournalState
state_of r = journal_state r.safe r.journal

-- The register with one more entry.
abbrev pub with_entry : RegisterState → JournalEntry → RegisterState
with_entry r e = record r { journal = r.journal ++ e ∷ [] }

-- The snapshot of a transaction that begins.
abbrev pub writer_snapshot : JournalState → Snapshot
writer_snapshot s = record { epoch = s.ec; deps = s.pending; own = true }

-- The snapshot of a reader that opens.
abbrev pub reader_snapshot : JournalState → Snapshot
reader_snapshot s = record { epoch = lce s; deps = []; own = false }

-- The session holds a writer.
abbrev pub IsWriting : JournalState → ℕ → Type 0
IsWriting s session = IsSomeAnd (held_by s.snapshots session) (λ h. h.own ≡ true)

-- The epoch of the snapshot that a session holds.
abbrev pub held_epoch : JournalState → ℕ → ℕ
held_epoch s session = option_map_or (λ h. h.epoch) (held_by s.snapshots session) 0

-- What asking for a round gives: the target, or nothing where that is LSE.
abbrev pub round_answer : JournalState → RoundAnswer
round_answer s = if target s == s.lse then Nothing (target s) else Target s.lse (target s)

-- The entry of that answer.
abbrev pub answer_entry : RoundAnswer → JournalEntry
answer_entry (Nothing epoch) = entry.Idle epoch
answer_entry (Target from epoch) = entry.Round epoch

-- The entry that closes a round.
abbrev pub end_entry : ℕ → RoundEnd → JournalEntry
end_entry epoch Safe = entry.Safe epoch
end_entry epoch (Lost cause) = entry.RoundLost epoch cause

-- The register after a writer or a reader with this snapshot was opened.
abbrev pub after_begin : RegisterState → ℕ → ℕ → Snapshot → RegisterState
after_begin r session statement s = with_entry r (entry.Begin session statement s.epoch s.deps)

abbrev pub after_read : RegisterState → ℕ → ℕ → Snapshot → RegisterState
after_read r session statement s = with_entry r (entry.Read session statement s.epoch)

-- The register after the session's writer ended.
abbrev pub after_commit : RegisterState → ℕ → ℕ → RegisterState
after_commit r session statement = with_entry r (entry.Committed session statement (held_epoch (state_of r) session))

abbrev pub after_abort : RegisterState → ℕ → ℕ → AbortCause → RegisterState
after_abort r session statement cause =
    with_entry r (entry.Aborted session statement (held_epoch (state_of r) session) cause)

-- The register after a cube took an epoch.
abbrev pub after_cube : RegisterState → ℕ → ℕ → ℕ → RegisterState
after_cube r session statement epoch = with_entry r (entry.Cube session statement epoch)

-- The register after this was answered to who asked for a round.
abbrev pub after_answer : RegisterState → RoundAnswer → RegisterState
after_answer r answer = with_entry r (answer_entry answer)
