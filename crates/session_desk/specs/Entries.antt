-- The entries that a round leaves which nothing can go wrong with.
-- Source: AOSI (ICDE 2018), flush rounds; that a round without a store keeps nothing is this project's own.
use Rattle.std.specs.Prelude.{◌≡◌, ℕ, ◌==◌, Bool, true, false, List, [], ◌∷◌, ◌++◌, if◌then◌else◌}
use Rattle.cube_journal.specs.Counters.{JournalState, target}
use Rattle.cube_journal.specs.declared.journal_entry.JournalEntry.{JournalEntry}
use Rattle.cube_journal.specs.declared.journal_entry.JournalEntry.TheVariants as entry
use Rattle.aosi_desk.specs.State.{state_of}
use Rattle.aosi_desk.specs.Desks.{DeskState}
use Rattle.session_desk.specs.AtDesk.{desk_with_entries}

-- Nothing is to be kept, or a round opens up to the target and ends as safe.
abbrev pub round_entries : JournalState → List JournalEntry
round_entries s =
    if target s == s.lse then entry.Idle (target s) ∷ [] else entry.Round (target s) ∷ entry.Safe (target s) ∷ []

-- What a round adds that follows a commit: a round and its end, and then what FLUSH and PURGE leave; or the refusal of
-- the round for want of memory.
pub data RoundAfter (statement : ℕ) (s : JournalState) : List JournalEntry → Type 0 where
  is_done : (epoch : ℕ) → RoundAfter statement s
      (round_entries s ++ entry.Flushed 1 statement ∷ entry.Purged 1 statement epoch ∷ [])
  wants_memory : RoundAfter statement s (entry.Refused 1 statement 16 ∷ [])

-- A desk has gained what FLUSH and PURGE note.
pub record HasNotes (statement : ℕ) (old new : DeskState) : Type 0 where
  pub epoch : ℕ
  pub desk_is : new
      ≡ desk_with_entries old (entry.Flushed 1 statement ∷ entry.Purged 1 statement epoch ∷ [])

-- A desk has gained the refusal of a statement.
pub record HasRefusal (statement : ℕ) (old new : DeskState) : Type 0 where
  pub code : ℕ
  pub desk_is : new ≡ desk_with_entries old (entry.Refused 1 statement code ∷ [])

-- What a commit has after it: a round where one is due, or nothing.
abbrev pub FollowsCommit : ℕ → JournalState → Bool → List JournalEntry → Type 0
FollowsCommit statement s true added = RoundAfter statement s added
FollowsCommit statement s false added = added ≡ []

-- A desk has gained that after a commit.
pub record HasFollowed (statement : ℕ) (is_due : Bool) (old new : DeskState) : Type 0 where
  pub added : List JournalEntry
  pub desk_is : new ≡ desk_with_entries old added
  pub follows : FollowsCommit statement (state_of old.register) is_due added
