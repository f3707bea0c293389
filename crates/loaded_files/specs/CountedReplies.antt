-- What replies show of the counts of the shelf from which the files of their LOADs are read.
-- Source: this project's own.
use Rattle.std.specs.Prelude.{◌≡◌, ℕ, List, [], ◌∷◌, ◌++◌}
use Rattle.cube_journal.specs.declared.refusal.Refusal.TheVariants as refusal
use Rattle.cube_journal.specs.declared.reply.Reply.{Reply}
use Rattle.cube_journal.specs.declared.reply.Reply.TheVariants as reply
use Rattle.outside.specs.Counts.{Rose}

-- The count of faults rose where the file of a LOAD could not be read, and with any other reply it stays.
abbrev pub CountsFault : Reply → ℕ → ℕ → Type 0
CountsFault (reply.Refused refusal.ReadFault) before now = Rose before now
CountsFault said before now = now ≡ before

-- The count of absences rose where the file of a LOAD is not there, and with any other reply it stays.
abbrev pub CountsAbsence : Reply → ℕ → ℕ → Type 0
CountsAbsence (reply.Refused refusal.NoSuchFile) before now = Rose before now
CountsAbsence said before now = now ≡ before

-- From one reply to the next a count goes on as each of them shows it.
abbrev pub CountsEach : (Reply → ℕ → ℕ → Type 0) → List Reply → ℕ → ℕ → Type 0
CountsEach Counts [] before now = now ≡ before
CountsEach Counts (said ∷ replies) before now =
    (between : ℕ) × Counts said before between × CountsEach Counts replies between now

-- Replies were added, which show how the faults and the absences of the shelf were counted.
pub record GainsReplies (before after : List Reply) (faults new_faults absences new_absences : ℕ) : Type 0 where
  pub gained : List Reply
  pub are : after ≡ before ++ gained
  pub count_faults : CountsEach CountsFault gained faults new_faults
  pub count_absences : CountsEach CountsAbsence gained absences new_absences
