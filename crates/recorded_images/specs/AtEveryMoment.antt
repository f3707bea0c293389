-- What a crash leaves of the two disks of a store at any moment of a run, round by round.
--
--   where a round is opened   two images stand for what is kept of the run up to LSE
--   at every moment of it     for that, or for what is kept up to the epoch of the round
--   at the end of the run     for what is kept up to LSE; where the store was lost, for that or for a round more
--
-- Source: AOSI (ICDE 2018), LSE and recovery; Cubrick (VLDB 2016), flush rounds; two files are this project's own.
use Rattle.std.specs.Prelude.{◌≡◌, ◌⊎◌, ℕ, Bool, true, false, List, [], ◌∷◌}
use mathlib.Core.List.{IsPrefix}
use Rattle.cube_journal.specs.Counters.{counters}
use Rattle.cube_journal.specs.declared.journal_entry.JournalEntry.{JournalEntry}
use Rattle.outside_disk.specs.Views.{View}
use Rattle.round_store.specs.States.{WhereTold}
use Rattle.recorded_images.specs.RecordedImages.{has_lost_store}

-- Two images stand for what is kept of a run up to an epoch.
abbrev pub ImageClaim : Type 1
ImageClaim = ℕ → List ℕ → List ℕ → Type 0

-- Two disks of a store.
pub record TwoDisks (D : Type 0) : Type 0 where
  pub first : D
  pub second : D

-- A round: the disks where it was opened, the journal by then, up to which epoch the run was kept on them, and the epoch
-- of the round.
pub record RoundOnDisks (D : Type 0) : Type 0 where
  pub disks : TwoDisks D
  pub journal : List JournalEntry
  pub kept_to : ℕ
  pub epoch : ℕ

-- LSE by a journal of a run that was begun with this safe epoch.
abbrev pub lse_by : ℕ → List JournalEntry → ℕ
lse_by safe journal = (counters safe journal).lse

-- Two images stand for what is kept up to the one epoch or the other.
abbrev pub StandForOneOf : ImageClaim → ℕ → ℕ → List ℕ → List ℕ → Type 0
StandForOneOf Stand kept_to epoch one two = Stand kept_to one two ⊎ Stand epoch one two

module _ {D : Type 0} (view : D → View) where
  -- This holds of each two images that a crash now may leave.
  abbrev pub HoldsNow : TwoDisks D → (List ℕ → List ℕ → Type 0) → Type 0
  HoldsNow now P = (one two : List ℕ) → (view now.first).image one → (view now.second).image two → P one two

  -- It holds of each two that a crash might have left at any moment since the disks were as before.
  abbrev pub HoldsSince : TwoDisks D → TwoDisks D → (List ℕ → List ℕ → Type 0) → Type 0
  HoldsSince before now P =
      (one two : List ℕ) → (view now.first).since (view before.first).moment one
      → (view now.second).since (view before.second).moment two → P one two

  module _ (Stand : ImageClaim) (safe : ℕ) where
    -- A round, with the disks, the epoch up to which the run was kept on them and the journal once it had ended. Until then
    -- the run was kept up to LSE, as the journal had it.
    pub record IsKeptMeanwhile (round : RoundOnDisks D) (after : TwoDisks D) (kept_to : ℕ) (journal : List JournalEntry)
        : Type 0 where
      pub by_then : IsPrefix round.journal journal
      pub up_to_lse : round.kept_to ≡ lse_by safe round.journal
      pub before : HoldsNow round.disks (Stand round.kept_to)
      pub meanwhile : HoldsSince round.disks after (StandForOneOf Stand round.kept_to round.epoch)
      pub up_to : (kept_to ≡ round.kept_to) ⊎ (kept_to ≡ round.epoch)

    -- Rounds, the newest first, each on the disks that the one before it left.
    abbrev pub AreKeptInTurn : TwoDisks D → List (RoundOnDisks D) → TwoDisks D → ℕ → List JournalEntry → Type 0
    AreKeptInTurn begun [] now kept_to journal = begun ≡ now
    AreKeptInTurn begun (last ∷ older) now kept_to journal =
        IsKeptMeanwhile last now kept_to journal × AreKeptInTurn begun older last.disks last.kept_to last.journal

    -- In the end two images stand for what is kept, or, where the store was lost, for that or for one round more.
    abbrev pub HoldsAtEnd : Bool → TwoDisks D → ℕ → Type 0
    HoldsAtEnd false now kept_to = HoldsNow now (Stand kept_to)
    HoldsAtEnd true now kept_to = (epoch : ℕ) × HoldsNow now (StandForOneOf Stand kept_to epoch)

    -- By all rounds of a run with this journal the disks have become what they are, and at every moment they kept the run
    -- up to LSE.
    pub record KeepAtEveryMoment (begun now : TwoDisks D) (journal : List JournalEntry) : Type 0 where
      pub rounds : List (RoundOnDisks D)
      pub in_turn : AreKeptInTurn begun rounds now (lse_by safe journal) journal
      pub at_end : HoldsAtEnd (has_lost_store journal) now (lse_by safe journal)

    -- So it is where the disks told their files when the run began.
    abbrev pub KeepWhereTold : TwoDisks D → TwoDisks D → List JournalEntry → Type 0
    KeepWhereTold begun now journal =
        WhereTold (view begun.first) (view begun.second) (λ f g. KeepAtEveryMoment begun now journal)
