-- The shelves of sessions before a run and after it.
-- Source: this project's own.
use Rattle.std.specs.Prelude.{◌≡◌, ℕ, ◌<◌, ◌≤◌, Bool, List, [], length, slice_index_or}
use Rattle.std.specs.Bool.{OnTrue}
use Rattle.core_scripts.specs.ToldFiles.{ShelfTold}
use Rattle.cube_journal.specs.declared.reply.Reply.{Reply}
use Rattle.loaded_files.specs.CountedReplies.{GainsReplies}

module _ {H : Type 0} (told : H → ShelfTold) (fault_count absence_count : H → ℕ) where
  -- Each shelf tells what it told, and no count fell. Those of the sessions counted what the replies show, where each
  -- script was played to its end; those behind them stay as they were.
  pub record ShelvesGoOn (sessions : ℕ) (whole : Bool) (replies : List (List Reply)) (before after : List H)
      : Type 0 where
    pub as_many : length after ≡ length before
    pub tell : (k : ℕ) (d : H) → told (slice_index_or after k d) ≡ told (slice_index_or before k d)
    pub later : (k : ℕ) (d : H) → fault_count (slice_index_or before k d) ≤ fault_count (slice_index_or after k d)
    pub counted : OnTrue whole ((k : ℕ) (d : H) → k < sessions
        → GainsReplies [] (slice_index_or replies k []) (fault_count (slice_index_or before k d))
        (fault_count (slice_index_or after k d)) (absence_count (slice_index_or before k d))
        (absence_count (slice_index_or after k d)))
    pub others : (k : ℕ) (d : H) → sessions ≤ k → slice_index_or after k d ≡ slice_index_or before k d
