-- Works of sessions that play their scripts, one for each.
-- Source: this project's own.
use Rattle.std.specs.Prelude.{◌≡◌, ℕ, ◌+◌, ◌<◌, true, List, length, slice_index_or}
use Rattle.core_scripts.specs.ToldFiles.{ShelfTold, files_told}
use Rattle.core_scripts.specs.declared.work.ScriptWork.{ScriptWork}
use Rattle.cube_journal.specs.declared.reply.Reply.{Reply}
use Rattle.scripted_pasts.specs.Performed.{every_of}
use Rattle.scripted_pasts.specs.PlayedScripts.{FileClaim}

module _ {H : Type 0} where
  -- What is known of the files of a session, counted from 1: they are as its own shelf tells them.
  abbrev pub files_of_shelves : (H → ShelfTold) → (ℕ → H) → ℕ → FileClaim
  files_of_shelves told shelves session = files_told (told (shelves session))

module _ {H G : Type 0} where
  -- The replies that a work has.
  abbrev pub replies_in : ScriptWork H G → List Reply
  replies_in work = work.replies.items

  -- These are the shelves of the works.
  abbrev pub AreShelvesOf : ℕ → List (ScriptWork H G) → (ℕ → H) → Type 0
  AreShelvesOf sessions works shelves =
      (k : ℕ) (d : ScriptWork H G) → k < sessions → shelves (1 + k) ≡ (slice_index_or works k d).shelf

  -- There is one work for each session, by its number, and a round follows after so many commits of each.
  pub record AreOfSessions (sessions every : ℕ) (works : List (ScriptWork H G)) : Type 0 where
    pub as_many : length works ≡ sessions
    pub numbers : (k : ℕ) (d : ScriptWork H G) → k < sessions
        → (slice_index_or works k d).player.session.number ≡ 1 + k
    pub rounds : (k : ℕ) (d : ScriptWork H G) → k < sessions
        → every_of (slice_index_or works k d).player.session ≡ every

  -- Each was played to its end.
  abbrev pub AreWhole : ℕ → List (ScriptWork H G) → Type 0
  AreWhole sessions works = (k : ℕ) (d : ScriptWork H G) → k < sessions → (slice_index_or works k d).whole ≡ true
