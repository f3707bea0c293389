-- Places of a journal after which a session has no entry, one after the other.
use Rattle.std.specs.Prelude.{ℕ, Bool, false, not, ◌==◌, ◌&&◌, ◌||◌, List, [], ◌∷◌}
use Rattle.std.specs.List.{list_any}
use Rattle.cube_journal.specs.declared.journal_entry.JournalEntry.{JournalEntry}
use Rattle.cube_journal.specs.Counters.{lse_after}
use Rattle.cube_journal.specs.Entries.{is_of_session}
use Rattle.cube_journal.specs.Legal.{begins_with_safe_round}

-- At one of them a round that ended well begins.
abbrev pub flushed_in : ℕ → List JournalEntry → Bool
flushed_in session [] = false
flushed_in session (e ∷ later) =
    (begins_with_safe_round (e ∷ later) && not (list_any (is_of_session session) (e ∷ later)))
    || flushed_in session later

-- At one of them, where the first has this LSE, an epoch is LSE.
abbrev pub safe_in : ℕ → ℕ → ℕ → List JournalEntry → Bool
safe_in lse session epoch [] = lse == epoch
safe_in lse session epoch (e ∷ later) =
    (lse == epoch && not (list_any (is_of_session session) (e ∷ later)))
    || safe_in (lse_after lse e) session epoch later
