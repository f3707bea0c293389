-- The entries of a script's end, by the number under which the reader of a watch is held.
use Rattle.std.proofs.Common.{◌≡◌, ℕ, List, [], ◌∷◌, ◌++◌, Option, Some, None, append-nil, sym, subst}
use Rattle.core_endings.specs.ScriptEnds.{IsWatchUnder}
use Rattle.cube_journal.specs.declared.journal_entry.JournalEntry.{JournalEntry}
use Rattle.cube_journal.specs.declared.journal_entry.JournalEntry.TheVariants as entry
use Rattle.cube_run.specs.SessionStates.{KeptWatch, Mode}
use Rattle.cube_run.specs.StatementEntries.{script_end, transaction_end}

module _ (Left : List JournalEntry → Type 0) (session statement : ℕ) (mode : Mode) (held : Option ℕ) where
  pub with-reader : (holder : ℕ) → held ≡ Some holder
      → Left (transaction_end session statement mode ++ entry.ReadEnd holder statement ∷ []) → (watch : Option KeptWatch)
      → IsWatchUnder held watch → Left (script_end session statement mode watch)
  with-reader holder is left (Some kept) under =
      subst (λ (h : ℕ). Left (transaction_end session statement mode ++ entry.ReadEnd h statement ∷ []))
      (sym (coe 0 1 (i. IsWatchUnder (is i) (Some kept)) under)) left
  with-reader holder is left None under = absurd (coe 0 1 (i. IsWatchUnder (is i) None) under)

  pub without-reader : held ≡ None → Left (transaction_end session statement mode) → (watch : Option KeptWatch)
      → IsWatchUnder held watch → Left (script_end session statement mode watch)
  without-reader is left (Some kept) under = absurd (coe 0 1 (i. IsWatchUnder (is i) (Some kept)) under)
  without-reader is left None under =
      subst Left (sym (append-nil (transaction_end session statement mode))) left
