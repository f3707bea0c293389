-- What the note of a FLUSH leaves and tells.
-- Source: AOSI (ICDE 2018), flush rounds; that a FLUSH tells LSE is this project's own.
use Rattle.std.specs.Prelude.{◌≡◌, ℕ, List, [], ◌∷◌, ◌++◌}
use Rattle.core_program.specs.ClientCalls.{desk_entry}
use Rattle.core_cells.specs.declared.desk.DeskAnswer.TheVariants as answer
use Rattle.core_cells.specs.declared.desk.DeskCall.TheVariants as call
use Rattle.core_program.specs.CoreFits.{CoreEntry}
use Rattle.cube_journal.specs.declared.counters.Counters.{Counters}
use Rattle.cube_journal.specs.declared.note.Note.TheVariants as note
use Rattle.cube_journal.specs.declared.reply.Reply.{Reply}
use Rattle.cube_journal.specs.declared.reply.Reply.TheVariants as reply

-- A session has noted its FLUSH, and tells LSE as the desk has shown it with that.
pub record HasNotedFlush (caller session statement : ℕ) (own now : List CoreEntry) (said : Reply) : Type 0 where
  pub shown : Counters
  pub own_is : now ≡ own ++ desk_entry caller (call.Note (note.Flushed session statement)) (answer.Counted shown) ∷ []
  pub tells : said ≡ reply.Flushed shown.lse
