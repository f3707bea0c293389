-- Statements that do nothing to rows.
-- Source: this project's own.
use Rattle.std.specs.Prelude.{◌≡◌, ℕ, false}
use Rattle.cube_journal.specs.declared.refusal.Refusal.{Refusal}
use Rattle.cube_journal.specs.declared.reply.Reply.{Reply}
use Rattle.cube_journal.specs.declared.reply.Reply.TheVariants.{Refused}
use Rattle.cube_language.specs.declared.statement.Statement.{Statement}
use Rattle.cube_run.specs.RunRecords.{Sentence, Says, SaysNone}
use Rattle.cube_run.specs.StatementEntries.{is_change}

-- A text changes no rows where it spells no statement, or one that is no change of rows, or where it is refused.
pub data ChangesNoRows (sentence : Sentence) (said : Reply) : Type 0 where
  spells_none : (at : ℕ) → sentence ≡ SaysNone at → ChangesNoRows sentence said
  is_no_change : (s : Statement) → sentence ≡ Says s → is_change s ≡ false → ChangesNoRows sentence said
  is_refused : (r : Refusal) → said ≡ Refused r → ChangesNoRows sentence said
