-- What a mode allows tells the mode.
use Rattle.std.proofs.Common.{◌≡◌, None, refl, sym}
use Rattle.std.proofs.lemmas.Option.{none-some}
use Rattle.cube_language.specs.declared.decl.Decl.{Decl}
use Rattle.cube_language.specs.declared.statement.Statement.TheVariants.{Begin, Commit, CreateCube}
use Rattle.cube_journal.specs.declared.refusal.Refusal.TheVariants as refusal
use Rattle.cube_run.specs.SessionStates.{Idle}
use Rattle.cube_run.specs.StepOutcomes.{refused_by_mode}
use Rattle.session_replies.specs.declared.mode.SessionMode.{SessionMode}
use Rattle.session_replies.specs.declared.mode.SessionMode.TheVariants as variant
use Rattle.session_replies.specs.Modes.{mode_of}
use Rattle.session_desk.specs.AtDesk.{IsOpen}

pub begin_idle : (m : SessionMode) → refused_by_mode (mode_of m) Begin ≡ None → mode_of m ≡ Idle
begin_idle variant.Idle h = refl
begin_idle (variant.Open writer) h = absurd (none-some refusal.TransactionOpen (sym h))
begin_idle (variant.Aborted epoch) h = absurd (none-some refusal.TransactionAborted (sym h))

pub create_idle : (m : SessionMode) (d : Decl) → refused_by_mode (mode_of m) (CreateCube d) ≡ None → mode_of m ≡ Idle
create_idle variant.Idle d h = refl
create_idle (variant.Open writer) d h = absurd (none-some refusal.TransactionOpen (sym h))
create_idle (variant.Aborted epoch) d h = absurd (none-some refusal.TransactionAborted (sym h))

pub commit_open : (m : SessionMode) → refused_by_mode (mode_of m) Commit ≡ None → IsOpen m
commit_open variant.Idle h = absurd (none-some refusal.NoTransaction (sym h))
commit_open (variant.Open writer) h = tt
commit_open (variant.Aborted epoch) h = absurd (none-some refusal.TransactionAborted (sym h))
