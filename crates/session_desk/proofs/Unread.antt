-- Refusals that speak of no file.
use Rattle.std.proofs.Common.{◌≡◌, Some, subst}
use Rattle.std.proofs.lemmas.Option.{same_Some}
use Rattle.cube_language.specs.declared.misfit.Misfit.{Misfit}
use Rattle.cube_language.specs.declared.misfit.Misfit.TheVariants as misfit
use Rattle.cube_language.specs.declared.statement.Statement.{Statement}
use Rattle.cube_language.specs.declared.statement.Statement.TheVariants.{Begin, Commit, CreateCube, Flush, Purge, Rollback, ShowEpochs}
use Rattle.cube_journal.specs.Refusals.{of_misfit}
use Rattle.cube_journal.specs.declared.refusal.Refusal.{Refusal}
use Rattle.cube_journal.specs.declared.refusal.Refusal.TheVariants as refusal
use Rattle.cube_journal.specs.declared.reply.Reply.TheVariants as reply
use Rattle.cube_run.specs.SessionStates.{Aborted, Idle, Mode, Open}
use Rattle.cube_run.specs.StepOutcomes.{refused_by_mode, refused_when_aborted, refused_when_idle, refused_when_open}
use Rattle.cube_values.specs.declared.text.Text.{Text}
use Rattle.aosi_desk.specs.declared.cube.CubeAnswer.{CubeAnswer}
use Rattle.aosi_desk.specs.declared.cube.CubeAnswer.TheVariants.{Created, Exists, TooMany}
use Rattle.session_desk.specs.CubeReplies.{created_reply}
use Rattle.session_desk.specs.FileReplies.{SpeaksOfNoFile}

pub misfit_unread : (m : Misfit) → SpeaksOfNoFile (reply.Refused (of_misfit m))
misfit_unread (misfit.UnknownColumn name) = tt
misfit_unread (misfit.WrongKind name) = tt
misfit_unread (misfit.NotGrouped name) = tt
misfit_unread (misfit.NotAnItem item) = tt
misfit_unread (misfit.BadHaving item) = tt
misfit_unread (misfit.NotWatchable item) = tt
misfit_unread (misfit.CutsBrick name) = tt
misfit_unread (misfit.BadRow row why) = tt

is_unread : (given because : Refusal) → Some given ≡ Some because → SpeaksOfNoFile (reply.Refused given)
    → SpeaksOfNoFile (reply.Refused because)
is_unread given because same unread =
    subst (λ (r : Refusal). SpeaksOfNoFile (reply.Refused r)) (same_Some given because same) unread

idle_unread : (s : Statement) (because : Refusal) → refused_when_idle s ≡ Some because
    → SpeaksOfNoFile (reply.Refused because)
idle_unread Commit because is = is_unread refusal.NoTransaction because is tt
idle_unread Rollback because is = is_unread refusal.NoTransaction because is tt
idle_unread s because is = absurd cc

open_unread : (s : Statement) (because : Refusal) → refused_when_open s ≡ Some because
    → SpeaksOfNoFile (reply.Refused because)
open_unread Begin because is = is_unread refusal.TransactionOpen because is tt
open_unread (CreateCube d) because is = is_unread refusal.TransactionOpen because is tt
open_unread s because is = absurd cc

aborted_unread : (s : Statement) (because : Refusal) → refused_when_aborted s ≡ Some because
    → SpeaksOfNoFile (reply.Refused because)
aborted_unread Rollback because is = absurd cc
aborted_unread Flush because is = absurd cc
aborted_unread Purge because is = absurd cc
aborted_unread ShowEpochs because is = absurd cc
aborted_unread s because is = is_unread refusal.TransactionAborted because is tt

-- What the mode of a session refuses.
pub mode_unread : (mode : Mode) (s : Statement) (because : Refusal) → refused_by_mode mode s ≡ Some because
    → SpeaksOfNoFile (reply.Refused because)
mode_unread Idle s because is = idle_unread s because is
mode_unread (Open writer) s because is = open_unread s because is
mode_unread (Aborted epoch) s because is = aborted_unread s because is

-- What a CREATE CUBE is answered.
pub created_unread : (answer : CubeAnswer) (name : Text) → SpeaksOfNoFile (created_reply answer name)
created_unread (Created epoch place) name = tt
created_unread Exists name = tt
created_unread TooMany name = tt
