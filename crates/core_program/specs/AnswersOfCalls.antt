-- Which answers a call on a cell may have.
-- Source: this project's own.
use Rattle.std.specs.Prelude.{◌≡◌, List}
use Rattle.std.specs.List.{AllByRecursion}
use Rattle.core_cells.specs.declared.desk.DeskAnswer.{DeskAnswer}
use Rattle.core_cells.specs.declared.desk.DeskAnswer.TheVariants as said
use Rattle.core_cells.specs.declared.desk.DeskCall.{DeskCall}
use Rattle.core_cells.specs.declared.desk.DeskCall.TheVariants as desk
use Rattle.core_cells.specs.declared.mail.MailAnswer.{MailAnswer}
use Rattle.core_cells.specs.declared.mail.MailAnswer.TheVariants as got
use Rattle.core_cells.specs.declared.mail.MailCall.{MailCall}
use Rattle.core_cells.specs.declared.mail.MailCall.TheVariants as mail
use Rattle.core_cells.specs.declared.names.NamesAnswer.{NamesAnswer}
use Rattle.core_cells.specs.declared.names.NamesAnswer.TheVariants as told
use Rattle.core_cells.specs.declared.names.NamesCall.{NamesCall}
use Rattle.core_cells.specs.declared.names.NamesCall.TheVariants as names
use Rattle.core_events.specs.Clients.{reader_up_to, writer_at}
use Rattle.core_program.specs.CoreFits.{CoreEntry}
use Rattle.cube_core.specs.declared.cell.CoreAnswer.{CoreAnswer}
use Rattle.cube_core.specs.declared.cell.CoreAnswer.TheVariants as answer
use Rattle.cube_core.specs.declared.cell.CoreCall.{CoreCall}
use Rattle.cube_core.specs.declared.cell.CoreCall.TheVariants as call
use Rattle.cube_core.specs.declared.jobs.Job.{Job}
use Rattle.cube_core.specs.declared.jobs.JobAnswer.{JobAnswer}

-- The desk: where it has no memory, it says so of what asks for some. It opens writers as writers, and readers as
-- readers.
abbrev pub DeskAnswers : DeskCall → DeskAnswer → Type 0
DeskAnswers (desk.OpenWrite session statement) (said.Opened snapshot) =
    snapshot ≡ writer_at snapshot.epoch snapshot.deps
DeskAnswers (desk.OpenWrite session statement) said.NoMemory = Unit {0}
DeskAnswers (desk.OpenRead number statement) (said.Opened snapshot) = snapshot ≡ reader_up_to snapshot.epoch
DeskAnswers (desk.OpenRead number statement) said.NoMemory = Unit {0}
DeskAnswers (desk.Commit session statement) said.Done = Unit {0}
DeskAnswers (desk.AbortEnd session statement cause) said.Done = Unit {0}
DeskAnswers (desk.CloseRead number statement) said.Done = Unit {0}
DeskAnswers (desk.Note note) (said.Counted shown) = Unit {0}
DeskAnswers (desk.Note note) said.NoMemory = Unit {0}
DeskAnswers (desk.CreateCube session statement decl) (said.Created made) = Unit {0}
DeskAnswers (desk.CreateCube session statement decl) said.NoMemory = Unit {0}
DeskAnswers (desk.FindCube session statement name) (said.Found found) = Unit {0}
DeskAnswers (desk.FindCube session statement name) said.NoMemory = Unit {0}
DeskAnswers (desk.CubesFrom place) (said.Cubes cubes) = Unit {0}
DeskAnswers (desk.CubesFrom place) said.NoMemory = Unit {0}
DeskAnswers desk.RoundOpen (said.Round asked) = Unit {0}
DeskAnswers desk.RoundOpen said.NoMemory = Unit {0}
DeskAnswers (desk.RoundClose epoch end) said.Done = Unit {0}
DeskAnswers desk.Counters (said.Counted shown) = Unit {0}
DeskAnswers desk.StoreFailed (said.Failed failed) = Unit {0}
DeskAnswers c a = ⊥

abbrev pub NamesAnswers : NamesCall → NamesAnswer → Type 0
NamesAnswers (names.Encode cube dim shape name) (told.Coded code) = Unit {0}
NamesAnswers (names.Encode cube dim shape name) told.NoMemory = Unit {0}
NamesAnswers (names.Find cube dim name) (told.Found number) = Unit {0}
NamesAnswers (names.CopyFrom cube dim from) (told.Copied copied) = Unit {0}
NamesAnswers (names.CopyFrom cube dim from) told.NoMemory = Unit {0}
NamesAnswers c a = ⊥

abbrev pub MailAnswers : MailCall Job JobAnswer → MailAnswer Job JobAnswer → Type 0
MailAnswers (mail.Post client job) got.Done = Unit {0}
MailAnswers mail.Take (got.Taken got) = Unit {0}
MailAnswers (mail.Reply client said) got.Done = Unit {0}
MailAnswers (mail.Fetch client) (got.Fetched got) = Unit {0}
MailAnswers mail.Close got.Done = Unit {0}
MailAnswers c a = ⊥

-- The answer is that of a cell of the call's kind, and one that the call may have.
abbrev pub CoreAnswers : CoreCall → CoreAnswer → Type 0
CoreAnswers (call.Desk c) (answer.Desk a) = DeskAnswers c a
CoreAnswers (call.Names c) (answer.Names a) = NamesAnswers c a
CoreAnswers (call.Shard c) (answer.Shard a) = Unit {0}
CoreAnswers (call.Mail c) (answer.Mail a) = MailAnswers c a
CoreAnswers c a = ⊥

-- Each call of a caller has such an answer.
abbrev pub HaveAnswers : List CoreEntry → Type 0
HaveAnswers own = AllByRecursion (λ e. CoreAnswers e.call e.answer) own
