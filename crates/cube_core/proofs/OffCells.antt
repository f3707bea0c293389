-- The event of a call on one cell is on no other.
use Rattle.std.proofs.Common.{◌≡◌, ◌≢◌, ℕ, ◌%◌, ◌==◌, Bool, true, false, List, ◌∷◌, refl, ne_eqb}
use Rattle.mail_cell.specs.declared.answer.Fetched.TheVariants.{Got, NotYet}
use Rattle.mail_cell.specs.declared.answer.Taken.TheVariants.{Job, Empty, Closed}
use Rattle.core_cells.specs.declared.desk.DeskAnswer.{DeskAnswer}
use Rattle.core_cells.specs.declared.desk.DeskAnswer.TheVariants as said
use Rattle.core_cells.specs.declared.desk.DeskCall.{DeskCall}
use Rattle.core_cells.specs.declared.desk.DeskCall.TheVariants as desk
use Rattle.core_cells.specs.declared.mail.MailAnswer.{MailAnswer}
use Rattle.core_cells.specs.declared.mail.MailAnswer.TheVariants as got
use Rattle.core_cells.specs.declared.mail.MailCall.{MailCall}
use Rattle.core_cells.specs.declared.mail.MailCall.TheVariants as mail
use Rattle.core_cells.specs.declared.names.NamesAnswer.{NamesAnswer}
use Rattle.core_cells.specs.declared.names.NamesAnswer.TheVariants as told
use Rattle.core_cells.specs.declared.names.NamesCall.{NamesCall}
use Rattle.core_cells.specs.declared.names.NamesCall.TheVariants as names
use Rattle.core_events.specs.Cells.{brick_after_move, shard_view_of}
use Rattle.core_events.specs.Clients.{ClientState}
use Rattle.core_events.specs.Events.{Opening, Post, Fetch, CloseMail, NoChange, Take, NoJob, Reply, CoreEvent, By, At}
use Rattle.core_events.specs.Jobs.{CoreJob, JobOutcome}
use Rattle.core_events.specs.ShardView.{BrickEntry}
use Rattle.cube_core.specs.MailCells.{is_on_mail}
use Rattle.cube_core.specs.DeskEvents.{desk_event, is_on_desk}
use Rattle.cube_core.specs.MailEvents.{IsMailEvent}
use Rattle.cube_core.specs.NamesEvents.{names_event, is_on_names}

-- A call on the desk.
pub record IsOffNames (event : CoreEvent) : Type 0 where
  pub off_names : is_on_names event ≡ false
  pub off_mails : (number : ℕ) → is_on_mail number event ≡ false

pub desk-off : (a : ℕ) (k : ClientState) (c : DeskCall) (x : DeskAnswer) → IsOffNames (By a (desk_event a k c x))
desk-off a k (desk.OpenWrite session statement) (said.Opened s) = record { off_names = refl; off_mails = λ n. refl }
desk-off a k (desk.OpenRead number statement) (said.Opened s) = record { off_names = refl; off_mails = λ n. refl }
desk-off a k (desk.Commit session statement) said.Done = record { off_names = refl; off_mails = λ n. refl }
desk-off a k (desk.AbortEnd session statement cause) said.Done = record { off_names = refl; off_mails = λ n. refl }
desk-off a k (desk.CloseRead number statement) said.Done = record { off_names = refl; off_mails = λ n. refl }
desk-off a k (desk.Note note) (said.Counted shown) = record { off_names = refl; off_mails = λ n. refl }
desk-off a k (desk.CreateCube session statement decl) (said.Created made) = record { off_names = refl; off_mails = λ n. refl }
desk-off a k (desk.FindCube session statement name) (said.Found found) = record { off_names = refl; off_mails = λ n. refl }
desk-off a k (desk.CubesFrom place) (said.Cubes cubes) = record { off_names = refl; off_mails = λ n. refl }
desk-off a k desk.RoundOpen (said.Round asked) = record { off_names = refl; off_mails = λ n. refl }
desk-off a k (desk.RoundClose epoch end) said.Done = record { off_names = refl; off_mails = λ n. refl }
desk-off a k desk.Counters (said.Counted shown) = record { off_names = refl; off_mails = λ n. refl }
desk-off a k desk.StoreFailed (said.Failed failed) = record { off_names = refl; off_mails = λ n. refl }
desk-off a k c x = record { off_names = refl; off_mails = λ n. refl }

-- A call on the names.
pub record IsOffDesk (event : CoreEvent) : Type 0 where
  pub off_desk : is_on_desk event ≡ false
  pub off_mails : (number : ℕ) → is_on_mail number event ≡ false

pub names-off : (a : ℕ) (c : NamesCall) (x : NamesAnswer) → IsOffDesk (By a (names_event c x))
names-off a (names.Encode cube dim shape name) (told.Coded code) = record { off_desk = refl; off_mails = λ n. refl }
names-off a (names.Find cube dim name) (told.Found number) = record { off_desk = refl; off_mails = λ n. refl }
names-off a (names.CopyFrom cube dim from) (told.Copied copied) = record { off_desk = refl; off_mails = λ n. refl }
names-off a c x = record { off_desk = refl; off_mails = λ n. refl }

-- A call on a mail.
pub record IsOffOthers (o : Opening) (number : ℕ) (es : List CoreEvent) (event : CoreEvent) : Type 0 where
  pub off_desk : is_on_desk event ≡ false
  pub off_names : is_on_names event ≡ false
  pub off_mails : (other : ℕ) → number ≢ other → is_on_mail other event ≡ false
  pub same_view : (cube brick : ℕ) → shard_view_of o (event ∷ es) cube brick ≡ shard_view_of o es cube brick

off-as : (o : Opening) (number : ℕ) (es : List CoreEvent) (event same : CoreEvent) → event ≡ same → IsOffOthers o number es same
    → IsOffOthers o number es event
off-as o number es event same is off = coe 1 0 (i. IsOffOthers o number es (is i)) off

by-off : (o : Opening) (number client : ℕ) (es : List CoreEvent) → IsOffOthers o number es (By client NoChange)
by-off o number client es = record { off_desk = refl; off_names = refl; off_mails = λ other apart. refl; same_view = λ cube brick. refl }

-- A move that is no work leaves the bricks.
idle : (o : Opening) (here : Bool) (cube brick client : ℕ) (job : CoreJob) (entries : List BrickEntry)
    → brick_after_move o here cube brick (Take client job) entries ≡ entries
idle o true cube brick client job entries = refl
idle o false cube brick client job entries = refl

finds-none : (o : Opening) (here : Bool) (cube brick : ℕ) (closed : Bool) (entries : List BrickEntry)
    → brick_after_move o here cube brick (NoJob closed) entries ≡ entries
finds-none o true cube brick closed entries = refl
finds-none o false cube brick closed entries = refl

replies : (o : Opening) (here : Bool) (cube brick client : ℕ) (outcome : JobOutcome) (entries : List BrickEntry)
    → brick_after_move o here cube brick (Reply client outcome) entries ≡ entries
replies o true cube brick client outcome entries = refl
replies o false cube brick client outcome entries = refl

none-off : (o : Opening) (number : ℕ) (closed : Bool) (es : List CoreEvent) → IsOffOthers o number es (At number (NoJob closed))
none-off o number closed es = record {
  off_desk = refl;
  off_names = refl;
  off_mails = λ other apart. ne_eqb number other apart;
  same_view = λ cube brick. finds-none o (number == brick % o.shards) cube brick closed (shard_view_of o es cube brick);
}

module _ {J A : Type 0} (job_of : J → CoreJob) (stands_for : CoreJob → A → JobOutcome → Type 0) where
  pub mail-off : (o : Opening) (number : ℕ) (es : List CoreEvent) (c : MailCall J A) (x : MailAnswer J A) (event : CoreEvent)
      → IsMailEvent job_of stands_for es number c x event → IsOffOthers o number es event
  mail-off o number es (mail.Post client job) got.Done event is =
      off-as o number es event (By client (Post number (job_of job))) is
      (record { off_desk = refl; off_names = refl; off_mails = λ other apart. ne_eqb number other apart; same_view = λ cube brick. refl })
  mail-off o number es mail.Take (got.Taken (Job client job)) event is =
      off-as o number es event (At number (Take client (job_of job))) is
      (record {
        off_desk = refl;
        off_names = refl;
        off_mails = λ other apart. ne_eqb number other apart;
        same_view = λ cube brick. idle o (number == brick % o.shards) cube brick client (job_of job) (shard_view_of o es cube brick);
      })
  mail-off o number es mail.Take (got.Taken Empty) event is =
      off-as o number es event (At number (NoJob false)) is (none-off o number false es)
  mail-off o number es mail.Take (got.Taken Closed) event is =
      off-as o number es event (At number (NoJob true)) is (none-off o number true es)
  mail-off o number es (mail.Reply client said) got.Done event is =
      off-as o number es event (At number (Reply client is.outcome)) is.is
      (record {
        off_desk = refl;
        off_names = refl;
        off_mails = λ other apart. ne_eqb number other apart;
        same_view = λ cube brick. replies o (number == brick % o.shards) cube brick client is.outcome (shard_view_of o es cube brick);
      })
  mail-off o number es (mail.Fetch client) (got.Fetched (Got said)) event is =
      off-as o number es event (By client (Fetch number is.outcome)) is.is
      (record { off_desk = refl; off_names = refl; off_mails = λ other apart. ne_eqb number other apart; same_view = λ cube brick. refl })
  mail-off o number es (mail.Fetch client) (got.Fetched NotYet) event is =
      off-as o number es event (By client NoChange) is (by-off o number client es)
  mail-off o number es mail.Close got.Done event is =
      off-as o number es event (By 0 (CloseMail number)) is
      (record { off_desk = refl; off_names = refl; off_mails = λ other apart. ne_eqb number other apart; same_view = λ cube brick. refl })
  mail-off o number es c x event is = absurd is
