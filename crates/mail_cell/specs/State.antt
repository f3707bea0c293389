-- What contracts see of a mail.
use Rattle.std.specs.Prelude.{◌≡◌, ℕ, ◌==◌, Bool, false, List, [], length, slice_index_or, replicate}
use Rattle.std.specs.List.{count_by, sum_by}
use Rattle.mail_cell.specs.declared.place.Post.{Post}
use Rattle.mail_cell.specs.declared.place.Place.{Place}
use Rattle.mail_cell.specs.declared.place.Place.TheVariants.{Idle, Waiting}

-- The jobs that are posted and not taken, oldest first, the place of each client, and whether the mail is closed.
pub record MailState (J A : Type 0) : Type 0 where
  pub posted : List (Post J)
  pub places : List (Place A)
  pub closed : Bool

module _ {J A : Type 0} where
  -- The state with these parts.
  abbrev pub mail_state : List (Post J) → List (Place A) → Bool → MailState J A
  mail_state posted places closed = record { posted = posted; places = places; closed = closed }

  -- An open mail of so many clients, in which no client has anything.
  abbrev pub new_mail : ℕ → MailState J A
  new_mail clients = mail_state [] (replicate clients Idle) false

  -- The place of a client.
  abbrev pub place_of : MailState J A → ℕ → Place A
  place_of mail client = slice_index_or mail.places client Idle

-- How many jobs a client has among those that are posted.
abbrev pub jobs_of : {J : Type 0} → ℕ → List (Post J) → ℕ
jobs_of client posted = count_by (λ post. post.client == client) posted

-- How many posted jobs go with a place: one with Waiting, and none with any other.
abbrev pub jobs_at : {A : Type 0} → Place A → ℕ
jobs_at Waiting = 1
jobs_at place = 0

-- Each client whose place is Waiting has one job posted, the others have none, and no other job is posted.
pub record IsSound {J A : Type 0} (mail : MailState J A) : Type 0 where
  pub one_each : (client : ℕ) → jobs_of client mail.posted ≡ jobs_at (place_of mail client)
  pub no_other : length mail.posted ≡ sum_by jobs_at mail.places
