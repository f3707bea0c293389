-- What each call gives, and what it makes of a mail.
use Rattle.std.specs.Prelude.{◌≡◌, ℕ, ◌<◌, Bool, true, false, List, [], ◌∷◌, ◌++◌, length, drop, slice_set}
use Rattle.mail_cell.specs.declared.answer.Taken.{Taken}
use Rattle.mail_cell.specs.declared.answer.Taken.TheVariants.{Job, Empty, Closed}
use Rattle.mail_cell.specs.declared.answer.Fetched.{Fetched}
use Rattle.mail_cell.specs.declared.answer.Fetched.TheVariants.{Got, NotYet}
use Rattle.mail_cell.specs.declared.place.Post.{Post}
use Rattle.mail_cell.specs.declared.place.Place.{Place}
use Rattle.mail_cell.specs.declared.place.Place.TheVariants.{Idle, Waiting, Out, Answered}
use Rattle.mail_cell.specs.State.{MailState, mail_state, place_of}

-- What taking gives: the oldest job with its client, and without one, whether the mail is closed.
abbrev pub taken : {J : Type 0} → List (Post J) → Bool → Taken J
taken (post ∷ posted) closed = Job post.client post.job
taken [] true = Closed
taken [] false = Empty

-- What fetching gives: the answer where the place holds one, and otherwise NotYet.
abbrev pub fetched : {A : Type 0} → Place A → Fetched A
fetched (Answered answer) = Got answer
fetched place = NotYet

-- The places where the oldest job is taken: that of its client is Out.
abbrev pub with_oldest_out : {J A : Type 0} → List (Post J) → List (Place A) → List (Place A)
with_oldest_out [] places = places
with_oldest_out (post ∷ posted) places = slice_set places post.client Out

-- What a place is after fetching: Idle where an answer was held, and otherwise as it was.
abbrev pub without_answer : {A : Type 0} → Place A → Place A
without_answer (Answered answer) = Idle
without_answer place = place

module _ {J A : Type 0} where
  -- A job that is posted stands behind the others, and its client's place is Waiting.
  abbrev pub after_post : MailState J A → ℕ → J → MailState J A
  after_post mail client job =
      mail_state (mail.posted ++ record { client = client; job = job } ∷ [])
      (slice_set mail.places client Waiting) mail.closed

  -- A job that is taken is posted no more, and its client's place is Out.
  abbrev pub after_take : MailState J A → MailState J A
  after_take mail = mail_state (drop 1 mail.posted) (with_oldest_out mail.posted mail.places) mail.closed

  -- After a reply the answer is in the place of the client.
  abbrev pub after_reply : MailState J A → ℕ → A → MailState J A
  after_reply mail client answer = mail_state mail.posted (slice_set mail.places client (Answered answer)) mail.closed

  -- After fetching the mail no longer holds the client's answer.
  abbrev pub after_fetch : MailState J A → ℕ → MailState J A
  after_fetch mail client =
      mail_state mail.posted (slice_set mail.places client (without_answer (place_of mail client))) mail.closed

  -- A mail that is closed has the same jobs and places.
  abbrev pub after_close : MailState J A → MailState J A
  after_close mail = mail_state mail.posted mail.places true

  -- A job that was taken is that of a client of the mail whose place was Waiting.
  abbrev pub ComesFromWaiting : MailState J A → Taken J → Type 0
  ComesFromWaiting mail (Job client job) = (client < length mail.places) × (place_of mail client ≡ Waiting)
  ComesFromWaiting mail answer = Unit {0}
