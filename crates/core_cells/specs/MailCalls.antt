-- The calls on a mail as steps: what each asks of the mail, and what it answers and makes of it.
use Rattle.std.specs.Prelude.{◌≡◌, ◌<◌, length}
use Rattle.mail_cell.specs.State.{MailState, place_of}
use Rattle.mail_cell.specs.Steps.{after_post, taken, after_take, after_reply, fetched, after_fetch, after_close}
use Rattle.mail_cell.specs.declared.place.Place.TheVariants.{Idle, Out}
use Rattle.core_cells.specs.declared.mail.MailCall.{MailCall}
use Rattle.core_cells.specs.declared.mail.MailCall.TheVariants as call
use Rattle.core_cells.specs.declared.mail.MailAnswer.{MailAnswer}
use Rattle.core_cells.specs.declared.mail.MailAnswer.TheVariants as answer

module _ {J A : Type 0} where
  -- The mail can take the call.
  abbrev pub CanCallMail : MailState J A → MailCall J A → Type 0
  CanCallMail mail (call.Post client job) = (client < length mail.places) × (place_of mail client ≡ Idle)
  CanCallMail mail call.Take = Unit {0}
  CanCallMail mail (call.Reply client said) = (client < length mail.places) × (place_of mail client ≡ Out)
  CanCallMail mail (call.Fetch client) = client < length mail.places
  CanCallMail mail call.Close = Unit {0}

  -- The mail before a call, the call, its answer, and the mail that it leaves.
  abbrev pub MailStep : MailState J A → MailCall J A → MailAnswer J A → MailState J A → Type 0
  MailStep mail (call.Post client job) answer.Done new = new ≡ after_post mail client job
  MailStep mail call.Take (answer.Taken got) new = (got ≡ taken mail.posted mail.closed) × (new ≡ after_take mail)
  MailStep mail (call.Reply client said) answer.Done new = new ≡ after_reply mail client said
  MailStep mail (call.Fetch client) (answer.Fetched got) new =
      (got ≡ fetched (place_of mail client)) × (new ≡ after_fetch mail client)
  MailStep mail call.Close answer.Done new = new ≡ after_close mail
  MailStep mail call answer new = ⊥
