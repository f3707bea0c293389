use Rattle.std.proofs.Common.{◌≡◌, ◌<◌, ◌∙◌, sym, length, get_or, arith, rules, length-set}
use Rattle.std.proofs.lemmas.List.{get_or_read}
use Rattle.mail_cell.specs.declared.place.Place.TheVariants.{Idle}
use Rattle.mail_cell.proofs.Soundness.{sound_fetched, sound_same}
use Rattle.mail_cell.proofs.mail.Mail.fetch.Goals as goal
use Rattle.mail_cell.proofs.mail.Mail.fetch.Goals.{in-Answered, in_default}

pub invariant_of-self : goal.invariant_of-self
invariant_of-self g c =
    let m = c.self.inside in
    let known : c.args.client < length m.places.items = search rules in
    let place : c.replace.result ≡ get_or m.places.items c.args.client Idle = c.replace.ensures.value ∙ get_or_read m.places.items c.args.client c.index_mut-place.result.now known c.index_mut-place.ensures.value Idle in
    let within = c.self.invariant.1 in
    elim c.match-replace.branch [
      | in-Answered w ↦
          rw (w.self-inside-is, c.replace.ensures.after) (sound_fetched m.posted.items m.places.items m.closed c.self.invariant.0 c.args.client w.in-Answered.answer known (sym place ∙ w.in-Answered.is), simp length-set (omega arith))
      | in_default w ↦
          rw w.self-inside-is (sound_same m.posted.items m.places.items m.closed c.self.invariant.0 c.args.client c.replace.result place, simp length-set (omega arith))
    ]
