use Rattle.std.proofs.Common.{arith, rules, length-set}
use Rattle.mail_cell.proofs.Soundness.{has_room, sound_posted}
use Rattle.mail_cell.proofs.mail.Mail.post.Goals as goal

pub push_back_reserved-requires : goal.push_back_reserved-requires
push_back_reserved-requires g c =
    let m = c.self.inside in
    let room = has_room m.posted.items m.places.items m.closed c.self.invariant.0 c.args.client (search rules) (search rules) in
    let within = c.self.invariant.1 in
    let counted = m.posted.ok in
    omega arith

pub invariant_of-self : goal.invariant_of-self
invariant_of-self g c =
    let m = c.self.inside in (
      rw c.push_back_reserved.ensures.items (sound_posted m.posted.items m.places.items m.closed c.self.invariant.0 c.args.client c.args.job (search rules) (search rules)),
      (let within = c.self.invariant.1 in let same = c.push_back_reserved.ensures.capacity in simp length-set (omega arith)),
    )
