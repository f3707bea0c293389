use Rattle.std.proofs.Common.{arith, length-set}
use Rattle.mail_cell.proofs.Soundness.{oldest_known, oldest_waits, sound_taken}
use Rattle.mail_cell.proofs.mail.Mail.take.Goals as goal

pub index_mut-requires : goal.index_mut-requires
index_mut-requires g c =
    let m = c.self.inside in
    let sound = rw c.in-Some.ensures.items at c.self.invariant.0 in
    let known = oldest_known c.in-Some.field-0 c.pop_front.new.self.items m.places.items m.closed sound in
    let counted = m.places.ok in
    omega arith

pub invariant_of-self : goal.invariant_of-self
invariant_of-self g c =
    let m = c.self.inside in
    let sound = rw c.in-Some.ensures.items at c.self.invariant.0 in (
      sound_taken c.in-Some.field-0 c.pop_front.new.self.items m.places.items m.closed sound,
      (let within = c.self.invariant.1 in let same = c.in-Some.ensures.capacity in simp length-set (omega arith)),
    )

pub returns-in-Some-clause-waited : goal.returns-in-Some-clause-waited
returns-in-Some-clause-waited g c =
    let m = c.self.inside in
    let sound = rw c.in-Some.ensures.items at c.self.invariant.0 in
    rw (← c.self.view_is) (
      oldest_known c.in-Some.field-0 c.pop_front.new.self.items m.places.items m.closed sound,
      oldest_waits c.in-Some.field-0 c.pop_front.new.self.items m.places.items m.closed sound,
    )
