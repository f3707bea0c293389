use Rattle.std.proofs.Common.{◌<◌, [], ◌∷◌, length, ap, sym, subst, length-append, arith}
use Rattle.outside_disk.proofs.Courses.{put_course}
use Rattle.outside_disk.proofs.Images.{length_with_byte}
use Rattle.outside_disk.specs.declared.events.DiskEvent.TheVariants.{Byte}
use Rattle.outside_disk.proofs.tape.Tape.put.Goals as goal

pub invariant_of-self : goal.invariant_of-self
invariant_of-self c =
    let room = subst (λ tape. 0 < tape.room) (sym c.self.view_is) c.requires.room in
    let bytes = ap length c.put_byte.ensures.items in
    let one = length_with_byte c.args.at c.args.byte c.self.inside.bytes.items in
    let events = ap length c.push_reserved.ensures.items in
    let parts = length-append c.self.inside.events.items (Byte c.args.at c.args.byte ∷ []) in (
      put_course c.self.inside.first.items c.self.inside.events.items c.push_reserved.new.self.items c.args.at c.args.byte _ _
          c.push_reserved.ensures.items c.self.invariant.0 c.put_byte.ensures.items,
      omega (arith, room, bytes, one, c.put_byte.ensures.capacity, c.self.invariant.1),
      omega (arith, room, events, parts, c.push_reserved.ensures.capacity, c.self.invariant.2),
    )
