use Rattle.std.proofs.Common.{refl}
use Rattle.aosi_desk.proofs.Kept.{keeps-more}
use Rattle.aosi_desk.proofs.desk.Desk.refuse.Goals as goal

pub invariant_of-self-2 : goal.invariant_of-self-2
invariant_of-self-2 c =
    let fits = rw (← c.self.view_is) at c.requires.fits in (
      keeps-more _ _ _ _ c.self.inside.cubes.items c.self.inside.cubes.items fits.0 _ c.deref_mut.ensures.value
          c.in_ok-_counters.ensures.journal fits.1 refl c.self.invariant.0,
      c.self.invariant.1,
      c.self.invariant.2,
    )
