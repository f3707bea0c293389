use Rattle.std.proofs.Common.{◌≡◌, ◌-◌, length, ◌∙◌, arith}
use Rattle.std.proofs.lemmas.Grind.{common_steps}
use Rattle.outside_disk.proofs.Reading.{IsUntouched-more, prefix_more}
use Rattle.outside.proofs.Pieces.{length-put_mid_end}
use Rattle.outside_disk.proofs.whole.fill.Goals as goal

pub pieces-preserved : goal.pieces-preserved
pieces-preserved g c =
    let at = c.pieces.filled in
    let into = c.pieces.into in
    let full : length c.read.new.into ≡ length into - at = grind arith in
    let long = length-put_mid_end into c.read.new.into at c.pieces.invariant.within full in
    let told = c.pieces.invariant.untouched.told in
    record {
      within = omega (arith, long, full, c.in_ok-n.ensures.fits, c.pieces.invariant.within);
      long = long ∙ c.pieces.invariant.long;
      untouched = IsUntouched-more _ _ (g.D.Disk.view c.pieces.disk) _ c.pieces.invariant.untouched c.read.ensures.goes c.read.ensures.told;
      quiet = c.in_ok-n.ensures.goes.quiet ∙ c.pieces.invariant.quiet;
      prefix = prefix_more _ into c.read.new.into at c.in_ok-n.n c.pieces.invariant.prefix (rw told at c.in_ok-n.ensures.piece) c.pieces.invariant.within c.in_ok-n.ensures.fits;
    }
