use Rattle.std.proofs.lemmas.Grind.{common_steps}
use Rattle.std.proofs.lemmas.Slice.{take-put_mid_below}
use Rattle.std.proofs.Common.{◌≡◌, ◌-◌, length, refl, ap, arith, ◌∙◌}
use Rattle.outside.specs.declared.answers.ReadAnswer.TheVariants.{Got}
use Rattle.outside.specs.ShelfCalls.{no_piece}
use Rattle.outside.proofs.CallLists.{calls_more, calls_ended, calls_failed, calls_full}
use Rattle.outside.proofs.Pieces.{take-put_mid_more, length-put_mid_end, take_more_piece, prefix_at_end}
use Rattle.outside.proofs.reading.fill.Goals as goal

pub returns-in-Got-eq0-clause-prefix : goal.returns-in-Got-eq0-clause-prefix
returns-in-Got-eq0-clause-prefix g c = λ files bytes n told there is.
    let before = c.pieces.invariant.prefix files bytes told there in
    let part = c.read.ensures.piece files bytes 0 (c.pieces.invariant.same ∙ told) there cc in
    prefix_at_end bytes c.pieces.into c.read.new.into c.pieces.filled n before.1 (omega arith) before.0
    (grind arith) part cc

pub pieces-preserved : goal.pieces-preserved
pieces-preserved g c = record {
  within = grind (arith, common_steps);
  same = grind (arith, common_steps);
  quiet = grind (arith, common_steps);
  absences = grind (arith, common_steps);
  prefix = λ files bytes told there.
      let before = c.pieces.invariant.prefix files bytes told there in
      let part = c.read.ensures.piece files bytes c.in-Got.n (c.pieces.invariant.same ∙ told) there c.in-Got.is in
      let fits = c.read.ensures.fits _ c.in-Got.is in
      let into = c.pieces.into in (
        omega (arith, part.within, before.0),
        take_more_piece bytes into c.read.new.into c.pieces.filled c.in-Got.n before.1 c.pieces.invariant.within fits part,
      );
  calls =
      let fits = c.read.ensures.fits _ c.in-Got.is in
      let into = c.pieces.into in
      let at = c.pieces.filled in
      let whole = take-put_mid_more into c.read.new.into at c.in-Got.n c.pieces.invariant.within fits in
      calls_more _ _ _ _ at into c.in-Got.n c.read.new.into _ c.pieces.invariant.calls
      c.pieces.invariant.within (omega (arith, c.in-Got.n-test)) fits (rw c.in-Got.is at c.read.ensures.call) whole;
}

pub pieces-init : goal.pieces-init
pieces-init g c = record {
  within = grind arith;
  same = refl;
  quiet = refl;
  absences = refl;
  prefix = λ files bytes told there. (omega arith, refl);
  calls = λ past known. (past, known, no_piece);
}

pub returns-in-Got-eq0-clause-calls : goal.returns-in-Got-eq0-clause-calls
returns-in-Got-eq0-clause-calls g c =
    let at = c.pieces.filled in
    let into = c.pieces.into in
    let new = c.read.new.into in
    let full : length new ≡ length into - at = grind arith in
    let same = take-put_mid_below at (length into - at) into new at (omega arith) (omega arith) in
    rw (length-put_mid_end into new at (omega arith) full)
    (calls_ended _ _ _ _ at into (length into) _ c.pieces.invariant.calls (omega arith) (omega arith)
    (rw (c.in-Got-eq0.is ∙ ap Got c.in-Got-eq0.field-0-test) at c.read.ensures.call) same)

pub returns-in-Failed-clause-calls : goal.returns-in-Failed-clause-calls
returns-in-Failed-clause-calls g c =
    let at = c.pieces.filled in
    let into = c.pieces.into in
    let new = c.read.new.into in
    let full : length new ≡ length into - at = grind arith in
    rw (length-put_mid_end into new at (omega arith) full)
    (calls_failed _ _ _ _ at into (length into) c.pieces.invariant.calls (omega arith) (omega arith)
    (rw c.in-Failed.is at c.read.ensures.call))

pub returns-clause-calls : goal.returns-clause-calls
returns-clause-calls g c =
    calls_full _ _ _ _ c.pieces.filled c.pieces.into (length c.pieces.into) c.pieces.invariant.calls (omega arith)
    c.pieces.invariant.within refl
