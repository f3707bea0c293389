use Rattle.std.proofs.Common.{length}
use Rattle.row_encoding.proofs.LoadSteps.{IsLoadedFront}
use Rattle.row_encoding.proofs.load.load_rows.Given as goal

abbrev pub invariant-records : goal.invariant-records
invariant-records g l =
    IsLoadedFront g.E.Encoder.may_end g.E.Encoder.suits g.E.Encoder.has_name g.E.Encoder.keeps g.E.Encoder.has_given l.place l.cube l.allowed l.fn.load l.fn.bad l.initial.batch l.fn.encoder l.encoder l.load l.bad l.batch

abbrev pub decreases-records : goal.decreases-records
decreases-records g l = length l.load.left
