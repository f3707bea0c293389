use Rattle.std.proofs.lemmas.Grind.{common_steps}
use Rattle.std.proofs.lemmas.Slice.{between_to_end}
use Rattle.std.proofs.Common.{length, arith, append-nil}
use Rattle.outside.proofs.Pieces.{Gained-more}
use Rattle.outside.proofs.writing.put_whole.Goals as goal

pub returns-in-Failed-clause-err : goal.returns-in-Failed-clause-err
returns-in-Failed-clause-err g c =
    let step = rw c.in-Failed.is at c.put.ensures.gained in
    (c.pieces.taken, omega arith, λ taken told. rw append-nil at (step _ (c.pieces.invariant.gained taken told)))

pub pieces-preserved : goal.pieces-preserved
pieces-preserved g c = record {
  within = grind (arith, common_steps);
  quiet = grind (arith, common_steps);
  gained =
      let bytes = c.args.bytes.now in
      let rest = between_to_end bytes c.pieces.taken (length bytes) (omega arith) in
      let step = rw c.in-Took.is at c.put.ensures.gained in
      Gained-more _ _ _ bytes _ c.pieces.taken c.in-Took.n rest c.pieces.invariant.gained step;
}
