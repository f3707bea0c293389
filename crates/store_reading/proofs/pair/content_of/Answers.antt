use Rattle.std.proofs.Common.{sym, ◌∙◌, arith}
use Rattle.sha2.specs.Sha256.{sha256}
use Rattle.store_reading.proofs.PairsRead.{readable_cubes, content_by}
use Rattle.store_reading.proofs.pair.content_of.Goals as goal

pub rounds_of-requires-clause-readable : goal.rounds_of-requires-clause-readable
rounds_of-requires-clause-readable c = rw c.in_ok-begun.ensures (readable_cubes c.args.current.1.cubes c.in_ok-cubes.cubes (rw c.as_slice.ensures at c.in_ok-cubes.ensures.canonical).declares)

pub returns : goal.returns
returns c = λ told tells.
    content_by sha256 told c.args.current c.args.file.now c.in_ok-cubes.cubes c.in_ok-begun.begun c.in_ok-kept.kept c.split_at.result.1.now c.in_ok-kept.left.now
    (rw c.as_slice.ensures at (c.in_ok-cubes.ensures.told told tells)) c.in_ok-begun.ensures c.split_at.ensures.back (c.in_ok-kept.ensures.exact told tells)
