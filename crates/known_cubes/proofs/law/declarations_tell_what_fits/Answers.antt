use Rattle.known_cubes.proofs.DeclaredCubes.{asks-cube, dims-are, drop-box, may-encode, may-find, put-rows}
use Rattle.known_cubes.proofs.law.declarations_tell_what_fits.Goals as goal

pub returns-clause-queries : goal.returns-clause-queries
returns-clause-queries c = asks-cube

pub returns-clause-rows : goal.returns-clause-rows
returns-clause-rows c = λ o place shard decl k rows known all. put-rows o place decl k known shard rows all

pub returns-clause-dims : goal.returns-clause-dims
returns-clause-dims c = dims-are

pub returns-clause-boxes : goal.returns-clause-boxes
returns-clause-boxes c = drop-box

pub returns-clause-encode : goal.returns-clause-encode
returns-clause-encode c = λ o a place dim decl shape name k known session same sound texts short.
    may-encode o place decl k known a dim shape name session same sound texts short

pub returns-clause-find : goal.returns-clause-find
returns-clause-find c = λ o a place dim decl name k known session texts.
    may-find o place decl k known a dim name session texts
