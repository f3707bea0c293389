use Rattle.std.proofs.Common.{subst}
use Rattle.run_files.specs.Readings.{IsBadAnswer}
use Rattle.run_files.specs.RunFiles.{CubesFile}
use Rattle.run_files.specs.Texts.{DeclaresGiven}
use Rattle.run_files.proofs.FilesRead.{read_whole_shows, read_bad, cubes_shown}
use Rattle.run_files.proofs.reading.read_cubes.Goals as goal

pub returns-in-Ok-clause-read : goal.returns-in-Ok-clause-read
returns-in-Ok-clause-read g c =
    read_whole_shows DeclaresGiven (g.H.Shelf.told c.args.shelf.now) _ _ (CubesFile c.args.name.now) c.in-Ok.bytes c.declared_cubes.result c.in-Ok.ensures.given c.in-Ok.ensures.calls
    (cubes_shown c.args.name.now c.in-Ok.bytes.items c.as_slice.result.now c.declared_cubes.result c.as_slice.ensures.value c.declared_cubes.ensures)

pub returns-in-Err-clause-read : goal.returns-in-Err-clause-read
returns-in-Err-clause-read g c =
    read_bad DeclaresGiven (g.H.Shelf.told c.args.shelf.now) _ _ (CubesFile c.args.name.now) c.in-Err.error c.unread_cubes.result c.in-Err.ensures.given c.in-Err.ensures.calls
    (subst (λ own. IsBadAnswer (CubesFile own) c.in-Err.error c.unread_cubes.result) c.in_ok-own.ensures c.unread_cubes.ensures)
