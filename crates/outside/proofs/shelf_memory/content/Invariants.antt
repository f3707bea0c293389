use Rattle.std.proofs.Common.{◌≡◌, drop}
use Rattle.outside.specs.Files.{content_of}
use Rattle.outside.specs.Told.{files_of}
use Rattle.outside.proofs.shelf_memory.content.Given as goal

abbrev pub invariant-files : goal.invariant-files
invariant-files l = content_of (files_of (drop l.own-index l.files)) l.name ≡ content_of (files_of l.files) l.name
