use Rattle.std.proofs.Common.{sym, ◌∙◌}
use Rattle.sha2.specs.Sha256.{sha256}
use Rattle.store_reading.proofs.PairsRead.{current_begins}
use Rattle.store_reading.proofs.pair.content_of_pair.Goals as goal

pub content_of-requires : goal.content_of-requires
content_of-requires c = record {
  begins = rw c.file_of-file.ensures (current_begins sha256 c.in_ok-first_header.first_header c.in_ok-second_header.second_header c.in-Ok.current c.args.first.now c.args.second.now
      (sym c.current_of.ensures ∙ c.in-Ok.is) c.in_ok-first_header.ensures.found c.in_ok-second_header.ensures.found);
}
