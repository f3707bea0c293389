use Rattle.sha2.specs.Sha256.{sha256}
use Rattle.round_text.proofs.HeaderLaws.{none_in_few}
use Rattle.round_text.proofs.header_reading.header_in.Goals as goal

pub returns-then-bytes-lt12 : goal.returns-then-bytes-lt12
returns-then-bytes-lt12 c = λ told tells. none_in_few sha256 told c.args.bytes.now c.if-bytes-lt12.true
