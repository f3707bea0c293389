use Rattle.outside_disk.proofs.Reading.{cut_is_long}
use Rattle.outside_disk.proofs.synced_writes.replace_from.Goals as goal

pub write_at-requires : goal.write_at-requires
write_at-requires g c = cut_is_long _ _ c.args.at c.requires.at c.in_ok-cut.ensures.told c.cut.ensures.goes.tells
