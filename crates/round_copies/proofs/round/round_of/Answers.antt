use Rattle.round_copies.proofs.CopiedRound.{round-of-copies}
use Rattle.round_copies.proofs.round.round_of.Goals as goal

pub returns : goal.returns
returns c =
    round-of-copies c.args.span c.args.copies.items c.args.made c.args.names.items c.in_ok-bricks.bricks.items c.in_ok-cubes.cubes
    c.first_epoch.result c.in_ok-bricks.ensures.joined c.in_ok-bricks.ensures.rising c.in_ok-cubes.ensures c.first_epoch.ensures
