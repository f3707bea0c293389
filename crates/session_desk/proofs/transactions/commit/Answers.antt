use Rattle.std.proofs.lemmas.Bool.{OnTrue_at}
use Rattle.session_desk.proofs.Finishing.{commits_open}
use Rattle.std.proofs.Common.{◌+◌}
use Rattle.session_desk.proofs.Turning.{moves_committed}
use Rattle.session_desk.proofs.transactions.commit.Goals as goal

pub returns-then-follow_commit-clause-executed : goal.returns-then-follow_commit-clause-executed
returns-then-follow_commit-clause-executed c =
    commits_open c.open_epoch-epoch.result c.args.desk.now c.args.session.now c.commit.new.self
    c.follow_commit.new.desk c.round_follows-is_due.result c.requires.at c.open_epoch-epoch.ensures c.commit.ensures
    c.round_follows-is_due.ensures (OnTrue_at c.if-follow_commit.true c.follow_commit.ensures.followed)

pub returns-then-follow_commit-clause-moves : goal.returns-then-follow_commit-clause-moves
returns-then-follow_commit-clause-moves c =
    moves_committed (c.args.session.now.statements + 1) c.args.desk.now c.args.session.now c.open_epoch-epoch.result
    c.commit.new.self c.follow_commit.new.desk c.requires.at c.open_epoch-epoch.ensures c.commit.ensures
    c.follow_commit.ensures.moves

pub returns-else-follow_commit-clause-moves : goal.returns-else-follow_commit-clause-moves
returns-else-follow_commit-clause-moves c =
    moves_committed (c.args.session.now.statements + 1) c.args.desk.now c.args.session.now c.open_epoch-epoch.result
    c.commit.new.self c.follow_commit.new.desk c.requires.at c.open_epoch-epoch.ensures c.commit.ensures
    c.follow_commit.ensures.moves
