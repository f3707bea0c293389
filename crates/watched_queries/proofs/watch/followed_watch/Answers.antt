use Rattle.std.proofs.Common.{refl}
use Rattle.watched_queries.proofs.FollowedWatches.{groups-follow, groups-room, has-gone}
use Rattle.watched_queries.proofs.watch.followed_watch.Goals as goal

pub remove-requires-clause-held : goal.remove-requires-clause-held
remove-requires-clause-held c =
    has-gone c.args.query.now c.args.kept.now.groups c.args.change.now c.requires.follows c.in_ok-next.next.groups
    c.in_ok-next.ensures c.merge.new.self.groups c.in_ok-merge.ensures.ok

pub returns : goal.returns
returns c = record {
  holder_is = refl;
  epoch_is = refl;
  query_is = c.in_ok-copy.ensures;
  follows =
      groups-follow c.args.query.now c.args.kept.now.groups c.args.change.now c.requires.follows c.in_ok-next.next.groups
      c.in_ok-next.ensures c.merge.new.self.groups c.in_ok-merge.ensures.ok c.remove.new.self.groups c.remove.ensures;
  room =
      groups-room c.args.query.now c.args.kept.now.groups c.args.change.now c.requires.follows c.in_ok-next.next.groups
      c.in_ok-next.ensures c.merge.new.self.groups c.in_ok-merge.ensures.ok c.remove.new.self.groups c.remove.ensures;
}
