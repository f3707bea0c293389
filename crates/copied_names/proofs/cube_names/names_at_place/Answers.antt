use Rattle.copied_names.proofs.CopiedLists.{last-lists}
use Rattle.copied_names.proofs.cube_names.names_at_place.Goals as goal

pub returns : goal.returns
returns c =
    last-lists c.in_ok-names.names c.push.new.self c.args.lists c.args.place c.in_ok-names.ensures c.in_ok-push.ensures.ok
