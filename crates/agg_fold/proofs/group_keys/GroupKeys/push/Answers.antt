use Rattle.std.proofs.Common.{◌∙◌, [], map, sym}
use Rattle.std.specs.Option.{option_map_or}
use Rattle.agg_fold.proofs.Places.{keys_after}
use Rattle.agg_fold.proofs.group_keys.GroupKeys.push.Goals as goal

pub returns-in_ok-insert-in-Some-clause-ok : goal.returns-in_ok-insert-in-Some-clause-ok
returns-in_ok-insert-in-Some-clause-ok c =
    let shown = (λ i. map (λ k. k.items) (c.deref_mut.ensures.value i).keys)
    ∙ (λ i. option_map_or (λ keys. map (λ k. k.items) keys.value.keys) (sym c.in-Some.is i) [])
    ∙ c.self.view_is in
    keys_after (λ k. k.items) c.deref_mut.result.now.keys c.insert.new.self.keys c.in_ok-owned.owned
    c.args.self.now c.args.key.now shown c.in_ok-owned.ensures.items c.requires c.in_ok-insert-in-Some.ensures.keys
