use Rattle.std.proofs.Common.{◌∙◌, [], map, sym}
use Rattle.std.specs.Option.{option_map_or}
use Rattle.agg_fold.proofs.Places.{place_is}
use Rattle.agg_fold.proofs.group_keys.GroupKeys.find.Goals as goal

pub returns-in-Some : goal.returns-in-Some
returns-in-Some c =
    let shown = (λ i. map (λ k. k.items) (c.deref.ensures i).keys)
    ∙ (λ i. option_map_or (λ keys. map (λ k. k.items) keys.value.keys) (sym c.in-Some.is i) [])
    ∙ c.self.view_is in
    place_is (λ k. k.items) c.deref.result.now.keys c.args.self.now c.args.key.now c.get_index_of.result shown
    c.get_index_of.ensures.index
