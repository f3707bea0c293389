use Rattle.std.proofs.Common.{◌≡◌, [], ◌∷◌, ◌++◌, get_or, sym, ap, ◌∙◌, arith, rules}
use Rattle.std.proofs.lemmas.List.{take_more}
use Rattle.std.proofs.lemmas.Option.{get_or_from_slice_get}
use Rattle.agg_fold.specs.Places.{is_among}
use Rattle.agg_fold.proofs.Chunks.{fresh}
use Rattle.agg_fold.proofs.Places.{distinct_held}
use Rattle.agg_fold.proofs.group_keys.GroupKeys.copy.Goals as goal

pub push-requires : goal.push-requires
push-requires c =
    ap (λ keys. is_among keys c.at.result.now) c.keys.invariant
    ∙ fresh c.args.self.now c.keys.place c.at.result.now
    (distinct_held (λ k. k.items) (λ keys. keys.value.keys) c.self.inside.keys c.args.self.now c.self.view_is
    c.self.invariant) c.at.ensures

pub keys-preserved : goal.keys-preserved
keys-preserved c =
    let self = c.args.self.now in
    let i = c.keys.place in
    let key : get_or self i [] ≡ c.at.result.now = get_or_from_slice_get self i c.at.result.now [] c.at.ensures in
    let pushed : c.push.new.self ≡ c.keys.keys ++ c.at.result.now ∷ [] = search rules in
    pushed ∙ (λ k. c.keys.invariant k ++ sym key k ∷ []) ∙ sym (take_more self i [] (omega arith))
