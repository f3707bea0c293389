use Rattle.std.proofs.Common.{rules}
use Rattle.std.proofs.lemmas.Fn.{filter_same}
use Rattle.brick_map.specs.Waiting.{is_above}
use Rattle.brick_map.proofs.recent.forget_up_to.Goals as goal

pub returns : goal.returns
returns c = filter_same _ (is_above c.args.epoch) _ (λ x b f' k. search rules) _ _ c.retain.ensures.filtered
