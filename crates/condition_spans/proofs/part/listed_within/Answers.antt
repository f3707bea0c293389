use Rattle.std.proofs.Common.{◌==◌, List, ℕ, sym, ap, subst, ◌∙◌}
use Rattle.std.specs.List.{list_any}
use Rattle.cube_values.specs.Spans.{part_has, Rises}
use Rattle.condition_spans.proofs.Shared.{filter_has, rises_filter}
use Rattle.condition_spans.proofs.part.listed_within.Goals as goal

pub returns-clause-has : goal.returns-clause-has
returns-clause-has c = λ x.
    ap (list_any (λ d. d == x)) (c.from_vec.ensures ∙ c.in_ok-within.ensures)
    ∙ filter_has (part_has c.args.part.now) c.args.coords.now x

pub returns-clause-sound : goal.returns-clause-sound
returns-clause-sound c =
    subst (λ (coords : List ℕ). Rises coords) (sym (c.from_vec.ensures ∙ c.in_ok-within.ensures))
    (rises_filter (part_has c.args.part.now) c.args.coords.now c.requires)
