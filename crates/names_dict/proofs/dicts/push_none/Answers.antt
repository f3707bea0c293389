use Rattle.std.proofs.Common.{◌≡◌, ◌+◌, List, [], ◌∷◌, ◌++◌, replicate, ap, ◌∙◌, append_assoc, arith, rules}
use Rattle.std.proofs.lemmas.List.{replicate-append-replicate}
use Rattle.names_dict.specs.Dictionaries.{Dictionary}
use Rattle.names_dict.proofs.dicts.push_none.Goals as goal

pub cubes-preserved : goal.cubes-preserved
cubes-preserved c =
    let old = c.args.cubes.now.items in
    let i = c.cubes._cube in
    let none : List (List Dictionary) = [] ∷ [] in
    let pushed : c.push_reserved.new.self.items ≡ c.cubes.cubes.items ++ none = search rules in (
      pushed ∙ ap (λ (l : List (List Dictionary)). l ++ none) c.cubes.invariant.0 ∙ append_assoc old (replicate i []) none ∙ ap (λ (l : List (List Dictionary)). old ++ l) (replicate-append-replicate i 1 []),
      c.push_reserved.ensures.len ∙ ap (λ n. n + 1) c.cubes.invariant.1 ∙ omega arith,
      c.push_reserved.ensures.capacity ∙ c.cubes.invariant.2,
    )
