use Rattle.std.proofs.Common.{◌∙◌, List, ℕ, [], ◌∷◌, ◌++◌, ap, sym, subst}
use Rattle.condition_spans.specs.Codes.{lists_at}
use Rattle.core_watches.proofs.BoundNames.{bound-by}
use Rattle.core_watches.specs.BoundQueries.{IsBoundByNames}
use Rattle.cube_values.specs.declared.query.BoundQuery.{BoundQuery}
use Rattle.core_watches.proofs.binding.query_by.Goals as goal

pub returns : goal.returns
returns c =
    let only = c.push.new.self in
    let lists = c.lists_of-lists.result in
    let one =
    c.in_ok-push.ensures.ok ∙ ap (λ (l : List (List (List (List ℕ)))). l ++ lists ∷ []) c.new-only.ensures
    in
    subst (λ (q : BoundQuery). IsBoundByNames c.args.place c.args.cube.now c.args.statement.now c.args.names
    (record { query = q; names = only })) (sym c.query_at.ensures)
    (bound-by c.args.cube.now c.args.statement.now c.args.place c.args.names only c.in_ok-query.query
    (ap (λ (l : List (List (List (List ℕ)))). lists_at l 0) one ∙ c.lists_of-lists.ensures) c.in_ok-query.ensures)
