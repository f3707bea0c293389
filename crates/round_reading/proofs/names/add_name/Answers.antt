use Rattle.std.proofs.Common.{List, ℕ, [], ◌∷◌, ◌++◌, not, ◌&&◌, ap, sym, ◌∙◌}
use Rattle.std.specs.List.{list_any}
use Rattle.std.specs.Str.{bytes_eq}
use Rattle.round_reading.proofs.NameSets.{name_added, new_name, not_utf8}
use Rattle.round_reading.proofs.names.add_name.Goals as goal

pub returns-then-branch-clause-is_new : goal.returns-then-branch-clause-is_new
returns-then-branch-clause-is_new c = λ names has.
    sym c.if-branch.true
    ∙ new_name names c.args.name.now c.in-Ok.text c.args.known.now c.in_ok-insert-in-Ok.field-0 c.in-Ok.ensures.cases.0 c.in-Ok.ensures.cases.1 has c.in_ok-insert-in-Ok.ensures.added

pub returns-then-branch-clause-known : goal.returns-then-branch-clause-known
returns-then-branch-clause-known c = λ names has q.
    name_added c.args.known.now c.insert.new.self names c.in-Ok.text c.in_ok-insert-in-Ok.ensures.updates.0 has q
    ∙ ap (λ (n : List ℕ). list_any (bytes_eq q.now) (names ++ n ∷ [])) c.in-Ok.ensures.cases.0

pub returns-in-Err-clause-is_new : goal.returns-in-Err-clause-is_new
returns-in-Err-clause-is_new c = λ names has.
    sym (ap (λ b. b && not (list_any (bytes_eq c.args.name.now) names)) (not_utf8 c.args.name.now c.in-Err.ensures.cases.0))
