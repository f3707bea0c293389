use Rattle.std.proofs.Common.{ℕ, ◌+◌, List, [], ◌∷◌, ◌++◌, take, ap, sym, ◌≡◌, ◌∙◌}
use Rattle.std.specs.List.{list_any}
use Rattle.std.specs.Str.{bytes_eq}
use Rattle.std.proofs.lemmas.List.{take_more}
use Rattle.round_reading.proofs.NameSets.{name_added}
use Rattle.round_reading.proofs.names.known_names.Goals as goal

pub names-preserved : goal.names-preserved
names-preserved c = λ q.
    let names = c.args.names.now in
    let i = c.names.name-index in
    let more : take i names ++ c.as_str.result.now ∷ [] ≡ take (i + 1) names =
    ap (λ (x : List ℕ). take i names ++ x ∷ []) (c.as_str.ensures.bytes ∙ c.name-item.is) ∙ sym (take_more names i c.name-item.result c.names-test.true) in
    name_added c.names.known c.insert.new.self (take i names) c.as_str.result c.in_ok-insert.ensures.updates.0 c.names.invariant q
    ∙ ap (list_any (bytes_eq q.now)) more
