use Rattle.std.proofs.Common.{◌≡◌, ℕ, suc, List, [], ◌∷◌, ◌++◌, take, drop, get_or, sym, ap, ◌∙◌}
use Rattle.std.proofs.Math.Seq.{split_at}
use Rattle.std.proofs.lemmas.List.{take_more}
use Rattle.kept_data.specs.KeptDicts.{with_names_at}
use Rattle.kept_data.proofs.NamedDicts.{no_names_yet, one_name_more}
use Rattle.kept_data.proofs.dicts.add_names.Goals as goal

pub names-init : goal.names-init
names-init c = no_names_yet c.args.dicts.now c.args.cube c.args.dim c.requires.empty

pub names-preserved : goal.names-preserved
names-preserved c =
    let names = c.args.names.now in
    let i = c.names.name-index in
    let item = c.name-item.result in
    let name = c.as_str.result.now in
    let is : get_or names i item ≡ name = sym c.name-item.is ∙ sym c.as_str.ensures.bytes in
    one_name_more c.args.shape.now c.args.dicts.now c.names.dicts c.encode.new.self c.args.cube c.args.dim (take i names) name (drop (suc i) names) names c.in_ok-_code._code
    c.names.invariant c.requires.made
    (split_at names i item c.names-test.true ∙ ap (λ (n : List ℕ). take i names ++ n ∷ drop (suc i) names) is)
    c.requires.fits c.in_ok-_code.ensures.code c.in_ok-_code.ensures.names
    ∙ ap (λ (front : List (List ℕ)). with_names_at c.args.dicts.now c.args.cube c.args.dim front)
    (sym (take_more names i item c.names-test.true ∙ ap (λ (n : List ℕ). take i names ++ n ∷ []) is))
