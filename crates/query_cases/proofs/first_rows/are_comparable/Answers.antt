use Rattle.std.proofs.Common.{◌≡◌, true, rules, eqb-true}
use Rattle.std.specs.List.{list_all}
use Rattle.std.proofs.lemmas.List.Elements.{All-contains}
use Rattle.std.proofs.lemmas.List.Sums.{AllPass-from_list_all}
use Rattle.cube_values.specs.declared.top_plan.BoundKey.{BoundKey}
use Rattle.cube_values.specs.First.{field_at}
use Rattle.top_rows.specs.Order.{variant_of}
use Rattle.query_cases.specs.Comparable.{is_like, is_like_all, are_like}
use Rattle.query_cases.proofs.first_rows.are_comparable.Goals as goal

pub returns : goal.returns
returns c = λ yes key a b hk ha hb.
    let keys = c.args.keys.now in
    let lines = c.args.lines.now in
    let all : list_all (are_like lines) keys ≡ true = search rules in
    let of_key = All-contains (λ (k : BoundKey). are_like lines k ≡ true) keys key (AllPass-from_list_all _ keys all) hk in
    let of_line = All-contains (λ line. is_like_all lines key line ≡ true) lines a (AllPass-from_list_all _ lines of_key) ha in
    let same = All-contains (λ line. is_like key.place a line ≡ true) lines b (AllPass-from_list_all _ lines of_line) hb in
    eqb-true (variant_of (field_at a key.place)) (variant_of (field_at b key.place)) same
