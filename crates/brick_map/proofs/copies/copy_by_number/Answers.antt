use Rattle.std.proofs.Common.{◌≡◌, ◌++◌, ℕ, List, rules, sym, ap, ◌∙◌, append-nil}
use Rattle.std.specs.List.{flat_map}
use Rattle.std.specs.Cmp.{nat_cmp_total}
use Rattle.std.specs.Map.{keys_of}
use Rattle.std.specs.Map.Iter.{deref_pair}
use Rattle.std.proofs.lemmas.Map.Iter.{btree_map_turn, rest_more}
use Rattle.brick_map.specs.Copied.{parts_at}
use Rattle.brick_map.proofs.Rising.{all_found, all_rise, one_more}
use Rattle.brick_map.proofs.copies.copy_by_number.Goals as goal

pub places-preserved : goal.places-preserved
places-preserved c =
    let m = c.args.places.now in
    let l = c.places in
    let start : c.into_iter-number-iterator.result ≡ m.entries = search rules in
    let turn = btree_map_turn deref_pair l.yielded c.into_iter-number-iterator.result l.number-iterator c.next.new.self c.next.result (c.in-Some.number, c.in-Some.place) l.yielded_by c.in-Some.is c.next.ensures.steps nat_cmp_total m start c.len-entries.ensures.ordered in
    let number = c.in-Some.number.now in
    one_more c.args.from c.args.to c.args.bricks.now l.parts.items c.add_part_at.new.parts.items (flat_map (parts_at c.args.from c.args.to c.args.bricks.now) (keys_of m.entries)) l.number-iterator c.next.new.self number c.in-Some.place.now (rest_more deref_pair l.number-iterator c.next.new.self c.next.result (c.in-Some.number, c.in-Some.place) c.in-Some.is c.next.ensures.steps) (sym (c.requires number) ∙ turn.1) c.in_ok-add_part_at.ensures l.invariant

pub returns-clause-rising : goal.returns-clause-rising
returns-clause-rising c =
    let f = parts_at c.args.from c.args.to c.args.bricks.now in
    let parts = c.places.parts.items in
    let all = sym (append-nil parts) ∙ ap (λ (l : List (ℕ × ℕ)). parts ++ flat_map f (keys_of l)) (sym c.in-None.ensures.steps.0) ∙ c.places.invariant in
    all_rise c.args.from c.args.to c.args.bricks.now (keys_of c.args.places.now.entries) parts c.len-entries.ensures.ordered all

pub returns-clause-parts : goal.returns-clause-parts
returns-clause-parts c = λ number.
    let f = parts_at c.args.from c.args.to c.args.bricks.now in
    let parts = c.places.parts.items in
    let all = sym (append-nil parts) ∙ ap (λ (l : List (ℕ × ℕ)). parts ++ flat_map f (keys_of l)) (sym c.in-None.ensures.steps.0) ∙ c.places.invariant in
    all_found c.args.from c.args.to c.args.bricks.now c.args.places.now.entries parts number c.len-entries.ensures.ordered (c.requires number) all
