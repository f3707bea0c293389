use Rattle.std.proofs.Common.{arith, rules, ◌≡◌, ◌∙◌, sym, ap, ◌/◌, ◌%◌, ◌-◌, length, take, drop}
use Rattle.std.proofs.lemmas.Nat.{mod_below}
use Rattle.std.proofs.lemmas.Slice.{first_rest}
use Rattle.cube_values.specs.Shapes.{bricks_of}
use Rattle.brick_address.specs.Addresses.{range_in}
use Rattle.brick_address.proofs.Steps.{first_size, range_in_first, range_in_later}
use Rattle.brick_address.proofs.address.+range_in.Goals as goal

pub range_in-requires : goal.range_in-requires
range_in-requires t c =
    let e = first_rest c.args.sizes.now (record { cardinality = 0; range = 0 }) c.in-len1-up.len_at_least in
    let f = first_size _ _ _ e c.requires.sound in
    let left = c.args.bricks / c.ranges_of.result in
    let rest = take (length c.args.sizes.now - 1) (drop 1 c.args.sizes.now) in
    let b : left ≡ bricks_of rest = rw (c.requires.bricks, c.ranges_of.ensures) f.below in
    (search rules, (f.others, (b, (mod_below c.args.brick left (rw b f.some), omega (arith, ap length e)))))

pub returns-then-dim-eq0 : goal.returns-then-dim-eq0
returns-then-dim-eq0 t c =
    let e = first_rest c.args.sizes.now (record { cardinality = 0; range = 0 }) c.in-len1-up.len_at_least in
    let f = first_size _ _ _ e c.requires.sound in
    let r = range_in_first _ _ _ c.args.brick c.args.dim e c.if-dim-eq0.true in
    let b : c.args.bricks / c.ranges_of.result ≡ _ = rw (c.requires.bricks, c.ranges_of.ensures) f.below in
    ap (λ n. c.args.brick / n) b ∙ sym r

pub returns-else-dim-eq0 : goal.returns-else-dim-eq0
returns-else-dim-eq0 t c =
    let e = first_rest c.args.sizes.now (record { cardinality = 0; range = 0 }) c.in-len1-up.len_at_least in
    let f = first_size _ _ _ e c.requires.sound in
    let r = range_in_later _ _ _ c.args.brick c.args.dim e c.if-dim-eq0.false in
    let rest = take (length c.args.sizes.now - 1) (drop 1 c.args.sizes.now) in
    let b : c.args.bricks / c.ranges_of.result ≡ bricks_of rest = rw (c.requires.bricks, c.ranges_of.ensures) f.below in
    c.range_in.ensures ∙ ap (λ n. range_in rest (c.args.brick % n) (c.args.dim - 1)) b ∙ sym r
