use Rattle.std.proofs.Common.{arith, rules, ℕ, ◌≡◌, ◌∙◌, sym, ap, subst, ◌/◌, ◌%◌, ◌-◌, ◌∷◌, length, take, drop, get_or}
use Rattle.std.proofs.lemmas.List.Elements.{All-rest}
use Rattle.std.proofs.lemmas.Nat.{mod_below}
use Rattle.std.proofs.lemmas.Slice.{first_rest}
use Rattle.cube_values.specs.Shapes.{bricks_of}
use Rattle.cube_values.specs.Spans.{IsSoundPart}
use Rattle.brick_address.specs.Addresses.{length_of, coord_at}
use Rattle.brick_address.specs.Covers.{Covers}
use Rattle.brick_address.proofs.Steps.{first_size, cover_step}
use Rattle.brick_address.proofs.cover.+cover_of.Goals as goal

pub bounds_of-bounds-requires : goal.bounds_of-bounds-requires
bounds_of-bounds-requires t c =
    let e = first_rest c.args.sizes.now (record { cardinality = 0; range = 0 }) c.in-len1-up.len_at_least in
    let f = first_size _ _ _ e c.requires.sound in
    let rest = take (length c.args.sizes.now - 1) (drop 1 c.args.sizes.now) in
    let left : c.args.bricks / c.ranges_of.result ≡ bricks_of rest = rw (c.requires.bricks, c.ranges_of.ensures) f.below in
    rw left (f.some_length c.args.brick (rw (← c.requires.bricks) c.requires.brick))

pub cover_of-others-requires : goal.cover_of-others-requires
cover_of-others-requires t c =
    let e = first_rest c.args.sizes.now (record { cardinality = 0; range = 0 }) c.in-len1-up.len_at_least in
    let g = first_rest c.args.parts.now c.part-item.result c.in-len1-up-parts.len_at_least in
    let f = first_size _ _ _ e c.requires.sound in
    let rest = take (length c.args.sizes.now - 1) (drop 1 c.args.sizes.now) in
    let left : c.args.bricks / c.ranges_of.result ≡ bricks_of rest = rw (c.requires.bricks, c.ranges_of.ensures) f.below in
    let lengths = ap length e in
    let parts_lengths = ap length g in (
      search rules,
      (
        f.others,
        (
          omega arith,
          (
            All-rest IsSoundPart _ _ _ g c.requires.parts,
            (
              omega arith,
              (
                left,
                mod_below c.args.brick (c.args.bricks / c.ranges_of.result) (rw left f.some),
              ),
            ),
          ),
        ),
      ),
    )

pub returns-clause-covers : goal.returns-clause-covers
returns-clause-covers t c =
    let s = get_or c.args.sizes.now 0 (record { cardinality = 0; range = 0 }) in
    let e = first_rest c.args.sizes.now (record { cardinality = 0; range = 0 }) c.in-len1-up.len_at_least in
    let f = first_size _ _ _ e c.requires.sound in
    let rest = take (length c.args.sizes.now - 1) (drop 1 c.args.sizes.now) in
    let more = take (length c.args.parts.now - 1) (drop 1 c.args.parts.now) in
    let g = first_rest c.args.parts.now c.part-item.result c.in-len1-up-parts.len_at_least ∙ ap (λ p. p ∷ more) (sym c.part-item.is) in
    let left : c.args.bricks / c.ranges_of.result ≡ bricks_of rest = rw (c.requires.bricks, c.ranges_of.ensures) f.below in
    rw c.cover_with.ensures (cover_step c.args.sizes.now rest c.args.parts.now more s c.part-item.result c.args.brick c.bounds_of-bounds.result.start
    c.bounds_of-bounds.result.end c.share_of-first.result c.cover_of-others.result e g c.requires.sound (rw (← c.requires.bricks) c.requires.brick)
    (c.bounds_of-bounds.ensures.start ∙ ap (λ n. coord_at s (c.args.brick / n) 0) left)
    (c.bounds_of-bounds.ensures.end ∙ ap (λ n. coord_at s (c.args.brick / n) (length_of s (c.args.brick / n))) left)
    c.share_of-first.ensures
    (subst (λ (n : ℕ). Covers rest more (c.args.brick % n) c.cover_of-others.result) left c.cover_of-others.ensures.covers))
