use Rattle.std.proofs.Common.{ℕ, ◌≡◌, ◌-◌, length, ap, ◌∙◌, arith}
use Rattle.cube_rounds.specs.Bytes.{eight_bytes}
use Rattle.round_text.proofs.Fronts.{eight_put}
use Rattle.round_text.proofs.round_writing.set_length.Goals as goal

pub returns : goal.returns
unfolding eight_bytes
returns c =
    let size : c.args.out.now.len ≡ length c.args.out.now.items = omega arith in
    eight_put c.args.out.now.items c.deref_mut.result.now c.copy_from_slice.new.self (length c.args.out.now.items - 24)
    c.args.out.now.len c.deref_mut.ensures.value size c.requires
    (c.copy_from_slice.ensures.after ∙ c.to_le_bytes.ensures
    ∙ ap (λ (n : ℕ). eight_bytes (n - 24)) (c.len.ensures ∙ size))
