use Rattle.std.proofs.Common.{sym, ◌∙◌, subst, ◌≤◌, length, ℕ, List}
use Rattle.round_store.proofs.WholeStands.{header_long, whole_put}
use Rattle.round_store.proofs.next.whole_bytes.Goals as goal

pub middle_of-requires : goal.middle_of-requires
middle_of-requires c =
    subst (λ (b : List ℕ). 2 ≤ length b) (sym c.as_slice-2.ensures.value) (header_long c.args.generation c.as_slice.result.now c.in_ok-header.header.items c.in_ok-header.ensures)

pub returns : goal.returns
returns c =
    whole_put c.args.generation c.args.cubes.now c.args.round.now c.as_slice.result.now c.as_slice-2.result.now c.as_slice-3.result.now c.middle_of.result.now
    c.in_ok-bytes.bytes.items c.extend_from_slice.new.self.items c.push.new.self.items c.extend_from_slice-2.new.self.items
    (c.as_slice-2.ensures.value ∙ c.in_ok-header.ensures) (c.as_slice.ensures.value ∙ c.in_ok-text.ensures) (c.as_slice-3.ensures.value ∙ c.in_ok-written.ensures) c.middle_of.ensures
    c.in_ok-bytes.ensures.items c.in_ok-extend_from_slice.ensures.items c.in_ok-push.ensures.items c.in_ok-extend_from_slice-2.ensures.items
