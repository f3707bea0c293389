use Rattle.std.proofs.Common.{ℕ, List, sym, subst}
use Rattle.cube_language.specs.declared.decl.Decl.{Decl}
use Rattle.measured_rows.specs.Rounds.{IsRoundSize, round_size_found}
use Rattle.measured_rows.proofs.FoundRounds.{found_size}
use Rattle.measured_rows.proofs.rounds.ReadRoundWork.work.Goals as goal

pub returns : goal.returns
returns c =
    let names = c.args.self.now.names in
    let cubes = c.args.self.now.cubes.items in
    let bytes = c.args.self.now.bytes.items in
    let size = round_size_found c.in_ok-found.found in
    subst (IsRoundSize cubes names bytes) (sym c.round_size_found.ensures)
    (subst (λ (cs : List Decl). IsRoundSize cs names bytes size) c.as_slice-cubes.ensures.value
    (subst (λ (bs : List ℕ). IsRoundSize c.as_slice-cubes.result.now names bs size) c.as_slice.ensures.value
    (found_size c.as_slice-cubes.result.now names c.as_slice.result.now c.in_ok-found.found c.in_ok-found.ensures.found
    c.in_ok-found.ensures.none)))
