use Rattle.std.proofs.Common.{ap, ◌∙◌, length}
use Rattle.cube_rounds.specs.Stands.{Kept}
use Rattle.round_store.specs.Counts.{counts_of}
use Rattle.round_store.specs.States.{StoreState}
use Rattle.round_store.proofs.NewLaws.{new_store_of}
use Rattle.round_store.proofs.WholeStands.{begun_bytes}
use Rattle.round_store.proofs.new_store.new_store.Goals as goal

pub returns-clause-store : goal.returns-clause-store
returns-clause-store c = λ list can.
    let s = c.in_ok-store.store in
    let is = c.in_ok-store.ensures in
    let kept = c.in_ok-kept.ensures in
    new_store_of s c.args.cubes.now c.in_ok-declared_cubes.field-0 list c.a_text_declares_or_has_one_fault.ensures.one_list c.requires.fits c.in_ok-declared_cubes.ensures.canonical can
    (ap (λ (x : StoreState). x.cubes) is ∙ ap (λ (k : Kept). k.cubes) kept)
    (ap (λ (x : StoreState). x.declared) is ∙ ap (λ (k : Kept). k.declared) kept)
    (ap (λ (x : StoreState). x.rounds) is ∙ ap (λ (k : Kept). length k.rounds) kept)
    (ap (λ (x : StoreState). x.counts) is ∙ ap (λ (k : Kept). counts_of k.names) kept)

pub returns-clause-begun : goal.returns-clause-begun
returns-clause-begun c = begun_bytes 1 c.args.cubes.now c.in_ok-file.file.items c.in_ok-file.ensures
