use Rattle.std.proofs.Common.{◌≡◌, ◌∙◌}
use Rattle.cube_language.specs.Cubes.{cubes_text}
use Rattle.round_store.specs.Creation.{AreCreating}
use Rattle.opened_store.proofs.Keeping.{creating}
use Rattle.opened_store.proofs.NewStores.{is_canonical, header_fits}
use Rattle.opened_store.proofs.creating.create_for_run.Goals as goal

pub create_store-requires-clause-fits : goal.create_store-requires-clause-fits
create_store-requires-clause-fits g c =
    header_fits c.what_is_printed_declares_its_cubes.ensures c.canonical_texts_are_short.ensures c.args.cubes.now c.as_slice.result.now c.requires.declared
    (c.as_slice.ensures.value ∙ c.in_ok-text.ensures)

pub returns-in-Ok-clause-at : goal.returns-in-Ok-clause-at
returns-in-Ok-clause-at g c =
    let list = c.args.cubes.now in
    let is : c.as_slice.result.now ≡ cubes_text list = c.as_slice.ensures.value ∙ c.in_ok-text.ensures in
    rw c.in_ok-kept.ensures.cubes
    (c.in-Ok.ensures.created list (is_canonical c.what_is_printed_declares_its_cubes.ensures list c.as_slice.result.now c.requires.declared is))

pub returns-in-Ok-clause-moves : goal.returns-in-Ok-clause-moves
returns-in-Ok-clause-moves g c =
    let v1 = g.D.Disk.view c.args.disk.now in
    let v2 = g.D.Disk.view c.args.other.now in
    let list = c.args.cubes.now in
    let is : c.as_slice.result.now ≡ cubes_text list = c.as_slice.ensures.value ∙ c.in_ok-text.ensures in
    let can = is_canonical c.what_is_printed_declares_its_cubes.ensures list c.as_slice.result.now c.requires.declared is in
    creating (AreCreating list) v1 (g.D.Disk.view c.create_store.new.disk) v2 (g.D.Disk.view c.create_store.new.other) (g.met.D.Disk.counts_now c.create_store.new.disk)
    (c.create_store.ensures.second_moves list can) (c.create_store.ensures.first_moves list can)

pub returns-in-Err-Fault-clause-moves : goal.returns-in-Err-Fault-clause-moves
returns-in-Err-Fault-clause-moves g c =
    let v1 = g.D.Disk.view c.args.disk.now in
    let v2 = g.D.Disk.view c.args.other.now in
    let list = c.args.cubes.now in
    let is : c.as_slice.result.now ≡ cubes_text list = c.as_slice.ensures.value ∙ c.in_ok-text.ensures in
    let can = is_canonical c.what_is_printed_declares_its_cubes.ensures list c.as_slice.result.now c.requires.declared is in
    creating (AreCreating list) v1 (g.D.Disk.view c.create_store.new.disk) v2 (g.D.Disk.view c.create_store.new.other) (g.met.D.Disk.counts_now c.create_store.new.disk)
    (c.create_store.ensures.second_moves list can) (c.create_store.ensures.first_moves list can)

pub returns-clause-moves : goal.returns-clause-moves
returns-clause-moves g c =
    let v1 = g.D.Disk.view c.args.disk.now in
    let v2 = g.D.Disk.view c.args.other.now in
    let list = c.args.cubes.now in
    let is : c.as_slice.result.now ≡ cubes_text list = c.as_slice.ensures.value ∙ c.in_ok-text.ensures in
    let can = is_canonical c.what_is_printed_declares_its_cubes.ensures list c.as_slice.result.now c.requires.declared is in
    creating (AreCreating list) v1 (g.D.Disk.view c.create_store.new.disk) v2 (g.D.Disk.view c.create_store.new.other) (g.met.D.Disk.counts_now c.create_store.new.disk)
    (c.create_store.ensures.second_moves list can) (c.create_store.ensures.first_moves list can)
