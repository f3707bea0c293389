use Rattle.std.proofs.Common.{◌≡◌, false, drop, refl, sym, ap, subst, ◌∙◌}
use Rattle.round_store.specs.States.{whole_place}
use Rattle.round_store.specs.Wholes.{IsBegun}
use Rattle.round_store.proofs.NewLaws.{first_creating, second_creating, new_at}
use Rattle.round_store.proofs.new_store.create_store.Goals as goal

pub returns-in-Ok-clause-first_moves : goal.returns-in-Ok-clause-first_moves
returns-in-Ok-clause-first_moves g c = λ list can.
    let v1 = g.D.Disk.view c.args.disk.now in
    let v2 = g.D.Disk.view c.args.other.now in
    let bytes = c.split_at.result.1.now in
    let same : bytes ≡ drop 1 c.in_ok-store.file.items = c.split_at.ensures.back ∙ ap (drop 1) c.deref.ensures.value in
    first_creating v1.told v2.told v1 (g.D.Disk.view c.begin_files.new.disk) v2 (g.D.Disk.view c.begin_files.new.other) c.args.cubes.now list bytes can c.requires.fits
    (subst (IsBegun 1 c.args.cubes.now) (sym same) c.in_ok-store.ensures.begun) refl (g.met.D.Disk.counts_now c.begin_files.new.other)
    c.begin_files.ensures.second_moves c.begin_files.ensures.first_moves

pub returns-in-Err-clause-first_moves : goal.returns-in-Err-clause-first_moves
returns-in-Err-clause-first_moves g c = λ list can.
    let v1 = g.D.Disk.view c.args.disk.now in
    let v2 = g.D.Disk.view c.args.other.now in
    let bytes = c.split_at.result.1.now in
    let same : bytes ≡ drop 1 c.in_ok-store.file.items = c.split_at.ensures.back ∙ ap (drop 1) c.deref.ensures.value in
    first_creating v1.told v2.told v1 (g.D.Disk.view c.begin_files.new.disk) v2 (g.D.Disk.view c.begin_files.new.other) c.args.cubes.now list bytes can c.requires.fits
    (subst (IsBegun 1 c.args.cubes.now) (sym same) c.in_ok-store.ensures.begun) refl (g.met.D.Disk.counts_now c.begin_files.new.other)
    c.begin_files.ensures.second_moves c.begin_files.ensures.first_moves

pub returns-in-Ok-clause-created : goal.returns-in-Ok-clause-created
returns-in-Ok-clause-created g c = λ list can.
    let v1 = g.D.Disk.view c.args.disk.now in
    let v2 = g.D.Disk.view c.args.other.now in
    let bytes = c.split_at.result.1.now in
    let same : bytes ≡ drop 1 c.in_ok-store.file.items = c.split_at.ensures.back ∙ ap (drop 1) c.deref.ensures.value in
    new_at v1 (g.D.Disk.view c.begin_files.new.disk) v2 (g.D.Disk.view c.begin_files.new.other) c.in_ok-store.store c.beside.new.self c.in-Ok.shut c.args.cubes.now list bytes can c.requires.fits
    (subst (IsBegun 1 c.args.cubes.now) (sym same) c.in_ok-store.ensures.begun) c.beside.ensures (c.in_ok-store.ensures.store list can)
    (c.in_ok-store.ensures.place ∙ ap (whole_place false 1) (sym same)) c.requires.both c.in-Ok.ensures.tells c.in-Ok.ensures.synced c.in-Ok.ensures.written c.in-Ok.ensures.shut c.in-Ok.ensures.answer

pub returns-in-Err-clause-second_moves : goal.returns-in-Err-clause-second_moves
returns-in-Err-clause-second_moves g c = λ list can.
    second_creating (g.D.Disk.view c.args.disk.now).told (g.D.Disk.view c.args.other.now).told (g.D.Disk.view c.args.other.now) (g.D.Disk.view c.begin_files.new.other) list c.begin_files.ensures.second_moves
