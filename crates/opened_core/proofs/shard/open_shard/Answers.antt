use Rattle.std.proofs.Common.{◌≡◌, ◌∙◌, ◌<◌, List, length, slice_get, Some, refl, sym, ap, subst, arith}
use Rattle.std.proofs.lemmas.Option.{slice_get_read}
use Rattle.cube_values.specs.declared.shape.CubeShape.{CubeShape}
use Rattle.cube_language.specs.declared.decl.Decl.{Decl}
use Rattle.cube_rounds.specs.Stands.{Kept}
use Rattle.shard_cell.specs.Answers.{brick_after_append}
use Rattle.shard_cell.specs.Shards.{KeepsShapesWith, cube_at, shard_rows}
use Rattle.shard_cell.specs.Slots.{HasShape}
use Rattle.opened_core.proofs.KeptFacts.{KeptLaws}
use Rattle.opened_core.proofs.OpenedShards.{as-kept, known-shape, next-first, refused, too-full}
use Rattle.opened_core.proofs.shard.open_shard.Goals as goal

pub append-requires-clause-shape : goal.append-requires-clause-shape
append-requires-clause-shape c =
    let items : c.as_slice-cube-items.result.now ≡ c.args.kept.now.cubes =
    c.as_slice-cube-items.ensures ∙ ap (λ (k : Kept). k.cubes) c.kept.view_is
    in
    let is =
    subst (λ (xs : List Decl). slice_get xs c.cubes.place ≡ Some c.cube-item.result) items
    (slice_get_read c.as_slice-cube-items.result.now (length c.as_slice-cube-items.result.now) c.cubes.place c.cube-item.result refl c.cubes-test.true c.cube-item.is)
    in
    let few = (c.kept_data_are_sound.ensures.sound c.args.kept.now c.requires.kept).few in
    let long = ap (λ (xs : List Decl). length xs) items in
    let low = c.cubes-test.true in
    record {
      place = omega (arith, few, long, low);
      sound = c.cube_shape-shape.ensures.sound;
      same = subst (λ (shape : CubeShape). HasShape shape (cube_at c.cubes.shard c.cubes.place)) (sym c.cube_shape-shape.ensures.value)
          (known-shape c.args.kept.now.cubes c.cubes.shard c.cubes.place c.cube-item.result c.cubes.invariant.shapes is);
    }

pub cubes-preserved : goal.cubes-preserved
cubes-preserved c =
    let lie = c.kept_rounds_lie_in_their_cubes.ensures in
    let kept = c.args.kept.now in
    let laws : KeptLaws kept = record {
      sound = c.kept_data_are_sound.ensures.sound kept c.requires.kept;
      rounds = lie.rounds kept c.requires.kept;
      bricks = λ place brick cube lists at. lie.bricks kept place brick cube lists c.requires.kept at;
      rows = λ s place brick cube lists at. lie.rows s kept place brick cube lists c.requires.kept at;
      none = λ place brick past. lie.none kept place brick c.requires.kept past;
    } in
    let items : c.as_slice-cube-items.result.now ≡ kept.cubes = c.as_slice-cube-items.ensures ∙ ap (λ (k : Kept). k.cubes) c.kept.view_is in
    let is =
    subst (λ (xs : List Decl). slice_get xs c.cubes.place ≡ Some c.cube-item.result) items
    (slice_get_read c.as_slice-cube-items.result.now (length c.as_slice-cube-items.result.now) c.cubes.place c.cube-item.result refl c.cubes-test.true c.cube-item.is)
    in
    let epoch : c.kept.inside.epoch ≡ kept.epoch = ap (λ (k : Kept). k.epoch) c.kept.view_is in
    let rounds : c.as_slice-rounds.result.now ≡ kept.rounds = c.as_slice-rounds.ensures ∙ ap (λ (k : Kept). k.rounds) c.kept.view_is in
    let shape = c.cube_shape-shape.ensures.value in
    let fits =
    as-kept kept c.args.shards c.args.number c.cubes.place c.cube-item.result c.cube_shape-shape.result.now c.kept.inside.epoch
    c.as_slice-rounds.result.now c.in_ok-batch.batch shape epoch rounds c.in_ok-batch.ensures
    in
    let done = c.in-Ok.ensures in
    next-first kept laws c.args.shards c.args.number c.cubes.place c.cube-item.result is c.in_ok-batch.batch fits c.cubes.shard c.append.new.self
    c.cubes.invariant
    (λ other brick. done.appended other brick
    ∙ (λ i. brick_after_append (shape i).shape.sizes c.cubes.place (epoch i) c.in_ok-batch.batch.rows c.cubes.shard other brick))
    done.full done.count
    (subst (λ (s : CubeShape). KeepsShapesWith c.cubes.place s c.cubes.shard c.append.new.self) shape done.shapes) done.limit

pub returns-in-Err-clause-full : goal.returns-in-Err-clause-full
returns-in-Err-clause-full c =
    let lie = c.kept_rounds_lie_in_their_cubes.ensures in
    let kept = c.args.kept.now in
    let laws : KeptLaws kept = record {
      sound = c.kept_data_are_sound.ensures.sound kept c.requires.kept;
      rounds = lie.rounds kept c.requires.kept;
      bricks = λ place brick cube lists at. lie.bricks kept place brick cube lists c.requires.kept at;
      rows = λ s place brick cube lists at. lie.rows s kept place brick cube lists c.requires.kept at;
      none = λ place brick past. lie.none kept place brick c.requires.kept past;
    } in
    let items : c.as_slice-cube-items.result.now ≡ kept.cubes = c.as_slice-cube-items.ensures ∙ ap (λ (k : Kept). k.cubes) c.kept.view_is in
    let is =
    subst (λ (xs : List Decl). slice_get xs c.cubes.place ≡ Some c.cube-item.result) items
    (slice_get_read c.as_slice-cube-items.result.now (length c.as_slice-cube-items.result.now) c.cubes.place c.cube-item.result refl c.cubes-test.true c.cube-item.is)
    in
    let epoch : c.kept.inside.epoch ≡ kept.epoch = ap (λ (k : Kept). k.epoch) c.kept.view_is in
    let rounds : c.as_slice-rounds.result.now ≡ kept.rounds = c.as_slice-rounds.ensures ∙ ap (λ (k : Kept). k.rounds) c.kept.view_is in
    let shape = c.cube_shape-shape.ensures.value in
    let fits =
    as-kept kept c.args.shards c.args.number c.cubes.place c.cube-item.result c.cube_shape-shape.result.now c.kept.inside.epoch
    c.as_slice-rounds.result.now c.in_ok-batch.batch shape epoch rounds c.in_ok-batch.ensures
    in
    let few : c.cubes.place < length kept.cubes = subst (λ (xs : List Decl). c.cubes.place < length xs) items c.cubes-test.true in
    refused (Unit {0}) kept c.args.shards c.args.number (shard_rows c.cubes.shard) (length c.in_ok-batch.batch.rows) c.cubes.shard.limit c.in-Err.error
    c.error_of_shard.result c.in-Err.ensures.full c.error_of_shard.ensures
    (λ full own above has. too-full kept laws c.args.shards c.args.number c.cubes.place c.cube-item.result is c.in_ok-batch.batch fits c.cubes.shard
    full c.cubes.invariant c.requires.there few own above has)
