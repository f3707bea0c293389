use Rattle.opened_store.proofs.NewStores.{kept_from_cubes}
use Rattle.opened_store.proofs.creating.kept_at_start.Goals as goal

pub returns-clause-kept : goal.returns-clause-kept
returns-clause-kept c =
    kept_from_cubes c.kept_data_are_sound.ensures.declared c.args.cubes.now c.in_ok-copy_cubes.field-0 c.requires c.in_ok-copy_cubes.ensures c.of_cubes.result c.of_cubes.ensures
