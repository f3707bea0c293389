use Rattle.opened_store.proofs.taking.store_on.Goals as goal

pub returns-then-is_new-clause-moves : goal.returns-then-is_new-clause-moves
returns-then-is_new-clause-moves g c = rw c.if-is_new.true c.create_for_run.ensures.moves
