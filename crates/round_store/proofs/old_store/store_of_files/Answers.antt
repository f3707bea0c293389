use Rattle.round_store.proofs.OpenLaws.{opened_store}
use Rattle.round_store.proofs.old_store.store_of_files.Goals as goal

pub returns-in_ok-store-in-Ok-clause-store : goal.returns-in_ok-store-in-Ok-clause-store
returns-in_ok-store-in-Ok-clause-store c =
    opened_store c.in_ok-store-in-Ok.store c.in-Ok.opened.kept c.in-Ok.opened.place _ _ c.in-Ok.ensures.found _ _ c.in_ok-store-in-Ok.ensures

pub returns-in-Err-Fault-clause-only : goal.returns-in-Err-Fault-clause-only
returns-in-Err-Fault-clause-only c = λ kept stands.
    let e = rw c.in-Err-Fault.field-0-is at (c.in-Err-Fault.ensures.only kept stands) in
    absurd cc
