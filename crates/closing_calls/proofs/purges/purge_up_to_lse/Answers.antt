use Rattle.closing_calls.proofs.purges.purge_up_to_lse.Goals as goal

pub returns-clause-stays : goal.returns-clause-stays
returns-clause-stays g c =
    let one = c.read_run_counters-counters.ensures.stays in
    let two = c.purge_all.ensures.stays in
    record { ready = λ knows. two.ready (one.ready knows); safe = λ epoch knows. two.safe epoch (one.safe epoch knows) }
