use Rattle.core_agreements.specs.PostsForOperations.{batches_posted}
use Rattle.std.proofs.Common.{[], ◌∷◌}
use Rattle.core_events.specs.Serial.{DropRows}
use Rattle.core_records.proofs.NamedApart.{record-apart}
use Rattle.core_records.specs.CoreRecords.{record_of}
use Rattle.core_states.specs.CorePasts.{last_step}
use Rattle.posted_pasts.proofs.ChangesStand.{drop-change, put-change}
use Rattle.posted_pasts.proofs.PostsMore.{with-change}
use Rattle.posted_pasts.proofs.changes.changes_are_posted.Goals as goal

pub returns-clause-put : goal.returns-clause-put
returns-clause-put g c =
    λ asked cells caller session cube epoch batches before after own now state sentence added turn m more learns apart puts.
    with-change g.S.LinkedShard.fits g.S.LinkedShard.stands g.S.LinkedShard.says
    cells caller session (g.B.Besides.claim asked) before after state
    sentence added turn m cube epoch (batches_posted batches) own now more learns
    (λ o given events es r.
    put-change (record_of o given events) (last_step session after state sentence added) cube epoch batches
    (record-apart o given events r.later.is_run r.from.follow (apart o given events r.also))
    (puts o given events r.from r.also))

pub returns-clause-dropped : goal.returns-clause-dropped
returns-clause-dropped g c =
    λ asked cells caller session cube epoch box before after own now state sentence added turn m more learns apart drops.
    with-change g.S.LinkedShard.fits g.S.LinkedShard.stands g.S.LinkedShard.says
    cells caller session (g.B.Besides.claim asked) before after state
    sentence added turn m cube epoch (DropRows box ∷ []) own now more learns
    (λ o given events es r.
    drop-change (record_of o given events) (last_step session after state sentence added) cube epoch box
    (record-apart o given events r.later.is_run r.from.follow (apart o given events r.also))
    (drops o given events r.from r.also))
