-- What a session knows through calls and more calls.
use Rattle.std.proofs.Common.{◌≡◌, ◌∙◌, ℕ, ◌≤◌, ◌==◌, List, [], ◌∷◌, ◌++◌, append_assoc, append-nil, eqb-true, inl, inr, if◌then◌else◌, Bool, true, false, refl, sym, ap, subst, arith}
use Rattle.std.proofs.lemmas.Bool.{eqb-false}
use Rattle.core_program.proofs.KnownCalls.{earlier-run, go-on-from}
use Rattle.core_program.specs.Knowing.{IsClientOf, IsSessionOf}
use Rattle.core_events.specs.Clients.{calls_of, state_from_calls}
use Rattle.core_events.specs.Events.{ClientCall, CoreEvent, By, At}
use Rattle.core_program.specs.CoreFits.{CoreEntry}
use Rattle.cube_core.specs.declared.cell.CoreCell.{CoreCell}
use Rattle.cube_core.specs.declared.shard.ShardCall.{ShardCall}
use Rattle.cube_values.specs.declared.query.BoundQuery.{BoundQuery}
use Rattle.cube_values.specs.declared.shape.CubeShape.{CubeShape}
use Rattle.job_groups.specs.AskedEach.{HasMore}
use Rattle.session_snapshots.specs.KnownHolds.{HoldsTheSame}
use Rattle.linked_shards.specs.CellShards.{CoreShardStands}
use Rattle.linked_shards.specs.declared.cell.CoreShard.{CoreShard}
use Rattle.session_groups.specs.ShardGroups.{KnowsOfShards, MayHaveAsked, MayQuery}
use Rattle.cube_core.proofs.Staying.{cubes-stay}
use Rattle.shard_events.specs.ShardsInRuns.{FitsShard, ShardAnswerSays}
use Rattle.cube_run.specs.SessionStates.{first_holder, other_holder, second_holder}
use Rattle.watch_holds.specs.HolderStates.{IsHolderOf}

-- A session's number is small.
pub few-session : (cells : List (CoreCell CoreShard)) (caller session : ℕ)
    → IsClientOf FitsShard CoreShardStands ShardAnswerSays cells caller session
    → IsSessionOf FitsShard CoreShardStands ShardAnswerSays cells session → session ≤ 16
few-session cells caller session acts session_of =
    let first = acts.opening [] in
    let last = (session_of first.0 [] first.1).last in
    let limit = first.1.limits.sessions in
    omega (arith, last, limit)

-- The other number is a holder's, and another.

pub other-is-holder : (session holder : ℕ) → IsHolderOf session (other_holder session holder)
other-is-holder session holder = at (holder == first_holder session)
  where
    at : (first : Bool) → IsHolderOf session (if first then second_holder session else first_holder session)
    at true = inr refl
    at false = inl refl

pub other-is-apart : (session holder : ℕ) → IsHolderOf session holder → holder ≡ other_holder session holder → ⊥
other-is-apart session holder of_session same = at (holder == first_holder session) refl same
  where
    at : (first : Bool) → (holder == first_holder session) ≡ first
        → holder ≡ (if first then second_holder session else first_holder session) → ⊥
    at true is same = let here = eqb-true holder (first_holder session) is in omega (arith, here, same)
    at false is same = eqb-false holder (first_holder session) is same

-- A query that a session may ask it may ask after more calls.

calls-more : (a : ℕ) (newer es : List CoreEvent) → calls_of a (newer ++ es) ≡ calls_of a newer ++ calls_of a es
calls-more a [] es = refl
calls-more a (By b call ∷ newer) es = at (b == a) (calls-more a newer es)
  where
    at : (own : Bool) → calls_of a (newer ++ es) ≡ calls_of a newer ++ calls_of a es
        → (if own then call ∷ calls_of a (newer ++ es) else calls_of a (newer ++ es))
        ≡ (if own then call ∷ calls_of a newer else calls_of a newer) ++ calls_of a es
    at true rest = ap (λ (l : List ClientCall). call ∷ l) rest
    at false rest = rest
calls-more a (At mail move ∷ newer) es = calls-more a newer es

pub query-stays : (cells : List (CoreCell CoreShard)) (caller session : ℕ) (own more : List CoreEntry) (shape : CubeShape) (query : BoundQuery)
    → KnowsOfShards cells caller session own (MayQuery session shape query)
    → KnowsOfShards cells caller session (own ++ more) (MayQuery session shape query)
query-stays cells caller session own more shape query knows o log run es later are =
    let g = go-on-from FitsShard CoreShardStands ShardAnswerSays cells o own more es are in
    let may = knows o log run g.before (earlier-run FitsShard CoreShardStands ShardAnswerSays cells o caller own more log run later) g.events in
    let there = may.there in
    let grows = cubes-stay o session (calls_of session g.newer) (calls_of session g.before) in
    let same = ap (λ (calls : List ClientCall). (state_from_calls o session calls).cubes)
    (ap (calls_of session) g.whole ∙ calls-more session g.newer g.before)
    in
    record { fits = may.fits; there = omega (arith, there, grows, same) }

-- What a session holds through calls and more calls.
pub same-then : (session : ℕ) (cells mid_cells new_cells : List (CoreCell CoreShard)) (caller mid_caller new_caller : ℕ) (own mid now : List CoreEntry)
    → HoldsTheSame FitsShard CoreShardStands ShardAnswerSays session cells caller own mid_cells mid_caller mid
    → HoldsTheSame FitsShard CoreShardStands ShardAnswerSays session mid_cells mid_caller mid new_cells new_caller now
    → HoldsTheSame FitsShard CoreShardStands ShardAnswerSays session cells caller own new_cells new_caller now
same-then session cells mid_cells new_cells caller mid_caller new_caller own mid now first second = record {
  ready = λ held knows. second.ready held (first.ready held knows);
  reader = λ r knows. second.reader r (first.reader r knows);
  writer = λ w knows. second.writer w (first.writer w knows);
}

-- Calls that go on.

pub one-more : {own now : List CoreEntry} (e : CoreEntry) → now ≡ own ++ e ∷ [] → HasMore own now
one-more e is = record { more = e ∷ []; whole = is }

pub more-then : {own between now : List CoreEntry} → HasMore own between → HasMore between now → HasMore own now
more-then {own = own} first second = record {
  more = first.more ++ second.more;
  whole = second.whole ∙ ap (λ (l : List CoreEntry). l ++ second.more) first.whole ∙ append_assoc own first.more second.more;
}

pub asked-more : (cells : List (CoreCell CoreShard)) (caller session shards : ℕ) (c : ShardCall) (own now : List CoreEntry)
    → MayHaveAsked cells caller session shards c own now → HasMore own now
asked-more cells caller session shards c own now (inl same) = record { more = []; whole = same ∙ sym (append-nil own) }
asked-more cells caller session shards c own now (inr asked) = asked.more
