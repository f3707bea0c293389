-- What a session knows of LSE once it was shown the counters.
use Rattle.std.proofs.Common.{◌≡◌, ℕ, ◌≤◌, ◌||◌, Bool, true, List, [], ◌∷◌, ◌++◌, max, sym, ap, subst, arith}
use Rattle.core_program.specs.ClientCalls.{desk_entry}
use Rattle.core_cells.specs.declared.desk.DeskAnswer.TheVariants as answer
use Rattle.core_cells.specs.declared.desk.DeskCall.TheVariants as call
use Rattle.core_program.proofs.KnownCalls.{desk-learns}
use Rattle.core_program.specs.Knowing.{IsClientOf}
use Rattle.core_events.specs.Clients.{calls_of, state_from_calls}
use Rattle.core_events.specs.Events.{ClientCall}
use Rattle.core_events.specs.Groups.{has_number}
use Rattle.core_program.specs.CoreFits.{CoreEntry}
use Rattle.cube_core.specs.declared.cell.CoreCell.{CoreCell}
use Rattle.cube_journal.specs.declared.counters.Counters.{Counters}
use Rattle.cube_journal.specs.declared.note.Note.{Note}
use Rattle.linked_shards.specs.CellShards.{CoreShardStands}
use Rattle.linked_shards.specs.declared.cell.CoreShard.{CoreShard}
use Rattle.cube_core.proofs.Snapshots.{same-number}
use Rattle.session_requests.specs.SessionRequests.{IsToldSafe}
use Rattle.shard_events.specs.ShardsInRuns.{FitsShard, ShardAnswerSays}

below-max : (n m : ℕ) → m ≤ max n m
below-max n m = omega arith

at-head : (n : ℕ) (shown : List ℕ) → has_number (n ∷ shown) n ≡ true
at-head n shown = ap (λ (b : Bool). b || has_number shown n) (same-number n)

pub told-by-counters : (cells : List (CoreCell CoreShard)) (caller session : ℕ) (own : List CoreEntry) (now : Counters)
    → IsClientOf FitsShard CoreShardStands ShardAnswerSays cells caller session
    → IsToldSafe cells caller session (own ++ desk_entry caller call.Counters (answer.Counted now) ∷ []) now.lse
told-by-counters cells caller session own now acts = record {
  safe = λ o log run es later are.
      let g = desk-learns FitsShard CoreShardStands ShardAnswerSays cells caller session acts own call.Counters (answer.Counted now) o log es later.opens are in
      subst (λ (calls : List ClientCall). now.lse ≤ (state_from_calls o session calls).lse) (sym g.calls)
      (below-max (state_from_calls o session (calls_of session g.before)).lse now.lse);
  shown = λ o log run es later are.
      let g = desk-learns FitsShard CoreShardStands ShardAnswerSays cells caller session acts own call.Counters (answer.Counted now) o log es later.opens are in
      subst (λ (calls : List ClientCall). has_number (state_from_calls o session calls).shown now.lse ≡ true) (sym g.calls)
      (at-head now.lse (state_from_calls o session (calls_of session g.before)).shown);
}

pub told-by-note : (cells : List (CoreCell CoreShard)) (caller session : ℕ) (own : List CoreEntry) (note : Note) (now : Counters)
    → IsClientOf FitsShard CoreShardStands ShardAnswerSays cells caller session
    → IsToldSafe cells caller session (own ++ desk_entry caller (call.Note note) (answer.Counted now) ∷ []) now.lse
told-by-note cells caller session own note now acts = record {
  safe = λ o log run es later are.
      let g = desk-learns FitsShard CoreShardStands ShardAnswerSays cells caller session acts own (call.Note note) (answer.Counted now) o log es later.opens are in
      subst (λ (calls : List ClientCall). now.lse ≤ (state_from_calls o session calls).lse) (sym g.calls)
      (below-max (state_from_calls o session (calls_of session g.before)).lse now.lse);
  shown = λ o log run es later are.
      let g = desk-learns FitsShard CoreShardStands ShardAnswerSays cells caller session acts own (call.Note note) (answer.Counted now) o log es later.opens are in
      subst (λ (calls : List ClientCall). has_number (state_from_calls o session calls).shown now.lse ≡ true) (sym g.calls)
      (at-head now.lse []);
}
