-- A load between two turns, and what comes of a turn.
use Rattle.std.proofs.Common.{◌≡◌, ◌∙◌, ◌≤◌, ℕ, Bool, true, List, [], ◌++◌, All, Result, Ok, Err, IfOk, sym}
use Rattle.std.proofs.lemmas.List.Elements.{All-append, All-nil}
use mathlib.Core.List.{IsPrefix}
use Rattle.core_program.specs.CoreFits.{CoreEntry}
use Rattle.csv_load.specs.Loads.{LoadState}
use Rattle.cube_core.specs.declared.cell.CoreCell.{CoreCell}
use Rattle.cube_language.specs.declared.decl.Decl.{Decl}
use Rattle.cube_values.specs.declared.row.CodedRow.{CodedRow}
use Rattle.cube_values.specs.declared.snapshot.Snapshot.{Snapshot}
use Rattle.linked_shards.specs.CellShards.{CoreShardStands}
use Rattle.posted_pasts.specs.PostsAdded.{AddsNoOperation, LearnsThat}
use Rattle.linked_shards.specs.declared.cell.CoreShard.{CoreShard}
use Rattle.row_encoding.specs.CodedInserts.{HasCoords}
use Rattle.row_encoding.specs.declared.load.BadRecords.{BadRecords}
use Rattle.shard_events.specs.ShardsInRuns.{FitsShard, ShardAnswerSays}
use Rattle.loaded_batches.specs.LoadFronts.{HasPostedSoFar, HasTakenSoFar, IsAfterLast, IsAfterTurn, IsAfterTurns, IsPostedAs}
use Rattle.loaded_batches.specs.LoadingCalls.{ArePosted}
use Rattle.loaded_batches.specs.declared.turns.LoadStop.{LoadStop}
use Rattle.loaded_batches.specs.declared.turns.LoadStop.TheVariants as stop
use Rattle.loaded_batches.specs.declared.turns.LoadTurn.{LoadTurn}
use Rattle.loaded_batches.specs.declared.turns.LoadTurn.TheVariants as turn
use Rattle.loaded_batches.proofs.AddedBatches.{posted-before-none, posted-behind-none, posted-both, posted-none}
use Rattle.loaded_batches.proofs.TurnsOfCallers.{now-of}
use Rattle.loaded_batches.proofs.TakenRecords.{many-behind, some-behind, taken-both, taken-none, taken-still}

module _ (cells : List (CoreCell CoreShard)) (caller session place : ℕ) (d : Decl) (allowed : ℕ) (writer : Snapshot)
  where
    abbrev SoFar : List CoreEntry → List CoreEntry → LoadState → LoadState → BadRecords → BadRecords → Type 0
    SoFar own now start load before bad =
        HasPostedSoFar cells caller session place d allowed writer own now start load before bad

    abbrev After : List CoreEntry → List CoreEntry → LoadState → LoadState → BadRecords → BadRecords → LoadTurn → Type 0
    After own now start load before bad t =
        IsAfterTurn cells caller session place d allowed writer own now start load before bad t

    -- ---- a batch was read by calls that add nothing, and its rows posted

    pub posted-now : (own mid now : List CoreEntry) (start load : LoadState) (before bad : BadRecords)
        (rows : List CodedRow)
        → IsPrefix mid now → LearnsThat FitsShard CoreShardStands ShardAnswerSays AddsNoOperation cells caller session own mid
        → HasTakenSoFar cells caller place d allowed mid start load before bad rows → All (HasCoords d) rows
        → ArePosted cells caller session place writer.epoch rows mid now → SoFar own now start load before bad
    posted-now own mid now start load before bad rows more none taken inside posted = record {
      rows = rows;
      taken = taken-still cells caller place d allowed mid now more start load before bad rows taken;
      inside = inside;
      posted = posted-behind-none cells caller session place writer.epoch rows own mid now more none posted;
    }

    -- ---- one turn after the other

    pub turns-begin : (own : List CoreEntry) (load : LoadState) (bad : BadRecords) → bad.count ≤ allowed
        → bad.count ≤ load.number → SoFar own own load load bad bad
    turns-begin own load bad few counted = record {
      rows = [];
      taken = taken-none cells caller place d allowed own load bad few counted;
      inside = All-nil (HasCoords d);
      posted = posted-none cells caller session place writer.epoch own;
    }

    module _ (own mid now : List CoreEntry) (more : IsPrefix mid now) (start load next : LoadState)
        (before bad after : BadRecords) (h : SoFar own mid start load before bad) where
      posted-more : SoFar mid now load next bad after → SoFar own now start next before after
      posted-more k = record {
        rows = h.rows ++ k.rows;
        taken =
            taken-both cells caller place d allowed mid now more start load next before bad after h.rows h.taken k.rows
            k.taken;
        inside = All-append (HasCoords d) h.rows k.rows h.inside k.inside;
        posted =
            posted-both cells caller session place writer.epoch h.rows k.rows own mid now more h.posted k.posted;
      }

      pub turn-behind : (t : LoadTurn) → After mid now load next bad after t → After own now start next before after t
      turn-behind (turn.Posted out last) k = (posted-more k.0, k.1)
      turn-behind turn.TooMany k =
          many-behind cells caller place d allowed mid now more start load next before bad after h.rows h.taken k
      turn-behind (turn.ShardFull shard count) k =
          some-behind cells caller place d allowed mid now more start load next before bad after h.rows h.taken k

    -- Once the last rows are fetched.
    pub last-fetched : {E : Type 0} (own mid now : List CoreEntry) (start load : LoadState) (before bad : BadRecords)
        (result : Result LoadStop E) → IsPrefix mid now
        → LearnsThat FitsShard CoreShardStands ShardAnswerSays AddsNoOperation cells caller session mid now
        → SoFar own mid start load before bad → load.left ≡ []
        → IfOk result (IsAfterLast cells caller session now writer)
        → IfOk result (IsAfterTurns cells caller session place d allowed writer own now start load before bad)
    last-fetched own mid now start load before bad (Ok stop.Done) more none h left after = record {
      so_far = record {
        rows = h.rows;
        taken = taken-still cells caller place d allowed mid now more start load before bad h.rows h.taken;
        inside = h.inside;
        posted = posted-before-none cells caller session place writer.epoch h.rows own mid now more h.posted none;
      };
      none_left = left;
      holds = after;
    }
    last-fetched own mid now start load before bad (Ok stop.TooMany) more none h left after = absurd after
    last-fetched own mid now start load before bad (Ok (stop.ShardFull shard count)) more none h left after = record {
      rows = h.rows;
      taken = taken-still cells caller place d allowed mid now more start load before bad h.rows h.taken;
    }
    last-fetched own mid now start load before bad (Err e) more none h left after = tt

-- What comes of a turn that posted the rows of a batch, by a caller whose cells and number are equal ones then.
pub turn-posted : {E : Type 0} (cells new_cells : List (CoreCell CoreShard)) (caller new_caller session place : ℕ)
    (d : Decl) (allowed : ℕ) (writer : Snapshot) (own mid now : List CoreEntry) (start load : LoadState)
    (before bad : BadRecords) (rows : List CodedRow) (last : Bool) (result : Result LoadTurn E)
    → new_cells ≡ cells → new_caller ≡ caller → IsPrefix mid now
    → LearnsThat FitsShard CoreShardStands ShardAnswerSays AddsNoOperation cells caller session own mid
    → HasTakenSoFar cells caller place d allowed mid start load before bad rows → All (HasCoords d) rows
    → (last ≡ true → load.left ≡ [])
    → IfOk result (λ t. ArePosted cells caller session place writer.epoch rows mid now)
    → IfOk result (IsPostedAs last)
    → IfOk result (IsAfterTurn new_cells new_caller session place d allowed writer own now start load before bad)
turn-posted cells new_cells caller new_caller session place d allowed writer own mid now start load before bad rows last
    (Ok (turn.Posted out l)) opens numbers more none taken inside left posted is =
    now-of (λ (cs : List (CoreCell CoreShard)) (n : ℕ).
    IsAfterTurn cs n session place d allowed writer own now start load before bad (turn.Posted out l)) opens numbers (
      posted-now cells caller session place d allowed writer own mid now start load before bad rows more none taken inside
          posted,
      λ same. left (sym is ∙ same),
    )
turn-posted cells new_cells caller new_caller session place d allowed writer own mid now start load before bad rows last
    (Ok turn.TooMany) opens numbers more none taken inside left posted is = absurd is
turn-posted cells new_cells caller new_caller session place d allowed writer own mid now start load before bad rows last
    (Ok (turn.ShardFull shard count)) opens numbers more none taken inside left posted is = absurd is
turn-posted cells new_cells caller new_caller session place d allowed writer own mid now start load before bad rows last
    (Err e) opens numbers more none taken inside left posted is = tt
