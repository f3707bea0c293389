-- A session that has executed nothing yet plays its script from the beginning.
use Rattle.std.proofs.Common.{◌≡◌, ℕ, List, [], ap, arith}
use Rattle.core_program.specs.CoreFits.{CoreEntry}
use Rattle.core_scripts.specs.PlayedWhole.{IsFresh}
use Rattle.core_scripts.specs.PlayingSessions.{IsPlaying}
use Rattle.core_scripts.specs.ToldFiles.{ShelfTold, files_told}
use Rattle.core_scripts.specs.declared.player.ScriptPlayer.{ScriptPlayer}
use Rattle.core_states.specs.StandingInCore.{HoldsForMode}
use Rattle.core_watches.proofs.KeptOn.{none-kept}
use Rattle.core_watches.specs.KeptWatches.{KeepsWatchOrNone, watch_on_record}
use Rattle.cube_core.specs.declared.cell.CoreCell.{CoreCell}
use Rattle.cube_run.specs.SessionStates.{SessionState}
use Rattle.linked_shards.specs.CellShards.{CoreShardStands}
use Rattle.linked_shards.specs.declared.cell.CoreShard.{CoreShard}
use Rattle.scripted_pasts.proofs.PlayedMore.{none-played}
use Rattle.scripted_pasts.specs.PlayedScripts.{HasPlayedScript}
use Rattle.session_snapshots.specs.KnownHolds.{HoldsNothing}
use Rattle.shard_events.specs.ShardsInRuns.{FitsShard, ShardAnswerSays}

pub playing-at-first : (told : ShelfTold) (cells : List (CoreCell CoreShard)) (caller : ℕ) (player : ScriptPlayer)
    (own : List CoreEntry) → IsFresh player → own ≡ []
    → HoldsNothing FitsShard CoreShardStands ShardAnswerSays cells caller player.session.number []
    → IsPlaying told cells caller player own [] []
playing-at-first told cells caller player own h none nothing =
    let session = player.session in
    let commits = ap (λ (s : SessionState). s.commits) h.state in
    coe 1 0 (i. IsPlaying told cells caller player (none i) [] [])
    (record {
      holds =
          coe 1 0 (i. HoldsForMode FitsShard CoreShardStands ShardAnswerSays cells caller session.number []
          (ap (λ (s : SessionState). s.mode) h.state i)) nothing;
      keeps =
          coe 1 0 (i. KeepsWatchOrNone cells caller session.number [] (h.watch i))
          (none-kept cells caller session.number);
      texts = h.texts [];
      counted = omega (arith, commits);
      played =
          coe 1 0 (i. HasPlayedScript FitsShard CoreShardStands ShardAnswerSays cells caller (files_told told) session
          (watch_on_record (h.watch i)) [] [] [])
          (none-played FitsShard CoreShardStands ShardAnswerSays cells caller (files_told told) session h.state
          h.statements);
    })
