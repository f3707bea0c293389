-- Statements that neither change rows nor read them are performed.
use Rattle.std.proofs.Common.{◌≡◌, ℕ, ◌+◌, false, List, refl, sym, subst}
use Rattle.core_cubes.specs.StatementCalls.{IsCallFor}
use Rattle.core_program.specs.CoreFits.{CoreEntry}
use Rattle.core_states.specs.ExecutedInCore.{ExecutesInCore}
use Rattle.core_states.specs.LeftBehind.{GoOnByCalls, IsPlainCall}
use Rattle.core_states.specs.declared.session.CoreSession.{CoreSession}
use Rattle.cube_core.specs.declared.cell.CoreCell.{CoreCell}
use Rattle.cube_journal.specs.declared.reply.Reply.{Reply}
use Rattle.cube_language.specs.declared.decl.Decl.{Decl}
use Rattle.cube_language.specs.declared.statement.Statement.{Statement}
use Rattle.cube_language.specs.declared.statement.Statement.TheVariants.{CreateCube}
use Rattle.cube_run.specs.RunRecords.{Says}
use Rattle.cube_run.specs.StatementEntries.{is_change}
use Rattle.linked_shards.specs.CellShards.{CoreShardStands}
use Rattle.linked_shards.specs.declared.cell.CoreShard.{CoreShard}
use Rattle.scripted_pasts.proofs.PerformedPlainly.{in-core, when-watched}
use Rattle.scripted_pasts.specs.Performed.{WhateverFile}
use Rattle.scripted_pasts.specs.Served.{PerformsWatchedOverShards}
use Rattle.scripted_pasts.specs.UnchangedRows.{is_no_change}
use Rattle.session_desk.specs.Executed.{IfReplied}
use Rattle.session_desk.specs.declared.answered.Answered.{Answered}
use Rattle.session_desk.specs.declared.answered.Answered.TheVariants.{Replied, Stopped}
use Rattle.shard_events.specs.ShardsInRuns.{FitsShard, ShardAnswerSays}

module _ (cells : List (CoreCell CoreShard)) (caller : ℕ) (old new : CoreSession) (own now : List CoreEntry) where
  -- By plain calls.
  plain-watched : (asked : Statement) (said : Reply) → is_change asked ≡ false
      → GoOnByCalls FitsShard CoreShardStands ShardAnswerSays cells caller old.number IsPlainCall own now
      → ExecutesInCore FitsShard CoreShardStands ShardAnswerSays cells caller (Says asked) old own new now said
      → PerformsWatchedOverShards cells caller WhateverFile asked old own new now said
  plain-watched asked said none goes executes watch lets =
      in-core FitsShard CoreShardStands ShardAnswerSays cells caller (Says asked) old new own now said executes goes
      (is_no_change asked refl none) watch

  pub plain-performed : (s asked : Statement) (answered : Answered) → s ≡ asked → is_change asked ≡ false
      → GoOnByCalls FitsShard CoreShardStands ShardAnswerSays cells caller old.number IsPlainCall own now
      → IfReplied answered
      (ExecutesInCore FitsShard CoreShardStands ShardAnswerSays cells caller (Says asked) old own new now)
      → IfReplied answered (PerformsWatchedOverShards cells caller WhateverFile s old own new now)
  plain-performed s asked (Replied said) is none goes executes =
      subst (λ (x : Statement). PerformsWatchedOverShards cells caller WhateverFile x old own new now said) (sym is)
      (plain-watched asked said none goes executes)
  plain-performed s asked Stopped is none goes executes = tt

  -- By calls that make a cube.
  pub creation-performed : (d : Decl) (answered : Answered)
      → GoOnByCalls FitsShard CoreShardStands ShardAnswerSays cells caller old.number
      (IsCallFor (old.statements + 1) (CreateCube d)) own now
      → IfReplied answered
      (ExecutesInCore FitsShard CoreShardStands ShardAnswerSays cells caller (Says (CreateCube d)) old own new now)
      → IfReplied answered (PerformsWatchedOverShards cells caller WhateverFile (CreateCube d) old own new now)
  creation-performed d (Replied said) goes executes =
      when-watched FitsShard CoreShardStands ShardAnswerSays cells caller (CreateCube d) old new own now said
      (λ past watch lets stands counted. executes past watch stands counted) goes (is_no_change (CreateCube d) refl refl)
  creation-performed d Stopped goes executes = tt
