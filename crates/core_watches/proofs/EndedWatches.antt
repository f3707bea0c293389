-- A WATCH whose cube was found is performed, however it ended.
use Rattle.std.proofs.Common.{◌≡◌, ℕ, ◌+◌, true, false, List, Some, None, refl}
use Rattle.std.specs.Prelude.{IfErr, IfOk, Result, Ok, Err}
use Rattle.std.proofs.lemmas.Bool.{false≢true}
use Rattle.core_watches.proofs.ShowsPerformed.{performed as show_performed}
use Rattle.core_watches.proofs.WatchesPerformed.{performed}
use Rattle.core_watches.specs.WatchEnds.{EndsShow, EndsWatch, HasFoundCube, WatchesCube}
use Rattle.core_cubes.specs.ExecutedWatched.{ExecutesWatched}
use Rattle.core_cubes.specs.StatementCalls.{IsCallFor}
use Rattle.core_program.specs.CoreFits.{CoreEntry}
use Rattle.core_states.specs.LeftBehind.{GoOnByCalls}
use Rattle.core_states.specs.declared.session.CoreSession.{CoreSession}
use Rattle.core_watches.specs.KeptWatches.{kept_on_record}
use Rattle.core_watches.specs.declared.kept.Watching.{Watching}
use Rattle.cube_core.specs.declared.cell.CoreCell.{CoreCell}
use Rattle.cube_language.specs.declared.decl.Decl.{Decl}
use Rattle.cube_language.specs.declared.statement.Statement.{Statement}
use Rattle.cube_language.specs.declared.statement.Statement.TheVariants.{ShowWatch, Watch}
use Rattle.cube_run.specs.RunRecords.{Says}
use Rattle.cube_run.specs.SessionStates.{KeptWatch}
use Rattle.cube_run.specs.StatementEntries.{is_change, is_watch}
use Rattle.cube_run.specs.StepOutcomes.{refused_by_mode, refused_by_watch}
use Rattle.linked_shards.specs.CellShards.{CoreShardStands}
use Rattle.linked_shards.specs.declared.cell.CoreShard.{CoreShard}
use Rattle.scripted_pasts.proofs.PerformedPlainly.{when-watched}
use Rattle.scripted_pasts.specs.Performed.{WhateverFile}
use Rattle.scripted_pasts.specs.Served.{PerformsOverShards}
use Rattle.session_desk.specs.Executed.{IfReplied}
use Rattle.session_desk.specs.declared.answered.Answered.{Answered}
use Rattle.session_desk.specs.declared.answered.Answered.TheVariants.{Replied, Stopped}
use Rattle.scripted_pasts.specs.UnchangedRows.{is_no_change}
use Rattle.session_replies.specs.Modes.{mode_of}
use Rattle.shard_events.specs.ShardsInRuns.{FitsShard, ShardAnswerSays}

module _ (cells there : List (CoreCell CoreShard)) (caller number : ℕ) (p : there ≡ cells) (q : number ≡ caller) (place : ℕ)
    (old new : CoreSession) (s : Statement) (d : Decl) (own found now : List CoreEntry) (form : is_watch s ≡ true)
    (may : refused_by_mode (mode_of old.mode) s ≡ None) (is : new ≡ record old { statements = old.statements + 1 })
    (f : HasFoundCube cells caller old.number (old.statements + 1) s place d own found) where
  pub watch-done : (result : Result Watching Answered)
      → IfOk result (λ w. EndsWatch there number new s d found now (Some (kept_on_record w.kept)) w.reply)
      → IfOk result (λ w. PerformsOverShards cells caller WhateverFile (Says s) old None own new
      (Some (kept_on_record w.kept)) now w.reply)
  watch-done (Ok w) ends =
      performed cells caller place old new s d own found now (Some (kept_on_record w.kept)) w.reply form may is f
      (coe 0 1 (i. EndsWatch (p i) (q i) new s d found now (Some (kept_on_record w.kept)) w.reply) ends)
  watch-done (Err answered) ends = tt

  pub watch-refused : (result : Result Watching Answered)
      → IfErr result (λ answered. IfReplied answered (EndsWatch there number new s d found now None))
      → IfErr result (λ answered. IfReplied answered
      (PerformsOverShards cells caller WhateverFile (Says s) old None own new None now))
  watch-refused (Ok w) ends = tt
  watch-refused (Err (Replied said)) ends =
      performed cells caller place old new s d own found now None said form may is f
      (coe 0 1 (i. EndsWatch (p i) (q i) new s d found now None said) ends)
  watch-refused (Err Stopped) ends = tt

-- A WATCH whose cube was not found is performed.
no-change : (s : Statement) → is_watch s ≡ true → is_change s ≡ false
no-change (Watch items cube conds group) form = refl
no-change s form = absurd (false≢true form)

lets : (s : Statement) → is_watch s ≡ true → refused_by_watch None s ≡ None
lets (Watch items cube conds group) form = refl
lets s form = absurd (false≢true form)

module _ (cells : List (CoreCell CoreShard)) (caller : ℕ) (old new : CoreSession) (s : Statement) (own now : List CoreEntry)
    (form : is_watch s ≡ true)
    (goes : GoOnByCalls FitsShard CoreShardStands ShardAnswerSays cells caller old.number (IsCallFor (old.statements + 1) s)
    own now) where
  pub none-found : (answered : Answered)
      → IfReplied answered (ExecutesWatched FitsShard CoreShardStands ShardAnswerSays cells caller s old own new now)
      → IfReplied answered (PerformsOverShards cells caller WhateverFile (Says s) old None own new None now)
  none-found (Replied said) executes =
      when-watched FitsShard CoreShardStands ShardAnswerSays cells caller s old new own now said executes goes
      (is_no_change s refl (no-change s form)) None (lets s form)
  none-found Stopped executes = tt

-- A SHOW WATCH is performed, however it ended.
pub show-replied : (cells : List (CoreCell CoreShard)) (caller place : ℕ) (old new : CoreSession) (d : Decl)
    (own now : List CoreEntry) (kept next : KeptWatch) → refused_by_mode (mode_of old.mode) ShowWatch ≡ None
    → new ≡ record old { statements = old.statements + 1 } → WatchesCube kept.asked place d own
    → (result : Answered) → IfReplied result (EndsShow cells caller new kept d own now next)
    → IfReplied result (PerformsOverShards cells caller WhateverFile (Says ShowWatch) old (Some kept) own new (Some next) now)
show-replied cells caller place old new d own now kept next may is f (Replied said) ends =
    show_performed cells caller place old new d own now kept next said may is f ends
show-replied cells caller place old new d own now kept next may is f Stopped ends = tt
