-- A statement that asks only for its texts offers them in each run that goes on.
use Rattle.std.proofs.Common.{◌≡◌, ◌∙◌, inl, inr, ℕ, true, Contains, List, [], None, Some, slice_get, sym, subst}
use Rattle.std.proofs.lemmas.Option.{same_Some}
use mathlib.Core.List.{IsPrefix}
use Rattle.core_changes.specs.ChangeEnds.{ChangeEnd}
use Rattle.core_changes.specs.ChangesInRuns.{AsksForItsTexts, IsRunAfterChange, IsStepOfChange}
use Rattle.core_cubes.proofs.CallsForStatements.{plain-asks}
use Rattle.core_cubes.proofs.CallsGoOn.{go-on-as}
use Rattle.core_events.specs.Events.{Opening, CoreEvent}
use Rattle.core_program.specs.CoreFits.{CoreEntry}
use Rattle.core_records.specs.CoreRecords.{RunScripts, record_of}
use Rattle.core_states.specs.CorePasts.{CorePast}
use Rattle.core_states.specs.LeftBehind.{AsksForNone, IsPlainCall}
use Rattle.core_states.specs.declared.session.CoreSession.{CoreSession}
use Rattle.cube_core.specs.declared.cell.CoreCell.{CoreCell}
use Rattle.cube_journal.specs.Refusals.{code}
use Rattle.cube_journal.specs.declared.refusal.Refusal.{Refusal}
use Rattle.cube_journal.specs.declared.reply.Reply.{Reply}
use Rattle.cube_journal.specs.declared.reply.Reply.TheVariants as reply
use Rattle.cube_language.specs.declared.decl.Decl.{Decl}
use Rattle.cube_language.specs.declared.decl.DimDecl.{DimDecl}
use Rattle.cube_language.specs.declared.statement.Statement.{Statement}
use Rattle.cube_run.specs.FinalNames.{HasDimension, Offers}
use Rattle.cube_run.specs.RunRecords.{LoadedFile, RunRecord, catalog_of}
use Rattle.cube_run.specs.RunText.{IsReply}
use Rattle.cube_run.specs.SessionStates.{Mode}
use Rattle.cube_run.specs.SessionSteps.{SessionStep, all_steps}
use Rattle.cube_run.specs.StatementEntries.{is_change}
use Rattle.cube_run.specs.StepOutcomes.{refused_by_mode}
use Rattle.scripted_pasts.proofs.AskingOnly.{only-plain, only-then}
use Rattle.scripted_pasts.proofs.TextsOffered.{step-offers}
use Rattle.scripted_pasts.specs.AskedTexts.{AsksOnly}
use Rattle.scripted_pasts.specs.StepTexts.{HasTextFor}
use Rattle.found_cubes.specs.CubesOnRecord.{HasCubeAt}
use Rattle.linked_shards.specs.CellShards.{CoreShardStands}
use Rattle.linked_shards.specs.declared.cell.CoreShard.{CoreShard}
use Rattle.posted_pasts.specs.PostsAdded.{GoesOnWith, LearnsThat}
use Rattle.session_replies.specs.Modes.{mode_of}
use Rattle.session_replies.specs.RowSteps.{FitsItsCube}
use Rattle.shard_events.specs.ShardsInRuns.{FitsShard, ShardAnswerSays}
use Rattle.shard_statements.specs.OverShards.{LeavesOverShards}

-- No reply is a refusal that there is no such cube.
abbrev pub IsOtherReply : Reply → Type 0
IsOtherReply said = (r : Refusal) → said ≡ reply.Refused r → code r ≡ 2 → ⊥

module _ (s : Statement) (file : LoadedFile) (old : CoreSession) (end : ChangeEnd) (cells : List (CoreCell CoreShard))
    (caller : ℕ) (own now : List CoreEntry) (place : ℕ) (d : Decl) (past : CorePast) (o : Opening) (given : RunScripts)
    (events : List CoreEvent) (step : SessionStep)
    (run : IsRunAfterChange s file old end cells caller own now past o given events)
    (at : IsStepOfChange s file old end given step) (among : Contains (all_steps (record_of o given events)) step)
    (m : HasCubeAt (record_of o given events) step s place d) where
  abbrev record_now : RunRecord
  record_now = record_of o given events

  -- A text of its step is offered to the dimension on record.
  pub offered-there : (said : Reply) (cube dim : ℕ) (e : Decl) (dimension : DimDecl) (text : List ℕ)
      → is_change s ≡ true → refused_by_mode (mode_of old.mode) s ≡ None → FitsItsCube record_now step s d
      → IsReply record_now step said → IsOtherReply said → cube ≡ place
      → HasDimension record_now cube dim e dimension → HasTextFor record_now step d dim text s
      → Offers record_now e dimension dim text
  offered-there said cube dim e dimension text change may fits answered other here has texts =
      let same : e ≡ d =
      same_Some e d (sym (subst (λ (k : ℕ). slice_get (catalog_of record_now).cubes k ≡ Some e) here has.cube_is)
      ∙ m.place_is)
      in
      coe 1 0 (i. Offers record_now (same i) dimension dim text)
      (step-offers record_now step s d dimension place dim text said among at.parts.sentence_is change
      (subst (λ (mode : Mode). refused_by_mode mode s ≡ None) (sym at.parts.mode_is) may) fits m.names answered other
      (subst (λ (x : Decl). slice_get x.dims dim ≡ Some dimension) same has.dim_is) texts)

module _ (s : Statement) (file : LoadedFile) (old : CoreSession) (end : ChangeEnd) (cells : List (CoreCell CoreShard))
    (caller : ℕ) (own mid now : List CoreEntry) (IsText : ℕ → ℕ → List ℕ → Type 0) where
  -- Where each such text is offered.
  pub asks-for-offered : IsPrefix mid now → LeavesOverShards cells caller old.number own mid []
      → LearnsThat FitsShard CoreShardStands ShardAnswerSays (AsksOnly IsText) cells caller old.number mid now
      → ((past : CorePast) (o : Opening) (given : RunScripts) (events : List CoreEvent) (step : SessionStep)
      → IsRunAfterChange s file old end cells caller own now past o given events
      → IsStepOfChange s file old end given step → Contains (all_steps (record_of o given events)) step
      → (cube dim : ℕ) (e : Decl) (dimension : DimDecl) (text : List ℕ)
      → HasDimension (record_of o given events) cube dim e dimension → IsText cube dim text
      → Offers (record_of o given events) e dimension dim text)
      → AsksForItsTexts s file old end cells caller own now
  asks-for-offered more found asks offers past o given log events es step run at among later are =
      let all : LearnsThat FitsShard CoreShardStands ShardAnswerSays (AsksOnly IsText) cells caller old.number own now =
      only-then FitsShard CoreShardStands ShardAnswerSays cells caller old.number IsText own mid now more
      (only-plain FitsShard CoreShardStands ShardAnswerSays cells caller old.number IsText own mid
      (go-on-as FitsShard CoreShardStands ShardAnswerSays cells caller old.number IsPlainCall AsksForNone own mid
      plain-asks found.plain))
      asks
      in
      let g : GoesOnWith FitsShard CoreShardStands ShardAnswerSays (AsksOnly IsText) o old.number own es =
      all o log events es later are
      in
      record {
        before = g.before;
        events = g.events;
        offered = λ cube dim e dimension text has asked.
            elim (g.adds cube dim text asked) [
              | inl old ↦ inl old
              | inr is ↦ inr (offers past o given events step run at among cube dim e dimension text has is)
            ];
      }
