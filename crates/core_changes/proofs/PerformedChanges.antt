-- A statement that changes rows is performed, by how it has ended.
use Rattle.std.proofs.Common.{◌≡◌, ◌∙◌, ℕ, ◌+◌, Bool, true, cond, Contains, List, [], ◌∷◌, Option, None, inl, inr, refl, sym, ap, subst, arith, append-nil, eq-eqb, length-append, ne_eqb}
use Rattle.std.specs.List.{list_any}
use Rattle.core_agreements.specs.PostsForOperations.{batches_posted}
use Rattle.core_events.specs.Events.{Opening, CoreEvent}
use Rattle.core_events.specs.Serial.{DropRows}
use Rattle.core_states.proofs.LongerPasts.{in-turn-after, run-before}
use Rattle.core_states.specs.CorePasts.{CorePast, IsOneMore, last_number, last_step}
use Rattle.core_states.specs.RunsFrom.{IsRunFrom}
use Rattle.core_program.specs.CoreFits.{CoreEntry}
use Rattle.core_records.proofs.NamedApart.{record-apart}
use Rattle.core_records.specs.CoreRecords.{RunScripts, record_of}
use Rattle.core_states.proofs.LeftCalls.{longer-front}
use Rattle.core_states.specs.StandingInCore.{state_of_session}
use Rattle.core_states.specs.declared.session.CoreSession.{CoreSession}
use Rattle.cube_core.specs.declared.cell.CoreCell.{CoreCell}
use Rattle.cube_journal.specs.declared.journal_entry.JournalEntry.{JournalEntry}
use Rattle.cube_journal.specs.declared.reply.Reply.{Reply}
use Rattle.cube_language.specs.declared.statement.Statement.{Statement}
use Rattle.cube_run.specs.Merge.{RoundFollows}
use Rattle.cube_run.specs.RunRecords.{LoadedFile, Says}
use Rattle.cube_run.specs.SessionStates.{KeptWatch, SessionState, session_after}
use Rattle.cube_run.specs.SessionSteps.{SessionStep, all_steps}
use Rattle.cube_run.specs.StepOutcomes.{refused_by_watch}
use Rattle.linked_shards.specs.CellShards.{CoreShardStands}
use Rattle.shard_events.specs.ShardsInRuns.{FitsShard, ShardAnswerSays}
use Rattle.linked_shards.specs.declared.cell.CoreShard.{CoreShard}
use Rattle.core_changes.proofs.EndedSessions.{end-becomes, end-numbered, failed-aborts}
use Rattle.core_changes.proofs.SpeakingCalls.{speak-with}
use Rattle.core_changes.proofs.StepsOfChanges.{failed-does-nothing, refused-does-nothing}
use Rattle.core_changes.specs.CallsOfChanges.{LeavesForChange}
use Rattle.core_changes.specs.ChangeEnds.{ChangeEnd, Failed, Finished, MayEndSo, RefusedBefore, change_entries, counted_session, round_due_after}
use Rattle.core_changes.specs.ChangesInRuns.{HasEndedSo, IsRunAfterChange, IsStepOfChange, PostsByEnd, RoundInStep, entries_of_change, past_with}
use Rattle.played_scripts.specs.PlayedRuns.{AreNumbered}
use Rattle.scripted_pasts.proofs.NamesMore.{with-statement as names-with-statement}
use Rattle.scripted_pasts.proofs.StepsAmong.{last-among}
use Rattle.scripted_pasts.proofs.StepsNamed.{nothing-named, put-named}
use Rattle.scripted_pasts.specs.NamesBehind.{NamesStandBehind}
use Rattle.scripted_pasts.specs.NamesStand.{IsNamedStep}
use Rattle.posted_pasts.proofs.ChangesStand.{drop-change, put-change}
use Rattle.posted_pasts.proofs.PostsMore.{with-calls, with-change, with-failure, with-statement}
use Rattle.posted_pasts.specs.PostsBehind.{InEachRun, PostsStandBehind, is_abort_of}
use Rattle.scripted_pasts.specs.BehindScripts.{StandsForScript}
use Rattle.scripted_pasts.specs.Performed.{HasPerformed, PerformsWatched, every_of}
use Rattle.scripted_pasts.specs.ScriptClaims.{IsRunOfScripts, OpensForScripts}
use Rattle.scripted_pasts.specs.SpokenCalls.{SpeakBySentences}
use Rattle.session_replies.specs.Modes.{mode_of}
use Rattle.session_replies.specs.StepParts.{IsStep}

-- A run of scripts opens as is asked of it.
opens-of : (every : ℕ) (o : Opening) (given : RunScripts) (events : List CoreEvent) → IsRunOfScripts every o given events
    → OpensForScripts every o given events
opens-of every o given events is = record { opens = is.run.opens; every_is = is.every_is }

-- The round is such as it has to be by the numbers of the step.
round-in-step : (old : CoreSession) (end : ChangeEnd) (given : RunScripts) (step : SessionStep)
    → MayEndSo (counted_session old) end → step.session ≡ old.number → step.number ≡ old.statements + 1
    → step.state.mode ≡ mode_of old.mode → step.state.commits ≡ old.commits → given.round_every ≡ every_of old
    → RoundInStep step given.round_every end
round-in-step old (Finished writer round) given step may session_is number_is mode_is commits_is every_is =
    coe 1 0 (i. RoundFollows (session_is i) (number_is i) (round_due_after (every_is i) (mode_is i) (commits_is i)) round)
    may.1
round-in-step old (Failed writer cause) given step may session_is number_is mode_is commits_is every_is = tt
round-in-step old (RefusedBefore code) given step may session_is number_is mode_is commits_is every_is = tt

module _ (s : Statement) (file : LoadedFile) (old : CoreSession) (end : ChangeEnd) (cells : List (CoreCell CoreShard))
    (caller : ℕ) (own now : List CoreEntry) (new : CoreSession) (said : Reply)
    (h : HasEndedSo s file old end cells caller own now new said) (past : CorePast) (watch : Option KeptWatch)
    (lets : refused_by_watch watch s ≡ None)
    (st : StandsForScript FitsShard CoreShardStands ShardAnswerSays cells caller old.number own (every_of old) past
    (state_of_session old watch))
    (count : old.statements ≡ last_number past) where
  abbrev added : List JournalEntry
  added = entries_of_change old end

  abbrev after : CorePast
  after = past_with past s file now added

  abbrev state : SessionState
  state = state_of_session old watch

  abbrev step : SessionStep
  step = last_step old.number after state (Says s) added

  longer : last_number after ≡ last_number past + 1
  longer = length-append past.sentences (Says s ∷ [])

  number-is : last_number after ≡ old.statements + 1
  number-is = longer ∙ ap (λ (n : ℕ). n + 1) (sym count)

  file-is : after.files (last_number after) ≡ file
  file-is =
      ap (λ (b : Bool). cond b file (past.files (last_number after)))
      (eq-eqb (last_number after) (last_number past + 1) longer)

  one : IsOneMore past after (Says s) added
  one = record {
    sentences = refl;
    files = λ number behind.
        let high = behind.1 in
        ap (λ (b : Bool). cond b file (past.files number))
        (ne_eqb number (last_number past + 1) (λ same. omega (arith, same, high)));
    own = longer-front past.own own now st.stands_there.begins h.left.more;
    entries = refl;
    numbered = subst (λ (n : ℕ). AreNumbered (n + 1) (n + 1) added) count (end-numbered old end h.may);
  }

  run-after : (o : Opening) (given : RunScripts) (events : List CoreEvent)
      → IsRunFrom FitsShard CoreShardStands ShardAnswerSays cells caller old.number after o given events
      → OpensForScripts (every_of old) o given events
      → IsRunAfterChange s file old end cells caller own now past o given events
  run-after o given events from opens =
      record { stands_there = st.stands_there; counted = count; from = from; opens = opens }

  step-of : (o : Opening) (given : RunScripts) (events : List CoreEvent)
      → OpensForScripts (every_of old) o given events → IsStepOfChange s file old end given step
  step-of o given events opens = record {
    parts = record {
      mode_is = refl;
      sentence_is = refl;
      entries_are = ap (λ (n : ℕ). change_entries old.number n (mode_of old.mode) end) (sym number-is);
    };
    session_is = refl;
    number_is = number-is;
    file_is = file-is;
    lets = lets;
    round = round-in-step old end given step h.may refl number-is refl refl opens.every_is;
  }

  abbrev Behind : CorePast → List CoreEntry → SessionState → Type 0
  Behind past own state =
      PostsStandBehind FitsShard CoreShardStands ShardAnswerSays cells caller old.number
      (OpensForScripts (every_of old)) past own state

  becomes : state_of_session new watch ≡ session_after state (Says s) added
  becomes =
      ap (λ (session : CoreSession). state_of_session session watch) h.becomes
      ∙ end-becomes old end s watch h.changes h.may

  speaks : SpeakBySentences FitsShard CoreShardStands ShardAnswerSays cells caller old.number after.sentences now
  speaks =
      speak-with cells caller old.number s own now added past.sentences
      (subst (λ (n : ℕ). LeavesForChange cells caller old.number (n + 1) s own now added) count h.left) st.speaks

  -- What a change has posted stands for what is behind with it, whichever its end.
  posts-after : (e : ChangeEnd) → e ≡ end → PostsByEnd s file old end cells caller own now e
      → Behind after now (session_after state (Says s) added)
  posts-after (Finished writer round) same (inl put) =
      with-change FitsShard CoreShardStands ShardAnswerSays cells caller old.number (OpensForScripts (every_of old)) past
      after state (Says s) added st.stands_there.turn one put.cube writer.epoch (batches_posted put.batches) own now
      h.left.more put.posted
      (λ o given events es r.
      put-change (record_of o given events) step put.cube writer.epoch put.batches
      (record-apart o given events r.later.is_run r.from.follow r.also.opens.apart)
      (put.puts past o given events step (run-after o given events r.from r.also) (step-of o given events r.also)))
      st.posts
  posts-after (Finished writer round) same (inr drop) =
      with-change FitsShard CoreShardStands ShardAnswerSays cells caller old.number (OpensForScripts (every_of old)) past
      after state (Says s) added st.stands_there.turn one drop.cube writer.epoch (DropRows drop.box ∷ []) own now
      h.left.more drop.posted
      (λ o given events es r.
      drop-change (record_of o given events) step drop.cube writer.epoch drop.box
      (record-apart o given events r.later.is_run r.from.follow r.also.opens.apart)
      (drop.drops past o given events step (run-after o given events r.from r.also) (step-of o given events r.also)))
      st.posts
  posts-after (Failed writer cause) same learns =
      let may : MayEndSo (counted_session old) (Failed writer cause) =
      subst (λ (x : ChangeEnd). MayEndSo (counted_session old) x) (sym same) h.may
      in
      let gone =
      subst (λ (x : ChangeEnd). list_any (is_abort_of writer.epoch) (entries_of_change old x) ≡ true) same
      (failed-aborts old.number (old.statements + 1) writer cause (mode_of old.mode) may.0)
      in
      with-failure FitsShard CoreShardStands ShardAnswerSays cells caller old.number (OpensForScripts (every_of old)) past
      after state (Says s) added st.stands_there.turn one writer.epoch own now
      (λ o given events from opens.
      failed-does-nothing (record_of o given events) step s (mode_of old.mode) writer cause may.0
      (subst (λ (x : ChangeEnd). IsStep step (mode_of old.mode) (Says s)
      (change_entries step.session step.number (mode_of old.mode) x)) (sym same) (step-of o given events opens).parts))
      h.left.more learns gone st.posts
  posts-after (RefusedBefore code) same learns =
      with-statement FitsShard CoreShardStands ShardAnswerSays cells caller old.number (OpensForScripts (every_of old)) past
      after state (Says s) added st.stands_there.turn one now
      (λ o given events from opens.
      refused-does-nothing (record_of o given events) step s (mode_of old.mode) code
      (subst (λ (x : ChangeEnd). IsStep step (mode_of old.mode) (Says s)
      (change_entries step.session step.number (mode_of old.mode) x)) (sym same) (step-of o given events opens).parts))
      (with-calls FitsShard CoreShardStands ShardAnswerSays cells caller old.number (OpensForScripts (every_of old)) past
      own now state h.left.more learns st.posts)

  -- Its step is named, whichever its end.
  step-named : (e : ChangeEnd) → e ≡ end → PostsByEnd s file old end cells caller own now e
      → InEachRun FitsShard CoreShardStands ShardAnswerSays cells caller old.number (OpensForScripts (every_of old))
      after
      (λ run. IsNamedStep run step)
  step-named (Finished writer round) same (inl put) o given events from also =
      put-named (record_of o given events) step put.cube writer.epoch put.batches
      (record-apart o given events from.run.is_run from.follow also.opens.apart)
      (put.puts past o given events step (run-after o given events from also) (step-of o given events also))
  step-named (Finished writer round) same (inr drop) o given events from also =
      drop.named past o given events step (run-after o given events from also) (step-of o given events also)
  step-named (Failed writer cause) same learns o given events from also =
      let may : MayEndSo (counted_session old) (Failed writer cause) =
      subst (λ (x : ChangeEnd). MayEndSo (counted_session old) x) (sym same) h.may
      in
      nothing-named (record_of o given events) step
      (failed-does-nothing (record_of o given events) step s (mode_of old.mode) writer cause may.0
      (subst (λ (x : ChangeEnd). IsStep step (mode_of old.mode) (Says s)
      (change_entries step.session step.number (mode_of old.mode) x)) (sym same) (step-of o given events also).parts))
  step-named (RefusedBefore code) same learns o given events from also =
      nothing-named (record_of o given events) step
      (refused-does-nothing (record_of o given events) step s (mode_of old.mode) code
      (subst (λ (x : ChangeEnd). IsStep step (mode_of old.mode) (Says s)
      (change_entries step.session step.number (mode_of old.mode) x)) (sym same) (step-of o given events also).parts))

  -- It is one of the run.
  step-among : (o : Opening) (given : RunScripts) (events : List CoreEvent)
      → IsRunFrom FitsShard CoreShardStands ShardAnswerSays cells caller old.number after o given events
      → OpensForScripts (every_of old) o given events → Contains (all_steps (record_of o given events)) step
  step-among o given events from also =
      last-among FitsShard CoreShardStands ShardAnswerSays cells caller old.number past after state (Says s) added
      st.stands_there.turn one o given events (h.session o from.log from.run.opens) from
      (st.posts.becomes o given events
      (run-before FitsShard CoreShardStands ShardAnswerSays cells caller old.number past after (Says s) added o given
      events one from) also)

  names-after : NamesStandBehind FitsShard CoreShardStands ShardAnswerSays cells caller old.number
      (OpensForScripts (every_of old)) after now
  names-after =
      names-with-statement FitsShard CoreShardStands ShardAnswerSays cells caller old.number
      (OpensForScripts (every_of old)) past after state (Says s) added st.stands_there.turn one own now h.left.more
      st.posts.becomes
      (λ o given events es r.
      h.asks past o given r.log events es step (run-after o given events r.from r.also) (step-of o given events r.also)
      (step-among o given events r.from r.also) r.later r.calls)
      (step-named end refl h.posts) st.names

  performed : (IsFile : LoadedFile → Type 0) → IsFile file
      → HasPerformed FitsShard CoreShardStands ShardAnswerSays cells caller old.number (every_of old) IsFile past state
      (Says s) own now (state_of_session new watch) said
  performed IsFile is_file = record {
    after = after;
    added = added;
    more = one;
    becomes = becomes;
    goes_on = h.left.more;
    stands_then = record {
      stands_there = record {
        turn = in-turn-after past after (Says s) added one st.stands_there.turn;
        begins = ([], append-nil now);
        leaves = h.left.entries past.entries st.stands_there.leaves;
      };
      posts = subst (λ (x : SessionState). Behind after now x) (sym becomes) (posts-after end refl h.posts);
      names = names-after;
      speaks = speaks;
    };
    file = subst IsFile (sym file-is) is_file;
    answers = λ o given events from is.
        h.answers past o given events step
        (run-after o given events from (opens-of (every_of old) o given events is))
        (step-of o given events (opens-of (every_of old) o given events is));
  }

pub performs-change : (IsFile : LoadedFile → Type 0) (s : Statement) (file : LoadedFile) (old new : CoreSession)
    (end : ChangeEnd) (cells : List (CoreCell CoreShard)) (caller : ℕ) (own now : List CoreEntry) (said : Reply)
    → IsFile file → HasEndedSo s file old end cells caller own now new said
    → PerformsWatched FitsShard CoreShardStands ShardAnswerSays cells caller IsFile s old own new now said
performs-change IsFile s file old new end cells caller own now said is_file h = λ watch lets past st count.
    performed s file old end cells caller own now new said h past watch lets st count IsFile is_file
