-- A session asks for a round: what it knows before, between and after its two calls.
use Rattle.std.proofs.Common.{◌≡◌, ◌∙◌, ℕ, ◌+◌, ◌||◌, Bool, true, false, List, [], ◌∷◌, ◌++◌, append_assoc, Option, Some, replicate, if◌then◌else◌, inl, refl, sym, ap, subst, arith}
use Rattle.std.proofs.lemmas.Option.{same_Some}
use Rattle.cube_values.specs.declared.snapshot.Snapshot.{Snapshot}
use Rattle.cube_journal.specs.declared.note.Note.TheVariants as note
use Rattle.core_events.specs.Fitting.{MayNote}
use Rattle.board_callers.specs.Callers.{HasHistoryOf}
use Rattle.core_program.specs.ClientCalls.{HasFetched, LearnsByFetch, ask_entry, post_entry}
use Rattle.cube_core.specs.Links.{AreEventsOf}
use Rattle.cube_core.specs.BoardCells.{AnswerSays, IsEntryEvent}
use Rattle.core_program.proofs.KnownCalls.{earlier-run, post-learns}
use Rattle.core_program.specs.Knowing.{IsClientOf, IsLaterRun, IsMailAt, IsSessionOf, Knows, MayFetchFrom, MayPostJob, last_posted}
use Rattle.core_events.proofs.Knowledge.{known-by-calls}
use Rattle.core_events.specs.Clients.{ClientState, after_client_call, calls_of, client_state, state_from_calls}
use Rattle.core_events.specs.Events.{Opening, Fetch, NoChange, Post, ClientCall, CoreEvent, By}
use Rattle.core_events.specs.Groups.{Flushes, has_ended, has_number}
use Rattle.core_events.specs.Jobs.{CoreJob, Flush, JobOutcome}
use Rattle.core_program.specs.CoreFits.{CoreEntry, FitsOwnCalls, OpensCells}
use Rattle.cube_core.specs.CoreSteps.{CoreStep}
use Rattle.cube_core.specs.declared.cell.CoreCell.{CoreCell}
use Rattle.cube_core.specs.declared.jobs.FlushAnswer.{FlushAnswer}
use Rattle.cube_core.specs.declared.jobs.FlushAnswer.TheVariants as flush
use Rattle.cube_core.specs.declared.jobs.Job.{Job}
use Rattle.cube_core.specs.declared.jobs.JobAnswer.{JobAnswer}
use Rattle.cube_core.specs.declared.jobs.JobAnswer.TheVariants as reply
use Rattle.cube_core.specs.declared.jobs.Work.TheVariants as work
use Rattle.cube_core.specs.declared.shard.ShardAnswer.TheVariants as answer
use Rattle.job_groups.proofs.GroupSteps.{after-waits}
use Rattle.job_groups.specs.AskedEach.{HasMore}
use Rattle.session_snapshots.specs.KnownHolds.{HoldsReady, HoldsTheSame}
use Rattle.linked_shards.specs.CellShards.{CanCallCoreShard, CoreShardStands, CoreShardStep, linked-shards}
use Rattle.linked_shards.specs.declared.cell.CoreShard.{CoreShard}
use Rattle.mail_cell.specs.declared.answer.Fetched.TheVariants.{Got, NotYet}
use Rattle.cube_core.proofs.Groups.{ready-ended}
use Rattle.cube_core.proofs.Requests.{answered, learns, may-ask, may-note-round, may-refuse}
use Rattle.cube_core.proofs.Snapshots.{same-number}
use Rattle.cube_core.specs.GroupEnds.{with_round_answer}
use Rattle.cube_core.specs.HoldStates.{IsReadyWith, IsReading, IsWriting}
use Rattle.session_requests.proofs.Outcomes.{round-ends}
use Rattle.session_requests.specs.SessionRequests.{IsRoundOutcome, LearnsOfRound, MayNoteRound, TellsRound, round_outcome, round_told}
use Rattle.shard_events.specs.ShardsInRuns.{FitsShard, ShardAnswerSays}
use Rattle.core_program.proofs.ClientRuns.{client-run}
use Rattle.core_program.specs.Knowing.{HasRunOfClient}

-- What an answer tells of a FLUSH.

pub tells-round : (said : JobAnswer) (outcome : JobOutcome) → AnswerSays ShardAnswerSays Flush said outcome → IsRoundOutcome outcome
    → TellsRound said
tells-round (reply.Flush said) outcome says ends = tt
tells-round (reply.Shard answer.Done) outcome says ends = tt
tells-round (reply.Shard answer.NoMemory) outcome says ends = tt
tells-round (reply.Shard (answer.ShardFull rows)) outcome says ends = subst IsRoundOutcome says ends
tells-round (reply.Shard said) outcome says ends = absurd says

pub told-as : (said : JobAnswer) (outcome : JobOutcome) → AnswerSays ShardAnswerSays Flush said outcome → TellsRound said
    → outcome ≡ round_outcome (round_told said)
told-as (reply.Flush flush.Done) outcome says tells = says
told-as (reply.Flush flush.StoreFailed) outcome says tells = says
told-as (reply.Flush flush.NoMemory) outcome says tells = says
told-as (reply.Shard answer.Done) outcome says tells = says
told-as (reply.Shard answer.NoMemory) outcome says tells = says
told-as (reply.Shard said) outcome says tells = absurd tells

-- The post is waited for.
post-waits : (o : Opening) (a n : ℕ) (k : ClientState) → has_ended o.shards k.group ≡ true
    → has_number (after_client_call o a (Post n Flush) k).group.waits n ≡ true
post-waits o a n k ended =
    ap (λ (b : Bool). has_number (if b then record { kind = Flushes; waits = n ∷ []; answers = [] }
    else record k.group { waits = n ∷ k.group.waits }).waits n) ended
    ∙ ap (λ (b : Bool). b || false) (same-number n)

posted-flush : (n : ℕ) (calls : List ClientCall) → last_posted n (Post n Flush ∷ calls) ≡ Some Flush
posted-flush n calls = ap (λ (b : Bool). if b then Some Flush else last_posted n calls) (same-number n)

module _ (cells : List (CoreCell CoreShard)) (caller session : ℕ)
    (acts : IsClientOf FitsShard CoreShardStands ShardAnswerSays cells caller session)
    (of_run : IsSessionOf FitsShard CoreShardStands ShardAnswerSays cells session) (shards statement : ℕ)
    (at : IsMailAt FitsShard CoreShardStands ShardAnswerSays cells shards (2 + shards + shards))
    (own : List CoreEntry) (held : Option Snapshot)
    (holds : HoldsReady FitsShard CoreShardStands ShardAnswerSays cells caller session own held) where
  abbrev Later : Opening → List CoreEntry → List CoreEntry → List CoreEvent → Type 0
  Later o mine log run = IsLaterRun FitsShard CoreShardStands ShardAnswerSays cells o caller mine log run

  abbrev Of : Opening → List CoreEntry → List CoreEvent → Type 0
  Of o mine es = AreEventsOf (IsEntryEvent FitsShard CoreShardStands ShardAnswerSays o) mine es

  abbrev Opens : Opening → List CoreEntry → Type 0
  Opens o log = OpensCells FitsShard CoreShardStands ShardAnswerSays o cells log

  abbrev state : Opening → List CoreEvent → ClientState
  state o es = state_from_calls o session (calls_of session es)

  abbrev flush_job : Job
  flush_job = record { session = session; statement = statement; work = work.Flush }

  abbrev cell : ℕ
  cell = 2 + shards + shards

  abbrev post : CoreEntry
  post = post_entry caller session cell flush_job

  abbrev posted : List CoreEntry
  posted = own ++ post ∷ []

  same-shards : (o : Opening) (log : List CoreEntry) → Opens o log → shards ≡ o.shards
  same-shards o log opens = let is = at.cell_is o log opens in omega (arith, is)

  pub may-post : Knows FitsShard CoreShardStands ShardAnswerSays cells caller session own (MayPostJob FitsShard session shards flush_job)
  may-post o log run es later are =
      let k = state o es in
      let b = may-ask o session shards held k (of_run o log later.opens) (holds o log run es later are) in
      record {
        suits = same-shards o log later.opens;
        may = record {
          goes = same-shards o log later.opens;
          bears = b.bears k.group;
          group = inl (record { ended = b.ended; next = b.begins });
        };
      }

  ended-at : (o : Opening) (log : List CoreEntry) (run es : List CoreEvent) → Later o own log run → Of o own es
      → has_ended o.shards (state o es).group ≡ true
  ended-at o log run es later are = ready-ended o.shards (state o es).group (holds o log run es later are).ready

  pub may-fetch : Knows FitsShard CoreShardStands ShardAnswerSays cells caller session posted (MayFetchFrom session shards)
  may-fetch o log run es later are =
      let g = post-learns FitsShard CoreShardStands ShardAnswerSays cells caller session acts shards cell own flush_job o log es at later.opens are in
      let earlier = earlier-run FitsShard CoreShardStands ShardAnswerSays cells o caller own (post ∷ []) log run later in
      ap (λ (calls : List ClientCall). has_number (state_from_calls o session calls).group.waits shards) g.calls
      ∙ post-waits o session shards (state o g.before) (ended-at o log run g.before earlier g.events)

  module _ (now : List CoreEntry) (said : JobAnswer) (fetched : HasFetched caller session cell said posted now)
      (learned : LearnsByFetch FitsShard CoreShardStands ShardAnswerSays cells session shards said posted now) where
    -- In a run its calls have gone on so.
    record HasAskedFlush (o : Opening) (es : List CoreEvent) : Type 0 where
      before : List CoreEvent
      events : Of o own before
      waits : ℕ
      outcome : JobOutcome
      stands_for : AnswerSays ShardAnswerSays Flush said outcome
      whole : es ≡ By session (Fetch shards outcome) ∷ replicate waits (By session NoChange) ++ By session (Post shards Flush) ∷ before
      calls : calls_of session es ≡ Fetch shards outcome ∷ replicate waits NoChange ++ Post shards Flush ∷ calls_of session before

    asked : (o : Opening) (log : List CoreEntry) (es : List CoreEvent) → Opens o log → Of o now es → HasAskedFlush o es
    asked o log es opens are =
        let f = learned o log es opens are in
        let g = post-learns FitsShard CoreShardStands ShardAnswerSays cells caller session acts shards cell own flush_job o log f.before at opens f.events in
        let is : Some Flush ≡ Some f.job =
        sym (posted-flush shards (calls_of session g.before)) ∙ sym (ap (last_posted shards) g.calls) ∙ f.asked
        in
        record {
          before = g.before;
          events = g.events;
          waits = f.waits;
          outcome = f.outcome;
          stands_for = subst (λ (job : CoreJob). AnswerSays ShardAnswerSays job said f.outcome) (sym (same_Some Flush f.job is)) f.stands_for;
          whole = f.whole
              ∙ ap (λ (l : List CoreEvent). By session (Fetch shards f.outcome) ∷ replicate f.waits (By session NoChange) ++ l) g.whole;
          calls = f.calls
              ∙ ap (λ (l : List ClientCall). Fetch shards f.outcome ∷ replicate f.waits NoChange ++ l) g.calls;
        }

    -- At such a moment the calls before were those of an earlier one.
    before-now : (o : Opening) (log : List CoreEntry) (run : List CoreEvent) → Later o now log run → Later o own log run
    before-now o log run later =
        let asks = replicate fetched.waits (ask_entry caller session cell NotYet) in
        let got = ask_entry caller session cell (Got said) ∷ [] in
        let whole : now ≡ own ++ ((post ∷ []) ++ (asks ++ got)) =
        fetched.whole ∙ append_assoc posted asks got ∙ append_assoc own (post ∷ []) (asks ++ got)
        in
        earlier-run FitsShard CoreShardStands ShardAnswerSays cells o caller own ((post ∷ []) ++ (asks ++ got)) log run
        (subst (λ (l : List CoreEntry). Later o l log run) whole later)

    state-now : (o : Opening) (log : List CoreEntry) (run es : List CoreEvent) → Later o now log run → (h : HasAskedFlush o es)
        → state o es ≡ with_round_answer shards h.outcome (state o h.before)
    state-now o log run es later h =
        ap (state_from_calls o session) h.calls
        ∙ ap (after_client_call o session (Fetch shards h.outcome)) (after-waits o session h.waits (Post shards Flush ∷ calls_of session h.before))
        ∙ learns o session shards h.outcome (state o h.before) (ended-at o log run h.before (before-now o log run later) h.events)

    -- The answer tells how the round ended.
    tells : HasHistoryOf (CoreStep CoreShardStep) (FitsOwnCalls FitsShard CoreShardStands ShardAnswerSays) cells caller now → TellsRound said
    tells history =
        let first = acts.opening history.log in
        let o = first.0 in
        let r : HasRunOfClient FitsShard CoreShardStands ShardAnswerSays cells o caller session now history.log =
        client-run FitsShard CoreShardStands ShardAnswerSays CanCallCoreShard CoreShardStep linked-shards cells caller session now o acts history first.1
        in
        let h = asked o history.log r.es r.is_later.opens r.events in
        let is : (client_state o session r.run).group ≡ (with_round_answer shards h.outcome (state o h.before)).group =
        ap (λ (k : ClientState). k.group)
        (known-by-calls o session r.run ∙ ap (state_from_calls o session) r.calls ∙ state-now o history.log r.run r.es r.is_later h)
        in
        tells-round said h.outcome h.stands_for (round-ends o r.run session shards h.outcome r.is_later.is_run is)

    module _ (tell : TellsRound said) where
      outcome-is : (o : Opening) (es : List CoreEvent) (h : HasAskedFlush o es) → h.outcome ≡ round_outcome (round_told said)
      outcome-is o es h = told-as said h.outcome h.stands_for tell

      learns-round : LearnsOfRound cells caller session (round_told said) own now
      learns-round o log run es later are =
          let h = asked o log es later.opens are in
          let mail = same-shards o log later.opens in
          record {
            before = h.before;
            events = h.events;
            waits = h.waits;
            whole = h.whole
                ∙ (λ i. By session (Fetch (mail i) (outcome-is o es h i)) ∷ replicate h.waits (By session NoChange)
                ++ By session (Post (mail i) Flush) ∷ h.before);
          }

      -- The state is that with the answer.
      known-now : (Is : Opening → ClientState → Type 0) (o : Opening) (log : List CoreEntry) (run es : List CoreEvent) → Later o now log run
          → Of o now es → ((before : List CoreEvent) → Of o own before → Later o own log run
          → Is o (with_round_answer shards (round_outcome (round_told said)) (state o before))) → Is o (state o es)
      known-now Is o log run es later are after =
          let h = asked o log es later.opens are in
          subst (λ (k : ClientState). Is o k)
          (sym (state-now o log run es later h ∙ ap (λ (x : JobOutcome). with_round_answer shards x (state o h.before)) (outcome-is o es h)))
          (after h.before h.events (before-now o log run later))

      holds-round : HoldsTheSame FitsShard CoreShardStands ShardAnswerSays session cells caller own cells caller now
      holds-round = record {
        ready = λ other knows o log run es later are.
            known-now (λ p k. IsReadyWith p session other k) o log run es later are
            (λ before events earlier.
            answered o session shards (round_outcome (round_told said)) other (state o before) (knows o log run before earlier events));
        reader = λ s knows o log run es later are.
            known-now (λ p k. IsReading p session s k) o log run es later are
            (λ before events earlier.
            let r = knows o log run before earlier events in
            record {
              ready = answered o session shards (round_outcome (round_told said)) (Some s) (state o before) r.ready;
              reader = r.reader;
            });
        writer = λ s knows o log run es later are.
            known-now (λ p k. IsWriting p session s k) o log run es later are
            (λ before events earlier.
            let w = knows o log run before earlier events in
            record {
              ready = answered o session shards (round_outcome (round_told said)) (Some s) (state o before) w.ready;
              writer = w.writer;
            });
      }

      notes-as : (end : FlushAnswer) → round_told said ≡ end → MayNoteRound cells caller session now end
      notes-as flush.Done is = λ statement o log run es later are.
          known-now (λ p k. MayNote p session (note.Flushed session statement) k) o log run es later are
          (λ before events earlier.
          subst (λ (x : FlushAnswer). MayNote o session (note.Flushed session statement) (with_round_answer shards (round_outcome x) (state o before)))
          (sym is) (may-note-round o session shards statement (state o before)))
      notes-as flush.StoreFailed is = λ statement o log run es later are.
          known-now (λ p k. MayNote p session (note.Refused session statement 17) k) o log run es later are
          (λ before events earlier.
          subst (λ (x : FlushAnswer). MayNote o session (note.Refused session statement 17) (with_round_answer shards (round_outcome x) (state o before)))
          (sym is) (may-refuse o session shards statement (state o before)))
      notes-as flush.NoMemory is = tt

      notes-round : MayNoteRound cells caller session now (round_told said)
      notes-round = notes-as (round_told said) refl

  -- What the two calls give, seen from the end.
  module _ (mid_cells : List (CoreCell CoreShard)) (mid_caller : ℕ) (mid : List CoreEntry) (same_cells : mid_cells ≡ cells)
      (same_caller : mid_caller ≡ caller) (posts : mid ≡ posted) (new_cells : List (CoreCell CoreShard)) (new_caller : ℕ) (now : List CoreEntry)
      (said : JobAnswer) (then_cells : new_cells ≡ mid_cells) (then_caller : new_caller ≡ mid_caller)
      (got : HasFetched mid_caller session cell said mid now)
      (learned : LearnsByFetch FitsShard CoreShardStands ShardAnswerSays mid_cells session shards said mid now)
      (history : HasHistoryOf (CoreStep CoreShardStep) (FitsOwnCalls FitsShard CoreShardStands ShardAnswerSays) new_cells new_caller now) where
    fetched-now : HasFetched caller session cell said posted now
    fetched-now = coe 0 1 (i. HasFetched (same_caller i) session cell said (posts i) now) got

    learned-now : LearnsByFetch FitsShard CoreShardStands ShardAnswerSays cells session shards said posted now
    learned-now = coe 0 1 (i. LearnsByFetch FitsShard CoreShardStands ShardAnswerSays (same_cells i) session shards said (posts i) now) learned

    pub tells-end : TellsRound said
    tells-end =
        tells now said fetched-now learned-now
        (coe 0 1
        (i. HasHistoryOf (CoreStep CoreShardStep) (FitsOwnCalls FitsShard CoreShardStands ShardAnswerSays) ((then_cells ∙ same_cells) i)
        ((then_caller ∙ same_caller) i) now)
        history)

    pub record HasEndedRound (answer : FlushAnswer) : Type 0 where
      pub goes_on : HasMore own now
      pub learns_it : LearnsOfRound cells caller session answer own now
      pub same : HoldsTheSame FitsShard CoreShardStands ShardAnswerSays session cells caller own new_cells new_caller now
      pub notes : MayNoteRound new_cells new_caller session now answer

    pub round-end : (answer : FlushAnswer) → answer ≡ round_told said → HasEndedRound answer
    round-end answer is = record {
      goes_on =
          let asks = replicate fetched-now.waits (ask_entry caller session cell NotYet) in
          let answered_one = ask_entry caller session cell (Got said) ∷ [] in
          record {
            more = (post ∷ []) ++ (asks ++ answered_one);
            whole =
                fetched-now.whole
                ∙ append_assoc posted asks answered_one
                ∙ append_assoc own (post ∷ []) (asks ++ answered_one);
          };
      learns_it = subst (λ (x : FlushAnswer). LearnsOfRound cells caller session x own now) (sym is)
          (learns-round now said fetched-now learned-now tells-end);
      same = coe 1 0
          (i. HoldsTheSame FitsShard CoreShardStands ShardAnswerSays session cells caller own ((then_cells ∙ same_cells) i)
          ((then_caller ∙ same_caller) i) now)
          (holds-round now said fetched-now learned-now tells-end);
      notes = coe 1 0 (i. MayNoteRound ((then_cells ∙ same_cells) i) ((then_caller ∙ same_caller) i) session now (is i))
          (notes-round now said fetched-now learned-now tells-end);
    }
