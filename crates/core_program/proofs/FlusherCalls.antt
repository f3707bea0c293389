-- The flusher's own calls tell it which calls on its mail fit, and each call more tells it more.
use Rattle.std.proofs.Common.{◌≡◌, ◌∙◌, ℕ, ◌+◌, ◌<◌, ◌==◌, Bool, true, false, true≢false, List, [], ◌∷◌, ◌++◌, length, map, Some, inr, refl, sym, ap, subst, arith, eq-eqb, ne_eqb, if◌then◌else◌}
use Rattle.mail_cell.specs.declared.answer.Taken.TheVariants as taken
use Rattle.turn_board.specs.History.{event, of_caller}
use Rattle.cube_core.specs.Links.{AreEventsOf, HangsOn, HasOwnEvents, IsToldByCaller}
use Rattle.board_callers.specs.Callers.{HasHistoryOf}
use Rattle.cube_core.proofs.LinkedHistories.{history-run}
use Rattle.cube_core.proofs.OwnParts.{own-part}
use Rattle.cube_core.specs.BoardCells.{FlusherPart, IsEntryEvent, IsShardLinked, StandsInCell, flusher_part, job_asked, server_of}
use Rattle.cube_core.proofs.OwnEntries.{client-high}
use Rattle.cube_core.proofs.OwnKnowledge.{flusher-hangs, flusher-told}
use Rattle.core_cells.specs.declared.mail.MailAnswer.TheVariants as got
use Rattle.core_cells.specs.declared.mail.MailCall.TheVariants as mail
use Rattle.core_program.specs.Knowing.{Claim, IsClientOf, IsMailAt, Knows, ServesClient}
use Rattle.core_program.proofs.KnownCalls.{run-now, split-last}
use Rattle.core_events.proofs.Knowledge.{known-by-calls}
use Rattle.core_events.specs.Cells.{worker_of}
use Rattle.core_events.specs.Clients.{ClientState, calls_of, client_state, state_from_calls}
use Rattle.core_events.specs.Events.{Opening, flusher, flush_mail, ClientCall, Take, NoJob, Reply, CoreEvent, By, At}
use Rattle.core_events.specs.Fitting.{FitsWork, progress_after_call, round_progress}
use Rattle.core_events.specs.Jobs.{CoreJob, JobOutcome}
use Rattle.core_events.specs.Runs.{IsCoreRun}
use Rattle.core_events.specs.ShardView.{ShardView}
use Rattle.core_program.specs.Flushing.{GoOnByAnswer, GoOnByEvent, HasRunOfFlusher, IsFlusherOf, KnowsPart, MayReplyTo, MayTakeJob, PartClaim, part_with_call, part_with_calls}
use Rattle.core_events.specs.Histories.{job_served}
use Rattle.core_program.specs.CoreFits.{CoreEntry, FitsOwnCalls, OpensCells}
use Rattle.core_program.specs.LinkedCells.{linked-cells}
use Rattle.cube_core.specs.CoreSteps.{CoreStep}
use Rattle.cube_core.specs.declared.cell.CoreAnswer.TheVariants as answer
use Rattle.cube_core.specs.declared.cell.CoreCall.TheVariants as call
use Rattle.cube_core.specs.declared.cell.CoreCell.{CoreCell}
use Rattle.cube_core.specs.declared.jobs.Job.{Job}
use Rattle.cube_core.specs.declared.jobs.JobAnswer.{JobAnswer}
use Rattle.cube_core.specs.declared.shard.ShardAnswer.{ShardAnswer}
use Rattle.cube_core.specs.declared.shard.ShardCall.{ShardCall}

-- The flusher is a client of a shard's mail.
shard-client : (sessions : ℕ) (b : Bool) → b ≡ false → sessions + 1 < (if b then sessions + 1 else sessions + 2)
shard-client sessions true other = absurd (true≢false other)
shard-client sessions false other = omega arith

-- Its calls as a client leave its job, and go on with its rounds.
one-call : (o : Opening) (c : ClientCall) (es : List CoreEvent) → flusher_part o (By (flusher o) c ∷ es) ≡ part_with_call c (flusher_part o es)
one-call o c es =
    ap (λ (b : Bool). record {
      calls = if b then c ∷ calls_of (flusher o) es else calls_of (flusher o) es;
      worker = worker_of (flush_mail o) es;
      progress = progress_after_call c (round_progress o es);
    }) (eq-eqb (flusher o) (flusher o) refl)

pub more-calls : (o : Opening) (calls : List ClientCall) (es : List CoreEvent)
    → flusher_part o (map (λ c. By (flusher o) c) calls ++ es) ≡ part_with_calls calls (flusher_part o es)
more-calls o [] es = refl
more-calls o (c ∷ calls) es =
    one-call o c (map (λ c. By (flusher o) c) calls ++ es) ∙ ap (part_with_call c) (more-calls o calls es)

module _ {S : Type 0} (fits : Opening → ℕ → ShardCall → Type 0) (stands : Opening → ℕ → ℕ → S → ShardView → Type 0)
    (says : CoreJob → ShardAnswer → JobOutcome → Type 0) (cells : List (CoreCell S)) (caller client shards : ℕ)
    (flush : IsFlusherOf fits stands says cells caller client shards) where
  abbrev Opens : Opening → List CoreEntry → Type 0
  Opens o log = OpensCells fits stands says o cells log

  abbrev entry_event : Opening → List CoreEvent → CoreEntry → CoreEvent → Type 0
  entry_event o es e x = IsEntryEvent fits stands says o es e x

  abbrev Mail : ℕ → ℕ → Type 0
  Mail number cell = IsMailAt fits stands says cells number cell

  -- It is a client.
  pub is-client : IsClientOf fits stands says cells caller client
  is-client = record {
    opening = flush.opening;
    acts = λ o log opens. inr (flush.own o log opens);
    client_is = λ o log opens. flush.client_is o log opens ∙ sym (client-high o caller (flush.own o log opens));
  }

  pub is-served : (number : ℕ) → number < shards → ServesClient fits stands says cells client number
  is-served number below o log opens =
      let mail_is = flush.mail_is o log opens in
      subst (λ (n : ℕ). n < (if number == flush_mail o then o.sessions + 1 else o.sessions + 2)) (sym (flush.client_is o log opens))
      (shard-client o.sessions (number == flush_mail o) (ne_eqb number (flush_mail o) (λ same. absurd (omega (arith, same, below, mail_is)))))

  -- What it knows of its calls it knows as a client.
  pub known-as-client : (own : List CoreEntry) (P : Claim) → KnowsPart fits stands says cells caller own (λ o part. P o part.calls)
      → Knows fits stands says cells caller client own P
  known-as-client own P knows o log run es later are =
      subst (λ (n : ℕ). P o (calls_of n es)) (sym (flush.client_is o log later.opens)) (knows o log run es later are)

  -- Its own entries are events of which the same is told.
  own-events : (own : List CoreEntry) (o : Opening) (log : List CoreEntry) (es : List CoreEvent) → Opens o log → of_caller caller log ≡ own
      → AreEventsOf (entry_event o) log es → HasOwnEvents (entry_event o) caller (flusher_part o) log es
  own-events own o log es opens mine are =
      let serves = flush.own o log opens in
      own-part (entry_event o) caller (flusher_part o)
      (coe 1 0 (i. IsToldByCaller (entry_event o) (serves i) (flusher_part o)) (flusher-told fits stands says o))
      (coe 1 0 (i. HangsOn (entry_event o) (serves i) (flusher_part o)) (flusher-hangs fits stands says o)) log es are

  pub run-of-flusher : (own : List CoreEntry) (o : Opening) (log : List CoreEntry) (es : List CoreEvent) → Opens o log → of_caller caller log ≡ own
      → AreEventsOf (entry_event o) log es → IsCoreRun o es → HasRunOfFlusher fits stands says cells o caller own log
  run-of-flusher own o log es opens mine are is_run =
      let part = own-events own o log es opens mine are in
      record {
        run = es;
        is_later = run-now fits stands says cells o caller own log es opens mine are is_run;
        es = part.own;
        events = subst (λ (l : List CoreEntry). AreEventsOf (entry_event o) l part.own) mine part.events;
        part = part.same;
      }

  -- What it knows holds in each run with its own calls.
  in-run : (own : List CoreEntry) (P : PartClaim) → KnowsPart fits stands says cells caller own P → (o : Opening) (log : List CoreEntry)
      (es : List CoreEvent) → Opens o log → of_caller caller log ≡ own → AreEventsOf (entry_event o) log es → IsCoreRun o es
      → P o (flusher_part o es)
  in-run own P knows o log es opens mine are is_run =
      let part = own-events own o log es opens mine are in
      subst (λ (p : FlusherPart). P o p) (sym part.same)
      (knows o log es part.own (run-now fits stands says cells o caller own log es opens mine are is_run)
      (subst (λ (l : List CoreEntry). AreEventsOf (entry_event o) l part.own) mine part.events))

  serves-mail : (o : Opening) (log : List CoreEntry) → Opens o log → caller ≡ server_of o shards
  serves-mail o log opens = flush.own o log opens ∙ ap (server_of o) (sym (flush.mail_is o log opens))

  mail-there : (number cell : ℕ) → Mail number cell → cell < length cells
  mail-there number cell at =
      let first = flush.opening [] in
      let long = first.1.long in
      let is = at.cell_is first.0 [] first.1 in
      let below = at.there first.0 [] first.1 in
      omega (arith, long, is, below)

  pub take-fits : (cell : ℕ) (own : List CoreEntry) → Mail shards cell → KnowsPart fits stands says cells caller own MayTakeJob
      → FitsOwnCalls fits stands says cells caller own cell (call.Mail mail.Take)
  take-fits cell own at knows = record {
    opening = flush.opening;
    there = mail-there shards cell at;
    in_runs = λ o log es opens mine are run.
        let free = in-run own MayTakeJob knows o log es opens mine are run in record {
          number = shards;
          cell = at.cell_is o log opens;
          there = at.there o log opens;
          own = serves-mail o log opens;
          suits = tt;
          fits_mail = record {
            there = at.there o log opens;
            free = ap (λ (n : ℕ). worker_of n es) (flush.mail_is o log opens) ∙ free;
          };
        };
  }

  pub reply-fits : (cell to : ℕ) (own : List CoreEntry) (said : JobAnswer) → Mail shards cell
      → KnowsPart fits stands says cells caller own (MayReplyTo says to said)
      → FitsOwnCalls fits stands says cells caller own cell (call.Mail (mail.Reply to said))
  reply-fits cell to own said at knows = record {
    opening = flush.opening;
    there = mail-there shards cell at;
    in_runs = λ o log es opens mine are run.
        let may = in-run own (MayReplyTo says to said) knows o log es opens mine are run in
        let worker : worker_of shards es ≡ worker_of (flush_mail o) es = ap (λ (n : ℕ). worker_of n es) (flush.mail_is o log opens) in
        let lost : (state_from_calls o (flusher o) (calls_of (flusher o) es)).store_lost ≡ (client_state o (flusher o) es).store_lost =
        ap (λ (k : ClientState). k.store_lost) (sym (known-by-calls o (flusher o) es))
        in
        record {
          number = shards;
          cell = at.cell_is o log opens;
          there = at.there o log opens;
          own = serves-mail o log opens;
          suits = tt;
          fits_mail = record {
            job = may.job;
            outcome = may.outcome;
            serves = ap job_served worker ∙ may.serves;
            stands = may.stands;
            fits = (at.there o log opens, coe 0 1 (i. FitsWork (round_progress o es) (lost i) (sym worker i) (Reply to may.outcome)) may.fits);
          };
        };
  }

  -- By one call more.
  pub took-learns : (cell to : ℕ) (own : List CoreEntry) (job : Job) (o : Opening) (log : List CoreEntry) (es : List CoreEvent)
      → Mail shards cell → Opens o log
      → AreEventsOf (entry_event o) (own ++ event caller cell (call.Mail mail.Take) (answer.Mail (got.Taken (taken.Job to job))) ∷ []) es
      → GoOnByEvent fits stands says cells o own es (λ before. At shards (Take to (job_asked job)))
  took-learns cell to own job o log es at opens are =
      let s = split-last (entry_event o) [] own (event caller cell (call.Mail mail.Take) (answer.Mail (got.Taken (taken.Job to job)))) es are in
      let here = at.cell_is o log opens in
      let there = s.is.1 in
      let same : s.is.0 ≡ shards = omega (arith, here, there) in
      record {
        before = s.before;
        events = s.events;
        whole = sym s.whole ∙ ap (λ (x : CoreEvent). x ∷ s.before) (s.is.3 ∙ ap (λ (n : ℕ). At n (Take to (job_asked job))) same);
      }

  pub none-learns : (cell : ℕ) (own : List CoreEntry) (o : Opening) (log : List CoreEntry) (es : List CoreEvent) → Mail shards cell → Opens o log
      → AreEventsOf (entry_event o) (own ++ event caller cell (call.Mail mail.Take) (answer.Mail (got.Taken taken.Empty)) ∷ []) es
      → GoOnByEvent fits stands says cells o own es (λ before. At shards (NoJob false))
  none-learns cell own o log es at opens are =
      let s = split-last (entry_event o) [] own (event caller cell (call.Mail mail.Take) (answer.Mail (got.Taken taken.Empty))) es are in
      let here = at.cell_is o log opens in
      let there = s.is.1 in
      let same : s.is.0 ≡ shards = omega (arith, here, there) in
      record {
        before = s.before;
        events = s.events;
        whole = sym s.whole ∙ ap (λ (x : CoreEvent). x ∷ s.before) (s.is.3 ∙ ap (λ (n : ℕ). At n (NoJob false)) same);
      }

  pub closed-learns : (cell : ℕ) (own : List CoreEntry) (o : Opening) (log : List CoreEntry) (es : List CoreEvent) → Mail shards cell → Opens o log
      → AreEventsOf (entry_event o) (own ++ event caller cell (call.Mail mail.Take) (answer.Mail (got.Taken taken.Closed)) ∷ []) es
      → GoOnByEvent fits stands says cells o own es (λ before. At shards (NoJob true))
  closed-learns cell own o log es at opens are =
      let s = split-last (entry_event o) [] own (event caller cell (call.Mail mail.Take) (answer.Mail (got.Taken taken.Closed))) es are in
      let here = at.cell_is o log opens in
      let there = s.is.1 in
      let same : s.is.0 ≡ shards = omega (arith, here, there) in
      record {
        before = s.before;
        events = s.events;
        whole = sym s.whole ∙ ap (λ (x : CoreEvent). x ∷ s.before) (s.is.3 ∙ ap (λ (n : ℕ). At n (NoJob true)) same);
      }

  pub reply-learns : (cell to : ℕ) (own : List CoreEntry) (said : JobAnswer) (o : Opening) (log : List CoreEntry) (es : List CoreEvent)
      → Mail shards cell → Opens o log
      → AreEventsOf (entry_event o) (own ++ event caller cell (call.Mail (mail.Reply to said)) (answer.Mail got.Done) ∷ []) es
      → GoOnByAnswer fits stands says cells o own es said (λ before job. job_served (worker_of shards before) ≡ Some job)
      (λ outcome. At shards (Reply to outcome))
  reply-learns cell to own said o log es at opens are =
      let s = split-last (entry_event o) [] own (event caller cell (call.Mail (mail.Reply to said)) (answer.Mail got.Done)) es are in
      let here = at.cell_is o log opens in
      let there = s.is.1 in
      let same : s.is.0 ≡ shards = omega (arith, here, there) in
      let hands = s.is.3 in
      record {
        before = s.before;
        events = s.events;
        job = hands.of;
        outcome = hands.outcome;
        is_asked = ap (λ (n : ℕ). job_served (worker_of n s.before)) (sym same) ∙ hands.asked;
        stands_for = hands.stands;
        whole = sym s.whole ∙ ap (λ (x : CoreEvent). x ∷ s.before) (hands.is ∙ ap (λ (n : ℕ). At n (Reply to hands.outcome)) same);
      }

-- The history of its calls is a run.
module _ {S : Type 0} (fits : Opening → ℕ → ShardCall → Type 0) (stands : Opening → ℕ → ℕ → S → ShardView → Type 0)
    (says : CoreJob → ShardAnswer → JobOutcome → Type 0) (can_shard : S → ShardCall → Type 0)
    (step_shard : S → ShardCall → ShardAnswer → S → Type 0) (link : IsShardLinked can_shard step_shard fits stands says) where
  pub flusher-run : (cells : List (CoreCell S)) (caller client shards : ℕ) (own : List CoreEntry) (o : Opening)
      → IsFlusherOf fits stands says cells caller client shards
      → (h : HasHistoryOf (CoreStep step_shard) (FitsOwnCalls fits stands says) cells caller own) → OpensCells fits stands says o cells h.log
      → HasRunOfFlusher fits stands says cells o caller own h.log
  flusher-run cells caller client shards own o flush h opens =
      let run =
      history-run (CoreStep step_shard) (FitsOwnCalls fits stands says) (λ p. OpensCells fits stands says p) (λ p. IsEntryEvent fits stands says p)
      (λ p. StandsInCell fits stands says p) (linked-cells can_shard step_shard fits stands says link) o cells h.log opens h.run
      in
      run-of-flusher fits stands says cells caller client shards flush own o h.log run.es opens h.mine run.events run.run
