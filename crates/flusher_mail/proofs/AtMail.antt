-- What the flusher knows once it took from its mail, or replied.
use Rattle.std.proofs.Common.{◌≡◌, ◌∙◌, ℕ, ◌+◌, ◌<◌, ◌==◌, Bool, true, false, List, [], ◌∷◌, ◌++◌, refl, sym, ap, subst, arith, eq-eqb}
use Rattle.mail_cell.specs.declared.answer.Taken.{Taken}
use Rattle.mail_cell.specs.declared.answer.Taken.TheVariants.{Job as SomeJob, Empty, Closed}
use Rattle.cube_core.specs.Links.{AreEventsOf}
use Rattle.cube_core.specs.BoardCells.{IsEntryEvent, WorkSuits, flusher_part, work_job}
use Rattle.core_program.proofs.KnownCalls.{earlier-run, split-last}
use Rattle.core_program.specs.Knowing.{IsLaterRun, IsMailAt}
use Rattle.core_events.specs.Cells.{Free, worker_after, worker_of}
use Rattle.core_events.specs.Events.{Opening, flush_mail, NoJob, Reply, Take, CoreEvent, At}
use Rattle.core_events.specs.Jobs.{CoreJob, Flush, JobOutcome}
use Rattle.core_events.specs.ShardView.{ShardView}
use Rattle.core_program.proofs.FlusherCalls.{closed-learns, none-learns, reply-learns}
use Rattle.core_program.specs.Flushing.{GoOnByEvent, IsFlusherOf, KnowsPart, PartClaim}
use Rattle.core_program.specs.CoreFits.{CoreEntry, OpensCells}
use Rattle.cube_core.specs.declared.cell.CoreCell.{CoreCell}
use Rattle.cube_core.specs.declared.jobs.FlushAnswer.{FlushAnswer}
use Rattle.cube_core.specs.declared.jobs.Job.{Job}
use Rattle.cube_core.specs.declared.jobs.JobAnswer.TheVariants as reply
use Rattle.cube_core.specs.declared.jobs.Work.{Work as JobWork}
use Rattle.cube_core.specs.declared.jobs.Work.TheVariants as work
use Rattle.cube_core.specs.declared.shard.ShardAnswer.{ShardAnswer}
use Rattle.cube_core.specs.declared.shard.ShardCall.{ShardCall}
use Rattle.flusher_mail.specs.FlusherMail.{HasFlush, HasNoFlush, IsAtMailAfter, LearnsOfReply, LearnsOfTake, move_of_take, reply_entry, take_entry}

-- A job that suits the flusher's mail is a FLUSH.
is-flush : (fits : Opening → ℕ → ShardCall → Type 0) (o : Opening) (number : ℕ) (asked : JobWork) → number ≡ flush_mail o
    → WorkSuits fits o number asked → work_job asked ≡ Flush
is-flush fits o number work.Flush same suits = refl
is-flush fits o number (work.Shard c) same suits = let low = suits.0 in absurd (omega (arith, same, low))

module _ {S : Type 0} (fits : Opening → ℕ → ShardCall → Type 0) (stands : Opening → ℕ → ℕ → S → ShardView → Type 0)
    (says : CoreJob → ShardAnswer → JobOutcome → Type 0) (cells : List (CoreCell S)) (caller client shards : ℕ)
    (flush : IsFlusherOf fits stands says cells caller client shards) where
  abbrev Later : Opening → List CoreEntry → List CoreEntry → List CoreEvent → Type 0
  Later o own log run = IsLaterRun fits stands says cells o caller own log run

  abbrev Of : Opening → List CoreEntry → List CoreEvent → Type 0
  Of o own es = AreEventsOf (IsEntryEvent fits stands says o) own es

  abbrev KnowsIt : List CoreEntry → PartClaim → Type 0
  KnowsIt own P = KnowsPart fits stands says cells caller own P

  -- A run after one call more is one after the calls before it.
  before-it : (o : Opening) (own now log : List CoreEntry) (e : CoreEntry) (run : List CoreEvent) → now ≡ own ++ e ∷ []
      → Later o now log run → Later o own log run
  before-it o own now log e run is later =
      earlier-run fits stands says cells o caller own (e ∷ []) log run
      (subst (λ (l : List CoreEntry). Later o l log run) is later)

  at-mail : (o : Opening) (log : List CoreEntry) → OpensCells fits stands says o cells log → (shards == flush_mail o) ≡ true
  at-mail o log opens = eq-eqb shards (flush_mail o) (flush.mail_is o log opens)

  -- It takes.
  took : (cell to : ℕ) (own : List CoreEntry) (job : Job) (o : Opening) (log : List CoreEntry) (es : List CoreEvent)
      → IsMailAt fits stands says cells shards cell → OpensCells fits stands says o cells log
      → Of o (own ++ take_entry caller cell (SomeJob to job) ∷ []) es
      → GoOnByEvent fits stands says cells o own es (λ before. At shards (Take to Flush))
  took cell to own job o log es at opens are =
      let s = split-last (λ earlier e x. IsEntryEvent fits stands says o earlier e x) [] own (take_entry caller cell (SomeJob to job)) es are in
      let here = at.cell_is o log opens in
      let there = s.is.1 in
      let same : s.is.0 ≡ shards = omega (arith, here, there) in
      let asked = is-flush fits o s.is.0 job.work (same ∙ flush.mail_is o log opens) s.is.4 in
      record {
        before = s.before;
        events = s.events;
        whole = sym s.whole ∙ ap (λ (x : CoreEvent). x ∷ s.before) (s.is.3 ∙ (λ i. At (same i) (Take to (asked i))));
      }

  learns-of : (taken : Taken Job) (cell : ℕ) (own : List CoreEntry) (o : Opening) (log : List CoreEntry) (es : List CoreEvent)
      → IsMailAt fits stands says cells shards cell → OpensCells fits stands says o cells log
      → Of o (own ++ take_entry caller cell taken ∷ []) es
      → GoOnByEvent fits stands says cells o own es (λ before. At shards (move_of_take taken))
  learns-of (SomeJob to job) cell own o log es at opens are = took cell to own job o log es at opens are
  learns-of Empty cell own o log es at opens are =
      none-learns fits stands says cells caller client shards flush cell own o log es at opens are
  learns-of Closed cell own o log es at opens are =
      closed-learns fits stands says cells caller client shards flush cell own o log es at opens are

  pub learns-take : (taken : Taken Job) (cell : ℕ) (own now : List CoreEntry) → IsMailAt fits stands says cells shards cell
      → now ≡ own ++ take_entry caller cell taken ∷ [] → LearnsOfTake fits stands says cells caller shards taken own now
  learns-take taken cell own now at is o log run es later are =
      learns-of taken cell own o log es at later.opens (subst (λ (l : List CoreEntry). Of o l es) is are)

  pub after-take : (taken : Taken Job) (cell : ℕ) (lost : Bool) (own now : List CoreEntry) → now ≡ own ++ take_entry caller cell taken ∷ []
      → LearnsOfTake fits stands says cells caller shards taken own now → KnowsIt own (HasNoFlush lost)
      → KnowsIt now (IsAtMailAfter taken lost)
  after-take (SomeJob to job) cell lost own now is learns knows o log run es later are =
      let g = learns o log run es later are in
      let was = knows o log run g.before (before-it o own now log (take_entry caller cell (SomeJob to job)) run is later) g.events in
      subst (λ (l : List CoreEvent). HasFlush to lost o (flusher_part o l)) (sym g.whole)
      (record {
        has = ap (λ (here : Bool). worker_after here (Take to Flush) (worker_of (flush_mail o) g.before)) (at-mail o log later.opens);
        between = was.between;
      })
  after-take Empty cell lost own now is learns knows o log run es later are =
      let g = learns o log run es later are in
      let was = knows o log run g.before (before-it o own now log (take_entry caller cell Empty) run is later) g.events in
      subst (λ (l : List CoreEvent). HasNoFlush lost o (flusher_part o l)) (sym g.whole)
      (record {
        has = ap (λ (here : Bool). worker_after here (NoJob false) (worker_of (flush_mail o) g.before)) (at-mail o log later.opens)
            ∙ was.has;
        between = was.between;
      })
  after-take Closed cell lost own now is learns knows o log run es later are =
      let g = learns o log run es later are in
      let was = knows o log run g.before (before-it o own now log (take_entry caller cell Closed) run is later) g.events in
      subst (λ (l : List CoreEvent). HasNoFlush lost o (flusher_part o l)) (sym g.whole)
      (record {
        has = ap (λ (here : Bool). worker_after here (NoJob true) (worker_of (flush_mail o) g.before)) (at-mail o log later.opens)
            ∙ was.has;
        between = was.between;
      })

  -- It replies.
  pub learns-reply : (cell to : ℕ) (said : FlushAnswer) (own now : List CoreEntry) → IsMailAt fits stands says cells shards cell
      → now ≡ own ++ reply_entry caller cell to said ∷ [] → LearnsOfReply fits stands says cells caller shards to said own now
  learns-reply cell to said own now at is o log run es later are =
      reply-learns fits stands says cells caller client shards flush cell to own (reply.Flush said) o log es at later.opens
      (subst (λ (l : List CoreEntry). Of o l es) is are)

  pub after-reply : (cell to : ℕ) (said : FlushAnswer) (lost : Bool) (own now : List CoreEntry) → now ≡ own ++ reply_entry caller cell to said ∷ []
      → LearnsOfReply fits stands says cells caller shards to said own now → KnowsIt own (HasFlush to lost)
      → KnowsIt now (HasNoFlush lost)
  after-reply cell to said lost own now is learns knows o log run es later are =
      let g = learns o log run es later are in
      let was = knows o log run g.before (before-it o own now log (reply_entry caller cell to said) run is later) g.events in
      subst (λ (l : List CoreEvent). HasNoFlush lost o (flusher_part o l)) (sym g.whole)
      (record {
        has = ap (λ (here : Bool). worker_after here (Reply to g.outcome) (worker_of (flush_mail o) g.before)) (at-mail o log later.opens);
        between = was.between;
      })
