-- The flusher's turns, one after the other, until it finds its mail closed.
use Rattle.std.proofs.Common.{◌≡◌, ◌∙◌, ℕ, Bool, true, false, List, [], ◌∷◌, ◌++◌, append_assoc, map, Option, refl, sym, ap, subst}
use Rattle.mail_cell.specs.declared.answer.Taken.{Taken}
use Rattle.mail_cell.specs.declared.answer.Taken.TheVariants.{Job as SomeJob, Empty, Closed}
use Rattle.cube_core.specs.Links.{AreEventsOf}
use Rattle.cube_core.specs.BoardCells.{IsEntryEvent}
use Rattle.core_program.specs.Knowing.{IsLaterRun}
use Rattle.core_events.specs.Clients.{calls_of}
use Rattle.core_events.specs.Events.{Opening, NoJob, Take, CoreEvent, At, By}
use Rattle.core_events.specs.Jobs.{CoreJob, Flush, JobOutcome}
use Rattle.core_events.specs.ShardView.{ShardView}
use Rattle.core_program.specs.CoreFits.{CoreEntry}
use Rattle.cube_core.specs.declared.cell.CoreCell.{CoreCell}
use Rattle.cube_core.specs.declared.jobs.Job.{Job}
use Rattle.cube_core.specs.declared.shard.ShardAnswer.{ShardAnswer}
use Rattle.cube_core.specs.declared.shard.ShardCall.{ShardCall}
use Rattle.flush_loop.proofs.ServedFlushes.{earlier, more-and-more, none-more}
use Rattle.flush_loop.specs.FlushTurns.{AreFlushTurns, FlushTurn, FoundNone, IsLastRound, LearnsOfFlushes, LearnsOfLastRound, LearnsOfService, Served, SuitsStore, all_turn_events, lost_by_service, lost_by_turns, service_events}
use Rattle.flush_loop.specs.MadeRounds.{HoldsInRuns, KeptClaim}
use Rattle.flush_loop.specs.declared.round_result.RoundResult.{RoundResult}
use Rattle.flusher_mail.specs.FlusherMail.{LearnsOfTake}
use Rattle.job_groups.specs.AskedEach.{HasMore}

module _ {S : Type 0} (fits : Opening → ℕ → ShardCall → Type 0) (stands : Opening → ℕ → ℕ → S → ShardView → Type 0)
    (says : CoreJob → ShardAnswer → JobOutcome → Type 0) (cells : List (CoreCell S)) (caller client shards : ℕ) where
  abbrev Later : Opening → List CoreEntry → List CoreEntry → List CoreEvent → Type 0
  Later o own log run = IsLaterRun fits stands says cells o caller own log run

  abbrev Of : Opening → List CoreEntry → List CoreEvent → Type 0
  Of o own es = AreEventsOf (IsEntryEvent fits stands says o) own es

  abbrev Took : Taken Job → List CoreEntry → List CoreEntry → Type 0
  Took taken own now = LearnsOfTake fits stands says cells caller shards taken own now

  -- In a run its calls go on by whole turns, by which the store is lost or not.
  pub record TurnedIn (lost : Bool) (o : Opening) (own : List CoreEntry) (es : List CoreEvent) : Type 0 where
    pub before : List CoreEvent
    pub events : Of o own before
    pub turns : List FlushTurn
    pub are : AreFlushTurns turns
    pub by_then : lost_by_turns turns ≡ lost
    pub whole : es ≡ all_turn_events client shards turns ++ before

  pub record HasTurned (lost : Bool) (own now : List CoreEntry) : Type 0 where
    pub more : HasMore own now
    pub learns : (o : Opening) (log : List CoreEntry) (run es : List CoreEvent) → Later o now log run → Of o now es → TurnedIn lost o own es

  pub not-turned : (own : List CoreEntry) → HasTurned false own own
  not-turned own = record {
    more = none-more own;
    learns = λ o log run es later are. record { before = es; events = are; turns = []; are = tt; by_then = refl; whole = refl };
  }

  -- It finds no FLUSH.
  pub turns-idle : (lost : Bool) (own now next : List CoreEntry) → HasTurned lost own now → HasMore now next → Took Empty now next
      → HasTurned lost own next
  turns-idle lost own now next turned more took = record {
    more = more-and-more own now next turned.more more;
    learns = λ o log run es later are.
        let g = took o log run es later are in
        let t = turned.learns o log run g.before (earlier fits stands says cells caller client shards o now next log run more later) g.events in
        record {
          before = t.before;
          events = t.events;
          turns = FoundNone ∷ t.turns;
          are = (tt, t.are);
          by_then = t.by_then;
          whole = g.whole ∙ ap (λ (l : List CoreEvent). At shards (NoJob false) ∷ l) t.whole;
        };
  }

  -- It takes one and serves it.
  pub turns-on : (lost lost_now : Bool) (to : ℕ) (job : Job) (own now mid next : List CoreEntry) → HasTurned lost own now → HasMore now mid
      → Took (SomeJob to job) now mid → HasMore mid next → LearnsOfService fits stands says cells caller client shards lost to lost_now mid next
      → HasTurned lost_now own next
  turns-on lost lost_now to job own now mid next turned more_mid took more served = record {
    more = more-and-more own mid next (more-and-more own now mid turned.more more_mid) more;
    learns = λ o log run es later are.
        let later_mid = earlier fits stands says cells caller client shards o mid next log run more later in
        let s = served o log run es later are in
        let g = took o log run s.before later_mid s.events in
        let t = turned.learns o log run g.before (earlier fits stands says cells caller client shards o now mid log run more_mid later_mid) g.events in
        let service = service_events client shards to s.service in
        let turns = all_turn_events client shards t.turns in
        let take = At shards (Take to Flush) in
        record {
          before = t.before;
          events = t.events;
          turns = Served to s.service ∷ t.turns;
          are = (subst (λ (b : Bool). SuitsStore b s.service) (sym t.by_then) s.suits, t.are);
          by_then = ap (λ (b : Bool). lost_by_service b s.service) t.by_then ∙ s.loses;
          whole = s.whole
              ∙ ap (λ (l : List CoreEvent). service ++ l) (g.whole ∙ ap (λ (l : List CoreEvent). take ∷ l) t.whole)
              ∙ sym (append_assoc service (take ∷ []) (turns ++ t.before))
              ∙ sym (append_assoc (service ++ take ∷ []) turns t.before);
        };
  }

  -- It finds its mail closed, and makes its last round.
  pub turns-end : (lost : Bool) (result : Option RoundResult) (own now mid next : List CoreEntry) → HasTurned lost own now → HasMore now mid
      → Took Closed now mid → HasMore mid next → LearnsOfLastRound fits stands says cells caller client shards lost result mid next
      → LearnsOfFlushes fits stands says cells caller client shards result own next
  turns-end lost result own now mid next turned more_mid took more last o log run es later are =
      let later_mid = earlier fits stands says cells caller client shards o mid next log run more later in
      let l = last o log run es later are in
      let g = took o log run l.before later_mid l.events in
      let t = turned.learns o log run g.before (earlier fits stands says cells caller client shards o now mid log run more_mid later_mid) g.events in
      record {
        before = t.before;
        events = t.events;
        turns = t.turns;
        are = t.are;
        calls = l.calls;
        last = subst (λ (b : Bool). IsLastRound b result l.calls) (sym t.by_then) l.last;
        whole = l.whole
            ∙ ap (λ (xs : List CoreEvent). map (λ c. By client c) l.calls ++ xs)
            (g.whole ∙ ap (λ (xs : List CoreEvent). At shards (NoJob true) ∷ xs) t.whole);
      }

  -- What was kept before a take.
  pub kept-by-take : (taken : Taken Job) (own now : List CoreEntry) (Holds : KeptClaim) → HasMore own now → Took taken own now
      → HoldsInRuns fits stands says cells caller client Holds own → HoldsInRuns fits stands says cells caller client Holds now
  kept-by-take taken own now Holds more took held = record {
    kept = held.kept;
    in_runs = λ o log run es later are.
        let g = took o log run es later are in
        subst (λ (l : List CoreEvent). Holds held.kept o run (calls_of client l)) (sym g.whole)
        (held.in_runs o log run g.before (earlier fits stands says cells caller client shards o own now log run more later) g.events);
  }
