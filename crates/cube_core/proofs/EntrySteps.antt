-- Each entry of the board, against the event that it is.
use Rattle.std.proofs.Common.{◌≡◌, ◌≢◌, ◌∙◌, ℕ, ◌+◌, ◌%◌, ◌==◌, Bool, false, List, ◌∷◌, refl, sym, ap, arith, ne_eqb}
use Rattle.turn_board.specs.declared.history.Event.{Event}
use Rattle.core_cells.specs.DeskCalls.{CanCallDesk, DeskStep}
use Rattle.core_cells.specs.declared.desk.DeskAnswer.{DeskAnswer}
use Rattle.aosi_desk.specs.declared.answer.RoundAnswer.TheVariants.{Nothing}
use Rattle.core_cells.specs.declared.desk.DeskAnswer.TheVariants as said
use Rattle.core_cells.specs.declared.desk.DeskCall.{DeskCall}
use Rattle.core_cells.specs.declared.desk.DeskCall.TheVariants as round
use Rattle.core_cells.specs.declared.names.NamesAnswer.{NamesAnswer}
use Rattle.core_cells.specs.declared.names.NamesCall.{NamesCall}
use Rattle.cube_core.specs.CoreSteps.{CanTake, CoreStep}
use Rattle.cube_core.specs.declared.cell.CoreAnswer.{CoreAnswer}
use Rattle.cube_core.specs.declared.cell.CoreAnswer.TheVariants as answer
use Rattle.cube_core.specs.declared.cell.CoreCall.{CoreCall}
use Rattle.cube_core.specs.declared.cell.CoreCall.TheVariants as call
use Rattle.cube_core.specs.declared.cell.CoreCell.{CoreCell}
use Rattle.cube_core.specs.declared.cell.CoreCell.TheVariants as cell
use Rattle.cube_core.specs.declared.shard.ShardAnswer.{ShardAnswer}
use Rattle.cube_core.specs.declared.shard.ShardCall.{ShardCall}
use Rattle.core_events.specs.Cells.{counters_of_run, desk_of, brick_after_move, shard_view_of}
use Rattle.core_events.specs.Clients.{client_state}
use Rattle.core_events.specs.Events.{Opening, Work, CoreEvent, By, At}
use Rattle.core_events.specs.Jobs.{CoreJob, JobOutcome}
use Rattle.core_events.specs.Runs.{IsCoreRun}
use Rattle.core_events.specs.ShardView.{ShardView}
use Rattle.cube_core.specs.DeskEvents.{desk_event, FitsDeskCall}
use Rattle.cube_core.specs.MailEvents.{FitsMailCall, IsMailCellOf}
use Rattle.cube_core.specs.NamesEvents.{names_event, AreNamesOf}
use Rattle.names_dict.specs.Dictionaries.{Dictionary}
use Rattle.mail_cell.specs.State.{MailState}
use Rattle.cube_core.specs.declared.jobs.Job.{Job}
use Rattle.cube_core.specs.declared.jobs.JobAnswer.{JobAnswer}
use Rattle.cube_core.proofs.DeskLinks as desk
use Rattle.cube_core.proofs.MailLinks as mail
use Rattle.cube_core.proofs.NamesLinks as names
use Rattle.cube_core.specs.Links.{IsCallLinked}
use Rattle.cube_core.specs.BoardCells.{client_of, call_job, job_asked, PostSuits, AnswerSays, cell_of_shard, cell_of_mail, IsShardLinked, FitsBoardEntry, IsEntryEvent, StandsInCell, IsByItself, IsClientCaller, IsRoundsOwn}
use Rattle.cube_core.proofs.OwnEntries.{flusher-caller}
use Rattle.cube_core.proofs.JobsInRuns.{call-in-run, lse-goes-on}
use Rattle.cube_core.proofs.WaitingJobs.{waiting-suit}
use Rattle.cube_core.proofs.OffCells.{IsOffOthers, desk-off, names-off, mail-off}

-- Who opens or closes a round is the flusher.
rounds-own : (o : Opening) (caller : ℕ) (c : DeskCall) (es : List CoreEvent) → IsClientCaller o caller
    → FitsDeskCall o (client_of o caller) c (client_state o (client_of o caller) es) → IsRoundsOwn o caller c
rounds-own o caller round.RoundOpen es act may = flusher-caller o caller act (may.event (said.Round (Nothing 0))).flusher
rounds-own o caller (round.RoundClose epoch end) es act may = flusher-caller o caller act (may.event said.Done).flusher
rounds-own o caller c es act may = tt

same-number : (a b : ℕ) → 2 + a ≡ 2 + b → a ≡ b
same-number a b e = omega (arith, e)

module _ {S : Type 0} (can_shard : S → ShardCall → Type 0) (step_shard : S → ShardCall → ShardAnswer → S → Type 0)
    (fits : Opening → ℕ → ShardCall → Type 0) (stands : Opening → ℕ → ℕ → S → ShardView → Type 0)
    (says : CoreJob → ShardAnswer → JobOutcome → Type 0) (link : IsShardLinked can_shard step_shard fits stands says) where
  abbrev In : Opening → ℕ → CoreCell S → List CoreEvent → Type 0
  In o k x es = StandsInCell fits stands says o k x es

  -- The cell can take a call that fits.
  pub can : (o : Opening) (es : List CoreEvent) (caller k : ℕ) (c : CoreCall) (x : CoreCell S) → IsCoreRun o es
      → FitsBoardEntry fits stands says o es caller k c → In o k x es → CanTake can_shard x c
  can o es caller k (call.Desk c) (cell.Desk d alloc) run may stand =
      coe 1 0 (i. CanCallDesk (stand.1 i) c) (desk.can o (client_of o caller) c es run may.2)
  can o es caller k (call.Desk c) (cell.Names d) run may stand = absurd (omega (arith, may.0, stand.0))
  can o es caller k (call.Desk c) (cell.Shard s) run may stand = absurd (omega (arith, may.0, stand.1))
  can o es caller k (call.Desk c) (cell.Mail m) run may stand = absurd (omega (arith, may.0, stand.1))
  can o es caller k (call.Names c) (cell.Names d) run may stand = names.can o (client_of o caller) c es d run may.2 stand.1
  can o es caller k (call.Names c) (cell.Desk d alloc) run may stand = absurd (omega (arith, may.0, stand.0))
  can o es caller k (call.Names c) (cell.Shard s) run may stand = absurd (omega (arith, may.0, stand.1))
  can o es caller k (call.Names c) (cell.Mail m) run may stand = absurd (omega (arith, may.0, stand.1))
  can o es caller k (call.Shard c) (cell.Shard s) run may stand =
      let same : may.number ≡ stand.0 = same-number may.number stand.0 (sym may.cell ∙ stand.1) in
      let low = (counters_of_run o es).lse in
      link.takes o may.number low s (shard_view_of o es) c (coe 1 0 (i. stands o (same i) low s (shard_view_of o es)) stand.3) may.takes
  can o es caller k (call.Shard c) (cell.Desk d alloc) run may stand = let at = may.cell in absurd (omega (arith, at, stand.0))
  can o es caller k (call.Shard c) (cell.Names d) run may stand = let at = may.cell in absurd (omega (arith, at, stand.0))
  can o es caller k (call.Shard c) (cell.Mail m) run may stand =
      let at = may.cell in let there = may.there in absurd (omega (arith, at, there, stand.1))
  can o es caller k (call.Mail c) (cell.Mail m) run may stand =
      let at = may.cell in
      let same : may.number ≡ stand.0 = omega (arith, at, stand.1) in
      mail.can job_asked (AnswerSays says) o stand.0 c es m run
      (coe 0 1 (i. FitsMailCall job_asked (AnswerSays says) o es (same i) c) may.fits_mail) stand.2
  can o es caller k (call.Mail c) (cell.Desk d alloc) run may stand = let at = may.cell in absurd (omega (arith, at, stand.0))
  can o es caller k (call.Mail c) (cell.Names d) run may stand =
      let at = may.cell in absurd (omega (arith, at, stand.0))
  can o es caller k (call.Mail c) (cell.Shard s) run may stand =
      let at = may.cell in absurd (omega (arith, at, stand.1, stand.2))

  -- What an event on a cell leaves: all other cells.
  record Leaves (o : Opening) (k : ℕ) (event : CoreEvent) (es : List CoreEvent) : Type 0 where
    left_desk : k ≢ 0 → desk_of o (event ∷ es) ≡ desk_of o es
    left_names : k ≢ 1 → (d : List (List Dictionary)) → AreNamesOf o es d → AreNamesOf o (event ∷ es) d
    left_view : (number : ℕ) → k ≢ cell_of_shard number → (cube brick : ℕ) → brick % o.shards ≡ number
        → shard_view_of o (event ∷ es) cube brick ≡ shard_view_of o es cube brick
    left_mails : (number : ℕ) → k ≢ cell_of_mail o number → (m : MailState Job JobAnswer)
        → IsMailCellOf job_asked (AnswerSays says) o number es m → IsMailCellOf job_asked (AnswerSays says) o number (event ∷ es) m

  all-others : (o : Opening) (k : ℕ) (event : CoreEvent) (es : List CoreEvent) → IsCoreRun o (event ∷ es) → Leaves o k event es
      → (i : ℕ) (z : CoreCell S) → k ≢ i → In o i z es → In o i z (event ∷ es)
  all-others o k event es run l i (cell.Desk d alloc) other stand = (stand.0, stand.1 ∙ sym (l.left_desk (λ e. other (e ∙ sym stand.0))))
  all-others o k event es run l i (cell.Names d) other stand = (stand.0, l.left_names (λ e. other (e ∙ sym stand.0)) d stand.1)
  all-others o k event es run l i (cell.Shard s) other stand = (
    stand.0,
    stand.1,
    stand.2,
    link.alike o stand.0 (counters_of_run o es).lse (counters_of_run o (event ∷ es)).lse s (shard_view_of o es) (shard_view_of o (event ∷ es))
        (lse-goes-on o event es run) (l.left_view stand.0 (λ e. other (e ∙ sym stand.1))) stand.3,
  )
  all-others o k event es run l i (cell.Mail m) other stand =
      (stand.0, stand.1, l.left_mails stand.0 (λ e. other (e ∙ sym stand.1)) m stand.2, stand.3)

  desk-leaves : (o : Opening) (k a : ℕ) (c : DeskCall) (x : DeskAnswer) (es : List CoreEvent) → k ≡ 0
      → Leaves o k (By a (desk_event a (client_state o a es) c x)) es
  desk-leaves o k a c x es at =
      let event = By a (desk_event a (client_state o a es) c x) in
      let off = desk-off a (client_state o a es) c x in
      record {
        left_desk = λ other. absurd (other at);
        left_names = λ other d stand. names.others o event es d off.off_names stand;
        left_view = λ number other cube brick own. refl;
        left_mails = λ number other m stand. mail.others job_asked (AnswerSays says) o number event es m (off.off_mails number) stand;
      }

  names-leaves : (o : Opening) (k a : ℕ) (c : NamesCall) (x : NamesAnswer) (es : List CoreEvent) → k ≡ 1
      → Leaves o k (By a (names_event c x)) es
  names-leaves o k a c x es at =
      let event = By a (names_event c x) in
      let off = names-off a c x in
      record {
        left_desk = λ other. desk.others o event es off.off_desk;
        left_names = λ other d stand. absurd (other at);
        left_view = λ number other cube brick own. refl;
        left_mails = λ number other m stand. mail.others job_asked (AnswerSays says) o number event es m (off.off_mails number) stand;
      }

  elsewhere : (o : Opening) (here : Bool) (cube brick : ℕ) (job : CoreJob) (outcome : JobOutcome) (view : ShardView) → here ≡ false
      → brick_after_move o here cube brick (Work job outcome) (view cube brick) ≡ view cube brick
  elsewhere o here cube brick job outcome view is = λ i. brick_after_move o (is i) cube brick (Work job outcome) (view cube brick)

  work-leaves : (o : Opening) (k number : ℕ) (job : CoreJob) (outcome : JobOutcome) (es : List CoreEvent) → k ≡ cell_of_shard number
      → Leaves o k (At number (Work job outcome)) es
  work-leaves o k number job outcome es at = record {
    left_desk = λ other. refl;
    left_names = λ other d stand. stand;
    left_view = λ n other cube brick own. elsewhere o (number == brick % o.shards) cube brick job outcome (shard_view_of o es)
        (ne_eqb number (brick % o.shards) (λ same. other (at ∙ ap cell_of_shard (same ∙ own))));
    left_mails = λ n other m stand. mail.others job_asked (AnswerSays says) o n (At number (Work job outcome)) es m refl stand;
  }

  mail-leaves : (o : Opening) (k number : ℕ) (event : CoreEvent) (es : List CoreEvent) → k ≡ cell_of_mail o number
      → IsOffOthers o number es event → Leaves o k event es
  mail-leaves o k number event es at off = record {
    left_desk = λ other. desk.others o event es off.off_desk;
    left_names = λ other d stand. names.others o event es d off.off_names stand;
    left_view = λ n other cube brick own. off.same_view cube brick;
    left_mails = λ n other m stand. mail.others job_asked (AnswerSays says) o n event es m
        (off.off_mails n (λ same. other (at ∙ ap (cell_of_mail o) same))) stand;
  }

  step-at : (o : Opening) (es : List CoreEvent) (caller k : ℕ) (x : CoreCell S) (c : CoreCall) (a : CoreAnswer) (y : CoreCell S) → IsCoreRun o es
      → FitsBoardEntry fits stands says o es caller k c → In o k x es → CoreStep step_shard x c a y
      → IsCallLinked (IsEntryEvent fits stands says o) (StandsInCell fits stands says o) o es
      (record { caller = caller; cell = k; call = c; answer = a }) y
  step-at o es caller k (cell.Desk d alloc) (call.Desk c) (answer.Desk a) (cell.Desk new same) run may stand step =
      let client = client_of o caller in
      let next = desk.steps o client c a es new run may.2 (coe 0 1 (i. DeskStep (stand.1 i) c a new) step) in record {
        next = By client (desk_event client (client_state o client es) c a);
        is = (may.1, rounds-own o caller c es may.1 may.2, refl);
        run = next.0;
        own = (may.0, next.1);
        others = λ i z other is. all-others o k (By client (desk_event client (client_state o client es) c a)) es next.0
            (desk-leaves o k client c a es may.0) i z other is;
      }
  step-at o es caller k (cell.Names d) (call.Names c) (answer.Names a) (cell.Names new) run may stand step =
      let client = client_of o caller in
      let next = names.steps o client c a es d new run may.2 stand.1 step in record {
        next = By client (names_event c a);
        is = (may.1, refl);
        run = next.0;
        own = (may.0, next.1);
        others = λ i z other is. all-others o k (By client (names_event c a)) es next.0 (names-leaves o k client c a es may.0) i z other is;
      }
  step-at o es caller k (cell.Shard s) (call.Shard c) (answer.Shard a) (cell.Shard new) run may stand step =
      let number = may.number in
      let same : number ≡ stand.0 = same-number number stand.0 (sym may.cell ∙ stand.1) in
      let low = (counters_of_run o es).lse in
      let next =
      link.steps o number low s new (shard_view_of o es) c a (coe 1 0 (i. stands o (same i) low s (shard_view_of o es)) stand.3) may.takes
      (call-in-run o es number c run may.move) step
      in
      let there = may.there in
      let run_on : IsCoreRun o (At number (Work (call_job c) next.outcome) ∷ es) =
      (run, record { there = omega (arith, there); fits = may.move next.outcome; says = next.answers })
      in record {
        next = At number (Work (call_job c) next.outcome);
        is = record { number = number; cell = may.cell; own = may.own; outcome = next.outcome; said = next.said; is = refl };
        run = run_on;
        own = (number, may.cell, may.there, next.after);
        others = λ i z other is. all-others o k (At number (Work (call_job c) next.outcome)) es run_on
            (work-leaves o k number (call_job c) next.outcome es may.cell) i z other is;
      }
  step-at o es caller k (cell.Mail m) (call.Mail c) (answer.Mail a) (cell.Mail new) run may stand step =
      let at = may.cell in
      let same : may.number ≡ stand.0 = omega (arith, at, stand.1) in
      let next =
      mail.steps job_asked (AnswerSays says) o stand.0 c a es m new run
      (coe 0 1 (i. FitsMailCall job_asked (AnswerSays says) o es (same i) c) may.fits_mail) stand.2 step
      in
      let jobs =
      waiting-suit fits o stand.0 c a m new step (coe 0 1 (i. PostSuits fits o (same i) c) may.suits) stand.3
      in record {
        next = next.event;
        is = (stand.0, stand.1, coe 0 1 (i. IsByItself o caller (same i) c) may.own, next.of, jobs.1);
        run = next.run;
        own = (stand.0, stand.1, next.stands, jobs.0);
        others = λ i z other is. all-others o k next.event es next.run
            (mail-leaves o k stand.0 next.event es stand.1
            (mail-off job_asked (AnswerSays says) o stand.0 es c a next.event next.of)) i z other is;
      }
  step-at o es caller k x c a y run may stand step = absurd step

  pub steps : (o : Opening) (es : List CoreEvent) (e : Event CoreCall CoreAnswer) (x y : CoreCell S) → IsCoreRun o es
      → FitsBoardEntry fits stands says o es e.caller e.cell e.call → In o e.cell x es → CoreStep step_shard x e.call e.answer y
      → IsCallLinked (IsEntryEvent fits stands says o) (StandsInCell fits stands says o) o es e y
  steps o es e x y run may stand step = step-at o es e.caller e.cell x e.call e.answer y run may stand step
