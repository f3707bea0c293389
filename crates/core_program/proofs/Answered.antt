-- Each call on a cell has an answer that it may have, and so has each call of a history.
use Rattle.std.proofs.Common.{◌≡◌, ◌∙◌, ℕ, ◌<◌, eqb, Bool, true, false, cond, List, [], ◌∷◌, ◌++◌, length, filter, refl, sym, ap, subst}
use Rattle.std.proofs.lemmas.Bool.{eqb-false}
use Rattle.std.specs.List.{AllByRecursion}
use Rattle.cube_values.specs.declared.snapshot.Snapshot.{Snapshot}
use Rattle.aosi_desk.specs.Desks.{DeskState}
use Rattle.board_callers.specs.Callers.{HasHistoryOf}
use Rattle.core_program.specs.AnswersOfCalls.{DeskAnswers, NamesAnswers, MailAnswers, CoreAnswers, HaveAnswers}
use Rattle.core_cells.specs.DeskCalls.{DeskStep}
use Rattle.core_cells.specs.MailCalls.{MailStep}
use Rattle.core_cells.specs.NamesCalls.{NamesStep}
use Rattle.core_cells.specs.declared.desk.DeskAnswer.{DeskAnswer}
use Rattle.core_cells.specs.declared.desk.DeskAnswer.TheVariants as said
use Rattle.core_cells.specs.declared.desk.DeskCall.{DeskCall}
use Rattle.core_cells.specs.declared.desk.DeskCall.TheVariants as desk
use Rattle.core_cells.specs.declared.mail.MailAnswer.{MailAnswer}
use Rattle.core_cells.specs.declared.mail.MailAnswer.TheVariants as got
use Rattle.core_cells.specs.declared.mail.MailCall.{MailCall}
use Rattle.core_cells.specs.declared.mail.MailCall.TheVariants as mail
use Rattle.core_cells.specs.declared.names.NamesAnswer.{NamesAnswer}
use Rattle.core_cells.specs.declared.names.NamesAnswer.TheVariants as told
use Rattle.core_cells.specs.declared.names.NamesCall.{NamesCall}
use Rattle.core_cells.specs.declared.names.NamesCall.TheVariants as names
use Rattle.core_events.specs.Clients.{reader_up_to, writer_at}
use Rattle.core_events.specs.Events.{Opening}
use Rattle.core_events.specs.Jobs.{CoreJob, JobOutcome}
use Rattle.core_events.specs.ShardView.{ShardView}
use Rattle.core_program.specs.CoreFits.{CoreEntry, FitsOwnCalls}
use Rattle.cube_core.specs.CoreSteps.{CoreStep}
use Rattle.cube_core.specs.declared.cell.CoreAnswer.{CoreAnswer}
use Rattle.cube_core.specs.declared.cell.CoreAnswer.TheVariants as answer
use Rattle.cube_core.specs.declared.cell.CoreCall.{CoreCall}
use Rattle.cube_core.specs.declared.cell.CoreCall.TheVariants as call
use Rattle.cube_core.specs.declared.cell.CoreCell.{CoreCell}
use Rattle.cube_core.specs.declared.cell.CoreCell.TheVariants as cell
use Rattle.cube_core.specs.declared.jobs.Job.{Job}
use Rattle.cube_core.specs.declared.jobs.JobAnswer.{JobAnswer}
use Rattle.cube_core.specs.declared.shard.ShardAnswer.{ShardAnswer}
use Rattle.cube_core.specs.declared.shard.ShardCall.{ShardCall}
use Rattle.mail_cell.specs.State.{MailState}
use Rattle.names_dict.specs.Dictionaries.{Dictionary}
use Rattle.turn_board.proofs.Places.{there as place-there}
use Rattle.turn_board.specs.History.{of_cell, is_by_caller, LeadsTo, AllFitAfter}

desk-answers : (d : DeskState) (c : DeskCall) (a : DeskAnswer) (new : DeskState) → DeskStep d c a new → DeskAnswers c a
desk-answers d (desk.OpenWrite session statement) (said.Opened snapshot) new step =
    step.0 ∙ ap (λ (s : Snapshot). writer_at s.epoch s.deps) (sym step.0)
desk-answers d (desk.OpenWrite session statement) said.NoMemory new step = tt
desk-answers d (desk.OpenRead number statement) (said.Opened snapshot) new step =
    step.0 ∙ ap (λ (s : Snapshot). reader_up_to s.epoch) (sym step.0)
desk-answers d (desk.OpenRead number statement) said.NoMemory new step = tt
desk-answers d (desk.Commit session statement) said.Done new step = tt
desk-answers d (desk.AbortEnd session statement cause) said.Done new step = tt
desk-answers d (desk.CloseRead number statement) said.Done new step = tt
desk-answers d (desk.Note note) (said.Counted shown) new step = tt
desk-answers d (desk.Note note) said.NoMemory new step = tt
desk-answers d (desk.CreateCube session statement decl) (said.Created made) new step = tt
desk-answers d (desk.CreateCube session statement decl) said.NoMemory new step = tt
desk-answers d (desk.FindCube session statement name) (said.Found found) new step = tt
desk-answers d (desk.FindCube session statement name) said.NoMemory new step = tt
desk-answers d (desk.CubesFrom place) (said.Cubes cubes) new step = tt
desk-answers d (desk.CubesFrom place) said.NoMemory new step = tt
desk-answers d desk.RoundOpen (said.Round asked) new step = tt
desk-answers d desk.RoundOpen said.NoMemory new step = tt
desk-answers d (desk.RoundClose epoch end) said.Done new step = tt
desk-answers d desk.Counters (said.Counted shown) new step = tt
desk-answers d desk.StoreFailed (said.Failed failed) new step = tt
desk-answers d c a new step = absurd step

names-answers : (d : List (List Dictionary)) (c : NamesCall) (a : NamesAnswer) (new : List (List Dictionary)) → NamesStep d c a new
    → NamesAnswers c a
names-answers d (names.Encode cube dim shape name) (told.Coded code) new step = tt
names-answers d (names.Encode cube dim shape name) told.NoMemory new step = tt
names-answers d (names.Find cube dim name) (told.Found number) new step = tt
names-answers d (names.CopyFrom cube dim from) (told.Copied copied) new step = tt
names-answers d (names.CopyFrom cube dim from) told.NoMemory new step = tt
names-answers d c a new step = absurd step

mail-answers : (m : MailState Job JobAnswer) (c : MailCall Job JobAnswer) (a : MailAnswer Job JobAnswer) (new : MailState Job JobAnswer)
    → MailStep m c a new → MailAnswers c a
mail-answers m (mail.Post client job) got.Done new step = tt
mail-answers m mail.Take (got.Taken got) new step = tt
mail-answers m (mail.Reply client said) got.Done new step = tt
mail-answers m (mail.Fetch client) (got.Fetched got) new step = tt
mail-answers m mail.Close got.Done new step = tt
mail-answers m c a new step = absurd step

abbrev Answered : CoreEntry → Type 0
Answered e = CoreAnswers e.call e.answer

-- The last of some calls.
pub last-answered : (own : List CoreEntry) (e : CoreEntry) → HaveAnswers (own ++ e ∷ []) → CoreAnswers e.call e.answer
last-answered [] e all = all.0
last-answered (f ∷ own) e all = last-answered own e all.1

-- Those of one caller among all.
kept-answered : (p : CoreEntry → Bool) (log : List CoreEntry) → AllByRecursion Answered log → AllByRecursion Answered (filter p log)
kept-answered p [] all = tt
kept-answered p (e ∷ log) all = at (p e) all.0 (kept-answered p log all.1)
  where
    at : (b : Bool) → Answered e → AllByRecursion Answered (filter p log) → AllByRecursion Answered (cond b (e ∷ filter p log) (filter p log))
    at true first rest = (first, rest)
    at false first rest = rest

module _ {S : Type 0} (step_shard : S → ShardCall → ShardAnswer → S → Type 0) where
  step-answers : (x : CoreCell S) (c : CoreCall) (a : CoreAnswer) (y : CoreCell S) → CoreStep step_shard x c a y → CoreAnswers c a
  step-answers (cell.Desk d alloc) (call.Desk c) (answer.Desk a) (cell.Desk new same) step = desk-answers d c a new step
  step-answers (cell.Names d) (call.Names c) (answer.Names a) (cell.Names new) step = names-answers d c a new step
  step-answers (cell.Shard s) (call.Shard c) (answer.Shard a) (cell.Shard new) step = tt
  step-answers (cell.Mail m) (call.Mail c) (answer.Mail a) (cell.Mail new) step = mail-answers m c a new step
  step-answers x c a y step = absurd step

  -- The calls on one cell.
  abbrev AnsweredAt : ℕ → List CoreEntry → Type 0
  AnsweredAt k log = AllByRecursion (λ e. e.cell ≡ k → CoreAnswers e.call e.answer) log

  one-led : (b : Bool) (k : ℕ) (x y : CoreCell S) (e : CoreEntry) (log : List CoreEntry) → eqb e.cell k ≡ b
      → LeadsTo (CoreStep step_shard) x (cond b (e ∷ of_cell k log) (of_cell k log)) y
      → ((z : CoreCell S) → LeadsTo (CoreStep step_shard) z (of_cell k log) y → AnsweredAt k log) → AnsweredAt k (e ∷ log)
  one-led true k x y e log is leads rest = ((λ _. step-answers x e.call e.answer leads.0 leads.1), rest leads.0 leads.2)
  one-led false k x y e log is leads rest = ((λ at. absurd (eqb-false e.cell k is at)), rest x leads)

  led : (k : ℕ) (x y : CoreCell S) (log : List CoreEntry) → LeadsTo (CoreStep step_shard) x (of_cell k log) y → AnsweredAt k log
  led k x y [] leads = tt
  led k x y (e ∷ log) leads = one-led (eqb e.cell k) k x y e log refl leads (λ z more. led k z y log more)

  module _ (fits : Opening → ℕ → ShardCall → Type 0) (stands : Opening → ℕ → ℕ → S → ShardView → Type 0)
      (says : CoreJob → ShardAnswer → JobOutcome → Type 0) (cells : List (CoreCell S)) where
    in-range : (earlier log : List CoreEntry) → AllFitAfter (FitsOwnCalls fits stands says) cells earlier log
        → AllByRecursion (λ (e : CoreEntry). e.cell < length cells) log
    in-range earlier [] all = tt
    in-range earlier (e ∷ log) all = (all.0.there, in-range (earlier ++ e ∷ []) log all.1)

    by-cells : (log : List CoreEntry) → AllByRecursion (λ (e : CoreEntry). e.cell < length cells) log
        → ((k : ℕ) → k < length cells → AnsweredAt k log) → AllByRecursion Answered log
    by-cells [] range each = tt
    by-cells (e ∷ log) range each = ((each e.cell range.0).0 refl, by-cells log range.1 (λ k below. (each k below).1))

    pub all-answers : (caller : ℕ) (own : List CoreEntry)
        → HasHistoryOf (CoreStep step_shard) (FitsOwnCalls fits stands says) cells caller own → HaveAnswers own
    all-answers caller own history =
        subst (λ (l : List CoreEntry). HaveAnswers l) history.mine
        (kept-answered (is_by_caller caller) history.log
        (by-cells history.log (in-range [] history.log history.run.fitting)
        (λ k below.
        let x = place-there cells k below in let to = history.run.leads k x.0 x.1 in led k x.0 to.0 history.log to.1)))
