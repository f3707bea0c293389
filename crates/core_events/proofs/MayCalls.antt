-- What the desk asks of whoever calls it holds of each call that fits.
use Rattle.std.proofs.Common.{◌≡◌, ◌∙◌, ℕ, List, ◌∷◌, Some, None, inl, refl}
use Rattle.cube_language.specs.declared.decl.Decl.{Decl}
use Rattle.cube_journal.specs.declared.journal_entry.AbortCause.{AbortCause}
use Rattle.cube_journal.specs.Counters.{held_by}
use Rattle.cube_journal.specs.Legal.{HoldsWriter, HoldsReader, MayAskRound}
use Rattle.aosi_desk.specs.declared.answer.RoundAnswer.{RoundAnswer}
use Rattle.aosi_desk.specs.declared.answer.RoundAnswer.TheVariants.{Target, Nothing}
use Rattle.aosi_desk.specs.declared.answer.RoundEnd.{RoundEnd}
use Rattle.aosi_desk.specs.declared.answer.RoundEnd.TheVariants.{Safe, Lost}
use Rattle.aosi_desk.specs.declared.cube.CubeAnswer.{CubeAnswer}
use Rattle.core_events.specs.Cells.{counters_of_run}
use Rattle.core_events.specs.Events.{Opening, OnDesk, OpenWrite, OpenRead, Commit, AbortEnd, CloseRead, CreateCube, RoundOpen, RoundClose, CoreEvent, By}
use Rattle.core_events.specs.Runs.{IsCoreRun}
use Rattle.core_events.proofs.Agreement.{agree}
use Rattle.core_events.proofs.InOrder.{run-allowed}

pub may-write : (o : Opening) (a statement epoch : ℕ) (deps : List ℕ) (es : List CoreEvent)
    → IsCoreRun o (By a (OnDesk (OpenWrite statement epoch deps)) ∷ es) → held_by (counters_of_run o es).snapshots a ≡ None
may-write o a statement epoch deps es run = (run-allowed o a (OnDesk (OpenWrite statement epoch deps)) es run).free

pub may-read : (o : Opening) (a number statement epoch : ℕ) (es : List CoreEvent)
    → IsCoreRun o (By a (OnDesk (OpenRead number statement epoch)) ∷ es)
    → held_by (counters_of_run o es).snapshots number ≡ None
may-read o a number statement epoch es run = (run-allowed o a (OnDesk (OpenRead number statement epoch)) es run).free

pub may-commit : (o : Opening) (a statement epoch : ℕ) (es : List CoreEvent)
    → IsCoreRun o (By a (OnDesk (Commit statement epoch)) ∷ es) → HoldsWriter (counters_of_run o es) a epoch
may-commit o a statement epoch es run = run-allowed o a (OnDesk (Commit statement epoch)) es run

pub may-abort : (o : Opening) (a statement epoch : ℕ) (cause : AbortCause) (es : List CoreEvent)
    → IsCoreRun o (By a (OnDesk (AbortEnd statement epoch cause)) ∷ es) → HoldsWriter (counters_of_run o es) a epoch
may-abort o a statement epoch cause es run = run-allowed o a (OnDesk (AbortEnd statement epoch cause)) es run

pub may-close : (o : Opening) (a number statement : ℕ) (es : List CoreEvent)
    → IsCoreRun o (By a (OnDesk (CloseRead number statement)) ∷ es) → HoldsReader (counters_of_run o es) number
may-close o a number statement es run = run-allowed o a (OnDesk (CloseRead number statement)) es run

pub may-create : (o : Opening) (a statement : ℕ) (decl : Decl) (answer : CubeAnswer) (es : List CoreEvent)
    → IsCoreRun o (By a (OnDesk (CreateCube statement decl answer)) ∷ es)
    → held_by (counters_of_run o es).snapshots a ≡ None
may-create o a statement decl answer es run =
    agree o es run.0 a run.1.fits.0.session a (inl refl) ∙ run.1.fits.0.free

pub may-round : (o : Opening) (a : ℕ) (answer : RoundAnswer) (es : List CoreEvent)
    → IsCoreRun o (By a (OnDesk (RoundOpen answer)) ∷ es) → MayAskRound (counters_of_run o es)
may-round o a (Target from epoch) es run = (run-allowed o a (OnDesk (RoundOpen (Target from epoch))) es run).ask
may-round o a (Nothing epoch) es run = (run-allowed o a (OnDesk (RoundOpen (Nothing epoch))) es run).ask

pub may-end : (o : Opening) (a epoch : ℕ) (end : RoundEnd) (es : List CoreEvent)
    → IsCoreRun o (By a (OnDesk (RoundClose epoch end)) ∷ es) → (counters_of_run o es).round ≡ Some epoch
may-end o a epoch Safe es run = run-allowed o a (OnDesk (RoundClose epoch Safe)) es run
may-end o a epoch (Lost cause) es run = run-allowed o a (OnDesk (RoundClose epoch (Lost cause))) es run
