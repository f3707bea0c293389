-- What the flusher may reply to a FLUSH.
use Rattle.std.proofs.Common.{◌≡◌, ◌∙◌, ◌≢◌, ℕ, ◌==◌, Bool, true, false, List, [], ◌∷◌, ◌++◌, map, refl, sym, ap, subst, ne_eqb}
use Rattle.std.specs.List.{AllByRecursion}
use Rattle.std.proofs.lemmas.Bool.{or_right}
use Rattle.cube_journal.specs.declared.journal_entry.LostCause.TheVariants.{Disk}
use Rattle.aosi_desk.specs.declared.answer.RoundAnswer.TheVariants.{Target, Nothing}
use Rattle.aosi_desk.specs.declared.answer.RoundEnd.TheVariants.{Safe, Lost}
use Rattle.core_events.specs.Clients.{ClientState, client_after_call, client_state, is_lost_to_disk, state_from_calls, store_lost_after}
use Rattle.core_events.specs.Events.{Opening, flush_mail, flusher, RoundOpen, RoundClose, ClientCall, OnDesk, WorkerMove, Take, NoJob, Work, Reply, CoreEvent, By, At}
use Rattle.core_events.specs.Fitting.{AllSaved, FlushSays, NoRound, RoundProgress, RoundUnderWay, progress_after_call, progress_after_move, round_progress}
use Rattle.core_events.specs.Jobs.{Done, JobOutcome, OutOfMemory, StoreLost}
use Rattle.cube_core.proofs.Snapshots.{same-number}
use Rattle.flusher_rounds.specs.FlushReplies.{IsWithinRound, LeavesRound, TakesNoFlush}

-- By calls.

abbrev IsSomeRound : RoundProgress → Type 0
IsSomeRound NoRound = ⊥
IsSomeRound progress = Unit {0}

pub nothing : (epoch : ℕ) (progress : RoundProgress)
    → progress_after_call (OnDesk (RoundOpen (Nothing epoch))) progress ≡ AllSaved
nothing epoch progress = refl

pub opened : (from epoch : ℕ) (progress : RoundProgress)
    → progress_after_call (OnDesk (RoundOpen (Target from epoch))) progress ≢ NoRound
opened from epoch NoRound same = subst IsSomeRound same tt
opened from epoch RoundUnderWay same = subst IsSomeRound same tt
opened from epoch AllSaved same = subst IsSomeRound same tt

pub saved : (epoch : ℕ) (progress : RoundProgress) → progress ≢ NoRound
    → progress_after_call (OnDesk (RoundClose epoch Safe)) progress ≡ AllSaved
saved epoch NoRound some = absurd (some refl)
saved epoch RoundUnderWay some = refl
saved epoch AllSaved some = refl

pub stays : (c : ClientCall) → progress_after_call c AllSaved ≡ AllSaved
stays (OnDesk (RoundOpen (Nothing epoch))) = refl
stays (OnDesk (RoundOpen (Target from epoch))) = refl
stays (OnDesk (RoundClose epoch Safe)) = refl
stays (OnDesk (RoundClose epoch (Lost cause))) = refl
stays c = refl

left-by-call : (c : ClientCall) (progress : RoundProgress) → IsWithinRound c
    → progress_after_call c progress ≡ progress
left-by-call (OnDesk (RoundOpen answer)) progress none = absurd none
left-by-call (OnDesk (RoundClose epoch end)) progress none = absurd none
left-by-call c progress none = refl

pub within : (o : Opening) (a : ℕ) (calls : List ClientCall) (es : List CoreEvent)
    → AllByRecursion IsWithinRound calls
    → round_progress o (map (λ c. By a c) calls ++ es) ≡ round_progress o es
within o a [] es all = refl
within o a (c ∷ calls) es all =
    left-by-call c (round_progress o (map (λ c. By a c) calls ++ es)) all.0 ∙ within o a calls es all.1

-- By events.

abbrev IsNoTake : WorkerMove → Type 0
IsNoTake (Take client job) = ⊥
IsNoTake move = Unit {0}

left-where : (here : Bool) (move : WorkerMove) (progress : RoundProgress) → IsNoTake move
    → progress_after_move here move progress ≡ progress
left-where true (Take client job) progress none = absurd none
left-where true move progress none = refl
left-where false move progress none = refl

left-by-move : (o : Opening) (mail : ℕ) (move : WorkerMove) (progress : RoundProgress)
    → TakesNoFlush o (At mail move) → progress_after_move (mail == flush_mail o) move progress ≡ progress
left-by-move o mail (Take client job) progress apart =
    ap (λ (here : Bool). progress_after_move here (Take client job) progress) (ne_eqb mail (flush_mail o) apart)
left-by-move o mail (NoJob closed) progress none = left-where (mail == flush_mail o) (NoJob closed) progress tt
left-by-move o mail (Work job answer) progress none = left-where (mail == flush_mail o) (Work job answer) progress tt
left-by-move o mail (Reply to answer) progress none = left-where (mail == flush_mail o) (Reply to answer) progress tt

pub leaves : (o : Opening) (later es : List CoreEvent) → AllByRecursion (LeavesRound o) later
    → round_progress o (later ++ es) ≡ round_progress o es
leaves o [] es all = refl
leaves o (By a c ∷ later) es all =
    left-by-call c (round_progress o (later ++ es)) all.0 ∙ leaves o later es all.1
leaves o (At mail move ∷ later) es all =
    left-by-move o mail move (round_progress o (later ++ es)) all.0 ∙ leaves o later es all.1

stays-saved : (o : Opening) (later es : List CoreEvent) → AllByRecursion (TakesNoFlush o) later
    → round_progress o es ≡ AllSaved → round_progress o (later ++ es) ≡ AllSaved
stays-saved o [] es all is = is
stays-saved o (By a c ∷ later) es all is = ap (progress_after_call c) (stays-saved o later es all.1 is) ∙ stays c
stays-saved o (At mail move ∷ later) es all is =
    left-by-move o mail move (round_progress o (later ++ es)) all.0 ∙ stays-saved o later es all.1 is

-- A store that was lost stays lost.

lost-by-call : (c : ClientCall) (lost : Bool) → lost ≡ true → store_lost_after c lost ≡ true
lost-by-call (OnDesk (RoundClose epoch end)) lost is = or_right (is_lost_to_disk end) lost is
lost-by-call c lost is = is

pub stays-lost : (o : Opening) (a : ℕ) (later calls : List ClientCall)
    → (state_from_calls o a calls).store_lost ≡ true → (state_from_calls o a (later ++ calls)).store_lost ≡ true
stays-lost o a [] calls lost = lost
stays-lost o a (c ∷ later) calls lost =
    lost-by-call c (state_from_calls o a (later ++ calls)).store_lost (stays-lost o a later calls lost)

lost-where : (o : Opening) (own : Bool) (a : ℕ) (c : ClientCall) (k : ClientState) → k.store_lost ≡ true
    → (client_after_call o own a c k).store_lost ≡ true
lost-where o true a c k lost = lost-by-call c k.store_lost lost
lost-where o false a c k lost = lost

lost-in-run : (o : Opening) (a : ℕ) (later es : List CoreEvent) → (client_state o a es).store_lost ≡ true
    → (client_state o a (later ++ es)).store_lost ≡ true
lost-in-run o a [] es lost = lost
lost-in-run o a (By b c ∷ later) es lost =
    lost-where o (b == a) a c (client_state o a (later ++ es)) (lost-in-run o a later es lost)
lost-in-run o a (At mail move ∷ later) es lost = lost-in-run o a later es lost

-- The replies.

pub nothing-to-save : (o : Opening) (epoch : ℕ) (lost : Bool) (later es : List CoreEvent)
    → AllByRecursion (TakesNoFlush o) later
    → FlushSays (round_progress o (later ++ By (flusher o) (OnDesk (RoundOpen (Nothing epoch))) ∷ es)) lost Done
nothing-to-save o epoch lost later es all =
    stays-saved o later (By (flusher o) (OnDesk (RoundOpen (Nothing epoch))) ∷ es) all refl

pub round-saved : (o : Opening) (from epoch : ℕ) (lost : Bool) (later between es : List CoreEvent)
    → AllByRecursion (TakesNoFlush o) later → AllByRecursion (LeavesRound o) between
    → FlushSays (round_progress o (later ++ By (flusher o) (OnDesk (RoundClose epoch Safe)) ∷ (between
    ++ By (flusher o) (OnDesk (RoundOpen (Target from epoch))) ∷ es))) lost Done
round-saved o from epoch lost later between es all none =
    let before = By (flusher o) (OnDesk (RoundOpen (Target from epoch))) ∷ es in
    let some = subst (λ (progress : RoundProgress). progress ≢ NoRound) (sym (leaves o between before none))
    (opened from epoch (round_progress o es)) in
    stays-saved o later (By (flusher o) (OnDesk (RoundClose epoch Safe)) ∷ (between ++ before)) all
    (saved epoch (round_progress o (between ++ before)) some)

pub store-lost : (o : Opening) (epoch : ℕ) (progress : RoundProgress) (later es : List CoreEvent)
    → FlushSays progress (client_state o (flusher o)
    (later ++ By (flusher o) (OnDesk (RoundClose epoch (Lost Disk))) ∷ es)).store_lost StoreLost
store-lost o epoch progress later es =
    lost-in-run o (flusher o) later (By (flusher o) (OnDesk (RoundClose epoch (Lost Disk))) ∷ es)
    (ap (λ (own : Bool). (client_after_call o own (flusher o) (OnDesk (RoundClose epoch (Lost Disk)))
    (client_state o (flusher o) es)).store_lost) (same-number (flusher o)))

pub no-memory : (progress : RoundProgress) (lost : Bool) → FlushSays progress lost OutOfMemory
no-memory progress lost = tt

pub says-later : (o : Opening) (said : JobOutcome) (later es : List CoreEvent) → AllByRecursion (TakesNoFlush o) later
    → FlushSays (round_progress o es) (client_state o (flusher o) es).store_lost said
    → FlushSays (round_progress o (later ++ es)) (client_state o (flusher o) (later ++ es)).store_lost said
says-later o Done later es all says = stays-saved o later es all says
says-later o StoreLost later es all says = lost-in-run o (flusher o) later es says
says-later o OutOfMemory later es all says = tt
says-later o said later es all says = absurd says
