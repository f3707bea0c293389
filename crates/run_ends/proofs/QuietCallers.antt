-- Behind the last calls of the sessions and of the flusher the counters stay, so main reads those of the run's end.
use Rattle.std.proofs.Common.{◌≡◌, ◌≢◌, ◌∙◌, ℕ, zero, eqb, Bool, true, false, true≢false, List, [], ◌∷◌, ◌++◌, length, get_or, cond, append_assoc, inl, inr, refl, sym, ap, arith, eq-eqb}
use Rattle.std.proofs.lemmas.Bool.{eqb-false}
use Rattle.std.proofs.lemmas.List.{append_cancel_left}
use Rattle.std.proofs.lemmas.List.Elements.{filter-append}
use Rattle.cube_journal.specs.Counters.{JournalState, counters_in}
use Rattle.cube_journal.specs.declared.counters.Counters.{Counters}
use Rattle.aosi_desk.specs.declared.cube.CubeFound.TheVariants.{Found, Unknown}
use Rattle.core_cells.specs.declared.desk.DeskAnswer.TheVariants as answer
use Rattle.core_cells.specs.declared.desk.DeskCall.TheVariants as desk
use Rattle.core_events.specs.Cells.{counters_of_run}
use Rattle.core_events.specs.Clients.{ClientState, client_state}
use Rattle.core_events.specs.Events.{Opening, IsSession, flusher, flush_mail, OpenWrite, OpenRead, Commit, AbortEnd, CloseRead, TakeNote, CreateCube, FindCube, CubesFrom, CountersNow, RoundOpen, RoundClose, StoreFailed, ClientCall, OnDesk, OnNames, Post, Fetch, CloseMail, NoChange, CoreEvent, By, At}
use Rattle.core_events.specs.Fitting.{FitsCall}
use Rattle.core_events.specs.Runs.{IsCoreRun}
use Rattle.core_events.proofs.DeskSteps.{client_entry, run-step, state_with_entry}
use Rattle.core_program.specs.ClientCalls.{desk_entry}
use Rattle.core_program.specs.CoreFits.{CoreEntry}
use Rattle.core_settled.proofs.Settled.{run-before}
use Rattle.cube_core.proofs.OwnEntries.{client-high, client-low, own-calls}
use Rattle.cube_core.specs.BoardCells.{IsEntryEvent, server_of}
use Rattle.cube_core.specs.Links.{AreEventsAfter, is_call_of}
use Rattle.turn_board.specs.History.{is_by_caller, of_caller}
use Rattle.linked_shards.specs.CellShards.{CoreShardStands}
use Rattle.shard_events.specs.ShardsInRuns.{FitsShard, ShardAnswerSays}
use Rattle.run_ends.specs.RunEnds.{EndsBefore, a_session, flusher_caller, the_flusher}

-- ---- a call that is neither a session's nor the flusher's

state-kept : (o : Opening) (b : ℕ) (c : ClientCall) (k : ClientState) (s : JournalState) → FitsCall o b c k
    → (IsSession o b → ⊥) → b ≢ flusher o → state_with_entry (client_entry b c) s ≡ s
state-kept o b (OnDesk (OpenWrite statement epoch deps)) k s f none other = absurd (none f.session)
state-kept o b (OnDesk (OpenRead number statement epoch)) k s f none other = absurd (none f.session)
state-kept o b (OnDesk (Commit statement epoch)) k s f none other = absurd (none f.session)
state-kept o b (OnDesk (AbortEnd statement epoch cause)) k s f none other = absurd (none f.session)
state-kept o b (OnDesk (CloseRead number statement)) k s f none other = absurd (none f.session)
state-kept o b (OnDesk (TakeNote note counters)) k s f none other = absurd (none f.session)
state-kept o b (OnDesk (CreateCube statement decl made)) k s f none other = absurd (none f.0.session)
state-kept o b (OnDesk (FindCube statement name (Found place decl))) k s f none other = refl
state-kept o b (OnDesk (FindCube statement name Unknown)) k s f none other = absurd (none f.0)
state-kept o b (OnDesk (CubesFrom place cubes)) k s f none other = refl
state-kept o b (OnDesk (CountersNow counters)) k s f none other = refl
state-kept o b (OnDesk (RoundOpen said)) k s f none other = absurd (other f.flusher)
state-kept o b (OnDesk (RoundClose epoch end)) k s f none other = absurd (other f.flusher)
state-kept o b (OnDesk (StoreFailed failed)) k s f none other = refl
state-kept o b (OnNames call) k s f none other = refl
state-kept o b (Post mail job) k s f none other = refl
state-kept o b (Fetch mail said) k s f none other = refl
state-kept o b (CloseMail mail) k s f none other = refl
state-kept o b NoChange k s f none other = refl

-- The event is no call of theirs.
record IsOfOthers (o : Opening) (x : CoreEvent) : Type 0 where
  sessions : (session : ℕ) → IsSession o session → is_call_of session x ≡ false
  flushers : is_call_of (flusher o) x ≡ false

event-state : (o : Opening) (x : CoreEvent) (es : List CoreEvent) → IsCoreRun o (x ∷ es) → IsOfOthers o x
    → counters_of_run o (x ∷ es) ≡ counters_of_run o es
event-state o (By b call) es run others =
    run-step o b call es
    ∙ state-kept o b call (client_state o b es) (counters_of_run o es) run.1.fits
    (λ session. true≢false (sym (eq-eqb b b refl) ∙ others.sessions b session))
    (λ same. true≢false (sym (eq-eqb b (flusher o) same) ∙ others.flushers))
event-state o (At mail move) es run others = refl

-- ---- entries behind theirs

abbrev OfEntries : Opening → List CoreEvent → List CoreEntry → List CoreEvent → Type 0
OfEntries o start log es = AreEventsAfter (IsEntryEvent FitsShard CoreShardStands ShardAnswerSays o) start log es

all-behind : (o : Opening) (log : List CoreEntry) (start es : List CoreEvent) → OfEntries o start log es
    → (later : List CoreEvent) × (es ≡ later ++ start)
all-behind o [] start es are = ([], sym are)
all-behind o (e ∷ log) start es are =
    let rest = all-behind o log (are.0 ∷ start) es are.2 in
    (rest.0 ++ are.0 ∷ [], rest.1 ∙ sym (append_assoc rest.0 (are.0 ∷ []) start))

run-at : (o : Opening) (log : List CoreEntry) (start es : List CoreEvent) → OfEntries o start log es → IsCoreRun o es
    → IsCoreRun o start
run-at o log start es are run =
    let behind = all-behind o log start es are in
    run-before o behind.0 start (coe 0 1 (i. IsCoreRun o (behind.1 i)) run)

-- The first of these entries is not the caller's, nor any other.
record IsNotBy (caller : ℕ) (e : CoreEntry) (log : List CoreEntry) : Type 0 where
  first : eqb e.caller caller ≡ false
  others : of_caller caller log ≡ []

not-by : (caller : ℕ) (e : CoreEntry) (log : List CoreEntry) → of_caller caller (e ∷ log) ≡ [] → IsNotBy caller e log
not-by caller e log none = at (eqb e.caller caller) refl none
  where
    at : (b : Bool) → eqb e.caller caller ≡ b → cond b (e ∷ of_caller caller log) (of_caller caller log) ≡ []
        → IsNotBy caller e log
    at true is none = absurd (let long = ap length none in omega (arith, long))
    at false is none = record { first = is; others = none }

-- None of these entries is of a session or of the flusher.
abbrev pub NoneOfEnded : Opening → List CoreEntry → Type 0
NoneOfEnded o log = (caller : ℕ) → EndsBefore o.shards o.sessions caller → of_caller caller log ≡ []

others-of : (o : Opening) (e : CoreEntry) (log : List CoreEntry) (x : CoreEvent) (start : List CoreEvent)
    → NoneOfEnded o (e ∷ log) → IsEntryEvent FitsShard CoreShardStands ShardAnswerSays o start e x → IsOfOthers o x
others-of o e log x start none is = record {
  sessions = λ session session_is.
      let low = session_is.last in
      let not = not-by session e log (none session (a_session session session_is.first session_is.last)) in
      ap (λ (n : ℕ). is_call_of n x) (sym (client-low o session low))
      ∙ own-calls FitsShard CoreShardStands ShardAnswerSays o session (inl low) start e x
      (eqb-false e.caller session not.first) is;
  flushers =
      let f = flusher_caller o.shards o.sessions in
      let here : f ≡ server_of o (flush_mail o) = refl in
      let not = not-by f e log (none f the_flusher) in
      ap (λ (n : ℕ). is_call_of n x) (sym (client-high o f here))
      ∙ own-calls FitsShard CoreShardStands ShardAnswerSays o f (inr here) start e x
      (eqb-false e.caller f not.first) is;
}

entry-state : (o : Opening) (e : CoreEntry) (log : List CoreEntry) (x : CoreEvent) (start es : List CoreEvent)
    → NoneOfEnded o (e ∷ log) → IsEntryEvent FitsShard CoreShardStands ShardAnswerSays o start e x
    → OfEntries o (x ∷ start) log es → IsCoreRun o es → counters_of_run o (x ∷ start) ≡ counters_of_run o start
entry-state o e log x start es none is are run =
    event-state o x start (run-at o log (x ∷ start) es are run) (others-of o e log x start none is)

rest-none : (o : Opening) (e : CoreEntry) (log : List CoreEntry) → NoneOfEnded o (e ∷ log) → NoneOfEnded o log
rest-none o e log none caller is = (not-by caller e log (none caller is)).others

pub state-stays : (o : Opening) (log : List CoreEntry) (start es : List CoreEvent) → OfEntries o start log es
    → IsCoreRun o es → NoneOfEnded o log → counters_of_run o es ≡ counters_of_run o start
state-stays o [] start es are run none = ap (counters_of_run o) (sym are)
state-stays o (e ∷ log) start es are run none =
    state-stays o log (are.0 ∷ start) es are.2 run (rest-none o e log none)
    ∙ entry-state o e log are.0 start es none are.1 are.2 run

-- ---- main reads the counters

abbrev pub counters_entry : Counters → CoreEntry
counters_entry counters = desk_entry 0 desk.Counters (answer.Counted counters)

-- They show the run's counters.
abbrev Shows : Opening → List CoreEvent → Counters → Type 0
Shows o es counters = counters ≡ counters_in (counters_of_run o es)

read-now : (o : Opening) (counters : Counters) (e : CoreEntry) (x : CoreEvent) (start : List CoreEvent)
    → IsEntryEvent FitsShard CoreShardStands ShardAnswerSays o start e x → e ≡ counters_entry counters
    → IsCoreRun o (x ∷ start) → Shows o start counters
read-now o counters e x start is same run =
    let h = coe 0 1 (i. IsEntryEvent FitsShard CoreShardStands ShardAnswerSays o start (same i) x) is in
    let r = coe 0 1 (i. IsCoreRun o (h.2 i ∷ start)) run in
    r.1.says

pub read-counters : (o : Opening) (counters : Counters) (log more : List CoreEntry) (start es : List CoreEvent)
    → OfEntries o start log es → IsCoreRun o es → NoneOfEnded o log
    → of_caller 0 log ≡ counters_entry counters ∷ more → Shows o start counters
read-counters o counters [] more start es are run none own = absurd (let long = ap length own in omega (arith, long))
read-counters o counters (e ∷ log) more start es are run none own =
    at (eqb e.caller 0) own
    (read-counters o counters log more (are.0 ∷ start) es are.2 run (rest-none o e log none))
  where
    at : (b : Bool) → cond b (e ∷ of_caller 0 log) (of_caller 0 log) ≡ counters_entry counters ∷ more
        → (of_caller 0 log ≡ counters_entry counters ∷ more → Shows o (are.0 ∷ start) counters)
        → Shows o start counters
    at true own rest =
        read-now o counters e are.0 start are.1 (ap (λ (l : List CoreEntry). get_or l zero e) own)
        (run-at o log (are.0 ∷ start) es are.2 run)
    at false own rest = rest own ∙ ap counters_in (entry-state o e log are.0 start es none are.1 are.2 run)

-- ---- a history that is cut

pub split : (o : Opening) (moment rest : List CoreEntry) (start es : List CoreEvent)
    → OfEntries o start (moment ++ rest) es
    → (before : List CoreEvent) × OfEntries o start moment before × OfEntries o before rest es
split o [] rest start es are = (start, refl, are)
split o (e ∷ moment) rest start es are =
    let later = split o moment rest (are.0 ∷ start) es are.2 in
    (later.0, (are.0, are.1, later.1), later.2)

pub rest-of : (caller : ℕ) (moment rest log own : List CoreEntry) → moment ++ rest ≡ log
    → of_caller caller log ≡ of_caller caller moment ++ own → of_caller caller rest ≡ own
rest-of caller moment rest log own whole is =
    append_cancel_left (of_caller caller moment) (of_caller caller rest) own
    (sym (filter-append (is_by_caller caller) moment rest) ∙ ap (of_caller caller) whole ∙ is)
