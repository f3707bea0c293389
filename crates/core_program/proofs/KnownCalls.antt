-- A client's own calls tell it which calls fit, and each call more tells it more.
use Rattle.std.proofs.Common.{◌≡◌, ◌∙◌, ℕ, ◌<◌, ◌≤◌, ◌==◌, Bool, true, false, List, [], ◌∷◌, ◌++◌, append_assoc, append-nil, length, Option, Some, inl, inr, refl, sym, ap, subst, arith, eq-eqb, if◌then◌else◌}
use Rattle.mail_cell.specs.declared.answer.Fetched.TheVariants.{Got, NotYet}
use Rattle.turn_board.specs.declared.history.Event.{Event}
use Rattle.turn_board.specs.History.{event, of_caller}
use Rattle.cube_core.specs.Links.{EventOf, AreEventsAfter, AreEventsOf, HangsOn, HasOwnEvents, IsToldByCaller, MakesCalls}
use Rattle.cube_core.proofs.OwnParts.{own-part, told-calls}
use Rattle.cube_core.specs.BoardCells.{FlusherPart, IsClientCaller, IsEntryEvent, client_of, flusher_part, job_asked}
use Rattle.cube_core.proofs.OwnEntries.{client-high, client-low, own-calls}
use Rattle.cube_core.proofs.OwnKnowledge.{clients-hang, flusher-hangs, flusher-told}
use Rattle.core_cells.specs.declared.desk.DeskAnswer.{DeskAnswer}
use Rattle.core_cells.specs.declared.desk.DeskCall.{DeskCall}
use Rattle.core_cells.specs.declared.mail.MailAnswer.TheVariants as got
use Rattle.core_cells.specs.declared.mail.MailCall.TheVariants as mail
use Rattle.core_cells.specs.declared.names.NamesAnswer.{NamesAnswer}
use Rattle.core_cells.specs.declared.names.NamesCall.{NamesCall}
use Rattle.core_program.specs.Knowing.{Claim, GoOnBy, GoOnByFetch, GoOnFrom, IsClientOf, IsLaterRun, IsMailAt, Knows, MayCallDesk, MayCallNames, MayFetchFrom, MayPostJob, ServesClient, last_posted}
use Rattle.core_events.proofs.Knowledge.{known-by-calls}
use Rattle.core_events.specs.Clients.{ClientState, calls_of, client_state, state_from_calls}
use Rattle.core_events.specs.Events.{Opening, OnDesk, OnNames, Post, Fetch, CloseMail, NoChange, ClientCall, CoreEvent, By, At}
use Rattle.core_events.specs.Fitting.{FitsCall}
use Rattle.core_events.specs.Groups.{has_number}
use Rattle.core_events.specs.Jobs.{CoreJob, JobOutcome}
use Rattle.core_events.specs.Runs.{IsCoreRun}
use Rattle.core_events.specs.ShardView.{ShardView}
use Rattle.cube_core.specs.DeskEvents.{FitsDeskCall, desk_event}
use Rattle.cube_core.specs.NamesEvents.{FitsNamesCall, names_event}
use Rattle.core_events.specs.Histories.{last_after, last_after_post, last_post}
use Rattle.core_program.specs.CoreFits.{CoreEntry, FitsOwnCalls, OpensCells}
use Rattle.cube_core.specs.declared.cell.CoreAnswer.TheVariants as answer
use Rattle.cube_core.specs.declared.cell.CoreCall.TheVariants as call
use Rattle.cube_core.specs.declared.cell.CoreCell.{CoreCell}
use Rattle.cube_core.specs.declared.jobs.Job.{Job}
use Rattle.cube_core.specs.declared.jobs.JobAnswer.{JobAnswer}
use Rattle.cube_core.specs.declared.shard.ShardAnswer.{ShardAnswer}
use Rattle.cube_core.specs.declared.shard.ShardCall.{ShardCall}

-- The last of some entries, and the events before it.
pub record LastEvent {Q A : Type 0} (event_of : EventOf Q A) (earlier : List CoreEvent) (log : List (Event Q A)) (e : Event Q A)
    (es : List CoreEvent) : Type 0 where
  pub before : List CoreEvent
  pub last : CoreEvent
  pub events : AreEventsAfter event_of earlier log before
  pub is : event_of before e last
  pub whole : last ∷ before ≡ es

pub split-last : {Q A : Type 0} (event_of : EventOf Q A) (earlier : List CoreEvent) (log : List (Event Q A)) (e : Event Q A) (es : List CoreEvent)
    → AreEventsAfter event_of earlier (log ++ e ∷ []) es → LastEvent event_of earlier log e es
split-last event_of earlier [] e es are = record { before = earlier; last = are.0; events = refl; is = are.1; whole = are.2 }
split-last event_of earlier (f ∷ log) e es are =
    let rest = split-last event_of (are.0 ∷ earlier) log e es are.2 in
    record { before = rest.before; last = rest.last; events = (are.0, are.1, rest.events); is = rest.is; whole = rest.whole }

-- The job that was posted last, by the calls alone.
post-last : (here : Bool) (job : CoreJob) (last : Option CoreJob) → last_after_post here true job last ≡ (if here then Some job else last)
post-last true job last = refl
post-last false job last = refl

post-other : (here : Bool) (job : CoreJob) (last : Option CoreJob) → last_after_post here false job last ≡ last
post-other true job last = refl
post-other false job last = refl

by-one : (number : ℕ) (own : Bool) (c : ClientCall) (calls : List ClientCall) (last : Option CoreJob) → last ≡ last_posted number calls
    → last_after number own c last ≡ last_posted number (if own then c ∷ calls else calls)
by-one number true (Post other job) calls last is =
    post-last (other == number) job last ∙ ap (λ (l : Option CoreJob). if other == number then Some job else l) is
by-one number true (OnDesk c) calls last is = is
by-one number true (OnNames c) calls last is = is
by-one number true (Fetch other said) calls last is = is
by-one number true (CloseMail other) calls last is = is
by-one number true NoChange calls last is = is
by-one number false (Post other job) calls last is = post-other (other == number) job last ∙ is
by-one number false (OnDesk c) calls last is = is
by-one number false (OnNames c) calls last is = is
by-one number false (Fetch other said) calls last is = is
by-one number false (CloseMail other) calls last is = is
by-one number false NoChange calls last is = is

last-by-calls : (number a : ℕ) (es : List CoreEvent) → last_post number a es ≡ last_posted number (calls_of a es)
last-by-calls number a [] = refl
last-by-calls number a (By b c ∷ es) =
    by-one number (b == a) c (calls_of a es) (last_post number a es) (last-by-calls number a es)
last-by-calls number a (At other move ∷ es) = last-by-calls number a es

-- A client's own call is the newest of its calls.
newest : (caller : ℕ) (c : ClientCall) (x : CoreEvent) (before es : List CoreEvent) → x ≡ By caller c → x ∷ before ≡ es
    → calls_of caller es ≡ c ∷ calls_of caller before
newest caller c x before es is whole =
    ap (calls_of caller) (sym whole)
    ∙ ap (λ (y : CoreEvent). calls_of caller (y ∷ before)) is
    ∙ ap (λ (b : Bool). if b then c ∷ calls_of caller before else calls_of caller before) (eq-eqb caller caller refl)

module _ {Q A : Type 0} (event_of : EventOf Q A) where
  -- The events of own calls and more, and those of own calls before them.
  pub record EventsBefore (earlier : List CoreEvent) (own : List (Event Q A)) (es : List CoreEvent) : Type 0 where
    pub before : List CoreEvent
    pub events : AreEventsAfter event_of earlier own before
    pub newer : List CoreEvent
    pub whole : es ≡ newer ++ before

  none-before : (more : List (Event Q A)) (earlier es : List CoreEvent) → AreEventsAfter event_of earlier more es
      → (newer : List CoreEvent) × (es ≡ newer ++ earlier)
  none-before [] earlier es are = ([], sym are)
  none-before (e ∷ more) earlier es are =
      let rest = none-before more (are.0 ∷ earlier) es are.2 in
      (rest.0 ++ are.0 ∷ [], rest.1 ∙ sym (append_assoc rest.0 (are.0 ∷ []) earlier))

  events-before : (own more : List (Event Q A)) (earlier es : List CoreEvent) → AreEventsAfter event_of earlier (own ++ more) es
      → EventsBefore earlier own es
  events-before [] more earlier es are =
      let rest = none-before more earlier es are in record { before = earlier; events = refl; newer = rest.0; whole = rest.1 }
  events-before (e ∷ own) more earlier es are =
      let rest = events-before own more (are.0 ∷ earlier) es are.2 in
      record { before = rest.before; events = (are.0, are.1, rest.events); newer = rest.newer; whole = rest.whole }

module _ {S : Type 0} (fits : Opening → ℕ → ShardCall → Type 0) (stands : Opening → ℕ → ℕ → S → ShardView → Type 0)
    (says : CoreJob → ShardAnswer → JobOutcome → Type 0) where
  abbrev entry_event : Opening → List CoreEvent → CoreEntry → CoreEvent → Type 0
  entry_event o es e x = IsEntryEvent fits stands says o es e x

  abbrev Opens : Opening → List (CoreCell S) → List CoreEntry → Type 0
  Opens o cells log = OpensCells fits stands says o cells log

  -- A client's own entries are events with the same calls of it: those of main and the sessions by their calls alone, and
  -- those of the flusher by all that its entries tell.
  pub client-part : (o : Opening) (caller : ℕ) (log : List CoreEntry) (es : List CoreEvent) → IsClientCaller o caller → AreEventsOf (entry_event o) log es
      → HasOwnEvents (entry_event o) caller (calls_of (client_of o caller)) log es
  client-part o caller log es (inl low) are =
      coe 1 0 (i. HasOwnEvents (entry_event o) caller (calls_of (client-low o caller low i)) log es)
      (own-part (entry_event o) caller (calls_of caller) (told-calls (entry_event o) caller caller
      (coe 0 1 (i. MakesCalls (entry_event o) caller (client-low o caller low i)) (own-calls fits stands says o caller (inl low))))
      (clients-hang fits stands says o caller low) log es are)
  client-part o caller log es (inr high) are =
      let part =
      own-part (entry_event o) caller (flusher_part o)
      (coe 1 0 (i. IsToldByCaller (entry_event o) (high i) (flusher_part o)) (flusher-told fits stands says o))
      (coe 1 0 (i. HangsOn (entry_event o) (high i) (flusher_part o)) (flusher-hangs fits stands says o)) log es are
      in
      record {
        own = part.own;
        events = part.events;
        same = coe 1 0 (i. calls_of (client-high o caller high i) es ≡ calls_of (client-high o caller high i) part.own)
            (ap (λ (p : FlusherPart). p.calls) part.same);
      }

  module _ (cells : List (CoreCell S)) where
    abbrev Later : Opening → ℕ → List CoreEntry → List CoreEntry → List CoreEvent → Type 0
    Later o caller own log run = IsLaterRun fits stands says cells o caller own log run

    -- A moment after more own calls is a later one.
    pub earlier-run : (o : Opening) (caller : ℕ) (own more log : List CoreEntry) (run : List CoreEvent) → Later o caller (own ++ more) log run
        → Later o caller own log run
    earlier-run o caller own more log run later = record {
      opens = later.opens;
      begins = (more ++ later.begins.0, sym (append_assoc own more later.begins.0) ∙ later.begins.1);
      events = later.events;
      is_run = later.is_run;
    }

    -- The moment after own calls.
    pub run-now : (o : Opening) (caller : ℕ) (own log : List CoreEntry) (run : List CoreEvent) → Opens o cells log → of_caller caller log ≡ own
        → AreEventsOf (entry_event o) log run → IsCoreRun o run → Later o caller own log run
    run-now o caller own log run opens mine are is_run =
        record { opens = opens; begins = ([], append-nil own ∙ sym mine); events = are; is_run = is_run }

    pub go-on-from : (o : Opening) (own more : List CoreEntry) (es : List CoreEvent) → AreEventsOf (entry_event o) (own ++ more) es
        → GoOnFrom fits stands says cells o own es
    go-on-from o own more es are =
        let b = events-before (entry_event o) own more [] es are in
        record { before = b.before; events = b.events; newer = b.newer; whole = b.whole }

    -- What was known before more own calls.
    pub known-before : (caller client : ℕ) (own more : List CoreEntry) (P : Claim) → Knows fits stands says cells caller client own P → (o : Opening)
        (log : List CoreEntry) (run es : List CoreEvent) → Later o caller (own ++ more) log run → (g : GoOnFrom fits stands says cells o own es)
        → P o (calls_of client g.before)
    known-before caller client own more P knows o log run es later g =
        knows o log run g.before (earlier-run o caller own more log run later) g.events

    -- The newest of own events is a call of the client.
    goes-on : (o : Opening) (client : ℕ) (own : List CoreEntry) (es : List CoreEvent) (last : List ClientCall → ClientCall) (before : List CoreEvent)
        (x : CoreEvent) → AreEventsOf (entry_event o) own before → x ≡ By client (last (calls_of client before)) → x ∷ before ≡ es
        → GoOnBy fits stands says cells o client own es last
    goes-on o client own es last before x events is whole = record {
      before = before;
      events = events;
      whole = sym whole ∙ ap (λ (y : CoreEvent). y ∷ before) is;
      calls = newest client (last (calls_of client before)) x before es is whole;
    }

  module _ (cells : List (CoreCell S)) (caller client : ℕ) (acts : IsClientOf fits stands says cells caller client) where
    -- What it knows holds in each run with its own calls.
    in-run : (own : List CoreEntry) (P : Claim) → Knows fits stands says cells caller client own P → (o : Opening) (log : List CoreEntry)
        (es : List CoreEvent) → Opens o cells log → of_caller caller log ≡ own → AreEventsOf (entry_event o) log es → IsCoreRun o es
        → P o (calls_of client es)
    in-run own P knows o log es opens mine are is_run =
        let is = acts.client_is o log opens in
        let part = client-part o caller log es (acts.acts o log opens) are in
        let same : calls_of client es ≡ calls_of client part.own = coe 1 0 (i. calls_of (is i) es ≡ calls_of (is i) part.own) part.same in
        subst (λ (calls : List ClientCall). P o calls) (sym same)
        (knows o log es part.own (run-now cells o caller own log es opens mine are is_run)
        (subst (λ (l : List CoreEntry). AreEventsOf (entry_event o) l part.own) mine part.events))

    cells-there : (k : ℕ) → k ≤ 1 → k < length cells
    cells-there k low = let first = acts.opening [] in let long = first.1.long in omega (arith, long, low)

    mail-there : (number cell : ℕ) → IsMailAt fits stands says cells number cell → cell < length cells
    mail-there number cell at =
        let first = acts.opening [] in
        let long = first.1.long in
        let is = at.cell_is first.0 [] first.1 in
        let below = at.there first.0 [] first.1 in
        omega (arith, long, is, below)

    pub desk-fits : (own : List CoreEntry) (c : DeskCall) → Knows fits stands says cells caller client own (MayCallDesk client c)
        → FitsOwnCalls fits stands says cells caller own 0 (call.Desk c)
    desk-fits own c knows = record {
      opening = acts.opening;
      there = cells-there 0 (omega arith);
      in_runs = λ o log es opens mine are run.
          let may : FitsDeskCall o client c (client_state o client es) =
          subst (λ (k : ClientState). FitsDeskCall o client c k) (sym (known-by-calls o client es))
          (in-run own (MayCallDesk client c) knows o log es opens mine are run)
          in
          let same = acts.client_is o log opens in
          (refl, acts.acts o log opens, coe 0 1 (i. FitsDeskCall o (same i) c (client_state o (same i) es)) may);
    }

    pub names-fit : (own : List CoreEntry) (c : NamesCall) → Knows fits stands says cells caller client own (MayCallNames client c)
        → FitsOwnCalls fits stands says cells caller own 1 (call.Names c)
    names-fit own c knows = record {
      opening = acts.opening;
      there = cells-there 1 (omega arith);
      in_runs = λ o log es opens mine are run.
          let may : FitsNamesCall o client c (client_state o client es) =
          subst (λ (k : ClientState). FitsNamesCall o client c k) (sym (known-by-calls o client es))
          (in-run own (MayCallNames client c) knows o log es opens mine are run)
          in
          let same = acts.client_is o log opens in
          (refl, acts.acts o log opens, coe 0 1 (i. FitsNamesCall o (same i) c (client_state o (same i) es)) may);
    }

    pub post-fits : (number cell : ℕ) (own : List CoreEntry) (job : Job) → IsMailAt fits stands says cells number cell
        → Knows fits stands says cells caller client own (MayPostJob fits client number job)
        → FitsOwnCalls fits stands says cells caller own cell (call.Mail (mail.Post client job))
    post-fits number cell own job at knows = record {
      opening = acts.opening;
      there = mail-there number cell at;
      in_runs = λ o log es opens mine are run.
          let p = in-run own (MayPostJob fits client number job) knows o log es opens mine are run in record {
            number = number;
            cell = at.cell_is o log opens;
            there = at.there o log opens;
            own = (acts.acts o log opens, acts.client_is o log opens);
            suits = p.suits;
            fits_mail = subst (λ (k : ClientState). FitsCall o client (Post number (job_asked job)) k) (sym (known-by-calls o client es)) p.may;
          };
    }

    pub fetch-fits : (number cell : ℕ) (own : List CoreEntry) → IsMailAt fits stands says cells number cell
        → ServesClient fits stands says cells client number → Knows fits stands says cells caller client own (MayFetchFrom client number)
        → FitsOwnCalls fits stands says cells caller own cell (call.Mail (mail.Fetch client))
    fetch-fits number cell own at serves knows = record {
      opening = acts.opening;
      there = mail-there number cell at;
      in_runs = λ o log es opens mine are run.
          let waits = in-run own (MayFetchFrom client number) knows o log es opens mine are run in record {
            number = number;
            cell = at.cell_is o log opens;
            there = at.there o log opens;
            own = (acts.acts o log opens, acts.client_is o log opens);
            suits = tt;
            fits_mail = record {
              known = serves o log opens;
              fits = λ outcome. subst (λ (k : ClientState). has_number k.group.waits number ≡ true) (sym (known-by-calls o client es)) waits;
            };
          };
    }

    -- By one call more.
    pub desk-learns : (own : List CoreEntry) (c : DeskCall) (a : DeskAnswer) (o : Opening) (log : List CoreEntry) (es : List CoreEvent)
        → Opens o cells log → AreEventsOf (entry_event o) (own ++ event caller 0 (call.Desk c) (answer.Desk a) ∷ []) es
        → GoOnBy fits stands says cells o client own es (λ calls. desk_event client (state_from_calls o client calls) c a)
    desk-learns own c a o log es opens are =
        let s = split-last (entry_event o) [] own (event caller 0 (call.Desk c) (answer.Desk a)) es are in
        let same = sym (acts.client_is o log opens) in
        let is : s.last ≡ By client (desk_event client (state_from_calls o client (calls_of client s.before)) c a) =
        s.is.2
        ∙ (λ i. By (same i) (desk_event (same i) (client_state o (same i) s.before) c a))
        ∙ ap (λ (k : ClientState). By client (desk_event client k c a)) (known-by-calls o client s.before)
        in
        goes-on cells o client own es (λ calls. desk_event client (state_from_calls o client calls) c a) s.before s.last s.events is s.whole

    pub names-learn : (own : List CoreEntry) (c : NamesCall) (a : NamesAnswer) (o : Opening) (log : List CoreEntry) (es : List CoreEvent)
        → Opens o cells log → AreEventsOf (entry_event o) (own ++ event caller 1 (call.Names c) (answer.Names a) ∷ []) es
        → GoOnBy fits stands says cells o client own es (λ calls. names_event c a)
    names-learn own c a o log es opens are =
        let s = split-last (entry_event o) [] own (event caller 1 (call.Names c) (answer.Names a)) es are in
        let is : s.last ≡ By client (names_event c a) =
        s.is.1 ∙ ap (λ (b : ℕ). By b (names_event c a)) (sym (acts.client_is o log opens))
        in
        goes-on cells o client own es (λ calls. names_event c a) s.before s.last s.events is s.whole

    pub post-learns : (number cell : ℕ) (own : List CoreEntry) (job : Job) (o : Opening) (log : List CoreEntry) (es : List CoreEvent)
        → IsMailAt fits stands says cells number cell → Opens o cells log
        → AreEventsOf (entry_event o) (own ++ event caller cell (call.Mail (mail.Post client job)) (answer.Mail got.Done) ∷ []) es
        → GoOnBy fits stands says cells o client own es (λ calls. Post number (job_asked job))
    post-learns number cell own job o log es at opens are =
        let s = split-last (entry_event o) [] own (event caller cell (call.Mail (mail.Post client job)) (answer.Mail got.Done)) es are in
        let here = at.cell_is o log opens in
        let there = s.is.1 in
        let same : s.is.0 ≡ number = omega (arith, here, there) in
        let is : s.last ≡ By client (Post number (job_asked job)) = s.is.3 ∙ ap (λ (n : ℕ). By client (Post n (job_asked job))) same in
        goes-on cells o client own es (λ calls. Post number (job_asked job)) s.before s.last s.events is s.whole

    pub fetch-learns : (number cell : ℕ) (own : List CoreEntry) (said : JobAnswer) (o : Opening) (log : List CoreEntry) (es : List CoreEvent)
        → IsMailAt fits stands says cells number cell → Opens o cells log
        → AreEventsOf (entry_event o) (own ++ event caller cell (call.Mail (mail.Fetch client)) (answer.Mail (got.Fetched (Got said))) ∷ []) es
        → GoOnByFetch fits stands says cells o client number own es said
    fetch-learns number cell own said o log es at opens are =
        let s = split-last (entry_event o) [] own (event caller cell (call.Mail (mail.Fetch client)) (answer.Mail (got.Fetched (Got said)))) es are in
        let here = at.cell_is o log opens in
        let there = s.is.1 in
        let same : s.is.0 ≡ number = omega (arith, here, there) in
        let hands = s.is.3 in
        let is : s.last ≡ By client (Fetch number hands.outcome) = hands.is ∙ ap (λ (n : ℕ). By client (Fetch n hands.outcome)) same in
        record {
          before = s.before;
          events = s.events;
          job = hands.of;
          outcome = hands.outcome;
          asked = ap (λ (n : ℕ). last_posted n (calls_of client s.before)) (sym same) ∙ sym (last-by-calls s.is.0 client s.before) ∙ hands.asked;
          stands_for = hands.stands;
          whole = sym s.whole ∙ ap (λ (x : CoreEvent). x ∷ s.before) is;
          calls = newest client (Fetch number hands.outcome) s.last s.before es is s.whole;
        }

    pub waiting-learns : (number cell : ℕ) (own : List CoreEntry) (o : Opening) (log : List CoreEntry) (es : List CoreEvent)
        → IsMailAt fits stands says cells number cell → Opens o cells log
        → AreEventsOf (entry_event o) (own ++ event caller cell (call.Mail (mail.Fetch client)) (answer.Mail (got.Fetched NotYet)) ∷ []) es
        → GoOnBy fits stands says cells o client own es (λ calls. NoChange)
    waiting-learns number cell own o log es at opens are =
        let s = split-last (entry_event o) [] own (event caller cell (call.Mail (mail.Fetch client)) (answer.Mail (got.Fetched NotYet))) es are in
        goes-on cells o client own es (λ calls. NoChange) s.before s.last s.events s.is.3 s.whole

  -- Main closes mails.
  pub close-fits : (cells : List (CoreCell S)) (number cell : ℕ) (own : List CoreEntry) → IsClientOf fits stands says cells 0 0
      → IsMailAt fits stands says cells number cell → FitsOwnCalls fits stands says cells 0 own cell (call.Mail mail.Close)
  close-fits cells number cell own acts at = record {
    opening = acts.opening;
    there = mail-there cells 0 0 acts number cell at;
    in_runs = λ o log es opens mine are run. record {
      number = number;
      cell = at.cell_is o log opens;
      there = at.there o log opens;
      own = refl;
      suits = tt;
      fits_mail = tt;
    };
  }

  pub close-learns : (cells : List (CoreCell S)) (number cell : ℕ) (own : List CoreEntry) (o : Opening) (log : List CoreEntry) (es : List CoreEvent)
      → IsMailAt fits stands says cells number cell → Opens o cells log
      → AreEventsOf (entry_event o) (own ++ event 0 cell (call.Mail mail.Close) (answer.Mail got.Done) ∷ []) es
      → GoOnBy fits stands says cells o 0 own es (λ calls. CloseMail number)
  close-learns cells number cell own o log es at opens are =
      let s = split-last (entry_event o) [] own (event 0 cell (call.Mail mail.Close) (answer.Mail got.Done)) es are in
      let here = at.cell_is o log opens in
      let there = s.is.1 in
      let same : s.is.0 ≡ number = omega (arith, here, there) in
      let is : s.last ≡ By 0 (CloseMail number) = s.is.3 ∙ ap (λ (n : ℕ). By 0 (CloseMail n)) same in
      goes-on cells o 0 own es (λ calls. CloseMail number) s.before s.last s.events is s.whole
