-- The flusher's own events are those of its entries, and its mail is closed by main alone.
use Rattle.std.proofs.Common.{◌≡◌, ◌≢◌, ◌∙◌, ℕ, ◌==◌, eqb, Bool, true, false, true≢false, ◌||◌, List, [], ◌∷◌, ◌++◌, cond, filter, length, append_assoc, append-nil, if◌then◌else◌, inr, refl, sym, ap, arith, eqb-true, eq-eqb}
use Rattle.std.specs.List.{list_any}
use Rattle.std.proofs.lemmas.Bool.{eqb-false, or_parts}
use Rattle.std.proofs.lemmas.List.Elements.{filter-append}
use Rattle.mail_cell.specs.declared.answer.Fetched.TheVariants.{Got, NotYet}
use Rattle.mail_cell.specs.declared.answer.Taken.TheVariants.{Job, Empty, Closed}
use Rattle.core_cells.specs.declared.mail.MailAnswer.{MailAnswer}
use Rattle.core_cells.specs.declared.mail.MailAnswer.TheVariants as got
use Rattle.core_cells.specs.declared.mail.MailCall.{MailCall}
use Rattle.core_cells.specs.declared.mail.MailCall.TheVariants as mail
use Rattle.core_events.specs.Cells.{is_mail_closed}
use Rattle.core_events.specs.Clients.{calls_of}
use Rattle.core_events.specs.Events.{Opening, flusher, flush_mail, ClientCall, OnDesk, OnNames, Post, Fetch, CloseMail, NoChange, WorkerMove, Take, NoJob, Work, Reply, CoreEvent, By, At}
use Rattle.core_events.specs.Runs.{IsCoreRun}
use Rattle.core_program.specs.CoreFits.{CoreEntry}
use Rattle.cube_core.proofs.OwnEntries.{client-high, own-calls, own-moves}
use Rattle.cube_core.proofs.OwnKnowledge.{flusher-hangs, flusher-told}
use Rattle.cube_core.specs.BoardCells.{AnswerSays, IsByItself, IsEntryEvent, IsEventOf, client_of, flusher_part, job_asked, server_of}
use Rattle.cube_core.specs.Links.{AreEventsAfter, is_call_of, is_move_at}
use Rattle.cube_core.specs.MailEvents.{IsMailEvent}
use Rattle.cube_core.specs.declared.cell.CoreAnswer.{CoreAnswer}
use Rattle.cube_core.specs.declared.cell.CoreAnswer.TheVariants as answer
use Rattle.cube_core.specs.declared.cell.CoreCall.{CoreCall}
use Rattle.cube_core.specs.declared.cell.CoreCall.TheVariants as call
use Rattle.cube_core.specs.declared.jobs.Job.{Job as CellJob}
use Rattle.cube_core.specs.declared.jobs.JobAnswer.{JobAnswer}
use Rattle.linked_shards.specs.CellShards.{CoreShardStands}
use Rattle.shard_events.specs.ShardsInRuns.{FitsShard, ShardAnswerSays}
use Rattle.turn_board.specs.History.{of_caller}

abbrev pub OfEntries : Opening → List CoreEvent → List CoreEntry → List CoreEvent → Type 0
OfEntries o start log es = AreEventsAfter (IsEntryEvent FitsShard CoreShardStands ShardAnswerSays o) start log es

abbrev OfEntry : Opening → List CoreEvent → CoreEntry → CoreEvent → Type 0
OfEntry o es e x = IsEntryEvent FitsShard CoreShardStands ShardAnswerSays o es e x

-- The caller that is the flusher.
abbrev pub caller_here : Opening → ℕ
caller_here o = server_of o (flush_mail o)

-- ---- which events are the flusher's

abbrev pub is_flushers : Opening → CoreEvent → Bool
is_flushers o x = is_call_of (flusher o) x || is_move_at (flush_mail o) x

or-true : (b : Bool) → (b || true) ≡ true
or-true true = refl
or-true false = refl

by-flusher : (o : Opening) (a : ℕ) (c : ClientCall) (x : CoreEvent) → x ≡ By a c → a ≡ flusher o
    → is_flushers o x ≡ true
by-flusher o a c x is same = ap (is_flushers o) is ∙ ap (λ (b : Bool). b || false) (eq-eqb a (flusher o) same)

at-flusher : (o : Opening) (m : ℕ) (move : WorkerMove) (x : CoreEvent) → x ≡ At m move → caller_here o ≡ server_of o m
    → is_flushers o x ≡ true
at-flusher o m move x is own =
    let same : m ≡ flush_mail o = omega (arith, own) in
    ap (is_flushers o) is ∙ eq-eqb m (flush_mail o) same

mail-mine : (o : Opening) (m : ℕ) (es : List CoreEvent) (c : MailCall CellJob JobAnswer)
    (a : MailAnswer CellJob JobAnswer) (x : CoreEvent) → IsByItself o (caller_here o) m c
    → IsMailEvent job_asked (AnswerSays ShardAnswerSays) es m c a x → is_flushers o x ≡ true
mail-mine o m es (mail.Post client job) got.Done x own is =
    by-flusher o client (Post m (job_asked job)) x is (own.1 ∙ client-high o (caller_here o) refl)
mail-mine o m es mail.Take (got.Taken (Job client job)) x own is =
    at-flusher o m (Take client (job_asked job)) x is own
mail-mine o m es mail.Take (got.Taken Empty) x own is = at-flusher o m (NoJob false) x is own
mail-mine o m es mail.Take (got.Taken Closed) x own is = at-flusher o m (NoJob true) x is own
mail-mine o m es (mail.Reply client said) got.Done x own is = at-flusher o m (Reply client is.outcome) x is.is own
mail-mine o m es (mail.Fetch client) (got.Fetched (Got said)) x own is =
    by-flusher o client (Fetch m is.outcome) x is.is (own.1 ∙ client-high o (caller_here o) refl)
mail-mine o m es (mail.Fetch client) (got.Fetched NotYet) x own is =
    by-flusher o client NoChange x is (own.1 ∙ client-high o (caller_here o) refl)
mail-mine o m es mail.Close got.Done x own is = absurd (omega (arith, own))
mail-mine o m es c a x own is = absurd is

event-mine : (o : Opening) (k : ℕ) (es : List CoreEvent) (c : CoreCall) (a : CoreAnswer) (x : CoreEvent)
    → IsEventOf FitsShard CoreShardStands ShardAnswerSays o es (caller_here o) k c a x → is_flushers o x ≡ true
event-mine o k es (call.Desk c) (answer.Desk a) x is =
    ap (is_flushers o) is.2
    ∙ ap (λ (b : Bool). b || false)
    (eq-eqb (client_of o (caller_here o)) (flusher o) (client-high o (caller_here o) refl))
event-mine o k es (call.Names c) (answer.Names a) x is =
    ap (is_flushers o) is.1
    ∙ ap (λ (b : Bool). b || false)
    (eq-eqb (client_of o (caller_here o)) (flusher o) (client-high o (caller_here o) refl))
event-mine o k es (call.Shard c) (answer.Shard a) x is = at-flusher o is.number _ x is.is is.own
event-mine o k es (call.Mail c) (answer.Mail a) x is = mail-mine o is.0 es c a x is.2 is.3
event-mine o k es c a x is = absurd is

mine : (o : Opening) (es : List CoreEvent) (e : CoreEntry) (x : CoreEvent) → e.caller ≡ caller_here o
    → OfEntry o es e x → is_flushers o x ≡ true
mine o es e x same is =
    event-mine o e.cell es e.call e.answer x
    (coe 0 1 (i. IsEventOf FitsShard CoreShardStands ShardAnswerSays o es (same i) e.cell e.call e.answer x) is)

others : (o : Opening) (es : List CoreEvent) (e : CoreEntry) (x : CoreEvent) → e.caller ≢ caller_here o
    → OfEntry o es e x → is_flushers o x ≡ false
others o es e x apart is =
    λ i. (ap (λ (n : ℕ). is_call_of n x) (sym (client-high o (caller_here o) refl))
    ∙ own-calls FitsShard CoreShardStands ShardAnswerSays o (caller_here o) (inr refl) es e x apart is) i
    || own-moves FitsShard CoreShardStands ShardAnswerSays o (flush_mail o) es e x apart is i

-- ---- its entries are these events

-- Behind events of which the same is told, the flusher's entries are its own events among those of all.
record OwnAfter (o : Opening) (earlier fs : List CoreEvent) (log : List CoreEntry) (es : List CoreEvent) : Type 0 where
  later : List CoreEvent
  whole : es ≡ later ++ earlier
  events : OfEntries o fs (of_caller (caller_here o) log) (filter (is_flushers o) later ++ fs)

one-more : (o : Opening) (own : Bool) (e : CoreEntry) (x : CoreEvent) (log : List CoreEntry)
    (earlier fs es : List CoreEvent) → eqb e.caller (caller_here o) ≡ own
    → flusher_part o earlier ≡ flusher_part o fs → OfEntry o earlier e x
    → ((gs : List CoreEvent) → flusher_part o (x ∷ earlier) ≡ flusher_part o gs → OwnAfter o (x ∷ earlier) gs log es)
    → (later : List CoreEvent) × (es ≡ later ++ earlier)
    × OfEntries o fs (cond own (e ∷ of_caller (caller_here o) log) (of_caller (caller_here o) log))
    (filter (is_flushers o) later ++ fs)
one-more o true e x log earlier fs es own same is rest =
    let told = flusher-told FitsShard CoreShardStands ShardAnswerSays o in
    let by = eqb-true e.caller (caller_here o) own in
    let after = rest (x ∷ fs) (told.next x earlier fs same) in
    let here = mine o earlier e x by is in
    let listed : filter (is_flushers o) (after.later ++ x ∷ []) ++ fs ≡ filter (is_flushers o) after.later ++ x ∷ fs =
    ap (λ (l : List CoreEvent). l ++ fs) (filter-append (is_flushers o) after.later (x ∷ [])
    ∙ ap (λ (b : Bool). filter (is_flushers o) after.later ++ cond b (x ∷ []) []) here)
    ∙ append_assoc (filter (is_flushers o) after.later) (x ∷ []) fs
    in (
      after.later ++ x ∷ [],
      after.whole ∙ sym (append_assoc after.later (x ∷ []) earlier),
      coe 1 0 (i. OfEntries o fs (e ∷ of_caller (caller_here o) log) (listed i))
          (x, flusher-hangs FitsShard CoreShardStands ShardAnswerSays o earlier fs e x by same is, after.events),
    )
one-more o false e x log earlier fs es own same is rest =
    let told = flusher-told FitsShard CoreShardStands ShardAnswerSays o in
    let apart = eqb-false e.caller (caller_here o) own in
    let after = rest fs (told.others earlier e x apart is ∙ same) in
    let there = others o earlier e x apart is in
    let listed : filter (is_flushers o) (after.later ++ x ∷ []) ++ fs ≡ filter (is_flushers o) after.later ++ fs =
    ap (λ (l : List CoreEvent). l ++ fs) (filter-append (is_flushers o) after.later (x ∷ [])
    ∙ ap (λ (b : Bool). filter (is_flushers o) after.later ++ cond b (x ∷ []) []) there
    ∙ append-nil (filter (is_flushers o) after.later))
    in (
      after.later ++ x ∷ [],
      after.whole ∙ sym (append_assoc after.later (x ∷ []) earlier),
      coe 1 0 (i. OfEntries o fs (of_caller (caller_here o) log) (listed i)) after.events,
    )

own-after : (o : Opening) (log : List CoreEntry) (earlier fs es : List CoreEvent)
    → flusher_part o earlier ≡ flusher_part o fs → OfEntries o earlier log es → OwnAfter o earlier fs log es
own-after o [] earlier fs es same are = record { later = []; whole = sym are; events = refl }
own-after o (e ∷ log) earlier fs es same are =
    let more =
    one-more o (eqb e.caller (caller_here o)) e are.0 log earlier fs es refl same are.1
    (λ gs told. own-after o log (are.0 ∷ earlier) gs es told are.2)
    in
    record { later = more.0; whole = more.1; events = more.2 }

pub flushers-events : (o : Opening) (log : List CoreEntry) (es : List CoreEvent) → OfEntries o [] log es
    → OfEntries o [] (of_caller (caller_here o) log) (filter (is_flushers o) es)
flushers-events o log es are =
    let own = own-after o log [] [] es refl are in
    let same : own.later ≡ es = sym (own.whole ∙ append-nil own.later) in
    coe 0 1 (i. OfEntries o [] (of_caller (caller_here o) log)
    ((append-nil (filter (is_flushers o) own.later) ∙ ap (filter (is_flushers o)) same) i)) own.events

-- Its calls are among these.
pub calls-among : (o : Opening) (es : List CoreEvent)
    → calls_of (flusher o) (filter (is_flushers o) es) ≡ calls_of (flusher o) es
calls-among o [] = refl
calls-among o (By b c ∷ es) = at (b == flusher o) refl (calls-among o es)
  where
    at : (own : Bool) → (b == flusher o) ≡ own
        → calls_of (flusher o) (filter (is_flushers o) es) ≡ calls_of (flusher o) es
        → calls_of (flusher o) (cond (own || false) (By b c ∷ filter (is_flushers o) es) (filter (is_flushers o) es))
        ≡ (if own then c ∷ calls_of (flusher o) es else calls_of (flusher o) es)
    at true is rest =
        ap (λ (t : Bool). if t then c ∷ calls_of (flusher o) (filter (is_flushers o) es)
        else calls_of (flusher o) (filter (is_flushers o) es)) is
        ∙ ap (λ (l : List ClientCall). c ∷ l) rest
    at false is rest = rest
calls-among o (At m move ∷ es) = at (m == flush_mail o) (calls-among o es)
  where
    at : (here : Bool) → calls_of (flusher o) (filter (is_flushers o) es) ≡ calls_of (flusher o) es
        → calls_of (flusher o) (cond here (At m move ∷ filter (is_flushers o) es) (filter (is_flushers o) es))
        ≡ calls_of (flusher o) es
    at true rest = rest
    at false rest = rest

-- ---- its mail is closed by main

abbrev pub finds_closed : ℕ → CoreEvent → Bool
finds_closed m (At other (NoJob true)) = other == m
finds_closed m x = false

-- Nobody but main closes a mail, so before its first call none is closed, and no worker finds one so.
not-main : (o : Opening) (b : ℕ) (c : ClientCall) (es : List CoreEvent) → calls_of 0 (By b c ∷ es) ≡ []
    → (b ≢ 0) × (calls_of 0 es ≡ [])
not-main o b c es none = at (b == 0) refl none
  where
    at : (own : Bool) → (b == 0) ≡ own → (if own then c ∷ calls_of 0 es else calls_of 0 es) ≡ []
        → (b ≢ 0) × (calls_of 0 es ≡ [])
    at true is none = absurd (let long = ap length none in omega (arith, long))
    at false is none = (eqb-false b 0 is, none)

none-closed : (o : Opening) (m : ℕ) (es : List CoreEvent) → IsCoreRun o es → calls_of 0 es ≡ []
    → is_mail_closed m es ≡ false
none-closed o m [] run none = refl
none-closed o m (By b (CloseMail other) ∷ es) run none =
    absurd ((not-main o b (CloseMail other) es none).0 run.1.fits)
none-closed o m (By b (OnDesk c) ∷ es) run none = none-closed o m es run.0 (not-main o b (OnDesk c) es none).1
none-closed o m (By b (OnNames c) ∷ es) run none = none-closed o m es run.0 (not-main o b (OnNames c) es none).1
none-closed o m (By b (Post other job) ∷ es) run none =
    none-closed o m es run.0 (not-main o b (Post other job) es none).1
none-closed o m (By b (Fetch other said) ∷ es) run none =
    none-closed o m es run.0 (not-main o b (Fetch other said) es none).1
none-closed o m (By b NoChange ∷ es) run none = none-closed o m es run.0 (not-main o b NoChange es none).1
none-closed o m (At other move ∷ es) run none = none-closed o m es run.0 none

pub none-found : (o : Opening) (m : ℕ) (es : List CoreEvent) → IsCoreRun o es → calls_of 0 es ≡ []
    → list_any (finds_closed m) es ≡ false
none-found o m [] run none = refl
none-found o m (By b c ∷ es) run none = none-found o m es run.0 (not-main o b c es none).1
none-found o m (At other (NoJob true) ∷ es) run none =
    absurd (true≢false (run.1.says.1 ∙ none-closed o other es run.0 none))
none-found o m (At other (NoJob false) ∷ es) run none = none-found o m es run.0 none
none-found o m (At other (Take client job) ∷ es) run none = none-found o m es run.0 none
none-found o m (At other (Work job said) ∷ es) run none = none-found o m es run.0 none
none-found o m (At other (Reply client said) ∷ es) run none = none-found o m es run.0 none

-- Nor is it among the flusher's.
pub none-among : (p q : CoreEvent → Bool) (es : List CoreEvent) → list_any p es ≡ false
    → list_any p (filter q es) ≡ false
none-among p q [] none = refl
none-among p q (x ∷ es) none =
    let parts = or_parts (p x) (list_any p es) none in at (q x) parts.0 (none-among p q es parts.1)
  where
    at : (b : Bool) → p x ≡ false → list_any p (filter q es) ≡ false
        → list_any p (cond b (x ∷ filter q es) (filter q es)) ≡ false
    at true first rest = λ i. first i || rest i
    at false first rest = rest
