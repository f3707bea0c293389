-- What a mail asks of whoever posts and replies holds of each post and reply that fits.
use Rattle.std.proofs.Common.{◌≡◌, ◌∙◌, ℕ, Bool, false, ◌||◌, List, [], ◌∷◌, Option, Some, None, refl, sym, ap, eq-eqb, ne_eqb}
use Rattle.core_events.specs.Cells.{Letter, WorkerState, Free, Took, Worked, queue_of, reply_for, worker_of}
use Rattle.core_events.specs.Clients.{client_state}
use Rattle.core_events.specs.Events.{Opening, flusher, Post, Reply, CoreEvent, By, At}
use Rattle.core_events.specs.Fitting.{FitsWork, RoundProgress, round_progress}
use Rattle.core_events.specs.Jobs.{CoreJob, JobOutcome}
use Rattle.core_events.specs.Runs.{IsCoreRun}
use Rattle.core_events.specs.Histories.{has_letter_of, is_serving, HasNoJob, HasJobOut}
use Rattle.core_events.proofs.Places.{JobPlace, Nowhere, place, Lacks, IsBusy, FitsPlaces, lacks-unasked, nowhere-asked, nowhere-answered, asked-answered}
use Rattle.core_events.proofs.Posted.{run-posted, none-out, not-out}

pub no-letter : (a : ℕ) (queue : List Letter) → Lacks a queue → has_letter_of a queue ≡ false
no-letter a [] lacks = refl
no-letter a (x ∷ queue) lacks = λ i. ne_eqb x.client a lacks.0 i || no-letter a queue lacks.1 i

none-where : (o : Option JobOutcome) → ((answer : JobOutcome) → o ≡ Some answer → ⊥) → o ≡ None
none-where None never = refl
none-where (Some answer) never = absurd (never answer refl)

not-serving : (places : ℕ → JobPlace) (queue : List Letter) (replies : ℕ → Option JobOutcome) (a : ℕ) (worker : WorkerState)
    → places a ≡ Nowhere → IsBusy places queue replies worker → is_serving a worker ≡ false
not-serving places queue replies a Free nowhere busy = refl
not-serving places queue replies a (Took c job) nowhere busy =
    ne_eqb c a (λ same. nowhere-asked job (sym nowhere ∙ ap places (sym same) ∙ busy.asked))
not-serving places queue replies a (Worked c job answer) nowhere busy =
    ne_eqb c a (λ same. nowhere-answered job answer (sym nowhere ∙ ap places (sym same) ∙ busy.answered))

pub may-post : (o : Opening) (a mail : ℕ) (job : CoreJob) (es : List CoreEvent) → IsCoreRun o (By a (Post mail job) ∷ es)
    → HasNoJob mail a es
may-post o a mail job es run =
    let before = run-posted o es run.0 in
    let f = before.posted mail in
    let nowhere : place mail a es ≡ Nowhere =
    none-out (place mail a es)
    (sym (before.tied a mail) ∙ not-out o.shards mail job (client_state o a es).group run.1.fits.group)
    in
    record {
      letter = no-letter a (queue_of mail es)
          (lacks-unasked (λ c. place mail c es) (queue_of mail es) a f.letters (λ other e. nowhere-asked other (sym nowhere ∙ e)));
      worker = not-serving (λ c. place mail c es) (queue_of mail es) (λ c. reply_for mail c es) a (worker_of mail es) nowhere f.busy;
      reply = none-where (reply_for mail a es) (λ answer held.
          let there = f.held a answer held in nowhere-answered there.0 answer (sym nowhere ∙ there.1));
    }

out-at : (places : ℕ → JobPlace) (queue : List Letter) (replies : ℕ → Option JobOutcome) (q : RoundProgress) (lost : Bool)
    (worker : WorkerState) (to : ℕ) (said : JobOutcome) → FitsWork q lost worker (Reply to said)
    → FitsPlaces places queue replies worker → HasJobOut queue (replies to) worker to
out-at places queue replies q lost Free to said fits f = absurd fits
out-at places queue replies q lost (Took c job) to said fits f =
    let asked = ap places fits.0 ∙ f.busy.asked in
    record {
      letter = no-letter to queue (coe 1 0 (i. Lacks (fits.0 i) queue) f.busy.lacks);
      worker = eq-eqb c to (sym fits.0);
      reply = none-where (replies to) (λ answer held.
          let there = f.held to answer held in asked-answered job there.0 answer (sym asked ∙ there.1));
    }
out-at places queue replies q lost (Worked c job answer) to said fits f =
    let answered = ap places fits.0 ∙ f.busy.answered in
    record {
      letter = no-letter to queue (lacks-unasked places queue to f.letters (λ other e. asked-answered other job answer (sym e ∙ answered)));
      worker = eq-eqb c to (sym fits.0);
      reply = ap replies fits.0 ∙ f.busy.unsaid;
    }

pub may-reply : (o : Opening) (mail client : ℕ) (answer : JobOutcome) (es : List CoreEvent)
    → IsCoreRun o (At mail (Reply client answer) ∷ es)
    → HasJobOut (queue_of mail es) (reply_for mail client es) (worker_of mail es) client
may-reply o mail client answer es run =
    out-at (λ c. place mail c es) (queue_of mail es) (λ c. reply_for mail c es) (round_progress o es)
    (client_state o (flusher o) es).store_lost (worker_of mail es) client answer run.1.fits ((run-posted o es run.0).posted mail)
