-- Where the one job of a client at a mail is, and how the mail and its worker go with it.
use Rattle.std.proofs.Common.{◌≡◌, ◌∙◌, ℕ, ◌==◌, Bool, true, false, List, [], ◌∷◌, ◌++◌, Option, Some, None, inl, inr, refl, sym, ap}
use Rattle.std.proofs.lemmas.Bool.{false≢true}
use Rattle.std.proofs.lemmas.Bool.Decides.{eqb_tells}
use Rattle.std.proofs.lemmas.Option.{none-some, same_Some}
use Rattle.core_events.specs.Jobs.{CoreJob, JobOutcome}
use Rattle.core_events.specs.Events.{ClientCall, Post, Fetch, WorkerMove, CoreEvent, By, At}
use Rattle.core_events.specs.Cells.{Letter, letter, WorkerState, Free, Took, Worked, worker_of}
use Rattle.core_events.specs.Histories.{DoneJob, job_done}

-- The client has no job there, or one that is not done, or one that is done and whose answer it has not fetched.
pub data JobPlace : Type 0 where
  Nowhere : JobPlace
  Asked : (job : CoreJob) → JobPlace
  Answered : (job : CoreJob) (answer : JobOutcome) → JobPlace

abbrev pub is_out : JobPlace → Bool
is_out Nowhere = false
is_out (Asked job) = true
is_out (Answered job answer) = true

abbrev is_done : JobPlace → Bool
is_done Nowhere = false
is_done (Asked job) = false
is_done (Answered job answer) = true

pub nowhere-asked : (job : CoreJob) → Nowhere ≡ Asked job → ⊥
nowhere-asked job e = false≢true (ap is_out e)

pub nowhere-answered : (job : CoreJob) (answer : JobOutcome) → Nowhere ≡ Answered job answer → ⊥
nowhere-answered job answer e = false≢true (ap is_out e)

pub asked-answered : (job other : CoreJob) (answer : JobOutcome) → Asked job ≡ Answered other answer → ⊥
asked-answered job other answer e = false≢true (ap is_done e)

-- The place after a call and after a move. The tests say whether it is on this mail, and whether it is this client's.
abbrev pub place_after_post : Bool → Bool → CoreJob → JobPlace → JobPlace
place_after_post true true job p = Asked job
place_after_post true false job p = p
place_after_post false own job p = p

abbrev pub place_after_fetch : Bool → Bool → JobPlace → JobPlace
place_after_fetch true true p = Nowhere
place_after_fetch true false p = p
place_after_fetch false own p = p

abbrev pub place_after_call : ℕ → Bool → ClientCall → JobPlace → JobPlace
place_after_call mail own (Post other job) p = place_after_post (other == mail) own job p
place_after_call mail own (Fetch other answer) p = place_after_fetch (other == mail) own p
place_after_call mail own call p = p

abbrev pub place_where : Bool → JobPlace → JobPlace → JobPlace
place_where true new p = new
place_where false new p = p

abbrev pub place_with_done : ℕ → Option DoneJob → JobPlace → JobPlace
place_with_done client None p = p
place_with_done client (Some d) p = place_where (d.client == client) (Answered d.job d.answer) p

abbrev pub place_after_move : Bool → ℕ → WorkerState → WorkerMove → JobPlace → JobPlace
place_after_move true client worker move p = place_with_done client (job_done worker move) p
place_after_move false client worker move p = p

abbrev pub place : ℕ → ℕ → List CoreEvent → JobPlace
place mail client [] = Nowhere
place mail client (By a call ∷ es) = place_after_call mail (a == client) call (place mail client es)
place mail client (At other move ∷ es) =
    place_after_move (other == mail) client (worker_of mail es) move (place mail client es)

-- No letter is of this client.
abbrev pub Lacks : ℕ → List Letter → Type 0
Lacks a [] = Unit {0}
Lacks a (x ∷ queue) = (x.client ≡ a → ⊥) × Lacks a queue

-- A letter is its client's job, and the only one of it.
pub record IsLetter (places : ℕ → JobPlace) (x : Letter) (queue : List Letter) : Type 0 where
  pub asked : places x.client ≡ Asked x.job
  pub only : Lacks x.client queue

abbrev pub AreQueued : (ℕ → JobPlace) → List Letter → Type 0
AreQueued places [] = Unit {0}
AreQueued places (x ∷ queue) = IsLetter places x queue × AreQueued places queue

-- The job that the worker has.
pub record HasTaken (places : ℕ → JobPlace) (queue : List Letter) (client : ℕ) (job : CoreJob) : Type 0 where
  pub asked : places client ≡ Asked job
  pub lacks : Lacks client queue

pub record HasWorked (places : ℕ → JobPlace) (replies : ℕ → Option JobOutcome) (client : ℕ) (job : CoreJob)
    (answer : JobOutcome) : Type 0 where
  pub answered : places client ≡ Answered job answer
  pub unsaid : replies client ≡ None

abbrev pub IsBusy : (ℕ → JobPlace) → List Letter → (ℕ → Option JobOutcome) → WorkerState → Type 0
IsBusy places queue replies Free = Unit {0}
IsBusy places queue replies (Took client job) = HasTaken places queue client job
IsBusy places queue replies (Worked client job answer) = HasWorked places replies client job answer

-- A mail and its worker go with the places.
pub record FitsPlaces (places : ℕ → JobPlace) (queue : List Letter) (replies : ℕ → Option JobOutcome)
    (worker : WorkerState) : Type 0 where
  pub letters : AreQueued places queue
  pub held : (a : ℕ) (answer : JobOutcome) → replies a ≡ Some answer → (job : CoreJob) × (places a ≡ Answered job answer)
  pub busy : IsBusy places queue replies worker

-- A client whose job is not asked has no letter.
pub lacks-unasked : (places : ℕ → JobPlace) (queue : List Letter) (a : ℕ) → AreQueued places queue
    → ((job : CoreJob) → places a ≡ Asked job → ⊥) → Lacks a queue
lacks-unasked places [] a q none = tt
lacks-unasked places (x ∷ queue) a q none =
    ((λ same. none x.job (ap places (sym same) ∙ q.0.asked)), lacks-unasked places queue a q.1 none)

-- Other places stay.
abbrev pub OthersStay : (ℕ → JobPlace) → (ℕ → JobPlace) → ℕ → Type 0
OthersStay old new a = (c : ℕ) → (c ≡ a → ⊥) → new c ≡ old c

pub queued-others : (old new : ℕ → JobPlace) (queue : List Letter) (a : ℕ) → OthersStay old new a → Lacks a queue
    → AreQueued old queue → AreQueued new queue
queued-others old new [] a stay lacks q = tt
queued-others old new (x ∷ queue) a stay lacks q =
    (record { asked = stay x.client lacks.0 ∙ q.0.asked; only = q.0.only }, queued-others old new queue a stay lacks.1 q.1)

lacks-more : (queue : List Letter) (a : ℕ) (x : Letter) → (x.client ≡ a → ⊥) → Lacks a queue → Lacks a (queue ++ x ∷ [])
lacks-more [] a x other lacks = (other, tt)
lacks-more (y ∷ queue) a x other lacks = (lacks.0, lacks-more queue a x other lacks.1)

queued-more : (places : ℕ → JobPlace) (queue : List Letter) (x : Letter) → places x.client ≡ Asked x.job
    → Lacks x.client queue → AreQueued places queue → AreQueued places (queue ++ x ∷ [])
queued-more places [] x asked lacks q = (record { asked = asked; only = tt }, tt)
queued-more places (y ∷ queue) x asked lacks q = (
  record { asked = q.0.asked; only = lacks-more queue y.client x (λ same. lacks.0 (sym same)) q.0.only },
  queued-more places queue x asked lacks.1 q.1,
)

-- A client posts a job where it has none.
pub after-post : (old new : ℕ → JobPlace) (queue : List Letter) (replies : ℕ → Option JobOutcome) (worker : WorkerState)
    (a : ℕ) (job : CoreJob) → old a ≡ Nowhere → new a ≡ Asked job → OthersStay old new a
    → FitsPlaces old queue replies worker → FitsPlaces new (queue ++ letter a job ∷ []) replies worker
after-post old new queue replies worker a job free asked stay f = record {
  letters = queued-more new queue (letter a job) asked none (queued-others old new queue a stay none f.letters);
  held = λ c answer is.
      let h = f.held c answer is in
      (h.0, stay c (λ same. nowhere-answered h.0 answer (sym free ∙ ap old (sym same) ∙ h.1)) ∙ h.1);
  busy = busy-more worker f.busy;
} where
  none : Lacks a queue
  none = lacks-unasked old queue a f.letters (λ other e. nowhere-asked other (sym free ∙ e))

  busy-more : (w : WorkerState) → IsBusy old queue replies w → IsBusy new (queue ++ letter a job ∷ []) replies w
  busy-more Free b = tt
  busy-more (Took c other) b =
      let apart : (c ≡ a → ⊥) = (λ same. nowhere-asked other (sym free ∙ ap old (sym same) ∙ b.asked)) in
      record { asked = stay c apart ∙ b.asked; lacks = lacks-more queue c (letter a job) (λ same. apart (sym same)) b.lacks }
  busy-more (Worked c other answer) b =
      let apart : (c ≡ a → ⊥) = (λ same. nowhere-answered other answer (sym free ∙ ap old (sym same) ∙ b.answered)) in
      record { answered = stay c apart ∙ b.answered; unsaid = b.unsaid }

-- A client fetches the answer that is held for it.
pub after-fetch : (old new : ℕ → JobPlace) (queue : List Letter) (replies less : ℕ → Option JobOutcome)
    (worker : WorkerState) (a : ℕ) (answer : JobOutcome) → replies a ≡ Some answer → less a ≡ None
    → ((c : ℕ) → (c ≡ a → ⊥) → less c ≡ replies c) → OthersStay old new a
    → FitsPlaces old queue replies worker → FitsPlaces new queue less worker
after-fetch old new queue replies less worker a answer there none others stay f = record {
  letters = queued-others old new queue a stay gone f.letters;
  held = λ c said is.
      let apart : (c ≡ a → ⊥) = (λ same. none-some said (sym none ∙ ap less (sym same) ∙ is)) in
      let h = f.held c said (sym (others c apart) ∙ is) in
      (h.0, stay c apart ∙ h.1);
  busy = busy-less worker f.busy;
} where
  done : (job : CoreJob) × (old a ≡ Answered job answer)
  done = f.held a answer there

  gone : Lacks a queue
  gone = lacks-unasked old queue a f.letters (λ job e. asked-answered job done.0 answer (sym e ∙ done.1))

  busy-less : (w : WorkerState) → IsBusy old queue replies w → IsBusy new queue less w
  busy-less Free b = tt
  busy-less (Took c job) b =
      record {
        asked = stay c (λ same. asked-answered job done.0 answer (sym b.asked ∙ ap old same ∙ done.1)) ∙ b.asked;
        lacks = b.lacks;
      }
  busy-less (Worked c job said) b =
      let apart : (c ≡ a → ⊥) = (λ same. none-some answer (sym b.unsaid ∙ ap replies same ∙ there)) in
      record { answered = stay c apart ∙ b.answered; unsaid = others c apart ∙ b.unsaid }

-- A worker takes the oldest letter.
pub after-take : (places : ℕ → JobPlace) (queue : List Letter) (replies : ℕ → Option JobOutcome) (a : ℕ) (job : CoreJob)
    → FitsPlaces places (letter a job ∷ queue) replies Free → FitsPlaces places queue replies (Took a job)
after-take places queue replies a job f = record {
  letters = f.letters.1;
  held = f.held;
  busy = record { asked = f.letters.0.asked; lacks = f.letters.0.only };
}

-- Nothing is held for a client whose job is asked.
none-held : (places : ℕ → JobPlace) (replies : ℕ → Option JobOutcome) (a : ℕ) (job : CoreJob) (o : Option JobOutcome)
    → ((answer : JobOutcome) → replies a ≡ Some answer → (other : CoreJob) × (places a ≡ Answered other answer))
    → places a ≡ Asked job → replies a ≡ o → replies a ≡ None
none-held places replies a job None held asked is = is
none-held places replies a job (Some answer) held asked is =
    let h = held answer is in absurd (asked-answered job h.0 answer (sym asked ∙ h.1))

-- It does the job.
pub after-work : (old new : ℕ → JobPlace) (queue : List Letter) (replies : ℕ → Option JobOutcome) (a : ℕ) (job : CoreJob)
    (answer : JobOutcome) → new a ≡ Answered job answer → OthersStay old new a
    → FitsPlaces old queue replies (Took a job) → FitsPlaces new queue replies (Worked a job answer)
after-work old new queue replies a job answer done stay f = record {
  letters = queued-others old new queue a stay f.busy.lacks f.letters;
  held = λ c said is.
      let h = f.held c said is in
      (h.0, stay c (λ same. asked-answered job h.0 said (sym f.busy.asked ∙ ap old (sym same) ∙ h.1)) ∙ h.1);
  busy = record {
    answered = done;
    unsaid = none-held old replies a job (replies a) (f.held a) f.busy.asked refl;
  };
}

-- It replies.
pub after-reply : (places : ℕ → JobPlace) (queue : List Letter) (replies more : ℕ → Option JobOutcome) (a : ℕ)
    (job : CoreJob) (answer : JobOutcome) → more a ≡ Some answer → ((c : ℕ) → (c ≡ a → ⊥) → more c ≡ replies c)
    → FitsPlaces places queue replies (Worked a job answer) → FitsPlaces places queue more Free
after-reply places queue replies more a job answer there others f = record {
  letters = f.letters;
  held = λ c said is. elim (eqb_tells c a) [
    | inl same ↦
        let what : answer ≡ said = same_Some answer said (sym there ∙ ap more (sym same.1) ∙ is) in
        (job, ap places same.1 ∙ f.busy.answered ∙ ap (Answered job) what)
    | inr apart ↦ f.held c said (sym (others c apart.1) ∙ is)
  ];
  busy = tt;
}

-- The flusher replies at once.
pub after-flush : (old new : ℕ → JobPlace) (queue : List Letter) (replies more : ℕ → Option JobOutcome) (a : ℕ)
    (job : CoreJob) (answer : JobOutcome) → new a ≡ Answered job answer → OthersStay old new a → more a ≡ Some answer
    → ((c : ℕ) → (c ≡ a → ⊥) → more c ≡ replies c)
    → FitsPlaces old queue replies (Took a job) → FitsPlaces new queue more Free
after-flush old new queue replies more a job answer done stay there others f =
    after-reply new queue replies more a job answer there others (after-work old new queue replies a job answer done stay f)
