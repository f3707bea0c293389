-- What was posted to a mail, what its worker took and made, and what became of a client's last job.
-- Source: this project's own.
use Rattle.std.specs.Prelude.{◌≡◌, ℕ, Bool, true, false, ◌||◌, ◌==◌, List, [], ◌∷◌, ◌++◌, Option, Some, None, if◌then◌else◌}
use Rattle.core_events.specs.Jobs.{CoreJob, JobOutcome}
use Rattle.core_events.specs.Events.{ClientCall, Post, WorkerMove, Take, Work, Reply, CoreEvent, By, At}
use Rattle.core_events.specs.Cells.{Letter, letter, WorkerState, Free, Took, Worked, queue_of, reply_for, worker_of}

-- All jobs that were posted to a mail, the oldest first. The tests say whether a call or move is on this mail.
abbrev pub letters_after : Bool → Letter → List Letter → List Letter
letters_after true new letters = letters ++ new ∷ []
letters_after false new letters = letters

abbrev pub posts_after : ℕ → ℕ → ClientCall → List Letter → List Letter
posts_after mail a (Post other job) letters = letters_after (other == mail) (letter a job) letters
posts_after mail a call letters = letters

abbrev pub posts_of : ℕ → List CoreEvent → List Letter
posts_of mail [] = []
posts_of mail (By a call ∷ es) = posts_after mail a call (posts_of mail es)
posts_of mail (At other move ∷ es) = posts_of mail es

-- All jobs that its worker took.
abbrev pub takes_after : Bool → WorkerMove → List Letter → List Letter
takes_after here (Take client job) letters = letters_after here (letter client job) letters
takes_after here move letters = letters

abbrev pub takes_of : ℕ → List CoreEvent → List Letter
takes_of mail [] = []
takes_of mail (By a call ∷ es) = takes_of mail es
takes_of mail (At other move ∷ es) = takes_after (other == mail) move (takes_of mail es)

-- A job that was done, with its answer.
pub record DoneJob : Type 0 where
  pub client : ℕ
  pub job : CoreJob
  pub answer : JobOutcome

-- What a worker's move does of the job that it has taken: it makes it on the shard, or, at the flusher's mail, answers
-- a FLUSH that was done by the flusher's own calls.
abbrev pub job_done : WorkerState → WorkerMove → Option DoneJob
job_done (Took client job) (Work made answer) = Some (record { client = client; job = made; answer = answer })
job_done (Took client job) (Reply to answer) = Some (record { client = to; job = job; answer = answer })
job_done worker move = None

abbrev pub with_done : Option DoneJob → List DoneJob → List DoneJob
with_done None done = done
with_done (Some d) done = done ++ d ∷ []

abbrev pub done_after : Bool → WorkerState → WorkerMove → List DoneJob → List DoneJob
done_after true worker move done = with_done (job_done worker move) done
done_after false worker move done = done

-- All jobs of a mail that were done, in order.
abbrev pub jobs_done : ℕ → List CoreEvent → List DoneJob
jobs_done mail [] = []
jobs_done mail (By a call ∷ es) = jobs_done mail es
jobs_done mail (At other move ∷ es) = done_after (other == mail) (worker_of mail es) move (jobs_done mail es)

-- The letters of these.
abbrev pub letters_of : List DoneJob → List Letter
letters_of [] = []
letters_of (d ∷ done) = letter d.client d.job ∷ letters_of done

-- The job that a worker has still to do.
abbrev pub job_to_come : WorkerState → List Letter
job_to_come Free = []
job_to_come (Took client job) = letter client job ∷ []
job_to_come (Worked client job answer) = []

-- The last job that a client posted to a mail.
abbrev pub last_after_post : Bool → Bool → CoreJob → Option CoreJob → Option CoreJob
last_after_post true true job last = Some job
last_after_post true false job last = last
last_after_post false own job last = last

abbrev pub last_after : ℕ → Bool → ClientCall → Option CoreJob → Option CoreJob
last_after mail own (Post other job) last = last_after_post (other == mail) own job last
last_after mail own call last = last

abbrev pub last_post : ℕ → ℕ → List CoreEvent → Option CoreJob
last_post mail client [] = None
last_post mail client (By a call ∷ es) = last_after mail (a == client) call (last_post mail client es)
last_post mail client (At other move ∷ es) = last_post mail client es

-- What was done for a client since its last post to a mail, the newest first.
abbrev pub since_after_post : Bool → Bool → List DoneJob → List DoneJob
since_after_post true true done = []
since_after_post true false done = done
since_after_post false own done = done

abbrev pub since_after : ℕ → Bool → ClientCall → List DoneJob → List DoneJob
since_after mail own (Post other job) done = since_after_post (other == mail) own done
since_after mail own call done = done

abbrev pub with_own_done : ℕ → Option DoneJob → List DoneJob → List DoneJob
with_own_done client None done = done
with_own_done client (Some d) done = if d.client == client then d ∷ done else done

abbrev pub since_after_move : Bool → ℕ → WorkerState → WorkerMove → List DoneJob → List DoneJob
since_after_move true client worker move done = with_own_done client (job_done worker move) done
since_after_move false client worker move done = done

abbrev pub done_since_post : ℕ → ℕ → List CoreEvent → List DoneJob
done_since_post mail client [] = []
done_since_post mail client (By a call ∷ es) =
    since_after mail (a == client) call (done_since_post mail client es)
done_since_post mail client (At other move ∷ es) =
    since_after_move (other == mail) client (worker_of mail es) move (done_since_post mail client es)

-- One job was done for the client since its last post to the mail: the job that was posted, and this was its answer.
pub record IsAnswered (mail client : ℕ) (answer : JobOutcome) (es : List CoreEvent) : Type 0 where
  pub job : CoreJob
  pub asked : last_post mail client es ≡ Some job
  pub once : done_since_post mail client es ≡ record { client = client; job = job; answer = answer } ∷ []

-- A client has a job in a queue, and a worker has a client's job.
abbrev pub has_letter_of : ℕ → List Letter → Bool
has_letter_of client [] = false
has_letter_of client (x ∷ queue) = x.client == client || has_letter_of client queue

abbrev pub is_serving : ℕ → WorkerState → Bool
is_serving client Free = false
is_serving client (Took other job) = other == client
is_serving client (Worked other job answer) = other == client

-- The job that a worker has.
abbrev pub job_served : WorkerState → Option CoreJob
job_served Free = None
job_served (Took client job) = Some job
job_served (Worked client job answer) = Some job

-- The client's job is out: the worker has it, and it has neither a job in the queue nor an answer to fetch.
pub record HasJobOut (queue : List Letter) (held : Option JobOutcome) (by : WorkerState) (client : ℕ) : Type 0 where
  pub letter : has_letter_of client queue ≡ false
  pub worker : is_serving client by ≡ true
  pub reply : held ≡ None

-- The client has no job at the mail, neither in the queue nor at the worker, and no answer to fetch.
pub record HasNoJob (mail client : ℕ) (es : List CoreEvent) : Type 0 where
  pub letter : has_letter_of client (queue_of mail es) ≡ false
  pub worker : is_serving client (worker_of mail es) ≡ false
  pub reply : reply_for mail client es ≡ None
