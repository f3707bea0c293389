-- A job that is out is of its client's group, and the snapshot of a query is held.
use Rattle.std.proofs.Common.{◌≡◌, ◌⊎◌, ◌∙◌, ℕ, ◌==◌, Bool, true, false, ◌||◌, List, [], ◌∷◌, Option, Some, None, IsSomeAnd, inl, inr, refl, sym, ap, eqb-true, if◌then◌else◌}
use Rattle.std.specs.Option.{option_map_or}
use Rattle.std.proofs.lemmas.Bool.{false≢true}
use Rattle.cube_values.specs.declared.query.BoundQuery.{BoundQuery}
use Rattle.cube_values.specs.declared.snapshot.Snapshot.{Snapshot}
use Rattle.core_events.specs.Jobs.{CoreJob, Append, DropBox, Scan, Delta, Rollback, Purge, CopyRound, Flush, JobOutcome}
use Rattle.core_events.specs.Events.{Opening, IsSession, flusher, DeskEvent, OpenRead, CloseRead, ClientCall, OnDesk, OnNames, Post, Fetch, CloseMail, NoChange, WorkerMove, CoreEvent, By, At}
use Rattle.core_events.specs.Groups.{GroupKind, Asks, kind_of, Received, JobGroup, no_group, has_number, is_empty, has_ended, mails_of, group_after_post}
use Rattle.core_events.specs.Clients.{Holding, ClientState, client_state, client_after_call, held_under, leader_after, others_hold, ends_group}
use Rattle.core_events.specs.Cells.{WorkerState, worker_of, queue_of, reply_for}
use Rattle.core_events.specs.Fitting.{FitsCall, IsNumberOf, MayScan, BeginsGroup, JoinsGroup, FitsWork, round_progress}
use Rattle.core_events.specs.Runs.{IsCoreRun}
use Rattle.core_events.specs.Histories.{DoneJob, job_done}
use Rattle.core_events.proofs.Places.{JobPlace, Nowhere, Asked, Answered, is_out, place, place_after_post, place_after_fetch, place_after_call, place_where, place_with_done, place_after_move}
use Rattle.core_events.proofs.Posted.{run-posted, ended-empty, ends-empty, empty-has-none, none-out, done-asked}
use Rattle.core_serial.proofs.Isolation.{holds-stay}

-- A job is of a group that has no answer of its mail.
pub record Suits (mail : ℕ) (g : JobGroup) (job : CoreJob) : Type 0 where
  pub kind : kind_of job ≡ g.kind
  pub unanswered : has_number (mails_of g.answers) mail ≡ false

abbrev pub SuitsAt : ℕ → JobGroup → JobPlace → Type 0
SuitsAt mail g Nowhere = Unit {0}
SuitsAt mail g (Asked job) = Suits mail g job
SuitsAt mail g (Answered job answer) = Suits mail g job

-- A group after a post, where the last one has ended or not.
abbrev group_posted : Bool → ℕ → CoreJob → JobGroup → JobGroup
group_posted ended mail job g =
    if ended then record { kind = kind_of job; waits = mail ∷ []; answers = [] } else record g { waits = mail ∷ g.waits }

posted-suits : (ended : Bool) (shards other mail : ℕ) (job : CoreJob) (g : JobGroup) → has_ended shards g ≡ ended → other ≡ mail
    → BeginsGroup shards job g ⊎ JoinsGroup shards other job g → Suits mail (group_posted ended other job g) job
posted-suits true shards other mail job g e same f = record { kind = refl; unanswered = refl }
posted-suits false shards other mail job g e same (inl begins) = absurd (false≢true (sym e ∙ begins.ended))
posted-suits false shards other mail job g e same (inr joins) =
    record { kind = joins.kind; unanswered = ap (has_number (mails_of g.answers)) (sym same) ∙ joins.not_done }

nowhere-suits : (mail : ℕ) (g : JobGroup) (p : JobPlace) → is_out p ≡ false → SuitsAt mail g p
nowhere-suits mail g p e = coe 1 0 (i. SuitsAt mail g (none-out p e i)) tt

-- The same kind, and no answer of this mail more.
suits-with : (mail : ℕ) (g h : JobGroup) (p : JobPlace) → h.kind ≡ g.kind
    → (has_number (mails_of g.answers) mail ≡ false → has_number (mails_of h.answers) mail ≡ false)
    → SuitsAt mail g p → SuitsAt mail h p
suits-with mail g h Nowhere kind answers s = tt
suits-with mail g h (Asked job) kind answers s = record { kind = s.kind ∙ sym kind; unanswered = answers s.unanswered }
suits-with mail g h (Answered job answer) kind answers s =
    record { kind = s.kind ∙ sym kind; unanswered = answers s.unanswered }

others-suit : (ended : Bool) (shards other mail : ℕ) (job : CoreJob) (g : JobGroup) (p : JobPlace) → has_ended shards g ≡ ended
    → has_number g.waits mail ≡ is_out p → SuitsAt mail g p → SuitsAt mail (group_posted ended other job g) p
others-suit true shards other mail job g p e tied s =
    nowhere-suits mail (group_posted true other job g) p (sym tied ∙ empty-has-none g.waits mail (ended-empty shards g e))
others-suit false shards other mail job g p e tied s = suits-with mail g (group_posted false other job g) p refl (λ x. x) s

post-suits : (here : Bool) (o : Opening) (other mail : ℕ) (job : CoreJob) (g : JobGroup) (p : JobPlace) → (other == mail) ≡ here
    → BeginsGroup o.shards job g ⊎ JoinsGroup o.shards other job g
    → has_number g.waits mail ≡ is_out p → SuitsAt mail g p
    → SuitsAt mail (group_after_post o.shards other job g) (place_after_post here true job p)
post-suits true o other mail job g p is f tied s =
    posted-suits (has_ended o.shards g) o.shards other mail job g refl (eqb-true other mail is) f
post-suits false o other mail job g p is f tied s =
    others-suit (has_ended o.shards g) o.shards other mail job g p refl tied s

fetch-suits : (here : Bool) (other mail : ℕ) (answer : JobOutcome) (g h : JobGroup) (p : JobPlace) → (other == mail) ≡ here
    → h.kind ≡ g.kind → h.answers ≡ record { mail = other; answer = answer } ∷ g.answers → SuitsAt mail g p
    → SuitsAt mail h (place_after_fetch here true p)
fetch-suits true other mail answer g h p is kind answers s = tt
fetch-suits false other mail answer g h p is kind answers s =
    suits-with mail g h p kind
    (λ none. ap (λ (xs : List Received). has_number (mails_of xs) mail) answers ∙ (λ i. is i || none i)) s

ends-suits : (ends : Bool) (mail : ℕ) (g : JobGroup) (p : JobPlace) → (ends ≡ true → is_empty g.waits ≡ true)
    → has_number g.waits mail ≡ is_out p → SuitsAt mail g p → SuitsAt mail (if ends then no_group else g) p
ends-suits true mail g p empty tied s = nowhere-suits mail no_group p (sym tied ∙ empty-has-none g.waits mail (empty refl))
ends-suits false mail g p empty tied s = s

post-others : (here : Bool) (mail : ℕ) (job : CoreJob) (g : JobGroup) (p : JobPlace) → SuitsAt mail g p
    → SuitsAt mail g (place_after_post here false job p)
post-others true mail job g p s = s
post-others false mail job g p s = s

fetch-others : (here : Bool) (mail : ℕ) (g : JobGroup) (p : JobPlace) → SuitsAt mail g p
    → SuitsAt mail g (place_after_fetch here false p)
fetch-others true mail g p s = s
fetch-others false mail g p s = s

call-suits : (o : Opening) (own : Bool) (a : ℕ) (call : ClientCall) (k : ClientState) (mail : ℕ) (p : JobPlace)
    → (own ≡ true → FitsCall o a call k) → has_number k.group.waits mail ≡ is_out p → SuitsAt mail k.group p
    → SuitsAt mail (client_after_call o own a call k).group (place_after_call mail own call p)
call-suits o true a (Post other job) k mail p f tied s =
    post-suits (other == mail) o other mail job k.group p refl (f refl).group tied s
call-suits o true a (Fetch other answer) k mail p f tied s =
    fetch-suits (other == mail) other mail answer k.group (client_after_call o true a (Fetch other answer) k).group p refl refl refl s
call-suits o true a (OnDesk call) k mail p f tied s =
    ends-suits (ends_group (OnDesk call)) mail k.group p (ends-empty o a (OnDesk call) k (f refl)) tied s
call-suits o true a (OnNames call) k mail p f tied s = s
call-suits o true a (CloseMail other) k mail p f tied s = s
call-suits o true a NoChange k mail p f tied s = s
call-suits o false a (Post other job) k mail p f tied s = post-others (other == mail) mail job k.group p s
call-suits o false a (Fetch other answer) k mail p f tied s = fetch-others (other == mail) mail k.group p s
call-suits o false a (OnDesk call) k mail p f tied s = s
call-suits o false a (OnNames call) k mail p f tied s = s
call-suits o false a (CloseMail other) k mail p f tied s = s
call-suits o false a NoChange k mail p f tied s = s

where-suits : (own : Bool) (mail : ℕ) (g : JobGroup) (job : CoreJob) (answer : JobOutcome) (p : JobPlace)
    → (own ≡ true → p ≡ Asked job) → SuitsAt mail g p → SuitsAt mail g (place_where own (Answered job answer) p)
where-suits true mail g job answer p asked s = coe 0 1 (i. SuitsAt mail g (asked refl i)) s
where-suits false mail g job answer p asked s = s

done-suits : (x : Option DoneJob) (mail a : ℕ) (g : JobGroup) (p : JobPlace)
    → ((d : DoneJob) → x ≡ Some d → d.client ≡ a → p ≡ Asked d.job) → SuitsAt mail g p → SuitsAt mail g (place_with_done a x p)
done-suits None mail a g p asked s = s
done-suits (Some d) mail a g p asked s =
    where-suits (d.client == a) mail g d.job d.answer p (λ own. asked d refl (eqb-true d.client a own)) s

move-suits : (here : Bool) (mail a : ℕ) (worker : WorkerState) (move : WorkerMove) (g : JobGroup) (p : JobPlace)
    → (here ≡ true → (d : DoneJob) → job_done worker move ≡ Some d → d.client ≡ a → p ≡ Asked d.job)
    → SuitsAt mail g p → SuitsAt mail g (place_after_move here a worker move p)
move-suits true mail a worker move g p asked s = done-suits (job_done worker move) mail a g p (asked refl) s
move-suits false mail a worker move g p asked s = s

pub own-fits : (o : Opening) (a b : ℕ) (call : ClientCall) (es : List CoreEvent) → FitsCall o b call (client_state o b es)
    → (b == a) ≡ true → FitsCall o a call (client_state o a es)
own-fits o a b call es f own =
    let same = eqb-true b a own in coe 0 1 (i. FitsCall o (same i) call (client_state o (same i) es)) f

-- The job of a move was asked by its client.
pub moved-asked : (o : Opening) (es : List CoreEvent) (other mail a : ℕ) (move : WorkerMove) → IsCoreRun o (At other move ∷ es)
    → (other == mail) ≡ true → (d : DoneJob) → job_done (worker_of mail es) move ≡ Some d → d.client ≡ a
    → place mail a es ≡ Asked d.job
moved-asked o es other mail a move run here d is own =
    let same = eqb-true other mail here in
    let q = round_progress o es in
    let lost = (client_state o (flusher o) es).store_lost in
    ap (λ (c : ℕ). place mail c es) (sym own)
    ∙ done-asked q lost move (λ c. place mail c es) (queue_of mail es) (λ c. reply_for mail c es) (worker_of mail es) d
    (coe 0 1 (i. FitsWork q lost (worker_of (same i) es) move) run.1.fits) ((run-posted o es run.0).posted mail) is

pub run-suits : (o : Opening) (es : List CoreEvent) (mail a : ℕ) → IsCoreRun o es
    → SuitsAt mail (client_state o a es).group (place mail a es)
run-suits o [] mail a run = tt
run-suits o (By b call ∷ es) mail a run =
    call-suits o (b == a) a call (client_state o a es) mail (place mail a es) (own-fits o a b call es run.1.fits)
    ((run-posted o es run.0).tied a mail) (run-suits o es mail a run.0)
run-suits o (At other move ∷ es) mail a run =
    move-suits (other == mail) mail a (worker_of mail es) move (client_state o a es).group (place mail a es)
    (moved-asked o es other mail a move run) (run-suits o es mail a run.0)

-- The leader is a number of the session.

abbrev LeaderFits : ℕ → Option ℕ → Type 0
LeaderFits a None = Unit {0}
LeaderFits a (Some number) = IsNumberOf a number

open-leader : (stays : Bool) (a number : ℕ) (leader : Option ℕ) → IsNumberOf a number → LeaderFits a leader
    → LeaderFits a (if stays then leader else Some number)
open-leader true a number leader n l = l
open-leader false a number leader n l = n

close-leader : (gone : Bool) (a : ℕ) (leader : Option ℕ) → LeaderFits a leader → LeaderFits a (if gone then None else leader)
close-leader true a leader l = tt
close-leader false a leader l = l

call-leader : (o : Opening) (a : ℕ) (call : ClientCall) (k : ClientState) → FitsCall o a call k → LeaderFits a k.leader
    → LeaderFits a (leader_after a call k.holds k.leader)
call-leader o a (OnDesk (OpenRead number statement epoch)) k f l =
    open-leader (number == a || others_hold a k.holds) a number k.leader f.under l
call-leader o a (OnDesk (CloseRead number statement)) k f l =
    close-leader (option_map_or (λ x. x == number) k.leader false) a k.leader l
call-leader o a call k f l = l

own-leader : (o : Opening) (own : Bool) (a : ℕ) (call : ClientCall) (k : ClientState) → (own ≡ true → FitsCall o a call k)
    → LeaderFits a k.leader → LeaderFits a (client_after_call o own a call k).leader
own-leader o true a call k f l = call-leader o a call k (f refl) l
own-leader o false a call k f l = l

run-leader : (o : Opening) (es : List CoreEvent) (a : ℕ) → IsCoreRun o es → LeaderFits a (client_state o a es).leader
run-leader o [] a run = tt
run-leader o (By b call ∷ es) a run =
    own-leader o (b == a) a call (client_state o a es) (own-fits o a b call es run.1.fits) (run-leader o es a run.0)
run-leader o (At mail move ∷ es) a run = run-leader o es a run.0

-- The snapshot of a query is held under a number of the client.
pub record AsksBy (o : Opening) (a : ℕ) (holds : List Holding) (s : Snapshot) : Type 0 where
  pub number : ℕ
  pub session : IsSession o a
  pub under : IsNumberOf a number
  pub held : held_under number holds ≡ Some s

abbrev pub is_asking : GroupKind → Bool
is_asking (Asks query snapshot) = true
is_asking kind = false

abbrev asked_snapshot : Snapshot → GroupKind → Snapshot
asked_snapshot default (Asks query snapshot) = snapshot
asked_snapshot default kind = default

abbrev AskHeld : Opening → ℕ → ClientState → Type 0
AskHeld o a k = (q : BoundQuery) (s : Snapshot) → k.group.kind ≡ Asks q s → AsksBy o a k.holds s

scan-held : (o : Opening) (a : ℕ) (k : ClientState) (s : Snapshot) → IsSession o a → LeaderFits a k.leader → MayScan a s k
    → AsksBy o a k.holds s
scan-held o a k s session l (inl own) = record { number = a; session = session; under = inl refl; held = own }
scan-held o a k s session l (inr leads) = by-leader k.leader l leads
  where
    by-leader : (leader : Option ℕ) → LeaderFits a leader → IsSomeAnd leader (λ holder. held_under holder k.holds ≡ Some s)
        → AsksBy o a k.holds s
    by-leader None l leads = absurd leads
    by-leader (Some holder) l leads = record { number = holder; session = session; under = l; held = leads }

-- A job that begins a query has a snapshot that is held.
job-held : (o : Opening) (a mail : ℕ) (job : CoreJob) (k : ClientState) (q : BoundQuery) (s : Snapshot) → FitsCall o a (Post mail job) k
    → LeaderFits a k.leader → kind_of job ≡ Asks q s → AsksBy o a k.holds s
job-held o a mail (Append cube epoch rows) k q s f l e = absurd (false≢true (ap is_asking e))
job-held o a mail (DropBox cube epoch box) k q s f l e = absurd (false≢true (ap is_asking e))
job-held o a mail (Scan query snapshot) k q s f l e =
    let same = ap (asked_snapshot snapshot) e in
    coe 0 1 (i. AsksBy o a k.holds (same i)) (scan-held o a k snapshot f.bears.session l f.bears.held)
job-held o a mail (Delta query from to) k q s f l e = absurd (false≢true (ap is_asking e))
job-held o a mail (Rollback epoch) k q s f l e = absurd (false≢true (ap is_asking e))
job-held o a mail (Purge epoch) k q s f l e = absurd (false≢true (ap is_asking e))
job-held o a mail (CopyRound from to) k q s f l e = absurd (false≢true (ap is_asking e))
job-held o a mail Flush k q s f l e = absurd (false≢true (ap is_asking e))

post-held : (ended : Bool) (o : Opening) (a mail : ℕ) (job : CoreJob) (k : ClientState) (q : BoundQuery) (s : Snapshot)
    → FitsCall o a (Post mail job) k → LeaderFits a k.leader → AskHeld o a k
    → (group_posted ended mail job k.group).kind ≡ Asks q s → AsksBy o a k.holds s
post-held true o a mail job k q s f l h e = job-held o a mail job k q s f l e
post-held false o a mail job k q s f l h e = h q s e

ends-held : (ends : Bool) (o : Opening) (a : ℕ) (call : DeskEvent) (k : ClientState) (q : BoundQuery) (s : Snapshot)
    → ends_group (OnDesk call) ≡ ends → AskHeld o a k → (if ends then no_group else k.group).kind ≡ Asks q s
    → AsksBy o a (client_after_call o true a (OnDesk call) k).holds s
ends-held true o a call k q s is h e = absurd (false≢true (ap is_asking e))
ends-held false o a call k q s is h e =
    coe 1 0 (i. AsksBy o a (holds-stay a (OnDesk call) k.holds is i) s) (h q s e)

call-held : (o : Opening) (own : Bool) (a : ℕ) (call : ClientCall) (k : ClientState) → (own ≡ true → FitsCall o a call k)
    → LeaderFits a k.leader → AskHeld o a k → AskHeld o a (client_after_call o own a call k)
call-held o true a (Post mail job) k f l h q s e = post-held (has_ended o.shards k.group) o a mail job k q s (f refl) l h e
call-held o true a (Fetch mail answer) k f l h q s e = h q s e
call-held o true a (OnDesk call) k f l h q s e = ends-held (ends_group (OnDesk call)) o a call k q s refl h e
call-held o true a (OnNames call) k f l h q s e = h q s e
call-held o true a (CloseMail mail) k f l h q s e = h q s e
call-held o true a NoChange k f l h q s e = h q s e
call-held o false a call k f l h q s e = h q s e

pub run-held : (o : Opening) (es : List CoreEvent) (a : ℕ) → IsCoreRun o es → AskHeld o a (client_state o a es)
run-held o [] a run = λ q s e. absurd (false≢true (ap is_asking e))
run-held o (By b call ∷ es) a run =
    call-held o (b == a) a call (client_state o a es) (own-fits o a b call es run.1.fits) (run-leader o es a run.0)
    (run-held o es a run.0)
run-held o (At mail move ∷ es) a run = run-held o es a run.0
