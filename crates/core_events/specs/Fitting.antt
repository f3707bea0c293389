-- Which calls fit: what a client's own earlier calls let it do, and a worker's own earlier moves. Nobody has to know
-- what others do.
-- Source: AOSI (ICDE 2018) for what a transaction may do; groups, rounds and holders are this project's own.
use Rattle.std.specs.Prelude.{◌≡◌, ◌≢◌, ◌⊎◌, ℕ, ◌%◌, ◌<◌, ◌≤◌, Bool, true, false, not, ◌==◌, List, [], ◌∷◌, length, map, filter, slice_get, Some, None, All, IfSome, IsSomeAnd}
use Rattle.cube_values.specs.declared.query.BoundQuery.{BoundQuery}
use Rattle.cube_values.specs.declared.row.CodedRow.{CodedRow}
use Rattle.cube_values.specs.declared.snapshot.Snapshot.{Snapshot}
use Rattle.cube_values.specs.declared.span.Span.{Span}
use Rattle.cube_values.specs.Queries.{IsSoundQuery}
use Rattle.cube_values.specs.Spans.{span_has}
use Rattle.cube_language.specs.declared.decl.Decl.{Decl}
use Rattle.cube_language.specs.declared.statement.Statement.TheVariants as asked
use Rattle.cube_language.specs.Cubes.{IsStorable}
use Rattle.cube_language.specs.Grammar.{IsProper}
use Rattle.cube_journal.specs.declared.note.Note.{Note}
use Rattle.cube_journal.specs.declared.note.Note.TheVariants as note
use Rattle.cube_run.specs.SessionStates.{first_holder, second_holder}
use Rattle.brick_address.specs.Addresses.{brick_of, AreCoords}
use Rattle.aosi_desk.specs.declared.answer.RoundAnswer.{RoundAnswer}
use Rattle.aosi_desk.specs.declared.answer.RoundAnswer.TheVariants.{Target, Nothing}
use Rattle.aosi_desk.specs.declared.answer.RoundEnd.TheVariants.{Safe}
use Rattle.aosi_desk.specs.Desks.{is_cube_code}
use Rattle.names_dict.specs.Dictionaries.{IsTextDimension}
use Rattle.core_events.specs.Jobs.{CoreJob, Append, DropBox, Scan, Delta, Rollback, Purge, CopyRound, Flush, JobOutcome, Done, StoreLost, OutOfMemory}
use Rattle.core_events.specs.Events.{Opening, flusher, IsSession, flush_mail, DeskEvent, OpenWrite, OpenRead, Commit, AbortEnd, CloseRead, TakeNote, CreateCube, FindCube, CubesFrom, CountersNow, RoundOpen, RoundClose, StoreFailed, NamesEvent, Encode, FindName, CopyFrom, ClientCall, OnDesk, OnNames, Post, Fetch, CloseMail, NoChange, WorkerMove, Take, NoJob, Work, Reply, CoreEvent, By, At}
use Rattle.core_events.specs.Groups.{JobGroup, RollsBack, Purges, Copies, kind_of, has_number, is_empty, has_all_below, mails_of, has_refusal, has_ended, is_ready, may_begin}
use Rattle.core_events.specs.Clients.{Holding, OwnRound, ClientState, client_state, held_under}
use Rattle.core_events.specs.Cells.{WorkerState, Free, Took, Worked, worker_of, sizes_of_cube, box_has_brick}

-- The client's own snapshot is the writer of this epoch.
abbrev pub OwnsWriter : ℕ → ℕ → ClientState → Type 0
OwnsWriter a epoch k = IsSomeAnd (held_under a k.holds) (λ s. (s.own ≡ true) × (s.epoch ≡ epoch))

-- A number under which a session holds snapshots.
abbrev pub IsNumberOf : ℕ → ℕ → Type 0
IsNumberOf session number = (number ≡ session) ⊎ ((number ≡ first_holder session) ⊎ (number ≡ second_holder session))

-- The group is complete, of this kind, and nothing of it was refused.
pub record HasAllDone (shards : ℕ) (g : JobGroup) : Type 0 where
  pub all : has_all_below shards (mails_of g.answers) ≡ true
  pub fetched : is_empty g.waits ≡ true
  pub none : has_refusal g.answers ≡ false

-- The jobs.

-- Text coordinates are numbers of names that the client was told of.
abbrev pub AreToldNames : Opening → ℕ → ClientState → List ℕ → Type 0
AreToldNames o cube k coords = (dim coord : ℕ) → IsTextDimension (o.shapes cube) dim
    → slice_get coords dim ≡ Some coord → coord < k.names cube dim

-- A row of the cube, of this shard.
pub record MayPutRow (o : Opening) (cube shard : ℕ) (k : ClientState) (row : CodedRow) : Type 0 where
  pub coords : AreCoords (sizes_of_cube o cube) row.coords
  pub of_shard : brick_of (sizes_of_cube o cube) row.coords % o.shards ≡ shard
  pub metrics : length row.metrics ≡ (o.shapes cube).metrics
  pub names : AreToldNames o cube k row.coords

pub record MayAppend (o : Opening) (a mail cube epoch : ℕ) (rows : List CodedRow) (k : ClientState) : Type 0 where
  pub session : IsSession o a
  pub writer : OwnsWriter a epoch k
  pub there : cube < k.cubes
  pub of_cube : All (MayPutRow o cube mail k) rows

-- A box has all rows of a brick or none.
abbrev pub CutsNoBrick : Opening → ℕ → Span → Type 0
CutsNoBrick o cube box = (coords : List ℕ) → AreCoords (sizes_of_cube o cube) coords
    → span_has box coords ≡ box_has_brick o cube box (brick_of (sizes_of_cube o cube) coords)

pub record MayDrop (o : Opening) (a cube epoch : ℕ) (box : Span) (k : ClientState) : Type 0 where
  pub session : IsSession o a
  pub writer : OwnsWriter a epoch k
  pub there : cube < k.cubes
  pub parts : length box.parts ≡ length (sizes_of_cube o cube)
  pub aligned : CutsNoBrick o cube box

pub record IsQueryOf (o : Opening) (query : BoundQuery) (k : ClientState) : Type 0 where
  pub there : query.cube < k.cubes
  pub sound : IsSoundQuery query (length (sizes_of_cube o query.cube)) (o.shapes query.cube).metrics

-- The snapshot is the session's own, or that of the holder that was opened while the other held nothing.
abbrev pub MayScan : ℕ → Snapshot → ClientState → Type 0
MayScan a snapshot k = (held_under a k.holds ≡ Some snapshot)
    ⊎ IsSomeAnd k.leader (λ holder. held_under holder k.holds ≡ Some snapshot)

pub record MayAsk (o : Opening) (a : ℕ) (query : BoundQuery) (snapshot : Snapshot) (k : ClientState) : Type 0 where
  pub session : IsSession o a
  pub sound : IsQueryOf o query k
  pub held : MayScan a snapshot k

-- The epochs of the readers that the session's holders hold, in the order of opening.
abbrev pub holder_epochs : ℕ → List Holding → List ℕ
holder_epochs session holds = map (λ h. h.snapshot.epoch) (filter (λ h. not (h.number == session)) holds)

pub record MayCompare (o : Opening) (a : ℕ) (query : BoundQuery) (from to : ℕ) (k : ClientState) : Type 0 where
  pub session : IsSession o a
  pub sound : IsQueryOf o query k
  pub readers : holder_epochs a k.holds ≡ from ∷ to ∷ []

-- A copy is of the open round, or of all up to it, and goes before its cubes.
pub record MayCopy (from to : ℕ) (round : OwnRound) : Type 0 where
  pub ends : to ≡ round.epoch
  pub begins : (from ≡ round.from) ⊎ (from ≡ 0)
  pub first : round.has_cubes ≡ false

-- A job bears what its client holds.
abbrev pub Bears : Opening → ℕ → ℕ → CoreJob → ClientState → Type 0
Bears o a mail (Append cube epoch rows) k = MayAppend o a mail cube epoch rows k
Bears o a mail (DropBox cube epoch box) k = MayDrop o a cube epoch box k
Bears o a mail (Scan query snapshot) k = MayAsk o a query snapshot k
Bears o a mail (Delta query from to) k = MayCompare o a query from to k
Bears o a mail (Rollback epoch) k = IsSession o a × OwnsWriter a epoch k
Bears o a mail (Purge epoch) k = (a ≤ o.sessions) × (epoch ≤ k.lse)
Bears o a mail (CopyRound from to) k = (a ≡ flusher o) × IsSomeAnd k.round (MayCopy from to)
Bears o a mail Flush k = IsSession o a

-- A FLUSH goes to the flusher's mail, every other job to a shard's.
abbrev pub IsFor : Opening → ℕ → CoreJob → Type 0
IsFor o mail Flush = mail ≡ flush_mail o
IsFor o mail job = mail < o.shards

-- A job begins a group where the last one has ended.
pub record BeginsGroup (shards : ℕ) (job : CoreJob) (g : JobGroup) : Type 0 where
  pub ended : has_ended shards g ≡ true
  pub next : may_begin shards job g ≡ true

-- Else it joins the group under way, where that has no job on its mail.
pub record JoinsGroup (shards mail : ℕ) (job : CoreJob) (g : JobGroup) : Type 0 where
  pub under_way : has_ended shards g ≡ false
  pub kind : kind_of job ≡ g.kind
  pub not_out : has_number g.waits mail ≡ false
  pub not_done : has_number (mails_of g.answers) mail ≡ false

pub record MayPost (o : Opening) (a mail : ℕ) (job : CoreJob) (k : ClientState) : Type 0 where
  pub goes : IsFor o mail job
  pub bears : Bears o a mail job k
  pub group : BeginsGroup o.shards job k.group ⊎ JoinsGroup o.shards mail job k.group

-- The desk.

pub record MayOpen (o : Opening) (a number : ℕ) (k : ClientState) : Type 0 where
  pub session : IsSession o a
  pub under : IsNumberOf a number
  pub free : held_under number k.holds ≡ None
  pub ready : is_ready o.shards k.group ≡ true

pub record MayCommit (o : Opening) (a epoch : ℕ) (k : ClientState) : Type 0 where
  pub session : IsSession o a
  pub writer : OwnsWriter a epoch k
  pub ready : is_ready o.shards k.group ≡ true

-- The rollback has the answer of every shard.
pub record MayAbort (o : Opening) (a epoch : ℕ) (k : ClientState) : Type 0 where
  pub session : IsSession o a
  pub writer : OwnsWriter a epoch k
  pub rolls : k.group.kind ≡ RollsBack
  pub done : HasAllDone o.shards k.group

pub record MayClose (o : Opening) (a number : ℕ) (k : ClientState) : Type 0 where
  pub session : IsSession o a
  pub under : IsNumberOf a number
  pub reader : IsSomeAnd (held_under number k.holds) (λ s. s.own ≡ false)
  pub ready : is_ready o.shards k.group ≡ true

-- A refusal that is noted speaks of no cube's name, and 17 only after a round that was lost to the disk.
pub record MayRefuse (code : ℕ) (k : ClientState) : Type 0 where
  pub other : is_cube_code code ≡ false
  pub store : code ≡ 17 → k.flush ≡ Some StoreLost

-- A purge at the epoch has the answer of every shard, and the desk showed the epoch as LSE.
pub record MayNotePurge (shards epoch : ℕ) (k : ClientState) : Type 0 where
  pub purges : k.group.kind ≡ Purges epoch
  pub done : HasAllDone shards k.group
  pub shown : has_number k.shown epoch ≡ true

abbrev pub MayNote : Opening → ℕ → Note → ClientState → Type 0
MayNote o a (note.Refused session statement code) k = (session ≡ a) × MayRefuse code k
MayNote o a (note.Cleared session statement) k = session ≡ a
MayNote o a (note.Show session statement) k = session ≡ a
MayNote o a (note.Flushed session statement) k = (session ≡ a) × (k.flush ≡ Some Done)
MayNote o a (note.Purged session statement epoch) k = (session ≡ a) × MayNotePurge o.shards epoch k

pub record MayTakeNote (o : Opening) (a : ℕ) (note : Note) (k : ClientState) : Type 0 where
  pub session : IsSession o a
  pub ready : is_ready o.shards k.group ≡ true
  pub allowed : MayNote o a note k

-- The copies of a round have the answer of every shard before its cubes are copied.
pub record HasCopies (shards : ℕ) (g : JobGroup) (round : OwnRound) : Type 0 where
  pub from : ℕ
  pub copies : g.kind ≡ Copies from round.epoch
  pub done : HasAllDone shards g

pub record MayOpenRoundCall (o : Opening) (a : ℕ) (k : ClientState) : Type 0 where
  pub flusher : a ≡ flusher o
  pub none : k.round ≡ None
  pub store : k.store_lost ≡ false
  pub ready : is_ready o.shards k.group ≡ true

pub record MayCloseRoundCall (o : Opening) (a epoch : ℕ) (k : ClientState) : Type 0 where
  pub flusher : a ≡ flusher o
  pub round : IsSomeAnd k.round (λ r. r.epoch ≡ epoch)
  pub fetched : is_empty k.group.waits ≡ true

-- A cube that can be made: a statement can declare it, and it can be stored.
pub record CanBeMade (decl : Decl) : Type 0 where
  pub proper : IsProper (asked.CreateCube decl)
  pub storable : IsStorable decl

abbrev pub FitsDesk : Opening → ℕ → DeskEvent → ClientState → Type 0
FitsDesk o a (OpenWrite statement epoch deps) k = MayOpen o a a k
FitsDesk o a (OpenRead number statement epoch) k = MayOpen o a number k
FitsDesk o a (Commit statement epoch) k = MayCommit o a epoch k
FitsDesk o a (AbortEnd statement epoch cause) k = MayAbort o a epoch k
FitsDesk o a (CloseRead number statement) k = MayClose o a number k
FitsDesk o a (TakeNote note counters) k = MayTakeNote o a note k
FitsDesk o a (CreateCube statement decl answer) k = MayOpen o a a k × CanBeMade decl
FitsDesk o a (FindCube statement name answer) k = IsSession o a × (is_ready o.shards k.group ≡ true)
FitsDesk o a (CubesFrom place cubes) k = (place ≤ k.cubes) × IfSome k.round (HasCopies o.shards k.group)
FitsDesk o a (CountersNow counters) k = Unit {0}
FitsDesk o a (RoundOpen answer) k = MayOpenRoundCall o a k
FitsDesk o a (RoundClose epoch end) k = MayCloseRoundCall o a epoch k
FitsDesk o a (StoreFailed failed) k = a ≡ flusher o

-- The names.

pub record MayAskName (o : Opening) (a cube dim : ℕ) (k : ClientState) : Type 0 where
  pub session : IsSession o a
  pub there : cube < k.cubes
  pub texts : IsTextDimension (o.shapes cube) dim

-- The names of a round are copied after its cubes.
pub record MayCopyNames (cube dim from : ℕ) (k : ClientState) : Type 0 where
  pub there : cube < k.cubes
  pub begins : from ≤ k.names cube dim
  pub after : IfSome k.round (λ round. round.has_cubes ≡ true)

abbrev pub FitsNames : Opening → ℕ → NamesEvent → ClientState → Type 0
FitsNames o a (Encode cube dim name code) k = MayAskName o a cube dim k × (length name ≤ 255)
FitsNames o a (FindName cube dim name number) k = MayAskName o a cube dim k
FitsNames o a (CopyFrom cube dim from names) k = MayCopyNames cube dim from k

-- A client's call fits what it knows.
abbrev pub FitsCall : Opening → ℕ → ClientCall → ClientState → Type 0
FitsCall o a (OnDesk call) k = FitsDesk o a call k
FitsCall o a (OnNames call) k = FitsNames o a call k
FitsCall o a (Post mail job) k = MayPost o a mail job k
FitsCall o a (Fetch mail answer) k = has_number k.group.waits mail ≡ true
FitsCall o a (CloseMail mail) k = a ≡ 0
FitsCall o a NoChange k = Unit {0}

-- The workers.

-- What the flusher did since it took a job: nothing yet, it has opened a round, or there was nothing to save or a round
-- was saved.
pub data RoundProgress : Type 0 where
  NoRound : RoundProgress
  RoundUnderWay : RoundProgress
  AllSaved : RoundProgress

abbrev pub progress_after_close : Bool → RoundProgress → RoundProgress
progress_after_close saved NoRound = NoRound
progress_after_close true RoundUnderWay = AllSaved
progress_after_close false RoundUnderWay = NoRound
progress_after_close saved AllSaved = AllSaved

abbrev pub progress_after_open : RoundAnswer → RoundProgress → RoundProgress
progress_after_open (Nothing epoch) progress = AllSaved
progress_after_open (Target from epoch) AllSaved = AllSaved
progress_after_open (Target from epoch) NoRound = RoundUnderWay
progress_after_open (Target from epoch) RoundUnderWay = RoundUnderWay

abbrev pub progress_after_call : ClientCall → RoundProgress → RoundProgress
progress_after_call (OnDesk (RoundOpen answer)) progress = progress_after_open answer progress
progress_after_call (OnDesk (RoundClose epoch Safe)) progress = progress_after_close true progress
progress_after_call (OnDesk (RoundClose epoch end)) progress = progress_after_close false progress
progress_after_call call progress = progress

abbrev pub progress_after_move : Bool → WorkerMove → RoundProgress → RoundProgress
progress_after_move true (Take client job) progress = NoRound
progress_after_move here move progress = progress

abbrev pub round_progress : Opening → List CoreEvent → RoundProgress
round_progress o [] = NoRound
round_progress o (By a call ∷ es) = progress_after_call call (round_progress o es)
round_progress o (At mail move ∷ es) = progress_after_move (mail == flush_mail o) move (round_progress o es)

-- What the flusher may reply.
abbrev pub FlushSays : RoundProgress → Bool → JobOutcome → Type 0
FlushSays progress lost Done = progress ≡ AllSaved
FlushSays progress lost StoreLost = lost ≡ true
FlushSays progress lost OutOfMemory = Unit {0}
FlushSays progress lost answer = ⊥

-- The flusher replies to a FLUSH at once; every other job is done on a shard first.
abbrev pub FitsReply : RoundProgress → Bool → CoreJob → JobOutcome → Type 0
FitsReply progress lost Flush said = FlushSays progress lost said
FitsReply progress lost job said = ⊥

-- A worker takes a job, does it on its shard, once, and replies the answer to the client that posted it. Before that it
-- takes no other. The flusher does a FLUSH by its own calls.
abbrev pub FitsWork : RoundProgress → Bool → WorkerState → WorkerMove → Type 0
FitsWork progress lost Free (Take client job) = Unit {0}
FitsWork progress lost Free (NoJob closed) = Unit {0}
FitsWork progress lost (Took client job) (Work made answer) = (made ≡ job) × (job ≢ Flush)
FitsWork progress lost (Took client job) (Reply to said) = (to ≡ client) × FitsReply progress lost job said
FitsWork progress lost (Worked client job answer) (Reply to said) = (to ≡ client) × (said ≡ answer)
FitsWork progress lost worker move = ⊥

abbrev pub FitsMove : Opening → List CoreEvent → ℕ → WorkerMove → Type 0
FitsMove o es mail move =
    FitsWork (round_progress o es) (client_state o (flusher o) es).store_lost (worker_of mail es) move
