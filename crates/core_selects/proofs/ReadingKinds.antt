-- Plain calls are such by which a session reads. These post no change, speak by every script, and leave its watch.
use Rattle.std.proofs.Common.{ℕ, List}
use Rattle.aosi_desk.specs.declared.cube.CubeFound.TheVariants.{Found, Unknown}
use Rattle.core_selects.specs.ReadingCalls.{IsReadingCall}
use Rattle.core_cubes.specs.StatementCalls.{IsCallFor}
use Rattle.core_events.specs.Events.{OpenWrite, OpenRead, Commit, AbortEnd, CloseRead, TakeNote, CreateCube, FindCube, CubesFrom, CountersNow, RoundOpen, RoundClose, StoreFailed, Encode, FindName, CopyFrom, ClientCall, OnDesk, OnNames, Post, Fetch, CloseMail, NoChange}
use Rattle.core_events.specs.Jobs.{Append, DropBox, Scan, Delta, Rollback, Purge, CopyRound, Flush}
use Rattle.core_records.specs.ScriptedCalls.{SpeaksByScript}
use Rattle.core_states.specs.LeftBehind.{AsksForNone, IsPlainCall}
use Rattle.cube_language.specs.declared.statement.Statement.{Statement}
use Rattle.cube_run.specs.RunRecords.{Sentence}
use Rattle.posted_pasts.specs.PostsAdded.{PostsNoChange}
use Rattle.cube_core.specs.HoldStates.{IsUnderOwnNumber}

pub plain-reads : (session : ℕ) (c : ClientCall) → IsPlainCall c → IsReadingCall session c
plain-reads session (OnDesk (CreateCube statement decl said)) plain = absurd plain
plain-reads session (OnDesk (FindCube statement name Unknown)) plain = absurd plain
plain-reads session (OnDesk (FindCube statement name (Found place decl))) plain = tt
plain-reads session (OnDesk (OpenRead holder statement epoch)) plain = absurd plain
plain-reads session (OnDesk (CloseRead holder statement)) plain = absurd plain
plain-reads session (OnDesk (OpenWrite statement epoch deps)) plain = tt
plain-reads session (OnDesk (Commit statement epoch)) plain = tt
plain-reads session (OnDesk (AbortEnd statement epoch cause)) plain = tt
plain-reads session (OnDesk (TakeNote note counters)) plain = tt
plain-reads session (OnDesk (CubesFrom place cubes)) plain = tt
plain-reads session (OnDesk (CountersNow counters)) plain = tt
plain-reads session (OnDesk (RoundOpen answer)) plain = tt
plain-reads session (OnDesk (RoundClose epoch end)) plain = tt
plain-reads session (OnDesk (StoreFailed failed)) plain = tt
plain-reads session (OnNames (Encode cube dim name code)) plain = absurd plain
plain-reads session (OnNames (FindName cube dim name number)) plain = tt
plain-reads session (OnNames (CopyFrom cube dim from names)) plain = tt
plain-reads session (Post mail (Append cube epoch rows)) plain = absurd plain
plain-reads session (Post mail (DropBox cube epoch box)) plain = absurd plain
plain-reads session (Post mail (Scan query s)) plain = tt
plain-reads session (Post mail (Delta query from to)) plain = tt
plain-reads session (Post mail (Rollback at)) plain = tt
plain-reads session (Post mail (Purge at)) plain = tt
plain-reads session (Post mail (CopyRound from to)) plain = tt
plain-reads session (Post mail Flush) plain = tt
plain-reads session (Fetch mail said) plain = tt
plain-reads session (CloseMail mail) plain = tt
plain-reads session NoChange plain = tt

pub reads-ask-none : (session : ℕ) (c : ClientCall) → IsReadingCall session c → AsksForNone c
reads-ask-none session (OnNames (Encode cube dim name code)) reads = absurd reads
reads-ask-none session (OnNames (FindName cube dim name number)) reads = tt
reads-ask-none session (OnNames (CopyFrom cube dim from names)) reads = tt
reads-ask-none session (OnDesk c) reads = tt
reads-ask-none session (Post mail job) reads = tt
reads-ask-none session (Fetch mail said) reads = tt
reads-ask-none session (CloseMail mail) reads = tt
reads-ask-none session NoChange reads = tt

pub reads-post-none : (session : ℕ) (c : ClientCall) → IsReadingCall session c → PostsNoChange c
reads-post-none session (OnDesk c) reads = tt
reads-post-none session (OnNames c) reads = tt
reads-post-none session (Post mail (Append cube epoch rows)) reads = absurd reads
reads-post-none session (Post mail (DropBox cube epoch box)) reads = absurd reads
reads-post-none session (Post mail (Scan query s)) reads = tt
reads-post-none session (Post mail (Delta query from to)) reads = tt
reads-post-none session (Post mail (Rollback at)) reads = tt
reads-post-none session (Post mail (Purge at)) reads = tt
reads-post-none session (Post mail (CopyRound from to)) reads = tt
reads-post-none session (Post mail Flush) reads = tt
reads-post-none session (Fetch mail said) reads = tt
reads-post-none session (CloseMail mail) reads = tt
reads-post-none session NoChange reads = tt

pub reads-speak : (session : ℕ) (script : List Sentence) (c : ClientCall) → IsReadingCall session c
    → SpeaksByScript script c
reads-speak session script (OnDesk (CreateCube statement decl said)) reads = absurd reads
reads-speak session script (OnDesk (FindCube statement name Unknown)) reads = absurd reads
reads-speak session script (OnDesk (FindCube statement name (Found place decl))) reads = tt
reads-speak session script (OnDesk (OpenRead holder statement epoch)) reads = tt
reads-speak session script (OnDesk (CloseRead holder statement)) reads = tt
reads-speak session script (OnDesk (OpenWrite statement epoch deps)) reads = tt
reads-speak session script (OnDesk (Commit statement epoch)) reads = tt
reads-speak session script (OnDesk (AbortEnd statement epoch cause)) reads = tt
reads-speak session script (OnDesk (TakeNote note counters)) reads = tt
reads-speak session script (OnDesk (CubesFrom place cubes)) reads = tt
reads-speak session script (OnDesk (CountersNow counters)) reads = tt
reads-speak session script (OnDesk (RoundOpen answer)) reads = tt
reads-speak session script (OnDesk (RoundClose epoch end)) reads = tt
reads-speak session script (OnDesk (StoreFailed failed)) reads = tt
reads-speak session script (OnNames c) reads = tt
reads-speak session script (Post mail job) reads = tt
reads-speak session script (Fetch mail said) reads = tt
reads-speak session script (CloseMail mail) reads = tt
reads-speak session script NoChange reads = tt

pub reads-under-own : (session : ℕ) (c : ClientCall) → IsReadingCall session c → IsUnderOwnNumber session c
reads-under-own session (OnDesk (OpenRead holder statement epoch)) reads = reads
reads-under-own session (OnDesk (CloseRead holder statement)) reads = reads
reads-under-own session (OnDesk (CreateCube statement decl said)) reads = tt
reads-under-own session (OnDesk (FindCube statement name found)) reads = tt
reads-under-own session (OnDesk (OpenWrite statement epoch deps)) reads = tt
reads-under-own session (OnDesk (Commit statement epoch)) reads = tt
reads-under-own session (OnDesk (AbortEnd statement epoch cause)) reads = tt
reads-under-own session (OnDesk (TakeNote note counters)) reads = tt
reads-under-own session (OnDesk (CubesFrom place cubes)) reads = tt
reads-under-own session (OnDesk (CountersNow counters)) reads = tt
reads-under-own session (OnDesk (RoundOpen answer)) reads = tt
reads-under-own session (OnDesk (RoundClose epoch end)) reads = tt
reads-under-own session (OnDesk (StoreFailed failed)) reads = tt
reads-under-own session (OnNames c) reads = tt
reads-under-own session (Post mail job) reads = tt
reads-under-own session (Fetch mail said) reads = tt
reads-under-own session (CloseMail mail) reads = tt
reads-under-own session NoChange reads = tt

-- So is each call of a statement that leaves readers alone.
pub calls-under-own : (session number : ℕ) (s : Statement) (c : ClientCall) → IsCallFor number s c
    → IsUnderOwnNumber session c
calls-under-own session number s (OnDesk (OpenRead holder statement epoch)) call = absurd call.readers
calls-under-own session number s (OnDesk (CloseRead holder statement)) call = absurd call.readers
calls-under-own session number s (OnDesk (CreateCube statement decl said)) call = tt
calls-under-own session number s (OnDesk (FindCube statement name found)) call = tt
calls-under-own session number s (OnDesk (OpenWrite statement epoch deps)) call = tt
calls-under-own session number s (OnDesk (Commit statement epoch)) call = tt
calls-under-own session number s (OnDesk (AbortEnd statement epoch cause)) call = tt
calls-under-own session number s (OnDesk (TakeNote note counters)) call = tt
calls-under-own session number s (OnDesk (CubesFrom place cubes)) call = tt
calls-under-own session number s (OnDesk (CountersNow counters)) call = tt
calls-under-own session number s (OnDesk (RoundOpen answer)) call = tt
calls-under-own session number s (OnDesk (RoundClose epoch end)) call = tt
calls-under-own session number s (OnDesk (StoreFailed failed)) call = tt
calls-under-own session number s (OnNames c) call = tt
calls-under-own session number s (Post mail job) call = tt
calls-under-own session number s (Fetch mail said) call = tt
calls-under-own session number s (CloseMail mail) call = tt
calls-under-own session number s NoChange call = tt
