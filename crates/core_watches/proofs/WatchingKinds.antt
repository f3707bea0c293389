-- Plain calls are such by which a session watches. These post no change, and speak by every script.
use Rattle.std.proofs.Common.{List}
use Rattle.aosi_desk.specs.declared.cube.CubeFound.TheVariants.{Found, Unknown}
use Rattle.core_watches.specs.WatchingCalls.{IsWatchingCall}
use Rattle.core_events.specs.Events.{OpenWrite, OpenRead, Commit, AbortEnd, CloseRead, TakeNote, CreateCube, FindCube, CubesFrom, CountersNow, RoundOpen, RoundClose, StoreFailed, Encode, FindName, CopyFrom, ClientCall, OnDesk, OnNames, Post, Fetch, CloseMail, NoChange}
use Rattle.core_events.specs.Jobs.{Append, DropBox, Scan, Delta, Rollback, Purge, CopyRound, Flush}
use Rattle.core_records.specs.ScriptedCalls.{SpeaksByScript}
use Rattle.core_states.specs.LeftBehind.{AsksForNone, IsPlainCall}
use Rattle.cube_run.specs.RunRecords.{Sentence}
use Rattle.posted_pasts.specs.PostsAdded.{PostsNoChange}

pub plain-watches : (c : ClientCall) → IsPlainCall c → IsWatchingCall c
plain-watches (OnDesk (CreateCube statement decl said)) plain = absurd plain
plain-watches (OnDesk (FindCube statement name Unknown)) plain = absurd plain
plain-watches (OnDesk (FindCube statement name (Found place decl))) plain = tt
plain-watches (OnDesk (OpenRead holder statement epoch)) plain = absurd plain
plain-watches (OnDesk (CloseRead holder statement)) plain = absurd plain
plain-watches (OnDesk (OpenWrite statement epoch deps)) plain = tt
plain-watches (OnDesk (Commit statement epoch)) plain = tt
plain-watches (OnDesk (AbortEnd statement epoch cause)) plain = tt
plain-watches (OnDesk (TakeNote note counters)) plain = tt
plain-watches (OnDesk (CubesFrom place cubes)) plain = tt
plain-watches (OnDesk (CountersNow counters)) plain = tt
plain-watches (OnDesk (RoundOpen answer)) plain = tt
plain-watches (OnDesk (RoundClose epoch end)) plain = tt
plain-watches (OnDesk (StoreFailed failed)) plain = tt
plain-watches (OnNames (Encode cube dim name code)) plain = absurd plain
plain-watches (OnNames (FindName cube dim name number)) plain = tt
plain-watches (OnNames (CopyFrom cube dim from names)) plain = tt
plain-watches (Post mail (Append cube epoch rows)) plain = absurd plain
plain-watches (Post mail (DropBox cube epoch box)) plain = absurd plain
plain-watches (Post mail (Scan query s)) plain = tt
plain-watches (Post mail (Delta query from to)) plain = tt
plain-watches (Post mail (Rollback at)) plain = tt
plain-watches (Post mail (Purge at)) plain = tt
plain-watches (Post mail (CopyRound from to)) plain = tt
plain-watches (Post mail Flush) plain = tt
plain-watches (Fetch mail said) plain = tt
plain-watches (CloseMail mail) plain = tt
plain-watches NoChange plain = tt

pub watches-ask-none : (c : ClientCall) → IsWatchingCall c → AsksForNone c
watches-ask-none (OnNames (Encode cube dim name code)) watches = absurd watches
watches-ask-none (OnNames (FindName cube dim name number)) watches = tt
watches-ask-none (OnNames (CopyFrom cube dim from names)) watches = tt
watches-ask-none (OnDesk c) watches = tt
watches-ask-none (Post mail job) watches = tt
watches-ask-none (Fetch mail said) watches = tt
watches-ask-none (CloseMail mail) watches = tt
watches-ask-none NoChange watches = tt

pub watches-post-none : (c : ClientCall) → IsWatchingCall c → PostsNoChange c
watches-post-none (OnDesk c) watches = tt
watches-post-none (OnNames c) watches = tt
watches-post-none (Post mail (Append cube epoch rows)) watches = absurd watches
watches-post-none (Post mail (DropBox cube epoch box)) watches = absurd watches
watches-post-none (Post mail (Scan query s)) watches = tt
watches-post-none (Post mail (Delta query from to)) watches = tt
watches-post-none (Post mail (Rollback at)) watches = tt
watches-post-none (Post mail (Purge at)) watches = tt
watches-post-none (Post mail (CopyRound from to)) watches = tt
watches-post-none (Post mail Flush) watches = tt
watches-post-none (Fetch mail said) watches = tt
watches-post-none (CloseMail mail) watches = tt
watches-post-none NoChange watches = tt

pub watches-speak : (script : List Sentence) (c : ClientCall) → IsWatchingCall c
    → SpeaksByScript script c
watches-speak script (OnDesk (CreateCube statement decl said)) watches = absurd watches
watches-speak script (OnDesk (FindCube statement name Unknown)) watches = absurd watches
watches-speak script (OnDesk (FindCube statement name (Found place decl))) watches = tt
watches-speak script (OnDesk (OpenRead holder statement epoch)) watches = tt
watches-speak script (OnDesk (CloseRead holder statement)) watches = tt
watches-speak script (OnDesk (OpenWrite statement epoch deps)) watches = tt
watches-speak script (OnDesk (Commit statement epoch)) watches = tt
watches-speak script (OnDesk (AbortEnd statement epoch cause)) watches = tt
watches-speak script (OnDesk (TakeNote note counters)) watches = tt
watches-speak script (OnDesk (CubesFrom place cubes)) watches = tt
watches-speak script (OnDesk (CountersNow counters)) watches = tt
watches-speak script (OnDesk (RoundOpen answer)) watches = tt
watches-speak script (OnDesk (RoundClose epoch end)) watches = tt
watches-speak script (OnDesk (StoreFailed failed)) watches = tt
watches-speak script (OnNames c) watches = tt
watches-speak script (Post mail job) watches = tt
watches-speak script (Fetch mail said) watches = tt
watches-speak script (CloseMail mail) watches = tt
watches-speak script NoChange watches = tt
