-- Plain calls add no operation, and speak of no cube.
use Rattle.std.proofs.Common.{◌≡◌, ℕ, List, [], ◌∷◌, ◌++◌, refl}
use Rattle.std.specs.List.{AllByRecursion}
use Rattle.aosi_desk.specs.declared.cube.CubeFound.TheVariants.{Found, Unknown}
use Rattle.core_events.specs.Events.{Opening, OpenWrite, OpenRead, Commit, AbortEnd, CloseRead, TakeNote, CreateCube, FindCube, CubesFrom, CountersNow, RoundOpen, RoundClose, StoreFailed, ClientCall, OnDesk, OnNames, Post, Fetch, CloseMail, NoChange}
use Rattle.core_events.specs.Jobs.{Append, DropBox, Scan, Delta, Rollback, Purge, CopyRound, Flush}
use Rattle.core_records.specs.ScriptedCalls.{SpeaksByScript}
use Rattle.core_serial.specs.OwnOperations.{operations_by_calls}
use Rattle.core_states.specs.LeftBehind.{IsPlainCall}
use Rattle.cube_run.specs.RunRecords.{Sentence}

pub adds-no-operation : (o : Opening) (session cube epoch : ℕ) (added past : List ClientCall)
    → AllByRecursion IsPlainCall added
    → operations_by_calls o session cube (added ++ past) epoch ≡ operations_by_calls o session cube past epoch
adds-no-operation o session cube epoch [] past each = refl
adds-no-operation o session cube epoch (OnDesk c ∷ added) past each = adds-no-operation o session cube epoch added past each.1
adds-no-operation o session cube epoch (OnNames c ∷ added) past each = adds-no-operation o session cube epoch added past each.1
adds-no-operation o session cube epoch (Fetch mail said ∷ added) past each =
    adds-no-operation o session cube epoch added past each.1
adds-no-operation o session cube epoch (CloseMail mail ∷ added) past each =
    adds-no-operation o session cube epoch added past each.1
adds-no-operation o session cube epoch (NoChange ∷ added) past each = adds-no-operation o session cube epoch added past each.1
adds-no-operation o session cube epoch (Post mail (Append other at rows) ∷ added) past each = absurd each.0
adds-no-operation o session cube epoch (Post mail (DropBox other at box) ∷ added) past each = absurd each.0
adds-no-operation o session cube epoch (Post mail (Scan query s) ∷ added) past each =
    adds-no-operation o session cube epoch added past each.1
adds-no-operation o session cube epoch (Post mail (Delta query from to) ∷ added) past each =
    adds-no-operation o session cube epoch added past each.1
adds-no-operation o session cube epoch (Post mail (Rollback at) ∷ added) past each =
    adds-no-operation o session cube epoch added past each.1
adds-no-operation o session cube epoch (Post mail (Purge at) ∷ added) past each =
    adds-no-operation o session cube epoch added past each.1
adds-no-operation o session cube epoch (Post mail (CopyRound from to) ∷ added) past each =
    adds-no-operation o session cube epoch added past each.1
adds-no-operation o session cube epoch (Post mail Flush ∷ added) past each =
    adds-no-operation o session cube epoch added past each.1

one-speaks : (script : List Sentence) (c : ClientCall) → IsPlainCall c → SpeaksByScript script c
one-speaks script (OnDesk (CreateCube statement decl said)) plain = absurd plain
one-speaks script (OnDesk (FindCube statement name Unknown)) plain = absurd plain
one-speaks script (OnDesk (FindCube statement name (Found place decl))) plain = tt
one-speaks script (OnDesk (OpenWrite statement epoch deps)) plain = tt
one-speaks script (OnDesk (OpenRead number statement epoch)) plain = tt
one-speaks script (OnDesk (Commit statement epoch)) plain = tt
one-speaks script (OnDesk (AbortEnd statement epoch cause)) plain = tt
one-speaks script (OnDesk (CloseRead number statement)) plain = tt
one-speaks script (OnDesk (TakeNote note counters)) plain = tt
one-speaks script (OnDesk (CubesFrom place cubes)) plain = tt
one-speaks script (OnDesk (CountersNow counters)) plain = tt
one-speaks script (OnDesk (RoundOpen answer)) plain = tt
one-speaks script (OnDesk (RoundClose epoch end)) plain = tt
one-speaks script (OnDesk (StoreFailed failed)) plain = tt
one-speaks script (OnNames c) plain = tt
one-speaks script (Post mail job) plain = tt
one-speaks script (Fetch mail said) plain = tt
one-speaks script (CloseMail mail) plain = tt
one-speaks script NoChange plain = tt

pub speak-by-script : (script : List Sentence) (added past : List ClientCall) → AllByRecursion IsPlainCall added
    → AllByRecursion (SpeaksByScript script) past → AllByRecursion (SpeaksByScript script) (added ++ past)
speak-by-script script [] past each before = before
speak-by-script script (c ∷ added) past each before =
    (one-speaks script c each.0, speak-by-script script added past each.1 before)
