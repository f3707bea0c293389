-- By a session's other calls its holders keep what they hold.
use Rattle.std.proofs.Common.{◌≡◌, ℕ, List, [], ◌∷◌, ◌++◌, sym, subst}
use Rattle.core_program.specs.ClientCalls.{desk_entry, names_entry}
use Rattle.cube_core.specs.Links.{AreEventsOf}
use Rattle.cube_core.specs.BoardCells.{IsEntryEvent}
use Rattle.core_cells.specs.declared.desk.DeskAnswer.{DeskAnswer}
use Rattle.core_cells.specs.declared.desk.DeskAnswer.TheVariants as answer
use Rattle.core_cells.specs.declared.desk.DeskCall.{DeskCall}
use Rattle.core_cells.specs.declared.desk.DeskCall.TheVariants as call
use Rattle.core_cells.specs.declared.names.NamesAnswer.{NamesAnswer}
use Rattle.core_cells.specs.declared.names.NamesAnswer.TheVariants as told
use Rattle.core_cells.specs.declared.names.NamesCall.{NamesCall}
use Rattle.core_cells.specs.declared.names.NamesCall.TheVariants as names
use Rattle.core_program.proofs.KnownCalls.{desk-learns, earlier-run, names-learn}
use Rattle.core_program.specs.Knowing.{IsClientOf, IsLaterRun}
use Rattle.core_events.specs.Clients.{ClientState, calls_of, state_from_calls}
use Rattle.core_events.specs.Events.{Opening, ClientCall, CoreEvent}
use Rattle.core_events.specs.Groups.{JobGroup}
use Rattle.core_events.specs.Jobs.{CoreJob, JobOutcome}
use Rattle.core_events.specs.ShardView.{ShardView}
use Rattle.cube_core.specs.DeskEvents.{desk_event}
use Rattle.cube_core.specs.NamesEvents.{names_event}
use Rattle.core_program.specs.CoreFits.{CoreEntry}
use Rattle.cube_core.specs.declared.cell.CoreCell.{CoreCell}
use Rattle.cube_core.specs.declared.jobs.JobAnswer.{JobAnswer}
use Rattle.cube_core.specs.declared.shard.ShardAnswer.{ShardAnswer}
use Rattle.cube_core.specs.declared.shard.ShardCall.{ShardCall}
use Rattle.job_groups.specs.AskedEach.{HasAskedShards, HasMore, whole_group}
use Rattle.job_groups.specs.AskedSome.{LearnsOfSome, group_of_some}
use Rattle.job_groups.specs.EachPosted.{LearnsOfEach}
use Rattle.cube_core.specs.HoldStates.{IsUnderOwnNumber}
use Rattle.session_watches.specs.KnownReaders.{HoldersHave, HoldersKeep, IsOfOwnNumber}
use Rattle.watch_holds.specs.HolderStates.{HasReaders, LeadingReader, NoReader, OneReader}
use Rattle.watch_holds.proofs.HolderCalls.{begins}
use Rattle.watch_holds.proofs.HolderStaying.{readers-stay}

-- What its calls are under.

desk-own : (a : ℕ) (k : ClientState) (c : DeskCall) (said : DeskAnswer) → IsOfOwnNumber a c
    → IsUnderOwnNumber a (desk_event a k c said)
desk-own a k (call.OpenRead number statement) (answer.Opened s) own = own
desk-own a k (call.CloseRead number statement) answer.Done own = own
desk-own a k (call.OpenWrite session statement) (answer.Opened s) own = tt
desk-own a k (call.Commit session statement) answer.Done own = tt
desk-own a k (call.AbortEnd session statement cause) answer.Done own = tt
desk-own a k (call.Note note) (answer.Counted shown) own = tt
desk-own a k (call.CreateCube session statement decl) (answer.Created made) own = tt
desk-own a k (call.FindCube session statement name) (answer.Found found) own = tt
desk-own a k (call.CubesFrom place) (answer.Cubes cubes) own = tt
desk-own a k call.RoundOpen (answer.Round asked) own = tt
desk-own a k (call.RoundClose epoch end) answer.Done own = tt
desk-own a k call.Counters (answer.Counted shown) own = tt
desk-own a k call.StoreFailed (answer.Failed failed) own = tt
desk-own a k c said own = tt

names-own : (a : ℕ) (c : NamesCall) (said : NamesAnswer) → IsUnderOwnNumber a (names_event c said)
names-own a (names.Encode cube dim shape name) (told.Coded code) = tt
names-own a (names.Find cube dim name) (told.Found number) = tt
names-own a (names.CopyFrom cube dim from) (told.Copied copied) = tt
names-own a c said = tt

module _ {S : Type 0} (fits : Opening → ℕ → ShardCall → Type 0) (stands : Opening → ℕ → ℕ → S → ShardView → Type 0)
    (says : CoreJob → ShardAnswer → JobOutcome → Type 0) (cells : List (CoreCell S)) (caller session : ℕ) where
  abbrev Later : Opening → List CoreEntry → List CoreEntry → List CoreEvent → Type 0
  Later o own log run = IsLaterRun fits stands says cells o caller own log run

  abbrev Of : Opening → List CoreEntry → List CoreEvent → Type 0
  Of o own es = AreEventsOf (IsEntryEvent fits stands says o) own es

  abbrev Keeps : List CoreEntry → List CoreEntry → Type 0
  Keeps own now = HoldersKeep fits stands says session cells caller own cells caller now

  pub none-held : HoldersHave fits stands says cells caller session [] NoReader
  none-held o log run es later are =
      subst (λ (l : List CoreEvent). HasReaders session NoReader (state_from_calls o session (calls_of session l))) are (begins o session)

  pub leading-held : (number epoch : ℕ) (own : List CoreEntry)
      → HoldersHave fits stands says cells caller session own (LeadingReader number epoch)
      → HoldersHave fits stands says cells caller session own (OneReader number epoch)
  leading-held number epoch own have o log run es later are = (have o log run es later are).0

  -- By one call.

  pub desk-keeps : (own now : List CoreEntry) (c : DeskCall) (said : DeskAnswer) → IsClientOf fits stands says cells caller session
      → IsOfOwnNumber session c → now ≡ own ++ desk_entry caller c said ∷ [] → Keeps own now
  desk-keeps own now c said acts of_own is readers have o log run es later are =
      let more = desk_entry caller c said ∷ [] in
      let later_one : Later o (own ++ more) log run = subst (λ (l : List CoreEntry). Later o l log run) is later in
      let g =
      desk-learns fits stands says cells caller session acts own c said o log es later.opens (subst (λ (l : List CoreEntry). Of o l es) is are)
      in
      let k = state_from_calls o session (calls_of session g.before) in
      subst (λ (calls : List ClientCall). HasReaders session readers (state_from_calls o session calls)) (sym g.calls)
      (readers-stay o session (desk_event session k c said) readers k (desk-own session k c said of_own)
      (have o log run g.before (earlier-run fits stands says cells o caller own more log run later_one) g.events))

  pub names-keep : (own now : List CoreEntry) (c : NamesCall) (said : NamesAnswer) → IsClientOf fits stands says cells caller session
      → now ≡ own ++ names_entry caller c said ∷ [] → Keeps own now
  names-keep own now c said acts is readers have o log run es later are =
      let more = names_entry caller c said ∷ [] in
      let later_one : Later o (own ++ more) log run = subst (λ (l : List CoreEntry). Later o l log run) is later in
      let g =
      names-learn fits stands says cells caller session acts own c said o log es later.opens (subst (λ (l : List CoreEntry). Of o l es) is are)
      in
      let k = state_from_calls o session (calls_of session g.before) in
      subst (λ (calls : List ClientCall). HasReaders session readers (state_from_calls o session calls)) (sym g.calls)
      (readers-stay o session (names_event c said) readers k (names-own session c said)
      (have o log run g.before (earlier-run fits stands says cells o caller own more log run later_one) g.events))

  -- By a group.

  group-keeps : (group_of : List JobOutcome → JobGroup) (calls : List ShardCall) (answers : List JobAnswer) (own now : List CoreEntry)
      → HasMore own now
      → ((o : Opening) (log : List CoreEntry) (run es : List CoreEvent) → Later o now log run → Of o now es
      → HasAskedShards fits stands says group_of o session calls answers own es)
      → Keeps own now
  group-keeps group_of calls answers own now more asked readers have o log run es later are =
      let h = asked o log run es later are in
      let later_one : Later o (own ++ more.more) log run = subst (λ (l : List CoreEntry). Later o l log run) more.whole later in
      subst (λ (k : ClientState). HasReaders session readers k) (sym h.group)
      (have o log run h.before (earlier-run fits stands says cells o caller own more.more log run later_one) h.events)

  pub each-keeps : (own now : List CoreEntry) (calls : List ShardCall) (answers : List JobAnswer) → HasMore own now
      → LearnsOfEach fits stands says cells caller session calls answers own now → Keeps own now
  each-keeps own now calls answers more learns =
      group-keeps (λ outcomes. whole_group calls outcomes) calls answers own now more
      (λ o log run es later are. (learns o log run es later are).asked)

  pub some-keep : (own now : List CoreEntry) (numbers : List ℕ) (calls : List ShardCall) (answers : List JobAnswer) → HasMore own now
      → LearnsOfSome fits stands says cells caller session numbers calls answers own now → Keeps own now
  some-keep own now numbers calls answers more learns =
      group-keeps (λ outcomes. group_of_some numbers calls outcomes) calls answers own now more
      (λ o log run es later are. (learns o log run es later are).asked)
