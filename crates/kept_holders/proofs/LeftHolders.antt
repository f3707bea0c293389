-- Calls under a session's own number leave its holders what they hold.
use Rattle.std.proofs.Common.{ℕ, List, [], ◌∷◌, ◌++◌, refl, sym, subst}
use Rattle.std.specs.List.{AllByRecursion}
use mathlib.Core.List.{IsPrefix}
use Rattle.core_cubes.proofs.CallsForStatements.{plain-for}
use Rattle.core_cubes.proofs.CallsGoOn.{go-on-as, go-on-then}
use Rattle.core_cubes.specs.StatementCalls.{IsCallFor}
use Rattle.core_events.specs.Clients.{calls_of, state_from_calls}
use Rattle.core_events.specs.Events.{Opening, OpenWrite, OpenRead, Commit, AbortEnd, CloseRead, TakeNote, CreateCube, FindCube, CubesFrom, CountersNow, RoundOpen, RoundClose, StoreFailed, ClientCall, OnDesk, OnNames, Post, Fetch, CloseMail, NoChange}
use Rattle.core_events.specs.Jobs.{CoreJob, JobOutcome}
use Rattle.core_events.specs.ShardView.{ShardView}
use Rattle.core_program.proofs.KnownCalls.{earlier-run}
use Rattle.core_program.specs.CoreFits.{CoreEntry}
use Rattle.core_program.specs.Knowing.{IsLaterRun}
use Rattle.core_states.specs.LeftBehind.{AddsCalls, GoOnByCalls, IsPlainCall, LeavesReaders}
use Rattle.cube_core.specs.declared.cell.CoreCell.{CoreCell}
use Rattle.cube_core.specs.declared.shard.ShardAnswer.{ShardAnswer}
use Rattle.cube_core.specs.declared.shard.ShardCall.{ShardCall}
use Rattle.cube_language.specs.declared.statement.Statement.{Statement}
use Rattle.cube_language.specs.declared.statement.Statement.TheVariants as asked
use Rattle.cube_core.specs.HoldStates.{IsUnderOwnNumber}
use Rattle.session_watches.specs.KnownReaders.{HoldersKeep}
use Rattle.watch_holds.proofs.HolderStaying.{readers-stay}
use Rattle.watch_holds.specs.HolderStates.{HasReaders, HeldReaders}

-- A call that leaves readers alone is under the own number.
pub under-own : (session : ℕ) (c : ClientCall) → LeavesReaders c → IsUnderOwnNumber session c
under-own session (OnDesk (OpenRead holder statement epoch)) leaves = absurd leaves
under-own session (OnDesk (CloseRead holder statement)) leaves = absurd leaves
under-own session (OnDesk (OpenWrite statement epoch deps)) leaves = tt
under-own session (OnDesk (Commit statement epoch)) leaves = tt
under-own session (OnDesk (AbortEnd statement epoch cause)) leaves = tt
under-own session (OnDesk (TakeNote note counters)) leaves = tt
under-own session (OnDesk (CreateCube statement decl said)) leaves = tt
under-own session (OnDesk (FindCube statement name found)) leaves = tt
under-own session (OnDesk (CubesFrom place cubes)) leaves = tt
under-own session (OnDesk (CountersNow counters)) leaves = tt
under-own session (OnDesk (RoundOpen answer)) leaves = tt
under-own session (OnDesk (RoundClose epoch end)) leaves = tt
under-own session (OnDesk (StoreFailed failed)) leaves = tt
under-own session (OnNames c) leaves = tt
under-own session (Post mail job) leaves = tt
under-own session (Fetch mail said) leaves = tt
under-own session (CloseMail mail) leaves = tt
under-own session NoChange leaves = tt

readers-after : (o : Opening) (session : ℕ) (readers : HeldReaders) (added past : List ClientCall)
    → AllByRecursion (IsUnderOwnNumber session) added → HasReaders session readers (state_from_calls o session past)
    → HasReaders session readers (state_from_calls o session (added ++ past))
readers-after o session readers [] past each have = have
readers-after o session readers (c ∷ added) past each have =
    readers-stay o session c readers (state_from_calls o session (added ++ past)) each.0
    (readers-after o session readers added past each.1 have)

module _ {S : Type 0} (fits : Opening → ℕ → ShardCall → Type 0) (stands : Opening → ℕ → ℕ → S → ShardView → Type 0)
    (says : CoreJob → ShardAnswer → JobOutcome → Type 0) (cells : List (CoreCell S)) (caller session : ℕ) where
  abbrev GoOn : (ClientCall → Type 0) → List CoreEntry → List CoreEntry → Type 0
  GoOn Is own now = GoOnByCalls fits stands says cells caller session Is own now

  pub plain-are-own : (own now : List CoreEntry) → GoOn IsPlainCall own now → GoOn (IsUnderOwnNumber session) own now
  plain-are-own own now =
      go-on-as fits stands says cells caller session IsPlainCall (IsUnderOwnNumber session) own now
      (λ c plain. under-own session c (plain-for 0 asked.ShowWatch c plain).readers)

  pub of-statement-are-own : (number : ℕ) (s : Statement) (own now : List CoreEntry) → GoOn (IsCallFor number s) own now
      → GoOn (IsUnderOwnNumber session) own now
  of-statement-are-own number s own now =
      go-on-as fits stands says cells caller session (IsCallFor number s) (IsUnderOwnNumber session) own now
      (λ c is. under-own session c is.readers)

  pub own-and-more : (own mid now : List CoreEntry) → IsPrefix mid now → GoOn (IsUnderOwnNumber session) own mid
      → GoOn (IsUnderOwnNumber session) mid now → GoOn (IsUnderOwnNumber session) own now
  own-and-more = go-on-then fits stands says cells caller session (IsUnderOwnNumber session)

  pub holders-left : (own now : List CoreEntry) → IsPrefix own now → GoOn (IsUnderOwnNumber session) own now
      → HoldersKeep fits stands says session cells caller own cells caller now
  holders-left own now more on readers have o log run es later are =
      let a : AddsCalls fits stands says (IsUnderOwnNumber session) o session own es = on o log run es later are in
      let earlier : IsLaterRun fits stands says cells o caller own log run =
      earlier-run fits stands says cells o caller own more.0 log run
      (subst (λ (l : List CoreEntry). IsLaterRun fits stands says cells o caller l log run) (sym more.1) later)
      in
      subst (λ (calls : List ClientCall). HasReaders session readers (state_from_calls o session calls)) (sym a.calls)
      (readers-after o session readers a.added (calls_of session a.before) a.each
      (have o log run a.before earlier a.events))
