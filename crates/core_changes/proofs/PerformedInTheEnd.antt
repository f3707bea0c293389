-- A change that looked for its cube is performed: as one that has ended, or as one that is refused by its name.
use Rattle.std.proofs.Common.{ℕ, ◌+◌, inl, inr, List, []}
use mathlib.Core.List.{IsPrefix}
use Rattle.core_changes.specs.ChangesUnderWay.{HasAnswered, HasEnded, IsSameStatement}
use Rattle.core_cubes.proofs.CallsForStatements.{plain-for}
use Rattle.core_cubes.proofs.CallsGoOn.{go-on-as, go-on-then}
use Rattle.core_cubes.specs.ExecutedWatched.{ExecutesWatched}
use Rattle.core_cubes.specs.MadeAndFound.{IsRefusedByName}
use Rattle.core_cubes.specs.StatementCalls.{IsCallFor}
use Rattle.core_events.specs.Events.{OpenWrite, OpenRead, Commit, AbortEnd, CloseRead, TakeNote, CreateCube, FindCube, CubesFrom, CountersNow, RoundOpen, RoundClose, StoreFailed, ClientCall, OnDesk, OnNames, Post, Fetch, CloseMail, NoChange}
use Rattle.core_program.specs.CoreFits.{CoreEntry}
use Rattle.core_states.proofs.LeftCalls.{longer-front}
use Rattle.core_states.specs.ExecutedInCore.{HasOneMore}
use Rattle.core_states.specs.LeftBehind.{GoOnByCalls, IsPlainCall, LeavesReaders}
use Rattle.core_states.specs.StandingInCore.{HoldsForMode}
use Rattle.core_states.specs.declared.session.CoreSession.{CoreSession}
use Rattle.cube_core.specs.declared.cell.CoreCell.{CoreCell}
use Rattle.cube_journal.specs.declared.refusal.Refusal.TheVariants as refusal
use Rattle.cube_journal.specs.declared.reply.Reply.{Reply}
use Rattle.cube_language.specs.declared.statement.Statement.{Statement}
use Rattle.cube_run.specs.RunRecords.{LoadedFile, Says}
use Rattle.linked_shards.specs.CellShards.{CoreShardStands}
use Rattle.linked_shards.specs.declared.cell.CoreShard.{CoreShard}
use Rattle.core_changes.specs.CallsOfChanges.{IsCallOfChange}
use Rattle.core_changes.specs.ChangeEnds.{ChangeEnd, counted_session}
use Rattle.scripted_pasts.specs.Served.{PerformsWatchedOverShards}
use Rattle.scripted_pasts.specs.UnchangedRows.{ChangesNoRows, is_refused}
use Rattle.session_desk.specs.Executed.{IfReplied, OnStopped}
use Rattle.session_desk.specs.declared.answered.Answered.{Answered}
use Rattle.session_desk.specs.declared.answered.Answered.TheVariants.{Replied, Stopped}
use Rattle.cube_core.specs.HoldStates.{IsUnderOwnNumber}
use Rattle.session_replies.specs.Modes.{mode_of}
use Rattle.shard_events.specs.ShardsInRuns.{FitsShard, ShardAnswerSays}
use Rattle.shard_statements.specs.OverShards.{LeavesOverShards}

under-own : (a : ℕ) (c : ClientCall) → LeavesReaders c → IsUnderOwnNumber a c
under-own a (OnDesk (OpenRead holder statement epoch)) leaves = absurd leaves
under-own a (OnDesk (CloseRead holder statement)) leaves = absurd leaves
under-own a (OnDesk (OpenWrite statement epoch deps)) leaves = tt
under-own a (OnDesk (Commit statement epoch)) leaves = tt
under-own a (OnDesk (AbortEnd statement epoch cause)) leaves = tt
under-own a (OnDesk (TakeNote note counters)) leaves = tt
under-own a (OnDesk (CreateCube statement decl said)) leaves = tt
under-own a (OnDesk (FindCube statement name found)) leaves = tt
under-own a (OnDesk (CubesFrom place cubes)) leaves = tt
under-own a (OnDesk (CountersNow counters)) leaves = tt
under-own a (OnDesk (RoundOpen answer)) leaves = tt
under-own a (OnDesk (RoundClose epoch end)) leaves = tt
under-own a (OnDesk (StoreFailed failed)) leaves = tt
under-own a (OnNames c) leaves = tt
under-own a (Post mail job) leaves = tt
under-own a (Fetch mail said) leaves = tt
under-own a (CloseMail mail) leaves = tt
under-own a NoChange leaves = tt

pub one-more : (old new : CoreSession) → IsSameStatement (counted_session old) new → HasOneMore old new
one-more old new h =
    record { number = h.number; statements = h.statements; every = h.every; counted = h.counted }

-- What holds of every answer.
pub if-any : {P : Type 0} (answered : Answered) → P → IfReplied answered (λ said. P)
if-any (Replied said) p = p
if-any Stopped p = tt

pub stopped-any : {P : Type 0} (answered : Answered) → P → OnStopped answered P
stopped-any (Replied said) p = tt
stopped-any Stopped p = p

module _ (cells : List (CoreCell CoreShard)) (caller : ℕ) (IsFile : LoadedFile → Type 0) (old : CoreSession)
    (s : Statement) where
  abbrev GoOn : (ClientCall → Type 0) → List CoreEntry → List CoreEntry → Type 0
  GoOn Is own now = GoOnByCalls FitsShard CoreShardStands ShardAnswerSays cells caller old.number Is own now

  abbrev Performed : List CoreEntry → CoreSession → List CoreEntry → Reply → Type 0
  Performed own new now said = PerformsWatchedOverShards cells caller IsFile s old own new now said

  -- The law of statements that change no rows.
  abbrev pub UnchangedArePerformed : Type 0
  UnchangedArePerformed =
      (new : CoreSession) (own now : List CoreEntry) (said : Reply)
      → ExecutesWatched FitsShard CoreShardStands ShardAnswerSays cells caller s old own new now said
      → GoOn (IsCallFor (old.statements + 1) s) own now → ChangesNoRows (Says s) said → Performed own new now said

  pub search-leaves-watch : (own now : List CoreEntry) → GoOn (IsCallFor (old.statements + 1) s) own now
      → GoOn (IsUnderOwnNumber old.number) own now
  search-leaves-watch own now goes =
      go-on-as FitsShard CoreShardStands ShardAnswerSays cells caller old.number (IsCallFor (old.statements + 1) s)
      (IsUnderOwnNumber old.number) own now (λ c is. under-own old.number c is.readers) goes

  -- ---- the cube was not found

  pub refused-performed : (law : UnchangedArePerformed) (name : List ℕ) (new : CoreSession)
      (own now : List CoreEntry) (answered : Answered)
      → IfReplied answered (ExecutesWatched FitsShard CoreShardStands ShardAnswerSays cells caller s old own new now)
      → GoOn (IsCallFor (old.statements + 1) s) own now → IfReplied answered (IsRefusedByName name)
      → IfReplied answered (Performed own new now)
  refused-performed law name new own now (Replied said) executes calls is =
      law new own now said executes calls (why is)
    where
      why : IsRefusedByName name said → ChangesNoRows (Says s) said
      why (inl unknown) = is_refused (refusal.UnknownCube name) unknown
      why (inr memory) = is_refused refusal.NoMemory memory
  refused-performed law name new own now Stopped executes calls is = tt

  -- ---- the cube was found

  module _ (own mid now : List CoreEntry) (IsText : ℕ → ℕ → List ℕ → Type 0) (Posts : ChangeEnd → Type 0)
      (Answers : ChangeEnd → Reply → Type 0) (new : CoreSession) (answered : Answered)
      (found : LeavesOverShards cells caller old.number own mid [])
      (h : HasAnswered cells caller (counted_session old) s mid now IsText Posts Answers new answered) where
    pub found-leaves-watch : GoOn (IsUnderOwnNumber old.number) own now
    found-leaves-watch =
        go-on-then FitsShard CoreShardStands ShardAnswerSays cells caller old.number (IsUnderOwnNumber old.number) own
        mid now h.more
        (go-on-as FitsShard CoreShardStands ShardAnswerSays cells caller old.number IsPlainCall
        (IsUnderOwnNumber old.number) own mid
        (λ c is. under-own old.number c (plain-for (old.statements + 1) s c is).readers) found.plain)
        (go-on-as FitsShard CoreShardStands ShardAnswerSays cells caller old.number
        (IsCallOfChange (old.statements + 1) s) (IsUnderOwnNumber old.number) mid now
        (λ c is. under-own old.number c is.readers) h.calls)

    pub found-front : IsPrefix own now
    found-front = longer-front own mid now found.more h.more

  pub found-performed : (own mid now : List CoreEntry) (IsText : ℕ → ℕ → List ℕ → Type 0) (Posts : ChangeEnd → Type 0)
      (Answers : ChangeEnd → Reply → Type 0) (new : CoreSession) (answered : Answered)
      → ((said : Reply) → HasEnded cells caller (counted_session old) s mid now IsText Posts Answers new said
      → Performed own new now said)
      → HasAnswered cells caller (counted_session old) s mid now IsText Posts Answers new answered
      → IfReplied answered (Performed own new now)
  found-performed own mid now IsText Posts Answers new (Replied said) ended h = ended said h.replied
  found-performed own mid now IsText Posts Answers new Stopped ended h = tt

  pub found-holds : (mid now : List CoreEntry) (IsText : ℕ → ℕ → List ℕ → Type 0) (Posts : ChangeEnd → Type 0)
      (Answers : ChangeEnd → Reply → Type 0) (new : CoreSession) (answered : Answered)
      → HasAnswered cells caller (counted_session old) s mid now IsText Posts Answers new answered
      → IfReplied answered (λ said. HoldsForMode FitsShard CoreShardStands ShardAnswerSays cells caller new.number now
      (mode_of new.mode))
  found-holds mid now IsText Posts Answers new (Replied said) h = h.replied.holds
  found-holds mid now IsText Posts Answers new Stopped h = tt
