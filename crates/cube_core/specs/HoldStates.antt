-- What a session holds between two of its calls, as five states, and which calls lead from one to another.
--
--   in state                       it makes                               and then is in state
--   IsIdle                         OpenWrite                              IsWriting
--                                  OpenRead under its own number          IsReading
--   IsReading                      a scan on each shard                   IsReading
--                                  CloseRead under its own number         IsIdle
--   IsWriting                      a scan on each shard                   IsWriting
--                                  batches of rows on some shards,        IsWriting, or where one was refused
--                                  or a deletion on each                  HasSpoiledWrite
--                                  Commit                                 IsIdle
--   IsWriting or HasSpoiledWrite   a rollback on each shard               HasRolledBack
--   HasRolledBack                  AbortEnd                               IsIdle
--
-- In the first three it also looks for cubes, leaves notes, asks for names and for the counters, has shards purge and
-- asks for a round, and stays where it is; an idle one makes cubes. No state speaks of the session's holders: they may hold the readers of a watch, or nothing.
-- Source: AOSI (ICDE 2018) for begin, commit and abort; groups of jobs and holders are this project's own.
use Rattle.std.specs.Prelude.{◌≡◌, ◌≢◌, ℕ, true, false, List, [], Option, Some, None}
use Rattle.cube_values.specs.declared.snapshot.Snapshot.{Snapshot}
use Rattle.core_cells.specs.declared.desk.DeskAnswer.{DeskAnswer}
use Rattle.core_cells.specs.declared.desk.DeskAnswer.TheVariants as answer
use Rattle.core_cells.specs.declared.desk.DeskCall.{DeskCall}
use Rattle.core_events.specs.Clients.{Holding, ClientState, after_client_call, held_under, holds_without}
use Rattle.core_events.specs.Events.{Opening, OpenRead, CloseRead, ClientCall, OnDesk}
use Rattle.core_events.specs.Fitting.{HasAllDone}
use Rattle.core_events.specs.Groups.{RollsBack, has_ended, has_refusal, is_ready, is_spoiled, no_group}
use Rattle.cube_core.specs.DeskEvents.{FitsDeskCall, desk_event}

-- The snapshot that a session holds under its own number, if any. That number is never its leading holder.
pub record HoldsOwn (a : ℕ) (own : Option Snapshot) (k : ClientState) : Type 0 where
  pub held : held_under a k.holds ≡ own
  pub leader : k.leader ≢ Some a

-- It holds that, or nothing, and its last group has ended with no write refused.
pub record IsReadyWith (o : Opening) (a : ℕ) (own : Option Snapshot) (k : ClientState) : Type 0 where
  pub holds : HoldsOwn a own k
  pub ready : is_ready o.shards k.group ≡ true

-- It holds no snapshot.
abbrev pub IsIdle : Opening → ℕ → ClientState → Type 0
IsIdle o a k = IsReadyWith o a None k

-- It holds this reader.
pub record IsReading (o : Opening) (a : ℕ) (s : Snapshot) (k : ClientState) : Type 0 where
  pub ready : IsReadyWith o a (Some s) k
  pub reader : s.own ≡ false

-- It holds this writer.
pub record IsWriting (o : Opening) (a : ℕ) (s : Snapshot) (k : ClientState) : Type 0 where
  pub ready : IsReadyWith o a (Some s) k
  pub writer : s.own ≡ true

-- It holds this writer, of which a write was refused, and its last group has ended.
pub record HasSpoiledWrite (o : Opening) (a : ℕ) (s : Snapshot) (k : ClientState) : Type 0 where
  pub holds : HoldsOwn a (Some s) k
  pub writer : s.own ≡ true
  pub ended : has_ended o.shards k.group ≡ true
  pub spoiled : is_spoiled k.group.kind (has_refusal k.group.answers) ≡ true

-- It holds this writer, and every shard has taken back what it wrote.
pub record HasRolledBack (o : Opening) (a : ℕ) (s : Snapshot) (k : ClientState) : Type 0 where
  pub holds : HoldsOwn a (Some s) k
  pub writer : s.own ≡ true
  pub rolls : k.group.kind ≡ RollsBack
  pub done : HasAllDone o.shards k.group

-- What a session knows after a call on the desk with its answer.
abbrev pub after_desk_call : Opening → ℕ → DeskCall → DeskAnswer → ClientState → ClientState
after_desk_call o a c said k = after_client_call o a (desk_event a k c said) k

-- What it knows once a call has left an entry of its own: it holds these, has no group, and knows of no FLUSH and of no
-- LSE since that entry.
abbrev pub with_own_entry : List Holding → ClientState → ClientState
with_own_entry holds k = record k { holds = holds; group = no_group; flush = None; shown = [] }

-- With an answer to a call on the desk the session comes into a state, and knows this.
pub record ComesTo (o : Opening) (a : ℕ) (c : DeskCall) (said : DeskAnswer) (k known : ClientState)
    (Then : ClientState → Type 0) : Type 0 where
  pub stands : Then (after_desk_call o a c said k)
  pub knows : after_desk_call o a c said k ≡ known

-- A call ends the snapshot that the session holds: it fits, and then the session is idle.
pub record EndsOwn (o : Opening) (a : ℕ) (c : DeskCall) (k : ClientState) : Type 0 where
  pub fits : FitsDeskCall o a c k
  pub done : ComesTo o a c answer.Done k (with_own_entry (holds_without a k.holds) k) (IsIdle o a)

-- A reader is opened and closed under the session's own number, and not for one of its holders.
abbrev pub IsUnderOwnNumber : ℕ → ClientCall → Type 0
IsUnderOwnNumber a (OnDesk (OpenRead number statement epoch)) = number ≡ a
IsUnderOwnNumber a (OnDesk (CloseRead number statement)) = number ≡ a
IsUnderOwnNumber a c = Unit {0}
