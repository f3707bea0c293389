-- Which event of the core a call on the desk is, with its answer, and which calls fit what their client knows.
-- Source: this project's own; AOSI (ICDE 2018) for what a transaction may do.
use Rattle.std.specs.Prelude.{◌≡◌, ℕ, Bool, true, false}
use Rattle.std.specs.Option.{option_map_or}
use Rattle.core_cells.specs.declared.desk.DeskCall.{DeskCall}
use Rattle.core_cells.specs.declared.desk.DeskCall.TheVariants as call
use Rattle.core_cells.specs.declared.desk.DeskAnswer.{DeskAnswer}
use Rattle.core_cells.specs.declared.desk.DeskAnswer.TheVariants as answer
use Rattle.core_events.specs.Clients.{ClientState, held_under}
use Rattle.core_events.specs.Events.{Opening, OpenWrite, OpenRead, Commit, AbortEnd, CloseRead, TakeNote, CreateCube, FindCube, CubesFrom, CountersNow, RoundOpen, RoundClose, StoreFailed, ClientCall, OnDesk, NoChange, CoreEvent, By, At}
use Rattle.core_events.specs.Fitting.{FitsCall}

-- The epoch of the snapshot that a client holds under its own number.
abbrev pub own_epoch : ℕ → ClientState → ℕ
own_epoch a k = option_map_or (λ h. h.epoch) (held_under a k.holds) 0

-- The event of a call with its answer. One that wanted memory changes nothing.
abbrev pub desk_event : ℕ → ClientState → DeskCall → DeskAnswer → ClientCall
desk_event a k (call.OpenWrite session statement) (answer.Opened s) = OnDesk (OpenWrite statement s.epoch s.deps)
desk_event a k (call.OpenRead number statement) (answer.Opened s) = OnDesk (OpenRead number statement s.epoch)
desk_event a k (call.Commit session statement) answer.Done = OnDesk (Commit statement (own_epoch a k))
desk_event a k (call.AbortEnd session statement cause) answer.Done = OnDesk (AbortEnd statement (own_epoch a k) cause)
desk_event a k (call.CloseRead number statement) answer.Done = OnDesk (CloseRead number statement)
desk_event a k (call.Note note) (answer.Counted shown) = OnDesk (TakeNote note shown)
desk_event a k (call.CreateCube session statement decl) (answer.Created made) = OnDesk (CreateCube statement decl made)
desk_event a k (call.FindCube session statement name) (answer.Found found) = OnDesk (FindCube statement name found)
desk_event a k (call.CubesFrom place) (answer.Cubes cubes) = OnDesk (CubesFrom place cubes)
desk_event a k call.RoundOpen (answer.Round asked) = OnDesk (RoundOpen asked)
desk_event a k (call.RoundClose epoch end) answer.Done = OnDesk (RoundClose epoch end)
desk_event a k call.Counters (answer.Counted shown) = OnDesk (CountersNow shown)
desk_event a k call.StoreFailed (answer.Failed failed) = OnDesk (StoreFailed failed)
desk_event a k call answer = NoChange

-- A session's calls carry its own number, but where they may carry that of a holder.
abbrev pub BearsOwnNumber : ℕ → DeskCall → Type 0
BearsOwnNumber a (call.OpenWrite session statement) = session ≡ a
BearsOwnNumber a (call.Commit session statement) = session ≡ a
BearsOwnNumber a (call.AbortEnd session statement cause) = session ≡ a
BearsOwnNumber a (call.CreateCube session statement decl) = session ≡ a
BearsOwnNumber a (call.FindCube session statement name) = session ≡ a
BearsOwnNumber a call = Unit {0}

-- A call fits what its client knows where its event does, whatever is answered.
pub record FitsDeskCall (o : Opening) (a : ℕ) (call : DeskCall) (k : ClientState) : Type 0 where
  pub number : BearsOwnNumber a call
  pub event : (answer : DeskAnswer) → FitsCall o a (desk_event a k call answer) k

-- The event is a call on the desk.
abbrev pub is_on_desk : CoreEvent → Bool
is_on_desk (By client (OnDesk call)) = true
is_on_desk (By client call) = false
is_on_desk (At mail move) = false
