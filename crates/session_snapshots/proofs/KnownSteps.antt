-- A session makes a call on the desk: what it holds tells it that the call fits, and the answer what it then holds.
use Rattle.std.proofs.Common.{◌≡◌, ◌∙◌, ℕ, List, [], ◌∷◌, ◌++◌, Option, Some, None, IfSome, IfNone, sym, ap, subst}
use Rattle.std.specs.Option.{option_map_or}
use Rattle.cube_values.specs.declared.snapshot.Snapshot.{Snapshot}
use Rattle.cube_journal.specs.declared.counters.Counters.{Counters}
use Rattle.cube_journal.specs.declared.note.Note.{Note}
use Rattle.aosi_desk.specs.declared.cube.CubeFound.{CubeFound}
use Rattle.aosi_desk.specs.declared.cube.CubeFound.TheVariants.{Found, Unknown}
use Rattle.core_program.specs.ClientCalls.{desk_entry}
use Rattle.cube_core.specs.Links.{AreEventsOf}
use Rattle.cube_core.specs.BoardCells.{IsEntryEvent}
use Rattle.core_cells.specs.declared.desk.DeskAnswer.{DeskAnswer}
use Rattle.core_cells.specs.declared.desk.DeskAnswer.TheVariants as answer
use Rattle.core_cells.specs.declared.desk.DeskCall.{DeskCall}
use Rattle.core_cells.specs.declared.desk.DeskCall.TheVariants as call
use Rattle.core_program.specs.Knowing.{IsClientOf, IsLaterRun, IsSessionOf, Knows, MayCallDesk}
use Rattle.core_program.proofs.KnownCalls.{desk-learns, earlier-run}
use Rattle.core_events.specs.Clients.{ClientState, calls_of, state_from_calls}
use Rattle.core_events.specs.Events.{Opening, IsSession, ClientCall}
use Rattle.core_events.specs.Jobs.{CoreJob, JobOutcome}
use Rattle.core_events.specs.ShardView.{ShardView}
use Rattle.cube_core.specs.DeskEvents.{FitsDeskCall}
use Rattle.core_program.specs.CoreFits.{CoreEntry}
use Rattle.cube_core.specs.declared.cell.CoreCell.{CoreCell}
use Rattle.cube_core.specs.declared.shard.ShardAnswer.{ShardAnswer}
use Rattle.cube_core.specs.declared.shard.ShardCall.{ShardCall}
use Rattle.cube_core.specs.HoldStates.{IsReadyWith, IsReading, IsWriting, after_desk_call}
use Rattle.cube_core.proofs.Looking.{finds, misses, notes}
use Rattle.cube_core.proofs.Snapshots.{no-memory}
use Rattle.session_snapshots.specs.KnownHolds.{HoldsTheSame, KnowsState}

module _ {S : Type 0} (fits : Opening → ℕ → ShardCall → Type 0) (stands : Opening → ℕ → ℕ → S → ShardView → Type 0)
    (says : CoreJob → ShardAnswer → JobOutcome → Type 0) (cells : List (CoreCell S)) (caller session : ℕ) where
  abbrev IsState : Type 1
  IsState = Opening → ClientState → Type 0

  pub may-call : (own : List CoreEntry) (c : DeskCall) (Is : IsState) → IsSessionOf fits stands says cells session
      → KnowsState fits stands says cells caller session own Is
      → ((o : Opening) (k : ClientState) → IsSession o session → Is o k → FitsDeskCall o session c k)
      → Knows fits stands says cells caller session own (MayCallDesk session c)
  may-call own c Is session_of knows may o log run es later are =
      may o (state_from_calls o session (calls_of session es)) (session_of o log later.opens)
      (knows o log run es later are)

  module _ (acts : IsClientOf fits stands says cells caller session)
      (session_of : IsSessionOf fits stands says cells session) (own now : List CoreEntry) (c : DeskCall) where
    abbrev KnowsBefore : IsState → Type 0
    KnowsBefore Is = KnowsState fits stands says cells caller session own Is

    -- The call with an answer leads from states that are so to states that are then so.
    abbrev Leads : DeskAnswer → IsState → IsState → Type 0
    Leads said Is Then =
        (o : Opening) (k : ClientState) → IsSession o session → Is o k → Then o (after_desk_call o session c said k)

    -- By one call more.
    known-after : (said : DeskAnswer) (Is Then : IsState) → KnowsBefore Is → now ≡ own ++ desk_entry caller c said ∷ []
        → Leads said Is Then → KnowsState fits stands says cells caller session now Then
    known-after said Is Then knows is leads o log run es later are =
        let more = desk_entry caller c said ∷ [] in
        let later_one : IsLaterRun fits stands says cells o caller (own ++ more) log run =
        subst (λ (l : List CoreEntry). IsLaterRun fits stands says cells o caller l log run) is later
        in
        let g =
        desk-learns fits stands says cells caller session acts own c said o log es later.opens
        (subst (λ (l : List CoreEntry). AreEventsOf (IsEntryEvent fits stands says o) l es) is are)
        in
        let earlier = earlier-run fits stands says cells o caller own more log run later_one in
        subst (λ (calls : List ClientCall). Then o (state_from_calls o session calls)) (sym g.calls)
        (leads o (state_from_calls o session (calls_of session g.before)) (session_of o log later.opens)
        (knows o log run g.before earlier g.events))

    module _ (new_cells : List (CoreCell S)) (new_caller : ℕ) (same_cells : new_cells ≡ cells)
        (same_caller : new_caller ≡ caller) (said : DeskAnswer) (is : now ≡ own ++ desk_entry caller c said ∷ []) where
      abbrev KnowsThen : IsState → Type 0
      KnowsThen Then = KnowsState fits stands says new_cells new_caller session now Then

      so-it-is : (wanted : DeskAnswer) → said ≡ wanted → now ≡ own ++ desk_entry caller c wanted ∷ []
      so-it-is wanted same = is ∙ ap (λ (a : DeskAnswer). own ++ desk_entry caller c a ∷ []) same

      -- By an answer of this form.
      pub after-call : (wanted : DeskAnswer) (Is Then : IsState) → said ≡ wanted → KnowsBefore Is
          → Leads wanted Is Then → KnowsThen Then
      after-call wanted Is Then same knows leads =
          coe 1 0 (i. KnowsState fits stands says (same_cells i) (same_caller i) session now Then)
          (known-after wanted Is Then knows (so-it-is wanted same) leads)

      -- Where the desk was out of memory.
      after-none : (Is : IsState) → said ≡ answer.NoMemory → KnowsBefore Is → KnowsThen Is
      after-none Is same knows =
          after-call answer.NoMemory Is Is same knows
          (λ o k a_session was. subst (λ (k : ClientState). Is o k) (sym (no-memory o session c k)) was)

      -- It answered, or was out of memory.
      pub if-answered : {X : Type 0} (of : X → DeskAnswer) (result : Option X) (Is : IsState) (Then : X → IsState)
          → said ≡ option_map_or of result answer.NoMemory → KnowsBefore Is
          → ((x : X) → Leads (of x) Is (Then x)) → IfSome result (λ x. KnowsThen (Then x))
      if-answered of (Some x) Is Then same knows leads = after-call (of x) Is (Then x) same knows (leads x)
      if-answered of None Is Then same knows leads = tt

      pub if-not-answered : {X : Type 0} (of : X → DeskAnswer) (result : Option X) (Is : IsState)
          → said ≡ option_map_or of result answer.NoMemory → KnowsBefore Is → IfNone result (KnowsThen Is)
      if-not-answered of (Some x) Is same knows = tt
      if-not-answered of None Is same knows = after-none Is same knows

      pub either-way : {X : Type 0} (of : X → DeskAnswer) (result : Option X) (Is : IsState)
          → said ≡ option_map_or of result answer.NoMemory → KnowsBefore Is → ((x : X) → Leads (of x) Is Is)
          → KnowsThen Is
      either-way of (Some x) Is same knows leads = after-call (of x) Is Is same knows (leads x)
      either-way of None Is same knows leads = after-none Is same knows

      -- Where it stays ready with what it holds.
      pub holds-on : (wanted : DeskAnswer) → said ≡ wanted
          → ((held : Option Snapshot) (o : Opening) (k : ClientState) → IsReadyWith o session held k
          → IsReadyWith o session held (after_desk_call o session c wanted k))
          → HoldsTheSame fits stands says session cells caller own new_cells new_caller now
      holds-on wanted same stays = record {
        ready = λ held knows. after-call wanted (λ o k. IsReadyWith o session held k)
            (λ o k. IsReadyWith o session held k) same knows (λ o k a_session r. stays held o k r);
        reader = λ s knows. after-call wanted (λ o k. IsReading o session s k) (λ o k. IsReading o session s k) same
            knows (λ o k a_session r. record { ready = stays (Some s) o k r.ready; reader = r.reader });
        writer = λ s knows. after-call wanted (λ o k. IsWriting o session s k) (λ o k. IsWriting o session s k) same
            knows (λ o k a_session w. record { ready = stays (Some s) o k w.ready; writer = w.writer });
      }

-- A cube was looked for.
pub ready-by-search : (a statement : ℕ) (name : List ℕ) (result : Option CubeFound) (held : Option Snapshot)
    (o : Opening) (k : ClientState) → IsReadyWith o a held k → IsReadyWith o a held (after_desk_call o a
    (call.FindCube a statement name) (option_map_or answer.Found result answer.NoMemory) k)
ready-by-search a statement name (Some (Found place decl)) held o k r =
    (finds o a statement place name decl held k r).stands
ready-by-search a statement name (Some Unknown) held o k r = (misses o a statement name held k r).stands
ready-by-search a statement name None held o k r =
    subst (IsReadyWith o a held) (sym (no-memory o a (call.FindCube a statement name) k)) r

-- A note was left.
pub ready-by-note : (a : ℕ) (note : Note) (result : Option Counters) (held : Option Snapshot) (o : Opening)
    (k : ClientState) → IsReadyWith o a held k → IsReadyWith o a held (after_desk_call o a (call.Note note)
    (option_map_or answer.Counted result answer.NoMemory) k)
ready-by-note a note (Some now) held o k r = (notes o a note now held k r).stands
ready-by-note a note None held o k r = subst (IsReadyWith o a held) (sym (no-memory o a (call.Note note) k)) r

-- The snapshot that was opened is the one that is held.
pub held-itself : (result : Option Snapshot) (f : Snapshot → Snapshot) (Holds : Snapshot → Type 0)
    → IfSome result (λ s. s ≡ f s) → IfSome result (λ s. Holds (f s)) → IfSome result Holds
held-itself (Some s) f Holds is holds = subst Holds (sym is) holds
held-itself None f Holds is holds = tt
