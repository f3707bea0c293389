-- A round without a store, by the flusher's calls on the desk.
use Rattle.std.proofs.Common.{◌≡◌, ◌∙◌, ℕ, Bool, false, List, [], ◌∷◌, ◌++◌, append_assoc, append-nil, Option, Some, None, refl, sym, ap, subst}
use Rattle.std.specs.Option.{option_map_or}
use Rattle.aosi_desk.specs.declared.answer.RoundAnswer.{RoundAnswer}
use Rattle.aosi_desk.specs.declared.answer.RoundAnswer.TheVariants.{Target, Nothing}
use Rattle.aosi_desk.specs.declared.answer.RoundEnd.{RoundEnd}
use Rattle.aosi_desk.specs.declared.answer.RoundEnd.TheVariants as end
use Rattle.core_program.specs.ClientCalls.{desk_entry}
use Rattle.cube_core.specs.Links.{AreEventsOf}
use Rattle.cube_core.specs.BoardCells.{IsEntryEvent}
use Rattle.core_cells.specs.declared.desk.DeskAnswer.{DeskAnswer}
use Rattle.core_cells.specs.declared.desk.DeskAnswer.TheVariants as answer
use Rattle.core_cells.specs.declared.desk.DeskCall.{DeskCall}
use Rattle.core_cells.specs.declared.desk.DeskCall.TheVariants as call
use Rattle.core_program.proofs.KnownCalls.{desk-learns, earlier-run}
use Rattle.core_program.specs.Knowing.{GoOnBy, IsClientOf, IsLaterRun, Knows, MayCallDesk}
use Rattle.core_events.specs.Clients.{ClientState, calls_of, is_lost_to_disk, state_from_calls}
use Rattle.core_events.specs.Events.{Opening, RoundClose, RoundOpen, OnDesk, NoChange, ClientCall, CoreEvent, By, flusher}
use Rattle.core_events.specs.Jobs.{CoreJob, JobOutcome}
use Rattle.core_events.specs.ShardView.{ShardView}
use Rattle.core_program.proofs.FlusherCalls.{is-client}
use Rattle.core_program.specs.Flushing.{IsFlusherOf}
use Rattle.cube_core.specs.DeskEvents.{FitsDeskCall, desk_event}
use Rattle.core_program.specs.CoreFits.{CoreEntry}
use Rattle.cube_core.specs.declared.cell.CoreCell.{CoreCell}
use Rattle.cube_core.specs.declared.shard.ShardAnswer.{ShardAnswer}
use Rattle.cube_core.specs.declared.shard.ShardCall.{ShardCall}
use Rattle.flush_loop.specs.MadeRounds.{KnowsBetween, KnowsWithin, LearnsOfOwnRound}
use Rattle.flush_loop.specs.PlainRounds.{KnowsAfterOpening, closing_entries, result_of_opening}
use Rattle.flusher_rounds.proofs.Rounds as rounds
use Rattle.flusher_rounds.specs.RoundStates.{HasRound, IsBetweenRounds, IsInRound}
use Rattle.job_groups.specs.AskedEach.{HasMore}
use Rattle.cube_core.proofs.Snapshots.{no-memory}
use Rattle.cube_core.specs.HoldStates.{after_desk_call}

abbrev pub opening_entry : ℕ → Option RoundAnswer → CoreEntry
opening_entry caller asked = desk_entry caller call.RoundOpen (option_map_or answer.Round asked answer.NoMemory)

module _ {S : Type 0} (fits : Opening → ℕ → ShardCall → Type 0) (stands : Opening → ℕ → ℕ → S → ShardView → Type 0)
    (says : CoreJob → ShardAnswer → JobOutcome → Type 0) (cells : List (CoreCell S)) (caller client shards : ℕ)
    (flush : IsFlusherOf fits stands says cells caller client shards) where
  abbrev Later : Opening → List CoreEntry → List CoreEntry → List CoreEvent → Type 0
  Later o own log run = IsLaterRun fits stands says cells o caller own log run

  abbrev Of : Opening → List CoreEntry → List CoreEvent → Type 0
  Of o own es = AreEventsOf (IsEntryEvent fits stands says o) own es

  acts : IsClientOf fits stands says cells caller client
  acts = is-client fits stands says cells caller client shards flush

  abbrev IsState : Type 1
  IsState = Opening → ClientState → Type 0

  abbrev KnowsState : List CoreEntry → IsState → Type 0
  KnowsState own Is = Knows fits stands says cells caller client own (λ o calls. Is o (state_from_calls o client calls))

  -- It may make a call that a state of its own lets it make.
  may-call : (own : List CoreEntry) (c : DeskCall) (Is : IsState) → KnowsState own Is
      → ((o : Opening) (k : ClientState) → Is o k → FitsDeskCall o (flusher o) c k)
      → Knows fits stands says cells caller client own (MayCallDesk client c)
  may-call own c Is knows may o log run es later are =
      subst (λ (a : ℕ). FitsDeskCall o a c (state_from_calls o client (calls_of client es))) (sym (flush.client_is o log later.opens))
      (may o (state_from_calls o client (calls_of client es)) (knows o log run es later are))

  -- By one call more.
  pub learnt : (own now : List CoreEntry) (c : DeskCall) (said : DeskAnswer) → now ≡ own ++ desk_entry caller c said ∷ [] → (o : Opening)
      (log : List CoreEntry) (run es : List CoreEvent) → Later o now log run → Of o now es
      → GoOnBy fits stands says cells o client own es (λ calls. desk_event client (state_from_calls o client calls) c said)
  learnt own now c said is o log run es later are =
      desk-learns fits stands says cells caller client acts own c said o log es later.opens (subst (λ (l : List CoreEntry). Of o l es) is are)

  pub before-it : (own now : List CoreEntry) (e : CoreEntry) → now ≡ own ++ e ∷ [] → (o : Opening) (log : List CoreEntry) (run : List CoreEvent)
      → Later o now log run → Later o own log run
  before-it own now e is o log run later =
      earlier-run fits stands says cells o caller own (e ∷ []) log run (subst (λ (l : List CoreEntry). Later o l log run) is later)

  known-after : (own now : List CoreEntry) (c : DeskCall) (said : DeskAnswer) (Is Then : IsState) → KnowsState own Is
      → now ≡ own ++ desk_entry caller c said ∷ []
      → ((o : Opening) (k : ClientState) → Is o k → Then o (after_desk_call o client c said k)) → KnowsState now Then
  known-after own now c said Is Then knows is leads o log run es later are =
      let g = learnt own now c said is o log run es later are in
      subst (λ (calls : List ClientCall). Then o (state_from_calls o client calls)) (sym g.calls)
      (leads o (state_from_calls o client (calls_of client g.before))
      (knows o log run g.before (before-it own now (desk_entry caller c said) is o log run later) g.events))

  -- It asks for a round.

  pub may-open : (own : List CoreEntry) → KnowsBetween fits stands says cells caller client false own
      → Knows fits stands says cells caller client own (MayCallDesk client call.RoundOpen)
  may-open own knows = may-call own call.RoundOpen (λ o k. IsBetweenRounds o false k) knows rounds.may-ask

  pub after-opening : (asked : Option RoundAnswer) (own now : List CoreEntry) → KnowsBetween fits stands says cells caller client false own
      → now ≡ own ++ opening_entry caller asked ∷ [] → KnowsAfterOpening fits stands says cells caller client asked now
  after-opening (Some (Target from epoch)) own now knows is =
      known-after own now call.RoundOpen (answer.Round (Target from epoch)) (λ o k. IsBetweenRounds o false k) (λ o k. HasRound o from epoch k)
      knows is (λ o k has. (rounds.opened o from epoch k has).stands)
  after-opening (Some (Nothing epoch)) own now knows is =
      known-after own now call.RoundOpen (answer.Round (Nothing epoch)) (λ o k. IsBetweenRounds o false k) (λ o k. IsBetweenRounds o false k)
      knows is (λ o k has. (rounds.nothing o epoch k has).stands)
  after-opening None own now knows is =
      known-after own now call.RoundOpen answer.NoMemory (λ o k. IsBetweenRounds o false k) (λ o k. IsBetweenRounds o false k) knows is
      (λ o k has. subst (λ (k : ClientState). IsBetweenRounds o false k) (sym (no-memory o client call.RoundOpen k)) has)

  -- It closes it, however far it has come.

  abbrev Within : ℕ → ℕ → IsState
  Within from epoch o k = (has_cubes : Bool) × IsInRound from epoch has_cubes k

  pub open-within : (from epoch : ℕ) (own : List CoreEntry) → KnowsAfterOpening fits stands says cells caller client (Some (Target from epoch)) own
      → KnowsWithin fits stands says cells caller client from epoch own
  open-within from epoch own knows o log run es later are = (false, (knows o log run es later are).within)

  pub may-shut : (from epoch : ℕ) (how : RoundEnd) (own : List CoreEntry) → KnowsWithin fits stands says cells caller client from epoch own
      → Knows fits stands says cells caller client own (MayCallDesk client (call.RoundClose epoch how))
  may-shut from epoch how own knows =
      may-call own (call.RoundClose epoch how) (Within from epoch) knows (λ o k has. rounds.may-close o from epoch has.0 how k has.1)

  pub after-shut : (from epoch : ℕ) (how : RoundEnd) (own now : List CoreEntry) → KnowsWithin fits stands says cells caller client from epoch own
      → now ≡ own ++ desk_entry caller (call.RoundClose epoch how) answer.Done ∷ []
      → KnowsBetween fits stands says cells caller client (is_lost_to_disk how) now
  after-shut from epoch how own now knows is =
      known-after own now (call.RoundClose epoch how) answer.Done (Within from epoch) (λ o k. IsBetweenRounds o (is_lost_to_disk how) k) knows is
      (λ o k has. (rounds.closed o from epoch has.0 how k has.1).stands)

  -- These are the calls of a round that ended so.

  pub plain-round : (asked : Option RoundAnswer) (own mid now : List CoreEntry) → mid ≡ own ++ opening_entry caller asked ∷ []
      → now ≡ mid ++ closing_entries caller asked
      → LearnsOfOwnRound fits stands says cells caller client (result_of_opening asked) own now
  plain-round (Some (Target from epoch)) own mid now opened closed o log run es later are =
      let c = learnt mid now (call.RoundClose epoch end.Safe) answer.Done closed o log run es later are in
      let later_mid = before-it mid now (desk_entry caller (call.RoundClose epoch end.Safe) answer.Done) closed o log run later in
      let g = learnt own mid call.RoundOpen (answer.Round (Target from epoch)) opened o log run c.before later_mid c.events in
      record {
        before = g.before;
        events = g.events;
        calls = OnDesk (RoundClose epoch end.Safe) ∷ OnDesk (RoundOpen (Target from epoch)) ∷ [];
        whole = c.whole ∙ ap (λ (l : List CoreEvent). By client (OnDesk (RoundClose epoch end.Safe)) ∷ l) g.whole;
        of_round = record { from = from; later = []; between = []; earlier = []; whole = refl; after = tt; within = tt; before = tt };
      }
  plain-round (Some (Nothing epoch)) own mid now opened closed o log run es later are =
      let same = closed ∙ append-nil mid in
      let g = learnt own now call.RoundOpen (answer.Round (Nothing epoch)) (same ∙ opened) o log run es later are in
      record {
        before = g.before;
        events = g.events;
        calls = OnDesk (RoundOpen (Nothing epoch)) ∷ [];
        whole = g.whole;
        of_round = record { later = []; earlier = []; whole = refl; after = tt; before = tt };
      }
  plain-round None own mid now opened closed o log run es later are =
      let same = closed ∙ append-nil mid in
      let g = learnt own now call.RoundOpen answer.NoMemory (same ∙ opened) o log run es later are in
      record { before = g.before; events = g.events; calls = NoChange ∷ []; whole = g.whole; of_round = (tt, tt) }

pub more-by-round : (caller : ℕ) (asked : Option RoundAnswer) (own mid now : List CoreEntry) → mid ≡ own ++ opening_entry caller asked ∷ []
    → now ≡ mid ++ closing_entries caller asked → HasMore own now
more-by-round caller asked own mid now opened closed = record {
  more = opening_entry caller asked ∷ closing_entries caller asked;
  whole = closed
      ∙ ap (λ (l : List CoreEntry). l ++ closing_entries caller asked) opened
      ∙ append_assoc own (opening_entry caller asked ∷ []) (closing_entries caller asked);
}
