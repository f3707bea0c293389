-- The flusher makes a call on the desk or on the names within its round: what it knows before and after.
use Rattle.std.proofs.Common.{◌≡◌, ◌∙◌, ℕ, List, [], ◌∷◌, ◌++◌, append_assoc, append-nil, map, refl, sym, ap, subst}
use Rattle.std.specs.List.{AllByRecursion}
use Rattle.core_program.specs.ClientCalls.{desk_entry, names_entry}
use Rattle.cube_core.specs.Links.{AreEventsOf}
use Rattle.cube_core.specs.BoardCells.{IsEntryEvent}
use Rattle.core_cells.specs.declared.desk.DeskAnswer.{DeskAnswer}
use Rattle.core_cells.specs.declared.desk.DeskAnswer.TheVariants as answer
use Rattle.core_cells.specs.declared.desk.DeskCall.{DeskCall}
use Rattle.core_cells.specs.declared.desk.DeskCall.TheVariants as call
use Rattle.core_cells.specs.declared.names.NamesAnswer.{NamesAnswer}
use Rattle.core_cells.specs.declared.names.NamesAnswer.TheVariants as told
use Rattle.core_cells.specs.declared.names.NamesCall.{NamesCall}
use Rattle.core_cells.specs.declared.names.NamesCall.TheVariants as names
use Rattle.core_program.specs.Knowing.{GoOnBy, IsClientOf, IsLaterRun, Knows, MayCallDesk, MayCallNames}
use Rattle.core_program.proofs.KnownCalls.{desk-learns, earlier-run, names-learn}
use Rattle.core_events.specs.Clients.{ClientState, after_client_call, calls_of, state_from_calls}
use Rattle.core_events.specs.Events.{Opening, ClientCall, CoreEvent, By, flusher}
use Rattle.core_program.specs.Flushing.{IsFlusherOf}
use Rattle.core_program.proofs.FlusherCalls.{is-client}
use Rattle.cube_core.specs.DeskEvents.{FitsDeskCall, desk_event}
use Rattle.cube_core.specs.NamesEvents.{FitsNamesCall, names_event}
use Rattle.core_program.specs.CoreFits.{CoreEntry}
use Rattle.cube_core.specs.declared.cell.CoreCell.{CoreCell}
use Rattle.flusher_rounds.specs.FlushReplies.{IsWithinRound}
use Rattle.flusher_rounds.specs.RoundStates.{after_names_call}
use Rattle.job_groups.specs.AskedEach.{HasMore}
use Rattle.linked_shards.specs.CellShards.{CoreShardStands}
use Rattle.linked_shards.specs.declared.cell.CoreShard.{CoreShard}
use Rattle.round_copies.specs.WithinRounds.{KnowsOfFlusher, StaysWithinRound}
use Rattle.cube_core.specs.HoldStates.{after_desk_call}
use Rattle.shard_events.specs.ShardsInRuns.{FitsShard, ShardAnswerSays}

abbrev pub IsState : Type 1
IsState = Opening → ClientState → Type 0

-- Calls on the desk that list cubes, and calls on the names, are within a round.

pub list-within : (a place : ℕ) (said : DeskAnswer) (k : ClientState) → IsWithinRound (desk_event a k (call.CubesFrom place) said)
list-within a place (answer.Cubes cubes) k = tt
list-within a place said k = tt

pub copy-within : (cube dim number : ℕ) (said : NamesAnswer) → IsWithinRound (names_event (names.CopyFrom cube dim number) said)
copy-within cube dim number (told.Copied list) = tt
copy-within cube dim number said = tt

map-joined : {X Y : Type 0} (f : X → Y) (xs ys : List X) → map f (xs ++ ys) ≡ map f xs ++ map f ys
map-joined f [] ys = refl
map-joined f (x ∷ xs) ys = ap (λ (l : List _). f x ∷ l) (map-joined f xs ys)

all-joined : (P : ClientCall → Type 0) (xs ys : List ClientCall) → AllByRecursion P xs → AllByRecursion P ys → AllByRecursion P (xs ++ ys)
all-joined P [] ys all more = more
all-joined P (x ∷ xs) ys all more = (all.0, all-joined P xs ys all.1 more)

module _ (cells : List (CoreCell CoreShard)) (caller client : ℕ) where
  abbrev Later : Opening → List CoreEntry → List CoreEntry → List CoreEvent → Type 0
  Later o own log run = IsLaterRun FitsShard CoreShardStands ShardAnswerSays cells o caller own log run

  abbrev Of : Opening → List CoreEntry → List CoreEvent → Type 0
  Of o own es = AreEventsOf (IsEntryEvent FitsShard CoreShardStands ShardAnswerSays o) own es

  -- What was known before more calls holds of the calls before.
  pub before-more : (own more now log : List CoreEntry) (o : Opening) (run : List CoreEvent) → now ≡ own ++ more → Later o now log run
      → Later o own log run
  before-more own more now log o run is later =
      earlier-run FitsShard CoreShardStands ShardAnswerSays cells o caller own more log run
      (subst (λ (l : List CoreEntry). Later o l log run) is later)

  pub stays-none : (own : List CoreEntry) → StaysWithinRound cells caller client own own
  stays-none own o log run es later are = record { before = es; events = are; added = []; whole = refl; within = tt }

  pub stays-more : (own mid now : List CoreEntry) → HasMore mid now → StaysWithinRound cells caller client own mid
      → StaysWithinRound cells caller client mid now → StaysWithinRound cells caller client own now
  stays-more own mid now more first second o log run es later are =
      let b = second o log run es later are in
      let a = first o log run b.before (before-more mid more.more now log o run more.whole later) b.events in
      record {
        before = a.before;
        events = a.events;
        added = b.added ++ a.added;
        whole = b.whole
            ∙ ap (λ (l : List CoreEvent). map (λ c. By client c) b.added ++ l) a.whole
            ∙ sym (append_assoc (map (λ c. By client c) b.added) (map (λ c. By client c) a.added) a.before)
            ∙ ap (λ (l : List CoreEvent). l ++ a.before) (sym (map-joined (λ c. By client c) b.added a.added));
        within = all-joined IsWithinRound b.added a.added b.within a.within;
      }

  pub more-none : (own : List CoreEntry) → HasMore own own
  more-none own = record { more = []; whole = sym (append-nil own) }

  pub more-more : (own mid now : List CoreEntry) → HasMore own mid → HasMore mid now → HasMore own now
  more-more own mid now first second = record {
    more = first.more ++ second.more;
    whole = second.whole
        ∙ ap (λ (l : List CoreEntry). l ++ second.more) first.whole
        ∙ append_assoc own first.more second.more;
  }

  module _ (shards : ℕ) (flush : IsFlusherOf FitsShard CoreShardStands ShardAnswerSays cells caller client shards) where
    acts : IsClientOf FitsShard CoreShardStands ShardAnswerSays cells caller client
    acts = is-client FitsShard CoreShardStands ShardAnswerSays cells caller client shards flush

    abbrev state : Opening → List CoreEvent → ClientState
    state o es = state_from_calls o client (calls_of client es)

    -- A call on the desk.

    pub may-call-desk : (own : List CoreEntry) (c : DeskCall) (Is : IsState) → KnowsOfFlusher cells caller client own Is
        → ((o : Opening) (k : ClientState) → Is o k → FitsDeskCall o (flusher o) c k)
        → Knows FitsShard CoreShardStands ShardAnswerSays cells caller client own (MayCallDesk client c)
    may-call-desk own c Is knows may o log run es later are =
        subst (λ (n : ℕ). FitsDeskCall o n c (state o es)) (sym (flush.client_is o log later.opens))
        (may o (state o es) (knows o log run es later are))

    module _ (own now : List CoreEntry) (c : DeskCall) (said : DeskAnswer) (is : now ≡ own ++ desk_entry caller c said ∷ []) where
      abbrev Leads : IsState → IsState → Type 0
      Leads Is Then = (o : Opening) (k : ClientState) → Is o k → Then o (after_desk_call o (flusher o) c said k)

      -- By it alone.
      pub goes-by-desk : (o : Opening) (log : List CoreEntry) (run es : List CoreEvent) → Later o now log run → Of o now es
          → GoOnBy FitsShard CoreShardStands ShardAnswerSays cells o client own es
          (λ calls. desk_event client (state_from_calls o client calls) c said)
      goes-by-desk o log run es later are =
          desk-learns FitsShard CoreShardStands ShardAnswerSays cells caller client acts own c said o log es later.opens
          (subst (λ (l : List CoreEntry). Of o l es) is are)

      pub known-by-desk : (Is Then : IsState) → KnowsOfFlusher cells caller client own Is → Leads Is Then
          → KnowsOfFlusher cells caller client now Then
      known-by-desk Is Then knows leads o log run es later are =
          let g = goes-by-desk o log run es later are in
          let k = state o g.before in
          let was = knows o log run g.before (before-more own (desk_entry caller c said ∷ []) now log o run is later) g.events in
          subst (λ (calls : List ClientCall). Then o (state_from_calls o client calls)) (sym g.calls)
          (subst (λ (n : ℕ). Then o (after_desk_call o n c said k)) (sym (flush.client_is o log later.opens)) (leads o k was))

      pub within-by-desk : ((k : ClientState) → IsWithinRound (desk_event client k c said)) → StaysWithinRound cells caller client own now
      within-by-desk within o log run es later are =
          let g = goes-by-desk o log run es later are in
          record {
            before = g.before;
            events = g.events;
            added = desk_event client (state o g.before) c said ∷ [];
            whole = g.whole;
            within = (within (state o g.before), tt);
          }

    -- A call on the names.

    pub may-call-names : (own : List CoreEntry) (c : NamesCall) (Is : IsState) → KnowsOfFlusher cells caller client own Is
        → ((o : Opening) (k : ClientState) → Is o k → FitsNamesCall o (flusher o) c k)
        → Knows FitsShard CoreShardStands ShardAnswerSays cells caller client own (MayCallNames client c)
    may-call-names own c Is knows may o log run es later are =
        subst (λ (n : ℕ). FitsNamesCall o n c (state o es)) (sym (flush.client_is o log later.opens))
        (may o (state o es) (knows o log run es later are))

    module _ (own now : List CoreEntry) (c : NamesCall) (said : NamesAnswer) (is : now ≡ own ++ names_entry caller c said ∷ []) where
      abbrev LeadsByNames : IsState → IsState → Type 0
      LeadsByNames Is Then = (o : Opening) (k : ClientState) → Is o k → Then o (after_names_call o c said k)

      pub known-by-names : (Is Then : IsState) → KnowsOfFlusher cells caller client own Is → LeadsByNames Is Then
          → KnowsOfFlusher cells caller client now Then
      known-by-names Is Then knows leads o log run es later are =
          let g =
          names-learn FitsShard CoreShardStands ShardAnswerSays cells caller client acts own c said o log es later.opens
          (subst (λ (l : List CoreEntry). Of o l es) is are)
          in
          let k = state o g.before in
          let was = knows o log run g.before (before-more own (names_entry caller c said ∷ []) now log o run is later) g.events in
          subst (λ (calls : List ClientCall). Then o (state_from_calls o client calls)) (sym g.calls)
          (subst (λ (n : ℕ). Then o (after_client_call o n (names_event c said) k)) (sym (flush.client_is o log later.opens))
          (leads o k was))

      pub within-by-names : IsWithinRound (names_event c said) → StaysWithinRound cells caller client own now
      within-by-names within o log run es later are =
          let g =
          names-learn FitsShard CoreShardStands ShardAnswerSays cells caller client acts own c said o log es later.opens
          (subst (λ (l : List CoreEntry). Of o l es) is are)
          in
          record {
            before = g.before;
            events = g.events;
            added = names_event c said ∷ [];
            whole = g.whole;
            within = (within, tt);
          }
