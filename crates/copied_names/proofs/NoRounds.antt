-- A session opens no round, so that it may copy names.
use Rattle.std.proofs.Common.{◌≡◌, ◌≢◌, ◌∙◌, ℕ, ◌<◌, ◌==◌, Bool, true, false, List, [], ◌∷◌, Option, None, refl, sym, ap, subst, arith}
use Rattle.std.specs.Prelude.{IfSome}
use Rattle.std.specs.List.{AllByRecursion}
use Rattle.std.proofs.lemmas.Bool.{false≢true}
use Rattle.cube_core.specs.Links.{AreEventsAfter, is_of_rounds}
use Rattle.cube_core.proofs.OwnEntries.{client-high, own-rounds}
use Rattle.cube_core.specs.BoardCells.{IsEntryEvent, server_of}
use Rattle.core_program.specs.Knowing.{Knows, MayCallNames}
use Rattle.core_cells.specs.declared.names.NamesAnswer.{NamesAnswer}
use Rattle.core_cells.specs.declared.names.NamesAnswer.TheVariants as told
use Rattle.core_cells.specs.declared.names.NamesCall.TheVariants as names
use Rattle.core_events.proofs.Knowledge.{known-by-calls}
use Rattle.core_events.specs.Clients.{ClientState, OwnRound, calls_of, client_after_call, client_state, own_round_after, state_from_calls}
use Rattle.core_events.specs.Events.{Opening, flush_mail, RoundOpen, ClientCall, OnDesk, CoreEvent, By, At}
use Rattle.core_events.specs.Fitting.{FitsCall}
use Rattle.core_events.specs.Jobs.{CoreJob, JobOutcome}
use Rattle.core_events.specs.ShardView.{ShardView}
use Rattle.cube_core.specs.NamesEvents.{names_event}
use Rattle.core_program.specs.CoreFits.{CoreEntry}
use Rattle.cube_core.specs.declared.cell.CoreCell.{CoreCell}
use Rattle.cube_core.specs.declared.shard.ShardAnswer.{ShardAnswer}
use Rattle.cube_core.specs.declared.shard.ShardCall.{ShardCall}
use Rattle.cube_language.specs.declared.decl.Decl.{Decl}
use Rattle.known_cubes.proofs.OwnCalls.{IsBy, own-caller}
use Rattle.known_cubes.proofs.ToldCubes.{knows-cube}
use Rattle.copied_names.specs.CopiedNames.{MayCopyCube}

-- An event that makes no rounds opens none.
none-after : (o : Opening) (b : ℕ) (c : ClientCall) → is_of_rounds o (By b c) ≡ false → own_round_after c None ≡ None
none-after o b (OnDesk (RoundOpen answer)) is = absurd (false≢true (sym is))
none-after o b c is = refl

still-none : (own : Bool) (o : Opening) (a b : ℕ) (c : ClientCall) (k : ClientState) → is_of_rounds o (By b c) ≡ false
    → k.round ≡ None → (client_after_call o own a c k).round ≡ None
still-none true o a b c k is none = ap (own_round_after c) none ∙ none-after o b c is
still-none false o a b c k is none = none

event-none : (o : Opening) (a : ℕ) (x : CoreEvent) (es : List CoreEvent) → is_of_rounds o x ≡ false
    → (client_state o a es).round ≡ None → (client_state o a (x ∷ es)).round ≡ None
event-none o a (By b c) es is none = still-none (b == a) o a b c (client_state o a es) is none
event-none o a (At mail move) es is none = none

module _ {S : Type 0} (fits : Opening → ℕ → ShardCall → Type 0) (stands : Opening → ℕ → ℕ → S → ShardView → Type 0)
    (says : CoreJob → ShardAnswer → JobOutcome → Type 0) where
  none-by-log : (o : Opening) (caller a : ℕ) (own : List CoreEntry) (earlier es : List CoreEvent)
      → caller ≢ server_of o (flush_mail o) → AllByRecursion (IsBy caller) own
      → AreEventsAfter (IsEntryEvent fits stands says o) earlier own es → (client_state o a earlier).round ≡ None
      → (client_state o a es).round ≡ None
  none-by-log o caller a [] earlier es other by are none = subst (λ (l : List CoreEvent). (client_state o a l).round ≡ None) are none
  none-by-log o caller a (e ∷ own) earlier es other by are none =
      none-by-log o caller a own (are.0 ∷ earlier) es other by.1 are.2
      (event-none o a are.0 earlier
      (own-rounds fits stands says o earlier e are.0 (λ same. other (sym by.0 ∙ same)) are.1) none)

  fits-copy : (o : Opening) (a place dim : ℕ) (k : ClientState) → place < k.cubes → k.round ≡ None → (said : NamesAnswer)
      → FitsCall o a (names_event (names.CopyFrom place dim 0) said) k
  fits-copy o a place dim k there none (told.Copied list) = record {
    there = there;
    begins = omega arith;
    after = subst (λ (r : Option OwnRound). IfSome r (λ round. round.has_cubes ≡ true)) (sym none) tt;
  }
  fits-copy o a place dim k there none said = tt

  module _ (cells : List (CoreCell S)) (caller session place : ℕ) where
    -- A session may copy the names of a cube that it was told of.
    pub may-copy : (own : List CoreEntry) (d : Decl) (dim : ℕ) → MayCopyCube fits stands says cells caller own session place d
        → Knows fits stands says cells caller session own (MayCallNames session (names.CopyFrom place dim 0))
    may-copy own d dim m o log run es later are =
        let k = state_from_calls o session (calls_of session es) in
        let known =
        knows-cube fits stands says cells caller session own m.name place d m.client m.storable m.cube o log run es later are
        in
        let is = m.client.client_is o log later.opens in
        let low = (m.is_session o log later.opens).last in
        let other : caller ≢ server_of o (flush_mail o) =
        λ same. (let high = is ∙ client-high o caller same in absurd (omega (arith, high, low)))
        in
        let none : k.round ≡ None =
        ap (λ (state : ClientState). state.round) (sym (known-by-calls o session es))
        ∙ none-by-log o caller session own [] es other (own-caller caller own log later.begins) are refl
        in
        record { shape = tt; event = fits-copy o session place dim k known.there none }
