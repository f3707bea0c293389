-- Images of a store's disks, whatever it is that two images for what is kept of a run stand for.
use Rattle.std.proofs.Common.{◌≡◌, ◌⊎◌, ◌∙◌, ℕ, Bool, true, false, List, Option, Some, None, IfSome, MatchBool, inl, inr, refl, sym, ap, subst}
use Rattle.cube_rounds.specs.Stands.{IsCurrent, Kept, Stands}
use Rattle.core_events.specs.Cells.{counters_of_run}
use Rattle.core_events.specs.Clients.{calls_of, state_from_calls}
use Rattle.core_events.specs.Events.{Opening, flusher, ClientCall, CoreEvent}
use Rattle.core_events.specs.Runs.{IsCoreRun}
use Rattle.core_serial.specs.Journals.{journal_of}
use Rattle.outside_disk.specs.Views.{View}
use Rattle.round_store.specs.States.{AreFilesOf, StandForEither, StoreState, kept_after}
use Rattle.sha2.specs.Sha256.{sha256}
use Rattle.store_reading.specs.Pairs.{file_of}
use Rattle.stored_rounds.specs.RoundsInStore.{HasLostRound, IsKeptInRun, StandsAt}
use Rattle.stored_rounds.specs.SafeEpochs.{safe_by_calls}
use Rattle.stored_rounds.specs.declared.stored.StoredRounds.{StoredRounds}
use Rattle.stored_rounds.proofs.SafeRounds.{lse-told}
use Rattle.recorded_images.proofs.FailedStores.{lost-by-journal}
use Rattle.recorded_images.specs.RecordedImages.{HoldsOfImages, IsKeptOfEvents, StandForEvents, has_lost_store}

-- ---- files and images

current-of : (s : StoreState) (kept : Kept) (current other : List ℕ) → AreFilesOf s kept current other
    → IsCurrent sha256 kept current other
current-of s kept current other files = record {
  generation = s.place.generation;
  stands = files.stands.stands;
  most = files.stands.most;
  behind = files.stands.behind;
}

pub files-stand : (s : StoreState) (kept : Kept) (second : Bool) (f g : List ℕ)
    → AreFilesOf s kept (file_of second f g) (file_of second g f) → Stands sha256 kept f g
files-stand s kept true f g files = inr (current-of s kept g f files)
files-stand s kept false f g files = inl (current-of s kept f g files)

module _ (first second : View) where
  images-told : (P Q : List ℕ → List ℕ → Type 0) → ((f g : List ℕ) → P f g → Q f g) → (t1 t2 : Option (List ℕ))
      → IfSome t1 (λ f. (c : List ℕ) → first.image c → c ≡ f) → IfSome t2 (λ g. (d : List ℕ) → second.image d → d ≡ g)
      → IfSome t1 (λ f. IfSome t2 (λ g. P f g))
      → IfSome t1 (λ f. IfSome t2 (λ g. (c d : List ℕ) → first.image c → second.image d → Q c d))
  images-told P Q to (Some f) (Some g) same_first same_second holds = λ c d at_c at_d.
      coe 1 0 (i. Q (same_first c at_c i) (same_second d at_d i)) (to f g holds)
  images-told P Q to (Some f) None same_first same_second holds = tt
  images-told P Q to None t2 same_first same_second holds = tt

  images-then : (P Q : List ℕ → List ℕ → Type 0) → ((c d : List ℕ) → P c d → Q c d) → (t1 t2 : Option (List ℕ))
      → IfSome t1 (λ f. IfSome t2 (λ g. (c d : List ℕ) → first.image c → second.image d → P c d))
      → IfSome t1 (λ f. IfSome t2 (λ g. (c d : List ℕ) → first.image c → second.image d → Q c d))
  images-then P Q to (Some f) (Some g) holds = λ c d at_c at_d. to c d (holds c d at_c at_d)
  images-then P Q to (Some f) None holds = tt
  images-then P Q to None t2 holds = tt

-- ---- what they stand for

-- Of any two images that stand for what is kept up to an epoch of the run, this holds.
abbrev pub HoldsOfKept : Opening → List CoreEvent → (ℕ → List ℕ → List ℕ → Type 0) → Type 0
HoldsOfKept o run Holds =
    (kept : Kept) (epoch : ℕ) (one two : List ℕ) → IsKeptOfEvents o run epoch kept → Stands sha256 kept one two
    → Holds epoch one two

pub for-events : (o : Opening) (run : List CoreEvent) → HoldsOfKept o run (StandForEvents o run)
for-events o run kept epoch one two of_events stand =
    record { kept = kept; stand = stand; of_events = of_events }

module _ (o : Opening) (run : List CoreEvent) (is_run : IsCoreRun o run) (Holds : ℕ → List ℕ → List ℕ → Type 0)
    (holds : HoldsOfKept o run Holds) {D : Type 0} (view : D → View) (m : StoredRounds D) (kept : Kept)
    (calls : List ClientCall) (in_run : IsKeptInRun kept o run calls)
    (stands : MatchBool (state_from_calls o (flusher o) calls).store_lost (HasLostRound view m kept o run)
    (StandsAt view m kept)) (all : calls ≡ calls_of (flusher o) run) where
  at-lse : IsKeptOfEvents o run (counters_of_run o run).lse kept
  at-lse = record {
    ends = in_run.up_to ∙ ap (safe_by_calls o) all ∙ sym (lse-told o run is_run);
    first = in_run.first;
    content = in_run.content;
  }

  for-kept : (one two : List ℕ) → Stands sha256 kept one two → Holds (counters_of_run o run).lse one two
  for-kept one two stand = holds kept (counters_of_run o run).lse one two at-lse stand

  pub images-of-kept : has_lost_store (journal_of o run) ≡ false
      → HoldsOfImages (view m.first) (view m.second) (view m.first) (view m.second) (Holds (counters_of_run o run).lse)
  images-of-kept there =
      let at =
      subst (λ (lost : Bool). MatchBool lost (HasLostRound view m kept o run) (StandsAt view m kept))
      (lost-by-journal o run calls is_run all ∙ there) stands
      in
      images-told (view m.first) (view m.second)
      (λ f g. AreFilesOf m.store kept (file_of m.store.place.second f g) (file_of m.store.place.second g f))
      (Holds (counters_of_run o run).lse)
      (λ f g files. for-kept f g (files-stand m.store kept m.store.place.second f g files))
      (view m.first).told (view m.second).told at.first_synced at.second_synced at.files

  -- With a round that was lost.
  abbrev pub HoldsOfEither : ℕ → List ℕ → List ℕ → Type 0
  HoldsOfEither epoch one two = Holds (counters_of_run o run).lse one two ⊎ Holds epoch one two

  -- Images stand for what was kept, or for that with the round.
  abbrev pub StandForLost : HasLostRound view m kept o run → Type 0
  StandForLost lost =
      HoldsOfImages (view lost.before.first) (view lost.before.second) (view m.first) (view m.second)
      (StandForEither kept (kept_after lost.before.store kept lost.round))

  pub images-of-lost : ((lost : HasLostRound view m kept o run) → StandForLost lost)
      → has_lost_store (journal_of o run) ≡ true
      → (lost : HasLostRound view m kept o run)
      × HoldsOfImages (view lost.before.first) (view lost.before.second) (view m.first) (view m.second)
      (HoldsOfEither lost.round.epoch)
  images-of-lost either gone =
      let lost =
      subst (λ (b : Bool). MatchBool b (HasLostRound view m kept o run) (StandsAt view m kept))
      (lost-by-journal o run calls is_run all ∙ gone) stands
      in
      let then = kept_after lost.before.store kept lost.round in
      let with_round : IsKeptOfEvents o run lost.round.epoch then =
      record { ends = refl; first = lost.with_round; content = lost.content }
      in (
        lost,
        images-then (view m.first) (view m.second) (StandForEither kept then) (HoldsOfEither lost.round.epoch)
            (λ one two stand. elim stand [
              | inl before ↦ inl (for-kept one two before)
              | inr after ↦ inr (holds then lost.round.epoch one two with_round after)
            ])
            (view lost.before.first).told (view lost.before.second).told (either lost),
      )
