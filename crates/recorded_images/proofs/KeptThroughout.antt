-- What is kept of a run at every moment of its rounds, whatever it is that two images for it stand for.
use mathlib.Core.List.{IsPrefix}
use Rattle.std.proofs.Common.{◌≡◌, ◌⊎◌, ◌∙◌, ℕ, Bool, true, false, List, [], ◌∷◌, IsSome, ◌↔◌, MatchBool, inl, inr, refl, sym, ap}
use Rattle.aosi_desk.specs.declared.answer.RoundEnd.{RoundEnd}
use Rattle.aosi_desk.specs.declared.answer.RoundEnd.TheVariants as end
use Rattle.cube_journal.specs.declared.journal_entry.JournalEntry.{JournalEntry}
use Rattle.cube_journal.specs.declared.journal_entry.LostCause.TheVariants.{Disk, Memory}
use Rattle.cube_rounds.specs.Stands.{Kept, Stands}
use Rattle.cube_rounds.specs.declared.round.Round.{Round}
use Rattle.core_events.specs.Clients.{calls_of, state_from_calls}
use Rattle.core_events.specs.Events.{Opening, flusher, ClientCall, CoreEvent}
use Rattle.core_events.specs.Runs.{IsCoreRun}
use Rattle.core_serial.specs.Journals.{journal_of}
use Rattle.following_rounds.specs.FollowingRounds.{IsKeptAfter}
use Rattle.outside_disk.specs.Views.{View}
use Rattle.round_store.specs.States.{StandForEither, kept_after}
use Rattle.sha2.specs.Sha256.{sha256}
use Rattle.stored_rounds.specs.RoundsInStore.{AddsTo, AreRoundsOfRun, EndsAs, HasContentOfRun, HasLostRound, IsKeptInRun, IsTrueRound, IsTrueToRun, KeepsOfRun, RoundStart, StandsAt, kept_by_end, result_of_end}
use Rattle.stored_rounds.specs.SafeEpochs.{safe_by_calls}
use Rattle.stored_rounds.specs.declared.stored.StoredRounds.{StoredRounds}
use Rattle.recorded_images.proofs.FailedStores.{lost-by-journal}
use Rattle.recorded_images.proofs.KeptImages.{HoldsOfKept}
use Rattle.core_states.proofs.Moments.{moment-of}
use Rattle.recorded_images.proofs.Moments.{journal-by-then, lse-by-calls, run-by-then}
use Rattle.recorded_images.proofs.ToldDisks.{TellBoth, disks-of, images-stand, since-added, since-still, told-after, told-at, told-before, where-both}
use Rattle.recorded_images.specs.AtEveryMoment.{AreKeptInTurn, HoldsAtEnd, HoldsNow, HoldsSince, ImageClaim, IsKeptMeanwhile, KeepAtEveryMoment, KeepWhereTold, RoundOnDisks, StandForOneOf, lse_by}
use Rattle.recorded_images.specs.RecordedImages.{HoldsOfImages}

module _ (o : Opening) (run : List CoreEvent) (is_run : IsCoreRun o run) (Holds : ImageClaim)
    (holds : HoldsOfKept o run Holds) {D : Type 0} (view : D → View)
    (only_now : (disk : D) (c : List ℕ) → (view disk).since (view disk).moment c → (view disk).image c)
    (either : (kept : Kept) (round : Round) (before after : StoredRounds D) → AddsTo view kept round before after
    → HoldsOfImages (view before.first) (view before.second) (view after.first) (view after.second)
    (StandForEither kept (kept_after before.store kept round))) where
  -- ---- what two images stand for

  for-kept : (kept : Kept) → IsKeptAfter o run kept.cubes kept.names → HasContentOfRun o run kept → (one two : List ℕ)
      → Stands sha256 kept one two → Holds kept.epoch one two
  for-kept kept first content one two stand =
      holds kept kept.epoch one two (record { ends = refl; first = first; content = content }) stand

  for-either : (kept then : Kept) → IsKeptAfter o run kept.cubes kept.names → HasContentOfRun o run kept
      → IsKeptAfter o run then.cubes then.names → HasContentOfRun o run then → (one two : List ℕ)
      → StandForEither kept then one two → StandForOneOf Holds kept.epoch then.epoch one two
  for-either kept then first content first_then content_then one two stand = elim stand [
    | inl before ↦ inl (for-kept kept first content one two before)
    | inr after ↦ inr (for-kept then first_then content_then one two after)
  ]

  stands-now : (m : StoredRounds D) (kept : Kept) (calls : List ClientCall) → IsKeptInRun kept o run calls
      → StandsAt view m kept → TellBoth view m → HoldsNow view (disks-of m) (Holds kept.epoch)
  stands-now m kept calls in_run at told one two at_one at_two =
      for-kept kept in_run.first in_run.content one two (images-stand view m kept at told one two at_one at_two)

  -- ---- one round

  -- Its round was kept or was not. Its disks tell their files where those of the store do that follows it; where the round
  -- was lost to one of them, their images are known.
  record Through (start : RoundStart D) (after : StoredRounds D) (kept : Kept) (then now : List JournalEntry)
      : Type 0 where
    epoch : ℕ
    is : IsKeptMeanwhile view Holds o.safe
        (record { disks = disks-of start.store; journal = then; kept_to = start.kept.epoch; epoch = epoch })
        (disks-of after) kept.epoch now
    tells : (IsSome (view after.first).told ↔ IsSome (view after.second).told) → TellBoth view after
    known : TellBoth view after ⊎ HoldsNow view (disks-of after) (StandForOneOf Holds kept.epoch epoch)

  starts-at : (start : RoundStart D) (after : StoredRounds D) (epoch : ℕ) (how : RoundEnd)
      → EndsAs view (IsTrueRound o run) (result_of_end epoch how) start.kept start.store after
      → StandsAt view start.store start.kept
  starts-at start after epoch end.Safe ends = ends.adds.at
  starts-at start after epoch (end.Lost Disk) ends = ends.adds.at
  starts-at start after epoch (end.Lost Memory) ends = ends.0

  since-either : (start : RoundStart D) (after : StoredRounds D) (round : Round)
      → IsKeptInRun start.kept o run start.calls → IsTrueToRun o run (kept_after start.store.store start.kept round)
      → AddsTo view start.kept round start.store after → TellBoth view start.store
      → HoldsSince view (disks-of start.store) (disks-of after) (StandForOneOf Holds start.kept.epoch round.epoch)
  since-either start after round behind true_to adds told one two at_one at_two =
      for-either start.kept (kept_after start.store.store start.kept round) behind.first behind.content true_to.first
      true_to.content one two
      (since-added view only_now start.kept round start.store after adds told one two at_one at_two)

  now-either : (start : RoundStart D) (after : StoredRounds D) (round : Round)
      → IsKeptInRun start.kept o run start.calls → IsTrueToRun o run (kept_after start.store.store start.kept round)
      → AddsTo view start.kept round start.store after → TellBoth view start.store
      → HoldsNow view (disks-of after) (StandForOneOf Holds start.kept.epoch round.epoch)
  now-either start after round behind true_to adds told one two at_one at_two =
      for-either start.kept (kept_after start.store.store start.kept round) behind.first behind.content true_to.first
      true_to.content one two
      (told-at view
      (λ f g. (c d : List ℕ) → (view after.first).image c → (view after.second).image d
      → StandForEither start.kept (kept_after start.store.store start.kept round) c d) start.store
      (either start.kept round start.store after adds) told one two at_one at_two)

  through : (start : RoundStart D) (after : StoredRounds D) (kept : Kept) → IsKeptInRun start.kept o run start.calls
      → TellBoth view start.store → (epoch : ℕ) (how : RoundEnd)
      → (ends : EndsAs view (IsTrueRound o run) (result_of_end epoch how) start.kept start.store after)
      → kept_by_end view (IsTrueRound o run) epoch how start.kept start.store after ends ≡ kept
      → (then now : List JournalEntry) → IsPrefix then now → start.kept.epoch ≡ lse_by o.safe then
      → Through start after kept then now
  through start after kept behind told epoch end.Safe ends leaves then now by_then lse =
      let both = told-after view start.kept ends.round start.store after ends.adds ends.stands.both told in
      record {
        epoch = ends.round.epoch;
        is = record {
          by_then = by_then;
          up_to_lse = lse;
          before = stands-now start.store start.kept start.calls behind ends.adds.at told;
          meanwhile = since-either start after ends.round behind ends.holds ends.adds told;
          up_to = inr (ap (λ (k : Kept). k.epoch) (sym leaves));
        };
        tells = λ tell. both;
        known = inl both;
      }
  through start after kept behind told epoch (end.Lost Disk) ends leaves then now by_then lse =
      let up_to : kept.epoch ≡ start.kept.epoch = ap (λ (k : Kept). k.epoch) (sym leaves) in
      record {
        epoch = ends.round.epoch;
        is = record {
          by_then = by_then;
          up_to_lse = lse;
          before = stands-now start.store start.kept start.calls behind ends.adds.at told;
          meanwhile = since-either start after ends.round behind ends.holds ends.adds told;
          up_to = inl up_to;
        };
        tells = λ tell. told-after view start.kept ends.round start.store after ends.adds tell told;
        known =
            inr (coe 1 0 (i. HoldsNow view (disks-of after) (StandForOneOf Holds (up_to i) ends.round.epoch))
            (now-either start after ends.round behind ends.holds ends.adds told));
      }
  through start after kept behind told epoch (end.Lost Memory) ends leaves then now by_then lse =
      let before = stands-now start.store start.kept start.calls behind ends.0 told in
      let still = sym ends.1 in
      let since : HoldsSince view (disks-of start.store) (disks-of after) (Holds start.kept.epoch) =
      coe 0 1 (i. HoldsSince view (disks-of start.store) (disks-of (still i)) (Holds start.kept.epoch))
      (since-still view only_now start.store (Holds start.kept.epoch) before) in
      let both : TellBoth view after = coe 0 1 (i. TellBoth view (still i)) told in
      record {
        epoch = start.kept.epoch;
        is = record {
          by_then = by_then;
          up_to_lse = lse;
          before = before;
          meanwhile = λ one two at_one at_two. inl (since one two at_one at_two);
          up_to = inl (ap (λ (k : Kept). k.epoch) (sym leaves));
        };
        tells = λ tell. both;
        known = inl both;
      }

  -- ---- all rounds

  record AllThrough (begun now : StoredRounds D) (kept : Kept) (journal : List JournalEntry) : Type 0 where
    rounds : List (RoundOnDisks D)
    in_turn : AreKeptInTurn view Holds o.safe (disks-of begun) rounds (disks-of now) kept.epoch journal
    tells : (IsSome (view now.first).told ↔ IsSome (view now.second).told) → TellBoth view now
    known : TellBoth view now ⊎ ((epoch : ℕ) × HoldsNow view (disks-of now) (StandForOneOf Holds kept.epoch epoch))

  all-through : (begun : StoredRounds D) (starts : List (RoundStart D)) (now : StoredRounds D) (kept : Kept)
      (calls : List ClientCall) → AreRoundsOfRun view o run begun starts now kept calls → TellBoth view begun
      → (es : List CoreEvent) → IsCoreRun o es → calls_of (flusher o) es ≡ calls
      → AllThrough begun now kept (journal_of o es)
  all-through begun [] now kept calls are told es is_es made =
      let there : TellBoth view now = coe 0 1 (i. TellBoth view (are i)) told in
      record { rounds = []; in_turn = ap disks-of are; tells = λ tell. there; known = inl there }
  all-through begun (last ∷ older) now kept calls are told es is_es made =
      let m = moment-of (flusher o) es are.0.later last.calls (made ∙ are.0.since) in
      let is_then = run-by-then o es (flusher o) last.calls m is_es in
      let before = all-through begun older last.store last.kept last.calls are.1 told m.es is_then (sym m.made) in
      let lse = are.0.behind.up_to ∙ ap (safe_by_calls o) m.made ∙ lse-by-calls o m.es is_then in
      let at = starts-at last now are.0.epoch are.0.how are.0.ends in
      let t =
      through last now kept are.0.behind (before.tells at.both) are.0.epoch are.0.how are.0.ends are.0.leaves
      (journal_of o m.es) (journal_of o es) (journal-by-then o es (flusher o) last.calls m) lse
      in
      let round : RoundOnDisks D = record {
        disks = disks-of last.store;
        journal = journal_of o m.es;
        kept_to = last.kept.epoch;
        epoch = t.epoch;
      }
      in
      record {
        rounds = round ∷ before.rounds;
        in_turn = (t.is, before.in_turn);
        tells = t.tells;
        known = elim t.known [
          | inl both ↦ inl both
          | inr images ↦ inr (t.epoch, images)
        ];
      }

  -- ---- the end

  module _ (begun m : StoredRounds D) (kept : Kept) (calls : List ClientCall)
      (keeps : KeepsOfRun view begun m kept o run calls) (all : calls ≡ calls_of (flusher o) run)
      (told : TellBoth view begun) where
    abbrev gone : AllThrough begun m kept (journal_of o run)
    gone = all-through begun keeps.rounds.starts m kept calls keeps.rounds.are told run is_run (sym all)

    of-lost : (lost : HasLostRound view m kept o run) → TellBoth view m
        → HoldsNow view (disks-of m) (StandForOneOf Holds kept.epoch lost.round.epoch)
    of-lost lost tells one two at_one at_two =
        for-either kept (kept_after lost.before.store kept lost.round) keeps.in_run.first keeps.in_run.content
        lost.with_round lost.content one two
        (told-at view
        (λ f g. (c d : List ℕ) → (view m.first).image c → (view m.second).image d
        → StandForEither kept (kept_after lost.before.store kept lost.round) c d) lost.before
        (either kept lost.round lost.before m lost.adds)
        (told-before view kept lost.round lost.before m lost.adds tells) one two at_one at_two)

    ends-so : (lost : Bool) → MatchBool lost (HasLostRound view m kept o run) (StandsAt view m kept)
        → HoldsAtEnd view Holds o.safe lost (disks-of m) kept.epoch
    ends-so false at = stands-now m kept calls keeps.in_run at (gone.tells at.both)
    ends-so true lost = elim gone.known [
      | inl tells ↦ (lost.round.epoch, of-lost lost tells)
      | inr images ↦ images
    ]

    up-to-lse : kept.epoch ≡ lse_by o.safe (journal_of o run)
    up-to-lse = keeps.in_run.up_to ∙ ap (safe_by_calls o) all ∙ lse-by-calls o run is_run

    pub kept-throughout : KeepAtEveryMoment view Holds o.safe (disks-of begun) (disks-of m) (journal_of o run)
    kept-throughout = record {
      rounds = gone.rounds;
      in_turn = coe 0 1
          (i. AreKeptInTurn view Holds o.safe (disks-of begun) gone.rounds (disks-of m) (up-to-lse i) (journal_of o run))
          gone.in_turn;
      at_end = coe 0 1
          (i. HoldsAtEnd view Holds o.safe (lost-by-journal o run calls is_run all i) (disks-of m) (up-to-lse i))
          (ends-so (state_from_calls o (flusher o) calls).store_lost keeps.stands);
    }

  -- The disks tell their files when the run begins, or nothing is claimed.
  pub kept-where-told : (begun m : StoredRounds D) (kept : Kept) (calls : List ClientCall)
      → KeepsOfRun view begun m kept o run calls → calls ≡ calls_of (flusher o) run
      → KeepWhereTold view Holds o.safe (disks-of begun) (disks-of m) (journal_of o run)
  kept-where-told begun m kept calls keeps all =
      where-both view begun
      (KeepAtEveryMoment view Holds o.safe (disks-of begun) (disks-of m) (journal_of o run))
      (kept-throughout begun m kept calls keeps all)
