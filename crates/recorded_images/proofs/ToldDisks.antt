-- Disks that tell their files when a run begins tell them wherever a round is opened, for a round leaves one of the two as
-- it is, and a store stands on disks of which both tell their files or neither.
use Rattle.std.proofs.Common.{◌≡◌, ◌∙◌, ℕ, Bool, true, false, List, Option, Some, None, IfSome, IsSome, ◌↔◌, is_some, refl, sym, ap}
use Rattle.cube_rounds.specs.Stands.{Kept, Stands}
use Rattle.cube_rounds.specs.declared.round.Round.{Round}
use Rattle.outside_disk.specs.Views.{IsSynced, LeavesOnly, View}
use Rattle.round_store.specs.States.{AreFilesOf, StandForEither, WhereTold, goes_second, kept_after}
use Rattle.sha2.specs.Sha256.{sha256}
use Rattle.store_reading.specs.Pairs.{file_of}
use Rattle.stored_rounds.specs.RoundsInStore.{AddsTo, StandsAt}
use Rattle.stored_rounds.specs.declared.stored.StoredRounds.{StoredRounds}
use Rattle.recorded_images.proofs.KeptImages.{files-stand}
use Rattle.recorded_images.specs.AtEveryMoment.{HoldsNow, HoldsSince, TwoDisks}

not-some : false ≡ true → ⊥
not-some e = cc

-- The other one tells its file too.
other-told : (a b : Option (List ℕ)) → (IsSome a → IsSome b) → (f : List ℕ) → a ≡ Some f
    → (g : List ℕ) × (b ≡ Some g)
other-told a (Some g) both f is = (g, refl)
other-told a None both f is = absurd (not-some (both (ap (λ (o : Option (List ℕ)). is_some o) is)))

by-disk : {P : Type 0} (b : Bool) → (b ≡ true → P) → (b ≡ false → P) → P
by-disk true second first = second refl
by-disk false second first = first refl

abbrev pub disks-of : {D : Type 0} → StoredRounds D → TwoDisks D
disks-of m = record { first = m.first; second = m.second }

module _ {D : Type 0} (view : D → View) where
  -- Both disks of a store tell their files.
  pub record TellBoth (m : StoredRounds D) : Type 0 where
    pub first_file : List ℕ
    pub second_file : List ℕ
    pub first_tells : (view m.first).told ≡ Some first_file
    pub second_tells : (view m.second).told ≡ Some second_file

  abbrev BothTell : StoredRounds D → Type 0
  BothTell m = IsSome (view m.first).told ↔ IsSome (view m.second).told

  by-first : (m : StoredRounds D) → BothTell m → (f : List ℕ) → (view m.first).told ≡ Some f → TellBoth m
  by-first m both f is =
      let g = other-told (view m.first).told (view m.second).told both.0 f is in
      record { first_file = f; second_file = g.0; first_tells = is; second_tells = g.1 }

  by-second : (m : StoredRounds D) → BothTell m → (g : List ℕ) → (view m.second).told ≡ Some g → TellBoth m
  by-second m both g is =
      let f = other-told (view m.second).told (view m.first).told both.1 g is in
      record { first_file = f.0; second_file = g; first_tells = f.1; second_tells = is }

  pub told-at : (P : List ℕ → List ℕ → Type 0) (m : StoredRounds D) → WhereTold (view m.first) (view m.second) P
      → (t : TellBoth m) → P t.first_file t.second_file
  told-at P m holds t =
      coe 0 1 (i. IfSome (t.first_tells i) (λ f. IfSome (t.second_tells i) (λ g. P f g))) holds

  -- What holds where both tell their files.
  pub where-both : (m : StoredRounds D) (P : Type 0) → (TellBoth m → P)
      → WhereTold (view m.first) (view m.second) (λ f g. P)
  where-both m P holds =
      cases (view m.first).told (view m.second).told
      (λ f g one two. holds (record { first_file = f; second_file = g; first_tells = one; second_tells = two }))
    where
      cases : (a b : Option (List ℕ)) → ((f g : List ℕ) → a ≡ Some f → b ≡ Some g → P)
          → IfSome a (λ f. IfSome b (λ g. P))
      cases (Some f) (Some g) h = h f g refl refl
      cases (Some f) None h = tt
      cases None b h = tt

  module _ (kept : Kept) (round : Round) (before after : StoredRounds D) (adds : AddsTo view kept round before after) where
    pub told-after : BothTell after → TellBoth before → TellBoth after
    told-after both t =
        by-disk (goes_second before.store)
        (λ is. by-first after both t.first_file (ap (λ (d : D). (view d).told) (adds.first_still is) ∙ t.first_tells))
        (λ is.
        by-second after both t.second_file (ap (λ (d : D). (view d).told) (adds.second_still is) ∙ t.second_tells))

    pub told-before : TellBoth after → TellBoth before
    told-before t =
        by-disk (goes_second before.store)
        (λ is.
        by-first before adds.at.both t.first_file
        (ap (λ (d : D). (view d).told) (sym (adds.first_still is)) ∙ t.first_tells))
        (λ is.
        by-second before adds.at.both t.second_file
        (ap (λ (d : D). (view d).told) (sym (adds.second_still is)) ∙ t.second_tells))

  -- ---- images

  first-image : (m : StoredRounds D) → IsSynced (view m.first) → (t : TellBoth m) → (c : List ℕ)
      → (view m.first).image c → c ≡ t.first_file
  first-image m synced t =
      coe 0 1 (i. IfSome (t.first_tells i) (λ f. (c : List ℕ) → (view m.first).image c → c ≡ f)) synced

  second-image : (m : StoredRounds D) → IsSynced (view m.second) → (t : TellBoth m) → (d : List ℕ)
      → (view m.second).image d → d ≡ t.second_file
  second-image m synced t =
      coe 0 1 (i. IfSome (t.second_tells i) (λ g. (d : List ℕ) → (view m.second).image d → d ≡ g)) synced

  pub images-stand : (m : StoredRounds D) (kept : Kept) → StandsAt view m kept → TellBoth m
      → HoldsNow view (disks-of m) (λ one two. Stands sha256 kept one two)
  images-stand m kept at t one two at_one at_two =
      let first : (c : List ℕ) → (view m.first).image c → c ≡ t.first_file = first-image m at.first_synced t in
      let second : (d : List ℕ) → (view m.second).image d → d ≡ t.second_file = second-image m at.second_synced t in
      let files =
      told-at
      (λ f g. AreFilesOf m.store kept (file_of m.store.place.second f g) (file_of m.store.place.second g f)) m at.files t
      in
      coe 1 0 (i. Stands sha256 kept (first one at_one i) (second two at_two i))
      (files-stand m.store kept m.store.place.second t.first_file t.second_file files)

  module _ (only_now : (disk : D) (c : List ℕ) → (view disk).since (view disk).moment c → (view disk).image c) where
    -- Where nothing was written a crash since then leaves what one does now.
    pub since-still : (m : StoredRounds D) (P : List ℕ → List ℕ → Type 0) → HoldsNow view (disks-of m) P
        → HoldsSince view (disks-of m) (disks-of m) P
    since-still m P holds one two at_one at_two =
        holds one two (only_now m.first one at_one) (only_now m.second two at_two)

    module _ (kept : Kept) (round : Round) (before after : StoredRounds D) (adds : AddsTo view kept round before after)
        (t : TellBoth before) where
      abbrev Either : List ℕ → List ℕ → Type 0
      Either one two = StandForEither kept (kept_after before.store kept round) one two

      second-moves : after.first ≡ before.first → HoldsSince view (disks-of before) (disks-of after) Either
      second-moves still one two at_one at_two =
          let there : (view before.first).since (view before.first).moment one =
          coe 0 1 (i. (view (still i)).since (view before.first).moment one) at_one in
          let same = first-image before adds.at.first_synced t one (only_now before.first one there) in
          let moves =
          told-at (λ f g. LeavesOnly (view before.second) (view after.second) (λ d. Either f d)) before
          adds.either.on_second t
          in
          coe 1 0 (i. Either (same i) two) (moves.each two at_two)

      first-moves : after.second ≡ before.second → HoldsSince view (disks-of before) (disks-of after) Either
      first-moves still one two at_one at_two =
          let there : (view before.second).since (view before.second).moment two =
          coe 0 1 (i. (view (still i)).since (view before.second).moment two) at_two in
          let same = second-image before adds.at.second_synced t two (only_now before.second two there) in
          let moves =
          told-at (λ f g. LeavesOnly (view before.first) (view after.first) (λ c. Either c g)) before
          adds.either.on_first t
          in
          coe 1 0 (i. Either one (same i)) (moves.each one at_one)

      -- While a round is added, they stand for what was kept or for that with the round.
      pub since-added : HoldsSince view (disks-of before) (disks-of after)
          (StandForEither kept (kept_after before.store kept round))
      since-added =
          by-disk (goes_second before.store) (λ is. second-moves (adds.first_still is))
          (λ is. first-moves (adds.second_still is))
