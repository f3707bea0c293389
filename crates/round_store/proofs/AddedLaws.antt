-- A store once a round was added on one of its two disks.
use Rattle.std.proofs.Common.{◌≡◌, ℕ, Bool, true, false, not, cond, List, Option, Result, Ok, Err, ap, ◌∙◌}
use Rattle.std.specs.Prelude.{◌↔◌, IfSome, IsSome, OnOk}
use Rattle.cube_values.specs.declared.call_error.CallError.{CallError}
use Rattle.cube_rounds.specs.declared.round.Round.{Round}
use Rattle.cube_rounds.specs.Stands.{Kept, kept_of_cubes, kept_with}
use Rattle.outside_disk.specs.declared.disk.Failed.{Failed}
use Rattle.outside_disk.specs.Views.{View, IsSynced}
use Rattle.round_store.specs.States.{StoreState, wants_whole, header_cubes, IsStoreOf, AreFilesOf, IsAt, kept_after}
use Rattle.round_store.proofs.AroundLaws.{files_first, files_second, appended_first, appended_second, begun_first, begun_second}

-- What is kept with the next round, where it is whole and where it is not.
pub after_whole : (s : StoreState) (kept : Kept) (round : Round) → wants_whole s ≡ true → kept_after s kept round ≡ kept_with (kept_of_cubes (header_cubes kept)) round
after_whole s kept round wants = ap (λ (x : Bool). kept_with (cond x (kept_of_cubes (header_cubes kept)) kept) round) wants

pub after_more : (s : StoreState) (kept : Kept) (round : Round) → wants_whole s ≡ false → kept_after s kept round ≡ kept_with kept round
after_more s kept round wants = ap (λ (x : Bool). kept_with (cond x (kept_of_cubes (header_cubes kept)) kept) round) wants

first_tells : (a b n : Option (List ℕ)) → (IsSome a ↔ IsSome b) → (IsSome a ↔ IsSome n) → (IsSome n ↔ IsSome b)
first_tells a b n both tells = (λ x. both.0 (tells.1 x), λ y. tells.0 (both.1 y))

second_tells : (a b n : Option (List ℕ)) → (IsSome a ↔ IsSome b) → (IsSome b ↔ IsSome n) → (IsSome a ↔ IsSome n)
second_tells a b n both tells = (λ x. tells.0 (both.0 x), λ y. both.1 (tells.1 y))

pub added_first : (r : Result (Unit {0}) (CallError Failed)) (s new : StoreState) (kept next : Kept) (v1 n1 v2 : View) → IsAt s kept v1 v2 → s.place.second ≡ false
    → ((g : List ℕ) → IfSome v1.told (λ f. AreFilesOf s kept f g → OnOk r (IfSome n1.told (λ c. AreFilesOf new next c g))))
    → OnOk r (IsStoreOf new next) → new.place.second ≡ s.place.second → OnOk r (IsSynced n1) → (IsSome v1.told ↔ IsSome n1.told) → OnOk r (IsAt new next n1 v2)
added_first (Ok done) s new kept next v1 n1 v2 at second added store place synced tells = record {
  store = store;
  first_synced = synced;
  second_synced = at.second_synced;
  both = first_tells v1.told v2.told n1.told at.both tells;
  files = appended_first v1.told v2.told n1.told s new kept next (place ∙ second) (files_first s kept v1.told v2.told second at.files) added tells;
}
added_first (Err e) s new kept next v1 n1 v2 at second added store place synced tells = tt

pub added_second : (r : Result (Unit {0}) (CallError Failed)) (s new : StoreState) (kept next : Kept) (v1 v2 n2 : View) → IsAt s kept v1 v2 → s.place.second ≡ true
    → ((f : List ℕ) → IfSome v2.told (λ g. AreFilesOf s kept g f → OnOk r (IfSome n2.told (λ c. AreFilesOf new next c f))))
    → OnOk r (IsStoreOf new next) → new.place.second ≡ s.place.second → OnOk r (IsSynced n2) → (IsSome v2.told ↔ IsSome n2.told) → OnOk r (IsAt new next v1 n2)
added_second (Ok done) s new kept next v1 v2 n2 at second added store place synced tells = record {
  store = store;
  first_synced = at.first_synced;
  second_synced = synced;
  both = second_tells v1.told v2.told n2.told at.both tells;
  files = appended_second v1.told v2.told n2.told s new kept next (place ∙ second) (files_second s kept v1.told v2.told second at.files) added tells;
}
added_second (Err e) s new kept next v1 v2 n2 at second added store place synced tells = tt

pub begun_at_second : (r : Result (Unit {0}) (CallError Failed)) (s new : StoreState) (kept next : Kept) (v1 v2 n2 : View) → IsAt s kept v1 v2 → s.place.second ≡ false
    → ((f : List ℕ) → IfSome v2.told (λ g. AreFilesOf s kept f g → OnOk r (IfSome n2.told (λ c. AreFilesOf new next c f))))
    → OnOk r (IsStoreOf new next) → OnOk r (new.place.second ≡ not s.place.second) → OnOk r (IsSynced n2) → (IsSome v2.told ↔ IsSome n2.told) → OnOk r (IsAt new next v1 n2)
begun_at_second (Ok done) s new kept next v1 v2 n2 at second added store place synced tells = record {
  store = store;
  first_synced = at.first_synced;
  second_synced = synced;
  both = second_tells v1.told v2.told n2.told at.both tells;
  files = begun_second v1.told v2.told n2.told s new kept next (place ∙ ap not second) (files_first s kept v1.told v2.told second at.files) added tells;
}
begun_at_second (Err e) s new kept next v1 v2 n2 at second added store place synced tells = tt

pub begun_at_first : (r : Result (Unit {0}) (CallError Failed)) (s new : StoreState) (kept next : Kept) (v1 n1 v2 : View) → IsAt s kept v1 v2 → s.place.second ≡ true
    → ((g : List ℕ) → IfSome v1.told (λ f. AreFilesOf s kept g f → OnOk r (IfSome n1.told (λ c. AreFilesOf new next c g))))
    → OnOk r (IsStoreOf new next) → OnOk r (new.place.second ≡ not s.place.second) → OnOk r (IsSynced n1) → (IsSome v1.told ↔ IsSome n1.told) → OnOk r (IsAt new next n1 v2)
begun_at_first (Ok done) s new kept next v1 n1 v2 at second added store place synced tells = record {
  store = store;
  first_synced = synced;
  second_synced = at.second_synced;
  both = first_tells v1.told v2.told n1.told at.both tells;
  files = begun_first v1.told v2.told n1.told s new kept next (place ∙ ap not second) (files_second s kept v1.told v2.told second at.files) added tells;
}
begun_at_first (Err e) s new kept next v1 n1 v2 at second added store place synced tells = tt
