-- A store that is opened.
use Rattle.std.proofs.Common.{◌≡◌, ℕ, ◌≤◌, ◌^◌, ◌<◌, Bool, true, false, List, [], length, Option, Some, None, Result, Ok, Err, inl, inr, refl, sym, ap, subst, ◌∙◌, arith}
use Rattle.std.specs.Prelude.{IfOk, IfSome, MatchResult}
use Rattle.std.proofs.lemmas.List.{take_all}
use Rattle.cube_language.specs.declared.decl.Decl.{Decl}
use Rattle.cube_language.specs.Cubes.{cubes_text}
use Rattle.cube_language.specs.CubesText.{Declares}
use Rattle.cube_rounds.specs.Stands.{Kept, kept_of_cubes, kept_with_all, Stands}
use Rattle.cube_values.specs.declared.call_error.CallError.{CallError}
use Rattle.cube_values.specs.declared.call_error.CallError.TheVariants as errors
use Rattle.outside_disk.specs.Reads.{IsUntouched}
use Rattle.outside_disk.specs.Views.{View, IsSynced}
use Rattle.sha2.specs.Sha256.{sha256}
use Rattle.store_reading.specs.declared.pair.StorePlace.{StorePlace}
use Rattle.store_reading.specs.declared.fault.PairFault.{PairFault}
use Rattle.store_reading.specs.Pairs.{PairContent, pair_content, pair_from, file_of, StandsAt}
use Rattle.round_store.specs.declared.fault.OpenFault.{OpenFault}
use Rattle.round_store.specs.declared.fault.OpenFault.TheVariants.{Pair, Disk}
use Rattle.round_store.specs.Opening.{OpenAnswer, OpensAs, OpensFilesAs, OpensFiles, IsNoRefusal}
use Rattle.round_store.specs.Counts.{counts_of}
use Rattle.round_store.specs.States.{StoreState, header_cubes, HoldsForFiles, IsStoreOf, AreFilesOf}
use Rattle.round_store.proofs.StandsBy.{is_current}
use Rattle.round_store.proofs.StoreLaws.{cubes_stay}

header_of : (kept : Kept) (place : StorePlace) (file other : List ℕ) (st : StandsAt sha256 (pair_content kept place) file other) → (header_cubes kept ≡ st.stands.cubes) × (kept.declared ≤ length kept.cubes)
header_of kept place file other st =
    let cubes = st.stands.cubes in
    let begun = kept_of_cubes cubes in
    let stay = cubes_stay begun st.stands.rounds (omega arith) in
    let whole : kept ≡ kept_with_all begun st.stands.rounds = st.stands.are in (
      ap header_cubes whole ∙ stay.0 ∙ take_all (length cubes) cubes (omega arith),
      subst (λ (k : Kept). k.declared ≤ length k.cubes) (sym whole) (subst (λ (n : ℕ). n ≤ length (kept_with_all begun st.stands.rounds).cubes) (sym stay.1) stay.2),
    )

pub opened_store : (s : StoreState) (kept : Kept) (place : StorePlace) (file other : List ℕ) → StandsAt sha256 (pair_content kept place) file other
    → (at : StorePlace) (b : Bool) → s ≡ record { cubes = kept.cubes; declared = kept.declared; rounds = length kept.rounds; counts = counts_of kept.names; place = at; shut = b } → IsStoreOf s kept
opened_store s kept place file other st at b is =
    let head = header_of kept place file other st in
    record {
      cubes = ap (λ (x : StoreState). x.cubes) is;
      declared = ap (λ (x : StoreState). x.declared) is;
      rounds = ap (λ (x : StoreState). x.rounds) is;
      counts = ap (λ (x : StoreState). x.counts) is;
      within = head.1;
      declares = subst (λ (c : List Decl). Declares (cubes_text c) c) (sym head.0) st.stands.declares;
      long = subst (λ (c : List Decl). length (cubes_text c) < 2 ^ 32) (sym head.0) st.stands.header.long;
    }

pub synced_still : (old new : View) → IsUntouched old new → IsSynced old → IsSynced new
synced_still old new same synced = by_told old.told refl synced
  where
    by_told : (o : Option (List ℕ)) → o ≡ old.told → IfSome o (λ f. (c : List ℕ) → old.image c → c ≡ f) → IsSynced new
    by_told None is only = subst (λ (p : Option (List ℕ)). IfSome p (λ f. (c : List ℕ) → new.image c → c ≡ f)) (is ∙ sym same.told) tt
    by_told (Some f) is only = subst (λ (p : Option (List ℕ)). IfSome p (λ h. (c : List ℕ) → new.image c → c ≡ h)) (is ∙ sym same.told) (λ c now. only c (same.images c now))

pub untouched : (old : View) → ((c : List ℕ) → old.since old.moment c → old.image c) → IsUntouched old old
untouched old now = record {
  told = refl;
  images = λ c image. image;
  any_moment = record { later = omega arith; each = now; before = λ t c le left. inl left };
  count = omega arith;
}

-- ---- over two disks

-- The file of a disk, and any where it tells none.
told_file : (o : Option (List ℕ)) → (f : List ℕ) × IfSome o (λ x. f ≡ x)
told_file None = ([], tt)
told_file (Some f) = (f, refl)

opens_failed : (e : CallError OpenFault) (read : Result PairContent PairFault) → IsNoRefusal e → OpensAs (Err e) read
opens_failed errors.NoMemory read free = tt
opens_failed (errors.Fault Disk) read free = tt
opens_failed (errors.Fault (Pair f)) read free = absurd free

pub fails_to_open : (first second : View) (e : CallError OpenFault) → IsNoRefusal e → HoldsForFiles first second (OpensFiles (Err e))
fails_to_open first second e free =
    let a = told_file first.told in
    let b = told_file second.told in
    record {
      first_file = a.0;
      second_file = b.0;
      first_told = a.1;
      second_told = b.1;
      holds = record { exact = λ told tells. opens_failed e (pair_from sha256 told a.0 b.0) free; stands = tt; only = λ kept stands. free };
    }

-- ---- what is answered for two files

stand_by : (second : Bool) (s : StoreState) (kept : Kept) (f g : List ℕ) → AreFilesOf s kept (file_of second f g) (file_of second g f) → Stands sha256 kept f g
stand_by true s kept f g files = inr (is_current kept s.place g f files.stands)
stand_by false s kept f g files = inl (is_current kept s.place f g files.stands)

no_refusal : (e : CallError OpenFault) → e ≡ errors.NoMemory → IsNoRefusal e
no_refusal e is = subst IsNoRefusal (sym is) tt

pub opens_files : (r : OpenAnswer) (f g : List ℕ) → IfOk r (λ x. AreFilesOf x.0 x.1 (file_of x.0.place.second f g) (file_of x.0.place.second g f))
    → ((kept : Kept) → Stands sha256 kept f g → MatchResult r (λ x. x.1 ≡ kept) (λ e. e ≡ errors.NoMemory)) → OpensFilesAs r f g → OpensFiles r f g
opens_files (Ok x) f g files only exact = record { exact = exact; stands = stand_by x.0.place.second x.0 x.1 f g files; only = only }
opens_files (Err e) f g files only exact = record { exact = exact; stands = tt; only = λ kept stands. no_refusal e (only kept stands) }
