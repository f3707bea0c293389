-- The files of a store while it is created.
use Rattle.std.proofs.Common.{◌≡◌, ℕ, ◌^◌, ◌<◌, ◌≤◌, ◌⊎◌, Bool, false, List, [], ◌∷◌, ◌++◌, length, take, map, Option, Some, None, inl, inr, refl, sym, ap, subst, ◌∙◌, arith}
use Rattle.std.specs.Prelude.{◌↔◌, IfSome, IsSome}
use Rattle.std.proofs.lemmas.List.{take_all}
use Rattle.cube_language.specs.declared.decl.Decl.{Decl}
use Rattle.cube_language.specs.Cubes.{cubes_text}
use Rattle.cube_language.specs.CubesText.{Declares}
use Rattle.cube_rounds.specs.Demands.{no_names}
use Rattle.cube_rounds.specs.Headers.{open_gate, shut_gate, header_bytes, IsCanonical, FitsHeader}
use Rattle.cube_rounds.specs.Stands.{Kept, kept_of_cubes, IsClosed, IsCurrent}
use Rattle.cube_schema.specs.Texts.{TextsDeclareOneList}
use Rattle.gate_writes.specs.Gates.{Filling, HasAnyFront, has_shut_gate, with_shut_front}
use Rattle.gate_writes.proofs.Fills.{closed_by_gate}
use Rattle.gate_writes.proofs.Moments.{LeavesOnly-joined, LeavesOnly-wider}
use Rattle.outside_disk.specs.Views.{View, IsSynced, LeavesOnly}
use Rattle.round_fields.proofs.Told.{length-sha256}
use Rattle.sha2.specs.Sha256.{sha256}
use Rattle.store_reading.specs.declared.pair.StorePlace.{StorePlace}
use Rattle.store_reading.specs.Pairs.{pair_content, file_of, StandsAt}
use Rattle.store_reading.proofs.FrontsRead.{begins_open}
use Rattle.store_reading.proofs.PairsRead.{stands_begin}
use Rattle.round_store.specs.Counts.{counts_of}
use Rattle.round_store.specs.Creation.{StandForNone, AreCreating, with_any_front_shut, IsShutNow}
use Rattle.round_store.specs.States.{StoreState, whole_place, IsStoreOf, AreFilesOf, IsAt}
use Rattle.round_store.specs.Wholes.{IsBegun}
use Rattle.round_store.proofs.AroundLaws.{Told}
use Rattle.round_store.proofs.StandsBy.{is_current}
use Rattle.round_store.proofs.WholeStands.{begun_stands, header_long}

-- A current file is not closed.
not_closed : (kept : Kept) (file other : List ℕ) → IsCurrent sha256 kept file other → IsClosed file → ⊥
not_closed kept file other current closed =
    begins_open sha256 length-sha256 current.generation (cubes_text current.stands.cubes) file (stands_begin sha256 current.generation kept file current.stands) closed

none_of_closed : (first second : List ℕ) → IsClosed first → IsClosed second → StandForNone first second
none_of_closed first second a b kept (inl current) = not_closed kept first second current a
none_of_closed first second a b kept (inr current) = not_closed kept second first current b

shut_closed : (g : List ℕ) → IsClosed (with_any_front_shut g)
shut_closed [] = inl (omega arith)
shut_closed (gate ∷ rest) = closed_by_gate shut_gate rest (λ e. zero_apart e)
  where
    zero_apart : shut_gate ≡ open_gate → ⊥
    zero_apart e = omega (arith, e)

-- ---- the state of a new store

declared_here : (text : List ℕ) (list : List Decl) → IsCanonical text list → Declares (cubes_text list) list
declared_here text list can = subst (λ (t : List ℕ). Declares t list) can.canonical can.declares

fits_here : (text : List ℕ) (list : List Decl) → IsCanonical text list → FitsHeader 1 text → FitsHeader 1 (cubes_text list)
fits_here text list can fits = subst (FitsHeader 1) can.canonical fits

store_of_cubes : (s : StoreState) (text : List ℕ) (list : List Decl) → IsCanonical text list → FitsHeader 1 text
    → s.cubes ≡ list → s.declared ≡ length list → s.rounds ≡ 0 → s.counts ≡ counts_of (map no_names list) → IsStoreOf s (kept_of_cubes list)
store_of_cubes s text list can fits cubes declared rounds counts =
    let whole : take (length list) list ≡ list = take_all (length list) list (omega arith) in
    record {
      cubes = cubes;
      declared = declared;
      rounds = rounds;
      counts = counts;
      within = omega arith;
      declares = subst (λ (c : List Decl). Declares (cubes_text c) c) (sym whole) (declared_here text list can);
      long = subst (λ (c : List Decl). length (cubes_text c) < 2 ^ 32) (sym whole) (fits_here text list can fits).long;
    }

pub new_store_of : (s : StoreState) (text : List ℕ) (found list : List Decl) → TextsDeclareOneList → FitsHeader 1 text → IsCanonical text found → IsCanonical text list
    → s.cubes ≡ found → s.declared ≡ length found → s.rounds ≡ 0 → s.counts ≡ counts_of (map no_names found) → IsStoreOf s (kept_of_cubes list)
new_store_of s text found list one fits can-found can cubes declared rounds counts =
    let same : found ≡ list = one text found list can-found.declares can.declares in
    subst (λ (l : List Decl). IsStoreOf s (kept_of_cubes l)) same (store_of_cubes s text found can-found fits cubes declared rounds counts)

pub has_first : (text out : List ℕ) → out ≡ header_bytes sha256 1 text ++ shut_gate ∷ [] → 1 ≤ length out
has_first text out is = omega (arith, header_long 1 text out is)

-- ---- the first file

pub begin_moves : (told : Option (List ℕ)) (bytes : List ℕ) (old mid new : View) → IfSome told (λ f. LeavesOnly old mid (HasAnyFront f)) → IfSome told (λ f. mid.told ≡ Some (with_shut_front f))
    → IfSome mid.told (λ m. LeavesOnly mid new (Filling bytes)) → IfSome told (λ f. LeavesOnly old new (λ c. HasAnyFront f c ⊎ Filling bytes c))
begin_moves None bytes old mid new first wrote second = tt
begin_moves (Some f) bytes old mid new first wrote second =
    LeavesOnly-joined old mid new (λ c. HasAnyFront f c ⊎ Filling bytes c)
    (LeavesOnly-wider old mid (HasAnyFront f) (λ c. HasAnyFront f c ⊎ Filling bytes c) (λ c any. inl any) first)
    (LeavesOnly-wider mid new (Filling bytes) (λ c. HasAnyFront f c ⊎ Filling bytes c) (λ c fills. inr fills)
    (subst (λ (o : Option (List ℕ)). IfSome o (λ m. LeavesOnly mid new (Filling bytes))) wrote second))

pub first_moves_then : (told : Option (List ℕ)) (bytes : List ℕ) (old new : View) (Q : Type 0) → Q → IfSome told (λ f. LeavesOnly old new (λ c. HasAnyFront f c ⊎ Filling bytes c))
    → IfSome told (λ f. LeavesOnly old new (λ c. HasAnyFront f c ⊎ (Filling bytes c × Q)))
first_moves_then None bytes old new Q q moves = tt
first_moves_then (Some f) bytes old new Q q moves = LeavesOnly-wider old new (λ c. HasAnyFront f c ⊎ Filling bytes c) (λ c. HasAnyFront f c ⊎ (Filling bytes c × Q)) wide moves
  where
    wide : (c : List ℕ) → HasAnyFront f c ⊎ Filling bytes c → HasAnyFront f c ⊎ (Filling bytes c × Q)
    wide c (inl any) = inl any
    wide c (inr fills) = inr (fills, q)

-- ---- both

new_file : (text : List ℕ) (list : List Decl) (bytes d : List ℕ) → IsCanonical text list → FitsHeader 1 text → IsBegun 1 text bytes → IsClosed d
    → StandsAt sha256 (pair_content (kept_of_cubes list) (whole_place false 1 bytes)) (open_gate ∷ bytes) d
new_file text list bytes d can fits begun closed =
    begun_stands false list bytes d (declared_here text list can) (fits_here text list can fits) (subst (λ (t : List ℕ). IsBegun 1 t bytes) can.canonical begun) (inl closed)

-- The first file, while the second is as it is at the end.
creating_first : (text : List ℕ) (list : List Decl) (bytes f g c d : List ℕ) → IsCanonical text list → FitsHeader 1 text → IsBegun 1 text bytes → HasAnyFront g d
    → (HasAnyFront f c ⊎ (Filling bytes c × IsClosed d)) → AreCreating list f g c d
creating_first text list bytes f g c d can fits begun any (inl front) = inr (inl (record { first_old = front; second_old = any }))
creating_first text list bytes f g c d can fits begun any (inr fill) = filled fill.0
  where
    filled : Filling bytes c → AreCreating list f g c d
    filled (inl closed) = inl (none_of_closed c d closed fill.1)
    filled (inr new) =
        inr (inr (inl (subst (λ (x : List ℕ). IsCurrent sha256 (kept_of_cubes list) x d) (sym new) (is_current (kept_of_cubes list) (whole_place false 1 bytes) (open_gate ∷ bytes) d (new_file text list bytes d can fits begun fill.1)))))

pub second_creating : (a b : Option (List ℕ)) (old new : View) (list : List Decl) → IfSome b (λ g. LeavesOnly old new (HasAnyFront g)) → Told a b (λ f g. LeavesOnly old new (λ d. AreCreating list f g f d))
second_creating None b old new list moves = tt
second_creating (Some f) None old new list moves = tt
second_creating (Some f) (Some g) old new list moves =
    LeavesOnly-wider old new (HasAnyFront g) (λ d. AreCreating list f g f d) (λ d any. inr (inl (record { first_old = record { long = omega arith; rest = refl }; second_old = any }))) moves

-- A second file whose gate is shut is closed.
closed_now : (g : List ℕ) (old new : View) → old.told ≡ Some g → IsShutNow old new → (d : List ℕ) → new.image d → IsClosed d
closed_now g old new is shut d image =
    let told : new.told ≡ Some (with_any_front_shut g) = subst (λ (o : Option (List ℕ)). IfSome o (λ f. new.told ≡ Some (with_any_front_shut f))) is shut.told in
    let only : (c : List ℕ) → new.image c → c ≡ with_any_front_shut g = subst (λ (o : Option (List ℕ)). IfSome o (λ h. (c : List ℕ) → new.image c → c ≡ h)) told shut.synced in
    subst IsClosed (sym (only d image)) (shut_closed g)

pub first_creating : (a b : Option (List ℕ)) (v1 n1 v2 n2 : View) (text : List ℕ) (list : List Decl) (bytes : List ℕ) → IsCanonical text list → FitsHeader 1 text → IsBegun 1 text bytes → v2.told ≡ b
    → ((t : ℕ) (d : List ℕ) → t ≤ n2.moment → n2.image d → n2.since t d) → IfSome b (λ g. LeavesOnly v2 n2 (HasAnyFront g))
    → IfSome a (λ f. LeavesOnly v1 n1 (λ c. HasAnyFront f c ⊎ (Filling bytes c × IsShutNow v2 n2)))
    → Told a b (λ f g. LeavesOnly v1 n1 (λ c. (d : List ℕ) → n2.image d → AreCreating list f g c d))
first_creating None b v1 n1 v2 n2 text list bytes can fits begun is now second first = tt
first_creating (Some f) None v1 n1 v2 n2 text list bytes can fits begun is now second first = tt
first_creating (Some f) (Some g) v1 n1 v2 n2 text list bytes can fits begun is now second first =
    LeavesOnly-wider v1 n1 (λ c. HasAnyFront f c ⊎ (Filling bytes c × IsShutNow v2 n2)) (λ c. (d : List ℕ) → n2.image d → AreCreating list f g c d)
    (λ c any d image. creating_first text list bytes f g c d can fits begun (second.each d (now v2.moment d second.later image)) (with_closed c d image any)) first
  where
    with_closed : (c d : List ℕ) → n2.image d → HasAnyFront f c ⊎ (Filling bytes c × IsShutNow v2 n2) → HasAnyFront f c ⊎ (Filling bytes c × IsClosed d)
    with_closed c d image (inl any) = inl any
    with_closed c d image (inr fill) = inr (fill.0, closed_now g v2 n2 is fill.1 d image)

-- The files of a new store.
pub new_files : (a b x y : Option (List ℕ)) (s : StoreState) (text : List ℕ) (list : List Decl) (bytes : List ℕ) → IsCanonical text list → FitsHeader 1 text → IsBegun 1 text bytes
    → s.place ≡ whole_place false 1 bytes → (IsSome a ↔ IsSome x) → (IsSome b ↔ IsSome y) → IfSome a (λ f. x ≡ Some (open_gate ∷ bytes)) → IfSome b (λ g. y ≡ Some (with_any_front_shut g))
    → IfSome b (λ g. has_shut_gate (with_any_front_shut g) ≡ s.shut) → Told x y (λ f g. AreFilesOf s (kept_of_cubes list) (file_of s.place.second f g) (file_of s.place.second g f))
new_files a b None y s text list bytes can fits begun place tells-a tells-b first second gate = tt
new_files None b (Some c) y s text list bytes can fits begun place tells-a tells-b first second gate = let told = tells-a.1 refl in absurd cc
new_files (Some f) None (Some c) None s text list bytes can fits begun place tells-a tells-b first second gate = tt
new_files (Some f) None (Some c) (Some d) s text list bytes can fits begun place tells-a tells-b first second gate = let told = tells-b.1 refl in absurd cc
new_files (Some f) (Some g) (Some c) y s text list bytes can fits begun place tells-a tells-b first second gate =
    let kept = kept_of_cubes list in
    let other = with_any_front_shut g in
    let stands = new_file text list bytes other can fits begun (shut_closed g) in
    let files : AreFilesOf s kept (open_gate ∷ bytes) other = record {
      stands = subst (λ (p : StorePlace). StandsAt sha256 (pair_content kept p) (open_gate ∷ bytes) other) (sym place) stands;
      gate = gate;
    } in
    let here : AreFilesOf s kept (file_of s.place.second (open_gate ∷ bytes) other) (file_of s.place.second other (open_gate ∷ bytes)) =
    subst (λ (z : Bool). AreFilesOf s kept (file_of z (open_gate ∷ bytes) other) (file_of z other (open_gate ∷ bytes))) (sym (ap (λ (p : StorePlace). p.second) place)) files in
    subst (λ (o : Option (List ℕ)). Told o y (λ p q. AreFilesOf s kept (file_of s.place.second p q) (file_of s.place.second q p))) (sym first)
    (subst (λ (o : Option (List ℕ)). Told (Some (open_gate ∷ bytes)) o (λ p q. AreFilesOf s kept (file_of s.place.second p q) (file_of s.place.second q p))) (sym second) here)

beside_of : (old s : StoreState) (b : Bool) (kept : Kept) → s ≡ record old { shut = b } → IsStoreOf old kept → IsStoreOf s kept
beside_of old s b kept is store = record {
  cubes = ap (λ (x : StoreState). x.cubes) is ∙ store.cubes;
  declared = ap (λ (x : StoreState). x.declared) is ∙ store.declared;
  rounds = ap (λ (x : StoreState). x.rounds) is ∙ store.rounds;
  counts = ap (λ (x : StoreState). x.counts) is ∙ store.counts;
  within = store.within;
  declares = store.declares;
  long = store.long;
}

gate_beside : (b : Option (List ℕ)) (shut now : Bool) → now ≡ shut → IfSome b (λ g. has_shut_gate (with_any_front_shut g) ≡ shut) → IfSome b (λ g. has_shut_gate (with_any_front_shut g) ≡ now)
gate_beside b shut now is gate = subst (λ (x : Bool). IfSome b (λ g. has_shut_gate (with_any_front_shut g) ≡ x)) (sym is) gate

-- A new store, once both files are written.
pub new_at : (v1 n1 v2 n2 : View) (old s : StoreState) (b : Bool) (text : List ℕ) (list : List Decl) (bytes : List ℕ) → IsCanonical text list → FitsHeader 1 text → IsBegun 1 text bytes
    → s ≡ record old { shut = b } → IsStoreOf old (kept_of_cubes list) → old.place ≡ whole_place false 1 bytes → (IsSome v1.told ↔ IsSome v2.told) → (IsSome v1.told ↔ IsSome n1.told)
    → IsSynced n1 → IfSome v1.told (λ f. n1.told ≡ Some (open_gate ∷ bytes)) → IsShutNow v2 n2 → IfSome v2.told (λ g. has_shut_gate (with_any_front_shut g) ≡ b) → IsAt s (kept_of_cubes list) n1 n2
new_at v1 n1 v2 n2 old s b text list bytes can fits begun is store place both tells synced written shut gate = record {
  store = beside_of old s b (kept_of_cubes list) is store;
  first_synced = synced;
  second_synced = shut.synced;
  both = (λ x. shut.tells.0 (both.0 (tells.1 x)), λ y. tells.0 (both.1 (shut.tells.1 y)));
  files = new_files v1.told v2.told n1.told n2.told s text list bytes can fits begun (ap (λ (x : StoreState). x.place) is ∙ place) tells shut.tells written shut.told
      (gate_beside v2.told b s.shut (ap (λ (x : StoreState). x.shut) is) gate);
}
