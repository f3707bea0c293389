-- A whole round that replaces the other file.
use Rattle.std.proofs.Common.{◌≡◌, ℕ, ◌+◌, ◌^◌, ◌<◌, ◌⊎◌, Bool, true, false, List, ◌∷◌, ◌++◌, take, Option, Some, None, inl, inr, refl, sym, ap, subst, ◌∙◌, arith}
use Rattle.std.specs.Prelude.{IfSome, ◌==◌, ◌&&◌, ◌||◌, nat_lt, nat_le, not}
use Rattle.std.proofs.lemmas.Bool.{eqb-true, ltb-true}
use Rattle.cube_language.specs.declared.decl.Decl.{Decl}
use Rattle.cube_language.specs.Cubes.{cubes_text}
use Rattle.cube_rounds.specs.declared.round.Round.{Round}
use Rattle.cube_rounds.specs.Headers.{open_gate, header_bytes, FitsHeader}
use Rattle.cube_rounds.specs.Stands.{Kept, kept_of_cubes, kept_with, rounds_bytes, IsCurrent}
use Rattle.gate_writes.specs.Gates.{Replacing, has_shut_gate}
use Rattle.gate_writes.proofs.Moments.{LeavesOnly-wider}
use Rattle.outside_disk.specs.Views.{View, IsSynced, LeavesOnly}
use Rattle.round_fields.proofs.DigestLaws.{both_true}
use Rattle.sha2.specs.Sha256.{sha256}
use Rattle.store_reading.specs.Pairs.{pair_content, StandsAt}
use Rattle.round_store.specs.States.{StoreState, wants_whole, header_cubes, whole_place, IsStoreOf, AreFilesOf, MayFollowKept, IsBesideEither}
use Rattle.round_store.specs.Wholes.{IsWholeFile}
use Rattle.round_store.proofs.AppendLaws.{still}
use Rattle.round_store.proofs.StandsBy.{is_current}
use Rattle.round_store.proofs.WholeStands.{header_cut, older_file, beside_closed, beside_same, whole_stands}

either_true : (a b : Bool) → (a || b) ≡ true → (a ≡ true) ⊎ (b ≡ true)
either_true true b e = inl refl
either_true false b e = inr e

-- Another generation may follow that of a store whose next round is whole.
pub next_fits : (s : StoreState) → wants_whole s ≡ true → s.place.generation < 2 ^ 61
next_fits s wants =
    elim (either_true (s.place.generation == 0) (nat_le 64 s.rounds && nat_lt s.place.generation (2 ^ 61)) wants) [
      | inl first ↦ omega (arith, eqb-true s.place.generation 0 first)
      | inr many ↦ ltb-true _ _ (both_true (nat_le 64 s.rounds) (nat_lt s.place.generation (2 ^ 61)) many).1
    ]

-- The header's cubes, as the store has them.
pub same_header : (s : StoreState) (kept : Kept) → IsStoreOf s kept → take s.declared s.cubes ≡ header_cubes kept
same_header s kept is = (λ i. take (is.declared i) (is.cubes i))

pub header_fits : (s : StoreState) (kept : Kept) → IsStoreOf s kept → wants_whole s ≡ true → FitsHeader (s.place.generation + 1) (cubes_text (header_cubes kept))
header_fits s kept is wants = record {
  small = omega (arith, next_fits s wants);
  cubes = header_cubes kept;
  canonical = record { declares = is.declares; canonical = refl };
  long = is.long;
}

pub gate_in : (s : StoreState) (kept : Kept) (told : Option (List ℕ)) → IfSome told (λ g. (f : List ℕ) × AreFilesOf s kept f g) → IfSome told (λ g. has_shut_gate g ≡ s.shut)
gate_in s kept None files = tt
gate_in s kept (Some g) files = files.1.gate

-- The file of the whole round, beside the one that was current.
whole_file : (s : StoreState) (kept : Kept) (f g : List ℕ) (round : Round) (bytes : List ℕ) → IsStoreOf s kept → wants_whole s ≡ true → MayFollowKept (kept_of_cubes (header_cubes kept)) round
    → IsWholeFile (s.place.generation + 1) (take s.declared s.cubes) round bytes → AreFilesOf s kept f g
    → StandsAt sha256 (pair_content (kept_with (kept_of_cubes (header_cubes kept)) round) (whole_place (not s.place.second) (s.place.generation + 1) bytes)) (open_gate ∷ bytes) f
whole_file s kept f g round bytes is wants follows whole files =
    let whole-here : IsWholeFile (s.place.generation + 1) (header_cubes kept) round bytes =
    subst (λ (c : List Decl). IsWholeFile (s.place.generation + 1) c round bytes) (same_header s kept is) whole in
    let small = next_fits s wants in
    whole_stands (not s.place.second) (s.place.generation + 1) (header_cubes kept) round bytes f is.declares (header_fits s kept is wants) (omega (arith, small)) follows whole-here
    (inr (older_file kept s.place f g files.stands))

replacing_stands : (s : StoreState) (kept : Kept) (f g : List ℕ) (round : Round) (bytes : List ℕ) → IsStoreOf s kept → wants_whole s ≡ true → MayFollowKept (kept_of_cubes (header_cubes kept)) round
    → IsWholeFile (s.place.generation + 1) (take s.declared s.cubes) round bytes → AreFilesOf s kept f g
    → (c : List ℕ) → Replacing g bytes c → IsBesideEither kept (kept_with (kept_of_cubes (header_cubes kept)) round) f c
replacing_stands s kept f g round bytes is wants follows whole files c (inl same) = inl (beside_same kept s.place f g files.stands c same)
replacing_stands s kept f g round bytes is wants follows whole files c (inr (inl closed)) = inl (beside_closed kept s.place f g files.stands c closed)
replacing_stands s kept f g round bytes is wants follows whole files c (inr (inr new)) =
    let after = kept_with (kept_of_cubes (header_cubes kept)) round in
    inr (subst (λ (x : List ℕ). IsCurrent sha256 after x f) (sym new)
    (is_current after (whole_place (not s.place.second) (s.place.generation + 1) bytes) (open_gate ∷ bytes) f (whole_file s kept f g round bytes is wants follows whole files)))

pub replace_moves : (told : Option (List ℕ)) (old new : View) (s : StoreState) (kept : Kept) (f : List ℕ) (round : Round) (bytes : List ℕ) → IsStoreOf s kept → wants_whole s ≡ true
    → MayFollowKept (kept_of_cubes (header_cubes kept)) round → IsWholeFile (s.place.generation + 1) (take s.declared s.cubes) round bytes
    → IfSome told (λ g. LeavesOnly old new (Replacing g bytes))
    → IfSome told (λ g. AreFilesOf s kept f g → LeavesOnly old new (IsBesideEither kept (kept_with (kept_of_cubes (header_cubes kept)) round) f))
replace_moves None old new s kept f round bytes is wants follows whole moves = tt
replace_moves (Some g) old new s kept f round bytes is wants follows whole moves = λ files.
    LeavesOnly-wider old new (Replacing g bytes) (IsBesideEither kept (kept_with (kept_of_cubes (header_cubes kept)) round) f)
    (replacing_stands s kept f g round bytes is wants follows whole files) moves

-- A current file begins with an open gate.
opened : (file rest : List ℕ) → file ≡ open_gate ∷ rest → has_shut_gate file ≡ false
opened file rest e = ap has_shut_gate e

current_gate : (s : StoreState) (kept : Kept) (f g : List ℕ) → AreFilesOf s kept f g → has_shut_gate f ≡ false
current_gate s kept f g files =
    let st = files.stands.stands in
    let head = header_bytes sha256 s.place.generation (cubes_text st.cubes) in
    opened f _ (st.whole ∙ ap (λ (b : List ℕ). (b ++ rounds_bytes sha256 st.cubes st.rounds) ++ st.gate ∷ st.rest) (header_cut s.place.generation (cubes_text st.cubes)))

replaced_now : (new : Option (List ℕ)) (s after : StoreState) (kept : Kept) (f g : List ℕ) (round : Round) (bytes : List ℕ) → IsStoreOf s kept → wants_whole s ≡ true
    → MayFollowKept (kept_of_cubes (header_cubes kept)) round → IsWholeFile (s.place.generation + 1) (take s.declared s.cubes) round bytes → AreFilesOf s kept f g
    → after.place ≡ whole_place (not s.place.second) (s.place.generation + 1) bytes → after.shut ≡ false → new ≡ Some (open_gate ∷ bytes)
    → IfSome new (λ c. AreFilesOf after (kept_with (kept_of_cubes (header_cubes kept)) round) c f)
replaced_now new s after kept f g round bytes is wants follows whole files place shut told =
    let kept-after = kept_with (kept_of_cubes (header_cubes kept)) round in
    subst (λ (o : Option (List ℕ)). IfSome o (λ c. AreFilesOf after kept-after c f)) (sym told)
    (record {
      stands = subst (λ p. StandsAt sha256 (pair_content kept-after p) (open_gate ∷ bytes) f) (sym place) (whole_file s kept f g round bytes is wants follows whole files);
      gate = current_gate s kept f g files ∙ sym shut;
    })

pub replace_added : (told new : Option (List ℕ)) (s after : StoreState) (kept : Kept) (f : List ℕ) (round : Round) (bytes : List ℕ) → IsStoreOf s kept → wants_whole s ≡ true
    → MayFollowKept (kept_of_cubes (header_cubes kept)) round → IsWholeFile (s.place.generation + 1) (take s.declared s.cubes) round bytes
    → after.place ≡ whole_place (not s.place.second) (s.place.generation + 1) bytes → after.shut ≡ false → IfSome told (λ g. new ≡ Some (open_gate ∷ bytes))
    → IfSome told (λ g. AreFilesOf s kept f g → IfSome new (λ c. AreFilesOf after (kept_with (kept_of_cubes (header_cubes kept)) round) c f))
replace_added None new s after kept f round bytes is wants follows whole place shut written = tt
replace_added (Some g) new s after kept f round bytes is wants follows whole place shut written = λ files.
    replaced_now new s after kept f g round bytes is wants follows whole files place shut written

pub still_beside : (told : Option (List ℕ)) (old : View) (s : StoreState) (kept after : Kept) (f : List ℕ) → told ≡ old.told → IsSynced old → ((c : List ℕ) → old.since old.moment c → old.image c)
    → IfSome told (λ g. AreFilesOf s kept f g → LeavesOnly old old (IsBesideEither kept after f))
still_beside None old s kept after f is synced now = tt
still_beside (Some g) old s kept after f is synced now = λ files.
    let only : (c : List ℕ) → old.image c → c ≡ g = subst (λ (o : Option (List ℕ)). IfSome o (λ h. (c : List ℕ) → old.image c → c ≡ h)) (sym is) synced in
    still old (IsBesideEither kept after f) (λ c left. inl (beside_same kept s.place f g files.stands c (only c (now c left))))
