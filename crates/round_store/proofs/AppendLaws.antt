-- A round that is put behind those of the current file.
use Rattle.std.proofs.Common.{◌≡◌, ℕ, ◌<◌, List, [], ◌∷◌, ◌++◌, length, Option, Some, None, inl, sym, ap, subst, ◌∙◌, arith}
use Rattle.std.specs.Prelude.{IfSome}
use Rattle.std.proofs.lemmas.List.{length-append}
use Rattle.cube_language.specs.declared.decl.Decl.{Decl}
use Rattle.cube_rounds.specs.declared.round.Round.{Round}
use Rattle.cube_rounds.specs.Bytes.{round_bytes}
use Rattle.cube_rounds.specs.Demands.{FitsRound}
use Rattle.cube_rounds.specs.Headers.{shut_gate}
use Rattle.cube_rounds.specs.Stands.{Kept, kept_with, IsCurrent}
use Rattle.gate_writes.specs.Gates.{EndsShut, EndsOpen, Appending, has_shut_gate}
use Rattle.gate_writes.proofs.Moments.{LeavesOnly-wider}
use Rattle.outside_disk.specs.Views.{View, IsSynced, LeavesOnly}
use Rattle.sha2.specs.Sha256.{sha256}
use Rattle.store_reading.specs.Pairs.{pair_content, StandsAt}
use Rattle.round_store.specs.States.{StoreState, place_behind, IsStoreOf, AreFilesOf, MayFollowKept, IsEither}
use Rattle.round_store.proofs.StandsBy.{front_of, ends_shut, is_current, current_with, appending_stands}

pub fits_here : (s : StoreState) (kept : Kept) (round : Round) → IsStoreOf s kept → MayFollowKept kept round → FitsRound s.cubes kept.names round
fits_here s kept round is follows = subst (λ (c : List Decl). FitsRound c kept.names round) (sym is.cubes) follows.fits

pub place_in : (s : StoreState) (kept : Kept) (told : Option (List ℕ)) → IfSome told (λ f. (g : List ℕ) × AreFilesOf s kept f g) → IfSome told (λ f. s.place.end < length f)
place_in s kept None files = tt
place_in s kept (Some f) files =
    let st = files.1.stands in
    let front = front_of kept s.place f files.0 st in
    omega (arith, st.end, ap length st.stands.whole, length-append front (st.stands.gate ∷ st.stands.rest))

-- The round's bytes behind the cubes that are kept.
bytes_here : (s : StoreState) (kept : Kept) (round : Round) (bytes : List ℕ) → IsStoreOf s kept → bytes ≡ round_bytes sha256 s.cubes round ++ shut_gate ∷ [] → bytes ≡ round_bytes sha256 kept.cubes round ++ shut_gate ∷ []
bytes_here s kept round bytes is are = are ∙ ap (λ (c : List Decl). round_bytes sha256 c round ++ shut_gate ∷ []) is.cubes

pub append_moves : (told : Option (List ℕ)) (old new : View) (s : StoreState) (kept : Kept) (g : List ℕ) (round : Round) (bytes : List ℕ) → IsStoreOf s kept → MayFollowKept kept round
    → bytes ≡ round_bytes sha256 s.cubes round ++ shut_gate ∷ []
    → ((front : List ℕ) → length front ≡ s.place.end → IfSome told (λ f. EndsShut front f → LeavesOnly old new (Appending front bytes)))
    → IfSome told (λ f. AreFilesOf s kept f g → LeavesOnly old new (IsEither kept (kept_with kept round) g))
append_moves None old new s kept g round bytes is follows are moves = tt
append_moves (Some f) old new s kept g round bytes is follows are moves = λ files.
    let st = files.stands in
    let front = front_of kept s.place f g st in
    LeavesOnly-wider old new (Appending front bytes) (IsEither kept (kept_with kept round) g)
    (appending_stands kept s.place f g st round follows bytes (bytes_here s kept round bytes is are)) (moves front (sym st.end) (ends_shut kept s.place f g st))

added_now : (new : Option (List ℕ)) (s after : StoreState) (kept : Kept) (f g : List ℕ) (round : Round) (bytes : List ℕ) (st : StandsAt sha256 (pair_content kept s.place) f g) → MayFollowKept kept round
    → bytes ≡ round_bytes sha256 kept.cubes round ++ shut_gate ∷ [] → has_shut_gate g ≡ s.shut → after.place ≡ place_behind s.place (length bytes) → after.shut ≡ s.shut
    → IfSome new (EndsOpen (front_of kept s.place f g st) bytes) → IfSome new (λ c. AreFilesOf after (kept_with kept round) c g)
added_now None s after kept f g round bytes st follows are gate place shut opened = tt
added_now (Some c) s after kept f g round bytes st follows are gate place shut opened = record {
  stands = subst (λ p. StandsAt sha256 (pair_content (kept_with kept round) p) c g) (sym place) (current_with kept s.place f g st round follows bytes c are opened);
  gate = gate ∙ sym shut;
}

pub append_added : (told new : Option (List ℕ)) (s after : StoreState) (kept : Kept) (g : List ℕ) (round : Round) (bytes : List ℕ) → IsStoreOf s kept → MayFollowKept kept round
    → bytes ≡ round_bytes sha256 s.cubes round ++ shut_gate ∷ [] → after.place ≡ place_behind s.place (length bytes) → after.shut ≡ s.shut
    → ((front : List ℕ) → length front ≡ s.place.end → IfSome told (λ f. EndsShut front f → IfSome new (EndsOpen front bytes)))
    → IfSome told (λ f. AreFilesOf s kept f g → IfSome new (λ c. AreFilesOf after (kept_with kept round) c g))
append_added None new s after kept g round bytes is follows are place shut written = tt
append_added (Some f) new s after kept g round bytes is follows are place shut written = λ files.
    let st = files.stands in
    added_now new s after kept f g round bytes st follows (bytes_here s kept round bytes is are) files.gate place shut
    (written (front_of kept s.place f g st) (sym st.end) (ends_shut kept s.place f g st))

-- A disk that no call has moved.
pub still : (old : View) (P : List ℕ → Type 0) → ((c : List ℕ) → old.since old.moment c → P c) → LeavesOnly old old P
still old P here = record { later = omega arith; each = here; before = λ t c le left. inl left }

pub still_current : (told : Option (List ℕ)) (old : View) (s : StoreState) (kept after : Kept) (g : List ℕ) → told ≡ old.told → IsSynced old → ((c : List ℕ) → old.since old.moment c → old.image c)
    → IfSome told (λ f. AreFilesOf s kept f g → LeavesOnly old old (IsEither kept after g))
still_current None old s kept after g is synced now = tt
still_current (Some f) old s kept after g is synced now = λ files.
    let only : (c : List ℕ) → old.image c → c ≡ f = subst (λ (o : Option (List ℕ)). IfSome o (λ h. (c : List ℕ) → old.image c → c ≡ h)) (sym is) synced in
    still old (IsEither kept after g) (λ c left. inl (subst (λ (x : List ℕ). IsCurrent sha256 kept x g) (sym (only c (now c left))) (is_current kept s.place f g files.stands)))
