-- A round on one of the two disks of a store.
use Rattle.std.proofs.Common.{◌≡◌, ℕ, Bool, true, false, cond, List, Option, Some, None, inl, inr, refl, sym, subst}
use Rattle.std.specs.Prelude.{◌↔◌, IfSome, IsSome}
use Rattle.cube_rounds.specs.declared.round.Round.{Round}
use Rattle.cube_rounds.specs.Stands.{Kept, kept_of_cubes, Stands}
use Rattle.gate_writes.proofs.Moments.{LeavesOnly-wider}
use Rattle.outside_disk.specs.Views.{View, IsSynced, LeavesOnly}
use Rattle.sha2.specs.Sha256.{sha256}
use Rattle.store_reading.specs.Pairs.{file_of}
use Rattle.round_store.specs.States.{StoreState, wants_whole, header_cubes, AreFilesOf, kept_before, MayFollowKept, IsEither, IsBesideEither, StandForEither}
use Rattle.round_store.proofs.AppendLaws.{still}
use Rattle.round_store.proofs.StandsBy.{is_current}

-- Both disks tell their files, or neither does.
abbrev pub Told : Option (List ℕ) → Option (List ℕ) → (List ℕ → List ℕ → Type 0) → Type 0
Told a b P = IfSome a (λ f. IfSome b (λ g. P f g))

pub files_first : (s : StoreState) (kept : Kept) (a b : Option (List ℕ)) → s.place.second ≡ false → Told a b (λ f g. AreFilesOf s kept (file_of s.place.second f g) (file_of s.place.second g f))
    → Told a b (λ f g. AreFilesOf s kept f g)
files_first s kept a b is files = subst (λ (x : Bool). Told a b (λ f g. AreFilesOf s kept (file_of x f g) (file_of x g f))) is files

pub files_second : (s : StoreState) (kept : Kept) (a b : Option (List ℕ)) → s.place.second ≡ true → Told a b (λ f g. AreFilesOf s kept (file_of s.place.second f g) (file_of s.place.second g f))
    → Told a b (λ f g. AreFilesOf s kept g f)
files_second s kept a b is files = subst (λ (x : Bool). Told a b (λ f g. AreFilesOf s kept (file_of x f g) (file_of x g f))) is files

pub follows_behind : (s : StoreState) (kept : Kept) (round : Round) → wants_whole s ≡ false → MayFollowKept (kept_before s kept) round → MayFollowKept kept round
follows_behind s kept round is follows = subst (λ (x : Bool). MayFollowKept (cond x (kept_of_cubes (header_cubes kept)) kept) round) is follows

pub follows_header : (s : StoreState) (kept : Kept) (round : Round) → wants_whole s ≡ true → MayFollowKept (kept_before s kept) round → MayFollowKept (kept_of_cubes (header_cubes kept)) round
follows_header s kept round is follows = subst (λ (x : Bool). MayFollowKept (cond x (kept_of_cubes (header_cubes kept)) kept) round) is follows

-- What a call on the first disk, or on the second, has to know of its own file.
pub first_file : (P : List ℕ → List ℕ → Type 0) (a b : Option (List ℕ)) → (IsSome a ↔ IsSome b) → Told a b P → IfSome a (λ f. (g : List ℕ) × P f g)
first_file P None b both files = tt
first_file P (Some f) None both files = let told = both.0 refl in absurd cc
first_file P (Some f) (Some g) both files = (g, files)

pub second_file : (P : List ℕ → List ℕ → Type 0) (a b : Option (List ℕ)) → (IsSome a ↔ IsSome b) → Told a b P → IfSome b (λ g. (f : List ℕ) × P f g)
second_file P a None both files = tt
second_file P None (Some g) both files = let told = both.1 refl in absurd cc
second_file P (Some f) (Some g) both files = (f, files)

-- ---- the disk that is called

by_first : (before after : Kept) (g c : List ℕ) → IsEither before after g c → StandForEither before after c g
by_first before after g c (inl x) = inl (inl x)
by_first before after g c (inr x) = inr (inl x)

by_second : (before after : Kept) (f d : List ℕ) → IsEither before after f d → StandForEither before after f d
by_second before after f d (inl x) = inl (inr x)
by_second before after f d (inr x) = inr (inr x)

beside_first : (before after : Kept) (f d : List ℕ) → IsBesideEither before after f d → StandForEither before after f d
beside_first before after f d (inl x) = inl (inl x)
beside_first before after f d (inr x) = inr (inr x)

beside_second : (before after : Kept) (g c : List ℕ) → IsBesideEither before after g c → StandForEither before after c g
beside_second before after g c (inl x) = inl (inr x)
beside_second before after g c (inr x) = inr (inl x)

pub append_first : (a b : Option (List ℕ)) (old new : View) (s : StoreState) (kept after : Kept) → Told a b (λ f g. AreFilesOf s kept f g)
    → ((g : List ℕ) → IfSome a (λ f. AreFilesOf s kept f g → LeavesOnly old new (IsEither kept after g))) → Told a b (λ f g. LeavesOnly old new (λ c. StandForEither kept after c g))
append_first None b old new s kept after files moves = tt
append_first (Some f) None old new s kept after files moves = tt
append_first (Some f) (Some g) old new s kept after files moves = LeavesOnly-wider old new (IsEither kept after g) (λ c. StandForEither kept after c g) (by_first kept after g) (moves g files)

pub append_second : (a b : Option (List ℕ)) (old new : View) (s : StoreState) (kept after : Kept) → Told a b (λ f g. AreFilesOf s kept g f)
    → ((f : List ℕ) → IfSome b (λ g. AreFilesOf s kept g f → LeavesOnly old new (IsEither kept after f))) → Told a b (λ f g. LeavesOnly old new (λ d. StandForEither kept after f d))
append_second None b old new s kept after files moves = tt
append_second (Some f) None old new s kept after files moves = tt
append_second (Some f) (Some g) old new s kept after files moves = LeavesOnly-wider old new (IsEither kept after f) (λ d. StandForEither kept after f d) (by_second kept after f) (moves f files)

pub whole_second : (a b : Option (List ℕ)) (old new : View) (s : StoreState) (kept after : Kept) → Told a b (λ f g. AreFilesOf s kept f g)
    → ((f : List ℕ) → IfSome b (λ g. AreFilesOf s kept f g → LeavesOnly old new (IsBesideEither kept after f))) → Told a b (λ f g. LeavesOnly old new (λ d. StandForEither kept after f d))
whole_second None b old new s kept after files moves = tt
whole_second (Some f) None old new s kept after files moves = tt
whole_second (Some f) (Some g) old new s kept after files moves = LeavesOnly-wider old new (IsBesideEither kept after f) (λ d. StandForEither kept after f d) (beside_first kept after f) (moves f files)

pub whole_first : (a b : Option (List ℕ)) (old new : View) (s : StoreState) (kept after : Kept) → Told a b (λ f g. AreFilesOf s kept g f)
    → ((g : List ℕ) → IfSome a (λ f. AreFilesOf s kept g f → LeavesOnly old new (IsBesideEither kept after g))) → Told a b (λ f g. LeavesOnly old new (λ c. StandForEither kept after c g))
whole_first None b old new s kept after files moves = tt
whole_first (Some f) None old new s kept after files moves = tt
whole_first (Some f) (Some g) old new s kept after files moves = LeavesOnly-wider old new (IsBesideEither kept after g) (λ c. StandForEither kept after c g) (beside_second kept after g) (moves g files)

-- ---- the disk that stays

stand_now : (s : StoreState) (kept : Kept) (f g : List ℕ) (second : Bool) → AreFilesOf s kept (file_of second f g) (file_of second g f) → Stands sha256 kept f g
stand_now s kept f g true files = inr (is_current kept s.place g f files.stands)
stand_now s kept f g false files = inl (is_current kept s.place f g files.stands)

pub first_stays : (a b : Option (List ℕ)) (old : View) (s : StoreState) (kept after : Kept) → a ≡ old.told → IsSynced old → ((c : List ℕ) → old.since old.moment c → old.image c)
    → Told a b (λ f g. AreFilesOf s kept (file_of s.place.second f g) (file_of s.place.second g f)) → Told a b (λ f g. LeavesOnly old old (λ c. StandForEither kept after c g))
first_stays None b old s kept after is synced now files = tt
first_stays (Some f) None old s kept after is synced now files = tt
first_stays (Some f) (Some g) old s kept after is synced now files =
    let only : (c : List ℕ) → old.image c → c ≡ f = subst (λ (o : Option (List ℕ)). IfSome o (λ h. (c : List ℕ) → old.image c → c ≡ h)) (sym is) synced in
    still old (λ c. StandForEither kept after c g) (λ c left. inl (subst (λ (x : List ℕ). Stands sha256 kept x g) (sym (only c (now c left))) (stand_now s kept f g s.place.second files)))

pub second_stays : (a b : Option (List ℕ)) (old : View) (s : StoreState) (kept after : Kept) → b ≡ old.told → IsSynced old → ((c : List ℕ) → old.since old.moment c → old.image c)
    → Told a b (λ f g. AreFilesOf s kept (file_of s.place.second f g) (file_of s.place.second g f)) → Told a b (λ f g. LeavesOnly old old (λ d. StandForEither kept after f d))
second_stays None b old s kept after is synced now files = tt
second_stays (Some f) None old s kept after is synced now files = tt
second_stays (Some f) (Some g) old s kept after is synced now files =
    let only : (c : List ℕ) → old.image c → c ≡ g = subst (λ (o : Option (List ℕ)). IfSome o (λ h. (c : List ℕ) → old.image c → c ≡ h)) (sym is) synced in
    still old (λ d. StandForEither kept after f d) (λ c left. inl (subst (λ (x : List ℕ). Stands sha256 kept f x) (sym (only c (now c left))) (stand_now s kept f g s.place.second files)))

-- ---- the files afterwards

pub appended_first : (a b new : Option (List ℕ)) (s after : StoreState) (kept next : Kept) → after.place.second ≡ false → Told a b (λ f g. AreFilesOf s kept f g)
    → ((g : List ℕ) → IfSome a (λ f. AreFilesOf s kept f g → IfSome new (λ c. AreFilesOf after next c g))) → (IsSome a ↔ IsSome new)
    → Told new b (λ f g. AreFilesOf after next (file_of after.place.second f g) (file_of after.place.second g f))
appended_first a b None s after kept next place files added tells = tt
appended_first None b (Some c) s after kept next place files added tells = let told = tells.1 refl in absurd cc
appended_first (Some f) None (Some c) s after kept next place files added tells = tt
appended_first (Some f) (Some g) (Some c) s after kept next place files added tells =
    subst (λ (x : Bool). AreFilesOf after next (file_of x c g) (file_of x g c)) (sym place) (added g files)

pub appended_second : (a b new : Option (List ℕ)) (s after : StoreState) (kept next : Kept) → after.place.second ≡ true → Told a b (λ f g. AreFilesOf s kept g f)
    → ((f : List ℕ) → IfSome b (λ g. AreFilesOf s kept g f → IfSome new (λ c. AreFilesOf after next c f))) → (IsSome b ↔ IsSome new)
    → Told a new (λ f g. AreFilesOf after next (file_of after.place.second f g) (file_of after.place.second g f))
appended_second None b new s after kept next place files added tells = tt
appended_second (Some f) b None s after kept next place files added tells = tt
appended_second (Some f) None (Some c) s after kept next place files added tells = let told = tells.1 refl in absurd cc
appended_second (Some f) (Some g) (Some c) s after kept next place files added tells =
    subst (λ (x : Bool). AreFilesOf after next (file_of x f c) (file_of x c f)) (sym place) (added f files)

pub begun_second : (a b new : Option (List ℕ)) (s after : StoreState) (kept next : Kept) → after.place.second ≡ true → Told a b (λ f g. AreFilesOf s kept f g)
    → ((f : List ℕ) → IfSome b (λ g. AreFilesOf s kept f g → IfSome new (λ c. AreFilesOf after next c f))) → (IsSome b ↔ IsSome new)
    → Told a new (λ f g. AreFilesOf after next (file_of after.place.second f g) (file_of after.place.second g f))
begun_second None b new s after kept next place files added tells = tt
begun_second (Some f) b None s after kept next place files added tells = tt
begun_second (Some f) None (Some c) s after kept next place files added tells = let told = tells.1 refl in absurd cc
begun_second (Some f) (Some g) (Some c) s after kept next place files added tells =
    subst (λ (x : Bool). AreFilesOf after next (file_of x f c) (file_of x c f)) (sym place) (added f files)

pub begun_first : (a b new : Option (List ℕ)) (s after : StoreState) (kept next : Kept) → after.place.second ≡ false → Told a b (λ f g. AreFilesOf s kept g f)
    → ((g : List ℕ) → IfSome a (λ f. AreFilesOf s kept g f → IfSome new (λ c. AreFilesOf after next c g))) → (IsSome a ↔ IsSome new)
    → Told new b (λ f g. AreFilesOf after next (file_of after.place.second f g) (file_of after.place.second g f))
begun_first a b None s after kept next place files added tells = tt
begun_first None b (Some c) s after kept next place files added tells = let told = tells.1 refl in absurd cc
begun_first (Some f) None (Some c) s after kept next place files added tells = tt
begun_first (Some f) (Some g) (Some c) s after kept next place files added tells =
    subst (λ (x : Bool). AreFilesOf after next (file_of x c g) (file_of x g c)) (sym place) (added g files)
