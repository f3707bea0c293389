-- What a session knows stays, whatever it calls.
use Rattle.std.proofs.Common.{◌≡◌, ◌∙◌, ℕ, ◌+◌, ◌<◌, ◌≤◌, ◌==◌, ◌&&◌, Bool, true, false, not, List, [], ◌∷◌, ◌++◌, filter, if◌then◌else◌, length, Option, Some, None, refl, ap, arith, append-nil, max}
use Rattle.std.proofs.lemmas.List.Elements.{filter-append}
use Rattle.cube_values.specs.declared.query.BoundQuery.{BoundQuery}
use Rattle.cube_values.specs.declared.row.CodedRow.{CodedRow}
use Rattle.cube_values.specs.declared.snapshot.Snapshot.{Snapshot}
use Rattle.cube_language.specs.declared.decl.Decl.{Decl}
use Rattle.names_dict.specs.declared.code.Code.{Code}
use Rattle.aosi_desk.specs.declared.cube.CubeFound.TheVariants.{Found}
use Rattle.core_cells.specs.declared.desk.DeskAnswer.TheVariants as answer
use Rattle.core_cells.specs.declared.desk.DeskCall.TheVariants as call
use Rattle.core_events.specs.Clients.{Holding, ClientState, after_client_call, cubes_at_least, greater_of, greater_where, holds_with, holds_without, names_after, names_after_call, names_by_number, number_by_code, reader_up_to, state_from_calls, writer_at}
use Rattle.core_events.specs.Events.{Opening, OpenWrite, OpenRead, Commit, AbortEnd, CloseRead, TakeNote, CreateCube, FindCube, CubesFrom, CountersNow, RoundOpen, RoundClose, StoreFailed, NamesEvent, Encode, FindName, CopyFrom, ClientCall, OnDesk, OnNames, Post, Fetch, CloseMail, NoChange}
use Rattle.core_events.specs.Fitting.{IsQueryOf, MayPutRow}
use Rattle.cube_core.specs.HoldStates.{IsUnderOwnNumber, after_desk_call}
use Rattle.cube_core.proofs.Snapshots.{same-number}

not-less : (n : ℕ) → n ≤ n
not-less n = omega arith

below-most : (n m : ℕ) → m < max n (m + 1)
below-most n m = omega arith

-- Cubes and names.

greater-most : (more : Option ℕ) (n : ℕ) → n ≤ greater_of more n
greater-most None n = not-less n
greater-most (Some m) n = omega arith

where-most : (here : Bool) (more : Option ℕ) (n : ℕ) → n ≤ greater_where here more n
where-most true more n = greater-most more n
where-most false more n = not-less n

pub cubes-stay : (o : Opening) (a : ℕ) (later calls : List ClientCall)
    → (state_from_calls o a calls).cubes ≤ (state_from_calls o a (later ++ calls)).cubes
cubes-stay o a [] calls = not-less (state_from_calls o a calls).cubes
cubes-stay o a (c ∷ later) calls =
    let before = cubes-stay o a later calls in
    let more = greater-most (cubes_at_least c) (state_from_calls o a (later ++ calls)).cubes in
    omega (arith, before, more)

names-call : (c : NamesEvent) (names : ℕ → ℕ → ℕ) (cube dim : ℕ) → names cube dim ≤ names_after_call c names cube dim
names-call (Encode e d name code) names cube dim =
    where-most (e == cube && d == dim) (names_by_number (number_by_code code)) (names cube dim)
names-call (FindName e d name number) names cube dim =
    where-most (e == cube && d == dim) (names_by_number number) (names cube dim)
names-call (CopyFrom e d from more) names cube dim =
    where-most (e == cube && d == dim) (Some (from + length more)) (names cube dim)

names-after : (c : ClientCall) (names : ℕ → ℕ → ℕ) (cube dim : ℕ) → names cube dim ≤ names_after c names cube dim
names-after (OnNames c) names cube dim = names-call c names cube dim
names-after c names cube dim = not-less (names cube dim)

pub names-stay : (o : Opening) (a cube dim : ℕ) (later calls : List ClientCall)
    → (state_from_calls o a calls).names cube dim ≤ (state_from_calls o a (later ++ calls)).names cube dim
names-stay o a cube dim [] calls = not-less ((state_from_calls o a calls).names cube dim)
names-stay o a cube dim (c ∷ later) calls =
    let before = names-stay o a cube dim later calls in
    let more = names-after c (state_from_calls o a (later ++ calls)).names cube dim in
    omega (arith, before, more)

-- What is told.

pub cube-told : (o : Opening) (a statement place : ℕ) (name : List ℕ) (decl : Decl) (k : ClientState)
    → place < (after_desk_call o a (call.FindCube a statement name) (answer.Found (Found place decl)) k).cubes
cube-told o a statement place name decl k = below-most k.cubes place

pub name-told : (o : Opening) (a cube dim number : ℕ) (name : List ℕ) (code : Code) (k : ClientState)
    → number_by_code code ≡ Some number
    → number < (after_client_call o a (OnNames (Encode cube dim name code)) k).names cube dim
name-told o a cube dim number name code k is =
    coe 1 0
    (i. number < greater_where (same-number cube i && same-number dim i) (names_by_number (is i)) (k.names cube dim))
    (below-most (k.names cube dim) number)

pub row-stays : (o : Opening) (a cube shard : ℕ) (row : CodedRow) (later calls : List ClientCall)
    → MayPutRow o cube shard (state_from_calls o a calls) row
    → MayPutRow o cube shard (state_from_calls o a (later ++ calls)) row
row-stays o a cube shard row later calls may = record {
  coords = may.coords;
  of_shard = may.of_shard;
  metrics = may.metrics;
  names = λ dim coord text at.
      let told = may.names dim coord text at in
      let more = names-stay o a cube dim later calls in
      omega (arith, told, more);
}

pub query-stays : (o : Opening) (a : ℕ) (query : BoundQuery) (later calls : List ClientCall)
    → IsQueryOf o query (state_from_calls o a calls) → IsQueryOf o query (state_from_calls o a (later ++ calls))
query-stays o a query later calls may =
    let there = may.there in
    let more = cubes-stay o a later calls in
    record { there = omega (arith, there, more); sound = may.sound }

-- What the holders hold.

without-own : (a : ℕ) (s : Snapshot) → holds_without a (record { number = a; snapshot = s } ∷ []) ≡ []
without-own a s = ap (λ (own : Bool). if not own then record { number = a; snapshot = s } ∷ [] else []) (same-number a)

with-own : (a : ℕ) (s : Snapshot) (holds : List Holding)
    → holds_without a (holds_with a s holds) ≡ holds_without a holds
with-own a s holds =
    filter-append (λ h. not (h.number == a)) holds (record { number = a; snapshot = s } ∷ [])
    ∙ ap (λ (more : List Holding). holds_without a holds ++ more) (without-own a s)
    ∙ append-nil (holds_without a holds)

twice-first : (p : Holding → Bool) (passes : Bool) (x : Holding) (xs : List Holding) → p x ≡ passes
    → filter p (filter p xs) ≡ filter p xs
    → filter p (if passes then x ∷ filter p xs else filter p xs) ≡ (if passes then x ∷ filter p xs else filter p xs)
twice-first p true x xs is rest =
    ap (λ (b : Bool). if b then x ∷ filter p (filter p xs) else filter p (filter p xs)) is
    ∙ ap (λ (ys : List Holding). x ∷ ys) rest
twice-first p false x xs is rest = rest

twice : (p : Holding → Bool) (xs : List Holding) → filter p (filter p xs) ≡ filter p xs
twice p [] = refl
twice p (x ∷ xs) = twice-first p (p x) x xs refl (twice p xs)

pub holders-stay : (o : Opening) (a : ℕ) (c : ClientCall) (k : ClientState) → IsUnderOwnNumber a c
    → holds_without a (after_client_call o a c k).holds ≡ holds_without a k.holds
holders-stay o a (OnDesk (OpenWrite statement epoch deps)) k own = with-own a (writer_at epoch deps) k.holds
holders-stay o a (OnDesk (OpenRead number statement epoch)) k own =
    ap (λ (n : ℕ). holds_without a (holds_with n (reader_up_to epoch) k.holds)) own
    ∙ with-own a (reader_up_to epoch) k.holds
holders-stay o a (OnDesk (Commit statement epoch)) k own = twice (λ h. not (h.number == a)) k.holds
holders-stay o a (OnDesk (AbortEnd statement epoch cause)) k own = twice (λ h. not (h.number == a)) k.holds
holders-stay o a (OnDesk (CloseRead number statement)) k own =
    ap (λ (n : ℕ). holds_without a (holds_without n k.holds)) own ∙ twice (λ h. not (h.number == a)) k.holds
holders-stay o a (OnDesk (TakeNote note counters)) k own = refl
holders-stay o a (OnDesk (CreateCube statement decl answer)) k own = refl
holders-stay o a (OnDesk (FindCube statement name answer)) k own = refl
holders-stay o a (OnDesk (CubesFrom place cubes)) k own = refl
holders-stay o a (OnDesk (CountersNow counters)) k own = refl
holders-stay o a (OnDesk (RoundOpen answer)) k own = refl
holders-stay o a (OnDesk (RoundClose epoch end)) k own = refl
holders-stay o a (OnDesk (StoreFailed failed)) k own = refl
holders-stay o a (OnNames c) k own = refl
holders-stay o a (Post mail job) k own = refl
holders-stay o a (Fetch mail answer) k own = refl
holders-stay o a (CloseMail mail) k own = refl
holders-stay o a NoChange k own = refl
