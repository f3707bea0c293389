-- The rounds of a file are read as they are spelled, and no others are.
use Rattle.std.proofs.Common.{◌≡◌, ◌≢◌, ℕ, zero, suc, ◌+◌, ◌^◌, ◌<◌, ◌≤◌, List, [], ◌∷◌, ◌++◌, length, drop, Option, Some, None, Result, Ok, Err, refl, sym, ap, subst, ◌∙◌, append_assoc, arith}
use Rattle.std.proofs.lemmas.List.{drop_at, length-append, length-drop}
use Rattle.cube_language.specs.declared.decl.Decl.{Decl}
use Rattle.cube_language.specs.CubesText.{Declares}
use Rattle.cube_rounds.specs.declared.round.Round.{Round}
use Rattle.cube_rounds.specs.Bytes.{payload_bytes, round_bytes}
use Rattle.cube_rounds.specs.Headers.{open_gate}
use Rattle.cube_rounds.specs.Stands.{Kept, kept_with, kept_with_all, RoundsMayFollow, rounds_bytes}
use Rattle.round_fields.specs.Canonical.{TellsCubes}
use Rattle.cube_values.specs.declared.call_error.CallError.{CallError}
use Rattle.cube_values.specs.declared.call_error.CallError.TheVariants as errors
use Rattle.round_fields.specs.Reading.{◌>>=◌, FailsRead}
use Rattle.round_fields.proofs.FieldLaws.{IsBytes, IsBytes-drop, bind_ok, ok_is}
use Rattle.store_reading.specs.declared.fault.PairFault.{PairFault}
use Rattle.store_reading.specs.Rounds.{next_from, RoundsEnd, rounds_end, and_more, rounds_from, IsReadable, IsNextRound}
use Rattle.store_reading.proofs.Following.{IsShut, next_takes, next_ends, next_shut, next_again}
use Rattle.store_reading.proofs.Growing.{readable_more}

-- What reading rounds gives.
pub record TakesRounds (digest : List ℕ → List ℕ) (kept : Kept) (bytes : List ℕ) (end : RoundsEnd) : Type 0 where
  pub rounds : List Round
  pub chain : RoundsMayFollow kept rounds
  pub are : end.kept ≡ kept_with_all kept rounds
  pub parts : bytes ≡ rounds_bytes digest kept.cubes rounds ++ end.left
  pub ends : IsShut end.left

-- One round more at the front.
takes_more : (digest : List ℕ → List ℕ) (kept : Kept) (bytes : List ℕ) (x : Round × ℕ) (end : RoundsEnd) → IsNextRound digest kept bytes x
    → TakesRounds digest (kept_with kept x.0) (drop x.1 bytes) end → TakesRounds digest kept bytes end
takes_more digest kept bytes x end next more = record {
  rounds = x.0 ∷ more.rounds;
  chain = (next.from, next.fits, more.chain);
  are = more.are;
  parts = next.whole ∙ ap (λ (b : List ℕ). open_gate ∷ (round_bytes digest kept.cubes x.0 ++ b)) more.parts
      ∙ ap (λ (b : List ℕ). open_gate ∷ b) (sym (append_assoc (round_bytes digest kept.cubes x.0) (rounds_bytes digest (kept_with kept x.0).cubes more.rounds) end.left));
  ends = more.ends;
}

-- The rounds behind one that may be there.
behind_next : (digest : List ℕ → List ℕ) → ((m : List ℕ) → length (digest m) ≡ 32) → (told : List ℕ → Option (List Decl)) → TellsCubes told → (size n : ℕ) (kept : Kept) → IsReadable kept
    → (bytes : List ℕ) → IsBytes bytes → 1 ≤ length bytes → length bytes ≤ suc n → (end : RoundsEnd) (more : Kept → List ℕ → Result RoundsEnd PairFault)
    → ((k : Kept) (b : List ℕ) → IsReadable k → IsBytes b → 1 ≤ length b → length b ≤ n → more k b ≡ Ok end → TakesRounds digest k b end)
    → (o : Option (Round × ℕ)) → next_from digest told size kept bytes ≡ Ok o → and_more more kept bytes o ≡ Ok end → TakesRounds digest kept bytes end
behind_next digest wide told tells size n kept readable bytes fits some few end more again None next behind =
    let same : rounds_end kept bytes ≡ end = ok_is PairFault (rounds_end kept bytes) end behind in
    let shut = next_ends digest told size kept bytes some next in
    subst (TakesRounds digest kept bytes) same (record { rounds = []; chain = tt; are = refl; parts = refl; ends = shut })
behind_next digest wide told tells size n kept readable bytes fits some few end more again (Some x) next behind =
    let is = next_takes digest wide told tells size kept readable bytes fits x next in
    let long = length-drop x.1 bytes in
    takes_more digest kept bytes x end is
    (again (kept_with kept x.0) (drop x.1 bytes) (readable_more kept x.0 readable is.fits) (IsBytes-drop x.1 bytes fits) (omega (arith, long, is.within)) (omega (arith, long, is.size, few)) behind)

pub rounds_take : (digest : List ℕ → List ℕ) → ((m : List ℕ) → length (digest m) ≡ 32) → (told : List ℕ → Option (List Decl)) → TellsCubes told → (size n : ℕ) (kept : Kept) → IsReadable kept
    → (bytes : List ℕ) → IsBytes bytes → 1 ≤ length bytes → length bytes ≤ n → (end : RoundsEnd) → rounds_from digest told size n kept bytes ≡ Ok end → TakesRounds digest kept bytes end
unfolding rounds_from
rounds_take digest wide told tells size zero kept readable bytes fits some few end e = absurd (omega arith)
rounds_take digest wide told tells size (suc n) kept readable bytes fits some few end e =
    let more : Kept → List ℕ → Result RoundsEnd PairFault = λ k b. rounds_from digest told size n k b in
    let a = bind_ok (next_from digest told size kept bytes) (and_more more kept bytes) end e in
    behind_next digest wide told tells size n kept readable bytes fits some few end more
    (λ k b r f s l same. rounds_take digest wide told tells size n k r b f s l end same) a.0 a.1 a.2

-- What a round leaves of the bytes that it is in front of, as reading counts them.
left_behind : (digest : List ℕ → List ℕ) (kept : Kept) (round : Round) (tail : List ℕ) (n : ℕ) → n ≡ length (round_bytes digest kept.cubes round) + 1
    → drop n (open_gate ∷ (round_bytes digest kept.cubes round ++ tail)) ≡ tail
left_behind digest kept round tail n is =
    let text = round_bytes digest kept.cubes round in
    let e : n ≡ suc (length text) = omega (arith, is) in
    ap (λ (k : ℕ). drop k (open_gate ∷ (text ++ tail))) e ∙ drop_at text tail (length text) refl

-- What rounds leave begins with some byte.
pub some_behind : (digest : List ℕ → List ℕ) (cubes : List Decl) (rounds : List Round) (gate : ℕ) (rest : List ℕ)
    → (first : ℕ) × (more : List ℕ) × (rounds_bytes digest cubes rounds ++ gate ∷ rest ≡ first ∷ more)
some_behind digest cubes [] gate rest = (gate, rest, refl)
some_behind digest cubes (round ∷ rounds) gate rest = (open_gate, _, refl)

pub rounds_again : (digest : List ℕ → List ℕ) → ((m : List ℕ) → length (digest m) ≡ 32) → (told : List ℕ → Option (List Decl)) → TellsCubes told
    → ((text : List ℕ) (a b : List Decl) → Declares text a → Declares text b → a ≡ b) → (size n : ℕ) (kept : Kept) → IsReadable kept → (rounds : List Round) (gate : ℕ) (rest : List ℕ)
    → RoundsMayFollow kept rounds → gate ≢ open_gate → IsBytes (rounds_bytes digest kept.cubes rounds ++ gate ∷ rest) → length (rounds_bytes digest kept.cubes rounds ++ gate ∷ rest) < 2 ^ 64
    → length (rounds_bytes digest kept.cubes rounds ++ gate ∷ rest) ≤ n
    → rounds_from digest told size n kept (rounds_bytes digest kept.cubes rounds ++ gate ∷ rest) ≡ Ok (rounds_end (kept_with_all kept rounds) (gate ∷ rest))
unfolding rounds_from
rounds_again digest wide told tells one_list size zero kept readable [] gate rest chain shut fits short few = absurd (omega arith)
rounds_again digest wide told tells one_list size zero kept readable (round ∷ rounds) gate rest chain shut fits short few = absurd (omega arith)
rounds_again digest wide told tells one_list size (suc n) kept readable [] gate rest chain shut fits short few =
    ap (λ (r : Result (Option (Round × ℕ)) PairFault). r >>= and_more (λ k b. rounds_from digest told size n k b) kept (gate ∷ rest)) (next_shut digest told size kept gate rest shut)
rounds_again digest wide told tells one_list size (suc n) kept readable (round ∷ rounds) gate rest chain shut fits short few =
    let text = round_bytes digest kept.cubes round in
    let next = kept_with kept round in
    let tail = rounds_bytes digest next.cubes rounds ++ gate ∷ rest in
    let bytes = rounds_bytes digest kept.cubes (round ∷ rounds) ++ gate ∷ rest in
    let first = some_behind digest next.cubes rounds gate rest in
    let parts : bytes ≡ open_gate ∷ (text ++ tail) = ap (λ (b : List ℕ). open_gate ∷ b) (append_assoc text (rounds_bytes digest next.cubes rounds) (gate ∷ rest)) in
    let long : length bytes ≡ length text + length tail + 1 = omega (arith, ap length parts, length-append text tail) in
    let gated : text ++ tail ≡ text ++ first.0 ∷ first.1 = ap (λ (b : List ℕ). text ++ b) first.2 in
    let size-of = length (payload_bytes kept.cubes round) + 57 in
    let read : next_from digest told size kept (open_gate ∷ (text ++ tail)) ≡ Ok (Some (round, size-of)) =
    ap (λ (b : List ℕ). next_from digest told size kept (open_gate ∷ b)) gated
    ∙ next_again digest wide told tells one_list size kept readable round first.0 first.1 chain.1 chain.0 (omega (arith, ap length gated, length-append text tail, long, short)) in
    let fits1 : IsBytes (open_gate ∷ (text ++ tail)) = subst IsBytes parts fits in
    let is = next_takes digest wide told tells size kept readable (open_gate ∷ (text ++ tail)) fits1 (round, size-of) read in
    let left = left_behind digest kept round tail size-of is.size in
    let fits2 : IsBytes tail = subst IsBytes left (IsBytes-drop size-of (open_gate ∷ (text ++ tail)) fits1) in
    let more : Kept → List ℕ → Result RoundsEnd PairFault = λ k b. rounds_from digest told size n k b in
    let behind = rounds_again digest wide told tells one_list size n next (readable_more kept round readable chain.1) rounds gate rest chain.2 shut fits2 (omega (arith, long, short)) (omega (arith, long, few)) in
    ap (λ (b : List ℕ). next_from digest told size kept b >>= and_more more kept b) parts
    ∙ ap (λ (r : Result (Option (Round × ℕ)) PairFault). r >>= and_more more kept (open_gate ∷ (text ++ tail))) read
    ∙ ap (more next) left
    ∙ behind

-- ---- a loop over rounds

pub rounds_ended : (digest : List ℕ → List ℕ) (told : List ℕ → Option (List Decl)) (size n : ℕ) (kept : Kept) (bytes : List ℕ) → next_from digest told size kept bytes ≡ Ok None
    → rounds_from digest told size n kept bytes ≡ Ok (rounds_end kept bytes)
unfolding rounds_from
rounds_ended digest told size zero kept bytes e = refl
rounds_ended digest told size (suc n) kept bytes e =
    ap (λ (r : Result (Option (Round × ℕ)) PairFault). r >>= and_more (λ k b. rounds_from digest told size n k b) kept bytes) e

none_in_nothing : (digest : List ℕ → List ℕ) (told : List ℕ → Option (List Decl)) (size : ℕ) (kept : Kept) (bytes : List ℕ) → length bytes ≤ 0 → next_from digest told size kept bytes ≡ Ok None
unfolding next_from
none_in_nothing digest told size kept [] few = refl
none_in_nothing digest told size kept (b ∷ bytes) few = absurd (omega arith)

abbrev right_next : Option (Round × ℕ) → Result (Option (Round × ℕ)) PairFault
right_next o = Ok o

fails_not : (e : CallError PairFault) (o : Option (Round × ℕ)) (r : Result RoundsEnd PairFault) → FailsRead e (right_next o) → FailsRead e r
fails_not errors.NoMemory o r given = tt
fails_not (errors.Fault f) o r given = absurd cc

fails_on : (e : CallError PairFault) (next : Result (Option (Round × ℕ)) PairFault) (more : Option (Round × ℕ) → Result RoundsEnd PairFault) → FailsRead e next → FailsRead e (next >>= more)
fails_on errors.NoMemory next more given = tt
fails_on (errors.Fault f) next more given = ap (λ (r : Result (Option (Round × ℕ)) PairFault). r >>= more) given

pub rounds_failed : (digest : List ℕ → List ℕ) (told : List ℕ → Option (List Decl)) (size n : ℕ) (kept : Kept) (bytes : List ℕ) (e : CallError PairFault) → length bytes ≤ n
    → FailsRead e (next_from digest told size kept bytes) → FailsRead e (rounds_from digest told size n kept bytes)
unfolding rounds_from
rounds_failed digest told size zero kept bytes e few given =
    fails_not e None (Ok (rounds_end kept bytes)) (subst (λ (r : Result (Option (Round × ℕ)) PairFault). FailsRead e r) (none_in_nothing digest told size kept bytes few) given)
rounds_failed digest told size (suc n) kept bytes e few given =
    fails_on e (next_from digest told size kept bytes) (and_more (λ k b. rounds_from digest told size n k b) kept bytes) given

-- What is left to read with so many rounds at most.
pub record ReadsOn (digest : List ℕ → List ℕ) (size : ℕ) (kept begun : Kept) (left bytes : List ℕ) : Type 0 where
  pub most : ℕ
  pub few : length left ≤ most
  pub same : (told : List ℕ → Option (List Decl)) → TellsCubes told → rounds_from digest told size most kept left ≡ rounds_from digest told size size begun bytes

rounds_step : (digest : List ℕ → List ℕ) (told : List ℕ → Option (List Decl)) (size n : ℕ) (kept : Kept) (bytes : List ℕ) (x : Round × ℕ) → next_from digest told size kept bytes ≡ Ok (Some x)
    → rounds_from digest told size (suc n) kept bytes ≡ rounds_from digest told size n (kept_with kept x.0) (drop x.1 bytes)
unfolding rounds_from
rounds_step digest told size n kept bytes x e =
    ap (λ (r : Result (Option (Round × ℕ)) PairFault). r >>= and_more (λ k b. rounds_from digest told size n k b) kept bytes) e

reads_more : (digest : List ℕ → List ℕ) (size most : ℕ) (kept begun : Kept) (left bytes : List ℕ) (x : Round × ℕ) → IsNextRound digest kept left x
    → ((told : List ℕ → Option (List Decl)) → TellsCubes told → next_from digest told size kept left ≡ Ok (Some x)) → length left ≤ most
    → ((told : List ℕ → Option (List Decl)) → TellsCubes told → rounds_from digest told size most kept left ≡ rounds_from digest told size size begun bytes)
    → ReadsOn digest size (kept_with kept x.0) begun (drop x.1 left) bytes
reads_more digest size zero kept begun left bytes x is next few same = absurd (omega (arith, is.within))
reads_more digest size (suc n) kept begun left bytes x is next few same = record {
  most = n;
  few = omega (arith, length-drop x.1 left, is.size, few);
  same = λ told tells. sym (rounds_step digest told size n kept left x (next told tells)) ∙ same told tells;
}

pub reads_on : (digest : List ℕ → List ℕ) (size : ℕ) (kept begun : Kept) (left bytes : List ℕ) (x : Round × ℕ) → IsNextRound digest kept left x
    → ((told : List ℕ → Option (List Decl)) → TellsCubes told → next_from digest told size kept left ≡ Ok (Some x)) → ReadsOn digest size kept begun left bytes
    → ReadsOn digest size (kept_with kept x.0) begun (drop x.1 left) bytes
reads_on digest size kept begun left bytes x is next on = reads_more digest size on.most kept begun left bytes x is next on.few on.same

-- One round more, as the loop takes it.
pub record IsFurther (digest : List ℕ → List ℕ) (size : ℕ) (begun : Kept) (bytes : List ℕ) (kept : Kept) (left : List ℕ) : Type 0 where
  pub size_is : length kept.rounds + length left ≤ size
  pub readable : IsReadable kept
  pub so_far : ReadsOn digest size kept begun left bytes

pub further : (digest : List ℕ → List ℕ) (size : ℕ) (kept begun after : Kept) (left bytes behind : List ℕ) (x : Round × ℕ) → IsNextRound digest kept left x
    → ((told : List ℕ → Option (List Decl)) → TellsCubes told → next_from digest told size kept left ≡ Ok (Some x)) → after ≡ kept_with kept x.0 → behind ≡ drop x.1 left
    → IsReadable kept → length kept.rounds + length left ≤ size → ReadsOn digest size kept begun left bytes → IsFurther digest size begun bytes after behind
further digest size kept begun after left bytes behind x is next after-is behind-is readable fits on =
    subst (λ (k : Kept). IsFurther digest size begun bytes k behind) (sym after-is)
    (subst (λ (b : List ℕ). IsFurther digest size begun bytes (kept_with kept x.0) b) (sym behind-is)
    (record {
      size_is = omega (arith, fits, length-append kept.rounds (x.0 ∷ []), length-drop x.1 left, is.size, is.within);
      readable = readable_more kept x.0 readable is.fits;
      so_far = reads_on digest size kept begun left bytes x is next on;
    }))

pub started : (digest : List ℕ → List ℕ) (size : ℕ) (begun : Kept) (bytes : List ℕ) → length bytes ≤ size → ReadsOn digest size begun begun bytes bytes
started digest size begun bytes fits = record { most = size; few = fits; same = λ told tells. refl }
