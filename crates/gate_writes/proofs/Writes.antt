-- Bytes that are written behind a gate that is shut.
use Rattle.std.proofs.Common.{◌≡◌, ℕ, zero, suc, ◌+◌, ◌≤◌, ◌<◌, ◌⊎◌, Bool, true, false, List, [], ◌∷◌, ◌++◌, length, take, drop, Option, Some, None, inl, inr, refl, sym, ap, subst, ◌∙◌, append_assoc, arith}
use Rattle.std.specs.Prelude.{◌==◌, ◌↔◌, IfSome, IsSome}
use Rattle.std.proofs.lemmas.Bool.{eqb-true, eq-eqb, cases_Bool}
use Rattle.std.proofs.lemmas.List.{take_at, drop_at, take-append-drop, length-append, length-drop, length-take-le}
use Rattle.cube_rounds.specs.Headers.{open_gate}
use Rattle.outside_disk.specs.Effects.{Torn, with_bytes}
use Rattle.outside_disk.specs.Views.{View, LeavesOnly, AnyMoment}
use Rattle.gate_writes.specs.Gates.{EndsShut, EndsOpen, Appending}
use Rattle.gate_writes.proofs.Moments.{LeavesOnly-joined, LeavesOnly-wider, moves_from}

-- A front with one byte more.
one_more : (front : List ℕ) (gate : ℕ) (rest : List ℕ) → front ++ gate ∷ rest ≡ (front ++ gate ∷ []) ++ rest
one_more front gate rest = sym (append_assoc front (gate ∷ []) rest)

-- A file that keeps what stands up to the gate.
kept_front : (front : List ℕ) (gate : ℕ) (rest file : List ℕ) (at : ℕ) → at ≡ length front + 1 → take at file ≡ take at (front ++ gate ∷ rest) → file ≡ front ++ gate ∷ drop at file
kept_front front gate rest file at is same =
    let long : length (front ++ gate ∷ []) ≡ at = omega (arith, length-append front (gate ∷ [])) in
    let begun : take at file ≡ front ++ gate ∷ [] = same ∙ ap (take at) (one_more front gate rest) ∙ take_at (front ++ gate ∷ []) rest at long in
    sym (take-append-drop at file) ∙ ap (λ (b : List ℕ). b ++ drop at file) begun ∙ sym (one_more front gate (drop at file))

pub torn_behind : (front bytes f : List ℕ) (end : ℕ) → length front ≡ end → EndsShut front f → (c : List ℕ) → Torn (end + 1) (length bytes) f c → Appending front bytes c
torn_behind front bytes f end is shut c torn =
    inl (record {
      gate = shut.gate;
      rest = drop (end + 1) c;
      shut = shut.shut;
      whole = kept_front front shut.gate shut.rest c (end + 1) (omega (arith, is)) (torn.before ∙ ap (take (end + 1)) shut.whole);
    })

-- The file with the bytes behind the gate.
pub record HasBehind (front bytes file : List ℕ) : Type 0 where
  pub shut : EndsShut front file
  pub rest : List ℕ
  pub whole : file ≡ front ++ shut.gate ∷ (bytes ++ rest)

pub written_behind : (front bytes f : List ℕ) (end : ℕ) → length front ≡ end → EndsShut front f → HasBehind front bytes (with_bytes (end + 1) bytes f)
written_behind front bytes f end is shut =
    let at = end + 1 in
    let rest = drop (at + length bytes) f in
    let long : length (front ++ shut.gate ∷ []) ≡ at = omega (arith, length-append front (shut.gate ∷ []), is) in
    let begun : take at f ≡ front ++ shut.gate ∷ [] = ap (take at) (shut.whole ∙ one_more front shut.gate shut.rest) ∙ take_at (front ++ shut.gate ∷ []) shut.rest at long in
    let whole : with_bytes at bytes f ≡ front ++ shut.gate ∷ (bytes ++ rest) =
    ap (λ (b : List ℕ). b ++ (bytes ++ rest)) begun ∙ sym (one_more front shut.gate (bytes ++ rest)) in
    record {
      shut = record { gate = shut.gate; rest = bytes ++ rest; shut = shut.shut; whole = whole };
      rest = rest;
      whole = whole;
    }

some_first : (xs : List ℕ) → 1 ≤ length xs → (x : ℕ) × (rest : List ℕ) × (xs ≡ x ∷ rest)
some_first [] some = absurd (omega arith)
some_first (x ∷ rest) some = (x, rest, refl)

plus_one : (n : ℕ) → suc n ≡ n + 1
plus_one n = omega arith

drop_one : (xs : List ℕ) (n x : ℕ) (more : List ℕ) → drop n xs ≡ x ∷ more → more ≡ drop (suc n) xs
drop_one [] zero x more e = absurd cc
drop_one [] (suc n) x more e = absurd cc
drop_one (y ∷ xs) zero x more e = ap (drop 1) (sym e)
drop_one (y ∷ xs) (suc n) x more e = drop_one xs n x more e

-- A file whose gate alone may have been written.
gate_between : (front behind file : List ℕ) (end : ℕ) → take end file ≡ front → drop (end + 1) file ≡ behind → end < length file → (gate : ℕ) × (file ≡ front ++ gate ∷ behind)
gate_between front behind file end begun rest long =
    let x = some_first (drop end file) (omega (arith, length-drop end file)) in
    let same : x.1 ≡ drop (end + 1) file = drop_one file end x.0 x.1 x.2 ∙ ap (λ (n : ℕ). drop n file) (plus_one end) in
    (x.0, sym (take-append-drop end file) ∙ (λ i. begun i ++ (x.2 ∙ ap (λ (b : List ℕ). x.0 ∷ b) (same ∙ rest)) i))

pub torn_gate : (front bytes f : List ℕ) (end : ℕ) → length front ≡ end → HasBehind front bytes f → (c : List ℕ) → Torn end 1 f c → Appending front bytes c
torn_gate front bytes f end is has c torn =
    let behind = bytes ++ has.rest in
    let gated = front ++ has.shut.gate ∷ [] in
    let whole : f ≡ gated ++ behind = has.whole ∙ one_more front has.shut.gate behind in
    let long : length gated ≡ end + 1 = omega (arith, length-append front (has.shut.gate ∷ []), is) in
    let begun : take end c ≡ front = torn.before ∙ ap (take end) has.whole ∙ take_at front (has.shut.gate ∷ behind) end is in
    let rest : drop (end + 1) c ≡ behind = torn.after ∙ ap (drop (end + 1)) whole ∙ drop_at gated behind (end + 1) long in
    let g = gate_between front behind c end begun rest (omega (arith, torn.no_shorter, ap length whole, length-append gated behind, long)) in
    elim (cases_Bool (g.0 == open_gate)) [
      | inl opened ↦ inr (record { rest = has.rest; whole = g.1 ∙ ap (λ (x : ℕ). front ++ x ∷ behind) (eqb-true g.0 open_gate opened) })
      | inr other ↦ inl (record { gate = g.0; rest = behind; shut = λ same. never_both (g.0 == open_gate) other (eq-eqb g.0 open_gate same); whole = g.1 })
    ]
  where
    never_both : (b : Bool) → b ≡ false → b ≡ true → ⊥
    never_both true e f = cc
    never_both false e f = cc

pub opened_gate : (front bytes f : List ℕ) (end : ℕ) → length front ≡ end → HasBehind front bytes f → EndsOpen front bytes (with_bytes end (open_gate ∷ []) f)
opened_gate front bytes f end is has =
    let behind = bytes ++ has.rest in
    let gated = front ++ has.shut.gate ∷ [] in
    let whole : f ≡ gated ++ behind = has.whole ∙ one_more front has.shut.gate behind in
    let long : length gated ≡ end + 1 = omega (arith, length-append front (has.shut.gate ∷ []), is) in
    let begun : take end f ≡ front = ap (take end) has.whole ∙ take_at front (has.shut.gate ∷ behind) end is in
    let rest : drop (end + 1) f ≡ behind = ap (drop (end + 1)) whole ∙ drop_at gated behind (end + 1) long in
    record { rest = has.rest; whole = (λ i. begun i ++ open_gate ∷ rest i) }

-- ---- over the two writes

pub appended_moves : (told : Option (List ℕ)) (front bytes : List ℕ) (end : ℕ) → length front ≡ end → (old mid new : View)
    → IfSome told (λ f. LeavesOnly old mid (Torn (end + 1) (length bytes) f)) → IfSome told (λ f. mid.told ≡ Some (with_bytes (end + 1) bytes f)) → AnyMoment (Torn end 1) mid new
    → IfSome told (λ f. EndsShut front f → LeavesOnly old new (Appending front bytes))
appended_moves None front bytes end is old mid new first wrote second = tt
appended_moves (Some f) front bytes end is old mid new first wrote second = λ shut.
    let mid-file = with_bytes (end + 1) bytes f in
    let has = written_behind front bytes f end is shut in
    LeavesOnly-joined old mid new (Appending front bytes)
    (LeavesOnly-wider old mid (Torn (end + 1) (length bytes) f) (Appending front bytes) (torn_behind front bytes f end is shut) first)
    (LeavesOnly-wider mid new (Torn end 1 mid-file) (Appending front bytes) (torn_gate front bytes mid-file end is has) (moves_from (Torn end 1) mid new mid-file wrote second))

pub begun_moves : (told : Option (List ℕ)) (front bytes : List ℕ) (end : ℕ) → length front ≡ end → (old new : View)
    → IfSome told (λ f. LeavesOnly old new (Torn (end + 1) (length bytes) f)) → IfSome told (λ f. EndsShut front f → LeavesOnly old new (Appending front bytes))
begun_moves None front bytes end is old new first = tt
begun_moves (Some f) front bytes end is old new first = λ shut.
    LeavesOnly-wider old new (Torn (end + 1) (length bytes) f) (Appending front bytes) (torn_behind front bytes f end is shut) first

pub appended_file : (told new : Option (List ℕ)) (front bytes : List ℕ) (end : ℕ) → length front ≡ end → (mid : Option (List ℕ))
    → IfSome told (λ f. mid ≡ Some (with_bytes (end + 1) bytes f)) → IfSome mid (λ m. new ≡ Some (with_bytes end (open_gate ∷ []) m))
    → IfSome told (λ f. EndsShut front f → IfSome new (EndsOpen front bytes))
appended_file None new front bytes end is mid wrote opened = tt
appended_file (Some f) new front bytes end is mid wrote opened = λ shut.
    let mid-file = with_bytes (end + 1) bytes f in
    let new-is : new ≡ Some (with_bytes end (open_gate ∷ []) mid-file) = subst (λ (o : Option (List ℕ)). IfSome o (λ m. new ≡ Some (with_bytes end (open_gate ∷ []) m))) wrote opened in
    subst (λ (o : Option (List ℕ)). IfSome o (EndsOpen front bytes)) (sym new-is) (opened_gate front bytes mid-file end is (written_behind front bytes f end is shut))

-- ---- places

pub next_place : (told : Option (List ℕ)) (end : ℕ) → IfSome told (λ f. end < length f) → IfSome told (λ f. end + 1 ≤ length f)
next_place None end within = tt
next_place (Some f) end within = omega (arith, within)

pub place_stays : (told mid : Option (List ℕ)) (end : ℕ) (bytes : List ℕ) → IfSome told (λ f. end < length f) → IfSome told (λ f. mid ≡ Some (with_bytes (end + 1) bytes f))
    → (IsSome told ↔ IsSome mid) → IfSome mid (λ m. end ≤ length m)
place_stays None None end bytes within wrote tells = tt
place_stays None (Some m) end bytes within wrote tells = let told = tells.1 refl in absurd cc
place_stays (Some f) mid end bytes within wrote tells =
    let long = length-take-le (end + 1) f (omega (arith, within)) in
    subst (λ (o : Option (List ℕ)). IfSome o (λ m. end ≤ length m)) (sym wrote)
    (omega (arith, long, length-append (take (end + 1) f) (bytes ++ drop (end + 1 + length bytes) f)))
