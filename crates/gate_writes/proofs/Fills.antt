-- A file that is filled behind its first gate.
use Rattle.std.proofs.Common.{◌≡◌, ◌≢◌, ℕ, ◌+◌, ◌≤◌, ◌⊎◌, Bool, true, false, not, List, [], ◌∷◌, ◌++◌, length, take, drop, get_or, Option, Some, None, inl, inr, refl, sym, ap, subst, ◌∙◌, arith}
use Rattle.std.specs.Prelude.{◌==◌, ◌↔◌, IfSome, IsSome}
use Rattle.std.proofs.lemmas.Bool.{eqb-true, eq-eqb, cases_Bool}
use Rattle.cube_rounds.specs.Headers.{open_gate, shut_gate}
use Rattle.cube_rounds.specs.Stands.{IsClosed}
use Rattle.outside_disk.specs.Effects.{Torn, AnyFrom, with_bytes}
use Rattle.outside_disk.specs.Views.{View, LeavesOnly, AnyMoment}
use Rattle.gate_writes.specs.Gates.{has_shut_gate, Filling, HasAnyFront, with_shut_front, Replacing}
use Rattle.gate_writes.proofs.Moments.{LeavesOnly-joined, LeavesOnly-wider, moves_from}

pub closed_by_gate : (gate : ℕ) (rest : List ℕ) → gate ≢ open_gate → IsClosed (gate ∷ rest)
closed_by_gate gate rest shut = inr (λ same. shut (ap (λ (l : List ℕ). get_or l 0 0) same))

never_both : (b : Bool) → b ≡ false → b ≡ true → ⊥
never_both true e f = cc
never_both false e f = cc

other_gate : (gate : ℕ) → not (gate == open_gate) ≡ true → gate ≢ open_gate
other_gate gate e = λ same. never_both (not (gate == open_gate)) (ap not (eq-eqb gate open_gate same)) e

-- A file with a gate that is shut.
pub record IsGated (file : List ℕ) : Type 0 where
  pub gate : ℕ
  pub rest : List ℕ
  pub shut : gate ≢ open_gate
  pub whole : file ≡ gate ∷ rest

pub gated : (file : List ℕ) → has_shut_gate file ≡ true → IsGated file
gated [] e = absurd cc
gated (gate ∷ rest) e = record { gate = gate; rest = rest; shut = other_gate gate e; whole = refl }

pub shut_is_long : (told : Option (List ℕ)) → IfSome told (λ f. has_shut_gate f ≡ true) → IfSome told (λ f. 1 ≤ length f)
shut_is_long None shut = tt
shut_is_long (Some f) shut = let g = gated f shut in omega (arith, ap length g.whole)

-- A place 0 lies in every file.
pub from_the_start : (told : Option (List ℕ)) → IfSome told (λ f. 0 ≤ length f)
from_the_start None = tt
from_the_start (Some f) = omega arith

first_kept : (gate : ℕ) (rest c : List ℕ) → take 1 c ≡ take 1 (gate ∷ rest) → c ≡ gate ∷ drop 1 c
first_kept gate rest [] e = absurd (omega (arith, ap length e))
first_kept gate rest (x ∷ c) e = ap (λ (y : ℕ). y ∷ c) (ap (λ (l : List ℕ). get_or l 0 0) e)

any_from_closed : (f bytes : List ℕ) → IsGated f → (c : List ℕ) → AnyFrom 1 (length bytes) f c → Filling bytes c
any_from_closed f bytes g c any =
    let whole : c ≡ g.gate ∷ drop 1 c = first_kept g.gate g.rest c (any.before ∙ ap (take 1) g.whole) in
    inl (subst IsClosed (sym whole) (closed_by_gate g.gate (drop 1 c) g.shut))

first_any : (bytes c : List ℕ) → 1 ≤ length c → drop 1 c ≡ bytes → (gate : ℕ) × (c ≡ gate ∷ bytes)
first_any bytes [] some e = absurd (omega arith)
first_any bytes (x ∷ c) some e = (x, ap (λ (b : List ℕ). x ∷ b) e)

torn_first : (gate : ℕ) (bytes c : List ℕ) → Torn 0 1 (gate ∷ bytes) c → Filling bytes c
torn_first gate bytes c torn =
    let x = first_any bytes c (omega (arith, torn.no_shorter)) torn.after in
    elim (cases_Bool (x.0 == open_gate)) [
      | inl opened ↦ inr (x.1 ∙ ap (λ (y : ℕ). y ∷ bytes) (eqb-true x.0 open_gate opened))
      | inr other ↦ inl (subst IsClosed (sym x.1) (closed_by_gate x.0 bytes (λ same. never_both (x.0 == open_gate) other (eq-eqb x.0 open_gate same))))
    ]

pub replaced : (f bytes : List ℕ) (g : IsGated f) → take 1 f ++ bytes ≡ g.gate ∷ bytes
replaced f bytes g = ap (λ (b : List ℕ). take 1 b ++ bytes) g.whole

-- ---- over the calls

pub filling_begun : (told : Option (List ℕ)) (bytes : List ℕ) (old new : View) → IfSome told (λ f. has_shut_gate f ≡ true) → IfSome told (λ f. LeavesOnly old new (AnyFrom 1 (length bytes) f))
    → IfSome told (λ f. LeavesOnly old new (Filling bytes))
filling_begun None bytes old new shut moves = tt
filling_begun (Some f) bytes old new shut moves = LeavesOnly-wider old new (AnyFrom 1 (length bytes) f) (Filling bytes) (any_from_closed f bytes (gated f shut)) moves

pub filling_moves : (told : Option (List ℕ)) (bytes : List ℕ) (old mid new : View) → IfSome told (λ f. has_shut_gate f ≡ true) → IfSome told (λ f. LeavesOnly old mid (AnyFrom 1 (length bytes) f))
    → IfSome told (λ f. mid.told ≡ Some (take 1 f ++ bytes)) → AnyMoment (Torn 0 1) mid new → IfSome told (λ f. LeavesOnly old new (Filling bytes))
filling_moves None bytes old mid new shut first wrote second = tt
filling_moves (Some f) bytes old mid new shut first wrote second =
    let g = gated f shut in
    let is : mid.told ≡ Some (g.gate ∷ bytes) = wrote ∙ ap Some (replaced f bytes g) in
    LeavesOnly-joined old mid new (Filling bytes)
    (LeavesOnly-wider old mid (AnyFrom 1 (length bytes) f) (Filling bytes) (any_from_closed f bytes g) first)
    (LeavesOnly-wider mid new (Torn 0 1 (g.gate ∷ bytes)) (Filling bytes) (torn_first g.gate bytes) (moves_from (Torn 0 1) mid new (g.gate ∷ bytes) is second))

pub filled_file : (told mid new : Option (List ℕ)) (bytes : List ℕ) → IfSome told (λ f. has_shut_gate f ≡ true) → IfSome told (λ f. mid ≡ Some (take 1 f ++ bytes))
    → IfSome mid (λ m. new ≡ Some (with_bytes 0 (open_gate ∷ []) m)) → IfSome told (λ f. new ≡ Some (open_gate ∷ bytes))
filled_file None mid new bytes shut wrote opened = tt
filled_file (Some f) mid new bytes shut wrote opened =
    let g = gated f shut in
    subst (λ (o : Option (List ℕ)). IfSome o (λ m. new ≡ Some (with_bytes 0 (open_gate ∷ []) m))) (wrote ∙ ap Some (replaced f bytes g)) opened

pub any_front : (f c : List ℕ) → Torn 0 1 f c → HasAnyFront f c
any_front f c torn = record { long = torn.no_shorter; rest = torn.after }

pub shutting_moves : (told : Option (List ℕ)) (old new : View) → IfSome told (λ f. LeavesOnly old new (Torn 0 1 f)) → IfSome told (λ f. LeavesOnly old new (HasAnyFront f))
shutting_moves None old new moves = tt
shutting_moves (Some f) old new moves = LeavesOnly-wider old new (Torn 0 1 f) (HasAnyFront f) (any_front f) moves

-- ---- a file that is replaced

shown : (b : Bool) → not b ≡ false → b ≡ true
shown true e = refl
shown false e = absurd cc

short_closed : (c : List ℕ) → drop 1 c ≡ [] → IsClosed c
short_closed [] e = inl (omega arith)
short_closed (x ∷ c) e = inl (omega (arith, ap length e))

-- A file without a gate that is shut has an open one or is empty; with any byte at its front it is as before or closed.
pub any_front_behind : (other c : List ℕ) → has_shut_gate other ≡ false → HasAnyFront other c → (c ≡ other) ⊎ IsClosed c
any_front_behind [] c gate any = inr (short_closed c any.rest)
any_front_behind (x ∷ rest) [] gate any = absurd (omega (arith, any.long))
any_front_behind (x ∷ rest) (y ∷ c) gate any =
    let opened : x ≡ open_gate = eqb-true x open_gate (shown (x == open_gate) gate) in
    elim (cases_Bool (y == open_gate)) [
      | inl same ↦ inl (λ i. (eqb-true y open_gate same ∙ sym opened) i ∷ any.rest i)
      | inr differs ↦ inr (closed_by_gate y c (λ e. never_both (y == open_gate) differs (eq-eqb y open_gate e)))
    ]

replacing_begun : (f bytes c : List ℕ) → has_shut_gate f ≡ false → HasAnyFront f c → Replacing f bytes c
replacing_begun f bytes c gate any =
    elim (any_front_behind f c gate any) [
      | inl same ↦ inl same
      | inr closed ↦ inr (inl closed)
    ]

pub shut_after : (told mid : Option (List ℕ)) → IfSome told (λ f. mid ≡ Some (with_shut_front f)) → (IsSome told ↔ IsSome mid) → IfSome mid (λ m. has_shut_gate m ≡ true)
shut_after None None wrote tells = tt
shut_after None (Some m) wrote tells = let told = tells.1 refl in absurd cc
shut_after (Some f) mid wrote tells = subst (λ (o : Option (List ℕ)). IfSome o (λ m. has_shut_gate m ≡ true)) (sym wrote) refl

pub replacing_at_once : (told : Option (List ℕ)) (bytes : List ℕ) (old new : View) → IfSome told (λ f. LeavesOnly old new (Filling bytes)) → IfSome told (λ f. LeavesOnly old new (Replacing f bytes))
replacing_at_once None bytes old new moves = tt
replacing_at_once (Some f) bytes old new moves = LeavesOnly-wider old new (Filling bytes) (Replacing f bytes) (λ c fills. inr fills) moves

pub replacing_started : (told : Option (List ℕ)) (bytes : List ℕ) (old new : View) → IfSome told (λ f. has_shut_gate f ≡ false) → IfSome told (λ f. LeavesOnly old new (HasAnyFront f)) → IfSome told (λ f. LeavesOnly old new (Replacing f bytes))
replacing_started None bytes old new gate moves = tt
replacing_started (Some f) bytes old new gate moves = LeavesOnly-wider old new (HasAnyFront f) (Replacing f bytes) (λ c any. replacing_begun f bytes c gate any) moves

pub replacing_moves : (told : Option (List ℕ)) (bytes : List ℕ) (old mid new : View) → IfSome told (λ f. has_shut_gate f ≡ false) → IfSome told (λ f. LeavesOnly old mid (HasAnyFront f))
    → IfSome told (λ f. mid.told ≡ Some (with_shut_front f)) → IfSome mid.told (λ m. LeavesOnly mid new (Filling bytes)) → IfSome told (λ f. LeavesOnly old new (Replacing f bytes))
replacing_moves None bytes old mid new gate first wrote second = tt
replacing_moves (Some f) bytes old mid new gate first wrote second =
    LeavesOnly-joined old mid new (Replacing f bytes)
    (LeavesOnly-wider old mid (HasAnyFront f) (Replacing f bytes) (λ c any. replacing_begun f bytes c gate any) first)
    (LeavesOnly-wider mid new (Filling bytes) (Replacing f bytes) (λ c fills. inr fills) (subst (λ (o : Option (List ℕ)). IfSome o (λ m. LeavesOnly mid new (Filling bytes))) wrote second))

pub replaced_file : (told mid new : Option (List ℕ)) (bytes : List ℕ) → IfSome told (λ f. mid ≡ Some (with_shut_front f)) → IfSome mid (λ m. new ≡ Some (open_gate ∷ bytes)) → IfSome told (λ f. new ≡ Some (open_gate ∷ bytes))
replaced_file None mid new bytes wrote filled = tt
replaced_file (Some f) mid new bytes wrote filled = subst (λ (o : Option (List ℕ)). IfSome o (λ m. new ≡ Some (open_gate ∷ bytes))) wrote filled
