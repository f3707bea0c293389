-- Lists of works, with what each has.
use Rattle.std.proofs.Common.{◌≡◌, ◌∙◌, ℕ, zero, suc, ◌+◌, ◌<◌, ◌≤◌, ◌↔◌, Bool, IsTrue, List, [], ◌∷◌, ◌++◌, length, map, slice_get, get_or, unwrap_or, remove, refl, sym, ap, arith, append_assoc}
use Rattle.std.specs.List.{AllByRecursion}

-- The first element is taken out.
pub first-out : {X : Type 0} (xs rest : List X) (x : X) → 0 < length xs → x ≡ get_or xs 0 x → rest ≡ remove xs 0
    → xs ≡ x ∷ rest
first-out [] rest x some is others = absurd (omega (arith, some))
first-out (y ∷ xs) rest x some is others = ap (λ z. z ∷ xs) (sym is) ∙ ap (λ r. x ∷ r) (sym others)

pub one-out : {X : Type 0} (xs rest : List X) (x : X) → xs ≡ x ∷ rest → length xs ≡ length rest + 1
one-out xs rest x is = let l = ap (λ (all : List _). length all) is in omega (arith, l)

pub length-mapped : {X Y : Type 0} (f : X → Y) (xs : List X) → length (map f xs) ≡ length xs
length-mapped f [] = refl
length-mapped f (x ∷ xs) = ap suc (length-mapped f xs)

pub mapped-twice : {X Y Z : Type 0} (f : X → Y) (g : Y → Z) (xs : List X) → map g (map f xs) ≡ map (λ x. g (f x)) xs
mapped-twice f g [] = refl
mapped-twice f g (x ∷ xs) = ap (λ r. g (f x) ∷ r) (mapped-twice f g xs)

-- What stands in a list of lists for a session, counted from 1.
pub mapped-session : {X Y : Type 0} (f : X → List Y) (xs : List X) (k : ℕ) (d : X) → k < length xs
    → unwrap_or (slice_get (map f xs) k) [] ≡ f (get_or xs k d)
mapped-session f [] k d lt = absurd (omega (arith, lt))
mapped-session f (x ∷ xs) zero d lt = refl
mapped-session f (x ∷ xs) (suc k) d lt = mapped-session f xs k d (omega (arith, lt))

pub mapped-place : {X Y : Type 0} (f : X → Y) (xs : List X) (k : ℕ) (d : X) (e : Y) → k < length xs
    → get_or (map f xs) k e ≡ f (get_or xs k d)
mapped-place f [] k d e lt = absurd (omega (arith, lt))
mapped-place f (x ∷ xs) zero d e lt = refl
mapped-place f (x ∷ xs) (suc k) d e lt = mapped-place f xs k d e (omega (arith, lt))

-- What stands in front of a rest, and behind the front.
pub in-front : {X Y : Type 0} (f : X → Y) (xs : List X) (rest : List Y) (k : ℕ) (d : Y) (e : X) → k < length xs
    → get_or (map f xs ++ rest) k d ≡ f (get_or xs k e)
in-front f [] rest k d e lt = absurd (omega (arith, lt))
in-front f (x ∷ xs) rest zero d e lt = refl
in-front f (x ∷ xs) rest (suc k) d e lt = in-front f xs rest k d e (omega (arith, lt))

pub behind-front : {Y : Type 0} (front other rest : List Y) (k : ℕ) (d : Y) → length front ≡ length other
    → length front ≤ k → get_or (front ++ rest) k d ≡ get_or (other ++ rest) k d
behind-front [] [] rest k d long le = refl
behind-front [] (y ∷ other) rest k d long le = absurd (omega (arith, long))
behind-front (x ∷ front) [] rest k d long le = absurd (omega (arith, long))
behind-front (x ∷ front) (y ∷ other) rest zero d long le = absurd (omega (arith, le))
behind-front (x ∷ front) (y ∷ other) rest (suc k) d long le =
    behind-front front other rest k d (omega (arith, long)) (omega (arith, le))

-- What holds of all holds at each place.
pub all-at : {X : Type 0} (P : X → Type 0) (xs : List X) (k : ℕ) (d : X) → AllByRecursion P xs → k < length xs
    → P (get_or xs k d)
all-at P [] k d all lt = absurd (omega (arith, lt))
all-at P (x ∷ xs) zero d all lt = all.0
all-at P (x ∷ xs) (suc k) d all lt = all-at P xs k d all.1 (omega (arith, lt))

pub all-behind : {X : Type 0} (P : X → Type 0) (xs : List X) (x : X) → AllByRecursion P xs → P x
    → AllByRecursion P (xs ++ x ∷ [])
all-behind P [] x all one = (one, tt)
all-behind P (y ∷ xs) x all one = (all.0, all-behind P xs x all.1 one)

-- One of those in front of a list goes to what is behind the others.
with-last : {X Y : Type 0} (f : X → Y) (xs : List X) (x : X) (ys : List Y)
    → map f (xs ++ x ∷ []) ++ ys ≡ map f xs ++ f x ∷ ys
with-last f [] x ys = refl
with-last f (z ∷ xs) x ys = ap (λ r. f z ∷ r) (with-last f xs x ys)

pub moved-on : {X Y : Type 0} (f : X → Y) (xs now : List X) (x : X) (front back all : List Y) → now ≡ xs ++ x ∷ []
    → front ≡ f x ∷ back → map f xs ++ front ≡ all → map f now ++ back ≡ all
moved-on f xs now x front back all now-is front-is so_far =
    ap (λ (n : List _). map f n ++ back) now-is
    ∙ with-last f xs x back
    ∙ ap (λ (r : List _). map f xs ++ r) (sym front-is)
    ∙ so_far

-- What one has that is taken out of a list is put behind what those had that were taken out before.
pub put-behind : {X Y : Type 0} (f : X → Y) (xs now : List Y) (y : Y) (left back : List X) (x : X) (all : List Y)
    → now ≡ xs ++ y ∷ [] → y ≡ f x → left ≡ x ∷ back → xs ++ map f left ≡ all → now ++ map f back ≡ all
put-behind f xs now y left back x all now-is is out so_far =
    ap (λ (n : List _). n ++ map f back) now-is
    ∙ append_assoc xs (y ∷ []) (map f back)
    ∙ ap (λ z. xs ++ z ∷ map f back) is
    ∙ ap (λ (l : List _). xs ++ map f l) (sym out)
    ∙ so_far

-- One more is taken out: all are whole where this one is, those before it were, and those behind it are.
pub whole-on : {X : Type 0} (P : X → Type 0) {A : Type 0} (whole now : Bool) (left back : List X) (x : X) → left ≡ x ∷ back
    → (IsTrue now → IsTrue whole × P x) → (IsTrue whole → P x → IsTrue now)
    → ((IsTrue whole × AllByRecursion P left) ↔ A) → (IsTrue now × AllByRecursion P back) ↔ A
whole-on P whole now left back x out tells told held = (
  λ h. let w = tells h.0 in held.0 (w.0, coe 1 0 (i. AllByRecursion P (out i)) (w.1, h.1)),
  λ a. let w = held.1 a in let all = coe 0 1 (i. AllByRecursion P (out i)) w.1 in (told w.0 all.0, all.1),
)

pub whole-last : {X : Type 0} (P : X → Type 0) {A : Type 0} (whole : Bool) (left : List X) → length left ≡ 0
    → ((IsTrue whole × AllByRecursion P left) ↔ A) → IsTrue whole ↔ A
whole-last P whole [] none held = (λ w. held.0 (w, tt), λ a. (held.1 a).0)
whole-last P whole (x ∷ left) none held = absurd (omega (arith, none))
