-- What holds of a reader: what it takes has a form, what has the form is read again, and what it decides hangs
-- on no symbol behind the first that it leaves.
use Rattle.std.proofs.Common.{◌≡◌, ℕ, List, [], ◌∷◌, ◌++◌, length, Option, Some, None, Ok, Err, refl, sym, ap, subst, ◌∙◌, append_assoc}
use Rattle.std.proofs.lemmas.List.{append-nil}
use Rattle.cube_language.specs.declared.symbol.Symbol.{Symbol}
use Rattle.sql_tree.specs.Reading.{Readout, ◌>>=◌, read_first}

-- Where a symbol is left, the answer is the same whatever stands behind it.
abbrev pub IsLocal : {A : Type 0} → (List Symbol → Readout A) → List Symbol → List Symbol → (List Symbol → Readout A) → Type 0
IsLocal read front rest answer = (next : Symbol) (behind other : List Symbol) → rest ≡ next ∷ behind → read (front ++ next ∷ other) ≡ answer (next ∷ other)

abbrev pub given : {A : Type 0} → A → List Symbol → Readout A
given x rest = Ok (x, rest)

abbrev pub stuck : {A : Type 0} → List Symbol → Readout A
stuck rest = Err (length rest)

-- The reader took a front that has the form of the value.
pub record Takes {A : Type 0} (read : List Symbol → Readout A) (Form : A → List Symbol → Type 0) (symbols : List Symbol) (x : A) (rest : List Symbol) : Type 0 where
  pub front : List Symbol
  pub whole : symbols ≡ front ++ rest
  pub form : Form x front
  pub local : IsLocal read front rest (given x)

-- The reader stopped behind a front that the form of some value begins with.
pub record StopsReading {A : Type 0} (read : List Symbol → Readout A) (Form : A → List Symbol → Type 0) (symbols : List Symbol) (left : ℕ) : Type 0 where
  pub front : List Symbol
  pub rest : List Symbol
  pub whole : symbols ≡ front ++ rest
  pub left_is : left ≡ length rest
  pub value : A
  pub more : List Symbol
  pub form : Form value (front ++ more)
  pub local : IsLocal read front rest stuck

abbrev pub Tells : {A : Type 0} → (List Symbol → Readout A) → (A → List Symbol → Type 0) → List Symbol → Readout A → Type 0
Tells read Form symbols (Ok x) = Takes read Form symbols x.0 x.1
Tells read Form symbols (Err left) = StopsReading read Form symbols left

pub record IsReader {A : Type 0} (read : List Symbol → Readout A) (Form : A → List Symbol → Type 0) (Ends : List Symbol → Type 0) : Type 0 where
  pub value : A
  pub example : List Symbol
  pub form : Form value example
  pub tells : (symbols : List Symbol) → Tells read Form symbols (read symbols)
  pub again : (x : A) (front rest : List Symbol) → Form x front → Ends rest → read (front ++ rest) ≡ given x rest

abbrev pub Always : List Symbol → Type 0
Always rest = Unit {0}

-- ---- another word for the form

pub takes_as : {A : Type 0} (read : List Symbol → Readout A) (F G : A → List Symbol → Type 0) (symbols : List Symbol) (r : Readout A) → ((x : A) (front : List Symbol) → F x front → G x front) → Tells read F symbols r → Tells read G symbols r
takes_as read F G symbols (Ok x) to t = record { front = t.front; whole = t.whole; form = to x.0 t.front t.form; local = t.local }
takes_as read F G symbols (Err left) to t = record {
  front = t.front;
  rest = t.rest;
  whole = t.whole;
  left_is = t.left_is;
  value = t.value;
  more = t.more;
  form = to t.value (t.front ++ t.more) t.form;
  local = t.local;
}

pub reader_as : {A : Type 0} (read : List Symbol → Readout A) (F G : A → List Symbol → Type 0) (E : List Symbol → Type 0) → ((x : A) (front : List Symbol) → F x front → G x front) → ((x : A) (front : List Symbol) → G x front → F x front)
    → IsReader read F E → IsReader read G E
reader_as read F G E to from r = record {
  value = r.value;
  example = r.example;
  form = to r.value r.example r.form;
  tells = λ symbols. takes_as read F G symbols (read symbols) to (r.tells symbols);
  again = λ x front rest g e. r.again x front rest (from x front g) e;
}

pub reader_ends : {A : Type 0} (read : List Symbol → Readout A) (F : A → List Symbol → Type 0) (D E : List Symbol → Type 0) → ((rest : List Symbol) → E rest → D rest) → IsReader read F D → IsReader read F E
reader_ends read F D E narrow r = record {
  value = r.value;
  example = r.example;
  form = r.form;
  tells = r.tells;
  again = λ x front rest f e. r.again x front rest f (narrow rest e);
}

-- ---- one reader behind another

abbrev pub sequence : {A B : Type 0} → (List Symbol → Readout A) → (A → List Symbol → Readout B) → List Symbol → Readout B
sequence p q symbols = p symbols >>= λ x. q x.0 x.1

pub record IsThen {A B : Type 0} (F : A → List Symbol → Type 0) (G : A → B → List Symbol → Type 0) (y : B) (symbols : List Symbol) : Type 0 where
  pub first : A
  pub front : List Symbol
  pub behind : List Symbol
  pub whole : symbols ≡ front ++ behind
  pub is_first : F first front
  pub is_rest : G first y behind

local_then : {A B : Type 0} (p : List Symbol → Readout A) (q : A → List Symbol → Readout B) (x : A) (front middle second rest : List Symbol) (answer : List Symbol → Readout B)
    → IsLocal p front middle (given x) → middle ≡ second ++ rest → IsLocal (q x) second rest answer → IsLocal (sequence p q) (front ++ second) rest answer
local_then p q x front middle [] rest answer one m two next behind other e =
    ap (sequence p q) (append_assoc front [] (next ∷ other)) ∙ ap (λ r. r >>= λ x. q x.0 x.1) (one next behind other (m ∙ e)) ∙ two next behind other e
local_then p q x front middle (z ∷ zs) rest answer one m two next behind other e =
    ap (sequence p q) (append_assoc front (z ∷ zs) (next ∷ other)) ∙ ap (λ r. r >>= λ x. q x.0 x.1) (one z (zs ++ rest) (zs ++ next ∷ other) m) ∙ two next behind other e

pub second_tells : {A B : Type 0} (p : List Symbol → Readout A) (q : A → List Symbol → Readout B) (F : A → List Symbol → Type 0) (G : A → B → List Symbol → Type 0) (symbols : List Symbol) (x : A) (middle : List Symbol) (r : Readout B)
    → Takes p F symbols x middle → Tells (q x) (G x) middle r → Tells (sequence p q) (IsThen F G) symbols r
second_tells p q F G symbols x middle (Ok y) one two = record {
  front = one.front ++ two.front;
  whole = one.whole ∙ ap (λ rest. one.front ++ rest) two.whole ∙ sym (append_assoc one.front two.front y.1);
  form = record { first = x; front = one.front; behind = two.front; whole = refl; is_first = one.form; is_rest = two.form };
  local = local_then p q x one.front middle two.front y.1 (given y.0) one.local two.whole two.local;
}
second_tells p q F G symbols x middle (Err left) one two = record {
  front = one.front ++ two.front;
  rest = two.rest;
  whole = one.whole ∙ ap (λ rest. one.front ++ rest) two.whole ∙ sym (append_assoc one.front two.front two.rest);
  left_is = two.left_is;
  value = two.value;
  more = two.more;
  form = record { first = x; front = one.front; behind = two.front ++ two.more; whole = append_assoc one.front two.front two.more; is_first = one.form; is_rest = two.form };
  local = local_then p q x one.front middle two.front two.rest stuck one.local two.whole two.local;
}

first_tells : {A B : Type 0} (p : List Symbol → Readout A) (q : A → List Symbol → Readout B) (F : A → List Symbol → Type 0) (G : A → B → List Symbol → Type 0) (E : List Symbol → Type 0) (symbols : List Symbol) (r : Readout A)
    → ((x : A) → IsReader (q x) (G x) E) → Tells p F symbols r → Tells (sequence p q) (IsThen F G) symbols (r >>= λ x. q x.0 x.1)
first_tells p q F G E symbols (Ok x) two one = second_tells p q F G symbols x.0 x.1 (q x.0 x.1) one ((two x.0).tells x.1)
first_tells p q F G E symbols (Err left) two one =
    let next = two one.value in
    record {
      front = one.front;
      rest = one.rest;
      whole = one.whole;
      left_is = one.left_is;
      value = next.value;
      more = one.more ++ next.example;
      form = record { first = one.value; front = one.front ++ one.more; behind = next.example; whole = sym (append_assoc one.front one.more next.example); is_first = one.form; is_rest = next.form };
      local = λ later behind other e. ap (λ r. r >>= λ x. q x.0 x.1) (one.local later behind other e);
    }

pub sequence_reader : {A B : Type 0} (p : List Symbol → Readout A) (q : A → List Symbol → Readout B) (F : A → List Symbol → Type 0) (G : A → B → List Symbol → Type 0) (D E : List Symbol → Type 0)
    → IsReader p F D → ((x : A) → IsReader (q x) (G x) E) → ((x : A) (y : B) (front rest : List Symbol) → G x y front → E rest → D (front ++ rest)) → IsReader (sequence p q) (IsThen F G) E
sequence_reader p q F G D E one two ends =
    let next = two one.value in
    record {
      value = next.value;
      example = one.example ++ next.example;
      form = record { first = one.value; front = one.example; behind = next.example; whole = refl; is_first = one.form; is_rest = next.form };
      tells = λ symbols. first_tells p q F G E symbols (p symbols) two (one.tells symbols);
      again = λ y front rest f e.
          ap (λ (symbols : List Symbol). sequence p q (symbols ++ rest)) f.whole ∙ ap (sequence p q) (append_assoc f.front f.behind rest)
          ∙ ap (λ r. r >>= λ x. q x.0 x.1) (one.again f.first f.front (f.behind ++ rest) f.is_first (ends f.first y f.behind rest f.is_rest e)) ∙ (two f.first).again y f.behind rest f.is_rest e;
    }

-- ---- nothing, and what is made of a value

pub done_reader : {A : Type 0} (x : A) → IsReader (given x) (λ y front. (y ≡ x) × (front ≡ [])) Always
done_reader x = record {
  value = x;
  example = [];
  form = (refl, refl);
  tells = λ symbols. record { front = []; whole = refl; form = (refl, refl); local = λ next behind other e. refl };
  again = λ y front rest f e. ap (λ (symbols : List Symbol). given x (symbols ++ rest)) f.1 ∙ ap (λ z. given z rest) (sym f.0);
}

pub record IsMade {A B : Type 0} (F : A → List Symbol → Type 0) (f : A → B) (y : B) (front : List Symbol) : Type 0 where
  pub value : A
  pub made : y ≡ f value
  pub form : F value front

-- What a reader gives, made into another value.
pub made_reader : {A B : Type 0} (p : List Symbol → Readout A) (f : A → B) (F : A → List Symbol → Type 0) (E : List Symbol → Type 0) → IsReader p F E → IsReader (sequence p (λ x. given (f x))) (IsMade F f) E
made_reader p f F E r =
    reader_as (sequence p (λ x. given (f x))) (IsThen F (λ x y front. (y ≡ f x) × (front ≡ []))) (IsMade F f) E
    (λ y front h. record {
      value = h.first;
      made = h.is_rest.0;
      form = subst (F h.first) (sym (h.whole ∙ ap (λ rest. h.front ++ rest) h.is_rest.1 ∙ append-nil h.front)) h.is_first;
    })
    (λ y front h. record { first = h.value; front = front; behind = []; whole = sym (append-nil front); is_first = h.form; is_rest = (h.made, refl) })
    (sequence_reader p (λ x. given (f x)) F (λ x y front. (y ≡ f x) × (front ≡ [])) E E r
    (λ x. reader_ends (given (f x)) (λ y front. (y ≡ f x) × (front ≡ [])) Always E (λ rest e. tt) (done_reader (f x)))
    (λ x y front rest g e. subst (λ (symbols : List Symbol). E (symbols ++ rest)) (sym g.1) e))

-- ---- one symbol

-- A value has this form, and is one that may stand there.
abbrev pub Formed : {A : Type 0} → (A → Type 0) → (A → List Symbol) → A → List Symbol → Type 0
Formed P form x front = P x × (front ≡ form x)

abbrev one : Symbol → List Symbol
one symbol = symbol ∷ []

-- Which symbols mean which values.
pub record Means {A : Type 0} (meaning : Symbol → Option A) (P : A → Type 0) (form : A → Symbol) : Type 0 where
  pub value : A
  pub is_value : P value
  pub tells : (symbol : Symbol) (x : A) → meaning symbol ≡ Some x → P x × (symbol ≡ form x)
  pub again : (x : A) → P x → meaning (form x) ≡ Some x

first_tells_one : {A : Type 0} (meaning : Symbol → Option A) (P : A → Type 0) (form : A → Symbol) (m : Means meaning P form) (symbol : Symbol) (symbols : List Symbol) (o : Option A) → meaning symbol ≡ o
    → Tells (read_first meaning) (Formed P (λ x. form x ∷ [])) (symbol ∷ symbols) (read_first meaning (symbol ∷ symbols))
first_tells_one meaning P form m symbol symbols (Some x) e =
    let is = m.tells symbol x e in
    rw e (record { front = symbol ∷ []; whole = refl; form = (is.0, ap one is.1); local = λ next behind other same. rw e refl })
first_tells_one meaning P form m symbol symbols None e =
    rw e (record {
      front = [];
      rest = symbol ∷ symbols;
      whole = refl;
      left_is = refl;
      value = m.value;
      more = form m.value ∷ [];
      form = (m.is_value, refl);
      local = λ next behind other same. let there : meaning next ≡ None = cc in rw there refl;
    })

first_tells_all : {A : Type 0} (meaning : Symbol → Option A) (P : A → Type 0) (form : A → Symbol) (m : Means meaning P form) (symbols : List Symbol)
    → Tells (read_first meaning) (Formed P (λ x. form x ∷ [])) symbols (read_first meaning symbols)
first_tells_all meaning P form m [] = record {
  front = [];
  rest = [];
  whole = refl;
  left_is = refl;
  value = m.value;
  more = form m.value ∷ [];
  form = (m.is_value, refl);
  local = λ next behind other same. absurd cc;
}
first_tells_all meaning P form m (symbol ∷ symbols) = first_tells_one meaning P form m symbol symbols (meaning symbol) refl

pub first_reader : {A : Type 0} (meaning : Symbol → Option A) (P : A → Type 0) (form : A → Symbol) → Means meaning P form → IsReader (read_first meaning) (Formed P (λ x. form x ∷ [])) Always
first_reader meaning P form m = record {
  value = m.value;
  example = form m.value ∷ [];
  form = (m.is_value, refl);
  tells = first_tells_all meaning P form m;
  again = λ x front rest f e. let there = m.again x f.0 in ap (λ (symbols : List Symbol). read_first meaning (symbols ++ rest)) f.1 ∙ rw there refl;
}

-- ---- one symbol, and what comes behind it

-- A symbol with a value, and what comes behind it.
abbrev pub IsLed : {A B : Type 0} → (A → Type 0) → (A → Symbol) → (A → B → List Symbol → Type 0) → B → List Symbol → Type 0
IsLed {A} P symbol G y front = (x : A) × P x × (rest : List Symbol) × (front ≡ symbol x ∷ rest) × G x y rest

pub led_reader : {A B : Type 0} (p : List Symbol → Readout A) (q : A → List Symbol → Readout B) (P : A → Type 0) (symbol : A → Symbol) (G : A → B → List Symbol → Type 0) (E : List Symbol → Type 0)
    → IsReader p (Formed P (λ x. symbol x ∷ [])) Always → ((x : A) → IsReader (q x) (G x) E) → IsReader (sequence p q) (IsLed P symbol G) E
led_reader p q P symbol G E one two =
    reader_as (sequence p q) (IsThen (Formed P (λ x. symbol x ∷ [])) G) (IsLed P symbol G) E
    (λ y front h. (h.first, h.is_first.0, h.behind, h.whole ∙ ap (λ f. f ++ h.behind) h.is_first.1, h.is_rest))
    (λ y front h. record { first = h.0; front = symbol h.0 ∷ []; behind = h.2; whole = h.3; is_first = (h.1, refl); is_rest = h.4 })
    (sequence_reader p q (Formed P (λ x. symbol x ∷ [])) G Always E one two (λ x y front rest g e. tt))
