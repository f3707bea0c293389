-- The places of texts among the names of a dictionary, which holds them in another form.
use Rattle.std.proofs.Common.{◌≡◌, ℕ, ◌+◌, ◌<◌, ◌≤◌, Bool, false, cond, not, List, [], ◌∷◌, ◌++◌, length, map, Option, Some, None, Result, Ok, Err, OnErr, nat_lt, refl, sym, ap, ◌∙◌, arith}
use Rattle.std.specs.List.{AllByRecursion, IsDistinct, position, position_or_len, list_any}
use Rattle.std.specs.Option.{option_map_or}
use Rattle.std.specs.Str.{bytes_eq}
use Rattle.std.proofs.lemmas.Bool.{lt-ltb, le-ltb}
use Rattle.std.proofs.lemmas.List.{length-map, map_push}
use Rattle.names_dict.specs.declared.code.Code.TheVariants.{Known, Added, Full}
use Rattle.names_dict.specs.Dictionaries.{Dictionary, IsSoundDictionary, number_of, code_of}

place-map : {X Y : Type 0} (f : X → Y) (p : Y → Bool) (xs : List X) → position_or_len p (map f xs) ≡ position_or_len (λ x. p (f x)) xs
place-map f p [] = refl
place-map f p (x ∷ xs) = ap (λ n. cond (not (p (f x))) (1 + n) 0) (place-map f p xs)

position-map : {X Y : Type 0} (f : X → Y) (p : Y → Bool) (xs : List X) → position p (map f xs) ≡ position (λ x. p (f x)) xs
position-map f p xs = λ i. cond (nat_lt (place-map f p xs i) (length-map xs f i)) (Some (place-map f p xs i)) None

any-map : {X Y : Type 0} (f : X → Y) (P : Y → Type 0) (xs : List X) → AllByRecursion (λ x. P (f x)) xs → AllByRecursion P (map f xs)
any-map f P [] h = h
any-map f P (x ∷ xs) h = (h.0, any-map f P xs h.1)

distinct-map : {X Y : Type 0} (f : X → Y) (e : Y → Y → Bool) (xs : List X) → IsDistinct (λ x y. e (f x) (f y)) xs → IsDistinct e (map f xs)
unfolding IsDistinct
distinct-map f e [] h = h
distinct-map f e (x ∷ xs) h = (any-map f (λ y. e (f x) y ≡ false) xs h.0, distinct-map f e xs h.1)

-- the dictionary of names that are held in another form
abbrev pub seen : {X : Type 0} → (X → List ℕ) → ℕ → List X → Dictionary
seen f cardinality keys = record { cardinality = cardinality; names = map f keys }

pub number_is : {X : Type 0} (f : X → List ℕ) (cardinality : ℕ) (keys : List X) (name : List ℕ) (d : Dictionary) (r : Option ℕ) → seen f cardinality keys ≡ d
    → r ≡ position (λ k. bytes_eq name (f k)) keys → r ≡ number_of d name
number_is f cardinality keys name d r v h = h ∙ sym (position-map f (bytes_eq name) keys) ∙ ap (λ (e : Dictionary). number_of e name) v

pub known_code : (d : Dictionary) (name : List ℕ) (n : ℕ) → Some n ≡ number_of d name → Known n ≡ code_of d name
known_code d name n h = ap (λ o. option_map_or Known o (cond (nat_lt (length d.names) d.cardinality) (Added (length d.names)) Full)) h

pub added_code : (d : Dictionary) (name : List ℕ) (n : ℕ) → None ≡ number_of d name → n ≡ length d.names → n < d.cardinality → Added n ≡ code_of d name
added_code d name n h e l =
    ap Added e ∙ sym (ap (λ b. cond b (Added (length d.names)) Full) (lt-ltb (length d.names) d.cardinality (omega arith)))
    ∙ ap (λ o. option_map_or Known o (cond (nat_lt (length d.names) d.cardinality) (Added (length d.names)) Full)) h

pub full_code : (d : Dictionary) (name : List ℕ) → None ≡ number_of d name → d.cardinality ≤ length d.names → Full ≡ code_of d name
full_code d name h l =
    sym (ap (λ b. cond b (Added (length d.names)) Full) (le-ltb (length d.names) d.cardinality l))
    ∙ ap (λ o. option_map_or Known o (cond (nat_lt (length d.names) d.cardinality) (Added (length d.names)) Full)) h

-- how many names there are
pub length_is : {X : Type 0} (f : X → List ℕ) (cardinality : ℕ) (keys : List X) (d : Dictionary) → seen f cardinality keys ≡ d → (length keys ≡ length d.names) × (cardinality ≡ d.cardinality)
length_is f cardinality keys d v = (sym (length-map keys f) ∙ ap (λ (e : Dictionary). length e.names) v, ap (λ (e : Dictionary). e.cardinality) v)

pub sound_is : {X : Type 0} (f : X → List ℕ) (cardinality : ℕ) (keys : List X) (d : Dictionary) → seen f cardinality keys ≡ d
    → IsDistinct (λ x y. bytes_eq (f x) (f y)) keys → length keys ≤ cardinality → IsSoundDictionary d
sound_is f cardinality keys d v u l =
    coe 0 1 (i. IsSoundDictionary (v i)) (record { distinct = distinct-map f bytes_eq keys u; fits = let e = length-map keys f in omega arith })

-- a name that no key is goes last
pub names_after : {X : Type 0} (f : X → List ℕ) (cardinality : ℕ) (keys new : List X) (owned : X) (name : List ℕ) (d : Dictionary) → seen f cardinality keys ≡ d
    → f owned ≡ name → list_any (λ k. bytes_eq name (f k)) keys ≡ false → new ≡ cond (list_any (λ k. bytes_eq (f owned) (f k)) keys) keys (keys ++ owned ∷ [])
    → seen f cardinality new ≡ record { cardinality = d.cardinality; names = d.names ++ name ∷ [] }
names_after f cardinality keys new owned name d v e none n =
    let a : list_any (λ k. bytes_eq (f owned) (f k)) keys ≡ false = ap (λ m. list_any (λ k. bytes_eq m (f k)) keys) e ∙ none in
    let k : new ≡ keys ++ owned ∷ [] = n ∙ ap (λ b. cond b keys (keys ++ owned ∷ [])) a in
    let m : map f new ≡ map f keys ++ name ∷ [] = ap (map f) k ∙ map_push f keys owned ∙ ap (λ x. map f keys ++ x ∷ []) e in
    (λ i. record { cardinality = cardinality; names = m i }) ∙ (λ i. record { cardinality = (v i).cardinality; names = (v i).names ++ name ∷ [] })

pub at_any_err : {T E : Type 0} (r : Result T E) (P : Type 0) → P → OnErr r P
at_any_err (Ok x) P p = tt
at_any_err (Err e) P p = p
