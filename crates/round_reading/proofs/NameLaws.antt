-- New names are read as they are spelled.
use Rattle.std.proofs.Common.{◌≡◌, ℕ, suc, ◌+◌, ◌^◌, ◌<◌, ◌≤◌, Bool, true, false, cond, ltb, not, ◌&&◌, ◌||◌, List, [], ◌∷◌, ◌++◌, length, take, drop, Option, Some, None, Ok, IsTrue, IsUtf8, refl, sym, ap, subst, ◌∙◌, append_assoc, arith}
use Rattle.std.specs.Prelude.{nat_le}
use Rattle.std.specs.List.{flat_map, AllByRecursion, list_any}
use Rattle.std.specs.Str.{bytes_eq, is_utf8}
use Rattle.std.proofs.lemmas.Bool.{ltb-false, le-ltb, leb-true, le-leb}
use Rattle.std.proofs.lemmas.List.{take_at, drop_at, take-append-drop, length-append, length-take, append-nil}
use Rattle.std.proofs.lemmas.List.Folds.{list_any-append}
use Rattle.std.proofs.lemmas.Str.{IsUtf8-from_is_utf8, is_utf8-from_IsUtf8}
use Rattle.cube_language.specs.Cubes.{repeated_after}
use Rattle.cube_rounds.specs.Bytes.{eight_bytes, counted_bytes, name_bytes}
use Rattle.cube_rounds.specs.Demands.{AreNewNames}
use Rattle.round_fields.specs.Reading.{with_test, list_with, repeat_step, eight_from, short_from}
use Rattle.round_reading.specs.Payload.{is_new_name, name_from, name_step, names_from}
use Rattle.round_fields.proofs.FieldLaws.{IsBytes, IsBytes-rest, IsBytes-drop, not_failed, bind_ok, Takes, Takes-then, Reads, reads_eight}
use Rattle.round_reading.proofs.Sequences.{reads_passing, reads_as, reads_putting, steps_take, steps_again, shorter, all_put, EachFits, ReadsStep}
use Rattle.round_reading.proofs.RowLaws.{is_true, as_true}

short_takes : (bytes name rest : List ℕ) → IsBytes bytes → short_from bytes ≡ Ok (name, rest) → Takes bytes (name_bytes name) rest × (length name < 2 ^ 8)
unfolding short_from
short_takes [] name rest fits e = absurd cc
short_takes (size ∷ bytes) name rest fits e =
    let g = not_failed (ltb (length bytes) size) (suc (length bytes)) (take size bytes, drop size bytes) (name, rest) e in
    let long : size ≤ length bytes = ltb-false _ _ g.0 in
    let name-is : take size bytes ≡ name = ap (λ (p : List ℕ × List ℕ). p.0) g.1 in
    let rest-is : drop size bytes ≡ rest = ap (λ (p : List ℕ × List ℕ). p.1) g.1 in
    let len : size ≡ length name = omega (arith, length-take size bytes, ap length name-is) in (
      record {
        parts = (λ i. len i ∷ (sym (take-append-drop size bytes) ∙ (λ j. name-is j ++ rest-is j)) i);
        rest_fits = subst IsBytes rest-is (IsBytes-drop size bytes (IsBytes-rest size bytes fits));
      },
      omega (arith, len, fits 0),
    )

short_again : (name rest : List ℕ) → short_from (name_bytes name ++ rest) ≡ Ok (name, rest)
unfolding short_from
short_again name rest =
    let long : ltb (length (name ++ rest)) (length name) ≡ false = le-ltb _ _ (omega (arith, length-append name rest)) in
    rw (long, take_at name rest (length name) refl, drop_at name rest (length name) refl) refl

reads_short : Reads name_bytes (λ name. length name < 2 ^ 8) short_from
reads_short = record { takes = short_takes; again = λ name rest fit short. short_again name rest }

-- A name that may come behind these.
pub record IsNewName (names : List (List ℕ)) (name : List ℕ) : Type 0 where
  pub utf8 : IsUtf8 name
  pub short : length name < 2 ^ 8
  pub new : list_any (bytes_eq name) names ≡ false

pub both_true : (a b : Bool) → (a && b) ≡ true → (a ≡ true) × (b ≡ true)
both_true true b e = (refl, e)
both_true false b e = absurd cc

pub not_true : (b : Bool) → not b ≡ true → b ≡ false
not_true true e = absurd cc
not_true false e = refl

reads_name : (names : List (List ℕ)) → Reads name_bytes (IsNewName names) (name_from names)
reads_name names =
    reads_as name_bytes (λ name. (length name < 2 ^ 8) × IsTrue (is_new_name names name)) (IsNewName names) (name_from names)
    (λ name h.
    let b = both_true (is_utf8 name) (not (list_any (bytes_eq name) names)) (is_true (is_new_name names name) h.1) in
    record { utf8 = IsUtf8-from_is_utf8 name b.0; short = h.0; new = not_true (list_any (bytes_eq name) names) b.1 })
    (λ name h. (h.short, rw (is_utf8-from_IsUtf8 name h.utf8, h.new) refl))
    (reads_passing name_bytes (λ name. length name < 2 ^ 8) short_from (is_new_name names) reads_short)

name_steps : (earlier : List (List ℕ)) → ReadsStep list_with name_bytes (λ s. IsNewName (earlier ++ s)) (name_step earlier)
name_steps earlier = reads_putting list_with name_bytes (λ s. IsNewName (earlier ++ s)) (λ before. name_from (earlier ++ before)) (λ s. reads_name (earlier ++ s))

-- Items put one after the other are a list.
pub all_listed : {A : Type 0} (s items : List A) → all_put list_with s items ≡ s ++ items
all_listed s [] = sym (append-nil s)
all_listed s (x ∷ items) = all_listed (s ++ x ∷ []) items ∙ append_assoc s (x ∷ []) items

-- Two lists have the same names.
abbrev SameNames : List (List ℕ) → List (List ℕ) → Type 0
SameNames a b = (name : List ℕ) → list_any (bytes_eq name) a ≡ list_any (bytes_eq name) b

or_last : (a b : Bool) → (a || b) ≡ (b || (a || false))
or_last true true = refl
or_last true false = refl
or_last false true = refl
or_last false false = refl

same_more : (a b : List (List ℕ)) (x : List ℕ) → SameNames a b → SameNames (x ∷ a) (b ++ x ∷ [])
same_more a b x same name =
    ap (λ t. bytes_eq name x || t) (same name)
    ∙ or_last (bytes_eq name x) (list_any (bytes_eq name) b)
    ∙ sym (list_any-append (bytes_eq name) b (x ∷ []))

regrouped : (earlier s : List (List ℕ)) (x : List ℕ) → (earlier ++ s) ++ x ∷ [] ≡ earlier ++ (s ++ x ∷ [])
regrouped earlier s x = append_assoc earlier s (x ∷ [])

-- Names that are each new behind those before them.
names_apart : (known earlier s names : List (List ℕ)) → SameNames known (earlier ++ s) → EachFits list_with (λ s. IsNewName (earlier ++ s)) s names → repeated_after known names ≡ None
names_apart known earlier s [] same fit = refl
names_apart known earlier s (x ∷ names) same fit =
    let new : list_any (bytes_eq x) known ≡ false = same x ∙ fit.0.new in
    rw new (names_apart (x ∷ known) earlier (s ++ x ∷ []) names (subst (SameNames (x ∷ known)) (regrouped earlier s x) (same_more known (earlier ++ s) x same)) fit.1)

not_repeated : (b : Bool) (x : List ℕ) (r : Option (List ℕ)) → cond b (Some x) r ≡ None → (b ≡ false) × (r ≡ None)
not_repeated true x r e = absurd cc
not_repeated false x r e = (refl, e)

names_fit : (known earlier s names : List (List ℕ)) → SameNames known (earlier ++ s) → repeated_after known names ≡ None → AllByRecursion IsUtf8 names → AllByRecursion (λ name. length name < 2 ^ 8) names
    → EachFits list_with (λ s. IsNewName (earlier ++ s)) s names
names_fit known earlier s [] same apart utf8 short = tt
names_fit known earlier s (x ∷ names) same apart utf8 short =
    let a = not_repeated (list_any (bytes_eq x) known) x (repeated_after (x ∷ known) names) apart in (
      record { utf8 = utf8.0; short = short.0; new = sym (same x) ∙ a.0 },
      names_fit (x ∷ known) earlier (s ++ x ∷ []) names (subst (SameNames (x ∷ known)) (regrouped earlier s x) (same_more known (earlier ++ s) x same)) a.1 utf8.1 short.1,
    )

names_utf8 : (earlier s names : List (List ℕ)) → EachFits list_with (λ s. IsNewName (earlier ++ s)) s names → AllByRecursion IsUtf8 names
names_utf8 earlier s [] fit = tt
names_utf8 earlier s (x ∷ names) fit = (fit.0.utf8, names_utf8 earlier (s ++ x ∷ []) names fit.1)

names_short : (earlier s names : List (List ℕ)) → EachFits list_with (λ s. IsNewName (earlier ++ s)) s names → AllByRecursion (λ name. length name < 2 ^ 8) names
names_short earlier s [] fit = tt
names_short earlier s (x ∷ names) fit = (fit.0.short, names_short earlier (s ++ x ∷ []) names fit.1)

nothing_more : (earlier : List (List ℕ)) → SameNames earlier (earlier ++ [])
nothing_more earlier name = ap (list_any (bytes_eq name)) (sym (append-nil earlier))

-- Each item has a byte, so that there are no more items than bytes.
pub no_more_items : {A : Type 0} (spell : A → List ℕ) (items : List A) → AllByRecursion (λ x. 1 ≤ length (spell x)) items → length items ≤ length (flat_map spell items)
no_more_items spell [] some = omega arith
no_more_items spell (x ∷ items) some = let rest = no_more_items spell items some.1 in omega (arith, some.0, length-append (spell x) (flat_map spell items))

some_name : (names : List (List ℕ)) → AllByRecursion (λ name. 1 ≤ length (name_bytes name)) names
some_name [] = tt
some_name (x ∷ names) = (omega arith, some_name names)

pub reads_names : (cardinality : ℕ) (earlier : List (List ℕ)) → Reads (counted_bytes name_bytes) (AreNewNames cardinality earlier) (names_from cardinality earlier)
unfolding names_from
reads_names cardinality earlier = record {
  takes = λ bytes names rest fits e.
      let room : ℕ → Bool = λ n. nat_le (length earlier + n) cardinality in
      let counts = reads_passing eight_bytes (λ n. n < 2 ^ 64) eight_from room reads_eight in
      let a = bind_ok (with_test room eight_from bytes) (λ count. repeat_step (name_step earlier) count.0 [] count.1) (names, rest) e in
      let count = counts.takes bytes a.0.0 a.0.1 fits a.1 in
      let all = steps_take list_with name_bytes (λ s. IsNewName (earlier ++ s)) (name_step earlier) (name_steps earlier) a.0.0 [] a.0.1 names rest count.0.rest_fits a.2 in
      let items-are : names ≡ all.items = all.are ∙ all_listed [] all.items in
      let spelled = Takes-then bytes (eight_bytes a.0.0) a.0.1 (flat_map name_bytes all.items) rest count.0 all.taken in
      let made : Takes bytes (counted_bytes name_bytes all.items) rest = subst (λ (n : ℕ). Takes bytes (eight_bytes n ++ flat_map name_bytes all.items) rest) (sym all.count) spelled in
      let fit : AreNewNames cardinality earlier all.items = record {
        texts = names_utf8 earlier [] all.items all.fit;
        short = names_short earlier [] all.items all.fit;
        apart = names_apart earlier earlier [] all.items (nothing_more earlier) all.fit;
        most = omega (arith, leb-true _ _ (is_true (room a.0.0) count.1.1), length-append earlier all.items, all.count);
      } in
      subst (λ (names : List (List ℕ)). Takes bytes (counted_bytes name_bytes names) rest × AreNewNames cardinality earlier names) (sym items-are) (made, fit);
  again = λ names rest fit short.
      let room : ℕ → Bool = λ n. nat_le (length earlier + n) cardinality in
      let more = flat_map name_bytes names in
      let parted = append_assoc (eight_bytes (length names)) more rest in
      let lt : length (eight_bytes (length names) ++ (more ++ rest)) < 2 ^ 64 = rw (← parted) short in
      let few : length names < 2 ^ 64 = omega (arith, no_more_items name_bytes names (some_name names), length-append more rest, length-append (eight_bytes (length names)) (more ++ rest), lt) in
      let counts = reads_passing eight_bytes (λ n. n < 2 ^ 64) eight_from room reads_eight in
      let count = counts.again (length names) (more ++ rest) (few, as_true (room (length names)) (le-leb _ _ (omega (arith, fit.most, length-append earlier names)))) lt in
      let each = names_fit earlier earlier [] names (nothing_more earlier) fit.apart fit.texts fit.short in
      let all = steps_again list_with name_bytes (λ s. IsNewName (earlier ++ s)) (name_step earlier) (name_steps earlier) names [] rest each (shorter (eight_bytes (length names)) (more ++ rest) lt) in
      rw (parted, count) (all ∙ ap (λ (s : List (List ℕ)). Ok (s, rest)) (all_listed [] names));
}
