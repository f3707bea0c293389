-- Readers one after the other.
use Rattle.std.proofs.Common.{◌≡◌, ℕ, zero, suc, ◌^◌, ◌<◌, Bool, cond, List, [], ◌∷◌, ◌++◌, length, Result, Ok, Err, IsTrue, refl, sym, ap, subst, ◌∙◌, append_assoc, arith}
use Rattle.std.specs.List.{flat_map, zip, AllZip, AllByRecursion}
use Rattle.std.proofs.lemmas.List.{length-append, append-nil}
use Rattle.round_fields.specs.Reading.{◌>>=◌, ReadOf, with_test, step_of, list_with, repeat_step, each_step}
use Rattle.round_fields.proofs.FieldLaws.{IsBytes, bind_ok, passed, ok_is, Takes, Takes-then, Reads}

-- A tested value.
pub reads_passing : {A : Type 0} (spell : A → List ℕ) (Fits : A → Type 0) (read : List ℕ → ReadOf A) (test : A → Bool)
    → Reads spell Fits read → Reads spell (λ x. Fits x × IsTrue (test x)) (with_test test read)
reads_passing spell Fits read test reads = record {
  takes = λ bytes x rest fits e.
      let b = bind_ok (read bytes) (λ x. cond (test x.0) (Ok x) (Err (length bytes))) (x, rest) e in
      let t = passed (test b.0.0) (length bytes) b.0 (x, rest) b.2 in
      let first : read bytes ≡ Ok (x, rest) = b.1 ∙ ap Ok t.1 in
      let same : b.0.0 ≡ x = ap (λ (p : _ × List ℕ). p.0) t.1 in
      let taken = reads.takes bytes x rest fits first in
      (taken.0, (taken.1, subst (λ y. IsTrue (test y)) same t.0));
  again = λ x rest h short. rw (reads.again x rest h.0 short, h.1) refl;
}

pub then_ok : {A B F : Type 0} (r : Result A F) (f : A → Result B F) (x : A) (y : Result B F) → r ≡ Ok x → f x ≡ y → (r >>= f) ≡ y
then_ok r f x y e g = ap (λ q. q >>= f) e ∙ g

-- What is read after something else has less behind it.
pub shorter : (a b : List ℕ) → length (a ++ b) < 2 ^ 64 → length b < 2 ^ 64
shorter a b lt = omega (arith, length-append a b)

-- One value behind another, of which they are the parts of a third.
pub reads_both : {A B C : Type 0}
    (s : A → List ℕ) (F : A → Type 0) (r : List ℕ → ReadOf A)
    (t : A → B → List ℕ) (G : A → B → Type 0) (q : A → List ℕ → ReadOf B)
    (make : A → B → C) (fst : C → A) (snd : C → B)
    → ((c : C) → make (fst c) (snd c) ≡ c) → ((a : A) (b : B) → fst (make a b) ≡ a) → ((a : A) (b : B) → snd (make a b) ≡ b)
    → Reads s F r → ((a : A) → F a → Reads (t a) (G a) (q a))
    → Reads (λ c. s (fst c) ++ t (fst c) (snd c)) (λ c. F (fst c) × G (fst c) (snd c))
    (λ bytes. r bytes >>= λ x. q x.0 x.1 >>= λ y. Ok (make x.0 y.0, y.1))
reads_both {A} {B} {C} s F r t G q make fst snd eta one two first second = record {
  takes = λ bytes c rest fits e.
      let a = bind_ok (r bytes) (λ x. q x.0 x.1 >>= λ y. Ok (make x.0 y.0, y.1)) (c, rest) e in
      let b = bind_ok (q a.0.0 a.0.1) (λ y. Ok (make a.0.0 y.0, y.1)) (c, rest) a.2 in
      let same = ok_is ℕ (make a.0.0 b.0.0, b.0.1) (c, rest) b.2 in
      let u = first.takes bytes a.0.0 a.0.1 fits a.1 in
      let v = (second a.0.0 u.1).takes a.0.1 b.0.0 b.0.1 u.0.rest_fits b.1 in
      let both = Takes-then bytes (s a.0.0) a.0.1 (t a.0.0 b.0.0) b.0.1 u.0 v.0 in
      let made : Takes bytes (s (fst (make a.0.0 b.0.0)) ++ t (fst (make a.0.0 b.0.0)) (snd (make a.0.0 b.0.0))) b.0.1
      × (F (fst (make a.0.0 b.0.0)) × G (fst (make a.0.0 b.0.0)) (snd (make a.0.0 b.0.0)))
      = rw (one a.0.0 b.0.0, two a.0.0 b.0.0) (both, (u.1, v.1)) in
      subst (λ (p : C × List ℕ). Takes bytes (s (fst p.0) ++ t (fst p.0) (snd p.0)) p.1 × (F (fst p.0) × G (fst p.0) (snd p.0))) same made;
  again = λ c rest h short.
      let regrouped = append_assoc (s (fst c)) (t (fst c) (snd c)) rest in
      let lt : length (s (fst c) ++ (t (fst c) (snd c) ++ rest)) < 2 ^ 64 = rw (← regrouped) short in
      let u = first.again (fst c) (t (fst c) (snd c) ++ rest) h.0 lt in
      let v = (second (fst c) h.0).again (snd c) rest h.1 (shorter (s (fst c)) (t (fst c) (snd c) ++ rest) lt) in
      rw (regrouped, u, v, eta c) refl;
}

-- ---- many values

-- One value added to those before it.
pub record ReadsStep {S A : Type 0} (put : S → A → S) (spell : A → List ℕ) (Fits : S → A → Type 0) (step : S → List ℕ → ReadOf S) : Type 0 where
  pub takes : (s : S) (bytes : List ℕ) (after : S) (rest : List ℕ) → IsBytes bytes → step s bytes ≡ Ok (after, rest)
      → (x : A) × (after ≡ put s x) × Takes bytes (spell x) rest × Fits s x
  pub again : (s : S) (x : A) (rest : List ℕ) → Fits s x → length (spell x ++ rest) < 2 ^ 64 → step s (spell x ++ rest) ≡ Ok (put s x, rest)

-- Values are put one after the other.
abbrev pub all_put : {S A : Type 0} → (S → A → S) → S → List A → S
all_put put s [] = s
all_put put s (x ∷ xs) = all_put put (put s x) xs

-- Each value fits behind those before it.
abbrev pub EachFits : {S A : Type 0} → (S → A → S) → (S → A → Type 0) → S → List A → Type 0
EachFits put Fits s [] = Unit {0}
EachFits put Fits s (x ∷ xs) = Fits s x × EachFits put Fits (put s x) xs

-- What so many steps take.
pub record TakesAll {S A : Type 0} (put : S → A → S) (spell : A → List ℕ) (Fits : S → A → Type 0) (n : ℕ) (s : S) (bytes : List ℕ) (after : S) (rest : List ℕ) : Type 0 where
  pub items : List A
  pub are : after ≡ all_put put s items
  pub count : length items ≡ n
  pub taken : Takes bytes (flat_map spell items) rest
  pub fit : EachFits put Fits s items

pub steps_take : {S A : Type 0} (put : S → A → S) (spell : A → List ℕ) (Fits : S → A → Type 0) (step : S → List ℕ → ReadOf S)
    → ReadsStep put spell Fits step → (n : ℕ) (s : S) (bytes : List ℕ) (after : S) (rest : List ℕ) → IsBytes bytes
    → repeat_step step n s bytes ≡ Ok (after, rest) → TakesAll put spell Fits n s bytes after rest
unfolding repeat_step
steps_take {S} {A} put spell Fits step reads zero s bytes after rest fits e =
    let same = ok_is ℕ (s, bytes) (after, rest) e in
    subst (λ (p : S × List ℕ). TakesAll put spell Fits 0 s bytes p.0 p.1) same
    (record { items = []; are = refl; count = refl; taken = record { parts = refl; rest_fits = fits }; fit = tt })
steps_take {S} {A} put spell Fits step reads (suc n) s bytes after rest fits e =
    let a = bind_ok (step s bytes) (λ x. repeat_step step n x.0 x.1) (after, rest) e in
    let first = reads.takes s bytes a.0.0 a.0.1 fits a.1 in
    let second = steps_take put spell Fits step reads n (put s first.0) a.0.1 after rest first.2.rest_fits (rw first.1 at a.2) in
    record {
      items = first.0 ∷ second.items;
      are = second.are;
      count = ap suc second.count;
      taken = Takes-then bytes (spell first.0) a.0.1 (flat_map spell second.items) rest first.2 second.taken;
      fit = (first.3, second.fit);
    }

pub steps_again : {S A : Type 0} (put : S → A → S) (spell : A → List ℕ) (Fits : S → A → Type 0) (step : S → List ℕ → ReadOf S)
    → ReadsStep put spell Fits step → (items : List A) (s : S) (rest : List ℕ) → EachFits put Fits s items
    → length (flat_map spell items ++ rest) < 2 ^ 64
    → repeat_step step (length items) s (flat_map spell items ++ rest) ≡ Ok (all_put put s items, rest)
unfolding repeat_step
steps_again put spell Fits step reads [] s rest fit short = refl
steps_again put spell Fits step reads (x ∷ xs) s rest fit short =
    let regrouped = append_assoc (spell x) (flat_map spell xs) rest in
    let lt : length (spell x ++ (flat_map spell xs ++ rest)) < 2 ^ 64 = rw (← regrouped) short in
    let one = reads.again s x (flat_map spell xs ++ rest) fit.0 lt in
    rw (regrouped, one) (steps_again put spell Fits step reads xs (put s x) rest fit.1 (shorter (spell x) (flat_map spell xs ++ rest) lt))

-- A value that is read behind others.
pub reads_putting : {S A : Type 0} (put : S → A → S) (spell : A → List ℕ) (Fits : S → A → Type 0) (read : S → List ℕ → ReadOf A)
    → ((s : S) → Reads spell (Fits s) (read s)) → ReadsStep put spell Fits (step_of put read)
reads_putting {S} {A} put spell Fits read reads = record {
  takes = λ s bytes after rest fits e.
      let b = bind_ok (read s bytes) (λ x. Ok (put s x.0, x.1)) (after, rest) e in
      let same = ok_is ℕ (put s b.0.0, b.0.1) (after, rest) b.2 in
      let taken = (reads s).takes bytes b.0.0 b.0.1 fits b.1 in
      let rest-is : b.0.1 ≡ rest = ap (λ (p : S × List ℕ). p.1) same in
      (b.0.0, ap (λ (p : S × List ℕ). p.0) (sym same), subst (λ (r : List ℕ). Takes bytes (spell b.0.0) r) rest-is taken.0, taken.1);
  again = λ s x rest h short. rw ((reads s).again x rest h short) refl;
}

-- ---- a value for each of some things

pub record TakesEach {P A : Type 0} (spell : P → A → List ℕ) (Fits : P → A → Type 0) (ps : List P) (s : List A) (bytes : List ℕ) (after : List A) (rest : List ℕ) : Type 0 where
  pub items : List A
  pub are : after ≡ s ++ items
  pub taken : Takes bytes (flat_map (λ q. spell q.0 q.1) (zip ps items)) rest
  pub fit : AllZip Fits ps items

pub each_take : {P A : Type 0} (spell : P → A → List ℕ) (Fits : P → A → Type 0) (step : P → List A → List ℕ → ReadOf (List A)) (Good : P → Type 0)
    → ((p : P) → Good p → ReadsStep list_with (spell p) (λ s. Fits p) (step p)) → (ps : List P) → AllByRecursion Good ps → (s : List A) (bytes : List ℕ) (after : List A) (rest : List ℕ) → IsBytes bytes
    → each_step step ps s bytes ≡ Ok (after, rest) → TakesEach spell Fits ps s bytes after rest
unfolding each_step
each_take {P} {A} spell Fits step Good reads [] good s bytes after rest fits e =
    let same = ok_is ℕ (s, bytes) (after, rest) e in
    subst (λ (p : List A × List ℕ). TakesEach spell Fits [] s bytes p.0 p.1) same
    (record { items = []; are = sym (append-nil s); taken = record { parts = refl; rest_fits = fits }; fit = tt })
each_take {P} {A} spell Fits step Good reads (p ∷ ps) good s bytes after rest fits e =
    let a = bind_ok (step p s bytes) (λ x. each_step step ps x.0 x.1) (after, rest) e in
    let first = (reads p good.0).takes s bytes a.0.0 a.0.1 fits a.1 in
    let second = each_take spell Fits step Good reads ps good.1 (list_with s first.0) a.0.1 after rest first.2.rest_fits (rw first.1 at a.2) in
    record {
      items = first.0 ∷ second.items;
      are = second.are ∙ append_assoc s (first.0 ∷ []) second.items;
      taken = Takes-then bytes (spell p first.0) a.0.1 (flat_map (λ q. spell q.0 q.1) (zip ps second.items)) rest first.2 second.taken;
      fit = (first.3, second.fit);
    }

pub each_again : {P A : Type 0} (spell : P → A → List ℕ) (Fits : P → A → Type 0) (step : P → List A → List ℕ → ReadOf (List A)) (Good : P → Type 0)
    → ((p : P) → Good p → ReadsStep list_with (spell p) (λ s. Fits p) (step p)) → (ps : List P) → AllByRecursion Good ps → (items s : List A) (rest : List ℕ) → AllZip Fits ps items
    → length (flat_map (λ q. spell q.0 q.1) (zip ps items) ++ rest) < 2 ^ 64
    → each_step step ps s (flat_map (λ q. spell q.0 q.1) (zip ps items) ++ rest) ≡ Ok (s ++ items, rest)
unfolding each_step
each_again spell Fits step Good reads [] good [] s rest fit short = ap (λ t. Ok (t, rest)) (sym (append-nil s))
each_again spell Fits step Good reads [] good (x ∷ items) s rest fit short = absurd fit
each_again spell Fits step Good reads (p ∷ ps) good [] s rest fit short = absurd fit
each_again spell Fits step Good reads (p ∷ ps) good (x ∷ items) s rest fit short =
    let more = flat_map (λ q. spell q.0 q.1) (zip ps items) in
    let regrouped = append_assoc (spell p x) more rest in
    let lt : length (spell p x ++ (more ++ rest)) < 2 ^ 64 = rw (← regrouped) short in
    let one = (reads p good.0).again s x (more ++ rest) fit.0 lt in
    rw (regrouped, one) (each_again spell Fits step Good reads ps good.1 items (list_with s x) rest fit.1 (shorter (spell p x) (more ++ rest) lt)
    ∙ ap (λ t. Ok (t, rest)) (append_assoc s (x ∷ []) items))

-- Nothing is asked of what each value stands for.
abbrev pub Anything : {P : Type 0} → P → Type 0
Anything p = Unit {0}

pub all_anything : {P : Type 0} (ps : List P) → AllByRecursion (λ (p : P). Anything p) ps
all_anything [] = tt
all_anything (p ∷ ps) = (tt, all_anything ps)

-- A reader of values that are spelled alike.
pub reads_spelled : {A : Type 0} (spell other : A → List ℕ) (Fits : A → Type 0) (read : List ℕ → ReadOf A)
    → ((x : A) → Fits x → spell x ≡ other x) → Reads spell Fits read → Reads other Fits read
reads_spelled spell other Fits read same reads = record {
  takes = λ bytes x rest fits e.
      let t = reads.takes bytes x rest fits e in
      (subst (λ (text : List ℕ). Takes bytes text rest) (same x t.1) t.0, t.1);
  again = λ x rest h short. rw (← same x h) (reads.again x rest h (rw (same x h) short));
}

-- A reader of the values that fit in other words.
pub reads_as : {A : Type 0} (spell : A → List ℕ) (Fits Others : A → Type 0) (read : List ℕ → ReadOf A)
    → ((x : A) → Fits x → Others x) → ((x : A) → Others x → Fits x) → Reads spell Fits read → Reads spell Others read
reads_as spell Fits Others read there back reads = record {
  takes = λ bytes x rest fits e. let t = reads.takes bytes x rest fits e in (t.0, there x t.1);
  again = λ x rest h short. reads.again x rest (back x h) short;
}
