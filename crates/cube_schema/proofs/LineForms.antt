-- The line that words say is the one whose form they have.
use Rattle.std.proofs.Common.{◌≡◌, ℕ, ◌<◌, ◌^◌, Bool, true, false, List, [], ◌∷◌, codes, Option, Some, None, nat_lt, refl, ap, ◌∙◌, subst, inl, inr, arith}
use Rattle.std.specs.Prelude.{IsTrue, nat_eq}
use Rattle.std.specs.List.{starts_with}
use Rattle.std.specs.Option.{option_map}
use Rattle.std.specs.Str.{bytes_eq}
use Rattle.std.specs.Str.Parse.{digits_value}
use Rattle.std.proofs.lemmas.Bool.{cases_Bool, lt-ltb, ltb-true}
use Rattle.std.proofs.lemmas.Slice.Eq.{bytes_eq-Decides}
use Rattle.cube_language.specs.Names.{is_name}
use Rattle.cube_language.specs.declared.decl.DimDecl.{DimDecl}
use Rattle.cube_language.specs.Cubes.{kind_text}
use Rattle.cube_language.specs.CubesText.{Line, Skipped, Cube, Dim, Metric, IsLine, IsNumberWord}
use Rattle.cube_language.specs.Tokens.{is_digits}
use Rattle.cube_schema.specs.Reading.{◌>>=◌, name_of_word, kind_of_word, number_of_word, only_word, only_name, dim_words, line_in}

bind_some : {A B : Type 0} (r : Option A) (f : A → Option B) (y : B) → (r >>= f) ≡ Some y → (x : A) × (r ≡ Some x) × (f x ≡ Some y)
bind_some (Some x) f y e = (x, refl, e)
bind_some None f y e = absurd cc

name_found : (word name : List ℕ) → name_of_word word ≡ Some name → (word ≡ name) × IsTrue (is_name name)
name_found word name e = elim (cases_Bool (is_name word)) [
  | inl named ↦
      let same : Some word ≡ Some name = rw named at e in
      let is : word ≡ name = cc in
      (is, subst (λ w. is_name w ≡ true) is named)
  | inr other ↦ let no = rw other at e in absurd cc
]

name_of : (name : List ℕ) → IsTrue (is_name name) → name_of_word name ≡ Some name
name_of name named = rw named refl

only_found : (words : List (List ℕ)) (name : List ℕ) → only_name words ≡ Some name → (words ≡ name ∷ []) × IsTrue (is_name name)
unfolding only_name only_word
only_found [] name e = absurd cc
only_found (word ∷ []) name e = let found = name_found word name e in (ap (λ w. w ∷ []) found.0, found.1)
only_found (word ∷ next ∷ words) name e = absurd cc

only_of : (name : List ℕ) → IsTrue (is_name name) → only_name (name ∷ []) ≡ Some name
unfolding only_name only_word
only_of name named = name_of name named

kind_found : (word : List ℕ) (text : Bool) → kind_of_word word ≡ Some text → word ≡ kind_text text
kind_found word text e = elim (cases_Bool (bytes_eq word (codes "text"))) [
  | inl is ↦
      let same : Some true ≡ Some text = rw is at e in
      let t : true ≡ text = cc in
      (bytes_eq-Decides word (codes "text")).0 is ∙ ap kind_text t
  | inr other ↦ elim (cases_Bool (bytes_eq word (codes "int"))) [
    | inl is ↦
        let same : Some false ≡ Some text = rw (other, is) at e in
        let t : false ≡ text = cc in
        (bytes_eq-Decides word (codes "int")).0 is ∙ ap kind_text t
    | inr neither ↦ let no = rw (other, neither) at e in absurd cc
  ]
]

kind_of : (text : Bool) → kind_of_word (kind_text text) ≡ Some text
kind_of true = refl
kind_of false = refl

number_found : (word : List ℕ) (n : ℕ) → number_of_word word ≡ Some n → IsNumberWord word n
number_found word n e = elim (cases_Bool (is_digits word)) [
  | inl digits ↦ elim (cases_Bool (nat_lt (digits_value 10 word) (2 ^ 32))) [
    | inl small ↦
        let same : Some (digits_value 10 word) ≡ Some n = rw (digits, small) at e in
        let is : digits_value 10 word ≡ n = cc in
        (digits, is, subst (λ m. m < 2 ^ 32) is (ltb-true _ _ small))
    | inr large ↦ let no = rw (digits, large) at e in absurd cc
  ]
  | inr other ↦ let no = rw other at e in absurd cc
]

number_of : (word : List ℕ) (n : ℕ) → IsNumberWord word n → number_of_word word ≡ Some n
number_of word n number =
    let small : digits_value 10 word < 2 ^ 32 = omega (arith, number.1, number.2) in
    rw (number.0, lt-ltb _ _ small) (ap Some number.1)

-- What the words behind `dim` have to be.
abbrev IsDimWords : List (List ℕ) → DimDecl → Type 0
IsDimWords words d =
    (cardinality range : List ℕ) × (words ≡ d.name ∷ kind_text d.text ∷ cardinality ∷ range ∷ []) × IsTrue (is_name d.name) × IsNumberWord cardinality d.cardinality × IsNumberWord range d.range

dim_found : (words : List (List ℕ)) (d : DimDecl) → dim_words words ≡ Some d → IsDimWords words d
unfolding dim_words
dim_found [] d e = absurd cc
dim_found (a ∷ []) d e = absurd cc
dim_found (a ∷ b ∷ []) d e = absurd cc
dim_found (a ∷ b ∷ c ∷ []) d e = absurd cc
dim_found (name ∷ kind ∷ cardinality ∷ range ∷ []) d e =
    let n = bind_some (name_of_word name) _ d e in
    let k = bind_some (kind_of_word kind) _ d n.2 in
    let c = bind_some (number_of_word cardinality) _ d k.2 in
    let r = bind_some (number_of_word range) _ d c.2 in
    let named = name_found name n.0 n.1 in
    let made : Some (record { name = n.0; text = k.0; cardinality = c.0; range = r.0 }) ≡ Some d = r.2 in
    let is : record { name = n.0; text = k.0; cardinality = c.0; range = r.0 } ≡ d = cc in
    subst (IsDimWords (name ∷ kind ∷ cardinality ∷ range ∷ [])) is
    (cardinality, range, (λ i. named.0 i ∷ kind_found kind k.0 k.1 i ∷ cardinality ∷ range ∷ []), named.1, number_found cardinality c.0 c.1, number_found range r.0 r.1)
dim_found (a ∷ b ∷ c ∷ e ∷ f ∷ words) d eq = absurd cc

dim_of : (words : List (List ℕ)) (d : DimDecl) → IsDimWords words d → dim_words words ≡ Some d
unfolding dim_words
dim_of words d is = rw (is.2, name_of d.name is.3, kind_of d.text, number_of is.0 d.cardinality is.4, number_of is.1 d.range is.5) refl

named_line : (make : List ℕ → Line) (words : List (List ℕ)) (line : Line) → option_map make (only_name words) ≡ Some line → (name : List ℕ) × (words ≡ name ∷ []) × IsTrue (is_name name) × (make name ≡ line)
named_line make words line e = named (only_name words) refl e
  where
    named : (found : Option (List ℕ)) → only_name words ≡ found → option_map make found ≡ Some line → (name : List ℕ) × (words ≡ name ∷ []) × IsTrue (is_name name) × (make name ≡ line)
    named None is e = absurd cc
    named (Some name) is e =
        let found = only_found words name is in
        let same : make name ≡ line = cc in
        (name, found.0, found.1, same)

dim_line : (words : List (List ℕ)) (line : Line) → option_map Dim (dim_words words) ≡ Some line → (d : DimDecl) × IsDimWords words d × (Dim d ≡ line)
dim_line words line e = found (dim_words words) refl e
  where
    found : (read : Option DimDecl) → dim_words words ≡ read → option_map Dim read ≡ Some line → (d : DimDecl) × IsDimWords words d × (Dim d ≡ line)
    found None is e = absurd cc
    found (Some d) is e =
        let same : Dim d ≡ line = cc in
        (d, dim_found words d is, same)

equal_bytes : (word wanted : List ℕ) → bytes_eq word wanted ≡ true → word ≡ wanted
equal_bytes word wanted e = (bytes_eq-Decides word wanted).0 e

-- What is read is the line.
pub line_found : (words : List (List ℕ)) (line : Line) → line_in words ≡ Some line → IsLine words line
unfolding line_in
line_found [] line e =
    let is : Skipped ≡ line = cc in
    subst (IsLine []) is tt
line_found (word ∷ words) line e = elim (cases_Bool (starts_with nat_eq word (codes "#"))) [
  | inl comment ↦
      let same : Some Skipped ≡ Some line = rw comment at e in
      let is : Skipped ≡ line = cc in
      subst (IsLine (word ∷ words)) is comment
  | inr text ↦ elim (cases_Bool (bytes_eq word (codes "cube"))) [
    | inl cube ↦
        let found = named_line Cube words line (rw (text, cube) at e) in
        subst (IsLine (word ∷ words)) found.3 ((λ i. equal_bytes word (codes "cube") cube i ∷ found.1 i), found.2)
    | inr no_cube ↦ elim (cases_Bool (bytes_eq word (codes "metric"))) [
      | inl metric ↦
          let found = named_line Metric words line (rw (text, no_cube, metric) at e) in
          subst (IsLine (word ∷ words)) found.3 ((λ i. equal_bytes word (codes "metric") metric i ∷ found.1 i), found.2)
      | inr no_metric ↦ elim (cases_Bool (bytes_eq word (codes "dim"))) [
        | inl dim ↦
            let found = dim_line words line (rw (text, no_cube, no_metric, dim) at e) in
            let is = found.1 in
            subst (IsLine (word ∷ words)) found.2 (is.0, is.1, (λ i. equal_bytes word (codes "dim") dim i ∷ is.2 i), is.3, is.4, is.5)
        | inr none ↦ let no = rw (text, no_cube, no_metric, none) at e in absurd cc
      ]
    ]
  ]
]

skipped : (words : List (List ℕ)) → IsLine words Skipped → line_in words ≡ Some Skipped
unfolding line_in
skipped [] is = refl
skipped (word ∷ words) is = rw is refl

-- The line is what is read.
pub line_read : (words : List (List ℕ)) (line : Line) → IsLine words line → line_in words ≡ Some line
unfolding line_in
line_read words Skipped is = skipped words is
line_read words (Cube name) is = ap line_in is.0 ∙ ap (option_map Cube) (only_of name is.1)
line_read words (Metric name) is = ap line_in is.0 ∙ ap (option_map Metric) (only_of name is.1)
line_read words (Dim d) is =
    let behind = d.name ∷ kind_text d.text ∷ is.0 ∷ is.1 ∷ [] in
    ap line_in is.2 ∙ ap (option_map Dim) (dim_of behind d (is.0, is.1, refl, is.3, is.4, is.5))
