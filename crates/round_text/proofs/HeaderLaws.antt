-- Which headers reading finds, and that it finds each.
use Rattle.std.proofs.Common.{◌≡◌, ℕ, zero, suc, ◌+◌, ◌-◌, ◌^◌, ◌<◌, ◌≤◌, Bool, true, false, cond, leb, ◌&&◌, List, [], ◌∷◌, ◌++◌, length, get_or, take, drop, Option, Some, None, Result, Ok, Err, IsTrue, refl, sym, ap, subst, ◌∙◌, append_assoc, arith}
use Rattle.std.specs.Prelude.{MatchOption, MatchResult, is_some, IfOk}
use Rattle.std.specs.Str.{bytes_eq}
use Rattle.std.proofs.lemmas.List.{take_at, drop_at, take-append-drop, length-append, length-take}
use Rattle.std.proofs.lemmas.Bool.{leb-true, le-leb}
use Rattle.std.proofs.lemmas.Slice.Eq.{bytes_eq-Decides}
use Rattle.cube_language.specs.declared.decl.Decl.{Decl}
use Rattle.cube_rounds.specs.Bytes.{four_bytes, eight_bytes}
use Rattle.cube_rounds.specs.Headers.{open_gate, magic, head_bytes, header_bytes, IsCanonical, FitsHeader, BeginsWithHeader}
use Rattle.round_fields.specs.declared.fault.FormatFault.{FormatFault}
use Rattle.round_fields.specs.declared.fault.FormatFault.TheVariants.{BadText}
use Rattle.round_text.specs.declared.header.Header.{Header}
use Rattle.cube_values.specs.declared.call_error.CallError.{CallError}
use Rattle.cube_values.specs.declared.call_error.CallError.TheVariants as errors
use Rattle.round_fields.specs.Reading.{FailsRead, GivesRead, ReadOf, four_from, eight_from}
use Rattle.round_fields.specs.Canonical.{TellsCubes}
use Rattle.round_fields.specs.Digests.{where_digest_is}
use Rattle.round_text.specs.HeaderReading.{version_front, when_read, text_start, header_of, header_with, header_at_text, is_right_generation, second_header_from, first_header_from, header_from}
use Rattle.round_fields.proofs.DigestLaws.{passes, digest_was, both_true, tail_of, is_true, same_digest}
use Rattle.round_fields.proofs.FieldLaws.{IsBytes, IsBytes-drop, passed, ok_is, reads_four, reads_eight, four_again, eight_again, length-four, length-eight}

-- The parts of a header behind its text's size and before it.
pub record HasText (digest : List ℕ → List ℕ) (told : List ℕ → Option (List Decl)) (bytes : List ℕ) (start size generation : ℕ) (right : Bool) (left : List ℕ) (h : Header) : Type 0 where
  pub fits : size + 33 ≤ length left
  pub digest_right : take 32 (drop size left) ≡ digest (take (start + size - 1) (drop 1 bytes))
  pub generation_right : right ≡ true
  pub cubes : List Decl
  pub canonical : IsCanonical (take size left) cubes
  pub is : h ≡ header_of start generation (take size left)

right_text : (told : List ℕ → Option (List Decl)) → TellsCubes told → (text : List ℕ) → is_some (told text) ≡ true → (cubes : List Decl) × IsCanonical text cubes
right_text told tells text there =
    elim (told text) as (λ o. MatchOption o ((cubes : List Decl) → IsCanonical text cubes → ⊥) (IsCanonical text) → is_some o ≡ true → (cubes : List Decl) × IsCanonical text cubes) [
      | None ↦ λ m e. absurd cc
      | Some cubes ↦ λ m e. (cubes, m)
    ] (tells text) there

-- A text that is found is a right one.
text_found : (digest : List ℕ → List ℕ) (told : List ℕ → Option (List Decl)) → TellsCubes told → (bytes : List ℕ) (start size generation : ℕ) (right : Bool) (left : List ℕ) (h : Header)
    → header_at_text digest told bytes start size generation right left ≡ Ok h → HasText digest told bytes start size generation right left h
text_found digest told tells bytes start size generation right left h e =
    let long = passes (leb (size + 33) (length left)) _ (BadText 12) h e in
    let one = digest_was (take 32 (drop size left)) (digest (take (start + size - 1) (drop 1 bytes))) (header_with told start generation right (take size left)) h long.1 in
    let last = passed (right && is_some (told (take size left))) (BadText 12) (header_of start generation (take size left)) h one.1 in
    let both = both_true right (is_some (told (take size left))) last.0 in
    let text = right_text told tells (take size left) both.1 in
    record {
      fits = leb-true _ _ long.0;
      digest_right = one.0;
      generation_right = both.0;
      cubes = text.0;
      canonical = text.1;
      is = sym last.1;
    }

-- A header whose digest is that of its head.
whole_header : (digest : List ℕ → List ℕ) (bytes head text kept : List ℕ) (generation gate : ℕ) (rest : List ℕ) (n : ℕ)
    → bytes ≡ open_gate ∷ (head ++ (kept ++ gate ∷ rest)) → length head ≡ n → kept ≡ digest (take n (drop 1 bytes))
    → head ≡ head_bytes generation text → FitsHeader generation text → BeginsWithHeader digest generation text bytes
unfolding header_bytes
whole_header digest bytes head text kept generation gate rest n whole long kept-is head-is fits =
    let behind : take n (drop 1 bytes) ≡ head =
    ap (λ (b : List ℕ). take n (drop 1 b)) whole ∙ take_at head (kept ++ gate ∷ rest) n long in
    let kept-at : kept ≡ digest (head_bytes generation text) = kept-is ∙ ap digest (behind ∙ head-is) in
    record {
      fits = fits;
      gate = gate;
      rest = rest;
      whole = whole ∙ ap (λ (b : List ℕ). open_gate ∷ b) (
          ap (λ (h : List ℕ). h ++ (kept ++ gate ∷ rest)) head-is
          ∙ ap (λ (k : List ℕ). head_bytes generation text ++ (k ++ gate ∷ rest)) kept-at
          ∙ sym (append_assoc (head_bytes generation text) (digest (head_bytes generation text)) (gate ∷ rest)));
    }

read_was : {A : Type 0} (r : ReadOf A) (next : A × List ℕ → Result Header FormatFault) (h : Header) → when_read r next ≡ Ok h → (x : A × List ℕ) × (r ≡ Ok x) × (next x ≡ Ok h)
read_was (Ok x) next h e = (x, refl, e)
read_was (Err left) next h e = absurd cc

-- What a header of version 2 has before its digest, and what one of version 1 has.
abbrev pub second_head : ℕ → ℕ → List ℕ → List ℕ
second_head size generation text = magic ++ (four_bytes 2 ++ (four_bytes size ++ (eight_bytes generation ++ text)))

abbrev first_head : ℕ → List ℕ → List ℕ
first_head size text = magic ++ (four_bytes 1 ++ (four_bytes size ++ text))

pub head-is_second : (generation : ℕ) (text : List ℕ) → 1 ≤ generation → second_head (length text) generation text ≡ head_bytes generation text
head-is_second zero text some = absurd (omega arith)
head-is_second (suc n) text some = refl

length-second_head : (size generation : ℕ) (text : List ℕ) → length (second_head size generation text) ≡ 23 + length text
length-second_head size generation text =
    omega (arith, length-append (four_bytes 2) (four_bytes size ++ (eight_bytes generation ++ text)), length-append (four_bytes size) (eight_bytes generation ++ text), length-append (eight_bytes generation) text, length-four 2, length-four size, length-eight generation)

length-first_head : (size : ℕ) (text : List ℕ) → length (first_head size text) ≡ 15 + length text
length-first_head size text =
    omega (arith, length-append (four_bytes 1) (four_bytes size ++ text), length-append (four_bytes size) text, length-four 1, length-four size)

-- What reading finds, and the size that it says.
pub record IsHeader (digest : List ℕ → List ℕ) (bytes : List ℕ) (h : Header) : Type 0 where
  pub begins : BeginsWithHeader digest h.generation h.cubes bytes
  pub size : h.size ≡ text_start h.generation + length h.cubes + 33

text_start-some : (g : ℕ) → 1 ≤ g → text_start g ≡ 24
text_start-some zero some = absurd (omega arith)
text_start-some (suc n) some = refl

second_whole : (bytes d12 r16 r24 behind text : List ℕ) (size generation : ℕ) → bytes ≡ version_front 2 ++ d12 → d12 ≡ four_bytes size ++ r16 → r16 ≡ eight_bytes generation ++ r24 → r24 ≡ text ++ behind
    → bytes ≡ open_gate ∷ (second_head size generation text ++ behind)
second_whole bytes d12 r16 r24 behind text size generation front a b c =
    front ∙ ap (λ (x : List ℕ). version_front 2 ++ x) (a ∙ ap (λ (x : List ℕ). four_bytes size ++ x) (b ∙ ap (λ (x : List ℕ). eight_bytes generation ++ x) c))
    ∙ simp append_assoc

first_whole : (bytes d12 r16 behind text : List ℕ) (size : ℕ) → bytes ≡ version_front 1 ++ d12 → d12 ≡ four_bytes size ++ r16 → r16 ≡ text ++ behind
    → bytes ≡ open_gate ∷ (first_head size text ++ behind)
first_whole bytes d12 r16 behind text size front a c =
    front ∙ ap (λ (x : List ℕ). version_front 1 ++ x) (a ∙ ap (λ (x : List ℕ). four_bytes size ++ x) c)
    ∙ simp append_assoc

front_whole : (bytes front : List ℕ) (n : ℕ) → take n bytes ≡ front → bytes ≡ front ++ drop n bytes
front_whole bytes front n e = sym (take-append-drop n bytes) ∙ ap (λ (x : List ℕ). x ++ drop n bytes) e

second_found : (digest : List ℕ → List ℕ) (told : List ℕ → Option (List Decl)) → TellsCubes told → (bytes : List ℕ) (h : Header) → IsBytes bytes → take 12 bytes ≡ version_front 2
    → second_header_from digest told bytes ≡ Ok h → IsHeader digest bytes h
unfolding second_header_from
second_found digest told tells bytes h fits front e =
    let a = read_was (four_from (drop 12 bytes)) (λ size. when_read (eight_from size.1) (λ g. header_at_text digest told bytes 24 size.0 g.0 (is_right_generation g.0) g.1)) h e in
    let size = a.0.0 in
    let b = read_was (eight_from a.0.1) (λ g. header_at_text digest told bytes 24 size g.0 (is_right_generation g.0) g.1) h a.2 in
    let g = b.0.0 in
    let left = b.0.1 in
    let t = text_found digest told tells bytes 24 size g (is_right_generation g) left h b.2 in
    let text = take size left in
    let four = reads_four.takes (drop 12 bytes) size a.0.1 (IsBytes-drop 12 bytes fits) a.1 in
    let eight = reads_eight.takes a.0.1 g left four.0.rest_fits b.1 in
    let tail = tail_of size left t.fits in
    let long : length text ≡ size = omega (arith, t.fits, length-take size left) in
    let right = both_true (leb 1 g) (leb g (2 ^ 62)) t.generation_right in
    let whole = second_whole bytes (drop 12 bytes) a.0.1 left (take 32 (drop size left) ++ tail.gate ∷ tail.rest) text size g (front_whole bytes (version_front 2) 12 front) four.0.parts eight.0.parts tail.whole in
    let head : second_head size g text ≡ head_bytes g text = ap (λ (n : ℕ). second_head n g text) (sym long) ∙ head-is_second g text (leb-true _ _ right.0) in
    let right_header : FitsHeader g text = record { small = leb-true _ _ right.1; cubes = t.cubes; canonical = t.canonical; long = omega (arith, long, four.1) } in
    let begins = whole_header digest bytes (second_head size g text) text (take 32 (drop size left)) g tail.gate tail.rest (24 + size - 1) whole (omega (arith, length-second_head size g text, long)) t.digest_right head right_header in
    let says : 24 + length text + 33 ≡ text_start g + length text + 33 = ap (λ (n : ℕ). n + length text + 33) (sym (text_start-some g (leb-true _ _ right.0))) in
    subst (IsHeader digest bytes) (sym t.is) (record { begins = begins; size = says })

first_found : (digest : List ℕ → List ℕ) (told : List ℕ → Option (List Decl)) → TellsCubes told → (bytes : List ℕ) (h : Header) → IsBytes bytes → take 12 bytes ≡ version_front 1
    → first_header_from digest told bytes ≡ Ok h → IsHeader digest bytes h
unfolding first_header_from
first_found digest told tells bytes h fits front e =
    let a = read_was (four_from (drop 12 bytes)) (λ size. header_at_text digest told bytes 16 size.0 0 true size.1) h e in
    let size = a.0.0 in
    let left = a.0.1 in
    let t = text_found digest told tells bytes 16 size 0 true left h a.2 in
    let text = take size left in
    let four = reads_four.takes (drop 12 bytes) size left (IsBytes-drop 12 bytes fits) a.1 in
    let tail = tail_of size left t.fits in
    let long : length text ≡ size = omega (arith, t.fits, length-take size left) in
    let whole = first_whole bytes (drop 12 bytes) left (take 32 (drop size left) ++ tail.gate ∷ tail.rest) text size (front_whole bytes (version_front 1) 12 front) four.0.parts tail.whole in
    let head : first_head size text ≡ head_bytes 0 text = ap (λ (n : ℕ). first_head n text) (sym long) in
    let right_header : FitsHeader 0 text = record { small = omega arith; cubes = t.cubes; canonical = t.canonical; long = omega (arith, long, four.1) } in
    let begins = whole_header digest bytes (first_head size text) text (take 32 (drop size left)) 0 tail.gate tail.rest (16 + size - 1) whole (omega (arith, length-first_head size text, long)) t.digest_right head right_header in
    subst (IsHeader digest bytes) (sym t.is) (record { begins = begins; size = refl })

-- A header that reading finds is one.
pub header_found : (digest : List ℕ → List ℕ) (told : List ℕ → Option (List Decl)) → TellsCubes told → (bytes : List ℕ) (h : Header) → IsBytes bytes
    → header_from digest told bytes ≡ Ok h → IsHeader digest bytes h
unfolding header_from
header_found digest told tells bytes h fits e =
    elim (bytes_eq (take 12 bytes) (version_front 2)) as (λ b. bytes_eq (take 12 bytes) (version_front 2) ≡ b
    → cond b (second_header_from digest told bytes) (cond (bytes_eq (take 12 bytes) (version_front 1)) (first_header_from digest told bytes) (Err (BadText 12))) ≡ Ok h
    → IsHeader digest bytes h) [
      | true ↦ λ is r. second_found digest told tells bytes h fits ((bytes_eq-Decides (take 12 bytes) (version_front 2)).0 is) r
      | false ↦ λ is r.
          let p = passes (bytes_eq (take 12 bytes) (version_front 1)) (first_header_from digest told bytes) (BadText 12) h r in
          first_found digest told tells bytes h fits ((bytes_eq-Decides (take 12 bytes) (version_front 1)).0 p.0) p.1
    ] refl e

told_text : (told : List ℕ → Option (List Decl)) → TellsCubes told → (text : List ℕ) (cubes : List Decl) → IsCanonical text cubes → is_some (told text) ≡ true
told_text told tells text cubes canonical =
    elim (told text) as (λ o. MatchOption o ((cubes : List Decl) → IsCanonical text cubes → ⊥) (IsCanonical text) → is_some o ≡ true) [
      | None ↦ λ m. absurd (m cubes canonical)
      | Some cubes ↦ λ m. refl
    ] (tells text)

-- A right text behind its size is found.
text_again : (digest : List ℕ → List ℕ) (told : List ℕ → Option (List Decl)) → TellsCubes told → (bytes head text : List ℕ) (cubes : List Decl) (start generation gate : ℕ) (rest : List ℕ)
    → ((m : List ℕ) → length (digest m) ≡ 32) → IsCanonical text cubes → length head ≡ start + length text - 1
    → bytes ≡ open_gate ∷ (head ++ (digest head ++ gate ∷ rest))
    → header_at_text digest told bytes start (length text) generation true (text ++ (digest head ++ gate ∷ rest)) ≡ Ok (header_of start generation text)
text_again digest told tells bytes head text cubes start generation gate rest wide canonical long whole =
    let left = text ++ (digest head ++ gate ∷ rest) in
    let fits : leb (length text + 33) (length left) ≡ true = le-leb _ _ (omega (arith, length-append text (digest head ++ gate ∷ rest), length-append (digest head) (gate ∷ rest), wide head)) in
    let text-at : take (length text) left ≡ text = take_at text (digest head ++ gate ∷ rest) (length text) refl in
    let behind : drop (length text) left ≡ digest head ++ gate ∷ rest = drop_at text (digest head ++ gate ∷ rest) (length text) refl in
    let kept : take 32 (drop (length text) left) ≡ digest head = ap (take 32) behind ∙ take_at (digest head) (gate ∷ rest) 32 (wide head) in
    let head-at : take (start + length text - 1) (drop 1 bytes) ≡ head =
    ap (λ (b : List ℕ). take (start + length text - 1) (drop 1 b)) whole ∙ take_at head (digest head ++ gate ∷ rest) (start + length text - 1) long in
    let same : take 32 (drop (length text) left) ≡ digest (take (start + length text - 1) (drop 1 bytes)) = kept ∙ ap digest (sym head-at) in
    let there : is_some (told text) ≡ true = told_text told tells text cubes canonical in
    ap (λ b. cond b (where_digest_is (take 32 (drop (length text) left)) (digest (take (start + length text - 1) (drop 1 bytes))) (header_with told start generation true (take (length text) left))) (Err (BadText 12))) fits
    ∙ same_digest (take 32 (drop (length text) left)) (digest (take (start + length text - 1) (drop 1 bytes))) (header_with told start generation true (take (length text) left)) same
    ∙ ap (header_with told start generation true) text-at
    ∙ ap (λ b. cond b (Ok (header_of start generation text)) (Err (BadText 12))) there

-- The first header of version 2 that stands in the bytes is read.
second_again : (digest : List ℕ → List ℕ) (told : List ℕ → Option (List Decl)) → TellsCubes told → (bytes text : List ℕ) (cubes : List Decl) (n gate : ℕ) (rest : List ℕ)
    → ((m : List ℕ) → length (digest m) ≡ 32) → IsCanonical text cubes → length text < 2 ^ 32 → suc n ≤ 2 ^ 62
    → bytes ≡ open_gate ∷ (head_bytes (suc n) text ++ (digest (head_bytes (suc n) text) ++ gate ∷ rest))
    → header_from digest told bytes ≡ Ok (header_of 24 (suc n) text)
unfolding header_from second_header_from
second_again digest told tells bytes text cubes n gate rest wide canonical long small whole =
    let g = suc n in
    let head = head_bytes g text in
    let behind = digest head ++ gate ∷ rest in
    let left = text ++ behind in
    let r16 = eight_bytes g ++ left in
    let d12 = four_bytes (length text) ++ r16 in
    let parts : bytes ≡ version_front 2 ++ d12 = whole ∙ simp append_assoc in
    let front : take 12 bytes ≡ version_front 2 = ap (take 12) parts ∙ take_at (version_front 2) d12 12 (omega (arith, length-four 2)) in
    let rest12 : drop 12 bytes ≡ d12 = ap (drop 12) parts ∙ drop_at (version_front 2) d12 12 (omega (arith, length-four 2)) in
    let is_second : bytes_eq (take 12 bytes) (version_front 2) ≡ true = is_true (bytes_eq (take 12 bytes) (version_front 2)) ((bytes_eq-Decides (take 12 bytes) (version_front 2)).1 front) in
    let size : four_from (drop 12 bytes) ≡ Ok (length text, r16) = ap four_from rest12 ∙ four_again (length text) r16 long in
    let generation : eight_from r16 ≡ Ok (g, left) = eight_again g left (omega arith) in
    let right : is_right_generation g ≡ true = ap (λ b. leb 1 g && b) (le-leb g (2 ^ 62) small) ∙ ap (λ b. b && true) (le-leb 1 g (omega arith)) in
    let text-at = text_again digest told tells bytes head text cubes 24 g gate rest wide canonical (omega (arith, length-second_head (length text) g text)) whole in
    ap (λ b. cond b (second_header_from digest told bytes) (cond (bytes_eq (take 12 bytes) (version_front 1)) (first_header_from digest told bytes) (Err (BadText 12)))) is_second
    ∙ ap (λ (r : ReadOf ℕ). when_read r (λ size. when_read (eight_from size.1) (λ g. header_at_text digest told bytes 24 size.0 g.0 (is_right_generation g.0) g.1))) size
    ∙ ap (λ (r : ReadOf ℕ). when_read r (λ g. header_at_text digest told bytes 24 (length text) g.0 (is_right_generation g.0) g.1)) generation
    ∙ ap (λ (b : Bool). header_at_text digest told bytes 24 (length text) g b left) right
    ∙ text-at

fronts_differ : version_front 1 ≡ version_front 2 → ⊥
unfolding four_bytes
fronts_differ e = let one : ◌≡◌ {A = ℕ} 1 2 = ap (λ (l : List ℕ). get_or l 8 0) e in omega arith

not_second : (b : Bool) → (IsTrue b → ⊥) → b ≡ false
not_second true other = absurd (other refl)
not_second false other = refl

-- The first header of version 1 that stands in the bytes is read.
first_again : (digest : List ℕ → List ℕ) (told : List ℕ → Option (List Decl)) → TellsCubes told → (bytes text : List ℕ) (cubes : List Decl) (gate : ℕ) (rest : List ℕ)
    → ((m : List ℕ) → length (digest m) ≡ 32) → IsCanonical text cubes → length text < 2 ^ 32
    → bytes ≡ open_gate ∷ (head_bytes 0 text ++ (digest (head_bytes 0 text) ++ gate ∷ rest))
    → header_from digest told bytes ≡ Ok (header_of 16 0 text)
unfolding header_from first_header_from
first_again digest told tells bytes text cubes gate rest wide canonical long whole =
    let head = head_bytes 0 text in
    let behind = digest head ++ gate ∷ rest in
    let left = text ++ behind in
    let d12 = four_bytes (length text) ++ left in
    let parts : bytes ≡ version_front 1 ++ d12 = whole ∙ simp append_assoc in
    let front : take 12 bytes ≡ version_front 1 = ap (take 12) parts ∙ take_at (version_front 1) d12 12 (omega (arith, length-four 1)) in
    let rest12 : drop 12 bytes ≡ d12 = ap (drop 12) parts ∙ drop_at (version_front 1) d12 12 (omega (arith, length-four 1)) in
    let second : bytes_eq (take 12 bytes) (version_front 2) ≡ false =
    not_second (bytes_eq (take 12 bytes) (version_front 2)) (λ t. fronts_differ (sym front ∙ (bytes_eq-Decides (take 12 bytes) (version_front 2)).0 t)) in
    let first : bytes_eq (take 12 bytes) (version_front 1) ≡ true = is_true (bytes_eq (take 12 bytes) (version_front 1)) ((bytes_eq-Decides (take 12 bytes) (version_front 1)).1 front) in
    let size : four_from (drop 12 bytes) ≡ Ok (length text, left) = ap four_from rest12 ∙ four_again (length text) left long in
    let text-at = text_again digest told tells bytes head text cubes 16 0 gate rest wide canonical (omega (arith, length-first_head (length text) text)) whole in
    ap (λ b. cond b (second_header_from digest told bytes) (cond (bytes_eq (take 12 bytes) (version_front 1)) (first_header_from digest told bytes) (Err (BadText 12)))) second
    ∙ ap (λ b. cond b (first_header_from digest told bytes) (Err (BadText 12))) first
    ∙ ap (λ (r : ReadOf ℕ). when_read r (λ size. header_at_text digest told bytes 16 size.0 0 true size.1)) size
    ∙ text-at

short_front : (bytes front : List ℕ) → length bytes < 12 → length front ≡ 12 → bytes_eq (take 12 bytes) front ≡ false
short_front bytes front short long =
    not_second (bytes_eq (take 12 bytes) front) (λ t.
    let same = (bytes_eq-Decides (take 12 bytes) front).0 t in
    omega (arith, ap length same, length-take 12 bytes, short, long))

-- Bytes that are fewer than a front are no header.
pub none_in_few : (digest : List ℕ → List ℕ) (told : List ℕ → Option (List Decl)) (bytes : List ℕ) → length bytes < 12 → header_from digest told bytes ≡ Err (BadText 12)
unfolding header_from
none_in_few digest told bytes short =
    rw (short_front bytes (version_front 2) short (omega (arith, length-four 2)), short_front bytes (version_front 1) short (omega (arith, length-four 1))) refl

-- A header that stands in the bytes is read.
pub header_again : (digest : List ℕ → List ℕ) (told : List ℕ → Option (List Decl)) → TellsCubes told → ((m : List ℕ) → length (digest m) ≡ 32)
    → (bytes : List ℕ) (generation : ℕ) (text : List ℕ) → BeginsWithHeader digest generation text bytes
    → header_from digest told bytes ≡ Ok (header_of (text_start generation) generation text)
unfolding header_bytes
header_again digest told tells wide bytes zero text begins =
    first_again digest told tells bytes text begins.fits.cubes begins.gate begins.rest wide begins.fits.canonical begins.fits.long
    (begins.whole ∙ ap (λ (b : List ℕ). open_gate ∷ b) (append_assoc (head_bytes 0 text) (digest (head_bytes 0 text)) (begins.gate ∷ begins.rest)))
header_again digest told tells wide bytes (suc n) text begins =
    second_again digest told tells bytes text begins.fits.cubes n begins.gate begins.rest wide begins.fits.canonical begins.fits.long begins.fits.small
    (begins.whole ∙ ap (λ (b : List ℕ). open_gate ∷ b) (append_assoc (head_bytes (suc n) text) (digest (head_bytes (suc n) text)) (begins.gate ∷ begins.rest)))

-- How many bytes a header has, without the gate behind it.
pub length-header : (digest : List ℕ → List ℕ) → ((m : List ℕ) → length (digest m) ≡ 32) → (generation : ℕ) (text : List ℕ)
    → length (header_bytes digest generation text) ≡ text_start generation + length text + 32
unfolding header_bytes
length-header digest wide zero text =
    omega (arith, length-append (head_bytes 0 text) (digest (head_bytes 0 text)), wide (head_bytes 0 text), length-first_head (length text) text)
length-header digest wide (suc n) text =
    omega (arith, length-append (head_bytes (suc n) text) (digest (head_bytes (suc n) text)), wide (head_bytes (suc n) text), length-second_head (length text) (suc n) text)

-- ---- what a call answers

abbrev right_header : Header → Result Header FormatFault
right_header h = Ok h

pub found_by : (told : List ℕ → Option (List Decl)) → TellsCubes told → (digest : List ℕ → List ℕ) (bytes : List ℕ) → IsBytes bytes → (r : Result Header (CallError FormatFault))
    → GivesRead (λ h. h) r (header_from digest told bytes) → IfOk r (IsHeader digest bytes)
found_by told tells digest bytes fits (Ok h) given = header_found digest told tells bytes h fits given
found_by told tells digest bytes fits (Err e) given = tt

pub begins_by : (digest : List ℕ → List ℕ) (bytes : List ℕ) (r : Result Header (CallError FormatFault)) → IfOk r (IsHeader digest bytes)
    → IfOk r (λ h. BeginsWithHeader digest h.generation h.cubes bytes)
begins_by digest bytes (Ok h) is = is.begins
begins_by digest bytes (Err e) is = tt

pub size_by : (digest : List ℕ → List ℕ) → ((m : List ℕ) → length (digest m) ≡ 32) → (bytes : List ℕ) (r : Result Header (CallError FormatFault)) → IfOk r (IsHeader digest bytes)
    → IfOk r (λ h. h.size ≡ length (header_bytes digest h.generation h.cubes) + 1)
size_by digest wide bytes (Ok h) is = omega (arith, is.size, length-header digest wide h.generation h.cubes)
size_by digest wide bytes (Err e) is = tt

no_fault : (e : CallError FormatFault) (h : Header) → FailsRead e (right_header h) → e ≡ errors.NoMemory
no_fault errors.NoMemory h given = refl
no_fault (errors.Fault f) h given = absurd cc

pub only_by : (r : Result Header (CallError FormatFault)) (start generation : ℕ) (text : List ℕ) → GivesRead (λ h. h) r (right_header (header_of start generation text))
    → MatchResult r (λ h. (h.generation ≡ generation) × (h.cubes ≡ text)) (λ e. e ≡ errors.NoMemory)
only_by (Ok h) start generation text given =
    let same = ok_is FormatFault (header_of start generation text) h given in
    (ap (λ (x : Header). x.generation) (sym same), ap (λ (x : Header). x.cubes) (sym same))
only_by (Err e) start generation text given = no_fault e (header_of start generation text) given

-- What was put one after the other is a header of version 2.
pub header_written : (digest : List ℕ → List ℕ) (generation : ℕ) (text out : List ℕ) (gate : ℕ) → 1 ≤ generation
    → out ≡ open_gate ∷ (second_head (length text) generation text ++ (digest (second_head (length text) generation text) ++ gate ∷ []))
    → out ≡ header_bytes digest generation text ++ gate ∷ []
unfolding header_bytes
header_written digest generation text out gate some put =
    let head = head-is_second generation text some in
    put ∙ (λ i. open_gate ∷ (head i ++ (digest (head i) ++ gate ∷ [])))
    ∙ ap (λ (b : List ℕ). open_gate ∷ b) (sym (append_assoc (head_bytes generation text) (digest (head_bytes generation text)) (gate ∷ [])))
