-- A payload is read as it is spelled.
use Rattle.std.proofs.Common.{◌≡◌, ℕ, zero, suc, ◌+◌, ◌-◌, ◌^◌, ◌<◌, ◌≤◌, Bool, true, false, cond, ltb, ◌&&◌, List, [], ◌∷◌, ◌++◌, length, map, take, drop, Option, Some, None, Result, Ok, Err, IsTrue, All, inl, inr, refl, sym, ap, subst, ◌∙◌, append_assoc, arith}
use Rattle.std.specs.Prelude.{◌==◌, nat_le, nat_lt, MatchOption, is_none}
use Rattle.std.specs.List.{flat_map, zip, AllZip, AllByRecursion}
use Rattle.std.proofs.lemmas.Bool.{leb-true, le-leb, ltb-false, le-ltb, eqb-true, eq-eqb, cases_Bool}
use Rattle.std.proofs.lemmas.Grind.{flat_map-append}
use Rattle.std.proofs.lemmas.List.{take_at, drop_at, take-append-drop, length-append, length-map, length-take, append-nil}
use Rattle.std.proofs.lemmas.List.Elements.{All-nil}
use Rattle.std.proofs.lemmas.Str.{IsUtf8-nil}
use Rattle.cube_language.specs.declared.decl.TheConstants.{MOST_CUBES}
use Rattle.cube_language.specs.declared.decl.Decl.{Decl}
use Rattle.cube_language.specs.Cubes.{cubes_text, repeated_after, IsStorable}
use Rattle.cube_language.specs.CubesText.{Declares, Skipped}
use Rattle.cube_rounds.specs.declared.round.RoundCube.{RoundCube}
use Rattle.cube_rounds.specs.declared.round.Round.{Round}
use Rattle.cube_rounds.specs.Bytes.{eight_bytes, cube_bytes, made_bytes, payload_bytes}
use Rattle.cube_rounds.specs.Demands.{DimNames, no_names, cube_names_of, MayBeMade, HaveDims, FitsRoundCube}
use Rattle.cube_rounds.specs.Headers.{IsCanonical}
use Rattle.round_fields.specs.Canonical.{TellsCubes}
use Rattle.round_fields.specs.Reading.{◌>>=◌, ReadOf, with_test, each_step, eight_from}
use Rattle.round_fields.proofs.FieldLaws.{IsBytes, IsBytes-drop, passed, bind_ok, ok_is, Takes, Takes-then, reads_eight}
use Rattle.round_reading.specs.Payload.{cube_step, may_be_new, made_or, made_of_size, made_from, PayloadContent, payload_content, payload_from}
use Rattle.round_reading.proofs.Sequences.{reads_passing, shorter, then_ok}
use Rattle.round_reading.proofs.RowLaws.{is_true, as_true}
use Rattle.round_reading.proofs.NameLaws.{both_true}
use Rattle.round_reading.proofs.Storable.{IsWide, are_wide}
use Rattle.round_reading.proofs.CubeLaws.{IsReady, each_cube, FitEach, cubes_take, cubes_again}

-- ---- new cubes

-- What reading new cubes gives.
pub record TakesMade (before : List Decl) (count : ℕ) (bytes : List ℕ) (made : List Decl) (rest : List ℕ) : Type 0 where
  pub taken : Takes bytes (made_bytes made) rest
  pub declared : Declares (cubes_text made) made
  pub apart : repeated_after (cube_names_of before) (cube_names_of made) ≡ None
  pub count_is : length made ≡ count

none_is : {A : Type 0} (o : Option A) → is_none o ≡ true → o ≡ None
none_is None e = refl
none_is (Some x) e = absurd cc

-- Cubes that were told and tested.
made_right : (before : List Decl) (count : ℕ) (o : Option (List Decl)) (left : ℕ) (rest : List ℕ) (made : List Decl) (after : List ℕ)
    → made_or before count o left rest ≡ Ok (made, after) → (o ≡ Some made) × (rest ≡ after) × (may_be_new before count made ≡ true)
made_right before count None left rest made after e = absurd cc
made_right before count (Some found) left rest made after e =
    let p = passed (may_be_new before count found) left (found, rest) (made, after) e in
    let same : found ≡ made = ap (λ (q : List Decl × List ℕ). q.0) p.1 in
    (ap Some same, ap (λ (q : List Decl × List ℕ). q.1) p.1, subst (λ (m : List Decl). may_be_new before count m ≡ true) same p.0)

told_is_canonical : (told : List ℕ → Option (List Decl)) → TellsCubes told → (text : List ℕ) (made : List Decl) → told text ≡ Some made → IsCanonical text made
told_is_canonical told tells text made e =
    subst (λ (o : Option (List Decl)). MatchOption o ((cubes : List Decl) → IsCanonical text cubes → ⊥) (IsCanonical text)) e (tells text)

some_made : (size : ℕ) (made : List Decl) → 0 < length made → size ≡ length (cubes_text made)
    → eight_bytes size ++ cubes_text made ≡ made_bytes made
some_made size [] some is = absurd (omega arith)
some_made size (cube ∷ made) some is = ap (λ (n : ℕ). eight_bytes n ++ cubes_text (cube ∷ made)) is

made_sized : (told : List ℕ → Option (List Decl)) → TellsCubes told → (before : List Decl) (count : ℕ) → 0 < count → (bytes : List ℕ) (size : ℕ) (text : List ℕ) (made : List Decl) (rest : List ℕ)
    → Takes bytes (eight_bytes size) text → made_of_size told before count (size, text) ≡ Ok (made, rest) → TakesMade before count bytes made rest
made_sized told tells before count some bytes size text made rest taken e =
    let p = fits_in (nat_lt (length text) size) (length text) (made_or before count (told (take size text)) (length text) (drop size text)) (made, rest) e in
    let long : size ≤ length text = ltb-false _ _ p.0 in
    let q = made_right before count (told (take size text)) (length text) (drop size text) made rest p.1 in
    let c = told_is_canonical told tells (take size text) made q.0 in
    let new = both_true (length made == count) (is_none (repeated_after (cube_names_of before) (cube_names_of made))) q.2 in
    let count-is : length made ≡ count = eqb-true _ _ new.0 in
    let size-is : size ≡ length (cubes_text made) = omega (arith, length-take size text, long, ap length c.canonical) in
    let parts : text ≡ cubes_text made ++ rest = sym (take-append-drop size text) ∙ (λ i. c.canonical i ++ q.1 i) in
    let behind : Takes text (cubes_text made) rest = record { parts = parts; rest_fits = subst IsBytes q.1 (IsBytes-drop size text taken.rest_fits) } in
    record {
      taken = subst (λ (b : List ℕ). Takes bytes b rest) (some_made size made (omega (arith, count-is)) size-is)
          (Takes-then bytes (eight_bytes size) text (cubes_text made) rest taken behind);
      declared = subst (λ (t : List ℕ). Declares t made) c.canonical c.declares;
      apart = none_is (repeated_after (cube_names_of before) (cube_names_of made)) new.1;
      count_is = count-is;
    }
  where
    fits_in : {A F : Type 0} (b : Bool) (d : F) (r : Result A F) (y : A) → cond b (Err d) r ≡ Ok y → (b ≡ false) × (r ≡ Ok y)
    fits_in true d r y e = absurd cc
    fits_in false d r y e = (refl, e)

nothing_declared : Declares [] []
nothing_declared = record {
  lines = Skipped ∷ [];
  formed = record { utf8 = IsUtf8-nil; forms = (tt, tt); order = (tt, tt) };
  names = refl;
  few = omega arith;
  are = refl;
  storable = All-nil IsStorable;
}

positive : (n : ℕ) → (n == 0) ≡ false → 0 < n
positive zero e = absurd cc
positive (suc n) e = omega arith

not_zero : (n : ℕ) → 0 < n → (n == 0) ≡ false
not_zero n some =
    elim (cases_Bool (n == 0)) [
      | inl none ↦ absurd (omega (arith, eqb-true n 0 none, some))
      | inr other ↦ other
    ]

none_taken : (before : List Decl) (count : ℕ) (bytes : List ℕ) → IsBytes bytes → count ≡ 0 → TakesMade before count bytes [] bytes
none_taken before count bytes fits none = record { taken = record { parts = refl; rest_fits = fits }; declared = nothing_declared; apart = refl; count_is = sym none }

pub made_takes : (told : List ℕ → Option (List Decl)) → TellsCubes told → (before : List Decl) (count : ℕ) (bytes : List ℕ) (made : List Decl) (rest : List ℕ) → IsBytes bytes
    → made_from told before count bytes ≡ Ok (made, rest) → TakesMade before count bytes made rest
unfolding made_from
made_takes told tells before count bytes made rest fits e =
    elim (count == 0) as (λ b. (count == 0) ≡ b → cond b (Ok ([], bytes)) (eight_from bytes >>= made_of_size told before count) ≡ Ok (made, rest) → TakesMade before count bytes made rest) [
      | true ↦ λ is r.
          let same = ok_is ℕ ([], bytes) (made, rest) r in
          subst (λ (p : List Decl × List ℕ). TakesMade before count bytes p.0 p.1) same (none_taken before count bytes fits (eqb-true count 0 is))
      | false ↦ λ is r.
          let a = bind_ok (eight_from bytes) (made_of_size told before count) (made, rest) r in
          let size = reads_eight.takes bytes a.0.0 a.0.1 fits a.1 in
          made_sized told tells before count (positive count is) bytes a.0.0 a.0.1 made rest size.0 a.2
    ] refl e

told_again : (told : List ℕ → Option (List Decl)) → TellsCubes told → ((text : List ℕ) (a b : List Decl) → Declares text a → Declares text b → a ≡ b)
    → (made : List Decl) → Declares (cubes_text made) made → told (cubes_text made) ≡ Some made
told_again told tells one_list made declared =
    elim (told (cubes_text made)) as (λ o. MatchOption o ((cubes : List Decl) → IsCanonical (cubes_text made) cubes → ⊥) (IsCanonical (cubes_text made)) → o ≡ Some made) [
      | None ↦ λ m. absurd (m made (record { declares = declared; canonical = refl }))
      | Some other ↦ λ m. ap Some (one_list (cubes_text made) other made m.declares declared)
    ] (tells (cubes_text made))

pub made_again : (told : List ℕ → Option (List Decl)) → TellsCubes told → ((text : List ℕ) (a b : List Decl) → Declares text a → Declares text b → a ≡ b)
    → (before made : List Decl) (rest : List ℕ) → Declares (cubes_text made) made → repeated_after (cube_names_of before) (cube_names_of made) ≡ None
    → length (made_bytes made ++ rest) < 2 ^ 64 → made_from told before (length made) (made_bytes made ++ rest) ≡ Ok (made, rest)
unfolding made_from
made_again told tells one_list before [] rest declared apart short = refl
made_again told tells one_list before (cube ∷ cubes) rest declared apart short =
    let made = cube ∷ cubes in
    let text = cubes_text made in
    let size = length text in
    let parted : (eight_bytes size ++ text) ++ rest ≡ eight_bytes size ++ (text ++ rest) = append_assoc (eight_bytes size) text rest in
    let lt : length (eight_bytes size ++ (text ++ rest)) < 2 ^ 64 = rw (← parted) short in
    let small : size < 2 ^ 64 = omega (arith, length-append text rest, length-append (eight_bytes size) (text ++ rest), lt) in
    let read : eight_from (eight_bytes size ++ (text ++ rest)) ≡ Ok (size, text ++ rest) = reads_eight.again size (text ++ rest) small lt in
    let long : ltb (length (text ++ rest)) size ≡ false = le-ltb _ _ (omega (arith, length-append text rest)) in
    let front : take size (text ++ rest) ≡ text = take_at text rest size refl in
    let behind : drop size (text ++ rest) ≡ rest = drop_at text rest size refl in
    let told-it : told text ≡ Some made = told_again told tells one_list made declared in
    let n = length made in
    let right : may_be_new before n made ≡ true =
    ap (λ b. b && is_none (repeated_after (cube_names_of before) (cube_names_of made))) (eq-eqb n n refl) ∙ ap is_none apart in
    let left = length (text ++ rest) in
    let good : List ℕ → ReadOf (List Decl) = λ r. Ok (made, r) in
    let bad : ReadOf (List Decl) = Err left in
    let last : made_or before n (told (take size (text ++ rest))) left (drop size (text ++ rest)) ≡ good rest =
    ap (λ (t : List ℕ). made_or before n (told t) left (drop size (text ++ rest))) front
    ∙ ap (λ (o : Option (List Decl)). made_or before n o left (drop size (text ++ rest))) told-it
    ∙ ap (λ b. cond b (good (drop size (text ++ rest))) bad) right
    ∙ ap good behind in
    let sized : made_of_size told before n (size, text ++ rest) ≡ good rest =
    ap (λ b. cond b bad (made_or before n (told (take size (text ++ rest))) left (drop size (text ++ rest)))) long ∙ last in
    let none : ReadOf (List Decl) = Ok ([], eight_bytes size ++ (text ++ rest)) in
    let whole : made_from told before n (eight_bytes size ++ (text ++ rest)) ≡ good rest =
    ap (λ b. cond b none (eight_from (eight_bytes size ++ (text ++ rest)) >>= made_of_size told before n)) (not_zero n (omega arith))
    ∙ then_ok (eight_from (eight_bytes size ++ (text ++ rest))) (made_of_size told before n) (size, text ++ rest) (good rest) read sized in
    ap (made_from told before n) parted ∙ whole

-- ---- all cubes

zip_append : {A B : Type 0} (xs more : List A) (ys others : List B) → length xs ≡ length ys → zip (xs ++ more) (ys ++ others) ≡ zip xs ys ++ zip more others
zip_append [] more [] others same = refl
zip_append [] more (y ∷ ys) others same = absurd (omega arith)
zip_append (x ∷ xs) more [] others same = absurd (omega arith)
zip_append (x ∷ xs) more (y ∷ ys) others same = ap (λ (z : List (_ × _)). (x, y) ∷ z) (zip_append xs more ys others (omega arith))

all_zip_append : {A B : Type 0} (R : A → B → Type 0) (xs more : List A) (ys others : List B) → AllZip R xs ys → AllZip R more others → AllZip R (xs ++ more) (ys ++ others)
all_zip_append R [] more [] others a b = b
all_zip_append R [] more (y ∷ ys) others a b = absurd a
all_zip_append R (x ∷ xs) more [] others a b = absurd a
all_zip_append R (x ∷ xs) more (y ∷ ys) others a b = (a.0, all_zip_append R xs more ys others a.1 b)

pub dims_length : (cubes : List Decl) (names : List DimNames) → HaveDims cubes names → length cubes ≡ length names
dims_length [] [] dims = refl
dims_length [] (lists ∷ names) dims = absurd dims
dims_length (cube ∷ cubes) [] dims = absurd dims
dims_length (cube ∷ cubes) (lists ∷ names) dims = ap suc (dims_length cubes names dims.1)

pub all_ready : (cubes : List Decl) (names : List DimNames) → HaveDims cubes names → AllByRecursion IsWide cubes → AllByRecursion IsReady (zip cubes names)
all_ready [] [] dims room = tt
all_ready [] (lists ∷ names) dims room = absurd dims
all_ready (cube ∷ cubes) [] dims room = absurd dims
all_ready (cube ∷ cubes) (lists ∷ names) dims room = (record { dims = dims.0; room = room.0 }, all_ready cubes names dims.1 room.1)

pub no_names_dims : (made : List Decl) → HaveDims made (map no_names made)
no_names_dims [] = tt
no_names_dims (cube ∷ made) = (length-map cube.dims (λ dim. []), no_names_dims made)

-- The spelling does not look at the names that there were.
cubes_alike : (cubes : List Decl) (names : List DimNames) (parts : List RoundCube) → length cubes ≡ length names
    → each_cube (zip cubes names) parts ≡ flat_map (λ c. cube_bytes c.0 c.1) (zip cubes parts)
cubes_alike [] [] parts same = refl
cubes_alike [] (lists ∷ names) parts same = absurd (omega arith)
cubes_alike (cube ∷ cubes) [] parts same = absurd (omega arith)
cubes_alike (cube ∷ cubes) (lists ∷ names) [] same = refl
cubes_alike (cube ∷ cubes) (lists ∷ names) (part ∷ parts) same =
    ap (λ (b : List ℕ). cube_bytes cube part ++ b) (cubes_alike cubes names parts (omega arith))

fit_length : (from epoch : ℕ) (cubes : List (Decl × DimNames)) (parts : List RoundCube) → FitEach from epoch cubes parts → length cubes ≡ length parts
fit_length from epoch [] [] fit = refl
fit_length from epoch [] (part ∷ parts) fit = absurd fit
fit_length from epoch (c ∷ cubes) [] fit = absurd fit
fit_length from epoch (c ∷ cubes) (part ∷ parts) fit = ap suc (fit_length from epoch cubes parts fit.1)

zip_long : {A B : Type 0} (xs : List A) (ys : List B) → length xs ≡ length ys → length (zip xs ys) ≡ length xs
zip_long [] [] same = refl
zip_long [] (y ∷ ys) same = absurd (omega arith)
zip_long (x ∷ xs) [] same = absurd (omega arith)
zip_long (x ∷ xs) (y ∷ ys) same = ap suc (zip_long xs ys (omega arith))

-- The parts of the cubes before and of the new ones, one after the other.
both_spelled : (before made : List Decl) (names : List DimNames) (olds news : List RoundCube) → length before ≡ length names → length before ≡ length olds
    → each_cube (zip before names) olds ++ each_cube (zip made (map no_names made)) news
    ≡ flat_map (λ c. cube_bytes c.0 c.1) (zip (before ++ made) (olds ++ news))
both_spelled before made names olds news same count =
    (λ i. cubes_alike before names olds same i ++ cubes_alike made (map no_names made) news (sym (length-map made no_names)) i)
    ∙ sym (flat_map-append (λ (c : Decl × RoundCube). cube_bytes c.0 c.1) (zip before olds) (zip made news))
    ∙ ap (flat_map (λ (c : Decl × RoundCube). cube_bytes c.0 c.1)) (sym (zip_append before made olds news count))

-- ---- payloads

-- A payload may stand behind these cubes and names.
pub record FitsPayload (before : List Decl) (names : List DimNames) (from epoch : ℕ) (c : PayloadContent) : Type 0 where
  pub made : MayBeMade before c.made
  pub cubes : FitEach from epoch (zip (before ++ c.made) (names ++ map no_names c.made)) c.cubes

-- A round with these epochs and this content.
abbrev pub round_with : ℕ → ℕ → PayloadContent → Round
round_with from epoch c = record { from = from; epoch = epoch; made = c.made; cubes = c.cubes }

count_test : (before : List Decl) (n : ℕ) → IsTrue (nat_le (length before) n && nat_le n MOST_CUBES) → (length before ≤ n) × (n ≤ MOST_CUBES)
count_test before n test =
    let b = both_true (nat_le (length before) n) (nat_le n MOST_CUBES) (is_true (nat_le (length before) n && nat_le n MOST_CUBES) test) in
    (leb-true _ _ b.0, leb-true _ _ b.1)

nothing_left : (xs : List ℕ) → (length xs == 0) ≡ true → xs ≡ []
nothing_left [] e = refl
nothing_left (x ∷ xs) e = absurd (omega (arith, eqb-true (length (x ∷ xs)) 0 e))

whole_payload : (before : List Decl) (names : List DimNames) (count : ℕ) (bytes r0 r1 r2 : List ℕ) (made : List Decl) (olds news : List RoundCube)
    → length before ≡ length names → length before ≡ length olds → count ≡ length before + length made
    → bytes ≡ eight_bytes count ++ r0 → r0 ≡ made_bytes made ++ r1 → r1 ≡ each_cube (zip before names) olds ++ r2 → r2 ≡ each_cube (zip made (map no_names made)) news ++ []
    → (from epoch : ℕ) → bytes ≡ payload_bytes before (round_with from epoch (payload_content made (olds ++ news)))
whole_payload before names count bytes r0 r1 r2 made olds news same long count-is e0 e1 e2 e3 from epoch =
    let old = each_cube (zip before names) olds in
    let new = each_cube (zip made (map no_names made)) news in
    let tail : r1 ≡ flat_map (λ c. cube_bytes c.0 c.1) (zip (before ++ made) (olds ++ news)) =
    e2 ∙ ap (λ (b : List ℕ). old ++ b) (e3 ∙ append-nil new) ∙ both_spelled before made names olds news same long in
    e0 ∙ (λ i. eight_bytes (count-is i) ++ (e1 ∙ ap (λ (b : List ℕ). made_bytes made ++ b) tail) i)

pub payload_takes : (told : List ℕ → Option (List Decl)) → TellsCubes told → (before : List Decl) (names : List DimNames) → All IsStorable before → HaveDims before names
    → (from epoch : ℕ) → epoch < 2 ^ 64 → (bytes : List ℕ) (c : PayloadContent) → IsBytes bytes → payload_from told before names from epoch bytes ≡ Ok c
    → (bytes ≡ payload_bytes before (round_with from epoch c)) × FitsPayload before names from epoch c
unfolding payload_from
payload_takes told tells before names storable dims from epoch small bytes c fits e =
    let test : ℕ → Bool = λ n. nat_le (length before) n && nat_le n MOST_CUBES in
    let step = cube_step from epoch in
    let end : List Decl × List ℕ → List RoundCube × List ℕ → Result PayloadContent ℕ = λ made cubes. cond (length cubes.1 == 0) (Ok (payload_content made.0 cubes.0)) (Err (length cubes.1)) in
    let second : List Decl × List ℕ → List RoundCube × List ℕ → Result PayloadContent ℕ = λ made old. each_step step (zip made.0 (map no_names made.0)) old.0 old.1 >>= end made in
    let first : List Decl × List ℕ → Result PayloadContent ℕ = λ made. each_step step (zip before names) [] made.1 >>= second made in
    let a = bind_ok (with_test test eight_from bytes) (λ count. made_from told before (count.0 - length before) count.1 >>= first) c e in
    let b = bind_ok (made_from told before (a.0.0 - length before) a.0.1) first c a.2 in
    let o = bind_ok (each_step step (zip before names) [] b.0.1) (second b.0) c b.2 in
    let n = bind_ok (each_step step (zip b.0.0 (map no_names b.0.0)) o.0.0 o.0.1) (end b.0) c o.2 in
    let last = passed (length n.0.1 == 0) (length n.0.1) (payload_content b.0.0 n.0.0) c n.2 in
    let counts = reads_passing eight_bytes (λ k. k < 2 ^ 64) eight_from test reads_eight in
    let count = counts.takes bytes a.0.0 a.0.1 fits a.1 in
    let within = count_test before a.0.0 count.1.1 in
    let m = made_takes told tells before (a.0.0 - length before) a.0.1 b.0.0 b.0.1 count.0.rest_fits b.1 in
    let old = cubes_take from epoch small (zip before names) (all_ready before names dims (are_wide before storable)) [] b.0.1 o.0.0 o.0.1 m.taken.rest_fits o.1 in
    let new = cubes_take from epoch small (zip b.0.0 (map no_names b.0.0)) (all_ready b.0.0 (map no_names b.0.0) (no_names_dims b.0.0) (are_wide b.0.0 m.declared.storable)) o.0.0 o.0.1 n.0.0 n.0.1 old.taken.rest_fits n.1 in
    let cubes-are : n.0.0 ≡ old.parts ++ new.parts = new.are ∙ ap (λ (x : List RoundCube). x ++ new.parts) old.are in
    let end-is : n.0.1 ≡ [] = nothing_left n.0.1 last.0 in
    let same = dims_length before names dims in
    let long : length before ≡ length old.parts = sym (zip_long before names same) ∙ fit_length from epoch (zip before names) old.parts old.fit in
    let content : payload_content b.0.0 (old.parts ++ new.parts) ≡ c = ap (payload_content b.0.0) (sym cubes-are) ∙ last.1 in
    let whole = whole_payload before names a.0.0 bytes a.0.1 b.0.1 o.0.1 b.0.0 old.parts new.parts same long (omega (arith, m.count_is, within.0))
    count.0.parts m.taken.parts old.taken.parts (new.taken.parts ∙ ap (λ (r : List ℕ). each_cube (zip b.0.0 (map no_names b.0.0)) new.parts ++ r) end-is) from epoch in
    let right : FitsPayload before names from epoch (payload_content b.0.0 (old.parts ++ new.parts)) = record {
      made = record { declared = m.declared; apart = m.apart; most = omega (arith, m.count_is, within.0, within.1, length-append before b.0.0) };
      cubes = subst (λ (z : List (Decl × DimNames)). FitEach from epoch z (old.parts ++ new.parts)) (sym (zip_append before b.0.0 names (map no_names b.0.0) same))
          (all_zip_append (λ (c : Decl × DimNames) part. FitsRoundCube from epoch c.0 c.1 part) (zip before names) (zip b.0.0 (map no_names b.0.0)) old.parts new.parts old.fit new.fit);
    } in
    subst (λ (x : PayloadContent). (bytes ≡ payload_bytes before (round_with from epoch x)) × FitsPayload before names from epoch x) content (whole, right)

-- Two lists of parts, of which the second stands behind the first.
record Halves {A B : Type 0} (R : A → B → Type 0) (xs more : List A) (all : List B) : Type 0 where
  pub front : List B
  pub behind : List B
  pub are : all ≡ front ++ behind
  pub first : AllZip R xs front
  pub second : AllZip R more behind

halves : {A B : Type 0} (R : A → B → Type 0) (xs more : List A) (all : List B) → AllZip R (xs ++ more) all → Halves R xs more all
halves R [] more all fit = record { front = []; behind = all; are = refl; first = tt; second = fit }
halves R (x ∷ xs) more [] fit = absurd fit
halves R (x ∷ xs) more (y ∷ all) fit =
    let h = halves R xs more all fit.1 in
    record { front = y ∷ h.front; behind = h.behind; are = ap (λ (z : List _). y ∷ z) h.are; first = (fit.0, h.first); second = h.second }

parts_again : (told : List ℕ → Option (List Decl)) → TellsCubes told → ((text : List ℕ) (a b : List Decl) → Declares text a → Declares text b → a ≡ b)
    → (before : List Decl) (names : List DimNames) → All IsStorable before → HaveDims before names
    → (from epoch : ℕ) → epoch < 2 ^ 64 → (made : List Decl) (olds news : List RoundCube) → MayBeMade before made
    → FitEach from epoch (zip before names) olds → FitEach from epoch (zip made (map no_names made)) news
    → length (eight_bytes (length before + length made) ++ (made_bytes made ++ (each_cube (zip before names) olds ++ (each_cube (zip made (map no_names made)) news ++ [])))) < 2 ^ 64
    → payload_from told before names from epoch (eight_bytes (length before + length made) ++ (made_bytes made ++ (each_cube (zip before names) olds ++ (each_cube (zip made (map no_names made)) news ++ []))))
    ≡ Ok (payload_content made (olds ++ news))
unfolding payload_from
parts_again told tells one_list before names storable dims from epoch small made olds news may old-fit new-fit short =
    let test : ℕ → Bool = λ n. nat_le (length before) n && nat_le n MOST_CUBES in
    let step = cube_step from epoch in
    let end : List Decl × List ℕ → List RoundCube × List ℕ → Result PayloadContent ℕ = λ made cubes. cond (length cubes.1 == 0) (Ok (payload_content made.0 cubes.0)) (Err (length cubes.1)) in
    let second : List Decl × List ℕ → List RoundCube × List ℕ → Result PayloadContent ℕ = λ made old. each_step step (zip made.0 (map no_names made.0)) old.0 old.1 >>= end made in
    let first : List Decl × List ℕ → Result PayloadContent ℕ = λ made. each_step step (zip before names) [] made.1 >>= second made in
    let n = length before + length made in
    let r2 = each_cube (zip made (map no_names made)) news ++ [] in
    let r1 = each_cube (zip before names) olds ++ r2 in
    let r0 = made_bytes made ++ r1 in
    let most : n ≤ MOST_CUBES = omega (arith, may.most, length-append before made) in
    let lt0 = shorter (eight_bytes n) r0 short in
    let lt1 = shorter (made_bytes made) r1 lt0 in
    let lt2 = shorter (each_cube (zip before names) olds) r2 lt1 in
    let right : IsTrue (test n) = as_true (test n) (rw (le-leb (length before) n (omega arith), le-leb n MOST_CUBES most) refl) in
    let counts = reads_passing eight_bytes (λ k. k < 2 ^ 64) eight_from test reads_eight in
    let count : with_test test eight_from (eight_bytes n ++ r0) ≡ Ok (n, r0) = counts.again n r0 (omega (arith, most), right) short in
    let less : n - length before ≡ length made = omega arith in
    let made-read : made_from told before (n - length before) r0 ≡ Ok (made, r1) =
    ap (λ (k : ℕ). made_from told before k r0) less ∙ made_again told tells one_list before made r1 may.declared may.apart lt0 in
    let old-read = cubes_again from epoch small (zip before names) (all_ready before names dims (are_wide before storable)) olds [] r2 old-fit lt1 in
    let new-read = cubes_again from epoch small (zip made (map no_names made)) (all_ready made (map no_names made) (no_names_dims made) (are_wide made may.declared.storable)) news olds [] new-fit lt2 in
    then_ok (with_test test eight_from (eight_bytes n ++ r0)) (λ count. made_from told before (count.0 - length before) count.1 >>= first) (n, r0) (Ok (payload_content made (olds ++ news))) count
    (then_ok (made_from told before (n - length before) r0) first (made, r1) (Ok (payload_content made (olds ++ news))) made-read
    (then_ok (each_step step (zip before names) [] r1) (second (made, r1)) (olds, r2) (Ok (payload_content made (olds ++ news))) old-read
    (then_ok (each_step step (zip made (map no_names made)) olds r2) (end (made, r1)) (olds ++ news, []) (Ok (payload_content made (olds ++ news))) new-read refl)))

pub payload_again : (told : List ℕ → Option (List Decl)) → TellsCubes told → ((text : List ℕ) (a b : List Decl) → Declares text a → Declares text b → a ≡ b)
    → (before : List Decl) (names : List DimNames) → All IsStorable before → HaveDims before names
    → (from epoch : ℕ) → epoch < 2 ^ 64 → (c : PayloadContent) → FitsPayload before names from epoch c → length (payload_bytes before (round_with from epoch c)) < 2 ^ 64
    → payload_from told before names from epoch (payload_bytes before (round_with from epoch c)) ≡ Ok c
payload_again told tells one_list before names storable dims from epoch small c fits short =
    let same = dims_length before names dims in
    let R : Decl × DimNames → RoundCube → Type 0 = λ c part. FitsRoundCube from epoch c.0 c.1 part in
    let split : FitEach from epoch (zip before names ++ zip c.made (map no_names c.made)) c.cubes =
    subst (λ (z : List (Decl × DimNames)). FitEach from epoch z c.cubes) (zip_append before c.made names (map no_names c.made) same) fits.cubes in
    let h = halves R (zip before names) (zip c.made (map no_names c.made)) c.cubes split in
    let old = each_cube (zip before names) h.front in
    let new = each_cube (zip c.made (map no_names c.made)) h.behind in
    let long : length before ≡ length h.front = sym (zip_long before names same) ∙ fit_length from epoch (zip before names) h.front h.first in
    let tail : flat_map (λ c. cube_bytes c.0 c.1) (zip (before ++ c.made) c.cubes) ≡ old ++ (new ++ []) =
    ap (λ (x : List RoundCube). flat_map (λ c. cube_bytes c.0 c.1) (zip (before ++ c.made) x)) h.are
    ∙ sym (both_spelled before c.made names h.front h.behind same long)
    ∙ ap (λ (b : List ℕ). old ++ b) (sym (append-nil new)) in
    let whole : payload_bytes before (round_with from epoch c) ≡ eight_bytes (length before + length c.made) ++ (made_bytes c.made ++ (old ++ (new ++ []))) =
    ap (λ (b : List ℕ). eight_bytes (length before + length c.made) ++ (made_bytes c.made ++ b)) tail in
    let content : payload_content c.made (h.front ++ h.behind) ≡ c = ap (payload_content c.made) (sym h.are) in
    ap (payload_from told before names from epoch) whole
    ∙ parts_again told tells one_list before names storable dims from epoch small c.made h.front h.behind fits.made h.first h.second (subst (λ (b : List ℕ). length b < 2 ^ 64) whole short)
    ∙ ap (λ (x : PayloadContent). Ok x) content
