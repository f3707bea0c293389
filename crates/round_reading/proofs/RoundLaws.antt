-- A round is read as it is spelled, and no others are.
use Rattle.std.proofs.Common.{◌≡◌, ℕ, ◌+◌, ◌^◌, ◌<◌, ◌≤◌, true, cond, ◌&&◌, List, [], ◌∷◌, ◌++◌, length, take, drop, Option, Result, Ok, Err, All, refl, sym, ap, subst, ◌∙◌, append_assoc, arith}
use Rattle.std.specs.Prelude.{IfOk, MatchResult, nat_lt, nat_le}
use Rattle.std.proofs.lemmas.Bool.{ltb-true, lt-ltb, leb-true, le-leb}
use Rattle.std.proofs.lemmas.List.{take_at, drop_at, length-append, length-take}
use Rattle.cube_values.specs.declared.call_error.CallError.{CallError}
use Rattle.cube_values.specs.declared.call_error.CallError.TheVariants as errors
use Rattle.cube_language.specs.declared.decl.Decl.{Decl}
use Rattle.cube_language.specs.Cubes.{IsStorable}
use Rattle.cube_language.specs.CubesText.{Declares}
use Rattle.cube_rounds.specs.declared.round.Round.{Round}
use Rattle.cube_rounds.specs.Bytes.{eight_bytes, payload_bytes, body_bytes, round_bytes}
use Rattle.cube_rounds.specs.Demands.{DimNames, HaveDims, FitsRound, BeginsWithRound}
use Rattle.round_fields.specs.declared.fault.FormatFault.{FormatFault}
use Rattle.round_fields.specs.declared.fault.FormatFault.TheVariants.{BadText}
use Rattle.round_fields.specs.Canonical.{TellsCubes}
use Rattle.round_fields.specs.Digests.{where_digest_is}
use Rattle.round_fields.specs.Reading.{◌>>=◌, FailsRead, GivesRead, ReadOf, eight_from}
use Rattle.round_fields.proofs.DigestLaws.{passes, digest_was, same_digest, both_true, tail_of}
use Rattle.round_fields.proofs.FieldLaws.{IsBytes, IsBytes-take, bind_ok, ok_is, Takes, Takes-then, reads_eight, length-eight, eight_left}
use Rattle.round_reading.specs.declared.front.RoundFront.{RoundFront}
use Rattle.round_reading.specs.Payload.{PayloadContent, payload_content, payload_from}
use Rattle.round_reading.specs.RoundReading.{front_of, front_from, is_right_front, round_size, round_of_content, round_behind, round_from}
use Rattle.round_reading.specs.Spellings.{RoundsAreApart}
use Rattle.round_reading.proofs.PayloadLaws.{FitsPayload, round_with, payload_takes, payload_again}

-- The bytes of what stands before a payload.
abbrev front_bytes : RoundFront → List ℕ
front_bytes f = eight_bytes f.epoch ++ (eight_bytes f.from ++ eight_bytes f.size)

length-front : (f : RoundFront) → length (front_bytes f) ≡ 24
length-front f =
    omega (
      arith,
      length-append (eight_bytes f.epoch) (eight_bytes f.from ++ eight_bytes f.size),
      length-append (eight_bytes f.from) (eight_bytes f.size),
      length-eight f.epoch,
      length-eight f.from,
      length-eight f.size,
    )

front_takes : (bytes : List ℕ) (f : RoundFront) (left : List ℕ) → IsBytes bytes → front_from bytes ≡ Ok (f, left) → Takes bytes (front_bytes f) left
unfolding front_from
front_takes bytes f left fits e =
    let last : ℕ × List ℕ → ℕ × List ℕ → ℕ × List ℕ → ReadOf RoundFront = λ epoch from size. Ok (front_of epoch.0 from.0 size.0, size.1) in
    let second : ℕ × List ℕ → ℕ × List ℕ → ReadOf RoundFront = λ epoch from. eight_from from.1 >>= last epoch from in
    let first : ℕ × List ℕ → ReadOf RoundFront = λ epoch. eight_from epoch.1 >>= second epoch in
    let a = bind_ok (eight_from bytes) first (f, left) e in
    let b = bind_ok (eight_from a.0.1) (second a.0) (f, left) a.2 in
    let c = bind_ok (eight_from b.0.1) (last a.0 b.0) (f, left) b.2 in
    let same = ok_is ℕ (front_of a.0.0 b.0.0 c.0.0, c.0.1) (f, left) c.2 in
    let x = reads_eight.takes bytes a.0.0 a.0.1 fits a.1 in
    let y = reads_eight.takes a.0.1 b.0.0 b.0.1 x.0.rest_fits b.1 in
    let z = reads_eight.takes b.0.1 c.0.0 c.0.1 y.0.rest_fits c.1 in
    let whole = Takes-then bytes (eight_bytes a.0.0) a.0.1 (eight_bytes b.0.0 ++ eight_bytes c.0.0) c.0.1 x.0
    (Takes-then a.0.1 (eight_bytes b.0.0) b.0.1 (eight_bytes c.0.0) c.0.1 y.0 z.0) in
    subst (λ (p : RoundFront × List ℕ). Takes bytes (front_bytes p.0) p.1) same whole

-- How much is left behind a front.
pub front_left : (bytes : List ℕ) (f : RoundFront) (left : List ℕ) → front_from bytes ≡ Ok (f, left) → length left + 24 ≡ length bytes
unfolding front_from
front_left bytes f left e =
    let last : ℕ × List ℕ → ℕ × List ℕ → ℕ × List ℕ → ReadOf RoundFront = λ epoch from size. Ok (front_of epoch.0 from.0 size.0, size.1) in
    let second : ℕ × List ℕ → ℕ × List ℕ → ReadOf RoundFront = λ epoch from. eight_from from.1 >>= last epoch from in
    let first : ℕ × List ℕ → ReadOf RoundFront = λ epoch. eight_from epoch.1 >>= second epoch in
    let a = bind_ok (eight_from bytes) first (f, left) e in
    let b = bind_ok (eight_from a.0.1) (second a.0) (f, left) a.2 in
    let c = bind_ok (eight_from b.0.1) (last a.0 b.0) (f, left) b.2 in
    let same = ok_is ℕ (front_of a.0.0 b.0.0 c.0.0, c.0.1) (f, left) c.2 in
    omega (arith, eight_left bytes a.0.0 a.0.1 a.1, eight_left a.0.1 b.0.0 b.0.1 b.1, eight_left b.0.1 c.0.0 c.0.1 c.1, ap (λ (p : RoundFront × List ℕ). length p.1) same)

front_again : (f : RoundFront) (left : List ℕ) → f.epoch < 2 ^ 64 → f.from < 2 ^ 64 → f.size < 2 ^ 64 → length (front_bytes f ++ left) < 2 ^ 64
    → front_from (front_bytes f ++ left) ≡ Ok (f, left)
unfolding front_from
front_again f left epoch from size short =
    let c = eight_bytes f.size ++ left in
    let b = eight_bytes f.from ++ c in
    let parted : front_bytes f ++ left ≡ eight_bytes f.epoch ++ b =
    append_assoc (eight_bytes f.epoch) (eight_bytes f.from ++ eight_bytes f.size) left
    ∙ ap (λ (t : List ℕ). eight_bytes f.epoch ++ t) (append_assoc (eight_bytes f.from) (eight_bytes f.size) left) in
    let lt : length (eight_bytes f.epoch ++ b) < 2 ^ 64 = subst (λ (t : List ℕ). length t < 2 ^ 64) parted short in
    let lt1 : length b < 2 ^ 64 = omega (arith, length-append (eight_bytes f.epoch) b, lt) in
    let lt2 : length c < 2 ^ 64 = omega (arith, length-append (eight_bytes f.from) c, lt1) in
    rw (parted, reads_eight.again f.epoch b epoch lt, reads_eight.again f.from c from lt1, reads_eight.again f.size left size lt2) refl

-- The numbers of a front that are right.
right_front : (f : RoundFront) (left : ℕ) → is_right_front f left ≡ true → (f.from < f.epoch) × (f.epoch < 2 ^ 63) × (f.size + 33 ≤ left)
right_front f left e =
    let a = both_true (nat_lt f.from f.epoch) (nat_lt f.epoch (2 ^ 63) && nat_le (f.size + 33) left) e in
    let b = both_true (nat_lt f.epoch (2 ^ 63)) (nat_le (f.size + 33) left) a.1 in
    (ltb-true _ _ a.0, ltb-true _ _ b.0, leb-true _ _ b.1)

front_right : (f : RoundFront) (left : ℕ) → f.from < f.epoch → f.epoch < 2 ^ 63 → f.size + 33 ≤ left → is_right_front f left ≡ true
front_right f left rises small fits = rw (lt-ltb f.from f.epoch rises, lt-ltb f.epoch (2 ^ 63) small, le-leb (f.size + 33) left fits) refl

front_was : (digest : List ℕ → List ℕ) (told : List ℕ → Option (List Decl)) (before : List Decl) (names : List DimNames) (bytes : List ℕ) (r : ReadOf RoundFront) (y : Round × ℕ)
    → round_behind digest told before names bytes r ≡ Ok y → (x : RoundFront × List ℕ) × (r ≡ Ok x)
front_was digest told before names bytes (Ok x) y e = (x, refl)
front_was digest told before names bytes (Err left) y e = absurd cc

content_was : (f : RoundFront) (r : Result PayloadContent ℕ) (y : Round × ℕ) → round_of_content f r ≡ Ok y
    → (c : PayloadContent) × (r ≡ Ok c) × ((round_with f.from f.epoch c, round_size f.size) ≡ y)
content_was f (Ok c) y e = (c, refl, ok_is FormatFault (round_with f.from f.epoch c, round_size f.size) y e)
content_was f (Err left) y e = absurd cc

-- A round stands in the bytes, and has this size with the gate behind it.
pub record IsRound (digest : List ℕ → List ℕ) (before : List Decl) (names : List DimNames) (bytes : List ℕ) (y : Round × ℕ) : Type 0 where
  pub begins : BeginsWithRound digest before names y.0 bytes
  pub size : y.1 ≡ length (round_bytes digest before y.0) + 1

length-round : (digest : List ℕ → List ℕ) → ((m : List ℕ) → length (digest m) ≡ 32) → (before : List Decl) (round : Round)
    → length (round_bytes digest before round) ≡ length (payload_bytes before round) + 56
unfolding round_bytes
length-round digest wide before round =
    let payload = payload_bytes before round in
    let f = front_of round.epoch round.from (length payload) in
    omega (
      arith,
      length-append (body_bytes before round) (digest (body_bytes before round)),
      wide (body_bytes before round),
      length-append (eight_bytes round.epoch) (eight_bytes round.from ++ (eight_bytes (length payload) ++ payload)),
      length-append (eight_bytes round.from) (eight_bytes (length payload) ++ payload),
      length-append (eight_bytes (length payload)) payload,
      length-eight round.epoch,
      length-eight round.from,
      length-eight (length payload),
    )

-- The front of a round and its payload are its body.
body_is : (before : List Decl) (round : Round) → front_bytes (front_of round.epoch round.from (length (payload_bytes before round))) ++ payload_bytes before round ≡ body_bytes before round
body_is before round =
    let payload = payload_bytes before round in
    append_assoc (eight_bytes round.epoch) (eight_bytes round.from ++ eight_bytes (length payload)) payload
    ∙ ap (λ (t : List ℕ). eight_bytes round.epoch ++ t) (append_assoc (eight_bytes round.from) (eight_bytes (length payload)) payload)

whole_round : (digest : List ℕ → List ℕ) (before : List Decl) (names : List DimNames) (bytes : List ℕ) (round : Round) (payload kept : List ℕ) (gate : ℕ) (rest : List ℕ)
    → payload ≡ payload_bytes before round
    → bytes ≡ front_bytes (front_of round.epoch round.from (length payload)) ++ (payload ++ (kept ++ gate ∷ rest))
    → kept ≡ digest (take (length payload + 24) bytes) → FitsRound before names round → BeginsWithRound digest before names round bytes
unfolding round_bytes
whole_round digest before names bytes round payload kept gate rest payload-is whole kept-is fits =
    let f = front_of round.epoch round.from (length payload) in
    let behind = kept ++ gate ∷ rest in
    let body = front_bytes f ++ payload in
    let body-is : body ≡ body_bytes before round =
    ap (λ (p : List ℕ). front_bytes (front_of round.epoch round.from (length p)) ++ p) payload-is ∙ body_is before round in
    let parts : bytes ≡ body ++ behind = whole ∙ sym (append_assoc (front_bytes f) payload behind) in
    let long : length body ≡ length payload + 24 = omega (arith, length-append (front_bytes f) payload, length-front f) in
    let front : take (length payload + 24) bytes ≡ body = ap (take (length payload + 24)) parts ∙ take_at body behind (length payload + 24) long in
    let digest-is : kept ≡ digest (body_bytes before round) = kept-is ∙ ap digest (front ∙ body-is) in
    record {
      fits = fits;
      gate = gate;
      rest = rest;
      whole =
          parts ∙ (λ i. body-is i ++ (digest-is i ++ gate ∷ rest))
          ∙ sym (append_assoc (body_bytes before round) (digest (body_bytes before round)) (gate ∷ rest));
    }

round_takes : (digest : List ℕ → List ℕ) → ((m : List ℕ) → length (digest m) ≡ 32) → (told : List ℕ → Option (List Decl)) → TellsCubes told
    → (before : List Decl) (names : List DimNames) → All IsStorable before → HaveDims before names → (bytes : List ℕ) (y : Round × ℕ) → IsBytes bytes
    → round_from digest told before names bytes ≡ Ok y → IsRound digest before names bytes y
unfolding round_from
round_takes digest wide told tells before names storable dims bytes y fits e =
    let r = front_was digest told before names bytes (front_from bytes) y e in
    let f = r.0.0 in
    let left = r.0.1 in
    let payload = take f.size left in
    let kept = take 32 (drop f.size left) in
    let found = digest (take (f.size + 24) bytes) in
    let inner = round_of_content f (payload_from told before names f.from f.epoch payload) in
    let e1 : round_behind digest told before names bytes (Ok (f, left)) ≡ Ok y = ap (round_behind digest told before names bytes) (sym r.1) ∙ e in
    let p = passes (is_right_front f (length left)) (where_digest_is kept found inner) (BadText 0) y e1 in
    let right = right_front f (length left) p.0 in
    let d = digest_was kept found inner y p.1 in
    let c = content_was f (payload_from told before names f.from f.epoch payload) y d.1 in
    let taken = front_takes bytes f left fits r.1 in
    let pl = payload_takes told tells before names storable dims f.from f.epoch (omega (arith, right.1)) payload c.0 (IsBytes-take f.size left taken.rest_fits) c.1 in
    let round = round_with f.from f.epoch c.0 in
    let long : length payload ≡ f.size = omega (arith, length-take f.size left, right.2) in
    let tail = tail_of f.size left right.2 in
    let front-is : f ≡ front_of round.epoch round.from (length payload) = ap (front_of f.epoch f.from) (sym long) in
    let whole : bytes ≡ front_bytes (front_of round.epoch round.from (length payload)) ++ (payload ++ (kept ++ tail.gate ∷ tail.rest)) =
    taken.parts ∙ (λ i. front_bytes (front-is i) ++ tail.whole i) in
    let kept-is : kept ≡ digest (take (length payload + 24) bytes) = d.0 ∙ ap (λ (n : ℕ). digest (take (n + 24) bytes)) (sym long) in
    let fits-round : FitsRound before names round = record {
      epochs = right.0;
      small = right.1;
      dims = dims;
      made = pl.1.made;
      cubes = pl.1.cubes;
    } in
    let begins = whole_round digest before names bytes round payload kept tail.gate tail.rest pl.0 whole kept-is fits-round in
    let size : round_size f.size ≡ length (round_bytes digest before round) + 1 =
    omega (arith, length-round digest wide before round, long, ap length pl.0) in
    subst (IsRound digest before names bytes) c.2 (record { begins = begins; size = size })

pub round_again : (digest : List ℕ → List ℕ) → ((m : List ℕ) → length (digest m) ≡ 32) → (told : List ℕ → Option (List Decl)) → TellsCubes told
    → ((text : List ℕ) (a b : List Decl) → Declares text a → Declares text b → a ≡ b)
    → (before : List Decl) (names : List DimNames) → All IsStorable before → (bytes : List ℕ) (round : Round)
    → length bytes < 2 ^ 64 → BeginsWithRound digest before names round bytes
    → round_from digest told before names bytes ≡ Ok (round, length (payload_bytes before round) + 57)
unfolding round_from round_bytes
round_again digest wide told tells one_list before names storable bytes round short begins =
    let payload = payload_bytes before round in
    let n = length payload in
    let body = body_bytes before round in
    let kept = digest body in
    let behind = kept ++ begins.gate ∷ begins.rest in
    let left = payload ++ behind in
    let f = front_of round.epoch round.from n in
    let parts : bytes ≡ body ++ behind = begins.whole ∙ append_assoc body kept (begins.gate ∷ begins.rest) in
    let whole : bytes ≡ front_bytes f ++ left =
    parts ∙ ap (λ (b : List ℕ). b ++ behind) (sym (body_is before round)) ∙ append_assoc (front_bytes f) payload behind in
    let long-body : length body ≡ n + 24 = omega (arith, ap length (body_is before round), length-append (front_bytes f) payload, length-front f) in
    let lt : length (front_bytes f ++ left) < 2 ^ 64 = subst (λ (b : List ℕ). length b < 2 ^ 64) whole short in
    let small-n : n < 2 ^ 64 = omega (arith, lt, length-append (front_bytes f) left, length-append payload behind) in
    let long-left : n + 33 ≤ length left = omega (arith, length-append payload behind, length-append kept (begins.gate ∷ begins.rest), wide body) in
    let epoch-small : round.epoch < 2 ^ 63 = begins.fits.small in
    let read : front_from bytes ≡ Ok (f, left) =
    ap front_from whole ∙ front_again f left (omega (arith, epoch-small)) (omega (arith, begins.fits.epochs, epoch-small)) small-n lt in
    let right = front_right f (length left) begins.fits.epochs begins.fits.small long-left in
    let payload-at : take n left ≡ payload = take_at payload behind n refl in
    let behind-at : drop n left ≡ behind = drop_at payload behind n refl in
    let kept-at : take 32 (drop n left) ≡ kept = ap (take 32) behind-at ∙ take_at kept (begins.gate ∷ begins.rest) 32 (wide body) in
    let found-at : take (n + 24) bytes ≡ body = ap (take (n + 24)) parts ∙ take_at body behind (n + 24) long-body in
    let same : take 32 (drop n left) ≡ digest (take (n + 24) bytes) = kept-at ∙ ap digest (sym found-at) in
    let content : PayloadContent = payload_content round.made round.cubes in
    let fits : FitsPayload before names round.from round.epoch content = record { made = begins.fits.made; cubes = begins.fits.cubes } in
    let payload-read : payload_from told before names round.from round.epoch (take n left) ≡ Ok content =
    ap (payload_from told before names round.from round.epoch) payload-at
    ∙ payload_again told tells one_list before names storable begins.fits.dims round.from round.epoch (omega (arith, epoch-small)) content fits small-n in
    let inner = round_of_content f (payload_from told before names round.from round.epoch (take n left)) in
    ap (round_behind digest told before names bytes) read
    ∙ ap (λ b. cond b (where_digest_is (take 32 (drop n left)) (digest (take (n + 24) bytes)) inner) (Err (BadText 0))) right
    ∙ same_digest (take 32 (drop n left)) (digest (take (n + 24) bytes)) inner same
    ∙ ap (round_of_content f) payload-read

-- ---- what a call answers

abbrev right_round : Round × ℕ → Result (Round × ℕ) FormatFault
right_round y = Ok y

pub found_by : (digest : List ℕ → List ℕ) → ((m : List ℕ) → length (digest m) ≡ 32) → (told : List ℕ → Option (List Decl)) → TellsCubes told
    → (before : List Decl) (names : List DimNames) → All IsStorable before → HaveDims before names → (bytes : List ℕ) → IsBytes bytes
    → (r : Result (Round × ℕ) (CallError FormatFault)) → GivesRead (λ x. x) r (round_from digest told before names bytes)
    → IfOk r (IsRound digest before names bytes)
found_by digest wide told tells before names storable dims bytes fits (Ok y) given = round_takes digest wide told tells before names storable dims bytes y fits given
found_by digest wide told tells before names storable dims bytes fits (Err e) given = tt

pub begins_by : (digest : List ℕ → List ℕ) (before : List Decl) (names : List DimNames) (bytes : List ℕ) (r : Result (Round × ℕ) (CallError FormatFault))
    → IfOk r (IsRound digest before names bytes) → IfOk r (λ x. BeginsWithRound digest before names x.0 bytes)
begins_by digest before names bytes (Ok y) is = is.begins
begins_by digest before names bytes (Err e) is = tt

pub size_by : (digest : List ℕ → List ℕ) (before : List Decl) (names : List DimNames) (bytes : List ℕ) (r : Result (Round × ℕ) (CallError FormatFault))
    → IfOk r (IsRound digest before names bytes) → IfOk r (λ x. x.1 ≡ length (round_bytes digest before x.0) + 1)
size_by digest before names bytes (Ok y) is = is.size
size_by digest before names bytes (Err e) is = tt

no_fault : (e : CallError FormatFault) (y : Round × ℕ) → FailsRead e (right_round y) → e ≡ errors.NoMemory
no_fault errors.NoMemory y given = refl
no_fault (errors.Fault f) y given = absurd cc

pub only_by : (r : Result (Round × ℕ) (CallError FormatFault)) (round : Round) (size : ℕ) → GivesRead (λ x. x) r (right_round (round, size))
    → MatchResult r (λ x. x.0 ≡ round) (λ e. e ≡ errors.NoMemory)
only_by (Ok y) round size given = ap (λ (x : Round × ℕ). x.0) (sym (ok_is FormatFault (round, size) y given))
only_by (Err e) round size given = no_fault e (round, size) given

-- No round's bytes begin another's: rounds that begin the same bytes are one.
pub one_round : (digest : List ℕ → List ℕ) → ((m : List ℕ) → length (digest m) ≡ 32) → (told : List ℕ → Option (List Decl)) → TellsCubes told
    → ((text : List ℕ) (a b : List Decl) → Declares text a → Declares text b → a ≡ b)
    → (before : List Decl) (names : List DimNames) → All IsStorable before → (a b : Round) (bytes : List ℕ) → length bytes < 2 ^ 64
    → BeginsWithRound digest before names a bytes → BeginsWithRound digest before names b bytes → a ≡ b
one_round digest wide told tells one_list before names storable a b bytes short first second =
    let x = round_again digest wide told tells one_list before names storable bytes a short first in
    let y = round_again digest wide told tells one_list before names storable bytes b short second in
    ap (λ (z : Round × ℕ). z.0) (ok_is FormatFault (a, length (payload_bytes before a) + 57) (b, length (payload_bytes before b) + 57) (sym x ∙ y))

length_none : (xs : List ℕ) → length xs ≡ 0 → xs ≡ []
length_none [] e = refl
length_none (x ∷ xs) e = absurd (omega arith)

-- Bytes behind which another stands have a first.
gate_behind : (more : List ℕ) → (gate : ℕ) × (rest : List ℕ) × (more ++ 0 ∷ [] ≡ gate ∷ rest)
gate_behind [] = (0, [], refl)
gate_behind (b ∷ more) = (b, more ++ 0 ∷ [], refl)

pub rounds_apart : (digest : List ℕ → List ℕ) → ((m : List ℕ) → length (digest m) ≡ 32) → (told : List ℕ → Option (List Decl)) → TellsCubes told
    → ((text : List ℕ) (a b : List Decl) → Declares text a → Declares text b → a ≡ b) → RoundsAreApart digest
rounds_apart digest wide told tells one_list before names long short more storable fits-long fits-short below same =
    let a = round_bytes digest before long in
    let b = round_bytes digest before short in
    let g = gate_behind more in
    let bytes = a ++ 0 ∷ [] in
    let lt : length bytes < 2 ^ 64 = omega (arith, below, length-append a (0 ∷ [])) in
    let parts : bytes ≡ b ++ g.0 ∷ g.1 = ap (λ (t : List ℕ). t ++ 0 ∷ []) same ∙ append_assoc b more (0 ∷ []) ∙ ap (λ (t : List ℕ). b ++ t) g.2 in
    let first : BeginsWithRound digest before names long bytes = record { fits = fits-long; gate = 0; rest = []; whole = refl } in
    let second : BeginsWithRound digest before names short bytes = record { fits = fits-short; gate = g.0; rest = g.1; whole = parts } in
    let one = one_round digest wide told tells one_list before names storable long short bytes lt first second in
    let alike : length a ≡ length b = ap (λ (r : Round). length (round_bytes digest before r)) one in
    (one, length_none more (omega (arith, alike, ap length same, length-append b more)))
