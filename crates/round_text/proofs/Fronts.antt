-- The length of a payload, put before it once it stands.
use Rattle.std.proofs.Common.{◌≡◌, ◌≤◌, ◌+◌, ℕ, ◌-◌, List, ◌++◌, length, take, drop, refl, ap, ◌∙◌, arith}
use Rattle.std.proofs.lemmas.List.{take_at, drop-drop, length-append, length-take-le, length-drop}
use borrow.Rule.Slice.PartMut.{put_mid}
use Rattle.round_fields.proofs.FieldLaws.{length-eight}
use Rattle.cube_rounds.specs.Bytes.{eight_bytes}

-- A number was written over the eight bytes from place 16.
pub eight_put : (xs part new : List ℕ) (n size : ℕ) → part ≡ xs → size ≡ length xs → 24 ≤ length xs → new ≡ eight_bytes n
    → take size (put_mid 16 8 part new ++ drop (length (put_mid 16 8 part new)) xs) ≡ take 16 xs ++ (eight_bytes n ++ drop 24 xs)
eight_put xs part new n size same whole enough is =
    let put : put_mid 16 8 part new ≡ take 16 xs ++ (eight_bytes n ++ drop 24 xs) =
    (λ i. take 16 (same i) ++ (is i ++ drop 8 (drop 16 (same i))))
    ∙ ap (λ (l : List ℕ). take 16 xs ++ (eight_bytes n ++ l)) (drop-drop 8 16 xs) in
    let last : length (eight_bytes n ++ drop 24 xs) ≡ 8 + (length xs - 24) =
    omega (arith, length-append (eight_bytes n) (drop 24 xs), length-eight n, length-drop 24 xs) in
    let long : length (put_mid 16 8 part new) ≡ size =
    ap length put
    ∙ omega (arith, length-append (take 16 xs) (eight_bytes n ++ drop 24 xs), last, length-take-le 16 xs (omega arith), whole) in
    take_at (put_mid 16 8 part new) (drop (length (put_mid 16 8 part new)) xs) size long ∙ put

-- Three numbers have 24 bytes.
pub length-front : (a b c : ℕ) → length ((eight_bytes a ++ eight_bytes b) ++ eight_bytes c) ≡ 24
unfolding eight_bytes
length-front a b c = refl

-- The last of three numbers before a payload becomes its length.
pub length_put : (a b : ℕ) (front payload out : List ℕ) → front ≡ (eight_bytes a ++ eight_bytes b) ++ eight_bytes 0 → out ≡ front ++ payload
    → take 16 out ++ (eight_bytes (length out - 24) ++ drop 24 out)
    ≡ eight_bytes a ++ (eight_bytes b ++ (eight_bytes (length payload) ++ payload))
unfolding eight_bytes
length_put a b front payload out begun whole =
    let zero_length : List ℕ = (eight_bytes a ++ eight_bytes b) ++ eight_bytes 0 in
    let is : out ≡ zero_length ++ payload = whole ∙ ap (λ (l : List ℕ). l ++ payload) begun in
    let size : length (zero_length ++ payload) - 24 ≡ length payload =
    omega (arith, length-append zero_length payload, length-front a b 0) in
    ap (λ (l : List ℕ). take 16 l ++ (eight_bytes (length l - 24) ++ drop 24 l)) is
    ∙ ap (λ (n : ℕ). eight_bytes a ++ (eight_bytes b ++ (eight_bytes n ++ payload))) size
