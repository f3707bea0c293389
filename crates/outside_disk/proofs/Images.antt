-- The images of bytes that were written, marked or cut.
use Rattle.std.proofs.Common.{◌≡◌, ℕ, zero, suc, ◌+◌, ◌<◌, ◌≤◌, Bool, true, false, cond, List, [], ◌∷◌, ◌++◌, length, map, take, drop, max, get_or, Result, Ok, Err, refl, sym, ap, ◌∙◌, subst, add-one, append_assoc, length-append, arith}
use Rattle.std.specs.Prelude.{◌%◌, IfOk}
use Rattle.std.proofs.lemmas.List.{drop-drop, take-append-drop, length-take-le, take-map, drop-map, map-append}
use Rattle.std.proofs.Math.Seq.{take-append_seam, drop-append_seam}
use Rattle.outside_disk.specs.declared.events.DiskByte.{DiskByte}
use Rattle.outside_disk.specs.Crash.{filled_from, crash_image}
use Rattle.outside_disk.specs.DiskBytes.{unsettled_byte, read_bytes, with_byte, with_mark, marked_from, IsImage}
use Rattle.outside_disk.specs.Laws.{read_is_image}
use Rattle.outside_disk.specs.Effects.{AnyFrom, Torn, with_bytes}

-- an image is as long as the bytes
pub image_long : (disk : List DiskByte) (c : List ℕ) → IsImage disk c → length c ≡ length disk
image_long [] [] im = refl
image_long [] (x ∷ c) im = absurd im
image_long (b ∷ disk) [] im = absurd im
image_long (b ∷ disk) (x ∷ c) im = let rest = image_long disk c im.1 in omega (arith, rest)

-- what is filled is an image
fills : (fill : List ℕ) (i : ℕ) (disk : List DiskByte) → IsImage disk (filled_from fill i disk)
fills fill i [] = tt
fills fill i (b ∷ disk) = at b.settled refl (fills fill i disk) (fills fill (i + 1) disk)
  where
    at : (s : Bool) → b.settled ≡ s → IsImage disk (filled_from fill i disk) → IsImage disk (filled_from fill (i + 1) disk)
        → IsImage (b ∷ disk) (cond s (b.byte ∷ filled_from fill i disk) (get_or fill (i % length fill) 0 ∷ filled_from fill (i + 1) disk))
    at true e settled unsettled = ((λ s. refl), settled)
    at false e settled unsettled = ((λ s. absurd cc), unsettled)

pub crash_is_image : (fill : List ℕ) (disk : List DiskByte) → IsImage disk (crash_image fill disk)
crash_is_image [] disk = read_is_image disk
crash_is_image (byte ∷ fill) disk = fills (byte ∷ fill) 0 disk

pub IfOk-turn : {V E : Type 0} (P Q : V → Type 0) (r : Result V E) → ((v : V) → P v → Q v) → IfOk r P → IfOk r Q
IfOk-turn P Q (Ok v) turn h = turn v h
IfOk-turn P Q (Err e) turn h = tt

-- bytes that are all settled have one image
all_settled : (disk : List DiskByte) (c : List ℕ) → IsImage (map (with_mark true) disk) c → c ≡ read_bytes disk
all_settled [] [] im = refl
all_settled [] (x ∷ c) im = absurd im
all_settled (b ∷ disk) [] im = absurd im
all_settled (b ∷ disk) (x ∷ c) im = (λ i. im.0 refl i ∷ all_settled disk c im.1 i)

pub settled_image : (disk : List DiskByte) (c : List ℕ) → IsImage (marked_from 0 true disk) c → c ≡ read_bytes disk
settled_image disk c im = all_settled disk c im

pub read_marked : (from : ℕ) (s : Bool) (disk : List DiskByte) → read_bytes (marked_from from s disk) ≡ read_bytes disk
read_marked zero s [] = refl
read_marked zero s (b ∷ disk) = ap (λ rest. b.byte ∷ rest) (read_marked 0 s disk)
read_marked (suc from) s [] = refl
read_marked (suc from) s (b ∷ disk) = ap (λ rest. b.byte ∷ rest) (read_marked from s disk)

-- one byte more in front
AnyFrom-more : (x n : ℕ) (d c : List ℕ) → AnyFrom n 0 d c → AnyFrom (suc n) 0 (x ∷ d) (x ∷ c)
AnyFrom-more x n d c h = record {
  before = ap (λ rest. x ∷ rest) h.before;
  no_shorter = omega (arith, h.no_shorter);
  no_longer = grind (arith, h.no_longer);
}

-- bytes that were unsettled from a place on
pub unsettled_image : (from : ℕ) (disk : List DiskByte) (c : List ℕ) → from ≤ length disk → IsImage (marked_from from false disk) c
    → (d : List ℕ) × IsImage disk d × AnyFrom from 0 d c
unsettled_image zero disk c within im = (
  read_bytes disk,
  read_is_image disk,
  let long = image_long (marked_from 0 false disk) c im in
      let same = image_long disk (read_bytes disk) (read_is_image disk) in
      let marked : length (marked_from 0 false disk) ≡ length disk = length_marked disk in
      record { before = refl; no_shorter = omega arith; no_longer = grind (arith, long, same, marked) },
)
  where
    length_marked : (disk : List DiskByte) → length (map (with_mark false) disk) ≡ length disk
    length_marked [] = refl
    length_marked (b ∷ disk) = let rest = length_marked disk in omega (arith, rest)
unsettled_image (suc from) [] c within im = absurd (omega (arith, within))
unsettled_image (suc from) (b ∷ disk) [] within im = absurd im
unsettled_image (suc from) (b ∷ disk) (x ∷ c) within im =
    let rest = unsettled_image from disk c (omega (arith, within)) im.1 in
    (x ∷ rest.0, (im.0, rest.1), AnyFrom-more x from rest.0 c rest.2)

-- bytes that were cut
pub cut_image : (len : ℕ) (disk : List DiskByte) (c : List ℕ) → len ≤ length disk → IsImage (take len disk) c
    → (d : List ℕ) × IsImage disk d × AnyFrom len 0 d c
cut_image zero disk [] within im = (read_bytes disk, read_is_image disk, record { before = refl; no_shorter = omega arith; no_longer = grind arith })
cut_image zero disk (x ∷ c) within im = absurd im
cut_image (suc len) [] c within im = absurd (omega (arith, within))
cut_image (suc len) (b ∷ disk) [] within im = absurd im
cut_image (suc len) (b ∷ disk) (x ∷ c) within im =
    let rest = cut_image len disk c (omega (arith, within)) im.1 in
    (x ∷ rest.0, (im.0, rest.1), AnyFrom-more x len rest.0 c rest.2)

-- a byte that was written
Torn-front : (x n : ℕ) (d c : List ℕ) → Torn n 1 d c → Torn (suc n) 1 (x ∷ d) (x ∷ c)
Torn-front x n d c h = record {
  before = ap (λ rest. x ∷ rest) h.before;
  after = rw (add-one (suc n)) (rw (add-one n) at h.after);
  no_shorter = omega (arith, h.no_shorter);
  no_longer = grind (arith, h.no_longer);
}

byte_image : (at byte : ℕ) (disk : List DiskByte) (c : List ℕ) → at ≤ length disk → IsImage (with_byte at byte disk) c
    → (d : List ℕ) × IsImage disk d × Torn at 1 d c
byte_image zero byte [] [] within im = absurd im
byte_image zero byte [] (x ∷ []) within im = ([], tt, record { before = refl; after = refl; no_shorter = omega arith; no_longer = grind arith })
byte_image zero byte [] (x ∷ y ∷ c) within im = absurd im.1
byte_image zero byte (b ∷ disk) [] within im = absurd im
byte_image zero byte (b ∷ disk) (x ∷ c) within im =
    (b.byte ∷ c, ((λ settled. refl), im.1), record { before = refl; after = refl; no_shorter = omega arith; no_longer = grind arith })
byte_image (suc at) byte [] c within im = absurd (omega (arith, within))
byte_image (suc at) byte (b ∷ disk) [] within im = absurd im
byte_image (suc at) byte (b ∷ disk) (x ∷ c) within im =
    let rest = byte_image at byte disk c (omega (arith, within)) im.1 in
    (x ∷ rest.0, (im.0, rest.1), Torn-front x at rest.0 c rest.2)

-- a write of nothing
pub Torn-same : (at n : ℕ) (d : List ℕ) → Torn at n d d
Torn-same at n d = record { before = refl; after = refl; no_shorter = omega arith; no_longer = grind arith }

take_fewer : (at : ℕ) (a b : List ℕ) → take (suc at) a ≡ take (suc at) b → take at a ≡ take at b
take_fewer zero a b e = refl
take_fewer (suc at) [] [] e = refl
take_fewer (suc at) [] (y ∷ b) e = absurd cc
take_fewer (suc at) (x ∷ a) [] e = absurd cc
take_fewer (suc at) (x ∷ a) (y ∷ b) e =
    let head : x ≡ y = cc in
    let rest : take (suc at) a ≡ take (suc at) b = cc in
    (λ i. head i ∷ take_fewer at a b rest i)

drop_more : (at n : ℕ) (a b : List ℕ) → drop at a ≡ drop at b → drop (at + n) a ≡ drop (at + n) b
drop_more at n a b e = sym (drop-drop n at a) ∙ ap (drop n) e ∙ drop-drop n at b

-- a byte, and then the others behind it
pub Torn-more : (at n : ℕ) (d e c : List ℕ) → Torn at 1 d e → Torn (suc at) n e c → Torn at (suc n) d c
Torn-more at n d e c first rest = record {
  before = take_fewer at c e rest.before ∙ first.before;
  after =
      let m : suc at + n ≡ at + suc n = omega arith in
      let one : at + 1 ≡ suc at = add-one at in
      let later : drop (suc at + n) c ≡ drop (suc at + n) e = rest.after in
      let sooner : drop (suc at) e ≡ drop (suc at) d = rw one at first.after in
      rw m at (later ∙ drop_more (suc at) n e d sooner);
  no_shorter = omega (arith, first.no_shorter, rest.no_shorter);
  no_longer = grind (arith, first.no_longer, rest.no_longer);
}

-- the bytes with those of a write put at their places
abbrev pub bytes_put : ℕ → List ℕ → List DiskByte → List DiskByte
bytes_put at [] disk = disk
bytes_put at (byte ∷ bytes) disk = bytes_put (suc at) bytes (with_byte at byte disk)

pub long_with_byte : (at byte : ℕ) (disk : List DiskByte) → at ≤ length disk → suc at ≤ length (with_byte at byte disk)
long_with_byte zero byte disk within = omega arith
long_with_byte (suc at) byte [] within = absurd (omega (arith, within))
long_with_byte (suc at) byte (b ∷ disk) within =
    let rest = long_with_byte at byte disk (omega (arith, within)) in omega (arith, rest)

-- an image of what was written
pub write_image : (at : ℕ) (bytes : List ℕ) (disk : List DiskByte) (c : List ℕ) → at ≤ length disk → IsImage (bytes_put at bytes disk) c
    → (d : List ℕ) × IsImage disk d × Torn at (length bytes) d c
write_image at [] disk c within im = (c, im, Torn-same at 0 c)
write_image at (byte ∷ bytes) disk c within im =
    let rest = write_image (suc at) bytes (with_byte at byte disk) c (long_with_byte at byte disk within) im in
    let first = byte_image at byte disk rest.0 within rest.1 in
    (first.0, first.1, Torn-more at (length bytes) first.0 rest.0 c first.2 rest.2)

-- what a read gives of what was written
read_put_at : (front : List DiskByte) (bytes : List ℕ) (rest : List DiskByte)
    → read_bytes (bytes_put (length front) bytes (front ++ rest)) ≡ read_bytes front ++ (bytes ++ drop (length bytes) (read_bytes rest))
read_put_at front [] rest = map-append (λ b. b.byte) front rest
read_put_at front (byte ∷ bytes) rest =
    let u = unsettled_byte byte in
    let longer : length (front ++ u ∷ []) ≡ suc (length front) = let n = length-append front (u ∷ []) in omega (arith, n) in
    let put : with_byte (length front) byte (front ++ rest) ≡ (front ++ u ∷ []) ++ drop 1 rest =
    (λ i. take-append_seam front rest i ++ u ∷ drop 1 (drop-append_seam front rest i))
    ∙ sym (append_assoc front (u ∷ []) (drop 1 rest)) in
    let more = read_put_at (front ++ u ∷ []) bytes (drop 1 rest) in
    (λ i. read_bytes (bytes_put (sym longer i) bytes (put i)))
    ∙ more
    ∙ (λ i. map-append (λ b. b.byte) front (u ∷ []) i ++ (bytes ++ drop (length bytes) (read_bytes (drop 1 rest))))
    ∙ append_assoc (read_bytes front) (byte ∷ []) (bytes ++ drop (length bytes) (read_bytes (drop 1 rest)))
    ∙ ap (λ end. read_bytes front ++ (byte ∷ (bytes ++ end))) (behind (length bytes) rest)
  where
    behind : (n : ℕ) (rest : List DiskByte) → drop n (read_bytes (drop 1 rest)) ≡ drop (suc n) (read_bytes rest)
    behind zero [] = refl
    behind zero (b ∷ rest) = refl
    behind (suc n) [] = refl
    behind (suc n) (b ∷ rest) = refl

pub read_put : (at : ℕ) (bytes : List ℕ) (disk : List DiskByte) → at ≤ length disk
    → read_bytes (bytes_put at bytes disk) ≡ with_bytes at bytes (read_bytes disk)
read_put at bytes disk within =
    let front = take at disk in
    let rest = drop at disk in
    let len : length front ≡ at = length-take-le at disk within in
    let whole : front ++ rest ≡ disk = take-append-drop at disk in
    let parts = read_put_at front bytes rest in
    (λ i. read_bytes (bytes_put (sym len i) bytes (sym whole i)))
    ∙ parts
    ∙ (λ i. sym (take-map (λ b. b.byte) at disk) i ++ (bytes ++ drop (length bytes) (sym (drop-map (λ b. b.byte) at disk) i)))
    ∙ ap (λ end. take at (read_bytes disk) ++ (bytes ++ end)) (drop-drop (length bytes) at (read_bytes disk))

pub length_with_byte : (at byte : ℕ) (disk : List DiskByte) → length (with_byte at byte disk) ≤ length disk + 1
length_with_byte zero byte [] = omega arith
length_with_byte zero byte (b ∷ disk) = omega arith
length_with_byte (suc at) byte [] = omega arith
length_with_byte (suc at) byte (b ∷ disk) = let rest = length_with_byte at byte disk in omega (arith, rest)
