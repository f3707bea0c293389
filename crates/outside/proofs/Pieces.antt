-- What is filled or gained, after one more piece.
use Rattle.std.proofs.Common.{◌≡◌, ℕ, ◌+◌, ◌-◌, ◌<◌, ◌≤◌, List, ◌++◌, length, take, drop, min, Option, refl, ◌∙◌, ⊎_elim, append_assoc, length-append, length-drop, arith}
use Rattle.std.proofs.Math.Seq.{take-add, take-append-add}
use Rattle.std.proofs.lemmas.List.{take-append-le, length-take-le}
use Rattle.std.proofs.lemmas.Slice.{take-put_mid_below}
use borrow.Rule.Slice.PartMut.{put_mid, post_of}
use Rattle.outside.specs.Files.{IsPiece}
use Rattle.outside.specs.Output.{Gained}

-- a prefix grows by the bytes of a piece
pub take-put_mid_more :
    (old piece : List ℕ) (at n : ℕ) → at ≤ length old → n ≤ length piece →
    take (at + n) (put_mid at (length old - at) old piece) ≡ take at old ++ take n piece
take-put_mid_more old piece at n within fits =
    let post = post_of at (length old - at) old in
    let len : length (take at old) ≡ at = length-take-le at old within in
    let longer = take-append-add (take at old) (piece ++ post) n in
    let cut = take-append-le n piece post fits in
    cc

-- the length of a slice stays when its end is written
pub length-put_mid_end :
    (old piece : List ℕ) (at : ℕ) → at ≤ length old → length piece ≡ length old - at →
    length (put_mid at (length old - at) old piece) ≡ length old
length-put_mid_end old piece at within len =
    let post = post_of at (length old - at) old in
    let front_len : length (take at old) ≡ at = length-take-le at old within in
    let parts = length-append (take at old) (piece ++ post) in
    let ends = length-append piece post in
    let behind : length post ≡ length (drop at old) - (length old - at) = length-drop (length old - at) (drop at old) in
    let rest : length (drop at old) ≡ length old - at = length-drop at old in
    let whole : length (put_mid at (length old - at) old piece) ≡ length (take at old ++ (piece ++ post)) = refl in
    omega (arith, parts, ends, front_len, len, rest, behind, whole)

-- a prefix that is the file's grows by the bytes of a piece
pub take_more_piece :
    (bytes old piece : List ℕ) (at n : ℕ) →
    take at old ≡ take at bytes → at ≤ length old → n ≤ length piece → IsPiece bytes at n piece →
    take (at + n) (put_mid at (length old - at) old piece) ≡ take (at + n) bytes
take_more_piece bytes old piece at n front within fits part =
    let more = take-put_mid_more old piece at n within fits in
    let whole = take-add at n bytes in
    let same = part.same in
    cc

-- at the end of the file the prefix is all of it
pub prefix_at_end :
    (bytes old piece : List ℕ) (at n : ℕ) →
    take at old ≡ take at bytes → at < length old → at ≤ length bytes →
    length piece ≡ length old - at → IsPiece bytes at 0 piece → at ≡ n →
    (n ≡ min (length (put_mid at (length old - at) old piece)) (length bytes)) ×
    (take n (put_mid at (length old - at) old piece) ≡ take n bytes)
prefix_at_end bytes old piece at n front short within len part same =
    let full : length bytes ≡ at = ⊎_elim (λ empty. absurd (omega arith)) (λ past. omega arith) (part.ended refl) in
    let post = post_of at (length old - at) old in
    let front_len : length (take at old) ≡ at = length-take-le at old (omega arith) in
    let parts = length-append (take at old) (piece ++ post) in
    let long : at ≤ length (take at old ++ (piece ++ post)) = omega (arith, parts, front_len) in
    let below = take-put_mid_below at (length old - at) old piece at (omega arith) (omega arith) in
    (omega (arith, long), rw (← same) (below ∙ front))

-- a gain of a prefix, and then of what a sink takes from the rest
pub Gained-more :
    (before between after : Option (List ℕ)) (bytes piece : List ℕ) (at n : ℕ) →
    piece ≡ drop at bytes → Gained before (take at bytes) between → Gained between (take n piece) after →
    Gained before (take (at + n) bytes) after
Gained-more before between after bytes piece at n rest first later taken told =
    let both = later (taken ++ take at bytes) (first taken told) in
    let assoc = append_assoc taken (take at bytes) (take n (drop at bytes)) in
    let whole = take-add at n bytes in
    cc
