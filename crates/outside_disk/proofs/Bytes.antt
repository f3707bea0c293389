-- Bytes of a disk, one written, marked or copied after the other.
use Rattle.std.proofs.Common.{◌≡◌, ℕ, zero, suc, ◌+◌, ◌<◌, ◌≤◌, List, [], ◌∷◌, ◌++◌, length, map, take, drop, get_or, refl, sym, ap, ◌∙◌, append_assoc, add-one, length-drop, inl, ◌-◌, arith}
use Rattle.std.proofs.Math.ListN.{set}
use Rattle.std.proofs.lemmas.List.{length-take-le, length-map, take_more, map-append, take-map, drop-map}
use Rattle.std.proofs.Math.Seq.{drop-cons, set_split, set-append_seam, take-length, drop-length, take-append_seam}
use Rattle.outside.specs.Files.{IsPiece}
use Rattle.outside_disk.specs.declared.events.DiskByte.{DiskByte}
use Rattle.outside_disk.specs.DiskBytes.{unsettled_byte, read_bytes, with_byte}

drop_one : {A : Type 0} (i : ℕ) (l : List A) → drop 1 (drop i l) ≡ drop (suc i) l
drop_one zero l = refl
drop_one (suc i) [] = refl
drop_one (suc i) (x ∷ l) = drop_one i l

-- a byte written over another
pub set_is_with_byte : (disk : List DiskByte) (at byte : ℕ) → at < length disk → set disk at (unsettled_byte byte) ≡ with_byte at byte disk
set_is_with_byte disk at byte lt =
    set_split disk at (unsettled_byte byte) lt ∙ ap (λ rest. take at disk ++ unsettled_byte byte ∷ rest) (sym (drop_one at disk))

-- a byte written at the end
pub push_is_with_byte : (disk : List DiskByte) (at byte : ℕ) → at ≡ length disk → disk ++ unsettled_byte byte ∷ [] ≡ with_byte at byte disk
push_is_with_byte disk at byte e =
    let front : take at disk ≡ disk = ap (λ n. take n disk) e ∙ take-length disk in
    let rest : drop at disk ≡ [] = ap (λ n. drop n disk) e ∙ drop-length disk in
    sym ((λ i. front i ++ unsettled_byte byte ∷ drop 1 (rest i)))

-- a byte copied more
pub copy_more : (bytes : List DiskByte) (into old : List ℕ) (i : ℕ) (d : DiskByte) → i < length bytes → length bytes ≤ length old
    → into ≡ read_bytes (take i bytes) ++ drop i old → set into i (get_or bytes i d).byte ≡ read_bytes (take (i + 1) bytes) ++ drop (i + 1) old
copy_more bytes into old i d lt long e =
    let front = read_bytes (take i bytes) in
    let len : length front ≡ i = length-map (take i bytes) (λ b. b.byte) ∙ length-take-le i bytes (omega (arith, lt)) in
    let byte = (get_or bytes i d).byte in
    let cut : drop i old ≡ get_or old i 0 ∷ drop (suc i) old = drop-cons old i 0 (omega (arith, lt, long)) in
    let more : read_bytes (take (i + 1) bytes) ≡ front ++ byte ∷ [] =
    ap read_bytes (take_more bytes i d lt) ∙ map-append (λ b. b.byte) (take i bytes) (get_or bytes i d ∷ []) in
    ap (λ xs. set xs i byte) (e ∙ ap (λ rest. front ++ rest) cut)
    ∙ ap (λ k. set (front ++ get_or old i 0 ∷ drop (suc i) old) k byte) (sym len)
    ∙ set-append_seam front (get_or old i 0) (drop (suc i) old) byte
    ∙ sym (append_assoc front (byte ∷ []) (drop (suc i) old))
    ∙ (λ k. sym more k ++ drop (sym (add-one i) k) old)

-- bytes that were copied are a piece of the file
pub copied_piece : (bytes part : List DiskByte) (old new : List ℕ) (at most : ℕ) → at < length bytes → part ≡ take most (drop at bytes)
    → most ≤ length bytes - at → most ≤ length old → (most ≡ 0 → length old ≡ 0) → length new ≡ length old
    → new ≡ read_bytes part ++ drop (length part) old → IsPiece (read_bytes bytes) at most new
copied_piece bytes part old new at most lt is here fits none long e =
    let rest : length (drop at bytes) ≡ length bytes - at = length-drop at bytes in
    let len : length part ≡ most = ap length is ∙ length-take-le most (drop at bytes) (omega (arith, rest, here)) in
    let read_len : length (read_bytes part) ≡ most = length-map part (λ b. b.byte) ∙ len in
    let whole : length (read_bytes bytes) ≡ length bytes = length-map bytes (λ b. b.byte) in
    record {
      same =
          ap (take most) e
          ∙ ap (λ n. take n (read_bytes part ++ drop (length part) old)) (sym read_len)
          ∙ take-append_seam (read_bytes part) (drop (length part) old)
          ∙ ap read_bytes is
          ∙ sym (take-map (λ b. b.byte) most (drop at bytes))
          ∙ ap (take most) (sym (drop-map (λ b. b.byte) at bytes));
      within = omega (arith, whole, here);
      ended = λ zero. inl (long ∙ none zero);
    }
