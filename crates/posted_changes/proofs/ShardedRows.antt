-- Rows that go to the shards of their bricks: the batches of all shards have each row once.
use Rattle.std.proofs.Common.{◌≡◌, ◌∙◌, ℕ, zero, suc, ◌+◌, ◌<◌, ◌≤◌, ◌==◌, Bool, true, false, true≢false, not, ◌&&◌, ◌||◌, cond, List, [], ◌∷◌, ◌++◌, filter, length, map, inl, inr, refl, sym, ap, arith, append_assoc, reverse, append-nil, mod-lt, ne_eqb}
use Rattle.std.specs.List.{AllByRecursion, count_by, range_with_len}
use Rattle.std.proofs.lemmas.Bool.Decides.{eqb_tells}
use Rattle.std.proofs.lemmas.Grind.{reverse_onto}
use Rattle.brick_address.specs.Addresses.{brick_of}
use Rattle.core_agreements.specs.PostsForOperations.{StandForAll, rows_of_batches}
use Rattle.core_events.specs.Events.{ClientCall, OnDesk, OnNames, Post, Fetch, CloseMail, NoChange}
use Rattle.core_events.specs.Jobs.{Append, DropBox, Scan, Delta, Rollback, Purge, CopyRound, Flush}
use Rattle.core_events.proofs.Counts.{count-append, count-cons, count-filter}
use Rattle.core_serial.proofs.Permutations.{permuted-by-counts}
use Rattle.cube_language.specs.declared.decl.Decl.{Decl}
use Rattle.cube_values.specs.declared.row.CodedRow.{CodedRow}
use Rattle.cube_values.specs.declared.row.StoredRow.{StoredRow}
use Rattle.cube_values.specs.declared.shape.Size.{Size}
use Rattle.one_session.specs.Changes.{ComeFor}
use Rattle.posted_pasts.specs.PostsAdded.{PostsRowsAt, batches_among}
use Rattle.session_batches.specs.RowPosts.{has_rows, row_post, row_posts, shards_with_rows}
use Rattle.shard_batches.specs.ShardBatches.{is_of_shard, rows_of_shard, shard_of_row}

pub batches-both : (xs ys : List ClientCall) → batches_among (xs ++ ys) ≡ batches_among xs ++ batches_among ys
batches-both [] ys = refl
batches-both (Post mail (Append cube epoch rows) ∷ xs) ys =
    ap (λ (batches : List (List CodedRow)). rows ∷ batches) (batches-both xs ys)
batches-both (Post mail (DropBox cube epoch box) ∷ xs) ys = batches-both xs ys
batches-both (OnDesk c ∷ xs) ys = batches-both xs ys
batches-both (OnNames c ∷ xs) ys = batches-both xs ys
batches-both (Fetch mail said ∷ xs) ys = batches-both xs ys
batches-both (CloseMail mail ∷ xs) ys = batches-both xs ys
batches-both (NoChange ∷ xs) ys = batches-both xs ys
batches-both (Post mail (Scan query s) ∷ xs) ys = batches-both xs ys
batches-both (Post mail (Delta query from to) ∷ xs) ys = batches-both xs ys
batches-both (Post mail (Rollback at) ∷ xs) ys = batches-both xs ys
batches-both (Post mail (Purge at) ∷ xs) ys = batches-both xs ys
batches-both (Post mail (CopyRound from to) ∷ xs) ys = batches-both xs ys
batches-both (Post mail Flush ∷ xs) ys = batches-both xs ys

rows-both : (xs ys : List (List CodedRow)) → rows_of_batches (xs ++ ys) ≡ rows_of_batches xs ++ rows_of_batches ys
rows-both [] ys = refl
rows-both (batch ∷ xs) ys =
    ap (λ (rows : List CodedRow). batch ++ rows) (rows-both xs ys)
    ∙ sym (append_assoc batch (rows_of_batches xs) (rows_of_batches ys))

all-both : {X : Type 0} (P : X → Type 0) (xs ys : List X) → AllByRecursion P xs → AllByRecursion P ys
    → AllByRecursion P (xs ++ ys)
all-both P [] ys one two = two
all-both P (x ∷ xs) ys one two = (one.0, all-both P xs ys one.1 two)

-- ---- counts

none-counted : (c : CodedRow → Bool) (xs : List CodedRow) → has_rows xs ≡ false → count_by c xs ≡ 0
none-counted c [] h = refl
none-counted c (x ∷ xs) h =
    absurd (true≢false (sym (ap not (ne_eqb (length (x ∷ xs)) 0 (λ same. omega (arith, same)))) ∙ h))

count-never : (xs : List CodedRow) → count_by (λ r. false) xs ≡ 0
count-never [] = refl
count-never (x ∷ xs) = count-cons (λ r. false) x xs ∙ ap (λ (n : ℕ). 0 + n) (count-never xs)

either-one : (a b d : Bool) → (a ≡ true → b ≡ false)
    → cond (b && d) 1 0 + cond (a && d) 1 0 ≡ cond ((a || b) && d) 1 0
either-one true true d apart = absurd (true≢false (apart refl))
either-one true false true apart = refl
either-one true false false apart = refl
either-one false true true apart = refl
either-one false true false apart = refl
either-one false false d apart = refl

four : (a b c d e f : ℕ) → a + b ≡ c → d + e ≡ f → (a + d) + (b + e) ≡ c + f
four a b c d e f one two = omega (arith, one, two)

count-either : (p q c : CodedRow → Bool) (xs : List CodedRow) → ((r : CodedRow) → p r ≡ true → q r ≡ false)
    → count_by (λ r. q r && c r) xs + count_by (λ r. p r && c r) xs ≡ count_by (λ r. (p r || q r) && c r) xs
count-either p q c [] apart = refl
count-either p q c (x ∷ xs) apart =
    (λ i. count-cons (λ r. q r && c r) x xs i + count-cons (λ r. p r && c r) x xs i)
    ∙ four (cond (q x && c x) 1 0) (cond (p x && c x) 1 0) (cond ((p x || q x) && c x) 1 0)
    (count_by (λ r. q r && c r) xs) (count_by (λ r. p r && c r) xs) (count_by (λ r. (p r || q r) && c r) xs)
    (either-one (p x) (q x) (c x) (apart x)) (count-either p q c xs apart)
    ∙ sym (count-cons (λ r. (p r || q r) && c r) x xs)

-- A number is one of so many from a first one on.
abbrev is_in : ℕ → ℕ → ℕ → Bool
is_in first zero k = false
is_in first (suc n) k = k == first || is_in (first + 1) n k

below-not-in : (first n k : ℕ) → k < first → is_in first n k ≡ false
below-not-in first zero k low = refl
below-not-in first (suc n) k low =
    ap (λ (b : Bool). b || is_in (first + 1) n k) (ne_eqb k first (λ same. omega (arith, same, low)))
    ∙ below-not-in (first + 1) n k (omega (arith, low))

or-true : (b : Bool) → (b || true) ≡ true
or-true true = refl
or-true false = refl

between-in : (first n k : ℕ) → first ≤ k → k < first + n → is_in first n k ≡ true
between-in first zero k low high = absurd (omega (arith, low, high))
between-in first (suc n) k low high = elim (eqb_tells k first) [
  | inl same ↦ ap (λ (b : Bool). b || is_in (first + 1) n k) same.0
  | inr other ↦ (
      let differ = other.1 in
      ap (λ (b : Bool). k == first || b) (between-in (first + 1) n k (omega (arith, low, differ)) (omega (arith, high)))
      ∙ or-true (k == first)
      )
]

module _ (sizes : List Size) (shards cube epoch : ℕ) (rows : List CodedRow) where
  abbrev part : ℕ → List CodedRow
  part k = rows_of_shard sizes shards k rows

  abbrev post : ℕ → ClientCall
  post k = row_post sizes shards cube epoch rows k

  abbrev counted : (CodedRow → Bool) → List ℕ → ℕ
  counted c [] = 0
  counted c (k ∷ ks) = counted c ks + count_by c (part k)

  count-posted : (c : CodedRow → Bool) (ks : List ℕ)
      → count_by c (rows_of_batches (batches_among (reverse (map post ks)))) ≡ counted c ks
  count-posted c [] = refl
  count-posted c (k ∷ ks) =
      let older = batches_among (reverse (map post ks)) in
      ap (λ (calls : List ClientCall). count_by c (rows_of_batches (batches_among calls)))
      (reverse_onto (map post ks) (post k) [])
      ∙ ap (λ (batches : List (List CodedRow)). count_by c (rows_of_batches batches))
      (batches-both (reverse (map post ks)) (post k ∷ []))
      ∙ ap (count_by c) (rows-both older (part k ∷ []))
      ∙ count-append c (rows_of_batches older) (part k ++ [])
      ∙ (λ i. count-posted c ks i + count_by c (append-nil (part k) i))

  counted-with-rows : (c : CodedRow → Bool) (ks : List ℕ)
      → counted c (filter (λ k. has_rows (part k)) ks) ≡ counted c ks
  counted-with-rows c [] = refl
  counted-with-rows c (k ∷ ks) = at (has_rows (part k)) refl (counted-with-rows c ks)
    where
      at : (b : Bool) → has_rows (part k) ≡ b
          → counted c (filter (λ k. has_rows (part k)) ks) ≡ counted c ks
          → counted c (cond b (k ∷ filter (λ k. has_rows (part k)) ks) (filter (λ k. has_rows (part k)) ks))
          ≡ counted c ks + count_by c (part k)
      at true is rest = ap (λ (n : ℕ). n + count_by c (part k)) rest
      at false is rest = let none = none-counted c (part k) is in omega (arith, rest, none)

  counted-range : (c : CodedRow → Bool) (first n : ℕ)
      → counted c (range_with_len first n) ≡ count_by (λ r. is_in first n (shard_of_row sizes shards r) && c r) rows
  counted-range c first zero = sym (count-never rows)
  counted-range c first (suc n) =
      (λ i. counted-range c (first + 1) n i + count-filter c (is_of_shard sizes shards first) rows i)
      ∙ count-either (is_of_shard sizes shards first) (λ r. is_in (first + 1) n (shard_of_row sizes shards r)) c rows
      (λ r is. elim (eqb_tells (shard_of_row sizes shards r) first) [
        | inl same ↦ (
            let here = same.1 in
            below-not-in (first + 1) n (shard_of_row sizes shards r) (omega (arith, here))
            )
        | inr other ↦ absurd (true≢false (sym is ∙ other.0))
      ])

  count-all : (c : CodedRow → Bool) → 1 ≤ shards
      → count_by c (rows_of_batches (batches_among (row_posts sizes shards cube epoch rows))) ≡ count_by c rows
  count-all c some =
      let inside : (r : CodedRow) → is_in 0 shards (shard_of_row sizes shards r) ≡ true =
      (λ r.
      let low = mod-lt (brick_of sizes r.coords) some in
      between-in 0 shards (shard_of_row sizes shards r) (omega arith) (omega (arith, low)))
      in
      count-posted c (shards_with_rows sizes shards rows)
      ∙ counted-with-rows c (range_with_len 0 shards)
      ∙ counted-range c 0 shards
      ∙ (λ i. count_by (λ r. inside r i && c r) rows)

  pub stand-once : (d : Decl) (lists : List (List (List ℕ))) (stored : List StoredRow) → 1 ≤ shards
      → ComeFor d lists rows stored
      → StandForAll d lists (rows_of_batches (batches_among (row_posts sizes shards cube epoch rows))) stored
  stand-once d lists stored some come = record {
    ordered = rows;
    moved =
        permuted-by-counts (rows_of_batches (batches_among (row_posts sizes shards cube epoch rows))) rows
        (λ c. count-all c some);
    come = come;
  }

  posts-at : (ks : List ℕ) → AllByRecursion (PostsRowsAt cube epoch) (reverse (map post ks))
  posts-at [] = tt
  posts-at (k ∷ ks) =
      coe 1 0 (i. AllByRecursion (PostsRowsAt cube epoch) (reverse_onto (map post ks) (post k) [] i))
      (all-both (PostsRowsAt cube epoch) (reverse (map post ks)) (post k ∷ []) (posts-at ks) ((refl, refl), tt))

  pub rows-at : AllByRecursion (PostsRowsAt cube epoch) (row_posts sizes shards cube epoch rows)
  rows-at = posts-at (shards_with_rows sizes shards rows)
