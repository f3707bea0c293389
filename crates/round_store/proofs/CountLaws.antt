-- Numbers of names are those of the names.
use Rattle.std.proofs.Common.{◌≡◌, ℕ, zero, suc, ◌+◌, ◌<◌, ◌≤◌, List, [], ◌∷◌, ◌++◌, length, map, take, get_or, refl, sym, ap, ◌∙◌, arith}
use Rattle.std.proofs.lemmas.List.{length-append, take_more, take_all}
use Rattle.cube_language.specs.declared.decl.Decl.{Decl}
use Rattle.cube_rounds.specs.declared.round.RoundCube.{RoundCube}
use Rattle.cube_rounds.specs.Demands.{DimNames, names_with, no_names}
use Rattle.store_reading.specs.Parts.{HaveNameLists, all_names_with}
use Rattle.round_store.specs.Counts.{counts_of, row_with, counts_with}

row_is : (lists more : DimNames) → length lists ≡ length more → row_with (map length lists) more ≡ map length (names_with lists more)
row_is [] [] same = refl
row_is [] (m ∷ more) same = absurd (omega arith)
row_is (list ∷ lists) [] same = absurd (omega arith)
row_is (list ∷ lists) (m ∷ more) same = λ i. sym (length-append list m) i ∷ row_is lists more (omega arith) i

row_of_none : {A : Type 0} (dims : List A) (more : DimNames) → length dims ≡ length more → row_with [] more ≡ map length (names_with (map (λ dim. []) dims) more)
row_of_none [] [] same = refl
row_of_none [] (m ∷ more) same = absurd (omega arith)
row_of_none (dim ∷ dims) [] same = absurd (omega arith)
row_of_none (dim ∷ dims) (m ∷ more) same = ap (λ (l : List ℕ). length m ∷ l) (row_of_none dims more (omega arith))

length_none : {A : Type 0} (dims : List A) (lists : DimNames) → lists ≡ map (λ dim. []) dims → length lists ≡ length dims
length_none [] lists e = ap length e
length_none (dim ∷ dims) lists e = ap length e ∙ omega (arith, length_none dims (map (λ dim. []) dims) refl)

pub counts_of_none : (made : List Decl) (parts : List RoundCube) → HaveNameLists (map no_names made) parts → counts_with [] parts ≡ counts_of (all_names_with (map no_names made) parts)
counts_of_none [] [] fit = refl
counts_of_none [] (part ∷ parts) fit = absurd fit
counts_of_none (cube ∷ made) [] fit = absurd fit
counts_of_none (cube ∷ made) (part ∷ parts) fit = λ i.
    row_of_none cube.dims part.names (omega (arith, fit.0, length_none cube.dims (no_names cube) refl)) i ∷ counts_of_none made parts fit.1 i

pub counts_more : (names : List DimNames) (made : List Decl) (parts : List RoundCube) → HaveNameLists (names ++ map no_names made) parts
    → counts_with (counts_of names) parts ≡ counts_of (all_names_with (names ++ map no_names made) parts)
counts_more [] made parts fit = counts_of_none made parts fit
counts_more (lists ∷ names) made [] fit = absurd fit
counts_more (lists ∷ names) made (part ∷ parts) fit = λ i. row_is lists part.names fit.0 i ∷ counts_more names made parts fit.1 i

-- ---- as loops count

row_length : (counts : List ℕ) (lists : DimNames) → length (row_with counts lists) ≡ length lists
row_length counts [] = refl
row_length [] (list ∷ lists) = ap suc (row_length [] lists)
row_length (count ∷ counts) (list ∷ lists) = ap suc (row_length counts lists)

row_at : (counts : List ℕ) (lists : DimNames) (i : ℕ) (d : List (List ℕ)) → i < length lists → get_or (row_with counts lists) i 0 ≡ get_or counts i 0 + length (get_or lists i d)
row_at counts [] i d lt = absurd (omega arith)
row_at [] (list ∷ lists) zero d lt = omega arith
row_at [] (list ∷ lists) (suc i) d lt = row_at [] lists i d (omega arith)
row_at (count ∷ counts) (list ∷ lists) zero d lt = refl
row_at (count ∷ counts) (list ∷ lists) (suc i) d lt = row_at counts lists i d (omega arith)

pub row_more : (counts row after : List ℕ) (lists : DimNames) (i count n : ℕ) (list : List (List ℕ)) → row ≡ take i (row_with counts lists) → count ≡ get_or counts i 0
    → list ≡ get_or lists i list → n ≡ count + length list → after ≡ row ++ n ∷ [] → i < length lists → after ≡ take (i + 1) (row_with counts lists)
row_more counts row after lists i count n list so_far count-is list-is n-is after-is lt =
    let whole = row_with counts lists in
    let item : n ≡ get_or whole i 0 = n-is ∙ (λ j. count-is j + length (list-is j)) ∙ sym (row_at counts lists i list lt) in
    after-is ∙ (λ j. so_far j ++ item j ∷ []) ∙ sym (take_more whole i 0 (omega (arith, row_length counts lists, lt)))

counts_length : (counts : List (List ℕ)) (parts : List RoundCube) → length (counts_with counts parts) ≡ length parts
counts_length counts [] = refl
counts_length [] (part ∷ parts) = ap suc (counts_length [] parts)
counts_length (row ∷ counts) (part ∷ parts) = ap suc (counts_length counts parts)

counts_at : (counts : List (List ℕ)) (parts : List RoundCube) (i : ℕ) (d : RoundCube) (e : List ℕ) → i < length parts
    → get_or (counts_with counts parts) i e ≡ row_with (get_or counts i []) (get_or parts i d).names
counts_at counts [] i d e lt = absurd (omega arith)
counts_at [] (part ∷ parts) zero d e lt = refl
counts_at [] (part ∷ parts) (suc i) d e lt = counts_at [] parts i d e (omega arith)
counts_at (row ∷ counts) (part ∷ parts) zero d e lt = refl
counts_at (row ∷ counts) (part ∷ parts) (suc i) d e lt = counts_at counts parts i d e (omega arith)

pub counts_further : (counts all after : List (List ℕ)) (parts : List RoundCube) (i : ℕ) (row n : List ℕ) (part : RoundCube) → all ≡ take i (counts_with counts parts) → row ≡ get_or counts i []
    → part ≡ get_or parts i part → n ≡ row_with row part.names → after ≡ all ++ n ∷ [] → i < length parts → after ≡ take (i + 1) (counts_with counts parts)
counts_further counts all after parts i row n part so_far row-is part-is n-is after-is lt =
    let whole = counts_with counts parts in
    let item : n ≡ get_or whole i n = n-is ∙ (λ j. row_with (row-is j) (part-is j).names) ∙ sym (counts_at counts parts i part n lt) in
    after-is ∙ (λ j. so_far j ++ item j ∷ []) ∙ sym (take_more whole i n (omega (arith, counts_length counts parts, lt)))

pub row_whole : (counts row : List ℕ) (lists : DimNames) (i : ℕ) → row ≡ take i (row_with counts lists) → length lists ≤ i → row ≡ row_with counts lists
row_whole counts row lists i so_far le = so_far ∙ take_all i (row_with counts lists) (omega (arith, row_length counts lists, le))

pub counts_whole : (counts all : List (List ℕ)) (parts : List RoundCube) (i : ℕ) → all ≡ take i (counts_with counts parts) → length parts ≤ i → all ≡ counts_with counts parts
counts_whole counts all parts i so_far le = so_far ∙ take_all i (counts_with counts parts) (omega (arith, counts_length counts parts, le))
