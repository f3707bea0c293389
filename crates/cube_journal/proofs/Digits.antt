-- Small numbers as they are written.
use Rattle.std.proofs.Common.{◌≡◌, ◌∷◌, [], ◌++◌, List, ℕ, ◌∙◌, ap, codes, decimal, arith}
use Rattle.std.proofs.lemmas.Fmt.{decimal_digit, decimal_step}

pub decimal-0 : decimal 0 ≡ codes "0"
decimal-0 = decimal_digit 0 (omega arith)

pub decimal-1 : decimal 1 ≡ codes "1"
decimal-1 = decimal_digit 1 (omega arith)

pub decimal-2 : decimal 2 ≡ codes "2"
decimal-2 = decimal_digit 2 (omega arith)

pub decimal-3 : decimal 3 ≡ codes "3"
decimal-3 = decimal_digit 3 (omega arith)

pub decimal-4 : decimal 4 ≡ codes "4"
decimal-4 = decimal_digit 4 (omega arith)

pub decimal-5 : decimal 5 ≡ codes "5"
decimal-5 = decimal_digit 5 (omega arith)

pub decimal-6 : decimal 6 ≡ codes "6"
decimal-6 = decimal_digit 6 (omega arith)

pub decimal-7 : decimal 7 ≡ codes "7"
decimal-7 = decimal_digit 7 (omega arith)

pub decimal-8 : decimal 8 ≡ codes "8"
decimal-8 = decimal_digit 8 (omega arith)

pub decimal-9 : decimal 9 ≡ codes "9"
decimal-9 = decimal_digit 9 (omega arith)

pub decimal-10 : decimal 10 ≡ codes "10"
decimal-10 = decimal_step 10 (omega arith) (omega arith) ∙ ap (λ (ds : List ℕ). ds ++ 48 ∷ []) decimal-1

pub decimal-11 : decimal 11 ≡ codes "11"
decimal-11 = decimal_step 11 (omega arith) (omega arith) ∙ ap (λ (ds : List ℕ). ds ++ 49 ∷ []) decimal-1

pub decimal-12 : decimal 12 ≡ codes "12"
decimal-12 = decimal_step 12 (omega arith) (omega arith) ∙ ap (λ (ds : List ℕ). ds ++ 50 ∷ []) decimal-1

pub decimal-13 : decimal 13 ≡ codes "13"
decimal-13 = decimal_step 13 (omega arith) (omega arith) ∙ ap (λ (ds : List ℕ). ds ++ 51 ∷ []) decimal-1

pub decimal-14 : decimal 14 ≡ codes "14"
decimal-14 = decimal_step 14 (omega arith) (omega arith) ∙ ap (λ (ds : List ℕ). ds ++ 52 ∷ []) decimal-1

pub decimal-15 : decimal 15 ≡ codes "15"
decimal-15 = decimal_step 15 (omega arith) (omega arith) ∙ ap (λ (ds : List ℕ). ds ++ 53 ∷ []) decimal-1

pub decimal-16 : decimal 16 ≡ codes "16"
decimal-16 = decimal_step 16 (omega arith) (omega arith) ∙ ap (λ (ds : List ℕ). ds ++ 54 ∷ []) decimal-1

pub decimal-17 : decimal 17 ≡ codes "17"
decimal-17 = decimal_step 17 (omega arith) (omega arith) ∙ ap (λ (ds : List ℕ). ds ++ 55 ∷ []) decimal-1

pub decimal-18 : decimal 18 ≡ codes "18"
decimal-18 = decimal_step 18 (omega arith) (omega arith) ∙ ap (λ (ds : List ℕ). ds ++ 56 ∷ []) decimal-1

pub decimal-19 : decimal 19 ≡ codes "19"
decimal-19 = decimal_step 19 (omega arith) (omega arith) ∙ ap (λ (ds : List ℕ). ds ++ 57 ∷ []) decimal-1

pub decimal-20 : decimal 20 ≡ codes "20"
decimal-20 = decimal_step 20 (omega arith) (omega arith) ∙ ap (λ (ds : List ℕ). ds ++ 48 ∷ []) decimal-2

pub decimal-21 : decimal 21 ≡ codes "21"
decimal-21 = decimal_step 21 (omega arith) (omega arith) ∙ ap (λ (ds : List ℕ). ds ++ 49 ∷ []) decimal-2

pub decimal-22 : decimal 22 ≡ codes "22"
decimal-22 = decimal_step 22 (omega arith) (omega arith) ∙ ap (λ (ds : List ℕ). ds ++ 50 ∷ []) decimal-2

pub decimal-23 : decimal 23 ≡ codes "23"
decimal-23 = decimal_step 23 (omega arith) (omega arith) ∙ ap (λ (ds : List ℕ). ds ++ 51 ∷ []) decimal-2

pub decimal-24 : decimal 24 ≡ codes "24"
decimal-24 = decimal_step 24 (omega arith) (omega arith) ∙ ap (λ (ds : List ℕ). ds ++ 52 ∷ []) decimal-2

pub decimal-25 : decimal 25 ≡ codes "25"
decimal-25 = decimal_step 25 (omega arith) (omega arith) ∙ ap (λ (ds : List ℕ). ds ++ 53 ∷ []) decimal-2

pub decimal-26 : decimal 26 ≡ codes "26"
decimal-26 = decimal_step 26 (omega arith) (omega arith) ∙ ap (λ (ds : List ℕ). ds ++ 54 ∷ []) decimal-2

pub decimal-27 : decimal 27 ≡ codes "27"
decimal-27 = decimal_step 27 (omega arith) (omega arith) ∙ ap (λ (ds : List ℕ). ds ++ 55 ∷ []) decimal-2

pub decimal-28 : decimal 28 ≡ codes "28"
decimal-28 = decimal_step 28 (omega arith) (omega arith) ∙ ap (λ (ds : List ℕ). ds ++ 56 ∷ []) decimal-2

pub decimal-29 : decimal 29 ≡ codes "29"
decimal-29 = decimal_step 29 (omega arith) (omega arith) ∙ ap (λ (ds : List ℕ). ds ++ 57 ∷ []) decimal-2

pub decimal-30 : decimal 30 ≡ codes "30"
decimal-30 = decimal_step 30 (omega arith) (omega arith) ∙ ap (λ (ds : List ℕ). ds ++ 48 ∷ []) decimal-3

pub decimal-31 : decimal 31 ≡ codes "31"
decimal-31 = decimal_step 31 (omega arith) (omega arith) ∙ ap (λ (ds : List ℕ). ds ++ 49 ∷ []) decimal-3
