-- The loop over the parts of a list.
use Rattle.std.proofs.Common.{◌≡◌, ℕ, true, false, zero, suc, ◌<◌, List, [], ◌∷◌, ◌++◌, length, Ok, Err, refl, sym, ap, ◌∙◌, append_assoc, arith}
use Rattle.cube_values.specs.declared.call_error.CallError.{CallError}
use Rattle.cube_values.specs.declared.call_error.CallError.TheVariants.{Fault, NoMemory}
use Rattle.cube_language.specs.declared.symbol.Symbol.{Symbol}
use Rattle.sql_tree.specs.declared.head.Sign.{Sign}
use Rattle.sql_tree.specs.Reading.{Readout, ◌>>=◌, IsMiss, is_sign, stands_first, listed, listed_within}

-- What was read before, and what is still read.
abbrev with_front : {A : Type 0} → List A → Readout (List A) → Readout (List A)
with_front front read = read >>= λ x. Ok (front ++ x.0, x.1)

-- The parts so far and those that are left, as far as the bound goes, are those of the whole.
pub record IsListing {A : Type 0} (between : Sign) (item : List Symbol → Readout A) (symbols : List Symbol) (parts : List A) (left : List Symbol) : Type 0 where
  pub most : ℕ
  pub enough : length left < most
  pub so_far : with_front parts (listed_within most between item left) ≡ listed between item symbols

with_nothing : {A : Type 0} (read : Readout (List A)) → with_front [] read ≡ read
with_nothing (Ok x) = refl
with_nothing (Err left) = refl

pub listing_none : {A : Type 0} (between : Sign) (item : List Symbol → Readout A) (symbols : List Symbol) → IsListing between item symbols [] symbols
unfolding listed
listing_none between item symbols = record { most = suc (length symbols); enough = omega arith; so_far = with_nothing (listed_within (suc (length symbols)) between item symbols) }

regrouped : {A : Type 0} (front : List A) (x : A) (read : Readout (List A)) → with_front front (read >>= λ xs. Ok (x ∷ xs.0, xs.1)) ≡ with_front (front ++ x ∷ []) read
regrouped front x (Ok xs) = ap (λ ys. Ok (ys, xs.1)) (sym (append_assoc front (x ∷ []) xs.0))
regrouped front x (Err left) = refl

more_within : {A : Type 0} (between : Sign) (item : List Symbol → Readout A) (symbols : List Symbol) (parts : List A) (left behind : List Symbol) (x : A) (symbol : Symbol) (most : ℕ) → length left < most → with_front parts (listed_within most between item left) ≡ listed between item symbols
    → item left ≡ Ok (x, symbol ∷ behind) → is_sign between symbol ≡ true → length behind < length left → IsListing between item symbols (parts ++ x ∷ []) behind
unfolding listed_within
more_within between item symbols parts left behind x symbol zero enough so_far e on less = absurd (omega arith)
more_within between item symbols parts left behind x symbol (suc most) enough so_far e on less =
    let step : with_front parts (listed_within (suc most) between item left) ≡ with_front (parts ++ x ∷ []) (listed_within most between item behind) = rw (e, on) (regrouped parts x (listed_within most between item behind)) in
    record { most = most; enough = omega arith; so_far = sym step ∙ so_far }

-- one part more, and the sign behind it
pub listing_more : {A : Type 0} (between : Sign) (item : List Symbol → Readout A) (symbols : List Symbol) (parts : List A) (left behind : List Symbol) (x : A) (symbol : Symbol) → IsListing between item symbols parts left → item left ≡ Ok (x, symbol ∷ behind) → is_sign between symbol ≡ true → length behind < length left
    → IsListing between item symbols (parts ++ x ∷ []) behind
listing_more between item symbols parts left behind x symbol l e on less = more_within between item symbols parts left behind x symbol l.most l.enough l.so_far e on less

done_within : {A : Type 0} (between : Sign) (item : List Symbol → Readout A) (parts : List A) (left rest : List Symbol) (x : A) (most : ℕ) → length left < most → item left ≡ Ok (x, rest) → stands_first between rest ≡ false → with_front parts (listed_within most between item left) ≡ Ok (parts ++ x ∷ [], rest)
unfolding listed_within
done_within between item parts left rest x zero enough e off = absurd (omega arith)
done_within between item parts left rest x (suc most) enough e off = rw (e, off) refl

-- the last part
pub listing_done : {A : Type 0} (between : Sign) (item : List Symbol → Readout A) (symbols : List Symbol) (parts : List A) (left rest : List Symbol) (x : A) → IsListing between item symbols parts left → item left ≡ Ok (x, rest) → stands_first between rest ≡ false → listed between item symbols ≡ Ok (parts ++ x ∷ [], rest)
listing_done between item symbols parts left rest x l e off = sym l.so_far ∙ done_within between item parts left rest x l.most l.enough e off

fails_within : {A : Type 0} (between : Sign) (item : List Symbol → Readout A) (parts : List A) (left : List Symbol) (n most : ℕ) → length left < most → item left ≡ Err n → with_front parts (listed_within most between item left) ≡ Err n
unfolding listed_within
fails_within between item parts left n zero enough e = absurd (omega arith)
fails_within between item parts left n (suc most) enough e = rw e refl

-- no part
pub listing_fails : {A : Type 0} (between : Sign) (item : List Symbol → Readout A) (symbols : List Symbol) (parts : List A) (left : List Symbol) (e : CallError ℕ) → IsListing between item symbols parts left → IsMiss e (item left) → IsMiss e (listed between item symbols)
listing_fails between item symbols parts left NoMemory l h = tt
listing_fails between item symbols parts left (Fault n) l h = sym l.so_far ∙ fails_within between item parts left n l.most l.enough h
