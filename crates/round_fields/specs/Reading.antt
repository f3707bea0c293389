-- Reading from left to right. A reader gives a value and the bytes behind it, or else how many bytes were left
-- where the first part began that breaks a rule.
use Rattle.std.specs.Prelude.{◌≡◌, ℕ, zero, suc, ℤ, Bool, nat_lt, List, [], ◌∷◌, ◌++◌, length, take, drop, Result, Ok, Err, if◌then◌else◌}
use Rattle.std.specs.Int.{w32, w64, from_le_bytes, cast_signed}
use Rattle.cube_values.specs.declared.call_error.CallError.{CallError}
use Rattle.cube_values.specs.declared.call_error.CallError.TheVariants.{Fault, NoMemory}

-- One thing after another.
infixl 10 ◌>>=◌
abbrev pub ◌>>=◌ : {A B F : Type 0} → Result A F → (A → Result B F) → Result B F
(Ok x) >>= f = f x
(Err e) >>= f = Err e

-- What a call answers in place of its result is what reading gives, unless memory ran out.
abbrev pub FailsRead : {Y F : Type 0} → CallError F → Result Y F → Type 0
FailsRead NoMemory read = Unit {0}
FailsRead (Fault f) read = read ≡ Err f

-- What a call answers, seen by view, is what reading gives, unless memory ran out.
abbrev pub GivesRead : {X Y F : Type 0} → (X → Y) → Result X (CallError F) → Result Y F → Type 0
GivesRead view (Ok x) read = read ≡ Ok (view x)
GivesRead view (Err e) read = FailsRead e read

-- What a reader of such a value gives.
abbrev pub ReadOf : Type 0 → Type 0
ReadOf A = Result (A × List ℕ) ℕ

-- A value that passes a test; one that does not is refused where it begins.
abbrev pub with_test : {A : Type 0} → (A → Bool) → (List ℕ → ReadOf A) → List ℕ → ReadOf A
with_test test read bytes = read bytes >>= λ x. if test x.0 then Ok x else Err (length bytes)

-- A value that is read behind others is put behind them.
abbrev pub step_of : {S A : Type 0} → (S → A → S) → (S → List ℕ → ReadOf A) → S → List ℕ → ReadOf S
step_of put read s bytes = read s bytes >>= λ x. Ok (put s x.0, x.1)

-- A list with one more at its end.
abbrev pub list_with : {A : Type 0} → List A → A → List A
list_with items item = items ++ item ∷ []

-- So many steps, each of which reads something and adds it to what was read before.
unfoldable pub repeat_step : {S : Type 0} → (S → List ℕ → ReadOf S) → ℕ → S → List ℕ → ReadOf S
repeat_step step zero s bytes = Ok (s, bytes)
repeat_step step (suc n) s bytes = step s bytes >>= λ x. repeat_step step n x.0 x.1

-- A step for each of some things.
unfoldable pub each_step : {P S : Type 0} → (P → S → List ℕ → ReadOf S) → List P → S → List ℕ → ReadOf S
each_step step [] s bytes = Ok (s, bytes)
each_step step (p ∷ ps) s bytes = step p s bytes >>= λ x. each_step step ps x.0 x.1

-- A byte.
abbrev pub byte_from : List ℕ → ReadOf ℕ
byte_from [] = Err 0
byte_from (byte ∷ rest) = Ok (byte, rest)

-- A number in four bytes, in eight, and one with a sign.
unfoldable pub four_from : List ℕ → ReadOf ℕ
four_from bytes =
    if nat_lt (length bytes) 4 then Err (length bytes)
    else Ok (from_le_bytes w32 (take 4 bytes), drop 4 bytes)

unfoldable pub eight_from : List ℕ → ReadOf ℕ
eight_from bytes =
    if nat_lt (length bytes) 8 then Err (length bytes)
    else Ok (from_le_bytes w64 (take 8 bytes), drop 8 bytes)

unfoldable pub signed_from : List ℕ → ReadOf ℤ
signed_from bytes =
    if nat_lt (length bytes) 8 then Err (length bytes)
    else Ok (cast_signed w64 (from_le_bytes w64 (take 8 bytes)), drop 8 bytes)

-- A name behind its length.
unfoldable pub short_from : List ℕ → ReadOf (List ℕ)
short_from [] = Err 0
short_from (size ∷ rest) =
    if nat_lt (length rest) size then Err (suc (length rest)) else Ok (take size rest, drop size rest)
