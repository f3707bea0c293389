-- The steps of a script with one statement more.
use Rattle.std.proofs.Common.{◌≡◌, ◌∙◌, ℕ, zero, suc, ◌+◌, List, [], ◌∷◌, ◌++◌, length, take, slice_get, Option, Some, None, refl, sym, ap, arith}
use Rattle.std.specs.List.{AllZip}
use Rattle.std.proofs.lemmas.Option.{none-some, same_Some}
use Rattle.cube_run.specs.RunRecords.{RunRecord, Sentence}
use Rattle.cube_run.specs.SessionStates.{SessionState}
use Rattle.cube_run.specs.SessionSteps.{SessionStep, last_state, state_after_step, step_at, steps_from}

-- One item more of a list.
pub take_more : {X : Type 0} (xs : List X) (n : ℕ) (x : X) → slice_get xs n ≡ Some x
    → take (suc n) xs ≡ take n xs ++ x ∷ []
take_more [] n x h = absurd (none-some x h)
take_more (y ∷ xs) zero x h = ap (λ z. z ∷ []) (same_Some y x h)
take_more (y ∷ xs) (suc n) x h = ap (λ zs. y ∷ zs) (take_more xs n x h)

pub zip_more : {A B : Type 0} (R : A → B → Type 0) (xs : List A) (ys : List B) (x : A) (y : B) → AllZip R xs ys
    → R x y → AllZip R (xs ++ x ∷ []) (ys ++ y ∷ [])
zip_more R [] [] x y h r = (r, tt)
zip_more R [] (b ∷ ys) x y h r = absurd h
zip_more R (a ∷ xs) [] x y h r = absurd h
zip_more R (a ∷ xs) (b ∷ ys) x y h r = (h.0, zip_more R xs ys x y h.1 r)

pub last_state_more : (state : SessionState) (steps : List SessionStep) (step : SessionStep)
    → last_state state (steps ++ step ∷ []) ≡ state_after_step step
last_state_more state [] step = refl
last_state_more state (first ∷ steps) step = last_state_more (state_after_step first) steps step

pub steps_more : (run : RunRecord) (session number : ℕ) (state : SessionState) (script : List Sentence)
    (sentence : Sentence)
    → steps_from run session number state (script ++ sentence ∷ [])
    ≡ steps_from run session number state script
    ++ step_at run session (number + length script) (last_state state (steps_from run session number state script))
    sentence ∷ []
steps_more run session number state [] sentence =
    let here : number ≡ number + 0 = omega arith in
    ap (λ (n : ℕ). step_at run session n state sentence ∷ []) here
steps_more run session number state (first ∷ script) sentence =
    let step = step_at run session number state first in
    let next = state_after_step step in
    let rest = steps_from run session (number + 1) next script in
    let count : number + 1 + length script ≡ number + length (first ∷ script) = omega arith in
    ap (λ (steps : List SessionStep). step ∷ steps)
    (steps_more run session (number + 1) next script sentence
    ∙ ap (λ (n : ℕ). rest ++ step_at run session n (last_state next rest) sentence ∷ []) count)
