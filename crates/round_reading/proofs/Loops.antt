-- Steps and readings one after the other, as a loop does them.
use Rattle.std.proofs.Common.{◌≡◌, ℕ, suc, ◌-◌, ◌+◌, ◌≤◌, ◌<◌, List, [], ◌∷◌, length, drop, get_or, Ok, Err, refl, sym, ap, subst, ◌∙◌, arith, add-one}
use Rattle.std.specs.List.{zip}
use Rattle.std.proofs.lemmas.List.{drop_all}
use Rattle.std.proofs.lemmas.Slice.Zip.{get_or-zip, length-zip}
use Rattle.std.proofs.Math.Seq.{drop-cons}
use Rattle.cube_values.specs.declared.call_error.CallError.{CallError}
use Rattle.cube_values.specs.declared.call_error.CallError.TheVariants as errors
use Rattle.round_fields.specs.Reading.{◌>>=◌, FailsRead, ReadOf, repeat_step, each_step}

pub steps_go_on : {S : Type 0} (step : S → List ℕ → ReadOf S) (count i : ℕ) (s : S) (bytes : List ℕ) (after : S) (rest : List ℕ) (total : ReadOf S)
    → i < count → step s bytes ≡ Ok (after, rest) → repeat_step step (count - i) s bytes ≡ total
    → repeat_step step (count - (i + 1)) after rest ≡ total
unfolding repeat_step
steps_go_on step count i s bytes after rest total lt h so_far =
    let k : count - i ≡ suc (count - (i + 1)) = omega arith in
    let one : repeat_step step (count - i) s bytes ≡ repeat_step step (count - (i + 1)) after rest = rw (k, h) refl in
    sym one ∙ so_far

pub steps_end : {S : Type 0} (step : S → List ℕ → ReadOf S) (e : CallError ℕ) (count i : ℕ) (s : S) (bytes : List ℕ) (total : ReadOf S)
    → i < count → FailsRead e (step s bytes) → repeat_step step (count - i) s bytes ≡ total → FailsRead e total
unfolding repeat_step
steps_end step errors.NoMemory count i s bytes total lt h so_far = tt
steps_end step (errors.Fault left) count i s bytes total lt h so_far =
    let k : count - i ≡ suc (count - (i + 1)) = omega arith in
    let one : repeat_step step (count - i) s bytes ≡ Err left = rw (k, h) refl in
    sym so_far ∙ one

pub steps_done : {S : Type 0} (step : S → List ℕ → ReadOf S) (count i : ℕ) (s : S) (bytes : List ℕ) (total : ReadOf S)
    → count ≤ i → repeat_step step (count - i) s bytes ≡ total → total ≡ Ok (s, bytes)
unfolding repeat_step
steps_done step count i s bytes total le so_far =
    let k : count - i ≡ 0 = omega arith in
    let one : repeat_step step (count - i) s bytes ≡ Ok (s, bytes) = rw k refl in
    sym so_far ∙ one

pub each_goes_on : {P S : Type 0} (step : P → S → List ℕ → ReadOf S) (ps : List P) (i : ℕ) (d : P) (s : S) (bytes : List ℕ) (after : S) (rest : List ℕ) (total : ReadOf S)
    → i < length ps → step (get_or ps i d) s bytes ≡ Ok (after, rest) → each_step step (drop i ps) s bytes ≡ total
    → each_step step (drop (i + 1) ps) after rest ≡ total
unfolding each_step
each_goes_on step ps i d s bytes after rest total lt h so_far =
    let k : drop i ps ≡ get_or ps i d ∷ drop (i + 1) ps = rw (add-one, drop-cons ps i d lt) refl in
    let one : each_step step (drop i ps) s bytes ≡ each_step step (drop (i + 1) ps) after rest = rw (k, h) refl in
    sym one ∙ so_far

pub each_ends : {P S : Type 0} (step : P → S → List ℕ → ReadOf S) (e : CallError ℕ) (ps : List P) (i : ℕ) (d : P) (s : S) (bytes : List ℕ) (total : ReadOf S)
    → i < length ps → FailsRead e (step (get_or ps i d) s bytes) → each_step step (drop i ps) s bytes ≡ total → FailsRead e total
unfolding each_step
each_ends step errors.NoMemory ps i d s bytes total lt h so_far = tt
each_ends step (errors.Fault left) ps i d s bytes total lt h so_far =
    let k : drop i ps ≡ get_or ps i d ∷ drop (i + 1) ps = rw (add-one, drop-cons ps i d lt) refl in
    let one : each_step step (drop i ps) s bytes ≡ Err left = rw (k, h) refl in
    sym so_far ∙ one

pub each_done : {P S : Type 0} (step : P → S → List ℕ → ReadOf S) (ps : List P) (i : ℕ) (s : S) (bytes : List ℕ) (total : ReadOf S)
    → length ps ≤ i → each_step step (drop i ps) s bytes ≡ total → total ≡ Ok (s, bytes)
unfolding each_step
each_done step ps i s bytes total le so_far =
    let k : drop i ps ≡ [] = drop_all i ps le in
    let one : each_step step (drop i ps) s bytes ≡ Ok (s, bytes) = rw k refl in
    sym so_far ∙ one

-- What follows a reading that was told, and one that failed.
pub then_told : {A B : Type 0} (r : ReadOf A) (f : A × List ℕ → ReadOf B) (x : A × List ℕ) → r ≡ Ok x → (r >>= f) ≡ f x
then_told r f x e = ap (λ q. q >>= f) e

pub then_fails : {A B : Type 0} (e : CallError ℕ) (r : ReadOf A) (f : A × List ℕ → ReadOf B) → FailsRead e r → FailsRead e (r >>= f)
then_fails errors.NoMemory r f h = tt
then_fails (errors.Fault left) r f h = ap (λ q. q >>= f) h

-- ---- two lists side by side

zip_there : {A B : Type 0} (xs : List A) (ys : List B) (i : ℕ) (d : A) (e : B) → length ys ≡ length xs → i < length xs → d ≡ get_or xs i d → e ≡ get_or ys i e
    → get_or (zip xs ys) i (d, e) ≡ (d, e)
zip_there xs ys i d e same lt d-is e-is = get_or-zip xs ys i (d, e) lt (omega arith) ∙ (λ j. (sym d-is j, sym e-is j))

pub zipped_goes_on : {A B S : Type 0} (step : A × B → S → List ℕ → ReadOf S) (xs : List A) (ys : List B) (i : ℕ) (d : A) (e : B) (s : S) (bytes : List ℕ) (after : S) (rest : List ℕ) (total : ReadOf S)
    → length ys ≡ length xs → i < length xs → d ≡ get_or xs i d → e ≡ get_or ys i e → step (d, e) s bytes ≡ Ok (after, rest) → each_step step (drop i (zip xs ys)) s bytes ≡ total
    → each_step step (drop (i + 1) (zip xs ys)) after rest ≡ total
zipped_goes_on step xs ys i d e s bytes after rest total same lt d-is e-is h so_far =
    each_goes_on step (zip xs ys) i (d, e) s bytes after rest total (omega (arith, length-zip xs ys))
    (ap (λ p. step p s bytes) (zip_there xs ys i d e same lt d-is e-is) ∙ h) so_far

pub zipped_ends : {A B S : Type 0} (step : A × B → S → List ℕ → ReadOf S) (f : CallError ℕ) (xs : List A) (ys : List B) (i : ℕ) (d : A) (e : B) (s : S) (bytes : List ℕ) (total : ReadOf S)
    → length ys ≡ length xs → i < length xs → d ≡ get_or xs i d → e ≡ get_or ys i e → FailsRead f (step (d, e) s bytes) → each_step step (drop i (zip xs ys)) s bytes ≡ total → FailsRead f total
zipped_ends step f xs ys i d e s bytes total same lt d-is e-is h so_far =
    each_ends step f (zip xs ys) i (d, e) s bytes total (omega (arith, length-zip xs ys))
    (subst (λ p. FailsRead f (step p s bytes)) (sym (zip_there xs ys i d e same lt d-is e-is)) h) so_far

pub zipped_done : {A B S : Type 0} (step : A × B → S → List ℕ → ReadOf S) (xs : List A) (ys : List B) (i : ℕ) (s : S) (bytes : List ℕ) (total : ReadOf S)
    → length ys ≡ length xs → length xs ≤ i → each_step step (drop i (zip xs ys)) s bytes ≡ total → total ≡ Ok (s, bytes)
zipped_done step xs ys i s bytes total same le so_far = each_done step (zip xs ys) i s bytes total (omega (arith, length-zip xs ys)) so_far
