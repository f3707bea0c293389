-- The cubes that a client was told of are there.
use Rattle.std.proofs.Common.{◌≡◌, ◌∙◌, ℕ, ◌+◌, ◌-◌, ◌≤◌, ◌==◌, Bool, true, false, List, [], ◌∷◌, length, Option, Some, None, if◌then◌else◌, refl, ap, arith, eqb-true, length-append, length-drop}
use Rattle.std.proofs.lemmas.Option.{none-some, same_Some, slice_get_within}
use Rattle.cube_language.specs.CubesText.{cubes_limit}
use Rattle.cube_journal.specs.Legal.{has_cube}
use Rattle.aosi_desk.specs.State.{state_of}
use Rattle.aosi_desk.specs.declared.cube.CubeAnswer.{CubeAnswer}
use Rattle.aosi_desk.specs.declared.cube.CubeAnswer.TheVariants.{Created, Exists, TooMany}
use Rattle.aosi_desk.specs.declared.cube.CubeFound.TheVariants.{Found, Unknown}
use Rattle.aosi_desk.specs.Desks.{DeskState, cube_answer, decl_names}
use Rattle.core_events.specs.Cells.{desk_of, desk_after}
use Rattle.core_events.specs.Clients.{ClientState, client_state, client_after_call, cubes_at_least, greater_of}
use Rattle.core_events.specs.Events.{Opening, CreateCube, FindCube, CubesFrom, ClientCall, OnDesk, CoreEvent, By, At}
use Rattle.core_events.specs.Fitting.{FitsCall}
use Rattle.core_events.specs.Runs.{IsCoreRun, CallSays}

-- The list of cubes only grows.
cubes-grow : (b : ℕ) (call : ClientCall) (desk : DeskState) → length desk.cubes ≤ length (desk_after b call desk).cubes
cubes-grow b (OnDesk (CreateCube statement decl (Created epoch place))) desk =
    let e = length-append desk.cubes (decl ∷ []) in omega (arith, e)
cubes-grow b (OnDesk (CreateCube statement decl Exists)) desk = omega arith
cubes-grow b (OnDesk (CreateCube statement decl TooMany)) desk = omega arith
cubes-grow b (OnDesk (FindCube statement name (Found place decl))) desk = omega arith
cubes-grow b (OnDesk (FindCube statement name Unknown)) desk = omega arith
cubes-grow b call desk = omega arith

-- The place of a cube that is made.
abbrev place_made : ℕ → CubeAnswer → ℕ
place_made default (Created epoch place) = place
place_made default answer = default

made-last : (has full : Bool) (ec place : ℕ)
    → place_made place (if has then Exists else (if full then TooMany else Created ec place)) ≡ place
made-last true full ec place = refl
made-last false true ec place = refl
made-last false false ec place = refl

place-is-last : (desk : DeskState) (name : List ℕ) (epoch place : ℕ) → Created epoch place ≡ cube_answer desk name
    → place ≡ length desk.cubes
place-is-last desk name epoch place is =
    ap (place_made (length desk.cubes)) is
    ∙ made-last (has_cube (decl_names desk.cubes) name) (length desk.cubes == cubes_limit) (state_of desk.register).ec
    (length desk.cubes)

-- What an answer tells of is there.
answer-there : (o : Opening) (a : ℕ) (call : ClientCall) (k : ClientState) (es : List CoreEvent) (n : ℕ) → FitsCall o a call k
    → CallSays o es a call → k.cubes ≤ length (desk_of o es).cubes → cubes_at_least call ≡ Some n
    → n ≤ length (desk_after a call (desk_of o es)).cubes
answer-there o a (OnDesk (CreateCube statement decl (Created epoch place))) k es n f says known is =
    let desk = desk_of o es in
    let last = place-is-last desk decl.name epoch place says in
    let same = same_Some (place + 1) n is in
    let e = length-append desk.cubes (decl ∷ []) in
    omega (arith, last, same, e)
answer-there o a (OnDesk (CreateCube statement decl Exists)) k es n f says known is = absurd (none-some n is)
answer-there o a (OnDesk (CreateCube statement decl TooMany)) k es n f says known is = absurd (none-some n is)
answer-there o a (OnDesk (FindCube statement name (Found place decl))) k es n f says known is =
    let below = slice_get_within (desk_of o es).cubes place decl says.0 in
    let same = same_Some (place + 1) n is in
    omega (arith, below, same)
answer-there o a (OnDesk (FindCube statement name Unknown)) k es n f says known is = absurd (none-some n is)
answer-there o a (OnDesk (CubesFrom place cubes)) k es n f says known is =
    let desk = desk_of o es in
    let e : length cubes ≡ length desk.cubes - place = ap length says ∙ length-drop place desk.cubes in
    let same = same_Some (place + length cubes) n is in
    let within = f.0 in
    omega (arith, e, same, within, known)
answer-there o a call k es n f says known is = absurd (none-some n is)

greater-there : (more : Option ℕ) (n most : ℕ) → n ≤ most → ((m : ℕ) → more ≡ Some m → m ≤ most) → greater_of more n ≤ most
greater-there None n most le all = le
greater-there (Some m) n most le all = let l = all m refl in omega (arith, le, l)

call-there : (own : Bool) (o : Opening) (a b : ℕ) (call : ClientCall) (k : ClientState) (es : List CoreEvent)
    → (own ≡ true → (FitsCall o a call k) × (b ≡ a)) → CallSays o es b call → k.cubes ≤ length (desk_of o es).cubes
    → (client_after_call o own a call k).cubes ≤ length (desk_after b call (desk_of o es)).cubes
call-there true o a b call k es f says known =
    let grows = cubes-grow b call (desk_of o es) in
    let own = f refl in
    greater-there (cubes_at_least call) k.cubes (length (desk_after b call (desk_of o es)).cubes) (omega (arith, grows, known))
    (λ m is. coe 1 0 (i. m ≤ length (desk_after (own.1 i) call (desk_of o es)).cubes)
    (answer-there o a call k es m own.0 (coe 0 1 (i. CallSays o es (own.1 i) call) says) known is))
call-there false o a b call k es f says known =
    let grows = cubes-grow b call (desk_of o es) in omega (arith, grows, known)

pub known-cubes : (o : Opening) (es : List CoreEvent) (a : ℕ) → IsCoreRun o es
    → (client_state o a es).cubes ≤ length (desk_of o es).cubes
known-cubes o [] a run = omega arith
known-cubes o (By b call ∷ es) a run =
    call-there (b == a) o a b call (client_state o a es) es
    (λ own. let same = eqb-true b a own in
    (coe 0 1 (i. FitsCall o (same i) call (client_state o (same i) es)) run.1.fits, same))
    run.1.says (known-cubes o es a run.0)
known-cubes o (At mail move ∷ es) a run = known-cubes o es a run.0
