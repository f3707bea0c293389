-- What the calls of a run make of the desk's cubes.
use Rattle.std.proofs.Common.{◌≡◌, ℕ, ◌≤◌, ◌==◌, Bool, true, false, List, [], ◌∷◌, ◌++◌, length, All, refl, sym, ap, ◌∙◌, arith, append-nil, append_assoc, length-append, if◌then◌else◌}
use Rattle.std.proofs.lemmas.Bool.{eqb-false}
use Rattle.std.proofs.lemmas.List.Elements.{All-nil, All-push}
use Rattle.cube_language.specs.Cubes.{IsStorable}
use Rattle.cube_language.specs.CubesText.{cubes_limit}
use Rattle.cube_language.specs.declared.decl.Decl.{Decl}
use Rattle.cube_journal.specs.Legal.{has_cube}
use Rattle.aosi_desk.specs.State.{state_of}
use Rattle.aosi_desk.specs.declared.cube.CubeAnswer.TheVariants.{Created, Exists, TooMany}
use Rattle.aosi_desk.specs.declared.cube.CubeFound.TheVariants.{Found, Unknown}
use Rattle.aosi_desk.specs.Desks.{AreCubes, DeskState, cube_answer, decl_names}
use Rattle.aosi_desk.proofs.Kept.{are_cubes-more}
use Rattle.core_events.specs.Cells.{desk_of, desk_after}
use Rattle.core_events.specs.Clients.{client_state}
use Rattle.core_events.specs.Events.{Opening, CreateCube, FindCube, ClientCall, OnDesk, CoreEvent, By, At}
use Rattle.core_events.specs.Fitting.{CanBeMade, FitsCall}
use Rattle.core_events.specs.Runs.{IsCoreRun, CallSays}
use Rattle.core_events.proofs.Agreement.{opening-of}
use Rattle.known_cubes.specs.KnownCubes.{AreMadeAfter}

-- A cube can be added to cubes: it can be made, its name is new, and there is room.
pub record MayBeAdded (cubes : List Decl) (decl : Decl) : Type 0 where
  pub made : CanBeMade decl
  pub new_name : has_cube (decl_names cubes) decl.name ≡ false
  pub room : (length cubes == cubes_limit) ≡ false

-- A cube that was made got the next place.
pub record IsMadeLast (cubes : List Decl) (name : List ℕ) (place : ℕ) : Type 0 where
  pub last : place ≡ length cubes
  pub new_name : has_cube (decl_names cubes) name ≡ false
  pub room : (length cubes == cubes_limit) ≡ false

made-last : (cubes : List Decl) (name : List ℕ) (has full : Bool) (ec epoch place : ℕ)
    → has_cube (decl_names cubes) name ≡ has
    → (length cubes == cubes_limit) ≡ full
    → Created epoch place ≡ (if has then Exists else (if full then TooMany else Created ec (length cubes)))
    → IsMadeLast cubes name place
made-last cubes name true full ec epoch place h f is = absurd (cc)
made-last cubes name false true ec epoch place h f is = absurd (cc)
made-last cubes name false false ec epoch place h f is = record { last = cc; new_name = h; room = f }

pub cube-made : (desk : DeskState) (name : List ℕ) (epoch place : ℕ) → Created epoch place ≡ cube_answer desk name
    → IsMadeLast desk.cubes name place
cube-made desk name epoch place is =
    let cubes = desk.cubes in
    let has = has_cube (decl_names cubes) name in
    made-last cubes name has (length cubes == cubes_limit) (state_of desk.register).ec epoch place refl refl is

-- What holds of the cubes of the opening, and of more by a cube that can be added, holds of the desk's.
module _ (P : List Decl → Type 0)
    (more : (cubes : List Decl) (decl : Decl) → MayBeAdded cubes decl → P cubes → P (cubes ++ decl ∷ [])) where
  after-call : (o : Opening) (a : ℕ) (call : ClientCall) (es : List CoreEvent) → FitsCall o a call (client_state o a es)
      → CallSays o es a call → P (desk_of o es).cubes → P (desk_after a call (desk_of o es)).cubes
  after-call o a (OnDesk (CreateCube statement decl (Created epoch place))) es f says before =
      let made = cube-made (desk_of o es) decl.name epoch place says in
      more (desk_of o es).cubes decl (record { made = f.1; new_name = made.new_name; room = made.room }) before
  after-call o a (OnDesk (CreateCube statement decl Exists)) es f says before = before
  after-call o a (OnDesk (CreateCube statement decl TooMany)) es f says before = before
  after-call o a (OnDesk (FindCube statement name (Found place decl))) es f says before = before
  after-call o a (OnDesk (FindCube statement name Unknown)) es f says before = before
  after-call o a call es f says before = before

  pub in-run : (o : Opening) (es : List CoreEvent) → IsCoreRun o es → P o.cubes → P (desk_of o es).cubes
  in-run o [] run first = first
  in-run o (By a call ∷ es) run first = after-call o a call es run.1.fits run.1.says (in-run o es run.0 first)
  in-run o (At mail move ∷ es) run first = in-run o es run.0 first

few-more : (cubes : List Decl) (decl : Decl) → MayBeAdded cubes decl → length cubes ≤ cubes_limit
    → length (cubes ++ decl ∷ []) ≤ cubes_limit
few-more cubes decl may few =
    let apart = eqb-false (length cubes) cubes_limit may.room in
    let e = length-append cubes (decl ∷ []) in
    omega (arith, few, apart, e)

pub few-cubes : (o : Opening) (es : List CoreEvent) → IsCoreRun o es → length (desk_of o es).cubes ≤ cubes_limit
few-cubes o es run =
    in-run (λ (cubes : List Decl). length cubes ≤ cubes_limit) few-more o es run (opening-of o es run).cubes

pub storable-cubes : (o : Opening) (es : List CoreEvent) → IsCoreRun o es → All IsStorable o.cubes
    → All IsStorable (desk_of o es).cubes
storable-cubes o es run first =
    in-run (All IsStorable) (λ cubes decl may all. All-push IsStorable cubes decl all may.made.storable) o es run first

pub are-cubes : (o : Opening) (es : List CoreEvent) → IsCoreRun o es → AreCubes o.cubes → AreCubes (desk_of o es).cubes
are-cubes o es run first =
    in-run AreCubes
    (λ cubes decl may are.
    let apart = eqb-false (length cubes) cubes_limit may.room in
    let few = are.few in
    are_cubes-more cubes decl are (omega (arith, few, apart)) may.new_name may.made.storable) o es run first

pub cubes-made : (o : Opening) (es : List CoreEvent) → IsCoreRun o es → AreMadeAfter o.cubes (desk_of o es).cubes
cubes-made o es run =
    in-run (AreMadeAfter o.cubes)
    (λ cubes decl may before.
    record {
      made = before.made ++ decl ∷ [];
      are = ap (λ (them : List Decl). them ++ decl ∷ []) before.are ∙ append_assoc o.cubes before.made (decl ∷ []);
      each = All-push CanBeMade before.made decl before.each may.made;
    }) o es run (record { made = []; are = sym (append-nil o.cubes); each = All-nil CanBeMade })
