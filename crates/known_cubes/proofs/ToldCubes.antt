-- A client knows the cubes that the desk told it of.
use Rattle.std.proofs.Common.{◌≡◌, ◌∙◌, ℕ, ◌+◌, ◌<◌, ◌≤◌, List, [], ◌∷◌, ◌++◌, length, slice_get, Option, Some, All, refl, sym, ap, subst, arith}
use Rattle.std.proofs.lemmas.List.Elements.{All-contains, All-from_recursion, Contains-append_left, Contains-push}
use Rattle.std.proofs.lemmas.Option.{get_or_from_slice_get, slice_get_within}
use Rattle.cube_language.specs.Cubes.{IsStorable}
use Rattle.cube_language.specs.declared.decl.Decl.{Decl}
use Rattle.aosi_desk.specs.declared.cube.CubeAnswer.TheVariants.{Created}
use Rattle.aosi_desk.specs.declared.cube.CubeFound.TheVariants.{Found}
use Rattle.aosi_desk.specs.Desks.{IsFound}
use Rattle.cube_core.specs.BoardCells.{IsEntryEvent, IsEventOf, client_of}
use Rattle.core_program.specs.Knowing.{IsClientOf, IsLaterRun, Knows}
use Rattle.core_events.specs.Cells.{desk_of}
use Rattle.core_events.specs.Clients.{ClientState, client_state, cubes_at_least, greater_of, state_from_calls}
use Rattle.core_events.specs.Events.{Opening, CreateCube, FindCube, CubesFrom, ClientCall, OnDesk, CoreEvent, By}
use Rattle.core_events.specs.Jobs.{CoreJob, JobOutcome}
use Rattle.core_events.specs.ShardView.{ShardView}
use Rattle.core_program.specs.CoreFits.{CoreEntry}
use Rattle.cube_core.specs.declared.cell.CoreAnswer.{CoreAnswer}
use Rattle.cube_core.specs.declared.cell.CoreCall.{CoreCall}
use Rattle.cube_core.specs.declared.cell.CoreCell.{CoreCell}
use Rattle.cube_core.specs.declared.shard.ShardAnswer.{ShardAnswer}
use Rattle.cube_core.specs.declared.shard.ShardCall.{ShardCall}
use Rattle.known_cubes.proofs.CubesMade.{few-cubes, storable-cubes}
use Rattle.known_cubes.proofs.DeskCubes.{cube-shapes, told-cubes}
use Rattle.known_cubes.proofs.OwnCalls.{all-own, cubes-rise, own-caller, state-after, told-own}
use Rattle.known_cubes.specs.KnownCubes.{CallsTellCube, IsToldOfCube, KnowsCube, OpenWithStorableCubes, TellsOfCube, by_listing, by_making, by_search}

storable-at : (cubes : List Decl) (place : ℕ) (decl : Decl) → All IsStorable cubes → slice_get cubes place ≡ Some decl
    → IsStorable decl
storable-at cubes place decl all is =
    subst IsStorable (get_or_from_slice_get cubes place decl decl is)
    (all place decl (slice_get_within cubes place decl is))

-- A client that was told of some cubes knows of those.
knows-of : (o : Opening) (client place least : ℕ) (c : ClientCall) (x : CoreEvent) (es : List CoreEvent)
    → x ≡ By client c
    → cubes_at_least c ≡ Some least → place < least → place < (client_state o client (x ∷ es)).cubes
knows-of o client place least c x es is tells below =
    let k = client_state o client es in
    let more : place < greater_of (Some least) k.cubes = omega (arith, below) in
    subst (λ (state : ClientState). place < state.cubes) (sym (state-after o client c x es is))
    (subst (λ (told : Option ℕ). place < greater_of told k.cubes) (sym tells) more)

module _ {S : Type 0} (fits : Opening → ℕ → ShardCall → Type 0) (stands : Opening → ℕ → ℕ → S → ShardView → Type 0)
    (says : CoreJob → ShardAnswer → JobOutcome → Type 0) (o : Opening) where
  abbrev event : List CoreEvent → CoreEntry → CoreEvent → Type 0
  event es e x = IsEntryEvent fits stands says o es e x

  tells-client : (es : List CoreEvent) (b k : ℕ) {c : CoreCall} {a : CoreAnswer} (x : CoreEvent) (name : List ℕ)
      (place : ℕ) (decl : Decl) → TellsOfCube name place decl c a → IsEventOf fits stands says o es b k c a x
      → place < (client_state o (client_of o b) (x ∷ es)).cubes
  tells-client es b k x name place decl (by_search session statement) is =
      knows-of o (client_of o b) place (place + 1) (OnDesk (FindCube statement name (Found place decl))) x es is.2 refl
      (omega arith)
  tells-client es b k x name place decl (by_making session statement epoch named) is =
      knows-of o (client_of o b) place (place + 1) (OnDesk (CreateCube statement decl (Created epoch place))) x es is.2
      refl (omega arith)
  tells-client es b k x name place decl (by_listing from n cubes at one named) is =
      let within = slice_get_within cubes n decl one in
      knows-of o (client_of o b) place (from + length cubes) (OnDesk (CubesFrom from cubes)) x es is.2 refl
      (omega (arith, at, within))

  -- The desk of a later run has the cube.
  pub desk-has : (cells : List (CoreCell S)) (caller : ℕ) (own log : List CoreEntry) (run : List CoreEvent)
      (name : List ℕ) (place : ℕ) (decl : Decl) → IsLaterRun fits stands says cells o caller own log run
      → IsToldOfCube own name place decl → IsFound (desk_of o run).cubes name (Found place decl)
  desk-has cells caller own log run name place decl later told =
      let P : CoreEntry → Type 0 =
      λ e. TellsOfCube name place decl e.call e.answer → IsFound (desk_of o run).cubes name (Found place decl)
      in
      let all = told-cubes fits stands says o name place decl log [] run later.events later.is_run in
      All-contains P own told.entry (All-from_recursion P own (all-own P caller own log later.begins all)) told.among
      told.tells

-- It knows the cube in each later run.
module _ {S : Type 0} (fits : Opening → ℕ → ShardCall → Type 0) (stands : Opening → ℕ → ℕ → S → ShardView → Type 0)
    (says : CoreJob → ShardAnswer → JobOutcome → Type 0) (cells : List (CoreCell S)) where
  pub knows-cube : (caller client : ℕ) (own : List CoreEntry) (name : List ℕ) (place : ℕ) (decl : Decl)
      → IsClientOf fits stands says cells caller client → OpenWithStorableCubes fits stands says cells
      → IsToldOfCube own name place decl
      → Knows fits stands says cells caller client own (CallsTellCube client place decl)
  knows-cube caller client own name place decl acts storable told o log run es later are =
      let at = (desk-has fits stands says o cells caller own log run name place decl later told).0 in
      let within = slice_get_within (desk_of o run).cubes place decl at in
      let most = few-cubes o run later.is_run in
      let same = acts.client_is o log later.opens in
      record {
        storable = storable-at (desk_of o run).cubes place decl
            (storable-cubes o run later.is_run (storable o log later.opens)) at;
        shape = cube-shapes fits stands says o cells log run place decl later.opens later.events later.is_run at;
        below = omega (arith, within, most);
        there = told-own o client (λ k. k.cubes) (cubes-rise o client) (event fits stands says o) caller place
            (TellsOfCube name place decl)
            (λ earlier e x by is tells.
            subst (λ (n : ℕ). place < (client_state o n (x ∷ earlier)).cubes) (ap (client_of o) by ∙ sym same)
            (tells-client fits stands says o earlier e.caller e.cell x name place decl tells is))
            own es told.entry (own-caller caller own log later.begins) are told.among told.tells;
      }

-- It knows it with more calls.
more-cubes : (o : Opening) (client : ℕ) (more calls : List ClientCall)
    → (state_from_calls o client calls).cubes ≤ (state_from_calls o client (more ++ calls)).cubes
more-cubes o client [] calls = omega arith
more-cubes o client (c ∷ more) calls =
    let first = more-cubes o client more calls in
    let next = cubes-rise o client c (state_from_calls o client (more ++ calls)) in
    omega (arith, first, next)

pub still-knows : (o : Opening) (client place : ℕ) (decl : Decl) (more calls : List ClientCall)
    → KnowsCube o place decl (state_from_calls o client calls)
    → KnowsCube o place decl (state_from_calls o client (more ++ calls))
still-knows o client place decl more calls known =
    let there = known.there in
    let rises = more-cubes o client more calls in
    record { storable = known.storable; shape = known.shape; below = known.below; there = omega (arith, there, rises) }

-- It is told by its newest call, or was by earlier ones.
pub told-newest : (own : List CoreEntry) (e : CoreEntry) (name : List ℕ) (place : ℕ) (decl : Decl)
    → TellsOfCube name place decl e.call e.answer
    → IsToldOfCube (own ++ e ∷ []) name place decl
told-newest own e name place decl tells = record { entry = e; among = Contains-push own e; tells = tells }

pub told-later : (own more : List CoreEntry) (name : List ℕ) (place : ℕ) (decl : Decl)
    → IsToldOfCube own name place decl
    → IsToldOfCube (own ++ more) name place decl
told-later own more name place decl told =
    record { entry = told.entry; among = Contains-append_left own more told.entry told.among; tells = told.tells }
