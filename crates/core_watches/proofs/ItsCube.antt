-- A statement is on the cube that its session found, in each run of scripts that goes on.
use Rattle.std.proofs.Common.{◌≡◌, ◌∙◌, ℕ, zero, suc, ◌<◌, Bool, true, false, cond, List, [], ◌∷◌, slice_get, Option, Some, IsSome, unwrap_or, refl, sym, ap, subst, arith}
use Rattle.std.specs.Str.{bytes_eq}
use Rattle.std.proofs.lemmas.Option.{none-some, same_Some}
use Rattle.aosi_desk.specs.Desks.{IsFound}
use Rattle.aosi_desk.specs.declared.cube.CubeFound.TheVariants.{Found}
use Rattle.core_cubes.specs.StandingCubes.{StandsBefore}
use Rattle.core_events.specs.Cells.{desk_of}
use Rattle.core_events.specs.Events.{Opening, CoreEvent}
use Rattle.core_agreements.specs.ScriptedRuns.{IsScriptedRun}
use Rattle.core_states.specs.CorePasts.{CorePast, last_number}
use Rattle.core_program.specs.CoreFits.{CoreEntry}
use Rattle.core_program.specs.Knowing.{IsLaterRun}
use Rattle.core_records.proofs.CubesOnRecord.{cube-on-record}
use Rattle.core_records.proofs.NamedApart.{record-apart}
use Rattle.core_records.specs.CoreRecords.{RunScripts, record_of}
use Rattle.core_states.specs.StandingInCore.{StandsInCore}
use Rattle.cube_core.specs.declared.cell.CoreCell.{CoreCell}
use Rattle.cube_language.specs.declared.decl.Decl.{Decl}
use Rattle.cube_language.specs.declared.statement.Statement.{Statement}
use Rattle.cube_run.specs.RunRecords.{RunRecord, catalog_of, cube_called, cube_needed, cubes_at, declaration_of}
use Rattle.cube_run.specs.SessionSteps.{SessionStep, journal_before}
use Rattle.known_cubes.proofs.ToldCubes.{desk-has}
use Rattle.known_cubes.specs.KnownCubes.{IsToldOfCube}
use Rattle.linked_shards.specs.CellShards.{CoreShardStands}
use Rattle.shard_events.specs.ShardsInRuns.{FitsShard, ShardAnswerSays}
use Rattle.linked_shards.specs.declared.cell.CoreShard.{CoreShard}
use Rattle.one_session.proofs.Coded.{other_name, same_name}
use Rattle.session_replies.specs.RowSteps.{IsOnCube}

-- ---- the cube of a name among cubes

-- Some cube has the name of one that is there.
some-called : (cubes : List Decl) (place : ℕ) (d : Decl) → slice_get cubes place ≡ Some d
    → IsSome (cube_called cubes d.name)
some-called [] place d h = absurd (none-some d h)
some-called (x ∷ cubes) zero d h =
    subst (λ (b : Bool). IsSome (cond b (Some x) (cube_called cubes d.name)))
    (sym (ap (λ (y : Decl). bytes_eq y.name d.name) (same_Some x d h) ∙ same_name d.name)) refl
some-called (x ∷ cubes) (suc place) d h = at (bytes_eq x.name d.name) (some-called cubes place d h)
  where
    at : (b : Bool) → IsSome (cube_called cubes d.name) → IsSome (cond b (Some x) (cube_called cubes d.name))
    at true rest = refl
    at false rest = rest

-- Only one place has the name.
abbrev IsAlone : List Decl → ℕ → Decl → Type 0
IsAlone cubes place d = (a : ℕ) (e : Decl) → slice_get cubes a ≡ Some e → e.name ≡ d.name → a ≡ place

called-is : (cubes : List Decl) (place : ℕ) (d : Decl) → slice_get cubes place ≡ Some d → IsAlone cubes place d
    → cube_called cubes d.name ≡ Some d
called-is [] place d h alone = absurd (none-some d h)
called-is (x ∷ cubes) zero d h alone =
    ap (λ (b : Bool). cond b (Some x) (cube_called cubes d.name))
    (ap (λ (y : Decl). bytes_eq y.name d.name) (same_Some x d h) ∙ same_name d.name)
    ∙ h
called-is (x ∷ cubes) (suc place) d h alone =
    ap (λ (b : Bool). cond b (Some x) (cube_called cubes d.name))
    (other_name x.name d.name (λ same. let no = alone 0 x refl same in omega (arith, no)))
    ∙ called-is cubes place d h (λ a e is same. let found = alone (suc a) e is same in omega (arith, found))

-- ---- the cube of a statement

module _ (cells : List (CoreCell CoreShard)) (caller : ℕ) (name : List ℕ) (place : ℕ) (d : Decl) (now : List CoreEntry)
    (told : IsToldOfCube now name place d) (o : Opening) (given : RunScripts) (log : List CoreEntry)
    (events : List CoreEvent) (later : IsLaterRun FitsShard CoreShardStands ShardAnswerSays cells o caller now log events)
    (scripted : IsScriptedRun o given events) where
  abbrev run : RunRecord
  run = record_of o given events

  abbrev found : IsFound (desk_of o events).cubes name (Found place d)
  found = desk-has FitsShard CoreShardStands ShardAnswerSays o cells caller now log events name place d later told

  at-end : slice_get (catalog_of run).cubes place ≡ Some d
  at-end = cube-on-record o given [] events place d later.is_run scripted.follow found.0

  declared-own : declaration_of (catalog_of run) d.name ≡ d
  declared-own =
      let apart = record-apart o given events later.is_run scripted.follow scripted.opens.apart in
      ap (λ (e : Option Decl). unwrap_or e (record { name = d.name; dims = []; metrics = [] }))
      (called-is (catalog_of run).cubes place d at-end (λ a e is same. apart a place e d is at-end same))

  -- The cube is so declared in the end, by its name.
  pub declared-in-end : declaration_of (catalog_of run) name ≡ d
  declared-in-end = subst (λ (n : List ℕ). declaration_of (catalog_of run) n ≡ d) found.1 declared-own

  pub on-its-cube : (session number : ℕ) (s : Statement) (own : List CoreEntry) (past : CorePast)
      → cube_needed s ≡ Some name
      → StandsBefore FitsShard CoreShardStands ShardAnswerSays cells caller session number own now name place d
      → StandsInCore FitsShard CoreShardStands ShardAnswerSays cells caller session own past → last_number past < number
      → (step : SessionStep) → step.session ≡ session → step.number ≡ number → IsOnCube run step s d
  on-its-cube session number s own past needed stands st below step session_is number_is =
      let there = stands past st below o given log events later scripted.follow in
      record {
        needed = needed ∙ ap (λ (n : List ℕ). Some n) (sym found.1);
        stands =
            coe 1 0 (i. IsSome (cube_called (cubes_at run (journal_before (session_is i) (number_is i) run.journal)) d.name))
            (some-called (cubes_at run (journal_before session number run.journal)) place d there.0);
        declared = declared-own;
      }
