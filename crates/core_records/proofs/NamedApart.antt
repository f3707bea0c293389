-- Cubes of which no name stands twice are named apart.
use Rattle.std.proofs.Common.{◌≡◌, ◌∙◌, ℕ, zero, suc, Bool, true, false, ◌||◌, List, [], ◌∷◌, slice_get, Some, None, if◌then◌else◌, refl, sym, ap, arith}
use Rattle.std.specs.List.{list_any}
use Rattle.std.specs.Str.{bytes_eq}
use Rattle.std.proofs.lemmas.Bool.{both_ways}
use Rattle.std.proofs.lemmas.Option.{none-some, same_Some}
use Rattle.cube_language.specs.Cubes.{first_repeated, repeated_after}
use Rattle.cube_language.specs.declared.decl.Decl.{Decl}
use Rattle.aosi_desk.specs.Desks.{decl_names}
use Rattle.core_events.specs.Events.{Opening, CoreEvent}
use Rattle.core_events.specs.Runs.{IsCoreRun}
use Rattle.cube_run.specs.RunRecords.{catalog_of}
use Rattle.one_session.specs.Changes.{AreNamedApart}
use Rattle.one_session.proofs.Coded.{same_name}
use Rattle.core_records.specs.CoreRecords.{RunScripts, record_of}
use Rattle.core_records.specs.ScriptedCalls.{FollowScripts}
use Rattle.core_records.proofs.CubesOnRecord.{cubes-are, names-apart}

-- Where none repeats, the first name is none of those before, and none repeats behind it.
record IsNewFirst (before names : List (List ℕ)) (name : List ℕ) : Type 0 where
  new : list_any (bytes_eq name) before ≡ false
  rest : repeated_after (name ∷ before) names ≡ None

first-is-new : (before names : List (List ℕ)) (name : List ℕ) → repeated_after before (name ∷ names) ≡ None
    → IsNewFirst before names name
first-is-new before names name h = at (list_any (bytes_eq name) before) refl h
  where
    at : (b : Bool) → list_any (bytes_eq name) before ≡ b
        → (if b then Some name else repeated_after (name ∷ before) names) ≡ None → IsNewFirst before names name
    at true is h = absurd (none-some name (sym h))
    at false is h = record { new = is; rest = h }

or-parts : (a b : Bool) → (a || b) ≡ false → (a ≡ false) × (b ≡ false)
or-parts true b h = absurd (both_ways true h refl)
or-parts false b h = (refl, h)

-- So no later name is among those before.
later-is-new : (before : List (List ℕ)) (cubes : List Decl) (place : ℕ) (d : Decl)
    → repeated_after before (decl_names cubes) ≡ None → slice_get cubes place ≡ Some d
    → list_any (bytes_eq d.name) before ≡ false
later-is-new before [] place d h is = absurd (none-some d is)
later-is-new before (x ∷ cubes) zero d h is =
    ap (λ (y : Decl). list_any (bytes_eq y.name) before) (sym (same_Some x d is))
    ∙ (first-is-new before (decl_names cubes) x.name h).new
later-is-new before (x ∷ cubes) (suc place) d h is =
    (or-parts (bytes_eq d.name x.name) (list_any (bytes_eq d.name) before)
    (later-is-new (x.name ∷ before) cubes place d (first-is-new before (decl_names cubes) x.name h).rest is)).1

differ : (before : List (List ℕ)) (cubes : List Decl) (place : ℕ) (x d : Decl)
    → repeated_after before (decl_names (x ∷ cubes)) ≡ None → slice_get cubes place ≡ Some d → x.name ≡ d.name → ⊥
differ before cubes place x d h is same =
    both_ways (bytes_eq d.name x.name)
    (or-parts (bytes_eq d.name x.name) (list_any (bytes_eq d.name) before)
    (later-is-new (x.name ∷ before) cubes place d (first-is-new before (decl_names cubes) x.name h).rest is)).0
    (ap (λ (name : List ℕ). bytes_eq d.name name) same ∙ same_name d.name)

apart-from : (before : List (List ℕ)) (cubes : List Decl) → repeated_after before (decl_names cubes) ≡ None
    → AreNamedApart cubes
apart-from before [] h a b d e da eb same = absurd (none-some d da)
apart-from before (x ∷ cubes) h zero zero d e da eb same = refl
apart-from before (x ∷ cubes) h zero (suc b) d e da eb same =
    absurd (differ before cubes b x e h eb (ap (λ (y : Decl). y.name) (same_Some x d da) ∙ same))
apart-from before (x ∷ cubes) h (suc a) zero d e da eb same =
    absurd (differ before cubes a x d h da (ap (λ (y : Decl). y.name) (same_Some x e eb) ∙ sym same))
apart-from before (x ∷ cubes) h (suc a) (suc b) d e da eb same =
    let is =
    apart-from (x.name ∷ before) cubes (first-is-new before (decl_names cubes) x.name h).rest a b d e da eb same
    in
    omega (arith, is)

pub named-apart : (cubes : List Decl) → first_repeated (decl_names cubes) ≡ None → AreNamedApart cubes
named-apart cubes h = apart-from [] cubes h

pub record-apart : (o : Opening) (given : RunScripts) (es : List CoreEvent) → IsCoreRun o es → FollowScripts o given es
    → first_repeated (decl_names o.cubes) ≡ None → AreNamedApart (catalog_of (record_of o given es)).cubes
record-apart o given es run f apart =
    coe 1 0 (i. AreNamedApart (cubes-are o given es es run f i))
    (named-apart _ (names-apart o es run apart))
