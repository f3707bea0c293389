-- There is a function that tells the cubes of each text, and the digest's length.
use Rattle.std.proofs.Common.{◌≡◌, ℕ, Bool, true, false, cond, ◌⊎◌, List, length, Option, Some, None, inl, inr, refl, ap, ◌∙◌}
use Rattle.std.specs.Prelude.{MatchOption}
use Rattle.std.specs.Str.{bytes_eq}
use Rattle.std.proofs.lemmas.Slice.Eq.{bytes_eq-Decides}
use Rattle.sha2.specs.Sha256.{sha256, digest_bytes, final_hash, initial_hash_256}
use Rattle.cube_language.specs.declared.decl.Decl.{Decl}
use Rattle.cube_language.specs.Cubes.{cubes_text}
use Rattle.cube_language.specs.CubesText.{Declares, HasCubesFault}
use Rattle.cube_language.specs.declared.cubes_fault.CubesFault.{CubesFault}
use Rattle.cube_schema.specs.Texts.{AnyCubes, AnyFault, TextsDeclareOrHaveFault, TextsDeclareOneList, DeclaringTextsHaveNoFault}
use Rattle.cube_rounds.specs.Headers.{IsCanonical}
use Rattle.round_fields.specs.Canonical.{TellsCubes}

-- A test has one answer.
pub never : (b : Bool) → b ≡ false → b ≡ true → ⊥
never true e f = absurd cc
never false e f = absurd cc

told_by : (text : List ℕ) → AnyCubes text ⊎ AnyFault text → Option (List Decl)
told_by text (inl any) = cond (bytes_eq text (cubes_text any.0)) (Some any.0) None
told_by text (inr fault) = None

told_right : TextsDeclareOneList → DeclaringTextsHaveNoFault → (text : List ℕ) (o : AnyCubes text ⊎ AnyFault text)
    → MatchOption (told_by text o) ((cubes : List Decl) → IsCanonical text cubes → ⊥) (IsCanonical text)
unfolding told_by
told_right one_list no_fault text (inl any) =
    elim (bytes_eq text (cubes_text any.0)) as (λ b. bytes_eq text (cubes_text any.0) ≡ b
    → MatchOption (cond b (Some any.0) None) ((cubes : List Decl) → IsCanonical text cubes → ⊥) (IsCanonical text)) [
      | true ↦ λ is. record { declares = any.1; canonical = (bytes_eq-Decides text (cubes_text any.0)).0 is }
      | false ↦ λ is. λ cubes c.
          let same : cubes ≡ any.0 = one_list text cubes any.0 c.declares any.1 in
          never (bytes_eq text (cubes_text any.0)) is ((bytes_eq-Decides text (cubes_text any.0)).1 (c.canonical ∙ ap cubes_text same))
    ] refl
told_right one_list no_fault text (inr fault) = λ cubes c. no_fault text cubes fault.0 c.declares fault.1

-- The cubes of a canonical text are told.
pub told_is_some : TextsDeclareOneList → (told : List ℕ → Option (List Decl)) → TellsCubes told → (text : List ℕ) (cubes : List Decl) → Declares text cubes → text ≡ cubes_text cubes → told text ≡ Some cubes
told_is_some one_list told tells text cubes declares canonical =
    elim (told text) as (λ o. MatchOption o ((cubes : List Decl) → IsCanonical text cubes → ⊥) (IsCanonical text) → o ≡ Some cubes) [
      | None ↦ λ m. absurd (m cubes (record { declares = declares; canonical = canonical }))
      | Some other ↦ λ m. ap Some (one_list text other cubes m.declares declares)
    ] (tells text)

told_none : (told : List ℕ → Option (List Decl)) → TellsCubes told → (text : List ℕ) → ((cubes : List Decl) → IsCanonical text cubes → ⊥) → told text ≡ None
told_none told tells text other =
    elim (told text) as (λ o. MatchOption o ((cubes : List Decl) → IsCanonical text cubes → ⊥) (IsCanonical text) → o ≡ None) [
      | None ↦ λ m. refl
      | Some cubes ↦ λ m. absurd (other cubes m)
    ] (tells text)

-- A text that is another than the canonical one of its cubes has none.
pub told_of_other : TextsDeclareOneList → (told : List ℕ → Option (List Decl)) → TellsCubes told → (text : List ℕ) (cubes : List Decl) → Declares text cubes → (text ≡ cubes_text cubes → ⊥) → told text ≡ None
told_of_other one_list told tells text cubes declares other =
    told_none told tells text (λ found c. other (c.canonical ∙ ap cubes_text (one_list text found cubes c.declares declares)))

-- A text with a fault has none.
pub told_of_fault : DeclaringTextsHaveNoFault → (told : List ℕ → Option (List Decl)) → TellsCubes told → (text : List ℕ) (fault : CubesFault) → HasCubesFault text fault → told text ≡ None
told_of_fault no_fault told tells text fault has = told_none told tells text (λ cubes c. no_fault text cubes fault c.declares has)

pub record Teller : Type 0 where
  pub told : List ℕ → Option (List Decl)
  pub tells : TellsCubes told

pub teller : TextsDeclareOrHaveFault → TextsDeclareOneList → DeclaringTextsHaveNoFault → Teller
teller either one_list no_fault = record {
  told = λ text. told_by text (either text);
  tells = λ text. told_right one_list no_fault text (either text);
}

digest_bytes-length : (h : List ℕ) → length (digest_bytes h 8) ≡ 32
unfolding digest_bytes
digest_bytes-length h = refl

pub length-sha256 : (m : List ℕ) → length (sha256 m) ≡ 32
unfolding sha256
length-sha256 m = digest_bytes-length (final_hash initial_hash_256 m)
