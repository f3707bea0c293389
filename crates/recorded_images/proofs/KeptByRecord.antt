-- What is kept of a run whose sessions follow their scripts is kept of the run on record.
use mathlib.Core.List.{IsPrefix}
use Rattle.std.proofs.Common.{◌≡◌, ◌⊎◌, ◌∙◌, ℕ, zero, suc, ◌<◌, true, false, List, [], ◌∷◌, length, slice_get, unwrap_or, Some, MatchBool, inl, inr, refl, sym, ap, subst, arith}
use Rattle.std.proofs.lemmas.Option.{none-some, same_Some, slice_get_cases, slice_get_within}
use Rattle.std.specs.List.{AllZip}
use Rattle.cube_journal.specs.Counters.{journal_state}
use Rattle.cube_language.specs.declared.decl.Decl.{Decl}
use Rattle.cube_schema.specs.Schemas.{cube_of}
use Rattle.cube_rounds.specs.Demands.{DimNames}
use Rattle.cube_rounds.specs.Stands.{Kept, Stands}
use Rattle.cube_run.specs.FinalNames.{names_at}
use Rattle.cube_run.specs.RunRecords.{RunRecord, catalog_of}
use Rattle.condition_spans.specs.Codes.{lists_at, texts_at}
use Rattle.one_session.proofs.CubesBehind.{some_front}
use Rattle.core_events.specs.Cells.{counters_of_run, desk_of, dictionary_of}
use Rattle.core_events.specs.Clients.{calls_of, state_from_calls}
use Rattle.core_events.specs.Events.{Opening, flusher, ClientCall, CoreEvent}
use Rattle.core_serial.specs.Journals.{journal_of}
use Rattle.core_serial.proofs.Entries.{run-safe}
use Rattle.core_records.specs.CoreRecords.{RunScripts, names_in, names_left, record_of}
use Rattle.core_records.proofs.CubesOnRecord.{cubes-are}
use Rattle.core_records.proofs.NamesOnRecord.{names-are}
use Rattle.core_agreements.specs.NamedQueries.{EndAs}
use Rattle.core_agreements.proofs.NamedValues.{names-end-as, texts-are}
use Rattle.core_agreements.specs.PostsForOperations.{StandForAll}
use Rattle.core_agreements.specs.ScriptedRuns.{IsScriptedRun}
use Rattle.kept_data.specs.SoundKept.{IsCubeAt}
use Rattle.opened_core.specs.KeptShards.{kept_in_cube}
use Rattle.opened_core.proofs.KeptFacts.{KeptLaws}
use Rattle.outside_disk.specs.Views.{View}
use Rattle.run_ends.specs.AllSafeEnds.{rows_on_record}
use Rattle.recorded_rounds.proofs.RowsOnRecord.{cube-for-record}
use Rattle.sha2.specs.Sha256.{sha256}
use Rattle.stored_rounds.specs.RoundsInStore.{HasLostRound, IsKeptInRun, StandsAt}
use Rattle.stored_rounds.specs.declared.stored.StoredRounds.{StoredRounds}
use Rattle.recorded_images.specs.RecordedImages.{HoldsOfImages, IsKeptOfEvents, IsKeptOnRecord, StandForRecord, has_lost_store, lse_on_record}
use Rattle.recorded_rounds.proofs.OwnNames.{by-own-names, first-texts, list-at}
use Rattle.recorded_images.proofs.KeptImages.{HoldsOfKept, StandForLost, images-of-kept, images-of-lost}

-- What the laws of kept data say of each store that two files stand for.
abbrev pub LawsOfStores : Type 0
LawsOfStores = (kept : Kept) (one two : List ℕ) → Stands sha256 kept one two → KeptLaws kept

pub lse-of-record : (o : Opening) (given : RunScripts) (run : List CoreEvent)
    → (counters_of_run o run).lse ≡ lse_on_record (record_of o given run)
lse-of-record o given run = ap (λ (safe : ℕ). (journal_state safe (journal_of o run)).lse) (run-safe o run)

-- The item of the first list at the place of one of the second.
item-there : {A B : Type 0} (R : A → B → Type 0) (xs : List A) (ys : List B) (i : ℕ) (y : B) → AllZip R xs ys
    → slice_get ys i ≡ Some y → (x : A) × (slice_get xs i ≡ Some x) × R x y
item-there R [] [] i y all is = absurd (none-some y is)
item-there R (a ∷ xs) [] i y all is = absurd all
item-there R [] (b ∷ ys) i y all is = absurd all
item-there R (a ∷ xs) (b ∷ ys) zero y all is = (a, refl, subst (R a) (same_Some b y is) all.0)
item-there R (a ∷ xs) (b ∷ ys) (suc i) y all is = item-there R xs ys i y all.1 is

second-there : {A B : Type 0} (R : A → B → Type 0) (xs : List A) (ys : List B) (i : ℕ) (x : A) → AllZip R xs ys
    → slice_get xs i ≡ Some x → (y : B) × (slice_get ys i ≡ Some y)
second-there R [] ys i x all is = absurd (none-some x is)
second-there R (a ∷ xs) [] i x all is = absurd all
second-there R (a ∷ xs) (b ∷ ys) zero x all is = (b, refl)
second-there R (a ∷ xs) (b ∷ ys) (suc i) x all is = second-there R xs ys i x all.1 is

module _ (o : Opening) (given : RunScripts) (run : List CoreEvent) (r : IsScriptedRun o given run) (epoch : ℕ)
    (kept : Kept) (k : IsKeptOfEvents o run epoch kept) where
  at-desk : (cube : ℕ) (d : Decl) → slice_get kept.cubes cube ≡ Some d → slice_get (desk_of o run).cubes cube ≡ Some d
  at-desk cube d is =
      ap (λ (l : List Decl). slice_get l cube) (sym k.first.first_cubes.1)
      ∙ some_front kept.cubes k.first.first_cubes.0 cube d is

  shape-of : (cube : ℕ) (d : Decl) → slice_get kept.cubes cube ≡ Some d → o.shapes cube ≡ cube_of d
  shape-of cube d is = r.opens.shapes cube d (at-desk cube d is)

  in-dictionary : (cube dim : ℕ) (d : Decl) (list : List (List ℕ)) → slice_get (desk_of o run).cubes cube ≡ Some d
      → dim < length d.dims → IsPrefix list (dictionary_of o cube dim run).names
      → IsPrefix list (names_at (record_of o given run).names cube dim)
  in-dictionary cube dim d list is low first =
      elim (slice_get_cases d.dims dim).1 [
        | inl there ↦
            subst (IsPrefix list)
            (sym (names-are (names_in o run) (desk_of o run).cubes cube dim d there.0 is there.2)) first
        | inr past ↦ let many = past.0 in absurd (omega (arith, low, many))
      ]

  first-names : (cube dim : ℕ) (lists : DimNames) (list : List (List ℕ)) → slice_get kept.names cube ≡ Some lists
      → slice_get lists dim ≡ Some list → IsPrefix list (names_at (record_of o given run).names cube dim)
  first-names cube dim lists list at_cube at_dim =
      let there =
      item-there (λ (d : Decl) (l : DimNames). length l ≡ length d.dims) kept.cubes kept.names cube lists k.first.dims
      at_cube
      in
      let low = slice_get_within lists dim list at_dim in
      let many = there.2 in
      in-dictionary cube dim there.0 list (at-desk cube there.0 there.1) (omega (arith, low, many))
      (k.first.first_names cube dim lists list at_cube at_dim)

  -- The names of a kept cube, which come in the end with more behind them.
  lists-there : (cube : ℕ) (d : Decl) → slice_get kept.cubes cube ≡ Some d
      → (lists : DimNames) × IsCubeAt kept cube d lists
  lists-there cube d is =
      let there =
      second-there (λ (d : Decl) (l : DimNames). length l ≡ length d.dims) kept.cubes kept.names cube d k.first.dims is
      in
      (there.0, record { is = is; names = there.1 })

  names-end : KeptLaws kept → (cube : ℕ) (d : Decl) (lists : DimNames) → IsCubeAt kept cube d lists
      → EndAs d lists (lists_at (record_of o given run).names cube)
  names-end laws cube d lists at n e low =
      let is_cube = at-desk cube d at.is in
      let last =
      names-end-as o [] run cube d r.run is_cube is_cube (λ n dim. r.opens.names.suit cube n d dim is_cube) n e low
      in
      let first =
      subst (IsPrefix (texts_at lists n)) (sym (texts-are o run cube n d e is_cube low))
      (k.first.first_names cube n lists (texts_at lists n) at.names (list-at kept laws cube d lists at n low))
      in
      record {
        dictionary = record {
          distinct = last.dictionary.distinct;
          short = last.dictionary.short;
          few = last.dictionary.few;
          first = first-texts (texts_at lists n) (texts_at (lists_at (names_left o run) cube) n) first;
        };
        numbers = last.numbers;
      }

  abbrev recorded : RunRecord
  recorded = record_of o given run

  rows-stand : KeptLaws kept → (cube : ℕ) (d : Decl) → slice_get (catalog_of recorded).cubes cube ≡ Some d
      → StandForAll d (lists_at recorded.names cube) (kept_in_cube kept cube) (rows_on_record recorded epoch d.name)
  rows-stand laws cube d is =
      coe 0 1 (i. StandForAll d (lists_at recorded.names cube) (kept_in_cube kept cube)
      (rows_on_record recorded (k.ends i) d.name))
      (cube-for-record o given run kept cube d laws r k.content.rows (shape-of cube) is)

  rows-named : KeptLaws kept → (cube : ℕ) (d : Decl) → slice_get kept.cubes cube ≡ Some d
      → StandForAll d (lists_at kept.names cube) (kept_in_cube kept cube) (rows_on_record recorded epoch d.name)
  rows-named laws cube d is =
      let there = lists-there cube d is in
      coe 1 0 (i. StandForAll d (unwrap_or (there.1.names i) []) (kept_in_cube kept cube)
      (rows_on_record recorded epoch d.name))
      (by-own-names kept laws cube d there.0 there.1 (lists_at recorded.names cube)
      (rows_on_record recorded epoch d.name) (names-end laws cube d there.0 there.1)
      (rows-stand laws cube d
      (ap (λ (cubes : List Decl). slice_get cubes cube) (cubes-are o given run run r.run r.follow)
      ∙ at-desk cube d is)))

  pub on-record : KeptLaws kept → IsKeptOnRecord recorded epoch kept
  on-record laws = record {
    ends = k.ends;
    opening = k.content.opening;
    cubes = subst (IsPrefix kept.cubes) (sym (cubes-are o given run run r.run r.follow)) k.first.first_cubes;
    dims = k.first.dims;
    names = first-names;
    rows = rows-stand laws;
    named = rows-named laws;
  }

pub for-record : (o : Opening) (given : RunScripts) (run : List CoreEvent) → IsScriptedRun o given run → LawsOfStores
    → HoldsOfKept o run (StandForRecord (record_of o given run))
for-record o given run r laws kept epoch one two k stand = record {
  kept = kept;
  stand = stand;
  on_record = on-record o given run r epoch kept k (laws kept one two stand);
}

module _ (o : Opening) (given : RunScripts) (run : List CoreEvent) (r : IsScriptedRun o given run) (laws : LawsOfStores)
    {D : Type 0} (view : D → View) (m : StoredRounds D) (kept : Kept) (calls : List ClientCall)
    (in_run : IsKeptInRun kept o run calls)
    (stands : MatchBool (state_from_calls o (flusher o) calls).store_lost (HasLostRound view m kept o run)
    (StandsAt view m kept)) (all : calls ≡ calls_of (flusher o) run) where
  abbrev run_record : RunRecord
  run_record = record_of o given run

  pub kept-of-record : has_lost_store (journal_of o run) ≡ false
      → HoldsOfImages (view m.first) (view m.second) (view m.first) (view m.second)
      (StandForRecord run_record (lse_on_record run_record))
  kept-of-record there =
      coe 0 1 (i. HoldsOfImages (view m.first) (view m.second) (view m.first) (view m.second)
      (StandForRecord run_record (lse-of-record o given run i)))
      (images-of-kept o run r.run (StandForRecord run_record) (for-record o given run r laws) view m kept calls in_run
      stands all there)

  pub lost-of-record : ((lost : HasLostRound view m kept o run)
      → StandForLost o run r.run (StandForRecord run_record) (for-record o given run r laws) view m kept calls in_run
      stands all lost)
      → has_lost_store (journal_of o run) ≡ true
      → (lost : HasLostRound view m kept o run)
      × HoldsOfImages (view lost.before.first) (view lost.before.second) (view m.first) (view m.second)
      (λ one two. StandForRecord run_record (lse_on_record run_record) one two
      ⊎ StandForRecord run_record lost.round.epoch one two)
  lost-of-record either gone =
      coe 0 1 (i. (lost : HasLostRound view m kept o run)
      × HoldsOfImages (view lost.before.first) (view lost.before.second) (view m.first) (view m.second)
      (λ one two. StandForRecord run_record (lse-of-record o given run i) one two
      ⊎ StandForRecord run_record lost.round.epoch one two))
      (images-of-lost o run r.run (StandForRecord run_record) (for-record o given run r laws) view m kept calls in_run
      stands all either gone)
