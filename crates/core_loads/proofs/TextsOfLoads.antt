-- The texts for which a LOAD asks are those of records at which its step looks.
use Rattle.std.proofs.Common.{◌≡◌, ◌∙◌, inl, inr, ℕ, zero, suc, ◌<◌, List, [], ◌∷◌, ◌++◌, Contains, length, map, take, Result, Ok, refl, sym, ap, subst, arith}
use Rattle.std.proofs.lemmas.List.{length-map, map-append}
use Rattle.std.proofs.lemmas.Simd.{map-map}
use mathlib.Core.List.{IsPrefix}
use Rattle.condition_spans.specs.Codes.{lists_at}
use Rattle.core_loads.specs.LoadEnds.{IsFileText, NoText}
use Rattle.core_loads.specs.ShelfLoads.{LoadsRows, allowed_loaded}
use Rattle.core_names.specs.NamesInTheEnd.{MayLeaveNames}
use Rattle.core_program.specs.CoreFits.{CoreEntry}
use Rattle.csv_load.specs.FileRecords.{record_row, records_of}
use Rattle.csv_load.specs.Loads.{BeginsLoad, LoadState}
use Rattle.cube_core.specs.declared.cell.CoreCell.{CoreCell}
use Rattle.cube_language.specs.declared.bad_row.BadRow.{BadRow}
use Rattle.cube_language.specs.declared.decl.Decl.{Decl}
use Rattle.cube_language.specs.declared.statement.Statement.{Statement}
use Rattle.cube_language.specs.declared.statement.Statement.TheVariants.{Load}
use Rattle.cube_run.specs.LoadedRows.{judged_record, load_records, records_looked_at}
use Rattle.cube_run.specs.RunRecords.{LoadedFile, RunRecord, catalog_of}
use Rattle.cube_run.specs.SessionSteps.{SessionStep}
use Rattle.cube_values.specs.declared.row.Row.{Row}
use Rattle.scripted_pasts.specs.AskedTexts.{AsksOnly}
use Rattle.scripted_pasts.specs.StepTexts.{HasTextFor, LooksAtRowWith}
use Rattle.found_cubes.specs.CubesOnRecord.{HasCubeAt}
use Rattle.inserted_rows.proofs.NamesAtEnd.{left-later}
use Rattle.linked_shards.specs.CellShards.{CoreShardStands}
use Rattle.linked_shards.specs.declared.cell.CoreShard.{CoreShard}
use Rattle.loaded_batches.specs.LoadTexts.{AsksForSuch, IsLoadText}
use Rattle.loaded_files.specs.LoadedFiles.{loaded_file}
use Rattle.outside.specs.Given.{whole}
use Rattle.posted_pasts.specs.PostsAdded.{GoesOnWith, LearnsThat}
use Rattle.row_encoding.proofs.LoadSteps.{result_row}
use Rattle.row_encoding.specs.CodedLoads.{HaveTextLookedAt, final_records, record_result}
use Rattle.shard_events.specs.ShardsInRuns.{FitsShard, ShardAnswerSays}

-- ---- texts of one kind are of another

pub asks-as : (A B : ℕ → ℕ → List ℕ → Type 0) → ((cube dim : ℕ) (text : List ℕ) → A cube dim text → B cube dim text)
    → (cells : List (CoreCell CoreShard)) (caller session : ℕ) (own now : List CoreEntry)
    → LearnsThat FitsShard CoreShardStands ShardAnswerSays (AsksOnly A) cells caller session own now
    → LearnsThat FitsShard CoreShardStands ShardAnswerSays (AsksOnly B) cells caller session own now
asks-as A B step cells caller session own now asks o log run es later are =
    let g : GoesOnWith FitsShard CoreShardStands ShardAnswerSays (AsksOnly A) o session own es =
    asks o log run es later are
    in
    record {
      before = g.before;
      events = g.events;
      adds = λ cube dim text asked.
          elim (g.adds cube dim text asked) [
            | inl old ↦ inl old
            | inr is ↦ inr (step cube dim text is)
          ];
    }

pub of-none : (B : ℕ → ℕ → List ℕ → Type 0) (cube dim : ℕ) (text : List ℕ) → NoText cube dim text → B cube dim text
of-none B cube dim text none = absurd none

module _ (cells : List (CoreCell CoreShard)) (caller place : ℕ) (d : Decl) (allowed : ℕ) where
  -- A text of records that are loaded is one of their file.
  pub of-file : (now : List CoreEntry) (load : LoadState) (bytes : List ℕ) → BeginsLoad load d bytes → (cube dim : ℕ)
      (text : List ℕ) → IsLoadText cells caller place d now allowed load cube dim text
      → IsFileText cells caller now place d allowed (loaded_file (whole bytes)) cube dim text
  of-file now load bytes begins cube dim text is =
      record { bytes = bytes; file_is = refl; load = load; all = begins.all; of_load = is }

  -- So it is after more calls.
  pub file-text-later : (file : LoadedFile) (own now : List CoreEntry) → IsPrefix own now → (cube dim : ℕ)
      (text : List ℕ) → IsFileText cells caller own place d allowed file cube dim text
      → IsFileText cells caller now place d allowed file cube dim text
  file-text-later file own now more cube dim text is =
      let h = is.of_load.looked in
      record {
        bytes = is.bytes;
        file_is = is.file_is;
        load = is.load;
        all = is.all;
        of_load = record {
          here = is.of_load.here;
          looked = record {
            before = h.before;
            fields = h.fields;
            rest = h.rest;
            are = h.are;
            row = h.row;
            here = h.here;
            looked = λ names may. h.looked names (left-later cells caller own now names more may);
          };
        };
      }

-- Calls that ask only for texts of records that are loaded ask only for such of their file.
pub asks-of-file : (cells : List (CoreCell CoreShard)) (caller session place : ℕ) (d : Decl) (many allowed : ℕ)
    (own now : List CoreEntry) (load : LoadState) (bytes : List ℕ) → many ≡ allowed → BeginsLoad load d bytes
    → AsksForSuch cells caller place d session many load own now
    → LearnsThat FitsShard CoreShardStands ShardAnswerSays
    (AsksOnly (IsFileText cells caller now place d allowed (loaded_file (whole bytes)))) cells caller session own now
asks-of-file cells caller session place d many allowed own now load bytes same begins asked =
    asks-as (IsLoadText cells caller place d now allowed load)
    (IsFileText cells caller now place d allowed (loaded_file (whole bytes)))
    (of-file cells caller place d allowed now load bytes begins) cells caller session own now
    (subst (λ (n : ℕ). AsksForSuch cells caller place d session n load own now) same asked)

-- ---- in the step

in-front : {X : Type 0} (before : List X) (x : X) (rest : List X) (n : ℕ) → length before < n
    → Contains (take n (before ++ x ∷ rest)) x
in-front [] x rest zero l = absurd (omega (arith, l))
in-front [] x rest (suc n) l = (0, omega arith, refl)
in-front (y ∷ before) x rest zero l = absurd (omega (arith, l))
in-front (y ∷ before) x rest (suc n) l =
    behind (take n (before ++ x ∷ rest)) (in-front before x rest n (omega (arith, l)))
  where
    behind : (xs : List _) → Contains xs x → Contains (y ∷ xs) x
    behind xs (k, m, at) = (suc k, omega (arith, m), at)

module _ (run : RunRecord) (step : SessionStep) (place : ℕ) (d : Decl) (allowed : ℕ) (bytes : List ℕ) where
  looks-at-row : (s : Statement) (load : LoadState) (may_end : List (List (List (List ℕ))) → Type 0) (dim : ℕ)
      (text : List ℕ) → HasCubeAt run step s place d → step.file ≡ loaded_file (whole bytes)
      → load.left ≡ records_of bytes → may_end run.names
      → HaveTextLookedAt may_end place d allowed load dim text → LooksAtRowWith run step d allowed dim text
  looks-at-row s load may_end dim text m file_is all may h =
      let lists = lists_at run.names place in
      let front = map (record_result d) h.before in
      let rest = map (record_result d) h.rest in
      let n = length (load_records (catalog_of run) d.name allowed step.file) in
      let declared = m.on.declared in
      let names = m.names in
      let count : n ≡ length (records_looked_at allowed (final_records d lists (records_of bytes))) =
      (λ i. length (load_records (catalog_of run) d.name allowed (file_is i)))
      ∙ (λ i. length (records_looked_at allowed
      (map (judged_record (declared i) (names i)) (map (record_result (declared i)) (records_of bytes)))))
      ∙ ap (λ (records : List (Result Row BadRow)). length (records_looked_at allowed records))
      (map-map (judged_record d lists) (record_result d) (records_of bytes))
      in
      let long : length h.before < length (records_looked_at allowed (final_records d lists (records_of bytes))) =
      coe 0 1 (i. length h.before < length (records_looked_at allowed (final_records d lists (all i))))
      (h.looked run.names may)
      in
      let size = length-map h.before (record_result d) in
      let are : map (record_result d) (records_of bytes) ≡ front ++ Ok (record_row d h.fields) ∷ rest =
      ap (map (record_result d)) (sym all ∙ h.are) ∙ map-append (record_result d) h.before (h.fields ∷ h.rest)
      ∙ ap (λ (r : Result Row BadRow). front ++ r ∷ rest) (result_row d h.fields h.row)
      in
      record {
        row = record_row d h.fields;
        looks = record {
          records = λ e. map (record_result e) (records_of bytes);
          file = file_is;
          looked =
              coe 1 0 (i. Contains (take n (are i)) (Ok (record_row d h.fields)))
              (in-front front (Ok (record_row d h.fields)) rest n (omega (arith, count, long, size)));
        };
        here = h.here;
      }

-- A text of its file is one of its step.
pub text-of : (cells : List (CoreCell CoreShard)) (caller : ℕ) (now : List CoreEntry) (run : RunRecord)
    (step : SessionStep) (s : Statement) (place : ℕ) (d : Decl) (file : LoadedFile) (cube dim : ℕ) (text : List ℕ)
    → LoadsRows s → HasCubeAt run step s place d → step.file ≡ file
    → MayLeaveNames FitsShard CoreShardStands ShardAnswerSays cells caller now run.names
    → IsFileText cells caller now place d (allowed_loaded s) file cube dim text → HasTextFor run step d dim text s
text-of cells caller now run step (Load name path reject) place d file cube dim text loads m file_is may is =
    looks-at-row run step place d reject is.bytes (Load name path reject) is.load
    (MayLeaveNames FitsShard CoreShardStands ShardAnswerSays cells caller now) dim text m (file_is ∙ is.file_is) is.all
    may is.of_load.looked
text-of cells caller now run step s place d file cube dim text loads m file_is may is = absurd loads
