-- The rows with which a run opens stand for the kept rows of the record.
use Rattle.std.proofs.Common.{◌≡◌, ◌≢◌, ◌∙◌, ℕ, ◌+◌, Bool, cond, List, [], ◌∷◌, map, slice_get, append-nil, Option, Some, None, refl, sym, ap, subst, arith}
use Rattle.std.specs.List.{enumerate_from, flat_map}
use Rattle.std.specs.Str.{bytes_eq}
use Rattle.std.proofs.lemmas.List.Sorted.{IsPermutation-refl}
use Rattle.std.proofs.lemmas.Option.{none-some, same_Some}
use Rattle.cube_values.specs.declared.row.CodedRow.{CodedRow}
use Rattle.cube_values.specs.declared.row.StoredRow.{StoredRow}
use Rattle.cube_language.specs.declared.decl.Decl.{Decl}
use Rattle.condition_spans.specs.Codes.{lists_at}
use Rattle.query_plan.specs.Ties.{stored_for}
use Rattle.one_session.specs.Changes.{AreNamedApart, ComeFor, rows_in_cube}
use Rattle.one_session.proofs.Coded.{other_name, same_name}
use Rattle.core_events.specs.Cells.{desk_of}
use Rattle.core_events.specs.Events.{Opening, CoreEvent}
use Rattle.core_events.specs.Runs.{IsCoreRun}
use Rattle.core_records.specs.CoreRecords.{names_left, rows_kept}
use Rattle.core_records.proofs.CubesOnRecord.{cube-stays, names-apart, run-before}
use Rattle.core_records.proofs.NamedApart.{named-apart}
use Rattle.core_records.proofs.NamesOnRecord.{beyond}
use Rattle.serial_transactions.proofs.ByEpochs.{filter-made}
use Rattle.core_agreements.specs.NamedQueries.{EndAs}
use Rattle.core_agreements.specs.PostsForOperations.{StandForAll}
use Rattle.core_agreements.specs.ScriptedRuns.{OpensWithCubes}
use Rattle.core_agreements.proofs.EpochOperations.{none-of, one-of}
use Rattle.core_agreements.proofs.NamedValues.{SuitAll, names-end-as, rows-keep, rows-stand}

all-own : (name : List ℕ) (lists : List (List (List ℕ))) (rows : List CodedRow)
    → rows_in_cube name (map (stored_for name lists) rows) ≡ map (stored_for name lists) rows
all-own name lists [] = refl
all-own name lists (row ∷ rows) =
    (λ i. cond (same_name name i) (stored_for name lists row ∷ all-own name lists rows i) (all-own name lists rows i))

none-own : (name other : List ℕ) (lists : List (List (List ℕ))) (rows : List CodedRow) → other ≢ name
    → rows_in_cube name (map (stored_for other lists) rows) ≡ []
none-own name other lists [] differ = refl
none-own name other lists (row ∷ rows) differ =
    ap (λ (b : Bool). cond b (stored_for other lists row ∷ rows_in_cube name (map (stored_for other lists) rows))
    (rows_in_cube name (map (stored_for other lists) rows)))
    (other_name other name differ)
    ∙ none-own name other lists rows differ

module _ (o : Opening) (es : List CoreEvent) (cube : ℕ) (d : Decl) (run : IsCoreRun o es)
    (opens : OpensWithCubes o (desk_of o es).cubes) (is : slice_get (desk_of o es).cubes cube ≡ Some d) where
  -- The kept rows of a cube of the opening, as rows of values of the cube of d.
  abbrev kept_of : ℕ × Decl → List StoredRow
  kept_of p = rows_in_cube d.name (map (stored_for p.1.name (lists_at (names_left o []) p.0)) (o.rows p.0))

  stays : (k : ℕ) (x : Decl) → slice_get o.cubes k ≡ Some x → slice_get (desk_of o es).cubes k ≡ Some x
  stays k x there =
      ap (λ (all : List CoreEvent). slice_get (desk_of o all).cubes k) (sym (append-nil es))
      ∙ cube-stays o es [] k x there

  apart : AreNamedApart (desk_of o es).cubes
  apart = named-apart (desk_of o es).cubes (names-apart o es run opens.apart)

  not-of-other : (k : ℕ) (x : Decl) → slice_get o.cubes k ≡ Some x → k ≢ cube → kept_of (0 + k, x) ≡ []
  not-of-other k x there differ =
      none-own d.name x.name (lists_at (names_left o []) (0 + k)) (o.rows (0 + k))
      (λ same. differ (apart k cube x d (stays k x there) is same))

  split : rows_in_cube d.name (rows_kept o) ≡ flat_map kept_of (enumerate_from 0 o.cubes)
  split =
      filter-made (λ (row : StoredRow). bytes_eq row.cube d.name)
      (λ (p : ℕ × Decl). map (stored_for p.1.name (lists_at (names_left o []) p.0)) (o.rows p.0))
      (enumerate_from 0 o.cubes)

  from-opening : slice_get o.cubes cube ≡ Some d → ComeFor d (lists_at (names_left o es) cube) (o.rows cube)
      (rows_in_cube d.name (rows_kept o))
  from-opening there =
      let place : 0 + cube ≡ cube = omega arith in
      let start : IsCoreRun o [] = run-before o es [] (coe 1 0 (i. IsCoreRun o (append-nil es i)) run) in
      let suit : SuitAll o cube d = λ k dim has. opens.names.suit cube k d dim is has in
      let stand = rows-stand o [] cube d (o.rows cube) start there (opens.shapes cube d is) suit (opens.rows cube) in
      let ends =
      coe 0 1 (i. IsCoreRun o (append-nil es i) → slice_get (desk_of o []).cubes cube ≡ Some d
      → slice_get (desk_of o (append-nil es i)).cubes cube ≡ Some d → SuitAll o cube d
      → EndAs d (lists_at (names_left o []) cube) (lists_at (names_left o (append-nil es i)) cube))
      (names-end-as o es [] cube d)
      in
      let keep =
      rows-keep d (lists_at (names_left o []) cube) (lists_at (names_left o es) cube) (o.rows cube)
      (ends run there is suit) stand
      in
      record {
        are =
            split
            ∙ one-of kept_of 0 o.cubes cube d there not-of-other
            ∙ ap (λ (k : ℕ). kept_of (k, d)) place
            ∙ all-own d.name (lists_at (names_left o []) cube) (o.rows cube)
            ∙ keep.are;
        each = keep.each;
      }

  made-later : slice_get o.cubes cube ≡ None → ComeFor d (lists_at (names_left o es) cube) []
      (rows_in_cube d.name (rows_kept o))
  made-later missing = record {
    are =
        split ∙ none-of kept_of 0 o.cubes (λ k x there.
        not-of-other k x there (λ same.
        none-some x (sym missing ∙ ap (slice_get o.cubes) (sym same) ∙ there)));
    each = tt;
  }

  come : (there : Option Decl) → slice_get o.cubes cube ≡ there
      → ComeFor d (lists_at (names_left o es) cube) (o.rows cube) (rows_in_cube d.name (rows_kept o))
  come (Some x) there =
      from-opening (there ∙ ap Some (same_Some x d (sym (stays cube x there) ∙ is)))
  come None missing =
      subst (λ (rows : List CodedRow). ComeFor d (lists_at (names_left o es) cube) rows
      (rows_in_cube d.name (rows_kept o)))
      (sym (opens.none cube (beyond o.cubes cube missing))) (made-later missing)

  pub kept-stands : StandForAll d (lists_at (names_left o es) cube) (o.rows cube) (rows_in_cube d.name (rows_kept o))
  kept-stands = record {
    ordered = o.rows cube;
    moved = IsPermutation-refl (o.rows cube);
    come = come (slice_get o.cubes cube) refl;
  }
