-- The names that a cube has in the end of a run are distinct in each dimension, and short.
use Rattle.std.proofs.Common.{◌≡◌, ℕ, zero, suc, ◌+◌, ◌≤◌, List, [], ◌∷◌, length, map, slice_get, unwrap_or, Option, Some, None, refl, sym, ap, subst}
use Rattle.std.specs.Prelude.{All}
use Rattle.std.specs.List.{IsDistinct, enumerate_from}
use Rattle.std.specs.Str.{bytes_eq}
use Rattle.std.proofs.lemmas.List.Elements.{All-nil}
use Rattle.std.proofs.lemmas.Option.{none-some}
use mathlib.Core.List.{IsPrefix}
use Rattle.condition_spans.specs.Codes.{lists_at, texts_at}
use Rattle.core_program.proofs.KnownCalls.{earlier-run}
use Rattle.core_program.specs.Knowing.{IsLaterRun}
use Rattle.core_events.specs.Cells.{desk_of, dictionary_of}
use Rattle.core_events.specs.Events.{Opening, CoreEvent}
use Rattle.core_events.specs.Jobs.{CoreJob, JobOutcome}
use Rattle.core_events.specs.ShardView.{ShardView}
use Rattle.core_names.specs.NamesInTheEnd.{MayLeaveNames, OpenWithNames}
use Rattle.core_program.specs.CoreFits.{CoreEntry}
use Rattle.core_records.proofs.NamesOnRecord.{cube-names, dim-names, suits-run}
use Rattle.core_records.specs.CoreRecords.{names_in, names_left, names_of_dims}
use Rattle.cube_core.specs.declared.cell.CoreCell.{CoreCell}
use Rattle.cube_core.specs.declared.shard.ShardAnswer.{ShardAnswer}
use Rattle.cube_core.specs.declared.shard.ShardCall.{ShardCall}
use Rattle.cube_language.specs.declared.bad_row.TheConstants.{TEXT_BYTES}
use Rattle.cube_language.specs.declared.decl.Decl.{Decl}
use Rattle.cube_language.specs.declared.decl.DimDecl.{DimDecl}
use Rattle.kept_data.proofs.ApartNames.{apart_from, none_distinct}
use Rattle.known_cubes.proofs.ToldCubes.{desk-has}
use Rattle.known_cubes.specs.KnownCubes.{IsToldOfCube}
use Rattle.row_encoding.specs.CodedTexts.{AreNames}

-- Texts that are distinct and not too long.
record AreShortAndApart (texts : List (List ℕ)) : Type 0 where
  distinct : IsDistinct bytes_eq texts
  short : All (λ name. length name ≤ TEXT_BYTES) texts

none-past : {X Y : Type 0} (f : ℕ × X → Y) (n : ℕ) (xs : List X) (k : ℕ) → slice_get xs k ≡ None
    → slice_get (map f (enumerate_from n xs)) k ≡ None
none-past f n [] k is = refl
none-past f n (y ∷ xs) zero is = absurd (none-some y (sym is))
none-past f n (y ∷ xs) (suc k) is = none-past f (n + 1) xs k is

module _ {S : Type 0} (fits : Opening → ℕ → ShardCall → Type 0) (stands : Opening → ℕ → ℕ → S → ShardView → Type 0)
    (says : CoreJob → ShardAnswer → JobOutcome → Type 0) (cells : List (CoreCell S)) (caller : ℕ)
    (own : List CoreEntry) where
  module _ (name : List ℕ) (place : ℕ) (d : Decl) (told : IsToldOfCube own name place d)
      (named : OpenWithNames fits stands says cells) where
    module _ (o : Opening) (log : List CoreEntry) (run : List CoreEvent)
        (later : IsLaterRun fits stands says cells o caller own log run) where
      cube-is : slice_get (desk_of o run).cubes place ≡ Some d
      cube-is = (desk-has fits stands says o cells caller own log run name place d later told).0

      texts-are : (k : ℕ)
          → texts_at (lists_at (names_left o run) place) k ≡ texts_at (names_of_dims (names_in o run place) d.dims) k
      texts-are k =
          ap (λ (l : Option (List (List (List ℕ)))). texts_at (unwrap_or l []) k)
          (cube-names (names_in o run) (desk_of o run).cubes place d cube-is)

      in-dimension : (k : ℕ) (o_dim : Option DimDecl) → slice_get d.dims k ≡ o_dim
          → AreShortAndApart (texts_at (names_of_dims (names_in o run place) d.dims) k)
      in-dimension k None is =
          subst (λ (texts : List (List ℕ)). AreShortAndApart texts)
          (sym (ap (λ (l : Option (List (List ℕ))). unwrap_or l [])
          (none-past (λ (p : ℕ × DimDecl). names_in o run place p.0) 0 d.dims k is)))
          (record { distinct = none_distinct; short = All-nil (λ name. length name ≤ TEXT_BYTES) })
      in-dimension k (Some dim) is =
          let suits =
          suits-run o run place k dim later.is_run
          ((named o log run later.opens later.events later.is_run).suit place k d dim cube-is is)
          in
          subst (λ (texts : List (List ℕ)). AreShortAndApart texts)
          (sym (ap (λ (l : Option (List (List ℕ))). unwrap_or l []) (dim-names (names_in o run place) d.dims k dim is)))
          (record { distinct = apart_from (dictionary_of o place k run).names suits.distinct; short = suits.short })

      each : (k : ℕ) → AreShortAndApart (texts_at (lists_at (names_left o run) place) k)
      each k =
          subst (λ (texts : List (List ℕ)). AreShortAndApart texts) (sym (texts-are k))
          (in-dimension k (slice_get d.dims k) refl)

      left-are-names : AreNames (lists_at (names_left o run) place)
      left-are-names = record { distinct = λ k. (each k).distinct; short = λ k. (each k).short }

    pub are-names : (names : List (List (List (List ℕ)))) → MayLeaveNames fits stands says cells caller own names
        → AreNames (lists_at names place)
    are-names names may =
        subst (λ (ns : List (List (List (List ℕ)))). AreNames (lists_at ns place)) (sym may.are)
        (left-are-names may.opening may.log may.run may.later)

  -- What later calls may leave earlier ones may.
  pub may-before : (now : List CoreEntry) (names : List (List (List (List ℕ)))) → IsPrefix own now
      → MayLeaveNames fits stands says cells caller now names → MayLeaveNames fits stands says cells caller own names
  may-before now names more may = record {
    opening = may.opening;
    log = may.log;
    run = may.run;
    later =
        earlier-run fits stands says cells may.opening caller own more.0 may.log may.run
        (subst (λ (l : List CoreEntry). IsLaterRun fits stands says cells may.opening caller l may.log may.run)
        (sym more.1) may.later);
    are = may.are;
  }
