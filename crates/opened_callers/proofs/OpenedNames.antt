-- The cells of an opened core tell with which dictionaries it opened.
use Rattle.std.proofs.Common.{◌≡◌, ◌∙◌, ℕ, zero, suc, ◌≤◌, Bool, true, false, List, [], ◌∷◌, ◌++◌, length, map, get_or, slice_get, Option, Some, None, All, refl, sym, ap, subst, arith, if◌then◌else◌}
use Rattle.std.specs.Prelude.{MatchBool}
use Rattle.std.specs.List.{AllZip, zip}
use Rattle.std.proofs.lemmas.List.Elements.{All-nil}
use Rattle.std.proofs.lemmas.Option.{none-some, same_Some}
use Rattle.cube_values.specs.declared.shape.Size.{Size}
use Rattle.cube_language.specs.Cubes.{first_repeated, sizes_of}
use Rattle.cube_language.specs.declared.bad_row.TheConstants.{TEXT_BYTES}
use Rattle.cube_language.specs.declared.decl.Decl.{Decl}
use Rattle.cube_language.specs.declared.decl.DimDecl.{DimDecl}
use Rattle.cube_rounds.specs.Demands.{DimNames}
use Rattle.cube_rounds.specs.Stands.{Kept}
use Rattle.cube_schema.specs.Schemas.{cube_of}
use Rattle.names_dict.specs.Dictionaries.{Dictionary, dictionaries_of, dictionary_at, dictionary_for, dictionary_in, empty_dictionaries, made_dictionaries}
use Rattle.kept_data.specs.KeptDicts.{dictionaries_with_names, with_names}
use Rattle.kept_data.specs.KeptNames.{AreKeptNames, FitKeptNames, HaveKeptNames}
use Rattle.cube_core.specs.BoardCells.{StandsInCell}
use Rattle.core_events.specs.Cells.{desk_of}
use Rattle.core_events.specs.Events.{Opening, CoreEvent}
use Rattle.cube_core.specs.NamesEvents.{AreNamesOf}
use Rattle.core_program.specs.CoreFits.{CoreEntry, OpensCells}
use Rattle.core_records.specs.OpeningNames.{OpensWithNames, SuitsDimension}
use Rattle.cube_core.specs.declared.cell.CoreCell.{CoreCell}
use Rattle.cube_core.specs.declared.cell.CoreCell.TheVariants as cell
use Rattle.known_cubes.specs.KnownCubes.{AreMadeAfter}
use Rattle.linked_shards.specs.CellShards.{CoreShardStands}
use Rattle.linked_shards.specs.declared.cell.CoreShard.{CoreShard}
use Rattle.opened_callers.proofs.ToldCubes.{cubes-told}
use Rattle.opened_core.specs.Openings.{AreCellsOver, IsCellOver}
use Rattle.shard_events.specs.ShardsInRuns.{FitsShard, ShardAnswerSays}
use Rattle.turn_board.proofs.Places.{there as place-there}

abbrev nameless : Dictionary
nameless = record { cardinality = 0; names = [] }

-- The dictionary of one dimension.

record SuitText (text : Bool) (cardinality : ℕ) (names : List (List ℕ)) : Type 0 where
  fits : length names ≤ (if text then cardinality else 0)
  distinct : first_repeated names ≡ None
  short : All (λ name. length name ≤ TEXT_BYTES) names

suit-text : (text : Bool) (cardinality : ℕ) (names : List (List ℕ))
    → MatchBool text (AreKeptNames cardinality names) (names ≡ []) → SuitText text cardinality names
suit-text true cardinality names kept = record { fits = kept.few; distinct = kept.differ; short = kept.short }
suit-text false cardinality names none =
    subst (SuitText false cardinality) (sym none)
    (record { fits = omega arith; distinct = refl; short = All-nil (λ name. length name ≤ TEXT_BYTES) })

suits-one : (dim : DimDecl) (names : List (List ℕ)) → FitKeptNames dim names
    → SuitsDimension dim (record { cardinality = if dim.text then dim.cardinality else 0; names = names })
suits-one dim names fit =
    let suit = suit-text dim.text dim.cardinality names fit in
    record { room = refl; fits = suit.fits; distinct = suit.distinct; short = suit.short }

suits-new : (dim : DimDecl)
    → SuitsDimension dim (record { cardinality = if dim.text then dim.cardinality else 0; names = [] })
suits-new dim = record {
  room = refl;
  fits = omega arith;
  distinct = refl;
  short = All-nil (λ name. length name ≤ TEXT_BYTES);
}

-- Those of one cube.

suits-kept : (dims : List DimDecl) (lists : DimNames) (place : ℕ) (dim : DimDecl) → AllZip FitKeptNames dims lists
    → slice_get dims place ≡ Some dim
    → SuitsDimension dim
    (get_or (map (λ d. with_names d.0 d.1) (zip (empty_dictionaries (sizes_of dims) (map (λ d. d.text) dims)) lists)) place nameless)
suits-kept [] lists place dim fit at = absurd (none-some dim at)
suits-kept (x ∷ dims) [] place dim fit at = absurd fit
suits-kept (x ∷ dims) (names ∷ lists) zero dim fit at =
    subst (λ (d : DimDecl). SuitsDimension d (record { cardinality = if x.text then x.cardinality else 0; names = names }))
    (same_Some x dim at) (suits-one x names fit.0)
suits-kept (x ∷ dims) (names ∷ lists) (suc place) dim fit at = suits-kept dims lists place dim fit.1 at

suits-empty : (dims : List DimDecl) (place : ℕ) (dim : DimDecl) → slice_get dims place ≡ Some dim
    → SuitsDimension dim (get_or (empty_dictionaries (sizes_of dims) (map (λ d. d.text) dims)) place nameless)
suits-empty [] place dim at = absurd (none-some dim at)
suits-empty (x ∷ dims) zero dim at =
    subst (λ (d : DimDecl). SuitsDimension d (record { cardinality = if x.text then x.cardinality else 0; names = [] }))
    (same_Some x dim at) (suits-new x)
suits-empty (x ∷ dims) (suc place) dim at = suits-empty dims place dim at

no-name : (sizes : List Size) (texts : List Bool) (place : ℕ)
    → (get_or (empty_dictionaries sizes texts) place nameless).names ≡ []
no-name [] texts place = refl
no-name (s ∷ sizes) [] place = refl
no-name (s ∷ sizes) (text ∷ texts) zero = refl
no-name (s ∷ sizes) (text ∷ texts) (suc place) = no-name sizes texts place

-- Those of all cubes that are kept, and none past them.

past-all : (cubes : List Decl) (names : List DimNames) (place : ℕ) → length cubes ≤ place
    → dictionaries_of (dictionaries_with_names cubes names) place ≡ []
past-all [] names place le = refl
past-all (c ∷ cubes) [] place le = refl
past-all (c ∷ cubes) (n ∷ names) zero le = absurd (omega (arith, le))
past-all (c ∷ cubes) (n ∷ names) (suc place) le = past-all cubes names place (omega (arith, le))

past-none : (cubes : List Decl) (place : ℕ) → slice_get cubes place ≡ None → length cubes ≤ place
past-none [] place none = omega arith
past-none (c ∷ cubes) zero none = absurd (none-some c (sym none))
past-none (c ∷ cubes) (suc place) none = let rest = past-none cubes place none in omega (arith, rest)

kept-at : (cubes : List Decl) (names : List DimNames) (place at : ℕ) (cube : Decl) (dim : DimDecl)
    → HaveKeptNames cubes names → slice_get cubes place ≡ Some cube → slice_get cube.dims at ≡ Some dim
    → SuitsDimension dim (dictionary_at (dictionaries_with_names cubes names) place at)
kept-at [] names place at cube dim fit is here = absurd (none-some cube is)
kept-at (c ∷ cubes) [] place at cube dim fit is here = absurd fit
kept-at (c ∷ cubes) (n ∷ names) zero at cube dim fit is here =
    suits-kept c.dims n at dim fit.0
    (subst (λ (d : Decl). slice_get d.dims at ≡ Some dim) (sym (same_Some c cube is)) here)
kept-at (c ∷ cubes) (n ∷ names) (suc place) at cube dim fit is here = kept-at cubes names place at cube dim fit.1 is here

first-stays : (cubes more : List Decl) (place : ℕ) (cube : Decl) → slice_get cubes place ≡ Some cube
    → slice_get (cubes ++ more) place ≡ Some cube
first-stays [] more place cube is = absurd (none-some cube is)
first-stays (c ∷ cubes) more zero cube is = is
first-stays (c ∷ cubes) more (suc place) cube is = first-stays cubes more place cube is

-- The dictionaries of the names cell.
names-tell : (kept : Kept) (shards sessions : ℕ) (o : Opening) (x : CoreCell CoreShard)
    → IsCellOver kept shards sessions 1 x
    → StandsInCell FitsShard CoreShardStands ShardAnswerSays o 1 x []
    → AreNamesOf o [] (dictionaries_with_names kept.cubes kept.names)
names-tell kept shards sessions o (cell.Desk desk alloc) is stand = absurd (omega (arith, is.0))
names-tell kept shards sessions o (cell.Names names) is stand = subst (AreNamesOf o []) is.1 stand.1
names-tell kept shards sessions o (cell.Shard s) is stand = absurd (omega (arith, is.1))
names-tell kept shards sessions o (cell.Mail m) is stand = absurd (omega (arith, is.1))

module _ (kept : Kept) (shards sessions : ℕ) (cells : List (CoreCell CoreShard))
    (over : AreCellsOver kept shards sessions cells) (named : HaveKeptNames kept.cubes kept.names)
    (made : (cube dim : ℕ) (d : Decl) → slice_get kept.cubes cube ≡ Some d
    → dictionary_for (cube_of d) (dictionaries_with_names kept.cubes kept.names) cube dim
    ≡ dictionary_at (dictionaries_with_names kept.cubes kept.names) cube dim) where
  -- The dictionary with which a run opens, by the shape of its cube.
  told : (o : Opening) (log : List CoreEntry) → OpensCells FitsShard CoreShardStands ShardAnswerSays o cells log
      → AreNamesOf o [] (dictionaries_with_names kept.cubes kept.names)
  told o log opens =
      let long = over.long in
      let second = place-there cells 1 (omega (arith, long)) in
      names-tell kept shards sessions o second.0 (over.each 1 second.0 second.1) (opens.stand 1 second.0 second.1)

  suits-found : (cube place : ℕ) (d : Decl) (dim : DimDecl) (found : Option Decl) (more : List Decl)
      → slice_get kept.cubes cube ≡ found → slice_get (kept.cubes ++ more) cube ≡ Some d
      → slice_get d.dims place ≡ Some dim
      → SuitsDimension dim (dictionary_for (cube_of d) (dictionaries_with_names kept.cubes kept.names) cube place)
  suits-found cube place d dim None more found is at =
      subst (λ (dims : List Dictionary). SuitsDimension dim (dictionary_in (made_dictionaries (cube_of d) dims) place))
      (sym (past-all kept.cubes kept.names cube (past-none kept.cubes cube found)))
      (suits-empty d.dims place dim at)
  suits-found cube place d dim (Some c) more found is at =
      let same : c ≡ d = same_Some c d (sym (first-stays kept.cubes more cube c found) ∙ is) in
      let here : slice_get kept.cubes cube ≡ Some d = subst (λ (x : Decl). slice_get kept.cubes cube ≡ Some x) same found in
      subst (SuitsDimension dim) (sym (made cube place d here))
      (kept-at kept.cubes kept.names cube place d dim named here at)

  pub opened-names : (o : Opening) (log : List CoreEntry) (run : List CoreEvent)
      → OpensCells FitsShard CoreShardStands ShardAnswerSays o cells log
      → AreMadeAfter o.cubes (desk_of o run).cubes
      → ((place : ℕ) (d : Decl) → slice_get (desk_of o run).cubes place ≡ Some d → o.shapes place ≡ cube_of d)
      → OpensWithNames o (desk_of o run).cubes
  opened-names o log run opens after shapes =
      let names = told o log opens in
      let first = cubes-told kept shards sessions cells over o log opens in
      record {
        suit = λ cube place d dim is at.
            let all : slice_get (kept.cubes ++ after.made) cube ≡ Some d =
            ap (λ (cubes : List Decl). slice_get (cubes ++ after.made) cube) (sym first)
            ∙ ap (λ (cubes : List Decl). slice_get cubes cube) (sym after.are) ∙ is
            in
            subst (SuitsDimension dim)
            (ap (λ shape. dictionary_for shape (dictionaries_with_names kept.cubes kept.names) cube place)
            (sym (shapes cube d is)) ∙ names cube place)
            (suits-found cube place d dim (slice_get kept.cubes cube) after.made refl all at);
        none = λ cube place le.
            let past = past-all kept.cubes kept.names cube
            (subst (λ (cubes : List Decl). length cubes ≤ cube) first le)
            in
            ap (λ (d : Dictionary). d.names) (sym (names cube place))
            ∙ ap (λ (dims : List Dictionary). (dictionary_in (made_dictionaries (o.shapes cube) dims) place).names) past
            ∙ no-name (o.shapes cube).shape.sizes (o.shapes cube).texts place;
      }
