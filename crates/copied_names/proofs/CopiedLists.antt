-- Lists that were copied, dimension by dimension, are those of the dictionaries between two moments.
use Rattle.std.proofs.Common.{◌≡◌, ◌∙◌, ℕ, zero, suc, ◌+◌, ◌<◌, ◌≤◌, Bool, true, false, List, [], ◌∷◌, ◌++◌, length, map, All, Contains, get_or, slice_get, unwrap_or, Option, Some, refl, sym, ap, subst, arith, append-nil}
use Rattle.std.specs.Prelude.{IfOk, Result, Ok, Err}
use Rattle.std.specs.List.{IsDistinct}
use Rattle.std.specs.Option.{option_map}
use Rattle.std.specs.Str.{bytes_eq}
use Rattle.std.proofs.lemmas.List.{length-map}
use Rattle.std.proofs.lemmas.List.Elements.{All-append, All-cons, All-head, All-nil, All-tail, Contains-append_right, Contains-push}
use Rattle.std.proofs.lemmas.Option.{slice_get-get_or, slice_get-map, slice_get_within}
use Rattle.core_program.specs.ClientCalls.{names_entry}
use Rattle.condition_spans.specs.Codes.{lists_at, texts_at}
use Rattle.core_program.proofs.KnownCalls.{earlier-run}
use Rattle.core_program.specs.Knowing.{IsLaterRun}
use Rattle.core_cells.specs.declared.names.NamesAnswer.TheVariants as told
use Rattle.core_cells.specs.declared.names.NamesCall.TheVariants as names
use Rattle.core_events.specs.Cells.{desk_of, dictionary_of}
use Rattle.core_events.specs.Events.{Opening, CoreEvent}
use Rattle.core_events.specs.Jobs.{CoreJob, JobOutcome}
use Rattle.core_events.specs.Runs.{IsCoreRun}
use Rattle.core_events.specs.ShardView.{ShardView}
use Rattle.core_program.specs.CoreFits.{CoreEntry}
use Rattle.core_records.proofs.NamesOnRecord.{cube-names, dim-names, ends-later, no-room, suits-run}
use Rattle.core_records.specs.CoreRecords.{names_in, names_left}
use Rattle.core_records.specs.OpeningNames.{SuitsDimension}
use Rattle.cube_core.specs.declared.cell.CoreCell.{CoreCell}
use Rattle.cube_core.specs.declared.shard.ShardAnswer.{ShardAnswer}
use Rattle.cube_core.specs.declared.shard.ShardCall.{ShardCall}
use Rattle.cube_language.specs.declared.decl.Decl.{Decl}
use Rattle.cube_language.specs.declared.decl.DimDecl.{DimDecl}
use Rattle.kept_data.proofs.ApartNames.{apart_from, none_distinct}
use Rattle.known_cubes.specs.KnownCubes.{IsToldOfCube}
use Rattle.known_cubes.proofs.ToldCubes.{desk-has, told-later}
use Rattle.one_session.specs.Pasts.{EndsAs}
use Rattle.query_plan.specs.Ties.{AreDistinct}
use Rattle.round_copies.proofs.NameLoops.{AreDimsTold, dims-all, dims-next, dims-none}
use Rattle.round_copies.specs.RoundCopies.{AreNamesTold, HasMoreWith, HasNamesTold}
use Rattle.core_names.specs.AskedNames.{GoOnByCopies}
use Rattle.core_names.proofs.PlainNames.{copies-both, copies-none}
use Rattle.copied_names.specs.CopiedNames.{AreCopiedBetween, IsMomentAfter, MayCopyCube, copied_answer, copy_entry}
use Rattle.copied_names.proofs.CopyCalls.{HasCopied, by_copying, copied-after, copied-in-run}

pub no-count : (k : ℕ) → ◌≡◌ {A = ℕ} (get_or [] k 0) 0
no-count zero = refl
no-count (suc k) = refl

-- ---- one dimension

module _ (o : Opening) (place dim : ℕ) (d : DimDecl) (opens : SuitsDimension d (o.names place dim)) where
  suits : (es : List CoreEvent) → IsCoreRun o es → SuitsDimension d (dictionary_of o place dim es)
  suits es run = suits-run o es place dim d run opens

  -- A dimension of numbers has no names.
  none-then : (es : List CoreEvent) → IsCoreRun o es → d.text ≡ false → (dictionary_of o place dim es).names ≡ []
  none-then es run kind =
      let s = suits es run in
      let names = (dictionary_of o place dim es).names in
      no-room d.text names d.cardinality (subst (λ (n : ℕ). length names ≤ n) s.room s.fits) kind

  none-ends : (list : List (List ℕ)) (es : List CoreEvent) → IsCoreRun o es → d.text ≡ false → list ≡ []
      → EndsAs d (dictionary_of o place dim es).names list × EndsAs d list (dictionary_of o place dim es).names
  none-ends list es run kind none =
      let names = (dictionary_of o place dim es).names in
      let is : names ≡ list = none-then es run kind ∙ sym none in
      let same : EndsAs d names names = ends-later o [] es place dim d (suits es run) in
      (subst (λ (l : List (List ℕ)). EndsAs d names l) is same, subst (λ (l : List (List ℕ)). EndsAs d l names) is same)

  module _ (list : List (List ℕ)) (start es : List CoreEvent) (run : IsCoreRun o es) (h : HasCopied o place dim list start es) where
    abbrev at_copy : List CoreEvent
    at_copy = h.mid ++ start

    pub one-since : EndsAs d (dictionary_of o place dim start).names list
    one-since =
        subst (λ (l : List (List ℕ)). EndsAs d (dictionary_of o place dim start).names l) (sym h.is)
        (ends-later o h.mid start place dim d (suits at_copy h.run))

    pub one-until : EndsAs d list (dictionary_of o place dim es).names
    one-until =
        coe 1 0 (i. EndsAs d (h.is i) (dictionary_of o place dim (h.whole i)).names)
        (ends-later o h.newer at_copy place dim d
        (subst (λ (l : List CoreEvent). SuitsDimension d (dictionary_of o place dim l)) h.whole (suits es run)))

    pub one-distinct : IsDistinct bytes_eq list
    one-distinct =
        subst (λ (l : List (List ℕ)). IsDistinct bytes_eq l) (sym h.is)
        (apart_from (dictionary_of o place dim at_copy).names (suits at_copy h.run).distinct)

-- ---- lists for each dimension

pub each_distinct : (lists : List (List (List ℕ))) → All (IsDistinct bytes_eq) lists → AreDistinct lists
unfolding IsDistinct
each_distinct [] h place = tt
each_distinct (texts ∷ lists) h zero = All-head (IsDistinct bytes_eq) texts lists h
each_distinct (texts ∷ lists) h (suc place) =
    each_distinct lists (All-tail (IsDistinct bytes_eq) texts lists h) place

names-there : (o : Opening) (es : List CoreEvent) (place dim : ℕ) (d : Decl) (dimension : DimDecl)
    → slice_get (desk_of o es).cubes place ≡ Some d → slice_get d.dims dim ≡ Some dimension
    → texts_at (lists_at (names_left o es) place) dim ≡ (dictionary_of o place dim es).names
names-there o es place dim d dimension cube at =
    ap (λ (l : Option (List (List (List ℕ)))). texts_at (unwrap_or l []) dim) (cube-names (names_in o es) (desk_of o es).cubes place d cube)
    ∙ ap (λ (l : Option (List (List ℕ))). unwrap_or l []) (dim-names (names_in o es place) d.dims dim dimension at)

module _ {S : Type 0} (fits : Opening → ℕ → ShardCall → Type 0) (stands : Opening → ℕ → ℕ → S → ShardView → Type 0)
    (says : CoreJob → ShardAnswer → JobOutcome → Type 0) (cells : List (CoreCell S)) (caller session place : ℕ) (d : Decl) where
  -- With more calls it still may.
  pub still-may : (own now added : List CoreEntry) → now ≡ own ++ added → MayCopyCube fits stands says cells caller own session place d
      → MayCopyCube fits stands says cells caller now session place d
  still-may own now added whole m = record {
    client = m.client;
    is_session = m.is_session;
    storable = m.storable;
    named = m.named;
    name = m.name;
    cube = subst (λ (l : List CoreEntry). IsToldOfCube l m.name place d) (sym whole) (told-later own added m.name place d m.cube);
  }

  module _ (own : List CoreEntry) (m : MayCopyCube fits stands says cells caller own session place d) where
    cube-then : (o : Opening) (log : List CoreEntry) (run : List CoreEvent) → IsLaterRun fits stands says cells o caller own log run
        → slice_get (desk_of o run).cubes place ≡ Some d
    cube-then o log run later = (desk-has fits stands says o cells caller own log run m.name place d later m.cube).0

    pub suits-opening : (o : Opening) (log : List CoreEntry) (run : List CoreEvent) (dim : ℕ) (dimension : DimDecl)
        → IsLaterRun fits stands says cells o caller own log run → slice_get d.dims dim ≡ Some dimension
        → SuitsDimension dimension (o.names place dim)
    suits-opening o log run dim dimension later at =
        (m.named o log run later.opens later.events later.is_run).suit place dim d dimension (cube-then o log run later) at

    -- The lists that own calls told, in a run with these.
    module _ (lists : List (List (List ℕ))) (added : List CoreEntry)
        (t : HasNamesTold caller added place [] (map (λ dim. dim.text) d.dims) lists) (o : Opening) (log : List CoreEntry)
        (run : List CoreEvent) (later : IsLaterRun fits stands says cells o caller (own ++ added) log run) (k : ℕ) (e : DimDecl)
        (low : k < length d.dims) where
      abbrev dimension : DimDecl
      dimension = get_or d.dims k e

      abbrev list : List (List ℕ)
      list = texts_at lists k

      abbrev before : IsLaterRun fits stands says cells o caller own log run
      before = earlier-run fits stands says cells o caller own added log run later

      dim-at : slice_get d.dims k ≡ Some dimension
      dim-at = slice_get-get_or d.dims k e low

      list-at : slice_get lists k ≡ Some (get_or lists k [])
      list-at =
          let long = t.dims ∙ length-map d.dims (λ dim. dim.text) in
          slice_get-get_or lists k [] (omega (arith, low, long))

      list-is : get_or lists k [] ≡ list
      list-is = sym (ap (λ (l : Option (List (List ℕ))). unwrap_or l []) list-at)

      told-it : AreNamesTold caller added place k 0 dimension.text list
      told-it =
          coe 0 1 (i. AreNamesTold caller added place k (no-count k i) dimension.text (list-is i))
          (t.each k dimension.text (get_or lists k [])
          (slice_get-map (λ (dim : DimDecl). dim.text) d.dims k ∙ ap (option_map (λ (dim : DimDecl). dim.text)) dim-at) list-at)

      abbrev opens : SuitsDimension dimension (o.names place k)
      opens = suits-opening o log run k dimension before dim-at

      among-all : (x : CoreEntry) → Contains added x → Contains (own ++ added) x
      among-all x among = Contains-append_right own added x among

      until-by : (text : Bool) → dimension.text ≡ text → AreNamesTold caller added place k 0 text list
          → EndsAs dimension list (dictionary_of o place k run).names
      until-by true kind among =
          let x = names_entry caller (names.CopyFrom place k 0) (told.Copied list) in
          one-until o place k dimension opens list [] run later.is_run
          (copied-in-run fits stands says o place k list cells caller (own ++ added) log run x later (among-all x among) by_copying)
      until-by false kind none = (none-ends o place k dimension opens list run later.is_run kind none).1

      pub list-until : EndsAs dimension list (texts_at (lists_at (names_left o run) place) k)
      list-until =
          subst (λ (l : List (List ℕ)). EndsAs dimension list l)
          (sym (names-there o run place k d dimension (cube-then o log run before) dim-at)) (until-by dimension.text refl told-it)

      module _ (es : List CoreEvent) (moment : IsMomentAfter fits stands says cells o caller own log run es) where
        since-by : (text : Bool) → dimension.text ≡ text → AreNamesTold caller added place k 0 text list
            → EndsAs dimension (dictionary_of o place k es).names list
        since-by true kind among =
            let x = names_entry caller (names.CopyFrom place k 0) (told.Copied list) in
            one-since o place k dimension opens list es run later.is_run
            (copied-after fits stands says o place k list cells caller own log run added es x later moment among by_copying)
        since-by false kind none =
            (none-ends o place k dimension opens list es moment.run_then.is_run kind none).0

        pub list-since : EndsAs dimension (texts_at (lists_at (names_left o es) place) k) list
        list-since =
            subst (λ (l : List (List ℕ)). EndsAs dimension l list)
            (sym (names-there o es place k d dimension (cube-then o moment.earlier es moment.run_then) dim-at))
            (since-by dimension.text refl told-it)

    -- So they are between the moments.
    pub between : (now : List CoreEntry) (lists : List (List (List ℕ))) (names : List (List (List (List ℕ)))) → lists_at names place ≡ lists
        → HasMoreWith own now (λ added. HasNamesTold caller added place [] (map (λ dim. dim.text) d.dims) lists)
        → AreCopiedBetween fits stands says cells caller own now place d names
    between now lists names is t = record {
      since = λ o log run es later moment k e low.
          subst (λ (ls : List (List (List ℕ))). EndsAs (get_or d.dims k e) (texts_at (lists_at (names_left o es) place) k) (texts_at ls k)) (sym is)
          (list-since lists t.later t.are o log run
          (subst (λ (l : List CoreEntry). IsLaterRun fits stands says cells o caller l log run) t.whole later) k e low es moment);
      until = λ o log run later k e low.
          subst (λ (ls : List (List (List ℕ))). EndsAs (get_or d.dims k e) (texts_at ls k) (texts_at (lists_at (names_left o run) place) k)) (sym is)
          (list-until lists t.later t.are o log run
          (subst (λ (l : List CoreEntry). IsLaterRun fits stands says cells o caller l log run) t.whole later) k e low);
    }

-- ---- one call

pub asked-one : {E : Type 0} (caller place dim : ℕ) (own now : List CoreEntry) (came : Result (List (List ℕ)) E)
    → now ≡ own ++ copy_entry caller place dim came ∷ [] → GoOnByCopies caller own now
asked-one caller place dim own now came whole = record {
  added = copy_entry caller place dim came ∷ [];
  whole = whole;
  only = (record { place = place; dim = dim; from = 0; said = copied_answer came; is = refl }, tt);
}

pub told-one : {E : Type 0} (caller place dim : ℕ) (own now : List CoreEntry) (came : Result (List (List ℕ)) E) (text : Bool)
    → text ≡ true → now ≡ own ++ copy_entry caller place dim came ∷ []
    → IfOk came (λ list. HasMoreWith own now (λ added. AreNamesTold caller added place dim 0 text list))
told-one caller place dim own now (Ok list) text kind whole =
    let e = names_entry caller (names.CopyFrom place dim 0) (told.Copied list) in
    record {
      later = e ∷ [];
      whole = whole;
      are = subst (λ (t : Bool). AreNamesTold caller (e ∷ []) place dim 0 t list) (sym kind) (Contains-push [] e);
    }
told-one caller place dim own now (Err e) text kind whole = tt

pub told-none : (caller place dim : ℕ) (own : List CoreEntry) (text : Bool) (list : List (List ℕ)) → text ≡ false → list ≡ []
    → HasMoreWith own own (λ added. AreNamesTold caller added place dim 0 text list)
told-none caller place dim own text list kind none = record {
  later = [];
  whole = sym (append-nil own);
  are = subst (λ (t : Bool). AreNamesTold caller [] place dim 0 t list) (sym kind) none;
}

pub none-distinct : (list : List (List ℕ)) → list ≡ [] → IsDistinct bytes_eq list
none-distinct names none = subst (λ (l : List (List ℕ)). IsDistinct bytes_eq l) (sym none) none_distinct

found-at : {X : Type 0} (xs : List X) (k : ℕ) → k < length xs → (x : X) × (slice_get xs k ≡ Some x)
found-at [] k low = absurd (omega (arith, low))
found-at (x ∷ xs) zero low = (x, refl)
found-at (x ∷ xs) (suc k) low = found-at xs k (omega (arith, low))

module _ {S : Type 0} (fits : Opening → ℕ → ShardCall → Type 0) (stands : Opening → ℕ → ℕ → S → ShardView → Type 0)
    (says : CoreJob → ShardAnswer → JobOutcome → Type 0) (cells : List (CoreCell S)) (caller session place : ℕ) (d : Decl) where
  -- What is copied has no name twice.
  pub distinct-one : {E : Type 0} (own now : List CoreEntry) (dim : ℕ) (came : Result (List (List ℕ)) E) (text : Bool)
      → MayCopyCube fits stands says cells caller own session place d → slice_get (map (λ dim. dim.text) d.dims) dim ≡ Some text
      → now ≡ own ++ copy_entry caller place dim came ∷ [] → (o : Opening) (log : List CoreEntry) (run : List CoreEvent)
      → IsLaterRun fits stands says cells o caller now log run → IfOk came (IsDistinct bytes_eq)
  distinct-one own now dim (Ok list) text m kind whole o log run later =
      let e = names_entry caller (names.CopyFrom place dim 0) (told.Copied list) in
      let within = slice_get_within (map (λ dim. dim.text) d.dims) dim text kind in
      let long = length-map d.dims (λ dim. dim.text) in
      let at = found-at d.dims dim (omega (arith, within, long)) in
      let more = still-may fits stands says cells caller session place d own now (e ∷ []) whole m in
      one-distinct o place dim at.0 (suits-opening fits stands says cells caller session place d now more o log run dim at.0 later at.1)
      list [] run later.is_run
      (copied-in-run fits stands says o place dim list cells caller now log run e later
      (subst (λ (l : List CoreEntry). Contains l e) (sym whole) (Contains-push own e)) by_copying)
  distinct-one own now dim (Err e) text m kind whole o log run later = tt

-- ---- lists at their place

end-of : {X : Type 0} (xs : List X) (x : X) → slice_get (xs ++ x ∷ []) (length xs) ≡ Some x
end-of [] x = refl
end-of (y ∷ xs) x = end-of xs x

pub last-lists : (lists new : List (List (List (List ℕ)))) (item : List (List (List ℕ))) (place : ℕ)
    → length lists ≡ place → new ≡ lists ++ item ∷ [] → lists_at new place ≡ item
last-lists lists new item place long is =
    ap (λ (o : Option (List (List (List ℕ)))). unwrap_or o [])
    ((λ i. slice_get (is i) (sym long i)) ∙ end-of lists item)

-- ---- the first dimensions

pub record HasCopiedFirst (caller place : ℕ) (d : Decl) (own now : List CoreEntry) (lists : List (List (List ℕ))) (dim : ℕ) : Type 0 where
  pub asks : GoOnByCopies caller own now
  pub told : HasMoreWith own now (λ later. AreDimsTold caller later place [] (map (λ dim. dim.text) d.dims) lists dim)
  pub distinct : All (IsDistinct bytes_eq) lists

pub first-none : (caller place : ℕ) (d : Decl) (own : List CoreEntry) (lists : List (List (List ℕ))) → lists ≡ []
    → HasCopiedFirst caller place d own own lists 0
first-none caller place d own lists none = record {
  asks = copies-none caller own;
  told = dims-none caller own place [] (map (λ dim. dim.text) d.dims) lists none;
  distinct = subst (λ (l : List (List (List ℕ))). All (IsDistinct bytes_eq) l) (sym none) (All-nil (IsDistinct bytes_eq));
}

pub asks-more : (caller place : ℕ) (d : Decl) (own mid now : List CoreEntry) (lists : List (List (List ℕ))) (dim mid_caller : ℕ) → mid_caller ≡ caller
    → HasCopiedFirst caller place d own mid lists dim → GoOnByCopies mid_caller mid now → GoOnByCopies caller own now
asks-more caller place d own mid now lists dim mid_caller same was asks =
    copies-both caller own mid now was.asks (subst (λ (n : ℕ). GoOnByCopies n mid now) same asks)

pub first-next : (caller place : ℕ) (d : Decl) (own mid now : List CoreEntry) (lists new : List (List (List ℕ))) (dim mid_caller : ℕ)
    (text : Bool) (list : List (List ℕ)) → mid_caller ≡ caller → HasCopiedFirst caller place d own mid lists dim
    → GoOnByCopies mid_caller mid now → slice_get (map (λ dim. dim.text) d.dims) dim ≡ Some text
    → HasMoreWith mid now (λ added. AreNamesTold mid_caller added place dim 0 text list) → IsDistinct bytes_eq list
    → new ≡ lists ++ list ∷ [] → HasCopiedFirst caller place d own now new (dim + 1)
first-next caller place d own mid now lists new dim mid_caller text list same was asks at said apart is = record {
  asks = asks-more caller place d own mid now lists dim mid_caller same was asks;
  told = dims-next caller caller own mid now place [] (map (λ dim. dim.text) d.dims) lists new dim text list was.told refl at
      (coe 0 1 (i. HasMoreWith mid now (λ added. AreNamesTold (same i) added place dim (sym (no-count dim) i) text list)) said) is;
  distinct = subst (λ (l : List (List (List ℕ))). All (IsDistinct bytes_eq) l) (sym is)
      (All-append (IsDistinct bytes_eq) lists (list ∷ []) was.distinct
      (All-cons (IsDistinct bytes_eq) list [] apart (All-nil (IsDistinct bytes_eq))));
}

pub first-all : (caller place : ℕ) (d : Decl) (own now : List CoreEntry) (lists : List (List (List ℕ))) (dim : ℕ)
    → HasCopiedFirst caller place d own now lists dim → dim ≡ length (map (λ dim. dim.text) d.dims)
    → HasMoreWith own now (λ added. HasNamesTold caller added place [] (map (λ dim. dim.text) d.dims) lists)
first-all caller place d own now lists dim was all =
    dims-all caller own now place [] (map (λ dim. dim.text) d.dims) lists dim was.told all

-- ---- what comes of it

module _ {S E : Type 0} (fits : Opening → ℕ → ShardCall → Type 0) (stands : Opening → ℕ → ℕ → S → ShardView → Type 0)
    (says : CoreJob → ShardAnswer → JobOutcome → Type 0) (cells : List (CoreCell S)) (caller session place : ℕ) (d : Decl)
    (own now : List CoreEntry) (lists : List (List (List ℕ))) where
  pub between-result : (came : Result (List (List (List (List ℕ)))) E) → MayCopyCube fits stands says cells caller own session place d
      → HasMoreWith own now (λ added. HasNamesTold caller added place [] (map (λ dim. dim.text) d.dims) lists)
      → IfOk came (λ names. lists_at names place ≡ lists) → IfOk came (AreCopiedBetween fits stands says cells caller own now place d)
  between-result (Ok names) m t is = between fits stands says cells caller session place d own m now lists names is t
  between-result (Err e) m t is = tt

pub distinct-result : {E : Type 0} (place : ℕ) (lists : List (List (List ℕ))) (came : Result (List (List (List (List ℕ)))) E)
    → All (IsDistinct bytes_eq) lists → IfOk came (λ names. lists_at names place ≡ lists)
    → IfOk came (λ names. AreDistinct (lists_at names place))
distinct-result place lists (Ok names) h is =
    subst (λ (l : List (List (List ℕ))). AreDistinct l) (sym is) (each_distinct lists h)
distinct-result place lists (Err e) h is = tt
