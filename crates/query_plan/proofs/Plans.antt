-- Plans and queries on the cube at a place.
use Rattle.std.proofs.Common.{◌≡◌, ℕ, ◌<◌, All, List, length, get_or, map, Option, refl, sym, ap, subst, ◌∙◌}
use Rattle.std.specs.Prelude.{filter_map, Result, Ok, Err, IfOk}
use Rattle.std.proofs.lemmas.List.{length-map}
use Rattle.std.proofs.lemmas.Option.{get_or_from_slice_get}
use Rattle.cube_values.specs.Queries.{IsSoundItem}
use Rattle.cube_values.specs.Shapes.{IsSoundSize, IsSoundShape}
use Rattle.cube_values.specs.Spans.{IsSoundPart}
use Rattle.cube_values.specs.declared.operation.Condition.{Condition}
use Rattle.cube_values.specs.declared.query.BoundItem.{BoundItem}
use Rattle.cube_values.specs.declared.query.BoundQuery.{BoundQuery}
use Rattle.cube_values.specs.declared.shape.Shape.{Shape}
use Rattle.cube_values.specs.declared.shape.Size.{Size}
use Rattle.cube_values.specs.declared.span.Span.{Span}
use Rattle.cube_language.specs.Cubes.{size_of, sizes_of, shape_of, IsStorable}
use Rattle.cube_language.specs.Misfits.{FitsCube}
use Rattle.cube_language.specs.ResolvedNames.{dim_place, resolved_cond, resolved_item, resolved_region}
use Rattle.cube_language.specs.StatementParts.{items_of, conds_of, group_of}
use Rattle.cube_language.specs.declared.decl.Decl.{Decl}
use Rattle.cube_language.specs.declared.decl.DimDecl.{DimDecl}
use Rattle.cube_language.specs.declared.statement.Cond.{Cond}
use Rattle.cube_language.specs.declared.statement.Statement.{Statement}
use Rattle.cube_language.specs.declared.statement.Statement.TheVariants.{Select, Insert, Load, Delete, Begin, Commit, Rollback, Flush, Purge, ShowEpochs, CreateCube, Watch, ShowWatch}
use Rattle.cube_run.specs.LoadedRows.{row_of_values}
use Rattle.statement_check.specs.OwnParts.{inserted_rows}
use Rattle.condition_spans.specs.CodedConditions.{coded_conditions}
use Rattle.condition_spans.specs.Codes.{codes_in, lists_at}
use Rattle.condition_spans.specs.Spans.{IsSpanOf, ArePartsOf}
use Rattle.query_plan.specs.Bindings.{DeletesRows, IsBoundTo, IsBoundAt, IsDropPlan, IsSomeDropPlan, IsDropSpan, IsRowPlan, IsQueryOn, IsBoundQuery, query_conditions}
use Rattle.query_plan.specs.declared.plan.DropPlan.{DropPlan}
use Rattle.query_plan.specs.declared.plan.RowPlan.{RowPlan}
use Rattle.query_plan.proofs.Agree.{agree_within}
use Rattle.query_plan.proofs.Cubes.{bound_cube}
use Rattle.query_plan.proofs.Whole.{AgreeIn, cut_no_brick}
use Rattle.query_plan.proofs.Within.{conds_within, group_within, fit_items_within}

pub drop_plan_from : (cubes : List Decl) (s : Statement) (place : ℕ) (cube : Decl) (plan : DropPlan) → DeletesRows s
    → IsBoundAt cubes s place → cube ≡ get_or cubes place cube → plan.cube ≡ place
    → plan.conditions ≡ (resolved_region cube (conds_of s)).conditions → IsDropPlan cubes s plan
drop_plan_from cubes s place cube plan deletes bound there place_is conditions_are = record {
  deletes = deletes;
  decl = cube;
  bound = subst (λ (p : ℕ). IsBoundTo cubes s p cube) (sym place_is) (bound_cube cubes s place cube bound there);
  conditions = conditions_are;
}

pub row_plan_from : (cubes : List Decl) (s : Statement) (place : ℕ) (cube : Decl) (plan : RowPlan)
    → IsBoundAt cubes s place → cube ≡ get_or cubes place cube → plan.cube ≡ place
    → plan.rows ≡ map (row_of_values cube) (inserted_rows s) → IsRowPlan cubes s plan
row_plan_from cubes s place cube plan bound there place_is rows_are = record {
  decl = cube;
  bound = subst (λ (p : ℕ). IsBoundTo cubes s p cube) (sym place_is) (bound_cube cubes s place cube bound there);
  rows = rows_are;
}

pub bound_query_from : (cubes : List Decl) (names : List (List (List (List ℕ)))) (s : Statement) (place : ℕ)
    (cube : Decl) (q : BoundQuery) → IsBoundAt cubes s place → cube ≡ get_or cubes place cube → q.cube ≡ place
    → IsQueryOn cube names s q → IsBoundQuery cubes names s q
bound_query_from cubes names s place cube q bound there place_is on = record {
  decl = cube;
  bound = subst (λ (p : ℕ). IsBoundTo cubes s p cube) (sym place_is) (bound_cube cubes s place cube bound there);
  query = on;
}

-- The cube of a plan stands at its place, and the statement that it is of fits it.
pub fits_there : (cubes : List Decl) (s : Statement) (place : ℕ) (cube : Decl) → IsBoundAt cubes s place
    → cube ≡ get_or cubes place cube → FitsCube cube s
fits_there cubes s place cube bound there = (bound_cube cubes s place cube bound there).fits

-- The parts of a DELETE.
pub record IsDelete (s : Statement) : Type 0 where
  pub cube : List ℕ
  pub conds : List Cond
  pub is : s ≡ Delete cube conds

pub delete_of : (s : Statement) → DeletesRows s → IsDelete s
delete_of (Select items cube conds group having order limit) deletes = absurd deletes
delete_of (Insert cube rows) deletes = absurd deletes
delete_of (Load cube path reject) deletes = absurd deletes
delete_of (Delete cube conds) deletes = record { cube = cube; conds = conds; is = refl }
delete_of Begin deletes = absurd deletes
delete_of Commit deletes = absurd deletes
delete_of Rollback deletes = absurd deletes
delete_of Flush deletes = absurd deletes
delete_of Purge deletes = absurd deletes
delete_of ShowEpochs deletes = absurd deletes
delete_of (CreateCube decl) deletes = absurd deletes
delete_of (Watch items cube conds group) deletes = absurd deletes
delete_of ShowWatch deletes = absurd deletes

agree_for : (d : Decl) (s : Statement) (codes : List (Option ℕ)) → DeletesRows s → IsStorable d → FitsCube d s
    → (i : ℕ) (e : DimDecl) → i < length d.dims
    → AgreeIn (coded_conditions codes (filter_map (resolved_cond d) (conds_of s))) i (size_of (get_or d.dims i e))
agree_for d s codes deletes storable =
    let delete = delete_of s deletes in
    subst (λ (t : Statement). FitsCube d t → (i : ℕ) (e : DimDecl) → i < length d.dims
    → AgreeIn (coded_conditions codes (filter_map (resolved_cond d) (conds_of t))) i (size_of (get_or d.dims i e)))
    (sym delete.is) (agree_within d delete.cube delete.conds codes storable)

-- What `span_for` says of a span.
pub record IsMade (sizes : List Size) (codes : List (Option ℕ)) (conditions : List Condition) (span : Span)
    : Type 0 where
  pub has : IsSpanOf sizes (coded_conditions codes conditions) span
  pub are : ArePartsOf (coded_conditions codes conditions) 0 sizes span.parts
  pub sound : All IsSoundPart span.parts
  pub same : length span.parts ≡ length sizes

-- The cube that stands at a plan's place is its own.
same_cube : (cubes : List Decl) (s : Statement) (plan : DropPlan) (cube : Decl) (p : IsDropPlan cubes s plan)
    → cube ≡ get_or cubes plan.cube cube → cube ≡ p.decl
same_cube cubes s plan cube p there = there ∙ get_or_from_slice_get cubes plan.cube p.decl cube p.bound.cube_is

-- Its conditions, by that cube.
conditions_there : (cubes : List Decl) (s : Statement) (plan : DropPlan) (cube : Decl) (p : IsDropPlan cubes s plan)
    → cube ≡ get_or cubes plan.cube cube → plan.conditions ≡ filter_map (resolved_cond cube) (conds_of s)
conditions_there cubes s plan cube p there =
    p.conditions
    ∙ ap (λ (d : Decl). filter_map (resolved_cond d) (conds_of s)) (sym (same_cube cubes s plan cube p there))

-- The conditions of a plan have places of its cube.
pub plan_within : (cubes : List Decl) (plan : DropPlan) (cube : Decl) → IsSomeDropPlan cubes plan
    → cube ≡ get_or cubes plan.cube cube → All (λ c. c.place < length (sizes_of cube.dims)) plan.conditions
plan_within cubes plan cube some there =
    subst (λ (n : ℕ). All (λ (c : Condition). c.place < n) plan.conditions) (sym (length-map cube.dims size_of))
    (subst (λ (cs : List Condition). All (λ (c : Condition). c.place < length cube.dims) cs)
    (sym (conditions_there cubes some.0 plan cube some.1 there)) (conds_within cube (conds_of some.0)))

pub drop_span_from : (cubes : List Decl) (plan : DropPlan) (codes : List (Option ℕ)) (span : Span) (cube : Decl)
    → IsSomeDropPlan cubes plan → cube ≡ get_or cubes plan.cube cube → IsStorable cube
    → All IsSoundSize (sizes_of cube.dims) → IsMade (sizes_of cube.dims) codes plan.conditions span
    → IsDropSpan cubes plan codes span
drop_span_from cubes plan codes span cube some there storable sizes made =
    let s = some.0 in
    let p = some.1 in
    let bound = bound_cube cubes s plan.cube cube (p.decl, p.bound) there in
    let conditions = conditions_there cubes s plan cube p there in
    let agree = subst (λ (cs : List Condition). (i : ℕ) (e : DimDecl) → i < length cube.dims
    → AgreeIn (coded_conditions codes cs) i (size_of (get_or cube.dims i e))) (sym conditions)
    (agree_for cube s codes p.deletes storable bound.fits) in
    record {
      decl = cube;
      cube_is = bound.cube_is;
      has = made.has;
      parts = made.same ∙ length-map cube.dims size_of;
      sound = made.sound;
      whole = cut_no_brick (coded_conditions codes plan.conditions) cube.dims span.parts sizes made.are agree;
    }

pub made_for : {E : Type 0} (sizes : List Size) (codes : List (Option ℕ)) (conditions : List Condition)
    (r : Result Span E)
    → IfOk r (IsSpanOf sizes (coded_conditions codes conditions))
    → IfOk r (λ span. ArePartsOf (coded_conditions codes conditions) 0 sizes span.parts)
    → IfOk r (λ span. All IsSoundPart span.parts) → IfOk r (λ span. length span.parts ≡ length sizes)
    → IfOk r (IsMade sizes codes conditions)
made_for sizes codes conditions (Ok span) has are sound same =
    record { has = has; are = are; sound = sound; same = same }
made_for sizes codes conditions (Err e) has are sound same = tt

drop_span_for : {E : Type 0} (cubes : List Decl) (plan : DropPlan) (codes : List (Option ℕ)) (r : Result Span E)
    (cube : Decl)
    → IsSomeDropPlan cubes plan → cube ≡ get_or cubes plan.cube cube → IsStorable cube
    → All IsSoundSize (sizes_of cube.dims) → IfOk r (IsMade (sizes_of cube.dims) codes plan.conditions)
    → IfOk r (IsDropSpan cubes plan codes)
drop_span_for cubes plan codes (Ok span) cube some there storable sizes made =
    drop_span_from cubes plan codes span cube some there storable sizes made
drop_span_for cubes plan codes (Err e) cube some there storable sizes made = tt

-- The span of a plan, by the shape of its cube and its conditions as they are passed.
pub drop_span_by : {E : Type 0} (cubes : List Decl) (plan : DropPlan) (codes : List (Option ℕ)) (r : Result Span E)
    (cube : Decl) (shape : Shape) (conditions : List Condition) → IsSomeDropPlan cubes plan
    → cube ≡ get_or cubes plan.cube cube
    → IsStorable cube → shape ≡ shape_of cube → conditions ≡ plan.conditions → IsSoundShape shape
    → IfOk r (IsMade shape.sizes codes conditions) → IfOk r (IsDropSpan cubes plan codes)
drop_span_by cubes plan codes r cube shape conditions some there storable is are sound made =
    drop_span_for cubes plan codes r cube some there storable
    (subst (λ (s : Shape). All IsSoundSize s.sizes) is sound.sizes)
    (subst (λ (cs : List Condition). IfOk r (IsMade (sizes_of cube.dims) codes cs)) are
    (subst (λ (s : Shape). IfOk r (IsMade s.sizes codes conditions)) is made))

pub made_by : (d : Decl) (shape : Shape) (codes : List (Option ℕ)) (conditions : List Condition) (span : Span)
    → shape ≡ shape_of d → IsMade shape.sizes codes conditions span → IsMade (sizes_of d.dims) codes conditions span
made_by d shape codes conditions span is made =
    subst (λ (s : Shape). IsMade s.sizes codes conditions span) is made

-- Conditions within the dimensions of a cube are within its shape.
pub all_within : (d : Decl) (shape : Shape) (found conditions : List Condition) → shape ≡ shape_of d
    → conditions ≡ found → All (λ c. c.place < length d.dims) found
    → All (λ c. c.place < length shape.sizes) conditions
all_within d shape found conditions is are within =
    subst (λ (s : Shape). All (λ (c : Condition). c.place < length s.sizes) conditions) (sym is)
    (subst (λ (n : ℕ). All (λ (c : Condition). c.place < n) conditions) (sym (length-map d.dims size_of))
    (subst (λ (cs : List Condition). All (λ (c : Condition). c.place < length d.dims) cs) (sym are) within))

-- A query that is made of the span, the group and the items of a statement.
pub query_on_from : (d : Decl) (names : List (List (List (List ℕ)))) (s : Statement) (q : BoundQuery)
    (codes : List (Option ℕ)) (conditions : List Condition) → FitsCube d s
    → conditions ≡ filter_map (resolved_cond d) (conds_of s) → codes ≡ codes_in (lists_at names q.cube) conditions
    → IsMade (sizes_of d.dims) codes conditions q.span → q.group ≡ filter_map (dim_place d) (group_of s)
    → q.items ≡ filter_map (resolved_item d) (items_of s) → IsQueryOn d names s q
query_on_from d names s q codes conditions fits conditions_are codes_are made group_is items_are =
    let lists = lists_at names q.cube in
    let group = filter_map (dim_place d) (group_of s) in
    let same : coded_conditions codes conditions ≡ query_conditions d lists s =
    (λ i. coded_conditions (codes_are i) conditions)
    ∙ (λ i. coded_conditions (codes_in lists (conditions_are i)) (conditions_are i)) in
    record {
      group = group_is;
      items = items_are;
      has = subst (λ (cs : List Condition). IsSpanOf (sizes_of d.dims) cs q.span) same made.has;
      parts = made.sound;
      sound = record {
        span = made.same ∙ length-map d.dims size_of;
        group = subst (λ (places : List ℕ). All (λ p. p < length d.dims) places) (sym group_is)
            (group_within d (group_of s));
        items = subst (λ (places : List ℕ). All (IsSoundItem places (length d.metrics)) q.items) (sym group_is)
            (subst (λ (bs : List BoundItem). All (IsSoundItem group (length d.metrics)) bs) (sym items_are)
            (fit_items_within d s fits));
      };
    }
