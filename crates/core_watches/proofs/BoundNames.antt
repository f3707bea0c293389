-- A statement that is bound on one cube alone is bound on it at its place.
use Rattle.std.proofs.Common.{◌≡◌, ◌∙◌, ℕ, zero, suc, List, [], ◌∷◌, slice_get, Some, refl, sym, ap, subst}
use Rattle.std.proofs.lemmas.Option.{none-some, same_Some}
use Rattle.condition_spans.specs.Codes.{lists_at}
use Rattle.condition_spans.specs.Spans.{IsSpanOf}
use Rattle.core_watches.specs.BoundQueries.{IsBoundByNames}
use Rattle.cube_language.specs.Cubes.{sizes_of}
use Rattle.cube_language.specs.declared.decl.Decl.{Decl}
use Rattle.cube_language.specs.declared.statement.Statement.{Statement}
use Rattle.cube_values.specs.declared.query.BoundQuery.{BoundQuery}
use Rattle.query_plan.specs.Bindings.{IsBoundQuery, IsQueryOn, query_conditions}

at-first : {X : Type 0} (x y : X) (n : ℕ) → slice_get (x ∷ []) n ≡ Some y → (n ≡ 0) × (x ≡ y)
at-first x y zero is = (refl, same_Some x y is)
at-first x y (suc n) is = absurd (none-some y is)

pub bound-by : (d : Decl) (s : Statement) (place : ℕ) (names only : List (List (List (List ℕ)))) (query : BoundQuery)
    → lists_at only 0 ≡ lists_at names place → IsBoundQuery (d ∷ []) only s query
    → IsBoundByNames place d s names (record { query = record query { cube = place }; names = only })
bound-by d s place names only query same b =
    let one = at-first d b.decl query.cube b.bound.cube_is in
    let asks : IsQueryOn d only s query = subst (λ (e : Decl). IsQueryOn e only s query) (sym one.1) b.query in
    record {
      place_is = refl;
      query = record {
        group = asks.group;
        items = asks.items;
        has =
            subst (λ (lists : List (List (List ℕ))). IsSpanOf (sizes_of d.dims) (query_conditions d lists s) query.span)
            (ap (lists_at only) one.0 ∙ same) asks.has;
        parts = asks.parts;
        sound = record { span = asks.sound.span; group = asks.sound.group; items = asks.sound.items };
      };
      names_are = same;
    }
