-- Each statement fits its cube or fails one of the tests first.
use Rattle.std.proofs.Common.{◌≡◌, ◌∙◌, ℕ, ◌+◌, ◌<◌, ◌⊎◌, inl, inr, List, Option, Some, None, refl, sym, arith}
use Rattle.std.specs.Option.{option_and_then}
use Rattle.std.proofs.lemmas.Bool.{cases_eq}
use Rattle.std.proofs.lemmas.Option.{none-some}
use Rattle.cube_values.specs.declared.value.Value.{Value}
use Rattle.cube_language.specs.ColumnUses.{unknown_column, wrong_kind}
use Rattle.cube_language.specs.Misfits.{FailsTest, FitsCube, HasMisfit, bad_having, not_an_item, not_grouped, not_watchable, order_of}
use Rattle.cube_language.specs.RowFaults.{first_bad_row}
use Rattle.cube_language.specs.declared.bad_row.BadRow.{BadRow as WhyBad}
use Rattle.cube_language.specs.declared.decl.Decl.{Decl}
use Rattle.cube_language.specs.declared.misfit.Misfit.{Misfit}
use Rattle.cube_language.specs.declared.misfit.Misfit.TheVariants.{UnknownColumn, WrongKind, NotGrouped, NotAnItem, BadHaving, NotWatchable, CutsBrick, BadRow}
use Rattle.cube_language.specs.declared.statement.Item.{Item}
use Rattle.cube_language.specs.declared.statement.Statement.{Statement}
use Rattle.cube_language.specs.declared.statement.Statement.TheVariants.{Insert, Delete}
use Rattle.cube_run.specs.RunRecords.{Catalog, Sentence, Says, SaysNone, cube_called, cube_needed}
use Rattle.cube_run.specs.StepOutcomes.{IsMisfitOf, IsMisfitOn}
use Rattle.session_replies.proofs.Ranges.{cut_or_none}

-- No test before a place of the order fails.
abbrev NoneBefore : Decl → Statement → ℕ → Type 0
NoneBefore d s n = (other : Misfit) → order_of other < n → FailsTest d s other → ⊥

-- The test at a place fails in one way, or not at all.
abbrev FailsAt : Decl → Statement → ℕ → Type 0
FailsAt d s n =
    ((misfit : Misfit) × (order_of misfit ≡ n) × FailsTest d s misfit)
    ⊎ ((misfit : Misfit) → order_of misfit ≡ n → FailsTest d s misfit → ⊥)

-- The statement fits, or has a misfit.
abbrev pub FitsOrNot : Decl → Statement → Type 0
FitsOrNot d s = ((misfit : Misfit) × HasMisfit d s misfit) ⊎ FitsCube d s

next_test : (d : Decl) (s : Statement) (n : ℕ) → NoneBefore d s n → FailsAt d s n
    → (NoneBefore d s (n + 1) → FitsOrNot d s) → FitsOrNot d s
next_test d s n before (inl found) later =
    inl (
      found.0,
      record {
        fails = found.2;
        first = λ other l h. before other (let is = found.1 in omega (arith, l, is)) h;
      },
    )
next_test d s n before (inr none) later = later (λ other l h. at other l h (cases_eq (order_of other) n))
  where
    at : (other : Misfit) → order_of other < n + 1 → FailsTest d s other
        → (order_of other ≡ n) ⊎ (order_of other ≡ n → ⊥) → ⊥
    at other l h (inl is) = none other is h
    at other l h (inr differs) = before other (omega (arith, l, differs)) h

fails_0 : (d : Decl) (s : Statement) (o : Option (List ℕ)) → unknown_column d s ≡ o → FailsAt d s 0
fails_0 d s (Some name) h = inl (UnknownColumn name, refl, h)
fails_0 d s None h = inr (λ misfit is f. none_fails misfit is f)
  where
    none_fails : (misfit : Misfit) → order_of misfit ≡ 0 → FailsTest d s misfit → ⊥
    none_fails (UnknownColumn name) is f = none-some name (sym h ∙ f)
    none_fails misfit is f = absurd (omega (arith, is))

fails_1 : (d : Decl) (s : Statement) (o : Option (List ℕ)) → wrong_kind d s ≡ o → FailsAt d s 1
fails_1 d s (Some name) h = inl (WrongKind name, refl, h)
fails_1 d s None h = inr (λ misfit is f. none_fails misfit is f)
  where
    none_fails : (misfit : Misfit) → order_of misfit ≡ 1 → FailsTest d s misfit → ⊥
    none_fails (WrongKind name) is f = none-some name (sym h ∙ f)
    none_fails misfit is f = absurd (omega (arith, is))

fails_2 : (d : Decl) (s : Statement) (o : Option (List ℕ)) → not_grouped s ≡ o → FailsAt d s 2
fails_2 d s (Some name) h = inl (NotGrouped name, refl, h)
fails_2 d s None h = inr (λ misfit is f. none_fails misfit is f)
  where
    none_fails : (misfit : Misfit) → order_of misfit ≡ 2 → FailsTest d s misfit → ⊥
    none_fails (NotGrouped name) is f = none-some name (sym h ∙ f)
    none_fails misfit is f = absurd (omega (arith, is))

fails_3 : (d : Decl) (s : Statement) (o : Option Item) → not_an_item s ≡ o → FailsAt d s 3
fails_3 d s (Some item) h = inl (NotAnItem item, refl, h)
fails_3 d s None h = inr (λ misfit is f. none_fails misfit is f)
  where
    none_fails : (misfit : Misfit) → order_of misfit ≡ 3 → FailsTest d s misfit → ⊥
    none_fails (NotAnItem item) is f = none-some item (sym h ∙ f)
    none_fails misfit is f = absurd (omega (arith, is))

fails_4 : (d : Decl) (s : Statement) (o : Option Item) → bad_having s ≡ o → FailsAt d s 4
fails_4 d s (Some item) h = inl (BadHaving item, refl, h)
fails_4 d s None h = inr (λ misfit is f. none_fails misfit is f)
  where
    none_fails : (misfit : Misfit) → order_of misfit ≡ 4 → FailsTest d s misfit → ⊥
    none_fails (BadHaving item) is f = none-some item (sym h ∙ f)
    none_fails misfit is f = absurd (omega (arith, is))

fails_5 : (d : Decl) (s : Statement) (o : Option Item) → not_watchable s ≡ o → FailsAt d s 5
fails_5 d s (Some item) h = inl (NotWatchable item, refl, h)
fails_5 d s None h = inr (λ misfit is f. none_fails misfit is f)
  where
    none_fails : (misfit : Misfit) → order_of misfit ≡ 5 → FailsTest d s misfit → ⊥
    none_fails (NotWatchable item) is f = none-some item (sym h ∙ f)
    none_fails misfit is f = absurd (omega (arith, is))

-- A range is cut, of the first dimension of which one is, or of none.
cuts : (d : Decl) (s : Statement)
    → ((name : List ℕ) × FailsTest d s (CutsBrick name)) ⊎ ((name : List ℕ) → FailsTest d s (CutsBrick name) → ⊥)
cuts d (Delete cube conds) = cut_or_none d conds d.dims
cuts d s = inr (λ name h. h)

fails_6 : (d : Decl) (s : Statement)
    → ((name : List ℕ) × FailsTest d s (CutsBrick name)) ⊎ ((name : List ℕ) → FailsTest d s (CutsBrick name) → ⊥)
    → FailsAt d s 6
fails_6 d s (inl c) = inl (CutsBrick c.0, refl, c.1)
fails_6 d s (inr none) = inr (λ misfit is f. none_fails misfit is f)
  where
    none_fails : (misfit : Misfit) → order_of misfit ≡ 6 → FailsTest d s misfit → ⊥
    none_fails (CutsBrick name) is f = none name f
    none_fails misfit is f = absurd (omega (arith, is))

abbrev BadRowOrNone : Decl → Statement → Type 0
BadRowOrNone d s =
    ((row : ℕ) × ((why : WhyBad) × FailsTest d s (BadRow row why)))
    ⊎ ((row : ℕ) (why : WhyBad) → FailsTest d s (BadRow row why) → ⊥)

inserted : (d : Decl) (cube : List ℕ) (rows : List (List Value)) (o : Option (ℕ × WhyBad)) → first_bad_row d rows ≡ o
    → BadRowOrNone d (Insert cube rows)
inserted d cube rows (Some bad) h = inl (bad.0, (bad.1, h))
inserted d cube rows None h = inr (λ row why f. none-some (row, why) (sym h ∙ f))

bad_rows : (d : Decl) (s : Statement) → BadRowOrNone d s
bad_rows d (Insert cube rows) = inserted d cube rows (first_bad_row d rows) refl
bad_rows d s = inr (λ row why h. h)

fails_7 : (d : Decl) (s : Statement) → BadRowOrNone d s → FailsAt d s 7
fails_7 d s (inl c) = inl (BadRow c.0 c.1.0, refl, c.1.1)
fails_7 d s (inr none) = inr (λ misfit is f. none_fails misfit is f)
  where
    none_fails : (misfit : Misfit) → order_of misfit ≡ 7 → FailsTest d s misfit → ⊥
    none_fails (BadRow row why) is f = none row why f
    none_fails misfit is f = absurd (omega (arith, is))

all_orders : (misfit : Misfit) → order_of misfit < 8
all_orders (UnknownColumn name) = omega arith
all_orders misfit = omega arith

pub fits_or_not : (d : Decl) (s : Statement) → FitsOrNot d s
fits_or_not d s =
    next_test d s 0 (λ other l f. absurd (omega (arith, l))) (fails_0 d s (unknown_column d s) refl) (λ b0.
    next_test d s 1 b0 (fails_1 d s (wrong_kind d s) refl) (λ b1.
    next_test d s 2 b1 (fails_2 d s (not_grouped s) refl) (λ b2.
    next_test d s 3 b2 (fails_3 d s (not_an_item s) refl) (λ b3.
    next_test d s 4 b3 (fails_4 d s (bad_having s) refl) (λ b4.
    next_test d s 5 b4 (fails_5 d s (not_watchable s) refl) (λ b5.
    next_test d s 6 b5 (fails_6 d s (cuts d s)) (λ b6.
    next_test d s 7 b6 (fails_7 d s (bad_rows d s)) (λ b7.
    inr (λ misfit f. b7 misfit (all_orders misfit) f)))))))))

misfit_on : (cube : Option Decl) (s : Statement) → (misfit : Option Misfit) × IsMisfitOn cube s misfit
misfit_on None s = (None, refl)
misfit_on (Some d) s = at (fits_or_not d s)
  where
    at : FitsOrNot d s → (misfit : Option Misfit) × IsMisfitOn (Some d) s misfit
    at (inl m) = (Some m.0, m.1)
    at (inr fits) = (None, fits)

-- What a sentence says fails on its cube in some way, or not.
pub misfit_of : (catalog : Catalog) (sentence : Sentence)
    → (misfit : Option Misfit) × IsMisfitOf catalog sentence misfit
misfit_of catalog (Says s) = misfit_on (option_and_then (cube_called catalog.cubes) (cube_needed s)) s
misfit_of catalog (SaysNone at) = (None, refl)
