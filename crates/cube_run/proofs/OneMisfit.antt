-- A statement fails one test first on its cube.
use Rattle.std.proofs.Common.{◌≡◌, ℕ, ◌<◌, List, [], ◌∷◌, ◌++◌, Option, Some, None, All, refl, ap, sym, subst, ◌∙◌, arith}
use Rattle.std.proofs.lemmas.List.Elements.{All-head, All-tail}
use Rattle.std.proofs.lemmas.Option.{same_Some}
use Rattle.cube_language.specs.Misfits.{AreAligned, CutsRange, FailsTest, HasMisfit, order_of}
use Rattle.cube_language.specs.declared.bad_row.BadRow.{BadRow as WhyBad}
use Rattle.cube_language.specs.declared.decl.Decl.{Decl}
use Rattle.cube_language.specs.declared.decl.DimDecl.{DimDecl}
use Rattle.cube_language.specs.declared.misfit.Misfit.{Misfit}
use Rattle.cube_language.specs.declared.misfit.Misfit.TheVariants.{UnknownColumn, WrongKind, NotGrouped, NotAnItem, BadHaving, NotWatchable, CutsBrick, BadRow}
use Rattle.cube_language.specs.declared.statement.Cond.{Cond}
use Rattle.cube_language.specs.declared.statement.Statement.{Statement}
use Rattle.cube_language.specs.declared.statement.Statement.TheVariants.{Insert, Delete}
use Rattle.cube_run.specs.StepOutcomes.{IsMisfitOn}

-- Two values that one option has are one.
pub one-some : {A : Type 0} (o : Option A) (x y : A) → o ≡ Some x → o ≡ Some y → x ≡ y
one-some o x y a b = same_Some x y (sym a ∙ b)

abbrev head-of : (a : DimDecl) → List DimDecl → DimDecl
head-of a [] = a
head-of a (x ∷ xs) = x

abbrev tail-of : List DimDecl → List DimDecl
tail-of [] = []
tail-of (x ∷ xs) = xs

-- The first dimension that is cut follows dimensions that are not.
first-cut : (conds : List Cond) (xs ys : List DimDecl) (a b : DimDecl) (us vs : List DimDecl)
    → xs ++ a ∷ us ≡ ys ++ b ∷ vs → All (AreAligned conds) xs → All (AreAligned conds) ys
    → (AreAligned conds a → ⊥) → (AreAligned conds b → ⊥) → a ≡ b
first-cut conds [] [] a b us vs e p q n m = ap (head-of a) e
first-cut conds [] (y ∷ ys) a b us vs e p q n m =
    let is : a ≡ y = ap (head-of a) e in
    absurd (n (subst (AreAligned conds) (sym is) (All-head (AreAligned conds) y ys q)))
first-cut conds (x ∷ xs) [] a b us vs e p q n m =
    let is : x ≡ b = ap (head-of a) e in
    absurd (m (subst (AreAligned conds) is (All-head (AreAligned conds) x xs p)))
first-cut conds (x ∷ xs) (y ∷ ys) a b us vs e p q n m =
    first-cut conds xs ys a b us vs (ap tail-of e) (All-tail (AreAligned conds) x xs p)
    (All-tail (AreAligned conds) y ys q) n m

one-range : (d : Decl) (conds : List Cond) (x y : List ℕ) → CutsRange d conds x → CutsRange d conds y → x ≡ y
one-range d conds x y p q =
    let dim : p.dim ≡ q.dim =
    first-cut conds p.before q.before p.dim q.dim p.behind q.behind (sym p.whole ∙ q.whole) p.aligned q.aligned
    p.cut q.cut
    in
    p.name_is ∙ (ap (λ (m : DimDecl). m.name) dim ∙ sym q.name_is)

one-cut : (d : Decl) (s : Statement) (x y : List ℕ) → FailsTest d s (CutsBrick x) → FailsTest d s (CutsBrick y) → x ≡ y
one-cut d (Delete cube conds) x y p q = one-range d conds x y p q
one-cut d s x y p q = absurd p

abbrev row-of : Misfit → Option (ℕ × WhyBad) → Misfit
row-of m None = m
row-of m (Some r) = BadRow r.0 r.1

one-row : (d : Decl) (s : Statement) (i j : ℕ) (v w : WhyBad) → FailsTest d s (BadRow i v) → FailsTest d s (BadRow j w)
    → BadRow i v ≡ BadRow j w
one-row d (Insert cube rows) i j v w p q = ap (row-of (BadRow i v)) (sym p ∙ q)
one-row d s i j v w p q = absurd p

-- At one place of the order stands one test, and it fails in one way.
same-test : (d : Decl) (s : Statement) (a b : Misfit) → FailsTest d s a → FailsTest d s b → order_of a ≡ order_of b
    → a ≡ b
same-test d s (UnknownColumn x) (UnknownColumn y) p q h = ap UnknownColumn (one-some _ x y p q)
same-test d s (WrongKind x) (WrongKind y) p q h = ap WrongKind (one-some _ x y p q)
same-test d s (NotGrouped x) (NotGrouped y) p q h = ap NotGrouped (one-some _ x y p q)
same-test d s (NotAnItem x) (NotAnItem y) p q h = ap NotAnItem (one-some _ x y p q)
same-test d s (BadHaving x) (BadHaving y) p q h = ap BadHaving (one-some _ x y p q)
same-test d s (NotWatchable x) (NotWatchable y) p q h = ap NotWatchable (one-some _ x y p q)
same-test d s (CutsBrick x) (CutsBrick y) p q h = ap CutsBrick (one-cut d s x y p q)
same-test d s (BadRow i v) (BadRow j w) p q h = one-row d s i j v w p q
same-test d s a b p q h = absurd (omega arith)

order-of-two : (m n : ℕ) → (m < n → ⊥) → (n < m → ⊥) → m ≡ n
order-of-two m n p q = omega arith

one-misfit : (d : Decl) (s : Statement) (a b : Misfit) → HasMisfit d s a → HasMisfit d s b → a ≡ b
one-misfit d s a b p q =
    same-test d s a b p.fails q.fails
    (order-of-two (order_of a) (order_of b) (λ lt. q.first a lt p.fails) (λ lt. p.first b lt q.fails))

pub one-misfit-on : (o : Option Decl) (s : Statement) (a b : Option Misfit) → IsMisfitOn o s a → IsMisfitOn o s b
    → a ≡ b
one-misfit-on None s a b p q = p ∙ sym q
one-misfit-on (Some d) s (Some a) (Some b) p q = ap Some (one-misfit d s a b p q)
one-misfit-on (Some d) s (Some a) None p q = absurd (q a p.fails)
one-misfit-on (Some d) s None (Some b) p q = absurd (p b q.fails)
one-misfit-on (Some d) s None None p q = refl
