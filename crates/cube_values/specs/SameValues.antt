-- The tests of values decide whether they are equal.
use Rattle.std.specs.Prelude.{◌≡◌, List}
use Rattle.std.specs.Bool.{Decides}
use Rattle.std.specs.Cmp.{IsEquivalence, decided, signed_Decides}
use Rattle.std.specs.Cmp.Lexicographic.{lists_equiv}
use Rattle.std.proofs.Common.{rules, refl}
use Rattle.std.proofs.lemmas.Slice.Eq.{bytes_eq-Decides, slice_eq-Decides}
use Rattle.cube_values.specs.declared.value.Value.{Value}
use Rattle.cube_values.specs.declared.value.Value.TheVariants.{Text, Int}
use Rattle.cube_values.specs.Values.{value_eq, values_eq}

pub value_eq-Decides : (a b : Value) → Decides (value_eq a b) (a ≡ b)
value_eq-Decides (Text a) (Text b) = search (rules, bytes_eq-Decides a b)
value_eq-Decides (Int a) (Int b) = search (rules, signed_Decides a b)
value_eq-Decides a b = search rules

pub value_eq_equiv : IsEquivalence value_eq
value_eq_equiv = decided value_eq value_eq-Decides

pub values_eq_equiv : IsEquivalence values_eq
values_eq_equiv = lists_equiv value_eq_equiv

pub same_values : (xs ys : List Value) → Decides (values_eq xs ys) (xs ≡ ys)
same_values xs ys = slice_eq-Decides value_eq-Decides xs ys (values_eq xs ys) refl
