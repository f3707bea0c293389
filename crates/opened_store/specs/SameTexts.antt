-- Lists of texts are compared text by text.
-- Source: this project's own.
use Rattle.std.specs.Prelude.{◌≡◌, ℕ, Bool, List, nat_eq}
use Rattle.std.specs.Bool.{Decides}
use Rattle.std.specs.Cmp.Lexicographic.{pointwise}
use Rattle.std.proofs.Common.{refl}
use Rattle.std.proofs.lemmas.Slice.Eq.{bytes_eq-Decides, slice_eq-Decides}

abbrev pub texts_eq : List (List ℕ) → List (List ℕ) → Bool
texts_eq = pointwise (pointwise nat_eq)

pub same_texts : (texts others : List (List ℕ)) → Decides (texts_eq texts others) (texts ≡ others)
same_texts texts others = slice_eq-Decides bytes_eq-Decides texts others (texts_eq texts others) refl
