-- A field of a text dimension is a text.
use Rattle.std.proofs.Common.{◌≡◌, ℕ, zero, suc, ◌<◌, true, List, [], ◌∷◌, length, get_or, IsUtf8, arith}
use Rattle.cube_language.specs.declared.decl.DimDecl.{DimDecl}
use Rattle.csv_load.specs.FileRecords.{RecordFields}
use Rattle.csv_load.specs.Loads.{AreTexts}

pub text_at : (dims : List DimDecl) (fields : RecordFields) (i : ℕ) (d : DimDecl) → AreTexts dims fields
    → i < length dims → i < length fields → (get_or dims i d).text ≡ true → IsUtf8 (get_or fields i [])
text_at [] fields i d texts a b = absurd (omega (arith, a))
text_at (dim ∷ dims) [] i d texts a b = absurd (omega (arith, b))
text_at (dim ∷ dims) (field ∷ fields) zero d texts a b = texts.0
text_at (dim ∷ dims) (field ∷ fields) (suc i) d texts a b =
    text_at dims fields i d texts.1 (omega (arith, a)) (omega (arith, b))
