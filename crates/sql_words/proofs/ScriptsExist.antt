-- Each script has its statements or a fault.
use Rattle.std.proofs.Common.{◌≡◌, ℕ, zero, suc, ◌<◌, ◌≤◌, List, [], ◌∷◌, ◌++◌, length, drop, Option, Some, None, ◌⊎◌, inl, inr, refl, sym, ap, ◌∙◌, IsUtf8, arith}
use Rattle.std.specs.List.{position_from, slice_split}
use Rattle.std.proofs.lemmas.Bool.{cases_lt}
use Rattle.std.proofs.lemmas.List.{take-append-drop}
use Rattle.cube_language.specs.declared.piece.Piece.{Piece}
use Rattle.cube_language.specs.declared.piece.ScriptFault.TheVariants.{NotUtf8, TooManyStatements, StatementTooLong}
use Rattle.cube_language.specs.Parts.{ScriptPart, AreParts}
use Rattle.cube_language.specs.Pieces.{Splits, is_end, is_long, pieces_from, statements_limit}
use Rattle.cube_language.proofs.ValidFronts.{utf8_or_not}
use Rattle.sql_words.specs.Fronts.{part_len}
use Rattle.sql_words.specs.Laws.{AnyPieces, AnyScriptFault, ScriptsHavePiecesOrFault}
use Rattle.sql_words.proofs.PartFronts.{part_of, part_stands}
use Rattle.sql_words.proofs.Gaps.{shorter}
use Rattle.sql_words.proofs.Bodies.{none_long}

-- all bytes are parts in order
parts_to_end : (n : ℕ) (bytes : List ℕ) → length bytes < n → (parts : List ScriptPart) × AreParts bytes parts []
parts_to_end zero bytes lt = absurd (omega arith)
parts_to_end (suc n) [] lt = ([], refl)
parts_to_end (suc n) (b ∷ bytes) lt =
    let long = part_len (b ∷ bytes) in
    let stands = part_stands b bytes in
    let others = parts_to_end n (drop long (b ∷ bytes)) (omega (arith, lt, shorter b bytes)) in
    (part_of b bytes ∷ others.0, (drop long (b ∷ bytes), sym (take-append-drop long (b ∷ bytes)) ∙ ap (λ (xs : List ℕ). xs ++ drop long (b ∷ bytes)) stands.taken, stands.part, others.1))

by_long : (script : List ℕ) (pieces : List Piece) → IsUtf8 script → Splits script pieces → length pieces ≤ statements_limit → (found : Option ℕ) → position_from is_long 1 pieces ≡ found → AnyPieces script ⊎ AnyScriptFault script
by_long script pieces utf8 splits few None e = inl (pieces, record { text = utf8; splits = splits; few = few; short = none_long 1 pieces e })
by_long script pieces utf8 splits few (Some n) e = inr (StatementTooLong n, record { text = utf8; pieces = pieces; splits = splits; few = few; first = e })

by_count : (script : List ℕ) (pieces : List Piece) → IsUtf8 script → Splits script pieces → AnyPieces script ⊎ AnyScriptFault script
by_count script pieces utf8 splits = elim (cases_lt statements_limit (length pieces)) [
  | inl many ↦ inr (TooManyStatements, record { text = utf8; pieces = pieces; splits = splits; many = many })
  | inr few ↦ by_long script pieces utf8 splits few (position_from is_long 1 pieces) refl
]

-- Each script has its statements or a fault.
pub some_script_or_fault : ScriptsHavePiecesOrFault
some_script_or_fault script = elim (utf8_or_not script) [
  | inl utf8 ↦
      let parts = parts_to_end (suc (length script)) script (omega arith) in
      by_count script (pieces_from 0 (slice_split is_end parts.0)) utf8 (parts.0, parts.1, refl)
  | inr other ↦ inr (NotUtf8 other.0, other.1)
]
