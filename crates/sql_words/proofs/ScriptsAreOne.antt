-- A script has one list of statements, or one fault.
use Rattle.std.proofs.Common.{◌≡◌, ℕ, ◌+◌, ◌≤◌, false, List, [], ◌∷◌, length, None, inl, inr, IsUtf8, refl, sym, ap, subst, ◌∙◌, arith}
use Rattle.std.specs.Prelude.{All}
use Rattle.std.specs.List.{position_from, slice_split}
use Rattle.std.specs.Str.{IsValidUpTo}
use Rattle.std.proofs.lemmas.Bool.{cases_order, le-ltb}
use Rattle.std.proofs.lemmas.List.{take_all}
use Rattle.std.proofs.lemmas.List.Elements.{All-head, All-tail}
use Rattle.cube_language.specs.declared.piece.Piece.{Piece}
use Rattle.cube_language.specs.declared.piece.ScriptFault.{ScriptFault}
use Rattle.cube_language.specs.declared.piece.ScriptFault.TheVariants.{NotUtf8, TooManyStatements, StatementTooLong}
use Rattle.cube_language.specs.Parts.{ScriptPart, AreParts}
use Rattle.cube_language.specs.Pieces.{is_end, pieces_from, Splits, statement_limit, is_long, IsScript, HasScriptFault}
use Rattle.sql_words.proofs.PartFronts.{parts_agree}
use Rattle.sql_words.proofs.PiecesLeft.{no_parts}

parts_are_one : (ps qs : List ScriptPart) (bytes : List ℕ) → AreParts bytes ps [] → AreParts bytes qs [] → ps ≡ qs
parts_are_one [] qs bytes a b = sym (no_parts qs (subst (λ (xs : List ℕ). AreParts xs qs []) a b))
parts_are_one (p ∷ ps) [] bytes a b = no_parts (p ∷ ps) (subst (λ (xs : List ℕ). AreParts xs (p ∷ ps) []) b a)
parts_are_one (p ∷ ps) (q ∷ qs) bytes a b =
    let first = parts_agree p q a.0 b.0 a.2 b.2 (sym a.1 ∙ b.1) in
    let others = parts_are_one ps qs b.0 (subst (λ (xs : List ℕ). AreParts xs ps []) first.1 a.3) b.3 in
    λ i. first.0 i ∷ others i

splits_are_one : (script : List ℕ) (a b : List Piece) → Splits script a → Splits script b → a ≡ b
splits_are_one script a b h k = h.2 ∙ ap (λ ps. pieces_from 0 (slice_split is_end ps)) (parts_are_one h.0 k.0 script h.1 k.1) ∙ sym k.2

no_valid : (bytes : List ℕ) (n : ℕ) → IsUtf8 bytes → IsValidUpTo bytes n → ⊥
no_valid bytes n utf8 h = h.longest (length bytes) h.short (subst IsUtf8 (sym (take_all (length bytes) bytes (omega arith))) utf8)

valid_is_one : (bytes : List ℕ) (m n : ℕ) → IsValidUpTo bytes m → IsValidUpTo bytes n → m ≡ n
valid_is_one bytes m n h k =
    elim (cases_order m n) [
      | inl same ↦ same
      | inr apart ↦ absurd (elim apart [ inl below ↦ h.longest n below k.front | inr above ↦ k.longest m above h.front ])
    ]

short_none : (n : ℕ) (pieces : List Piece) → All (λ piece. piece.end ≤ piece.start + statement_limit) pieces → position_from is_long n pieces ≡ None
short_none n [] short = refl
short_none n (p ∷ pieces) short =
    let first = All-head (λ piece. piece.end ≤ piece.start + statement_limit) p pieces short in
    let none : is_long p ≡ false = le-ltb _ _ first in
    rw none (short_none (n + 1) pieces (All-tail (λ piece. piece.end ≤ piece.start + statement_limit) p pieces short))

pub scripts_are_one : (script : List ℕ) (a b : List Piece) → IsScript script a → IsScript script b → a ≡ b
scripts_are_one script a b h k = splits_are_one script a b h.splits k.splits

pub script_or_fault : (script : List ℕ) (pieces : List Piece) (fault : ScriptFault) → IsScript script pieces → HasScriptFault script fault → ⊥
script_or_fault script pieces (NotUtf8 at) h k = no_valid script at h.text k
script_or_fault script pieces TooManyStatements h k = let same = splits_are_one script pieces k.pieces h.splits k.splits in omega (arith, h.few, k.many, ap length same)
script_or_fault script pieces (StatementTooLong n) h k =
    let same = splits_are_one script pieces k.pieces h.splits k.splits in
    cc (short_none 1 pieces h.short, ap (position_from is_long 1) same, k.first)

pub script_faults_are_one : (script : List ℕ) (f g : ScriptFault) → HasScriptFault script f → HasScriptFault script g → f ≡ g
script_faults_are_one script (NotUtf8 m) (NotUtf8 n) h k = ap NotUtf8 (valid_is_one script m n h k)
script_faults_are_one script (NotUtf8 m) TooManyStatements h k = absurd (no_valid script m k.text h)
script_faults_are_one script (NotUtf8 m) (StatementTooLong n) h k = absurd (no_valid script m k.text h)
script_faults_are_one script TooManyStatements (NotUtf8 n) h k = absurd (no_valid script n h.text k)
script_faults_are_one script TooManyStatements TooManyStatements h k = refl
script_faults_are_one script TooManyStatements (StatementTooLong n) h k = absurd (omega (arith, h.many, k.few, ap length (splits_are_one script h.pieces k.pieces h.splits k.splits)))
script_faults_are_one script (StatementTooLong m) (NotUtf8 n) h k = absurd (no_valid script n h.text k)
script_faults_are_one script (StatementTooLong m) TooManyStatements h k = absurd (omega (arith, h.few, k.many, ap length (splits_are_one script h.pieces k.pieces h.splits k.splits)))
script_faults_are_one script (StatementTooLong m) (StatementTooLong n) h k =
    let same = ap (position_from is_long 1) (splits_are_one script h.pieces k.pieces h.splits k.splits) in
    let one : m ≡ n = cc (h.first, k.first, same) in
    ap StatementTooLong one
