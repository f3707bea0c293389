-- A text declares one list of cubes or has one fault.
use Rattle.std.proofs.Common.{◌≡◌, ℕ, cond, List, length, take, Result, Ok, Err, refl, sym, ap, ◌∙◌, subst, inl, inr, IsUtf8, arith}
use Rattle.std.specs.Str.{IsValidUpTo, is_utf8}
use Rattle.std.specs.Str.Lossy.{utf8_valid_len}
use Rattle.std.proofs.lemmas.Bool.{cases_Bool}
use Rattle.std.proofs.lemmas.List.{take_all}
use Rattle.std.proofs.lemmas.Str.{IsUtf8-from_is_utf8, is_utf8-from_IsUtf8, utf8_valid_len-IsValidUpTo}
use Rattle.cube_values.specs.declared.call_error.CallError.{CallError}
use Rattle.cube_values.specs.declared.call_error.CallError.TheVariants.{Fault, NoMemory}
use Rattle.cube_language.specs.declared.cubes_fault.CubesFault.{CubesFault}
use Rattle.cube_language.specs.declared.cubes_fault.CubesFault.TheVariants.{NotUtf8, BadLine, DuplicateCube, TooManyCubes, Schema}
use Rattle.cube_language.specs.declared.decl.Decl.{Decl}
use Rattle.cube_language.specs.CubesText.{Declares, HasCubesFault}
use Rattle.cube_values.specs.Faults.{IfFault}
use Rattle.cube_language.proofs.ValidFronts.{utf8_or_not}
use Rattle.cube_schema.specs.Outcomes.{outcome}
use Rattle.cube_schema.specs.Texts.{TextsDeclareOneList, DeclaringTextsHaveNoFault, TextsHaveOneFault, TextsDeclareOrHaveFault}
use Rattle.cube_schema.proofs.TextOutcomes.{declared_outcome, bad_outcome, duplicate_outcome, excess_outcome, schema_outcome}
use Rattle.cube_schema.proofs.TextViews.{text_view}

-- What a text says, be it UTF-8 or not.
said : List ℕ → Result (List Decl) CubesFault
said text = cond (is_utf8 text) (outcome text) (Err (NotUtf8 (utf8_valid_len text)))

said_utf8 : (text : List ℕ) → IsUtf8 text → said text ≡ outcome text
unfolding said
said_utf8 text utf8 = rw (is_utf8-from_IsUtf8 text utf8) refl

said_not_utf8 : (text : List ℕ) (at : ℕ) → IsValidUpTo text at → said text ≡ Err (NotUtf8 at)
unfolding said
said_not_utf8 text at valid = elim (cases_Bool (is_utf8 text)) [
  | inl utf8 ↦
      let whole : take (length text) text ≡ text = take_all (length text) text (omega arith) in
      absurd (valid.longest (length text) valid.short (rw whole (IsUtf8-from_is_utf8 text utf8)))
  | inr other ↦ rw other (ap (λ n. Err (NotUtf8 n)) (utf8_valid_len-IsValidUpTo text at valid))
]

declared_said : (text : List ℕ) (cubes : List Decl) → Declares text cubes → said text ≡ Ok cubes
declared_said text cubes d = said_utf8 text d.formed.utf8 ∙ declared_outcome text cubes d

fault_said : (text : List ℕ) (fault : CubesFault) → HasCubesFault text fault → said text ≡ Err fault
fault_said text (NotUtf8 at) valid = said_not_utf8 text at valid
fault_said text (BadLine number) b = said_utf8 text b.utf8 ∙ bad_outcome text number b
fault_said text (DuplicateCube number) f = said_utf8 text f.formed.utf8 ∙ duplicate_outcome text number f
fault_said text (TooManyCubes number) f = said_utf8 text f.formed.utf8 ∙ excess_outcome text number f
fault_said text (Schema name fault) f =
    said_utf8 text f.formed.utf8 ∙ schema_outcome text name fault f ∙ ap (λ n. Err (Schema n fault)) (sym f.named)

pub one_list : TextsDeclareOneList
one_list text a b declares_a declares_b =
    let said_a = declared_said text a declares_a in
    let said_b = declared_said text b declares_b in
    cc

pub no_fault : DeclaringTextsHaveNoFault
no_fault text cubes fault declares has =
    let said_cubes = declared_said text cubes declares in
    let said_fault = fault_said text fault has in
    cc

pub one_fault : TextsHaveOneFault
one_fault text a b has_a has_b =
    let said_a = fault_said text a has_a in
    let said_b = fault_said text b has_b in
    cc

-- Each text declares cubes or has a fault.
pub declares_or_has_fault : TextsDeclareOrHaveFault
declares_or_has_fault text = elim (utf8_or_not text) [ inl utf8 ↦ text_view text utf8 | inr other ↦ inr (NotUtf8 other.0, other.1) ]

pub declares_from : (text : List ℕ) (cubes : List Decl) → IsUtf8 text → outcome text ≡ Ok cubes → Declares text cubes
declares_from text cubes utf8 gives = elim (text_view text utf8) [
  | inl declared ↦
      let other = declared_outcome text declared.0 declared.1 in
      let same : declared.0 ≡ cubes = cc in
      subst (Declares text) same declared.1
  | inr faulty ↦
      let other = sym (said_utf8 text utf8) ∙ fault_said text faulty.0 faulty.1 in
      absurd cc
]

fault_from : (text : List ℕ) (fault : CubesFault) → IsUtf8 text → outcome text ≡ Err fault → HasCubesFault text fault
fault_from text fault utf8 gives = elim (text_view text utf8) [
  | inl declared ↦
      let other = declared_outcome text declared.0 declared.1 in
      absurd cc
  | inr faulty ↦
      let other = sym (said_utf8 text utf8) ∙ fault_said text faulty.0 faulty.1 in
      let same : faulty.0 ≡ fault = cc in
      subst (HasCubesFault text) same faulty.1
]

-- The fault that is answered is the text's.
pub fault_answered : {T : Type 0} (text : List ℕ) (r : Result T (CallError CubesFault)) → IsUtf8 text → IfFault r (λ fault. outcome text ≡ Err fault) → IfFault r (λ fault. HasCubesFault text fault)
fault_answered text (Ok value) utf8 gives = tt
fault_answered text (Err (Fault fault)) utf8 gives = fault_from text fault utf8 gives
fault_answered text (Err NoMemory) utf8 gives = tt
