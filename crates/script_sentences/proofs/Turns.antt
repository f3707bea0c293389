-- The texts of a script say sentences, one list of them.
use Rattle.std.proofs.Common.{◌≡◌, ℕ, List, [], ◌∷◌, refl, ap, inl, inr}
use Rattle.cube_language.specs.declared.piece.Piece.{Piece}
use Rattle.cube_language.specs.declared.statement.Statement.{Statement}
use Rattle.cube_run.specs.RunRecords.{IsSaidBy}
use Rattle.script_sentences.specs.declared.said.Said.{Said}
use Rattle.script_sentences.specs.declared.said.Said.TheVariants as saying
use Rattle.script_sentences.specs.Sentences.{SaysInTurn, sentence_of}
use Rattle.sql_tree.specs.Laws.{TextsSpellOrHaveFault, TextsSpellOneStatement, SpellingTextsHaveNoFault, TextsHaveOneSyntaxFault}
use Rattle.sql_words.specs.Texts.{piece_bytes}

-- What is known of texts: each says one thing.
pub record TextsAreSpelled : Type 0 where
  pub either : TextsSpellOrHaveFault
  pub one_statement : TextsSpellOneStatement
  pub no_fault : SpellingTextsHaveNoFault
  pub one_fault : TextsHaveOneSyntaxFault

module _ (known : TextsAreSpelled) where
  text_says : (text : List ℕ) → (one : Said) × IsSaidBy text (sentence_of one)
  text_says text =
      elim (known.either text) [
        | inl h ↦ (saying.Statement h.0, h.1)
        | inr h ↦ (saying.Nothing (record { at = h.0 }), h.1)
      ]

  text_says_one : (text : List ℕ) (a b : Said) → IsSaidBy text (sentence_of a) → IsSaidBy text (sentence_of b) → a ≡ b
  text_says_one text (saying.Statement s) (saying.Statement t) h k = ap saying.Statement (known.one_statement text s t h k)
  text_says_one text (saying.Statement s) (saying.Nothing f) h k = absurd (known.no_fault text s f.at h k)
  text_says_one text (saying.Nothing f) (saying.Statement t) h k = absurd (known.no_fault text t f.at k h)
  text_says_one text (saying.Nothing f) (saying.Nothing g) h k =
      let same = known.one_fault text f.at g.at h k in λ i. saying.Nothing (record { at = same i })

  pub says_something : (script : List ℕ) (pieces : List Piece) → (said : List Said) × SaysInTurn script pieces said
  says_something script [] = ([], tt)
  says_something script (p ∷ pieces) =
      let one = text_says (piece_bytes script p) in
      let others = says_something script pieces in (one.0 ∷ others.0, (one.1, others.1))

  pub says_one_list : (script : List ℕ) (pieces : List Piece) (a b : List Said)
      → SaysInTurn script pieces a → SaysInTurn script pieces b → a ≡ b
  says_one_list script [] [] [] h k = refl
  says_one_list script [] [] (y ∷ b) h k = absurd k
  says_one_list script [] (x ∷ a) b h k = absurd h
  says_one_list script (p ∷ pieces) [] b h k = absurd h
  says_one_list script (p ∷ pieces) (x ∷ a) [] h k = absurd k
  says_one_list script (p ∷ pieces) (x ∷ a) (y ∷ b) h k =
      let first = text_says_one (piece_bytes script p) x y h.0 k.0 in
      let others = says_one_list script pieces a b h.1 k.1 in λ i. first i ∷ others i
