use Rattle.std.proofs.Common.{ap, sym, ◌∙◌, inl, inr}
use Rattle.cube_language.specs.Tokens.{fault_at}
use Rattle.sql_tree.proofs.Statements.{one_statement, spells_none, one_place, statement_or_fault}
use Rattle.sql_tree.proofs.law.a_text_spells_or_has_one_fault.Goals as goal

pub returns-clause-either : goal.returns-clause-either
returns-clause-either c = λ text. statement_or_fault text (c.a_text_has_tokens_or_one_fault.ensures.either text)

pub returns-clause-one_statement : goal.returns-clause-one_statement
returns-clause-one_statement c = λ text a b x y. one_statement text a b (c.a_text_has_tokens_or_one_fault.ensures.one_list text) x y

pub returns-clause-no_fault : goal.returns-clause-no_fault
returns-clause-no_fault c = λ text s at x fault.
    elim fault [
      | inl among ↦ c.a_text_has_tokens_or_one_fault.ensures.no_fault text x.tokens among.0 x.are among.1
      | inr wrong ↦ spells_none text s at (c.a_text_has_tokens_or_one_fault.ensures.one_list text) x wrong
    ]

pub returns-clause-one_fault : goal.returns-clause-one_fault
returns-clause-one_fault c = λ text a b one other.
    elim one [
      | inl x ↦
          elim other [
            | inl y ↦ x.2 ∙ ap fault_at (c.a_text_has_tokens_or_one_fault.ensures.one_fault text x.0 y.0 x.1 y.1) ∙ sym y.2
            | inr y ↦ absurd (c.a_text_has_tokens_or_one_fault.ensures.no_fault text _ x.0 y.tokens x.1)
          ]
      | inr x ↦
          elim other [
            | inl y ↦ absurd (c.a_text_has_tokens_or_one_fault.ensures.no_fault text _ y.0 x.tokens y.1)
            | inr y ↦ one_place text a b (c.a_text_has_tokens_or_one_fault.ensures.one_list text) x y
          ]
    ]
