-- Lists of rows of which some go and to which others come.
use Rattle.std.proofs.Common.{List, ◌++◌, sym, subst}
use Rattle.std.proofs.lemmas.List.{append_assoc}
use Rattle.std.specs.List.Sorted.{IsPermutation}
use Rattle.std.proofs.lemmas.List.Sorted.{IsPermutation-append_comm, IsPermutation-append_left, IsPermutation-append_right, IsPermutation-trans}
use Rattle.cube_values.specs.declared.row.CodedRow.{CodedRow}
use Rattle.agg_fold.specs.Standing.{IsMade}

module _ (rows more less rest : List CodedRow) (made : IsMade rows less rest) where
  -- Rows that come stay when those go that were there before.
  pub made_with : IsMade (rows ++ more) less (rest ++ more)
  made_with =
      IsPermutation-trans (rows ++ more) (rest ++ (less ++ more)) (rest ++ more ++ less)
      (subst (IsPermutation (rows ++ more)) (append_assoc rest less more) (IsPermutation-append_left more rows (rest ++ less) made))
      (subst (IsPermutation (rest ++ (less ++ more))) (sym (append_assoc rest more less)) (IsPermutation-append_right rest (less ++ more) (more ++ less) (IsPermutation-append_comm less more)))
