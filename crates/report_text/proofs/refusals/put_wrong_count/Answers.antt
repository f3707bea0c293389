use Rattle.std.proofs.Common.{◌≡◌, ◌++◌, ◌∙◌, ap, append_assoc, codes, decimal, List, ℕ}
use Rattle.report_text.proofs.refusals.put_wrong_count.Goals as goal

four_parts : (a b c d : List ℕ) → (a ++ (b ++ c)) ++ d ≡ a ++ (b ++ (c ++ d))
four_parts a b c d = simp append_assoc

pub returns : goal.returns
returns c =
    c.in_ok-extend_from_slice.ensures.items
    ∙ (ap (λ text. text ++ codes " WrongCount") c.in_ok-put_counted.ensures
    ∙ four_parts c.args.out.now.items (codes "values ") (decimal c.args.values) (codes " WrongCount"))
