-- Epochs with commas between them: the first, and each other one after a comma.
use Rattle.std.proofs.Common.{◌≡◌, ◌++◌, ◌∷◌, ◌≤◌, ◌-◌, ◌∙◌, [], ℕ, List, length, map, decimal, take, drop, get_or, ap, sym, arith, append-nil, append_assoc}
use Rattle.std.proofs.lemmas.List.{take_all}
use Rattle.std.specs.List.{join_with_byte}
use Rattle.cube_journal.specs.JournalLines.{comma}
use Rattle.report_text.specs.Lines.{epochs_after_commas}

joined_epochs : (epoch : ℕ) (epochs : List ℕ)
    → join_with_byte comma (map decimal (epoch ∷ epochs)) ≡ decimal epoch ++ epochs_after_commas epochs
joined_epochs epoch [] = sym (append-nil (decimal epoch))
joined_epochs epoch (next ∷ epochs) = ap (λ text. decimal epoch ++ (comma ∷ text)) (joined_epochs next epochs)

-- The others are said as the code cuts them off.
pub joined_at_least : (text : List ℕ) (epochs : List ℕ) → 1 ≤ length epochs
    → text ++ join_with_byte comma (map decimal epochs)
    ≡ (text ++ decimal (get_or epochs 0 0)) ++ epochs_after_commas (take (length epochs - 1) (drop 1 epochs))
joined_at_least text [] some = absurd (omega arith)
joined_at_least text (epoch ∷ epochs) some =
    ap (λ more. text ++ more) (joined_epochs epoch epochs)
    ∙ (sym (append_assoc text (decimal epoch) (epochs_after_commas epochs))
    ∙ ap (λ others. (text ++ decimal epoch) ++ epochs_after_commas others)
    (sym (take_all (length (epoch ∷ epochs) - 1) epochs (omega arith))))
