-- A list that is copied item by item.
use Rattle.std.proofs.Common.{◌≡◌, ℕ, ◌+◌, ◌<◌, ◌≤◌, List, [], ◌∷◌, ◌++◌, length, sym, ◌∙◌, ap, append_assoc, arith, length-append}

pub room_for_next : (done rest all next : List ℕ) (x : ℕ) → done ++ rest ≡ all → rest ≡ x ∷ next → length all ≤ 16
    → length done < 16
room_for_next done rest all next x whole is few =
    omega (arith, ap length whole, ap length is, length-append done rest)

pub one_more_done : (done rest all next : List ℕ) (x : ℕ) → done ++ rest ≡ all → rest ≡ x ∷ next
    → (done ++ x ∷ []) ++ next ≡ all
one_more_done done rest all next x whole is =
    append_assoc done (x ∷ []) next ∙ ap (λ r. done ++ r) (sym is) ∙ whole
