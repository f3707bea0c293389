-- Two intervals of coordinates that overlap in part.
use Rattle.std.proofs.Common.{ℕ, ◌-◌, ◌<◌, ◌≤◌, inl, inr, true, false, ◌&&◌, nat_le, sym, ◌∙◌, arith}
use Rattle.std.proofs.lemmas.Bool.{cases_lt, and_parts, and_from, leb-true, le-leb, true≢false}
use Rattle.brick_address.specs.Shares.{AnswersAll}

pub some_between : (first last start end : ℕ) → first ≤ last → start ≤ last → first < end → start < end → (first ≤ start → end - 1 ≤ last → ⊥)
    → (AnswersAll (λ c. nat_le first c && nat_le c last) start end true → ⊥) × (AnswersAll (λ c. nat_le first c && nat_le c last) start end false → ⊥)
some_between first last start end a b c d n = (
  λ all. elim (cases_lt start first) [
    | inl l ↦ absurd (let p = leb-true first start (and_parts _ _ (all start (omega arith) (omega arith))).0 in omega arith)
    | inr m ↦ n m (leb-true (end - 1) last (and_parts _ _ (all (end - 1) (omega arith) (omega arith))).1)
  ],
  λ none. elim (cases_lt start first) [
    | inl l ↦ true≢false (sym (and_from (nat_le first first) (nat_le first last) (le-leb first first (omega arith)) (le-leb first last a)) ∙ none first (omega arith) (omega arith))
    | inr m ↦ true≢false (sym (and_from (nat_le first start) (nat_le start last) (le-leb first start m) (le-leb start last b)) ∙ none start (omega arith) (omega arith))
  ],
)
