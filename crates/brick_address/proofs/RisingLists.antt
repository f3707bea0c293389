-- How many numbers of a list that rises strictly lie in a range.
use Rattle.std.proofs.Common.{◌≡◌, ℕ, suc, ◌+◌, ◌<◌, ◌≤◌, inl, inr, Bool, true, false, cond, ◌||◌, ◌==◌, List, [], ◌∷◌, refl, sym, ap, ◌∙◌, arith}
use Rattle.std.specs.List.{list_any, AllByRecursion, count_by}
use Rattle.std.proofs.lemmas.Bool.{cases_Bool, cases_eq, or_parts, or_left, or_right, or_from, ne_eqb, eq-eqb, true≢false}
use Rattle.std.proofs.lemmas.Bool.Decides.{nat_tests}
use Rattle.std.proofs.lemmas.List.Recursion.{is_count_by}
use Rattle.cube_values.specs.Spans.{Rises}
use Rattle.brick_address.specs.Shares.{is_within, AnswersAll}

abbrev pub is_in : List ℕ → ℕ → Bool
is_in cs x = list_any (λ c. c == x) cs

abbrev pub held : ℕ → ℕ → List ℕ → ℕ
held start end [] = 0
held start end (c ∷ cs) = cond (is_within start end c) (1 + held start end cs) (held start end cs)

pub held_is : (start end : ℕ) (cs : List ℕ) → held start end cs ≡ count_by (λ c. is_within start end c) cs
held_is start end cs = is_count_by (held start end) (λ c. is_within start end c) refl (λ _ _. refl) cs

within_parts : (start end c : ℕ) → is_within start end c ≡ true → (start ≤ c) × (c < end)
within_parts start end c h = (grind (arith, nat_tests), grind (arith, nat_tests))

not_within : (start end c x : ℕ) → is_within start end c ≡ false → start ≤ x → x < end → (c == x) ≡ false
not_within start end c x h l m = grind (arith, nat_tests)

held_yes : (start end c : ℕ) (cs : List ℕ) → is_within start end c ≡ true → held start end (c ∷ cs) ≡ suc (held start end cs)
held_yes start end c cs h = ap (λ b. cond b (1 + held start end cs) (held start end cs)) h ∙ omega arith

held_no : (start end c : ℕ) (cs : List ℕ) → is_within start end c ≡ false → held start end (c ∷ cs) ≡ held start end cs
held_no start end c cs h = ap (λ b. cond b (1 + held start end cs) (held start end cs)) h

-- numbers above one are counted from it as well
held_above : (start end c : ℕ) (cs : List ℕ) → start ≤ suc c → AllByRecursion (λ m. c < m) cs → held start end cs ≡ held (suc c) end cs
held_above start end c [] l h = refl
held_above start end c (d ∷ cs) l h =
    let same : is_within start end d ≡ is_within (suc c) end d = grind (arith, nat_tests, h.0) in
    λ i. cond (same i) (1 + held_above start end c cs l h.1 i) (held_above start end c cs l h.1 i)

absent : (c x : ℕ) (cs : List ℕ) → x ≤ c → AllByRecursion (λ m. c < m) cs → is_in cs x ≡ false
absent c x [] l h = refl
absent c x (d ∷ cs) l h = or_from (d == x) (is_in cs x) (ne_eqb d x (λ e. absurd (omega (arith, h.0)))) (absent c x cs l h.1)

pub none_held : (start end : ℕ) (cs : List ℕ) → held start end cs ≡ 0 → AnswersAll (is_in cs) start end false
none_held start end [] h x l m = refl
none_held start end (c ∷ cs) h x l m = elim (cases_Bool (is_within start end c)) [
  | inl t ↦ absurd (let e = held_yes start end c cs t in omega arith)
  | inr f ↦ or_from (c == x) (is_in cs x) (not_within start end c x f l m) (none_held start end cs (sym (held_no start end c cs f) ∙ h) x l m)
]

pub held_none : (start end : ℕ) (cs : List ℕ) → AnswersAll (is_in cs) start end false → held start end cs ≡ 0
held_none start end [] h = refl
held_none start end (c ∷ cs) h = elim (cases_Bool (is_within start end c)) [
  | inl t ↦ absurd (let w = within_parts start end c t in
      true≢false (sym (eq-eqb c c refl) ∙ (or_parts (c == c) (is_in cs c) (h c w.0 w.1)).0))
  | inr f ↦ held_no start end c cs f ∙ held_none start end cs (λ x l m. (or_parts (c == x) (is_in cs x) (h x l m)).1)
]

pub held_most : (start end : ℕ) (cs : List ℕ) → Rises cs → start ≤ end → held start end cs + start ≤ end
held_most start end [] r l = omega arith
held_most start end (c ∷ cs) r l = elim (cases_Bool (is_within start end c)) [
  | inl t ↦ (let w = within_parts start end c t in let e = held_yes start end c cs t in
      let a = held_above start end c cs (omega arith) r.0 in let m = held_most (suc c) end cs r.1 (omega arith) in omega arith)
  | inr f ↦ (let e = held_no start end c cs f in let m = held_most start end cs r.1 l in omega arith)
]

pub all_held : (start end : ℕ) (cs : List ℕ) → Rises cs → end ≤ start + held start end cs → AnswersAll (is_in cs) start end true
all_held start end [] r h x l m = absurd (omega arith)
all_held start end (c ∷ cs) r h x l m = elim (cases_Bool (is_within start end c)) [
  | inl t ↦ (let w = within_parts start end c t in let e = held_yes start end c cs t in
      let a = held_above start end c cs (omega arith) r.0 in let most = held_most (suc c) end cs r.1 (omega arith) in
      elim (cases_eq c x) [
        | inl s ↦ or_left (c == x) (is_in cs x) (eq-eqb c x s)
        | inr n ↦ or_right (c == x) (is_in cs x) (all_held (suc c) end cs r.1 (omega arith) x (omega arith) m)
      ])
  | inr f ↦ or_right (c == x) (is_in cs x) (all_held start end cs r.1 (let e = held_no start end c cs f in omega arith) x l m)
]

-- a number that is not the first is among the others
later : (c x : ℕ) (cs : List ℕ) → (c == x) ≡ false → is_in (c ∷ cs) x ≡ true → is_in cs x ≡ true
later c x cs n h = ap (λ b. b || is_in cs x) (sym n) ∙ h

pub held_all : (start end : ℕ) (cs : List ℕ) → Rises cs → start ≤ end → AnswersAll (is_in cs) start end true → end ≤ start + held start end cs
held_all start end [] r l h = elim (cases_eq start end) [
  | inl e ↦ omega arith
  | inr n ↦ absurd (true≢false (sym (h start (omega arith) (omega arith))))
]
held_all start end (c ∷ cs) r l h = elim (cases_Bool (is_within start end c)) [
  | inl t ↦ (let w = within_parts start end c t in let e = held_yes start end c cs t in
      let a = held_above start end c cs (omega arith) r.0 in
      elim (cases_eq c start) [
        | inl s ↦ (let m = held_all (suc c) end cs r.1 (omega arith)
            (λ x lx mx. later c x cs (ne_eqb c x (λ q. absurd (omega arith))) (h x (omega arith) mx)) in omega arith)
        | inr n ↦ absurd (true≢false (sym (later c start cs (ne_eqb c start n) (h start (omega arith) (omega arith))) ∙ absent c start cs w.0 r.0))
      ])
  | inr f ↦ (let e = held_no start end c cs f in
      let m = held_all start end cs r.1 l (λ x lx mx. later c x cs (not_within start end c x f lx mx) (h x lx mx)) in omega arith)
]
