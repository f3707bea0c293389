-- A history that grows, and prefixes of it.
use Rattle.std.proofs.Common.{◌≡◌, ℕ, Bool, true, false, cond, eq-eqb, ne_eqb, ◌≢◌, List, [], ◌∷◌, ◌++◌, length, drop, get_or, sym, refl, ap, ◌∙◌, subst, arith, append_assoc, append-nil, length-append}
use mathlib.Core.List.{IsPrefix}
use Rattle.std.specs.List.{filter}
use Rattle.std.proofs.lemmas.List.Elements.{filter-append}
use Rattle.turn_board.specs.declared.history.Event.{Event}
use Rattle.turn_board.specs.History.{is_on_cell, is_by_caller, of_cell, of_caller, longer_list, LeadsTo, AllFitAfter, IsHistory, CellStep, CallFit}

module _ {X : Type 0} where
  module _ (p : X → Bool) where
    part_in : (xs : List X) (x : X) → p x ≡ true → filter p (xs ++ x ∷ []) ≡ filter p xs ++ x ∷ []
    part_in xs x is = filter-append p xs (x ∷ []) ∙ ap (λ b. filter p xs ++ cond b (x ∷ []) []) is

    part_out : (xs : List X) (x : X) → p x ≡ false → filter p (xs ++ x ∷ []) ≡ filter p xs
    part_out xs x is = filter-append p xs (x ∷ [])
        ∙ (ap (λ b. filter p xs ++ cond b (x ∷ []) []) is ∙ append-nil (filter p xs))

  pub prefix_of_itself : (xs : List X) → IsPrefix xs xs
  prefix_of_itself xs = ([], append-nil xs)

  pub prefix_more : (xs ys more : List X) → IsPrefix xs ys → IsPrefix xs (ys ++ more)
  prefix_more xs ys more p = (p.0 ++ more, sym (append_assoc xs p.0 more) ∙ ap (λ l. l ++ more) p.1)

  pub head_same : (x y : X) (xs ys : List X) → x ∷ xs ≡ y ∷ ys → x ≡ y
  head_same x y xs ys e = ap (λ l. get_or l 0 x) e

  pub tail_same : (x y : X) (xs ys : List X) → x ∷ xs ≡ y ∷ ys → xs ≡ ys
  tail_same x y xs ys e = ap (drop 1) e

  -- where a list with two more ends is the list itself, the first of them is empty
  nothing_more : (xs ys zs : List X) → (xs ++ ys) ++ zs ≡ xs → xs ++ ys ≡ xs
  nothing_more xs ys zs e = let n = ap length e in let a = length-append (xs ++ ys) zs in let b = length-append xs ys in
      no_end ys (omega arith)
    where
      no_end : (l : List X) → length l ≡ 0 → xs ++ l ≡ xs
      no_end [] z = append-nil xs
      no_end (y ∷ l) z = absurd (omega arith)

  -- the part of a list between two that have the same part
  pub part_between : (p : X → Bool) (low mid high part : List X) → IsPrefix low mid → IsPrefix mid high
      → filter p low ≡ part → filter p high ≡ part → filter p mid ≡ part
  part_between p low mid high part a b is is' =
      let m : filter p mid ≡ part ++ filter p a.0 = ap (filter p) (sym a.1)
      ∙ (filter-append p low a.0 ∙ ap (λ l. l ++ filter p a.0) is) in
      let h : filter p high ≡ (part ++ filter p a.0) ++ filter p b.0 = ap (filter p) (sym b.1)
      ∙ (filter-append p mid b.0 ∙ ap (λ l. l ++ filter p b.0) m) in
      m ∙ nothing_more part (filter p a.0) (filter p b.0) (sym h ∙ is')

module _ {Q A : Type 0} where
  pub on_cell : (log : List (Event Q A)) (e : Event Q A) → of_cell e.cell (log ++ e ∷ []) ≡ of_cell e.cell log ++ e ∷ []
  on_cell log e = part_in (is_on_cell e.cell) log e (eq-eqb e.cell e.cell refl)

  pub off_cell : (log : List (Event Q A)) (e : Event Q A) (k : ℕ) → k ≢ e.cell
      → of_cell k (log ++ e ∷ []) ≡ of_cell k log
  off_cell log e k n = part_out (is_on_cell k) log e (ne_eqb e.cell k (λ is. n (sym is)))

  pub by_caller : (log : List (Event Q A)) (e : Event Q A)
      → of_caller e.caller (log ++ e ∷ []) ≡ of_caller e.caller log ++ e ∷ []
  by_caller log e = part_in (is_by_caller e.caller) log e (eq-eqb e.caller e.caller refl)

  pub by_other : (log : List (Event Q A)) (e : Event Q A) (n : ℕ) → n ≢ e.caller
      → of_caller n (log ++ e ∷ []) ≡ of_caller n log
  by_other log e n ne = part_out (is_by_caller n) log e (ne_eqb e.caller n (λ is. ne (sym is)))

  pub longer_nothing : (xs : List (Event Q A)) → longer_list xs [] ≡ xs
  longer_nothing [] = refl
  longer_nothing (x ∷ xs) = refl

  -- The longer of two prefixes of one list.
  pub record IsLonger (xs ys both l : List (Event Q A)) : Type 0 where
    pub within : IsPrefix both l
    pub first : IsPrefix xs both
    pub second : IsPrefix ys both

  pub longer_is : (xs ys l : List (Event Q A)) → IsPrefix xs l → IsPrefix ys l → IsLonger xs ys (longer_list xs ys) l
  longer_is [] ys l a b = record { within = b; first = (ys, refl); second = prefix_of_itself ys }
  longer_is (x ∷ xs) [] l a b = record { within = a; first = prefix_of_itself (x ∷ xs); second = (x ∷ xs, refl) }
  longer_is (x ∷ xs) (y ∷ ys) [] a b = absurd (let n = ap length a.1 in omega arith)
  longer_is (x ∷ xs) (y ∷ ys) (z ∷ l) a b =
      let r = longer_is xs ys l (a.0, tail_same x z (xs ++ a.0) l a.1) (b.0, tail_same y z (ys ++ b.0) l b.1) in
      let x_is = head_same x z (xs ++ a.0) l a.1 in let y_is = head_same y z (ys ++ b.0) l b.1 in record {
        within = (r.within.0, λ i. x_is i ∷ r.within.1 i);
        first = (r.first.0, ap (λ t. x ∷ t) r.first.1);
        second = (r.second.0, λ i. (y_is ∙ sym x_is) i ∷ r.second.1 i);
      }

module _ {T Q A : Type 0} (step : CellStep T Q A) where
  pub leads_more : (es : List (Event Q A)) (x y z : T) (e : Event Q A) → LeadsTo step x es y → step y e.call e.answer z
      → LeadsTo step x (es ++ e ∷ []) z
  leads_more [] x y z e l s = (z, subst (λ t. step t e.call e.answer z) (sym l) s, refl)
  leads_more (d ∷ es) x y z e l s = (l.0, l.1, leads_more es l.0 y z e l.2 s)

  pub leads_front : (es more : List (Event Q A)) (x y : T) → LeadsTo step x (es ++ more) y → (z : T)
      × LeadsTo step x es z
  leads_front [] more x y l = (x, refl)
  leads_front (d ∷ es) more x y l = let r = leads_front es more l.0 y l.2 in (r.0, (l.0, l.1, r.1))

module _ {T Q A : Type 0} (fits : CallFit T Q A) (opening : List T) where
  pub fit_more : (before es : List (Event Q A)) (e : Event Q A) → AllFitAfter fits opening before es
      → fits opening e.caller (of_caller e.caller (before ++ es)) e.cell e.call
      → AllFitAfter fits opening before (es ++ e ∷ [])
  fit_more before [] e all f =
      (subst (λ l. fits opening e.caller (of_caller e.caller l) e.cell e.call) (append-nil before) f, tt)
  fit_more before (d ∷ es) e all f = (
    all.0,
    fit_more (before ++ d ∷ []) es e all.1
        (subst (λ l. fits opening e.caller (of_caller e.caller l) e.cell e.call)
        (sym (append_assoc before (d ∷ []) es)) f),
  )

  pub fit_front : (before es more : List (Event Q A)) → AllFitAfter fits opening before (es ++ more)
      → AllFitAfter fits opening before es
  fit_front before [] more all = tt
  fit_front before (d ∷ es) more all = (all.0, fit_front (before ++ d ∷ []) es more all.1)

module _ {T Q A : Type 0} (step : CellStep T Q A) (fits : CallFit T Q A) (opening : List T) where
  -- a prefix of a run is a run
  pub run_front : (past log : List (Event Q A)) → IsPrefix past log → IsHistory step fits opening log
      → IsHistory step fits opening past
  run_front past log p run = record {
    fitting = fit_front fits opening [] past p.0 (subst (AllFitAfter fits opening []) (sym p.1) run.fitting);
    leads = λ k x is. let r = run.leads k x is in
        leads_front step (of_cell k past) (of_cell k p.0) x r.0
        (subst (λ l. LeadsTo step x l r.0) (ap (of_cell k) (sym p.1) ∙ filter-append (is_on_cell k) past p.0) r.1);
  }
