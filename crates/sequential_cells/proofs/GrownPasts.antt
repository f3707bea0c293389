-- A past of cells goes on with a call on one of them.
use Rattle.std.proofs.Common.{◌≡◌, ◌≢◌, ◌∙◌, ◌⊎◌, ◌<◌, ℕ, List, [], ◌∷◌, ◌++◌, set, refl, sym, subst, ⊎_elim}
use Rattle.std.proofs.lemmas.List.{length-set}
use lib.ListN.{get_elem?}
use mathlib.Core.Option.{some, some-injective}
use Rattle.atomic_table.proofs.Lists.{at_set}
use Rattle.turn_board.proofs.Logs.{fit_more, leads_more, on_cell, off_cell}
use Rattle.turn_board.proofs.Places.{inside, there}
use Rattle.turn_board.specs.History.{CellStep, CallFit, event, of_cell, LeadsTo, IsHistory, IsSafe}
use Rattle.turn_board.specs.declared.history.Event.{Event}
use Rattle.sequential_cells.specs.Pasts.{IsPast, FitsAfterPast, PastsGrow}

module _ {T Q A : Type 0} (step : CellStep T Q A) (fits : CallFit T Q A) where
  -- A past is a history.
  pub past-history : (opening : List T) (log : List (Event Q A)) (cells : List T) → IsPast step fits opening log cells
      → IsHistory step fits opening log
  past-history opening log cells past = record {
    fitting = past.fitting;
    leads = λ k x at.
        let long = past.long in
        let here = there cells k (subst (λ (n : ℕ). k < n) (sym long) (inside opening k x at)) in
        (here.0, past.leads k x here.0 at here.1);
  }

  -- Cells with no past yet have the empty one.
  pub first-past : (cells : List T) → IsPast step fits cells [] cells
  first-past cells = record {
    long = refl;
    fitting = tt;
    leads = λ k x y at is. some-injective x y (sym at ∙ is);
  }

  grown-cell : (k j : ℕ) (log : List (Event Q A)) (e : Event Q A) (opening cells : List T) (x z a b : T) → e.cell ≡ k
      → IsPast step fits opening log cells → get_elem? cells k ≡ some x → step x e.call e.answer z
      → get_elem? opening j ≡ some a → ((j ≡ k) × (z ≡ b)) ⊎ ((j ≢ k) × (get_elem? cells j ≡ some b))
      → LeadsTo step a (of_cell j (log ++ e ∷ [])) b
  grown-cell k j log e opening cells x z a b on past at made first =
      ⊎_elim
      (λ (h : (j ≡ k) × (z ≡ b)).
      let same : j ≡ e.cell = h.0 ∙ sym on in
      let was : get_elem? cells j ≡ some x = subst (λ (i : ℕ). get_elem? cells i ≡ some x) (sym h.0) at in
      let longer = leads_more step (of_cell j log) a x z e (past.leads j a x first was) made in
      let more : of_cell j (log ++ e ∷ []) ≡ of_cell j log ++ e ∷ [] =
      subst (λ (i : ℕ). of_cell i (log ++ e ∷ []) ≡ of_cell i log ++ e ∷ []) (sym same) (on_cell log e)
      in
      subst (λ (y : T). LeadsTo step a (of_cell j (log ++ e ∷ [])) y) h.1
      (subst (λ (l : List (Event Q A)). LeadsTo step a l z) (sym more) longer))
      (λ (h : (j ≢ k) × (get_elem? cells j ≡ some b)).
      subst (λ (l : List (Event Q A)). LeadsTo step a l b) (sym (off_cell log e j (λ same. h.0 (same ∙ on))))
      (past.leads j a b first h.1))

  -- Where a call on a cell is a step of it, each past goes on with it.
  pub pasts-grow : (cells : List T) (caller k : ℕ) (call : Q) (answer : A) (x z : T) → get_elem? cells k ≡ some x
      → step x call answer z → PastsGrow step fits cells caller k call answer (set cells k z)
  pasts-grow cells caller k call answer x z at made opening log past next =
      let e : Event Q A = event caller k call answer in
      record {
        long = length-set cells k z ∙ past.long;
        fitting = fit_more fits opening [] log e past.fitting next;
        leads = λ j a b first after. grown-cell k j log e opening cells x z a b refl past at made first (at_set cells k j z b after);
      }

  -- A cell can take a call that fits after a past.
  pub can-take : (can : T → Q → Type 0) → IsSafe step fits can → (cells : List T) (caller k : ℕ) (call : Q) (y : T)
      → FitsAfterPast step fits cells caller k call → get_elem? cells k ≡ some y → can y call
  can-take can safe cells caller k call y may at =
      let long = may.past.long in
      let here = there may.opening k (subst (λ (n : ℕ). k < n) long may.there) in
      safe may.opening may.log caller k call here.0 y (past-history may.opening may.log cells may.past) here.1
      (may.past.leads k here.0 y here.1 at) may.next
