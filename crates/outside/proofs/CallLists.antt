-- The calls of a shelf, one after the other.
use Rattle.std.proofs.Common.{◌≡◌, ℕ, ◌+◌, ◌<◌, ◌≤◌, List, [], ◌∷◌, ◌++◌, length, take, Option, Some, ◌∙◌, refl, sym, ap, subst, inl, inr, arith}
use Rattle.std.proofs.lemmas.List.{length-take-le}
use Rattle.outside.specs.ShelfCalls.{ShelfCall, gave, read_failed, with_call, ReadsPrefix, one_more, ReadsToEnd, ReadsToFault, WhereKnown}

-- one call more
one_call : (call : ShelfCall) (before after : Option (List ShelfCall)) (past : List ShelfCall) →
    after ≡ with_call call before → before ≡ Some past → after ≡ Some (call ∷ past)
one_call call before after past e known = e ∙ ap (with_call call) known

module _ (name : List ℕ) (before between after : Option (List ShelfCall)) (at : ℕ) (old : List ℕ) where
  -- the bytes so far, and as many as they are
  abbrev SoFar : Type 0
  SoFar = WhereKnown (λ past now. ReadsPrefix name past now (take at old)) before between

  -- a piece more
  pub calls_more : (n : ℕ) (piece new : List ℕ) → SoFar → at ≤ length old → 0 < n → n ≤ length piece →
      after ≡ with_call (gave name at (take n piece)) between → take (at + n) new ≡ take at old ++ take n piece →
      WhereKnown (λ past now. ReadsPrefix name past now (take (at + n) new)) before after
  calls_more n piece new so_far within some fits e whole past known =
      let h = so_far past known in
      let len : length (take at old) ≡ at = length-take-le at old within in
      let long : length (take n piece) ≡ n = length-take-le n piece fits in
      let more : ReadsPrefix name past (gave name (length (take at old)) (take n piece) ∷ h.0) (take at old ++ take n piece) =
      one_more h.2 (omega (arith, long)) in (
        gave name at (take n piece) ∷ h.0,
        one_call (gave name at (take n piece)) between after h.0 e h.1,
        subst (λ bytes. ReadsPrefix name past (gave name at (take n piece) ∷ h.0) bytes) (sym whole)
            (subst (λ k. ReadsPrefix name past (gave name k (take n piece) ∷ h.0) (take at old ++ take n piece)) len more),
      )

  -- a read that gave nothing
  pub calls_ended : (size : ℕ) (new : List ℕ) → SoFar → at < size → at ≤ length old →
      after ≡ with_call (gave name at []) between → take at new ≡ take at old →
      WhereKnown (λ past now. ReadsToEnd name size past now (take at new)) before after
  calls_ended size new so_far short within e same past known =
      let h = so_far past known in
      let len : length (take at old) ≡ at = length-take-le at old within in
      let end : ReadsToEnd name size past (gave name at [] ∷ h.0) (take at old) = record {
        calls = h.0;
        prefix = h.2;
        end = inr (omega (arith, len), ap (λ k. gave name k [] ∷ h.0) (sym len));
      } in (
        gave name at [] ∷ h.0,
        one_call (gave name at []) between after h.0 e h.1,
        subst (λ bytes. ReadsToEnd name size past (gave name at [] ∷ h.0) bytes) (sym same) end,
      )

  -- a read that failed
  pub calls_failed : (size : ℕ) → SoFar → at < size → at ≤ length old → after ≡ with_call (read_failed name at) between →
      WhereKnown (λ past now. ReadsToFault name size past now) before after
  calls_failed size so_far short within e past known =
      let h = so_far past known in
      let len : length (take at old) ≡ at = length-take-le at old within in (
        read_failed name at ∷ h.0,
        one_call (read_failed name at) between after h.0 e h.1,
        record {
          calls = h.0;
          bytes = take at old;
          prefix = h.2;
          short = omega (arith, len);
          fault = ap (λ k. read_failed name k ∷ h.0) (sym len);
        },
      )

  -- no read more, since the size is reached
  pub calls_full : (size : ℕ) → SoFar → at ≡ size → at ≤ length old → between ≡ after →
      WhereKnown (λ past now. ReadsToEnd name size past now (take at old)) before after
  calls_full size so_far full within e past known =
      let h = so_far past known in
      let len : length (take at old) ≡ at = length-take-le at old within in
      (h.0, sym e ∙ h.1, record { calls = h.0; prefix = h.2; end = inl (len ∙ full, refl) })
