-- The rows that transactions leave which are committed up to an epoch: they stay where the epochs up to it are settled,
-- and are those of the opening at its epoch.
use Rattle.std.proofs.Common.{◌≡◌, ◌∙◌, ℕ, zero, suc, ◌+◌, ◌-◌, ◌<◌, ◌≤◌, ◌==◌, nat_le, nat_lt, Bool, true, false, ◌&&◌, ◌||◌, List, [], ◌∷◌, ◌++◌, fold, min, if◌then◌else◌, inl, inr, refl, sym, ap, subst, arith, append-nil, eqb-true, eq-eqb, ne_eqb, le-leb, lt-ltb, ltb-true}
use Rattle.std.specs.List.{list_all}
use Rattle.std.proofs.lemmas.Bool.{and_parts, cases_lt, false_from_ne_true}
use Rattle.cube_values.specs.declared.row.CodedRow.{CodedRow}
use Rattle.cube_values.specs.Sees.{sees}
use Rattle.cube_journal.specs.Counters.{JournalState, lce}
use Rattle.cube_journal.proofs.LeastEpochs.{lt-fold}
use Rattle.core_events.specs.Cells.{counters_of_run}
use Rattle.core_events.specs.Clients.{reader_up_to}
use Rattle.core_events.specs.Events.{Opening, CoreEvent, By, At}
use Rattle.core_events.specs.Groups.{has_number}
use Rattle.core_events.specs.Runs.{IsCoreRun}
use Rattle.core_events.specs.Serial.{CubeOperation, PutRows, counts_for, operations_of, rows_after_transaction, rows_left_below}
use Rattle.core_events.proofs.Blindness.{least-pending}
use Rattle.core_events.proofs.CopyRows.{sees-low}
use Rattle.core_events.proofs.DeskSteps.{client_entry, run-step}
use Rattle.core_serial.specs.Copies.{rows_committed_up_to}
use Rattle.core_serial.proofs.ToldBricks.{above-lse}
use Rattle.core_settled.specs.SettledEpochs.{IsSettledEpoch}
use Rattle.core_settled.proofs.Settled.{commits-stay, ec-rises, kept-settled, left-same, operations-stay, run-before}

-- ---- epochs up to LCE are settled

some-epoch : (o : Opening) (es : List CoreEvent) → 1 ≤ (counters_of_run o es).ec
some-epoch o [] = omega arith
some-epoch o (By b call ∷ es) =
    let before = some-epoch o es in
    let rises = ec-rises (counters_of_run o es) (client_entry b call) in
    let step = ap (λ (s : JournalState). s.ec) (run-step o b call es) in
    omega (arith, before, rises, step)
some-epoch o (At mail move ∷ es) = some-epoch o es

below-ec : (s : JournalState) (e : ℕ) → 1 ≤ s.ec → e ≤ lce s → e < s.ec
below-ec s e some low =
    let least = fold min s.ec s.pending in
    elim (cases_lt e least) [
      | inl below ↦
          ltb-true e s.ec (and_parts (nat_lt e s.ec) (list_all (nat_lt e) s.pending)
          (sym (lt-fold e s.ec s.pending) ∙ lt-ltb e least below)).0
      | inr past ↦ omega (arith, some, low, past)
    ]

pub up-to-lce : (o : Opening) (es : List CoreEvent) (e : ℕ) → IsCoreRun o es → e ≤ lce (counters_of_run o es)
    → IsSettledEpoch o es e
up-to-lce o es e run low =
    let s = counters_of_run o es in
    record {
      given = below-ec s e (some-epoch o es) low;
      ended = false_from_ne_true (has_number s.pending e) (λ pending.
          let above = above-lse o es e run pending in
          let later = least-pending s e pending (omega (arith, above)) in
          absurd (omega (arith, low, later)));
    }

-- ---- what they leave stays

pub committed-stay : (o : Opening) (later es : List CoreEvent) (cube e : ℕ) → IsCoreRun o (later ++ es)
    → ((k : ℕ) → k ≤ e → IsSettledEpoch o es k)
    → rows_committed_up_to o (later ++ es) cube e ≡ rows_committed_up_to o es cube e
committed-stay o later es cube e run settled =
    left-same (e + 1) (counts_for o (later ++ es) (reader_up_to e)) (counts_for o es (reader_up_to e))
    (operations_of o cube (later ++ es)) (operations_of o cube es)
    (λ k low i. sees (reader_up_to e) k && (commits-stay o later es k run (settled k (omega (arith, low))) i || false))
    (λ k low counts. operations-stay o later es cube k run (settled k (omega (arith, low))))

pub committed-since : (o : Opening) (later es : List CoreEvent) (cube e : ℕ) → IsCoreRun o (later ++ es)
    → e ≤ lce (counters_of_run o es)
    → rows_committed_up_to o (later ++ es) cube e ≡ rows_committed_up_to o es cube e
committed-since o later es cube e run low =
    committed-stay o later es cube e run
    (λ k le. up-to-lce o es k (run-before o later es run) (omega (arith, le, low)))

committed-then : (o : Opening) (es : List CoreEvent) (cube e : ℕ) → IsCoreRun o es → e ≤ o.safe
    → rows_committed_up_to o es cube e ≡ rows_committed_up_to o [] cube e
committed-then o es cube e run low =
    ap (λ (all : List CoreEvent). rows_committed_up_to o all cube e) (sym (append-nil es))
    ∙ committed-stay o es [] cube e (coe 1 0 (i. IsCoreRun o (append-nil es i)) run)
    (λ k le. kept-settled o k (omega (arith, le, low)))

-- ---- at the opening

module _ (o : Opening) (cube : ℕ) where
  left-before : (m : ℕ) → m ≤ o.safe
      → rows_left_below m (counts_for o [] (reader_up_to o.safe)) (operations_of o cube []) ≡ []
  left-before zero low = refl
  left-before (suc m) low =
      at (counts_for o [] (reader_up_to o.safe) m) (m == o.safe)
      (ne_eqb m o.safe (λ same. absurd (omega (arith, same, low)))) (left-before m (omega (arith, low)))
    where
      at : (counts here : Bool) → here ≡ false
          → rows_left_below m (counts_for o [] (reader_up_to o.safe)) (operations_of o cube []) ≡ []
          → (if counts
          then rows_after_transaction (if here then PutRows (o.rows cube) ∷ [] else [])
          (rows_left_below m (counts_for o [] (reader_up_to o.safe)) (operations_of o cube []))
          else rows_left_below m (counts_for o [] (reader_up_to o.safe)) (operations_of o cube []))
          ≡ []
      at true here is rest =
          ap (λ (b : Bool). rows_after_transaction (if b then PutRows (o.rows cube) ∷ [] else [])
          (rows_left_below m (counts_for o [] (reader_up_to o.safe)) (operations_of o cube []))) is
          ∙ rest
      at false here is rest = rest

  safe-counts : counts_for o [] (reader_up_to o.safe) o.safe ≡ true
  safe-counts =
      λ i. sees-low o.safe o.safe (omega arith) i && (le-leb o.safe o.safe (omega arith) i || false)

  kept-committed : rows_committed_up_to o [] cube o.safe ≡ o.rows cube
  kept-committed =
      let counts = counts_for o [] (reader_up_to o.safe) in
      let before = rows_left_below o.safe counts (operations_of o cube []) in
      let next : o.safe + 1 ≡ suc o.safe = omega arith in
      ap (λ (m : ℕ). rows_left_below m counts (operations_of o cube [])) next
      ∙ (λ i. if safe-counts i then rows_after_transaction (operations_of o cube [] o.safe) before else before)
      ∙ (λ i. rows_after_transaction (if eq-eqb o.safe o.safe refl i then PutRows (o.rows cube) ∷ [] else [])
      (left-before o.safe (omega arith) i))

  -- The rows of the opening are what the transactions leave up to its epoch.
  pub committed-at-safe : (es : List CoreEvent) → IsCoreRun o es → rows_committed_up_to o es cube o.safe ≡ o.rows cube
  committed-at-safe es run = committed-then o es cube o.safe run (omega arith) ∙ kept-committed

  zero-operations : (here : Bool) → (0 == o.safe) ≡ here → (o.safe ≡ 0 → o.rows cube ≡ [])
      → rows_after_transaction (if here then PutRows (o.rows cube) ∷ [] else []) [] ≡ []
  zero-operations true is none = none (sym (eqb-true 0 o.safe is))
  zero-operations false is none = refl

  zero-left : (counts : Bool) → (o.safe ≡ 0 → o.rows cube ≡ [])
      → (if counts then rows_after_transaction (operations_of o cube [] 0) [] else []) ≡ []
  zero-left true none = zero-operations (0 == o.safe) refl none
  zero-left false none = refl

  -- Up to epoch 0 there are none.
  pub committed-at-zero : (es : List CoreEvent) → IsCoreRun o es → rows_committed_up_to o es cube 0 ≡ []
  committed-at-zero es run =
      committed-then o es cube 0 run (omega arith)
      ∙ zero-left (counts_for o [] (reader_up_to 0) 0) (λ safe. (opening es run).none safe cube)
    where
      opening : (es : List CoreEvent) → IsCoreRun o es → IsCoreRun o []
      opening es run = run-before o es [] (coe 1 0 (i. IsCoreRun o (append-nil es i)) run)
