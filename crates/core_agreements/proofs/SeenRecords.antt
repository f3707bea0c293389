-- What a snapshot sees of the record is what the rows by coordinates stand for that it sees in the core.
use Rattle.std.proofs.Common.{◌≡◌, ◌≢◌, ◌∙◌, ℕ, ◌+◌, ◌≤◌, ◌==◌, Bool, true, false, not, ◌&&◌, ◌||◌, cond, List, [], ◌∷◌, ◌++◌, length, filter, slice_get, append-nil, Some, if◌then◌else◌, inl, inr, refl, sym, ap, subst, arith, eqb-true, eq-eqb, ne_eqb}
use Rattle.std.specs.List.{flat_map}
use Rattle.std.specs.Str.{bytes_eq}
use Rattle.std.proofs.lemmas.Bool.{false≢true, le-leb}
use Rattle.std.proofs.lemmas.Bool.Decides.{eqb_tells}
use Rattle.std.proofs.lemmas.List.Elements.{filter-append}
use Rattle.std.proofs.lemmas.List.Sorted.{IsPermutation-sym}
use Rattle.cube_values.specs.Sees.{sees}
use Rattle.cube_values.specs.Visible.{visible_rows}
use Rattle.cube_values.specs.declared.operation.Transaction.{Transaction}
use Rattle.cube_values.specs.declared.row.CodedRow.{CodedRow}
use Rattle.cube_values.specs.declared.row.StoredRow.{StoredRow}
use Rattle.cube_values.specs.declared.snapshot.Snapshot.{Snapshot}
use Rattle.cube_language.specs.declared.decl.Decl.{Decl}
use Rattle.cube_journal.specs.Counters.{held_by}
use Rattle.cube_run.specs.RunRecords.{RunRecord, catalog_of, script_of}
use Rattle.cube_run.specs.RunTransactions.{kept_transaction, operations_at, run_transactions, session_operations, transaction_so_far, transactions_inside}
use Rattle.condition_spans.specs.Codes.{lists_at}
use Rattle.one_session.specs.Changes.{rows_in_cube}
use Rattle.core_events.specs.Cells.{counters_of_run, desk_of}
use Rattle.core_events.specs.Clients.{calls_of}
use Rattle.core_events.specs.Events.{Opening, IsSession, CoreEvent}
use Rattle.core_events.specs.Runs.{IsCoreRun}
use Rattle.core_events.specs.Serial.{PutRows, counts_for, has_committed, operations_of}
use Rattle.core_serial.specs.CubeRows.{rows_of_serial_run}
use Rattle.core_serial.specs.OwnOperations.{operations_by_calls}
use Rattle.core_serial.proofs.OwnCalls.{own-operations}
use Rattle.core_settled.proofs.Settled.{commits-stay, kept-settled, open-rows, operations-stay, seen-settled}
use Rattle.serial_transactions.specs.SerialTransactions.{AreOfOwnEpochs, operations_of_epoch, stored_left_below, transactions_of_epoch}
use Rattle.serial_transactions.proofs.ByEpochs.{left-by-epochs}
use Rattle.core_records.specs.CoreRecords.{RunScripts, record_of, rows_kept}
use Rattle.core_records.proofs.CubesOnRecord.{cubes-are, run-before}
use Rattle.core_agreements.specs.PostsForOperations.{PostsStandFor, StandForAll, no_posts, rows_put}
use Rattle.core_agreements.specs.ScriptedRuns.{IsScriptedRun}
use Rattle.core_agreements.proofs.EpochOperations.{EpochCase, committed_one, epoch-case, kept_rows, no_transaction, own-epoch}
use Rattle.core_agreements.proofs.KeptStood.{kept-stands}
use Rattle.core_agreements.proofs.OpenedEpochs.{held-opened}
use Rattle.core_agreements.proofs.SerialRuns.{StandsAt, serial-stands, stand-moved}

-- The rows of a batch alone are its rows.
batch-alone : (d : Decl) (lists : List (List (List ℕ))) (rows : List CodedRow) (stored : List StoredRow)
    → StandForAll d lists rows stored → StandForAll d lists (rows ++ []) stored
batch-alone d lists rows stored h =
    subst (λ (all : List CodedRow). StandForAll d lists all stored) (sym (append-nil rows)) h

module _ (o : Opening) (given : RunScripts) (es : List CoreEvent) (r : IsScriptedRun o given es) (cube : ℕ) (d : Decl)
    (is : slice_get (catalog_of (record_of o given es)).cubes cube ≡ Some d) where
  abbrev record_here : RunRecord
  record_here = record_of o given es

  abbrev lists_here : List (List (List ℕ))
  lists_here = lists_at record_here.names cube

  at-desk : slice_get (desk_of o es).cubes cube ≡ Some d
  at-desk = ap (λ (cubes : List Decl). slice_get cubes cube) (sym (cubes-are o given es es r.run r.follow)) ∙ is

  -- What the core does to the cube at an epoch up to the kept one.
  up-to-kept : (e : ℕ) → e ≤ o.safe
      → operations_of o cube es e ≡ (if e == o.safe then PutRows (o.rows cube) ∷ [] else [])
  up-to-kept e low =
      ap (λ (all : List CoreEvent). operations_of o cube all e) (sym (append-nil es))
      ∙ operations-stay o es [] cube e (coe 1 0 (i. IsCoreRun o (append-nil es i)) r.run) (kept-settled o e low)

  kept-committed : (e : ℕ) → e ≤ o.safe → has_committed o es e ≡ true
  kept-committed e low =
      ap (λ (all : List CoreEvent). has_committed o all e) (sym (append-nil es))
      ∙ commits-stay o es [] e (coe 1 0 (i. IsCoreRun o (append-nil es i)) r.run) (kept-settled o e low)
      ∙ le-leb e o.safe low

  -- Where an epoch is committed, its posts stand for its operations on record; else it has none there.
  data EpochStands (e : ℕ) : Type 0 where
    done : has_committed o es e ≡ true
        → PostsStandFor d lists_here (operations_of o cube es e) (operations_of_epoch (run_transactions record_here) e)
        → EpochStands e
    nothing : (has_committed o es e ≡ true → operations_of o cube es e ≡ [])
        → operations_of_epoch (run_transactions record_here) e ≡ [] → EpochStands e

  operations-are : (e : ℕ) (ts : List Transaction) → transactions_of_epoch (run_transactions record_here) e ≡ ts
      → operations_of_epoch (run_transactions record_here) e ≡ flat_map (λ (t : Transaction). t.operations) ts
  operations-are e ts are = ap (flat_map (λ (t : Transaction). t.operations)) are

  from-case : (e : ℕ) → EpochCase o given es r.run r.follow.each e → EpochStands e
  from-case e (kept_rows is_safe are) =
      let low : e ≤ o.safe = omega (arith, is_safe) in
      let posts =
      up-to-kept e low
      ∙ ap (λ (b : Bool). if b then PutRows (o.rows cube) ∷ [] else []) (eq-eqb e o.safe is_safe)
      in
      done (kept-committed e low)
      (coe 1 0 (i. PostsStandFor d lists_here (posts i) (operations-are e (kept_transaction record_here ∷ []) are i))
      (rows_put (o.rows cube ∷ []) [] (rows_kept o) []
      (batch-alone d lists_here (o.rows cube) (rows_in_cube d.name (rows_kept o))
      (kept-stands o es cube d r.run r.opens at-desk))
      no_posts))
  from-case e (committed_one by above committed are) =
      let a = by.session in
      let posts = own-operations o es a e cube r.run by.opened in
      let all = operations_at e (session_operations record_here a (script_of record_here a)) in
      done committed
      (coe 1 0 (i. PostsStandFor d lists_here (posts i) ((operations-are e _ are ∙ append-nil all) i))
      ((r.commits a by.is_session).each e cube d by.committed is))
  from-case e (no_transaction low are) =
      nothing
      (λ committed.
      let below = low committed in
      up-to-kept e (omega (arith, below))
      ∙ ap (λ (b : Bool). if b then PutRows (o.rows cube) ∷ [] else [])
      (ne_eqb e o.safe (λ same. omega (arith, below, same))))
      (operations-are e [] are)

  epoch-stands : (e : ℕ) → EpochStands e
  epoch-stands e = from-case e (epoch-case o given es r.run r.follow.each e)

  -- So at each epoch that is seen.
  seen-stands : (e : ℕ) → EpochStands e
      → PostsStandFor d lists_here (if has_committed o es e then operations_of o cube es e else [])
      (operations_of_epoch (run_transactions record_here) e)
  seen-stands e (done committed stand) =
      coe 1 0 (i. PostsStandFor d lists_here (if committed i then operations_of o cube es e else [])
      (operations_of_epoch (run_transactions record_here) e)) stand
  seen-stands e (nothing posts none) =
      at (has_committed o es e) posts
    where
      at : (b : Bool) → (b ≡ true → operations_of o cube es e ≡ [])
          → PostsStandFor d lists_here (if b then operations_of o cube es e else [])
          (operations_of_epoch (run_transactions record_here) e)
      at true p = coe 1 0 (i. PostsStandFor d lists_here (p refl i) (none i)) no_posts
      at false p = coe 1 0 (i. PostsStandFor d lists_here [] (none i)) no_posts

  pub stands-on-record : (e : ℕ)
      → PostsStandFor d lists_here (if has_committed o es e then operations_of o cube es e else [])
      (operations_of_epoch (run_transactions record_here) e)
  stands-on-record e = seen-stands e (epoch-stands e)

  pub own-epochs : AreOfOwnEpochs (run_transactions record_here)
  own-epochs e = own-epoch o given es r.run r.follow.each e

  -- What is left of these transactions stands in whatever order they are seen.
  pub as-seen : (s : Snapshot) (ts : List Transaction) (rows : List CodedRow) → AreOfOwnEpochs ts
      → StandForAll d lists_here rows
      (rows_in_cube d.name (stored_left_below (s.epoch + 1) (sees s) (operations_of_epoch ts)))
      → StandForAll d lists_here rows (rows_in_cube d.name (visible_rows s ts))
  as-seen s ts rows own stand =
      let left = stored_left_below (s.epoch + 1) (sees s) (operations_of_epoch ts) in
      stand-moved d lists_here rows (rows_in_cube d.name left) (rows_in_cube d.name (visible_rows s ts)) stand
      (IsPermutation-sym (rows_in_cube d.name (visible_rows s ts)) (rows_in_cube d.name left)
      (left-by-epochs s ts (λ (row : StoredRow). bytes_eq row.cube d.name) own))

  reader-at : (s : Snapshot) → s.own ≡ false → (e : ℕ)
      → StandsAt d lists_here (counts_for o es s) (operations_of o cube es) (sees s)
      (operations_of_epoch (run_transactions record_here)) e
  reader-at s reads e =
      coe 1 0 (i. PostsStandFor d lists_here
      (if sees s e && (has_committed o es e || (reads i && s.epoch == e)) then operations_of o cube es e else [])
      (if sees s e then operations_of_epoch (run_transactions record_here) e else []))
      (at (sees s e) (has_committed o es e) (stands-on-record e))
    where
      at : (seen committed : Bool)
          → PostsStandFor d lists_here (if committed then operations_of o cube es e else [])
          (operations_of_epoch (run_transactions record_here) e)
          → PostsStandFor d lists_here
          (if seen && (committed || (false && s.epoch == e)) then operations_of o cube es e else [])
          (if seen then operations_of_epoch (run_transactions record_here) e else [])
      at true true stand = stand
      at true false stand = stand
      at false committed stand = no_posts

  pub reader-now : (s : Snapshot) → s.own ≡ false
      → StandForAll d lists_here (rows_of_serial_run o es cube s)
      (rows_in_cube d.name (visible_rows s (run_transactions record_here)))
  reader-now s reads =
      as-seen s (run_transactions record_here) (rows_of_serial_run o es cube s) own-epochs
      (serial-stands d lists_here (s.epoch + 1) (counts_for o es s) (operations_of o cube es) (sees s)
      (operations_of_epoch (run_transactions record_here)) (λ e low. reader-at s reads e))

pub reader-sees : (o : Opening) (given : RunScripts) (later es : List CoreEvent) (cube number : ℕ) (d : Decl)
    (s : Snapshot) → IsScriptedRun o given (later ++ es) → held_by (counters_of_run o es).snapshots number ≡ Some s
    → s.own ≡ false → slice_get (catalog_of (record_of o given (later ++ es))).cubes cube ≡ Some d
    → StandForAll d (lists_at (record_of o given (later ++ es)).names cube) (rows_of_serial_run o es cube s)
    (rows_in_cube d.name (visible_rows s (run_transactions (record_of o given (later ++ es)))))
reader-sees o given later es cube number d s r held reads is =
    subst (λ (rows : List CodedRow). StandForAll d (lists_at (record_of o given (later ++ es)).names cube) rows
    (rows_in_cube d.name (visible_rows s (run_transactions (record_of o given (later ++ es))))))
    (open-rows o later es cube number s r.run held (λ own. absurd (false≢true (sym reads ∙ own))))
    (reader-now o given (later ++ es) r cube d is s reads)

-- ---- inside a transaction

without-own : (k : ℕ) (ts : List Transaction)
    → transactions_of_epoch (filter (λ t. not (t.epoch == k)) ts) k ≡ []
without-own k [] = refl
without-own k (t ∷ ts) = at (t.epoch == k) refl (without-own k ts)
  where
    at : (b : Bool) → (t.epoch == k) ≡ b → transactions_of_epoch (filter (λ t. not (t.epoch == k)) ts) k ≡ []
        → transactions_of_epoch
        (cond (not b) (t ∷ filter (λ t. not (t.epoch == k)) ts) (filter (λ t. not (t.epoch == k)) ts)) k
        ≡ []
    at true is rest = rest
    at false is rest =
        ap (λ (b : Bool). cond b (t ∷ transactions_of_epoch (filter (λ t. not (t.epoch == k)) ts) k)
        (transactions_of_epoch (filter (λ t. not (t.epoch == k)) ts) k)) is
        ∙ rest

without-other : (e k : ℕ) (ts : List Transaction) → e ≢ k
    → transactions_of_epoch (filter (λ t. not (t.epoch == k)) ts) e ≡ transactions_of_epoch ts e
without-other e k [] apart = refl
without-other e k (t ∷ ts) apart = at (t.epoch == k) refl (without-other e k ts apart)
  where
    at : (b : Bool) → (t.epoch == k) ≡ b
        → transactions_of_epoch (filter (λ t. not (t.epoch == k)) ts) e ≡ transactions_of_epoch ts e
        → transactions_of_epoch
        (cond (not b) (t ∷ filter (λ t. not (t.epoch == k)) ts) (filter (λ t. not (t.epoch == k)) ts)) e
        ≡ transactions_of_epoch (t ∷ ts) e
    at true is rest =
        rest
        ∙ sym (ap (λ (b : Bool). cond b (t ∷ transactions_of_epoch ts e) (transactions_of_epoch ts e))
        (ne_eqb t.epoch e (λ same. apart (sym same ∙ eqb-true t.epoch k is))))
    at false is rest =
        ap (λ (xs : List Transaction). cond (t.epoch == e) (t ∷ xs) xs) rest

module _ (o : Opening) (given : RunScripts) (later es : List CoreEvent) (r : IsScriptedRun o given (later ++ es))
    (session statement cube : ℕ) (d : Decl) (s : Snapshot) (is_session : IsSession o session)
    (held : held_by (counters_of_run o es).snapshots session ≡ Some s) (writes : s.own ≡ true)
    (is : slice_get (catalog_of (record_of o given (later ++ es))).cubes cube ≡ Some d) where
  abbrev whole_record : RunRecord
  whole_record = record_of o given (later ++ es)

  abbrev lists_whole : List (List (List ℕ))
  lists_whole = lists_at whole_record.names cube

  abbrev so_far : Transaction
  so_far = transaction_so_far whole_record session (script_of whole_record session) statement s.epoch

  abbrev inside : List Transaction
  inside = transactions_inside whole_record session (script_of whole_record session) statement s.epoch

  now : IsCoreRun o es
  now = run-before o later es r.run

  parts : (e : ℕ) → transactions_of_epoch inside e
      ≡ transactions_of_epoch (filter (λ t. not (t.epoch == s.epoch)) (run_transactions whole_record)) e
      ++ transactions_of_epoch (so_far ∷ []) e
  parts e =
      filter-append (λ (t : Transaction). t.epoch == e)
      (filter (λ t. not (t.epoch == s.epoch)) (run_transactions whole_record)) (so_far ∷ [])

  own-part-is : (e : ℕ) → s.epoch ≡ e → transactions_of_epoch inside e ≡ so_far ∷ []
  own-part-is e same =
      parts e
      ∙ (λ i. (ap (λ (k : ℕ). transactions_of_epoch
      (filter (λ t. not (t.epoch == k)) (run_transactions whole_record)) e) same
      ∙ without-own e (run_transactions whole_record)) i
      ++ cond (eq-eqb s.epoch e same i) (so_far ∷ []) [])

  other-part-is : (e : ℕ) → s.epoch ≢ e
      → transactions_of_epoch inside e ≡ transactions_of_epoch (run_transactions whole_record) e
  other-part-is e apart =
      parts e
      ∙ (λ i. without-other e s.epoch (run_transactions whole_record) (λ same. apart (sym same)) i
      ++ cond (ne_eqb s.epoch e apart i) (so_far ∷ []) [])
      ∙ append-nil (transactions_of_epoch (run_transactions whole_record) e)

  inside-own : AreOfOwnEpochs inside
  inside-own e = elim (eqb_tells s.epoch e) [
    | inl same ↦ (let l = ap length (own-part-is e same.1) in omega (arith, l))
    | inr other ↦ (
        let l = ap length (other-part-is e other.1) in
        let few = own-epochs o given (later ++ es) r cube d is e in
        omega (arith, l, few))
  ]

  writer-own : (e : ℕ) → s.epoch ≡ e
      → PostsStandFor d lists_whole (operations_by_calls o session cube (calls_of session es) s.epoch) so_far.operations
      → StandsAt d lists_whole (counts_for o es s) (operations_of o cube es) (sees s) (operations_of_epoch inside) e
  writer-own e same stand =
      let posts : operations_of o cube es e ≡ operations_by_calls o session cube (calls_of session es) s.epoch =
      ap (operations_of o cube es) (sym same)
      ∙ own-operations o es session s.epoch cube now (held-opened o es session s now is_session held writes)
      in
      let done : operations_of_epoch inside e ≡ so_far.operations =
      ap (flat_map (λ (t : Transaction). t.operations)) (own-part-is e same) ∙ append-nil so_far.operations
      in
      coe 1 0 (i. PostsStandFor d lists_whole
      (if sees s e && (has_committed o es e || (writes i && eq-eqb s.epoch e same i)) then posts i else [])
      (if sees s e then done i else []))
      (at (sees s e) (has_committed o es e))
    where
      at : (seen committed : Bool)
          → PostsStandFor d lists_whole
          (if seen && (committed || true)
          then operations_by_calls o session cube (calls_of session es) s.epoch else [])
          (if seen then so_far.operations else [])
      at true true = stand
      at true false = stand
      at false committed = no_posts

  writer-other : (e : ℕ) → s.epoch ≢ e
      → StandsAt d lists_whole (counts_for o es s) (operations_of o cube es) (sees s) (operations_of_epoch inside) e
  writer-other e apart =
      let done : operations_of_epoch inside e ≡ operations_of_epoch (run_transactions whole_record) e =
      ap (flat_map (λ (t : Transaction). t.operations)) (other-part-is e apart)
      in
      coe 1 0 (i. PostsStandFor d lists_whole
      (if sees s e && (has_committed o es e || (writes i && ne_eqb s.epoch e apart i))
      then operations_of o cube es e else [])
      (if sees s e then done i else []))
      (at (sees s e) refl)
    where
      clear : (b : Bool) → (if b then operations_of o cube es e else [])
          ≡ (if b || false then operations_of o cube es e else [])
      clear true = refl
      clear false = refl

      at : (seen : Bool) → sees s e ≡ seen
          → PostsStandFor d lists_whole
          (if seen && (has_committed o es e || false) then operations_of o cube es e else [])
          (if seen then operations_of_epoch (run_transactions whole_record) e else [])
      at false sure = no_posts
      at true sure =
          let settled = seen-settled o es session e s now held sure (λ own same. apart same) in
          coe 0 1 (i. PostsStandFor d lists_whole
          (((λ j. if commits-stay o later es e r.run settled j then operations-stay o later es cube e r.run settled j
          else [])
          ∙ clear (has_committed o es e)) i)
          (operations_of_epoch (run_transactions whole_record) e))
          (stands-on-record o given (later ++ es) r cube d is e)

  pub writer-sees :
      PostsStandFor d lists_whole (operations_by_calls o session cube (calls_of session es) s.epoch) so_far.operations
      → StandForAll d lists_whole (rows_of_serial_run o es cube s) (rows_in_cube d.name (visible_rows s inside))
  writer-sees stand =
      as-seen o given (later ++ es) r cube d is s inside (rows_of_serial_run o es cube s) inside-own
      (serial-stands d lists_whole (s.epoch + 1) (counts_for o es s) (operations_of o cube es) (sees s)
      (operations_of_epoch inside) (λ e low. elim (eqb_tells s.epoch e) [
        | inl same ↦ writer-own e same.1 stand
        | inr other ↦ writer-other e other.1
      ]))
