-- A session may put the rows of a batch on their shards, and what it then knows.
use Rattle.std.proofs.Common.{◌≡◌, ◌∙◌, ℕ, zero, suc, ◌<◌, ◌≤◌, ◌%◌, Bool, true, false, cond, List, [], ◌∷◌, All, filter, length, refl, sym, ap, subst, arith}
use Rattle.std.proofs.lemmas.Bool.{eqb-true}
use Rattle.std.specs.List.{list_any}
use Rattle.cube_values.specs.Batches.{Batch}
use Rattle.cube_values.specs.declared.row.CodedRow.{CodedRow}
use Rattle.cube_values.specs.declared.shape.CubeShape.{CubeShape}
use Rattle.cube_values.specs.declared.snapshot.Snapshot.{Snapshot}
use Rattle.brick_address.specs.Addresses.{AreCoords, brick_of}
use Rattle.brick_map.specs.Batches.{IsRowOfCube}
use Rattle.cube_core.specs.Links.{AreEventsOf}
use Rattle.cube_core.specs.BoardCells.{IsEntryEvent}
use Rattle.core_events.specs.Clients.{ClientState, calls_of, state_from_calls}
use Rattle.core_events.specs.Events.{Opening, ClientCall, CoreEvent, IsSession}
use Rattle.core_events.specs.Fitting.{AreToldNames, MayPutRow}
use Rattle.core_events.specs.Groups.{GroupKind, JobGroup, Puts, has_refusal}
use Rattle.core_events.specs.Jobs.{Append, JobOutcome, is_refusal}
use Rattle.core_program.specs.CoreFits.{CoreEntry}
use Rattle.cube_core.specs.declared.jobs.JobAnswer.{JobAnswer}
use Rattle.cube_core.specs.declared.shard.ShardCall.{ShardCall}
use Rattle.cube_core.specs.declared.shard.ShardCall.TheVariants as shard
use Rattle.job_groups.specs.AskedEach.{with_group}
use Rattle.job_groups.specs.AskedSome.{HasAskedSome, MayAskNumbered, MayAskSome, group_of_some, posts_to, received_from}
use Rattle.session_snapshots.specs.KnownHolds.{KnowsState}
use Rattle.cube_core.specs.declared.cell.CoreCell.{CoreCell}
use Rattle.linked_shards.specs.declared.cell.CoreShard.{CoreShard}
use Rattle.linked_shards.specs.CellShards.{CoreShardStands}
use Rattle.cube_core.specs.GroupEnds.{HasWritten, MayBeginBy}
use Rattle.cube_core.specs.HoldStates.{HasSpoiledWrite, IsWriting}
use Rattle.shard_batches.specs.ShardBatches.{AreShardBatches, batch_at, is_of_shard, rows_of_shard}
use Rattle.shard_events.specs.ShardsInRuns.{FitsShard, IsRowOfShard, ShardAnswerSays}
use Rattle.session_batches.proofs.Appending.{call-at, kind-of-all}
use Rattle.session_batches.proofs.Refusing.{refusals-alike, refused-any}
use Rattle.session_batches.specs.BatchCalls.{AreAppends, append_calls, numbers_with_rows}
use Rattle.session_batches.specs.PutRows.{HasPut, HoldsAfterPut, MayPutRows, with_answers}
use Rattle.session_batches.specs.Refusals.{first_refusal, is_refused, put_by_answer, put_by_outcome}
use Rattle.session_batches.specs.declared.answers.PutEnd.{PutEnd}
use Rattle.session_batches.specs.declared.answers.PutEnd.TheVariants as put

filtered-with : (Q : CodedRow → Type 0) (t : Bool) (row : CodedRow) (rows : List CodedRow) → (t ≡ true → Q row)
    → All Q rows
    → All Q (cond t (row ∷ rows) rows)
filtered-with Q true row rows is all zero d low = is refl
filtered-with Q true row rows is all (suc k) d low = all k d (omega (arith, low))
filtered-with Q false row rows is all k d low = all k d low

filtered : (P Q : CodedRow → Type 0) (p : CodedRow → Bool) → ((row : CodedRow) → p row ≡ true → P row → Q row)
    → (rows : List CodedRow)
    → All P rows → All Q (filter p rows)
filtered P Q p gives [] all = λ k d low. absurd (omega (arith, low))
filtered P Q p gives (row ∷ rows) all =
    filtered-with Q (p row) row (filter p rows) (λ is. gives row is (all 0 row (omega arith)))
    (filtered P Q p gives rows (λ k d low. all (suc k) d (omega (arith, low))))

-- A row of the cube whose names were told.
record IsKnownRow (o : Opening) (cube : ℕ) (shape : CubeShape) (k : ClientState) (row : CodedRow) : Type 0 where
  of_cube : IsRowOfCube shape row
  named : AreToldNames o cube k row.coords

-- A session goes on to write, or has spoiled its write.
abbrev pub IsLeftBy : PutEnd → Opening → ℕ → Snapshot → ClientState → Type 0
IsLeftBy put.Done o session writer k = IsWriting o session writer k
IsLeftBy p o session writer k = HasSpoiledWrite o session writer k

pub holds-after : (cells : List (CoreCell CoreShard)) (caller session : ℕ) (own : List CoreEntry)
    (writer : Snapshot) (told : PutEnd)
    → KnowsState FitsShard CoreShardStands ShardAnswerSays cells caller session own
    (λ o k. IsLeftBy told o session writer k)
    → HoldsAfterPut cells caller session own writer told
holds-after cells caller session own writer put.Done knows = knows
holds-after cells caller session own writer (put.ShardFull n rows) knows = knows
holds-after cells caller session own writer (put.OutOfMemory n) knows = knows

abbrev pub WrittenLaw : Type 0
WrittenLaw = (o : Opening) (a : ℕ) (s : Snapshot) (k : ClientState) (kind : GroupKind) (g : JobGroup)
    → IsWriting o a s k
    → HasWritten o.shards kind g → has_refusal g.answers ≡ false → IsWriting o a s (record k { group = g })

abbrev pub SpoiledLaw : Type 0
SpoiledLaw = (o : Opening) (a : ℕ) (s : Snapshot) (k : ClientState) (kind : GroupKind) (g : JobGroup)
    → IsWriting o a s k
    → HasWritten o.shards kind g → has_refusal g.answers ≡ true → HasSpoiledWrite o a s (record k { group = g })

abbrev pub RefusedLaw : Type 0
RefusedLaw = (numbers : List ℕ) (calls : List ShardCall) (outcomes : List JobOutcome)
    → length outcomes ≡ length numbers
    → has_refusal (group_of_some numbers calls outcomes).answers ≡ list_any is_refusal outcomes

module _ (o : Opening) (session : ℕ) (writer : Snapshot) where
  by-told : (told : PutEnd) (k : ClientState) → (is_refused told ≡ false → IsWriting o session writer k)
      → (is_refused told ≡ true → HasSpoiledWrite o session writer k) → IsLeftBy told o session writer k
  by-told put.Done k ok bad = ok refl
  by-told (put.ShardFull n rows) k ok bad = bad refl
  by-told (put.OutOfMemory n) k ok bad = bad refl

  pub left-with : (refused : RefusedLaw) (written : WrittenLaw) (spoiled : SpoiledLaw) (numbers : List ℕ)
      (outcomes : List JobOutcome) (told : PutEnd) (k : ClientState)
      → length outcomes ≡ length numbers → told ≡ first_refusal put_by_outcome numbers outcomes
      → IsWriting o session writer k
      → IsLeftBy told o session writer (with_answers numbers outcomes k)
  left-with refused written spoiled [] outcomes told k each tells writes =
      subst (λ (p : PutEnd). IsLeftBy p o session writer k) (sym tells) writes
  left-with refused written spoiled (n ∷ numbers) outcomes told k each tells writes =
      let g : JobGroup = record { kind = Puts; waits = []; answers = received_from (n ∷ numbers) outcomes [] } in
      let same : has_refusal g.answers ≡ is_refused told =
      refused (n ∷ numbers) [] outcomes each ∙ sym (ap is_refused tells ∙ refused-any (n ∷ numbers) outcomes each) in
      by-told told (with_group g k)
      (λ ok. written o session writer k Puts g writes (record { kind_is = refl; none_out = refl }) (same ∙ ok))
      (λ bad. spoiled o session writer k Puts g writes (record { kind_is = refl; none_out = refl }) (same ∙ bad))

module _ (o : Opening) (session shards cube : ℕ) (shape : CubeShape) (writer : Snapshot) where
  abbrev PutsLaw : Type 0
  PutsLaw = (o : Opening) (a mail cube : ℕ) (rows : List CodedRow) (s : Snapshot) (k : ClientState) → IsSession o a
      → IsWriting o a s k → cube < k.cubes → All (MayPutRow o cube mail k) rows
      → MayBeginBy o a mail (Append cube s.epoch rows) k

  -- The rows of a shard may be put there.
  rows-fit : (past : List ClientCall) (rows : List CodedRow) (n : ℕ) → All (IsRowOfCube shape) rows
      → MayPutRows session shards cube shape rows o past
      → All (MayPutRow o cube n (state_from_calls o session past)) (rows_of_shard shape.shape.sizes shards n rows)
  rows-fit past rows n of_cube may =
      let k = state_from_calls o session past in
      filtered (IsKnownRow o cube shape k) (MayPutRow o cube n k) (is_of_shard shape.shape.sizes shards n)
      (λ row is known. record {
        coords = subst (λ (s : CubeShape). AreCoords s.shape.sizes row.coords) may.of_run.same known.of_cube.coords;
        of_shard = sym (ap (λ (s : CubeShape). brick_of s.shape.sizes row.coords % o.shards) may.of_run.same)
            ∙ ap (λ (m : ℕ). brick_of shape.shape.sizes row.coords % m) (sym may.of_core)
            ∙ eqb-true (brick_of shape.shape.sizes row.coords % shards) n is;
        metrics = known.of_cube.metrics ∙ ap (λ (s : CubeShape). s.metrics) may.of_run.same;
        names = known.named;
      }) rows (λ j d low. record { of_cube = of_cube j d low; named = may.names j d low })

  shard-fits : (rows : List CodedRow) (n : ℕ) (past : List ClientCall)
      → MayPutRows session shards cube shape rows o past
      → All (IsRowOfShard o n shape) (rows_of_shard shape.shape.sizes shards n rows)
  shard-fits rows n past may =
      filtered (λ row. Unit {0}) (IsRowOfShard o n shape) (is_of_shard shape.shape.sizes shards n)
      (λ row is known. ap (λ (m : ℕ). brick_of shape.shape.sizes row.coords % m) (sym may.of_core)
      ∙ eqb-true (brick_of shape.shape.sizes row.coords % shards) n is) rows (λ j d low. tt)

  -- It may ask the shards that have some of the rows.
  pub may-ask : (law : PutsLaw) (whole : Batch) (bs : List Batch) (past : List ClientCall)
      → AreShardBatches shape.shape.sizes shards whole bs → All (IsRowOfCube shape) whole.rows
      → IsSession o session
      → IsWriting o session writer (state_from_calls o session past)
      → MayPutRows session shards cube shape whole.rows o past
      → MayAskSome FitsShard session (numbers_with_rows 0 bs) (append_calls cube shape writer.epoch bs) o past
  may-ask law whole bs past are of_cube by writes may =
      let k = state_from_calls o session past in
      record {
        ended = (law o session 0 cube [] writer k by writes may.there
            (λ j d low. absurd (omega (arith, low)))).ended;
        each = λ n number c at is.
            let of = call-at cube shape writer.epoch bs 0 number n c at is in
            let place = of.place in
            let low = of.low in
            let same = of.at in
            let each = are.each in
            let core = may.of_core in
            let there : place < shards = omega (arith, low, each) in
            let batch = batch_at bs place in
            let split = are.of_shard place there in
            let begin = law o session place cube batch.rows writer k by writes may.there
            (subst (λ (l : List CodedRow). All (MayPutRow o cube place k) l) (sym split.rows)
            (rows-fit past whole.rows place of_cube may)) in
            let number-is : place ≡ number = omega (arith, same) in
            subst (λ (d : ShardCall). MayAskNumbered FitsShard session o past number d) (sym of.is)
            (subst (λ (m : ℕ). MayAskNumbered FitsShard session o past m
            (shard.Append cube shape writer.epoch batch)) number-is
            (record {
              there = omega (arith, there, core);
              ask = record {
                suits = record {
                  of_run = may.of_run;
                  of_cube = subst (λ (l : List CodedRow). All (IsRowOfCube shape) l) (sym split.rows)
                      (filtered (IsRowOfCube shape) (IsRowOfCube shape) (is_of_shard shape.shape.sizes shards place)
                      (λ row is known. known) whole.rows of_cube);
                  of_shard = subst (λ (l : List CodedRow). All (IsRowOfShard o place shape) l) (sym split.rows)
                      (shard-fits whole.rows place past may);
                };
                bears = λ g. begin.bears g;
                begins = begin.begins;
              };
            }));
      }

  -- It goes on to write, or has spoiled its write.
  pub left-by : (refused : RefusedLaw) (written : WrittenLaw) (spoiled : SpoiledLaw) (numbers : List ℕ)
      (posts : List ClientCall) (told : PutEnd) (own : List CoreEntry)
      (es : List CoreEvent) → (h : HasPut numbers posts told o session own es)
      → IsWriting o session writer (state_from_calls o session (calls_of session h.before))
      → IsLeftBy told o session writer (state_from_calls o session (calls_of session es))
  left-by refused written spoiled numbers posts told own es h writes =
      subst (λ (k : ClientState). IsLeftBy told o session writer k) (sym h.group)
      (left-with o session writer refused written spoiled numbers h.outcomes told
      (state_from_calls o session (calls_of session h.before)) h.each h.tells writes)

-- Without appends nothing was put.
pub none-put : (o : Opening) (session : ℕ) (numbers : List ℕ) (calls : List ShardCall) (own : List CoreEntry)
    (es : List CoreEvent)
    → length numbers ≡ 0 → AreEventsOf (IsEntryEvent FitsShard CoreShardStands ShardAnswerSays o) own es
    → HasPut numbers (posts_to numbers calls) put.Done o session own es
none-put o session (n ∷ numbers) calls own es none events = absurd (omega (arith, none))
none-put o session [] calls own es none events = record {
  before = es;
  events = events;
  added = [];
  whole = refl;
  past = refl;
  only = tt;
  posted = refl;
  outcomes = [];
  each = refl;
  tells = refl;
  group = refl;
}

with-group : (numbers : List ℕ) (calls : List ShardCall) (outcomes : List JobOutcome) (k : ClientState)
    → length calls ≡ length numbers
    → 1 ≤ length numbers → AreAppends calls
    → with_group (group_of_some numbers calls outcomes) k ≡ with_answers numbers outcomes k
with-group [] calls outcomes k each some are = absurd (omega (arith, some))
with-group (n ∷ numbers) calls outcomes k each some are =
    ap (λ (kind : GroupKind). with_group
    (record { kind = kind; waits = []; answers = received_from (n ∷ numbers) outcomes [] }) k)
    (kind-of-all calls (omega (arith, each)) are)

-- The shards that were asked have their rows or refused them.
pub some-put : (o : Opening) (session : ℕ) (numbers : List ℕ) (calls : List ShardCall) (answers : List JobAnswer)
    (own : List CoreEntry)
    (es : List CoreEvent) → length calls ≡ length numbers → length answers ≡ length numbers → 1 ≤ length numbers
    → AreAppends calls
    → HasAskedSome FitsShard CoreShardStands ShardAnswerSays numbers calls o session answers own es
    → HasPut numbers (posts_to numbers calls) (first_refusal put_by_answer numbers answers) o session own es
some-put o session numbers calls answers own es cs said_all some are asked =
    let h = asked.asked in record {
      before = h.before;
      events = h.events;
      added = h.added;
      whole = h.whole;
      past = h.past;
      only = h.only;
      posted = asked.posts;
      outcomes = h.outcomes;
      each = h.each ∙ cs;
      tells = refusals-alike numbers calls answers h.outcomes cs said_all (h.each ∙ cs) are h.stand;
      group = h.group ∙ with-group numbers calls h.outcomes (state_from_calls o session (calls_of session h.before))
          cs some are;
    }
