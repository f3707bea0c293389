-- The cells of an opened core tell how many shards and sessions it has.
use Rattle.std.proofs.Common.{◌≡◌, ◌∙◌, ℕ, ◌+◌, ◌<◌, ◌≤◌, ◌==◌, Bool, true, false, true≢false, List, [], inl, sym, ap, arith, ne_eqb, if◌then◌else◌}
use Rattle.aosi_desk.specs.Desks.{DeskState}
use Rattle.cube_core.specs.BoardCells.{StandsInCell}
use Rattle.cube_core.proofs.OwnEntries.{client-low}
use Rattle.core_program.specs.Knowing.{IsClientOf, IsSessionOf, IsMailAt, ServesClient}
use Rattle.core_events.specs.Events.{Opening, flush_mail}
use Rattle.core_program.proofs.FlusherCalls.{is-client}
use Rattle.core_program.specs.Flushing.{IsFlusherOf}
use Rattle.core_program.specs.CoreFits.{CoreEntry, OpensCells}
use Rattle.core_program.specs.Workers.{IsWorkerOf}
use Rattle.cube_core.specs.declared.cell.CoreCell.{CoreCell}
use Rattle.cube_core.specs.declared.cell.CoreCell.TheVariants as cell
use Rattle.cube_rounds.specs.Stands.{Kept}
use Rattle.job_groups.specs.AskedEach.{AreShardMails}
use Rattle.linked_shards.specs.CellShards.{CoreShardStands}
use Rattle.linked_shards.specs.declared.cell.CoreShard.{CoreShard}
use Rattle.opened_core.specs.Openings.{AreCellsOver, IsCellOver, OpenOver, opening_over}
use Rattle.shard_events.specs.ShardsInRuns.{FitsShard, ShardAnswerSays}
use Rattle.turn_board.proofs.Places.{there as place-there}

abbrev Opens : Opening → List (CoreCell CoreShard) → List CoreEntry → Type 0
Opens o cells log = OpensCells FitsShard CoreShardStands ShardAnswerSays o cells log

-- The desk tells the sessions.
desk-tells : (kept : Kept) (shards sessions : ℕ) (o : Opening) (x : CoreCell CoreShard) → IsCellOver kept shards sessions 0 x
    → StandsInCell FitsShard CoreShardStands ShardAnswerSays o 0 x [] → o.sessions ≡ sessions
desk-tells kept shards sessions o (cell.Desk desk alloc) is stand = ap (λ (d : DeskState). d.register.sessions) (sym stand.1 ∙ is.1)
desk-tells kept shards sessions o (cell.Names names) is stand = absurd (omega (arith, is.0))
desk-tells kept shards sessions o (cell.Shard s) is stand = absurd (omega (arith, is.1))
desk-tells kept shards sessions o (cell.Mail m) is stand = absurd (omega (arith, is.1))

served : (client sessions : ℕ) (b : Bool) → client ≤ sessions → client < (if b then sessions + 1 else sessions + 2)
served client sessions true low = omega (arith, low)
served client sessions false low = omega (arith, low)

served-of-shard : (client sessions : ℕ) (b : Bool) → client ≤ sessions + 1 → b ≡ false → client < (if b then sessions + 1 else sessions + 2)
served-of-shard client sessions true low other = absurd (true≢false other)
served-of-shard client sessions false low other = omega (arith, low)

module _ (kept : Kept) (shards sessions : ℕ) (cells : List (CoreCell CoreShard)) (over : AreCellsOver kept shards sessions cells) where
  pub sessions-told : (o : Opening) (log : List CoreEntry) → Opens o cells log → o.sessions ≡ sessions
  sessions-told o log opens =
      let long = over.long in
      let first = place-there cells 0 (omega (arith, long)) in
      desk-tells kept shards sessions o first.0 (over.each 0 first.0 first.1) (opens.stand 0 first.0 first.1)

  shards-told : (o : Opening) (log : List CoreEntry) → Opens o cells log → o.shards ≡ shards
  shards-told o log opens = let long = over.long in let also = opens.long in omega (arith, long, also)

  pub mail-is : (number : ℕ) → number ≤ shards → IsMailAt FitsShard CoreShardStands ShardAnswerSays cells number (2 + shards + number)
  mail-is number le = record {
    there = λ o log opens. let same = shards-told o log opens in omega (arith, same, le);
    cell_is = λ o log opens. let same = shards-told o log opens in omega (arith, same);
  }

  pub session-is : (session : ℕ) → 1 ≤ session → session ≤ sessions
      → IsSessionOf FitsShard CoreShardStands ShardAnswerSays cells session
  session-is session some le o log opens =
      let same = sessions-told o log opens in record { first = some; last = omega (arith, same, le) }

  -- A mail serves main and the sessions, and a shard's mail the flusher besides.
  pub serves-low : (client number : ℕ) → client ≤ sessions → ServesClient FitsShard CoreShardStands ShardAnswerSays cells client number
  serves-low client number le o log opens =
      let same = sessions-told o log opens in served client o.sessions (number == flush_mail o) (omega (arith, same, le))

  serves-shard : (client number : ℕ) → client ≤ sessions + 1 → number < shards
      → ServesClient FitsShard CoreShardStands ShardAnswerSays cells client number
  serves-shard client number le lt o log opens =
      let one = sessions-told o log opens in
      let two = shards-told o log opens in
      served-of-shard client o.sessions (number == flush_mail o) (omega (arith, one, le))
      (ne_eqb number (flush_mail o) (λ same. absurd (omega (arith, same, two, lt))))

  pub mails-are : (client : ℕ) → client ≤ sessions + 1 → AreShardMails FitsShard CoreShardStands ShardAnswerSays cells client shards (2 + shards)
  mails-are client le = record {
    each = λ number lt. mail-is number (omega (arith, lt));
    serve = λ number lt. serves-shard client number le lt;
  }

  module _ (opened : OpenOver kept shards sessions cells) where
    pub client-is : (caller : ℕ) → caller ≤ sessions → IsClientOf FitsShard CoreShardStands ShardAnswerSays cells caller caller
    client-is caller le = record {
      opening = λ log. (opening_over kept shards sessions log, opened log);
      acts = λ o log opens. inl (low o log opens);
      client_is = λ o log opens. sym (client-low o caller (low o log opens));
    } where
      low : (o : Opening) (log : List CoreEntry) → Opens o cells log → caller ≤ o.sessions
      low o log opens = let same = sessions-told o log opens in omega (arith, same, le)

    pub worker-is : (number : ℕ) → number < shards
        → IsWorkerOf FitsShard CoreShardStands ShardAnswerSays cells (sessions + 1 + number) number (2 + shards + number)
    worker-is number lt = record {
      opening = λ log. (opening_over kept shards sessions log, opened log);
      there = λ o log opens. let same = shards-told o log opens in omega (arith, same, lt);
      own = λ o log opens. let same = sessions-told o log opens in omega (arith, same);
      mail = λ o log opens. let same = shards-told o log opens in omega (arith, same);
    }

    pub flusher-is : IsFlusherOf FitsShard CoreShardStands ShardAnswerSays cells (sessions + 1 + shards) (sessions + 1) shards
    flusher-is = record {
      opening = λ log. (opening_over kept shards sessions log, opened log);
      own = λ o log opens. let one = sessions-told o log opens in let two = shards-told o log opens in omega (arith, one, two);
      client_is = λ o log opens. let one = sessions-told o log opens in omega (arith, one);
      mail_is = λ o log opens. let two = shards-told o log opens in omega (arith, two);
    }

    pub flusher-client : IsClientOf FitsShard CoreShardStands ShardAnswerSays cells (sessions + 1 + shards) (sessions + 1)
    flusher-client = is-client FitsShard CoreShardStands ShardAnswerSays cells (sessions + 1 + shards) (sessions + 1) shards flusher-is
