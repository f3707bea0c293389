use Rattle.std.proofs.Common.{◌≡◌, ◌∙◌, ◌+◌, ◌-◌, ℕ, List, All, IfOk, length}
use Rattle.core_names.specs.CoreEncoders.{MayAskForCodes}
use Rattle.core_names.specs.KnownNumbers.{HasToldNumber}
use Rattle.core_program.specs.Knowing.{IsClientOf}
use Rattle.core_states.specs.LeftBehind.{AsksForNone, GoOnByCalls}
use Rattle.cube_core.specs.declared.cell.CoreCell.{CoreCell}
use Rattle.job_groups.specs.AskedEach.{AreShardMails}
use Rattle.linked_shards.specs.CellShards.{CoreShardStands}
use Rattle.linked_shards.specs.declared.cell.CoreShard.{CoreShard}
use Rattle.posted_pasts.specs.PostsAdded.{AddsNoOperation, LearnsThat}
use Rattle.row_encoding.specs.CodedInserts.{HasCoords, HasNumbers}
use Rattle.session_batches.specs.RowsOut.{HoldsRowsOut, HoldsSomeRowsOut}
use Rattle.shard_events.specs.ShardsInRuns.{FitsShard, ShardAnswerSays}
use Rattle.loaded_batches.specs.LoadFronts.{IsAfterReading, TakesInTheEnd}
use Rattle.loaded_batches.specs.LoadTexts.{HasAskedForSuch}
use Rattle.loaded_batches.specs.LoadingCalls.{GoesOnLoading}
use Rattle.loaded_batches.proofs.AddedBatches.{names-then-none}
use Rattle.loaded_batches.proofs.HeldWriters.{open-after-put, out-by-names}
use Rattle.loaded_batches.proofs.LoadingMoments.{loading-both, loading-by-names}
use Rattle.loaded_batches.proofs.LookedAtTexts.{such-by-entries, such-of, such-then-none}
use Rattle.loaded_batches.proofs.ReadBeside.{held-after, read-by, read-ended, told-still, width-still}
use Rattle.loaded_batches.proofs.RestOfRecords.{more-by-names}
use Rattle.loaded_batches.proofs.ToldRows.{may-ask-still}
use Rattle.loaded_batches.proofs.TurnsOfCallers.{before-of, now-of}
use Rattle.loaded_batches.proofs.beside.read_beside.Goals as goal

pub fetch_told-put-requires-clause-client : goal.fetch_told-put-requires-clause-client
fetch_told-put-requires-clause-client g c = c.load_rows_by_caller-ended.ensures.may.client

pub fetch_told-put-requires-clause-mails : goal.fetch_told-put-requires-clause-mails
fetch_told-put-requires-clause-mails g c =
    let e = c.load_rows_by_caller-ended.ensures in
    now-of (λ (cs : List (CoreCell CoreShard)) (n : ℕ).
    AreShardMails FitsShard CoreShardStands ShardAnswerSays cs c.args.session c.args.size.now.shards
    (2 + c.args.size.now.shards)) e.opening e.number c.requires.mails

pub fetch_told-put-requires-clause-waits : goal.fetch_told-put-requires-clause-waits
fetch_told-put-requires-clause-waits g c =
    let opening = g.P.CellCaller.opening in
    let number = g.P.CellCaller.number in
    let own = g.P.CellCaller.own in
    let cells = opening c.args.caller.now in
    let caller = number c.args.caller.now in
    let e = c.load_rows_by_caller-ended.ensures in
    let mid = c.load_rows_by_caller-ended.new in
    let acts = before-of (λ (cs : List (CoreCell CoreShard)) (n : ℕ).
    IsClientOf FitsShard CoreShardStands ShardAnswerSays cs n c.args.session) e.opening e.number e.may.client in
    now-of (λ (cs : List (CoreCell CoreShard)) (n : ℕ).
    HoldsSomeRowsOut cs n c.args.session (own mid.caller) c.args.out.shards.items) e.opening e.number
    (record {
      writer = c.requires.waits.writer;
      holds =
          out-by-names cells caller c.args.session acts c.requires.waits.writer c.args.out.shards.items
          (own c.args.caller.now) (own mid.caller) e.asks c.requires.waits.holds;
    })

pub returns-clause-goes : goal.returns-clause-goes
returns-clause-goes g c = λ epoch.
    let opening = g.P.CellCaller.opening in
    let number = g.P.CellCaller.number in
    let own = g.P.CellCaller.own in
    let cells = opening c.args.caller.now in
    let caller = number c.args.caller.now in
    let e = c.load_rows_by_caller-ended.ensures in
    let mid = c.load_rows_by_caller-ended.new in
    let acts = before-of (λ (cs : List (CoreCell CoreShard)) (n : ℕ).
    IsClientOf FitsShard CoreShardStands ShardAnswerSays cs n c.args.session) e.opening e.number e.may.client in
    let f = c.fetch_told-put.ensures in
    let now = own c.fetch_told-put.new.caller in
    loading-both cells caller c.args.session c.args.place epoch (own c.args.caller.now) (own mid.caller) now
    (loading-by-names cells caller c.args.session c.args.place epoch acts (own c.args.caller.now) (own mid.caller) e.asks)
    (before-of (λ (cs : List (CoreCell CoreShard)) (n : ℕ).
    GoesOnLoading cs n c.args.session c.args.place epoch (own mid.caller) now) e.opening e.number
    (f.goes c.args.place epoch))

pub returns-clause-asked : goal.returns-clause-asked
returns-clause-asked g c =
    let opening = g.P.CellCaller.opening in
    let number = g.P.CellCaller.number in
    let own = g.P.CellCaller.own in
    let cells = opening c.args.caller.now in
    let caller = number c.args.caller.now in
    let e = c.load_rows_by_caller-ended.ensures in
    let mid = c.load_rows_by_caller-ended.new in
    let acts = before-of (λ (cs : List (CoreCell CoreShard)) (n : ℕ).
    IsClientOf FitsShard CoreShardStands ShardAnswerSays cs n c.args.session) e.opening e.number e.may.client in
    let f = c.fetch_told-put.ensures in
    let now = own c.fetch_told-put.new.caller in
    let left = c.args.allowed - c.args.bad.now.count in
    let asked = before-of (λ (cs : List (CoreCell CoreShard)) (n : ℕ).
    HasAskedForSuch cs n c.args.place c.args.cube.now left c.args.load.now (own c.args.caller.now) (own mid.caller))
    e.opening e.number
    (λ p k t has. such-of (opening mid.caller) (number mid.caller) c.args.place c.args.cube.now left c.args.load.now
    (own c.args.caller.now) (own mid.caller) p k t (e.asked p k t has)) in
    let first = such-by-entries cells caller c.args.place c.args.cube.now left c.args.session c.args.load.now
    (own c.args.caller.now) (own mid.caller) acts
    (more-by-names caller (own c.args.caller.now) (own mid.caller) e.asks) asked in
    such-then-none cells caller c.args.place c.args.cube.now left c.args.session c.args.load.now (own c.args.caller.now)
    (own mid.caller) now (f.goes c.args.place 0).more first
    (before-of (λ (cs : List (CoreCell CoreShard)) (n : ℕ).
    GoOnByCalls FitsShard CoreShardStands ShardAnswerSays cs n c.args.session AsksForNone (own mid.caller) now)
    e.opening e.number f.none)

pub returns-clause-adds : goal.returns-clause-adds
returns-clause-adds g c =
    let opening = g.P.CellCaller.opening in
    let number = g.P.CellCaller.number in
    let own = g.P.CellCaller.own in
    let cells = opening c.args.caller.now in
    let caller = number c.args.caller.now in
    let e = c.load_rows_by_caller-ended.ensures in
    let mid = c.load_rows_by_caller-ended.new in
    let acts = before-of (λ (cs : List (CoreCell CoreShard)) (n : ℕ).
    IsClientOf FitsShard CoreShardStands ShardAnswerSays cs n c.args.session) e.opening e.number e.may.client in
    let f = c.fetch_told-put.ensures in
    let now = own c.fetch_told-put.new.caller in
    names-then-none cells caller c.args.session c.args.place 0 acts (own c.args.caller.now) (own mid.caller) now
    (f.goes c.args.place 0).more e.asks
    (before-of (λ (cs : List (CoreCell CoreShard)) (n : ℕ).
    LearnsThat FitsShard CoreShardStands ShardAnswerSays AddsNoOperation cs n c.args.session (own mid.caller) now)
    e.opening e.number f.adds)

pub returns-clause-may : goal.returns-clause-may
returns-clause-may g c =
    let opening = g.P.CellCaller.opening in
    let number = g.P.CellCaller.number in
    let own = g.P.CellCaller.own in
    let cells = opening c.args.caller.now in
    let caller = number c.args.caller.now in
    let e = c.load_rows_by_caller-ended.ensures in
    let mid = c.load_rows_by_caller-ended.new in
    let acts = before-of (λ (cs : List (CoreCell CoreShard)) (n : ℕ).
    IsClientOf FitsShard CoreShardStands ShardAnswerSays cs n c.args.session) e.opening e.number e.may.client in
    let f = c.fetch_told-put.ensures in
    let now = own c.fetch_told-put.new.caller in
    now-of (λ (cs : List (CoreCell CoreShard)) (n : ℕ).
    MayAskForCodes FitsShard CoreShardStands ShardAnswerSays cs n now c.args.session mid.known c.args.place
    c.args.cube.now) f.opening f.number
    (may-ask-still (opening mid.caller) (number mid.caller) c.args.session c.args.place (own mid.caller) now
    c.args.cube.now mid.known (f.goes c.args.place 0).more e.may)

pub returns-clause-open : goal.returns-clause-open
returns-clause-open g c = λ writer holds.
    let opening = g.P.CellCaller.opening in
    let number = g.P.CellCaller.number in
    let own = g.P.CellCaller.own in
    let cells = opening c.args.caller.now in
    let caller = number c.args.caller.now in
    let e = c.load_rows_by_caller-ended.ensures in
    let mid = c.load_rows_by_caller-ended.new in
    let acts = before-of (λ (cs : List (CoreCell CoreShard)) (n : ℕ).
    IsClientOf FitsShard CoreShardStands ShardAnswerSays cs n c.args.session) e.opening e.number e.may.client in
    let f = c.fetch_told-put.ensures in
    let now = own c.fetch_told-put.new.caller in
    let out = now-of (λ (cs : List (CoreCell CoreShard)) (n : ℕ).
    HoldsRowsOut cs n c.args.session (own mid.caller) writer c.args.out.shards.items) e.opening e.number
    (out-by-names cells caller c.args.session acts writer c.args.out.shards.items (own c.args.caller.now)
    (own mid.caller) e.asks holds) in
    open-after-put (opening c.fetch_told-put.new.caller) (number c.fetch_told-put.new.caller) c.args.session now writer
    c.fetch_told-put.result (f.holds writer out)

pub returns-clause-holds : goal.returns-clause-holds
returns-clause-holds g c = λ writer holds.
    let opening = g.P.CellCaller.opening in
    let number = g.P.CellCaller.number in
    let own = g.P.CellCaller.own in
    let cells = opening c.args.caller.now in
    let caller = number c.args.caller.now in
    let e = c.load_rows_by_caller-ended.ensures in
    let mid = c.load_rows_by_caller-ended.new in
    let acts = before-of (λ (cs : List (CoreCell CoreShard)) (n : ℕ).
    IsClientOf FitsShard CoreShardStands ShardAnswerSays cs n c.args.session) e.opening e.number e.may.client in
    let f = c.fetch_told-put.ensures in
    let now = own c.fetch_told-put.new.caller in
    let out = now-of (λ (cs : List (CoreCell CoreShard)) (n : ℕ).
    HoldsRowsOut cs n c.args.session (own mid.caller) writer c.args.out.shards.items) e.opening e.number
    (out-by-names cells caller c.args.session acts writer c.args.out.shards.items (own c.args.caller.now)
    (own mid.caller) e.asks holds) in
    held-after (opening c.fetch_told-put.new.caller) (number c.fetch_told-put.new.caller) c.args.session now writer
    c.load_rows_by_caller-ended.result c.fetch_told-put.result c.reading_so.result c.reading_so.ensures (f.holds writer out)

pub returns-clause-inside : goal.returns-clause-inside
returns-clause-inside g c =
    read-ended (All (HasCoords c.args.cube.now) c.load_rows_by_caller-ended.new.batch.rows) c.load_rows_by_caller-ended.result
    c.fetch_told-put.result c.reading_so.result c.reading_so.ensures c.load_rows_by_caller-ended.ensures.inside

pub returns-clause-told : goal.returns-clause-told
returns-clause-told g c =
    let opening = g.P.CellCaller.opening in
    let number = g.P.CellCaller.number in
    let own = g.P.CellCaller.own in
    let cells = opening c.args.caller.now in
    let caller = number c.args.caller.now in
    let e = c.load_rows_by_caller-ended.ensures in
    let mid = c.load_rows_by_caller-ended.new in
    let acts = before-of (λ (cs : List (CoreCell CoreShard)) (n : ℕ).
    IsClientOf FitsShard CoreShardStands ShardAnswerSays cs n c.args.session) e.opening e.number e.may.client in
    let f = c.fetch_told-put.ensures in
    let now = own c.fetch_told-put.new.caller in
    let rows = mid.batch.rows in
    told-still c.args.place (own mid.caller) now c.args.cube.now rows (f.goes c.args.place 0).more c.reading_so.result
    (read-ended (All (HasNumbers (HasToldNumber (own mid.caller) c.args.place) c.args.cube.now) rows)
    c.load_rows_by_caller-ended.result c.fetch_told-put.result c.reading_so.result c.reading_so.ensures e.told)

pub returns-clause-width : goal.returns-clause-width
returns-clause-width g c =
    width-still c.load_rows_by_caller-ended.new.batch.width c.args.batch.now.width (length c.args.cube.now.metrics)
    c.reading_so.result c.requires.width
    (read-ended (c.load_rows_by_caller-ended.new.batch.width ≡ c.args.batch.now.width) c.load_rows_by_caller-ended.result
    c.fetch_told-put.result c.reading_so.result c.reading_so.ensures c.load_rows_by_caller-ended.ensures.width)

pub returns-clause-read : goal.returns-clause-read
returns-clause-read g c =
    let opening = g.P.CellCaller.opening in
    let number = g.P.CellCaller.number in
    let own = g.P.CellCaller.own in
    let cells = opening c.args.caller.now in
    let caller = number c.args.caller.now in
    let e = c.load_rows_by_caller-ended.ensures in
    let mid = c.load_rows_by_caller-ended.new in
    let acts = before-of (λ (cs : List (CoreCell CoreShard)) (n : ℕ).
    IsClientOf FitsShard CoreShardStands ShardAnswerSays cs n c.args.session) e.opening e.number e.may.client in
    let f = c.fetch_told-put.ensures in
    let now = own c.fetch_told-put.new.caller in
    now-of (λ (cs : List (CoreCell CoreShard)) (n : ℕ).
    IfOk c.reading_so.result (IsAfterReading cs n c.args.place c.args.cube.now c.args.allowed now c.args.load.now mid.load
    c.args.bad.now mid.bad mid.batch.rows)) (f.opening ∙ e.opening) (f.number ∙ e.number)
    (read-by cells caller c.args.place c.args.cube.now c.args.allowed (own mid.caller) now (f.goes c.args.place 0).more
    c.args.load.now mid.load c.args.bad.now mid.bad mid.batch.rows c.load_rows_by_caller-ended.result c.fetch_told-put.result
    c.reading_so.result c.reading_so.ensures e.goes_on e.counted e.ended
    (before-of (λ (cs : List (CoreCell CoreShard)) (n : ℕ).
    IfOk c.load_rows_by_caller-ended.result (λ ended. TakesInTheEnd cs n c.args.place c.args.cube.now c.args.allowed
    (own mid.caller) c.args.load.now mid.load c.args.bad.now mid.bad mid.batch.rows ended)) e.opening e.number e.batch))
