use Rattle.std.proofs.Common.{◌+◌, sym, arith}
use Rattle.core_states.proofs.LeftCalls.{longer-front}
use Rattle.core_watches.proofs.EndedWatches.{none-found, watch-done, watch-refused}
use Rattle.core_watches.specs.KeptWatches.{HoldersHold}
use Rattle.kept_holders.proofs.LeftHolders.{holders-left, of-statement-are-own}
use Rattle.linked_shards.specs.CellShards.{CoreShardStands}
use Rattle.scripted_pasts.specs.Served.{IsServed}
use Rattle.shard_events.specs.ShardsInRuns.{FitsShard, ShardAnswerSays}
use Rattle.watch_holds.specs.HolderStates.{NoReader}
use Rattle.core_watches.proofs.watching.set_watch.Goals as goal

pub find_named-requires-clause-client : goal.find_named-requires-clause-client
find_named-requires-clause-client g c = c.requires.served.client

pub find_named-requires-clause-session : goal.find_named-requires-clause-session
find_named-requires-clause-session g c = c.requires.served.is_session

pub watch_found-requires-clause-number : goal.watch_found-requires-clause-number
watch_found-requires-clause-number g c =
    let few = c.requires.number in
    let same = c.find_named.ensures.more.number in
    omega (arith, few, same)

pub watch_found-requires-clause-served : goal.watch_found-requires-clause-served
watch_found-requires-clause-served g c =
    let did = c.find_named.ensures in
    coe 1 0 (i. IsServed (did.opening i) (did.number i) (did.more.number i) c.args.size.now.shards) c.requires.served

pub watch_found-requires-clause-none : goal.watch_found-requires-clause-none
watch_found-requires-clause-none g c =
    let did = c.find_named.ensures in
    let own = g.P.CellCaller.own in
    let before = c.args.caller.now in
    let cells = g.P.CellCaller.opening before in
    let caller = g.P.CellCaller.number before in
    let old = c.args.session.now in
    let mid = own c.find_named.new.caller in
    coe 1 0 (i. HoldersHold (did.opening i) (did.number i) (did.more.number i) mid NoReader)
    (holders-left FitsShard CoreShardStands ShardAnswerSays cells caller old.number (own before) mid did.goes_on
    (of-statement-are-own FitsShard CoreShardStands ShardAnswerSays cells caller old.number (old.statements + 1)
    c.args.statement (own before) mid did.calls) NoReader c.requires.none)

pub watch_found-requires-clause-told : goal.watch_found-requires-clause-told
watch_found-requires-clause-told g c = (c.in-Some.name.now, sym c.in-Some.ensures, c.in-Ok.ensures.told)

pub returns-in-Ok-clause-prefix : goal.returns-in-Ok-clause-prefix
returns-in-Ok-clause-prefix g c =
    let own = g.P.CellCaller.own in
    longer-front (own c.args.caller.now) (own c.find_named.new.caller) (own c.watch_found.new.caller)
    c.find_named.ensures.goes_on c.watch_found.ensures.prefix

pub returns-in-Ok-clause-done : goal.returns-in-Ok-clause-done
returns-in-Ok-clause-done g c =
    let did = c.find_named.ensures in
    let opening = g.P.CellCaller.opening in
    let number = g.P.CellCaller.number in
    let own = g.P.CellCaller.own in
    let before = c.args.caller.now in
    let mid = c.find_named.new.caller in
    let now = own c.watch_found.new.caller in
    let cube = c.in-Ok.found in
    watch-done (opening before) (opening mid) (number before) (number mid) did.opening did.number cube.place
    c.args.session.now c.find_named.new.session c.args.statement cube.decl (own before) (own mid) now c.requires.form
    c.requires.may c.in-Ok.ensures.counted
    (record {
      left = c.in-Ok.ensures.found;
      name = c.in-Some.name.now;
      needed = sym c.in-Some.ensures;
      told = c.in-Ok.ensures.told;
      stands = c.in-Ok.ensures.stands;
    }) c.watch_found.result c.watch_found.ensures.done

pub returns-in-Ok-clause-refused : goal.returns-in-Ok-clause-refused
returns-in-Ok-clause-refused g c =
    let did = c.find_named.ensures in
    let opening = g.P.CellCaller.opening in
    let number = g.P.CellCaller.number in
    let own = g.P.CellCaller.own in
    let before = c.args.caller.now in
    let mid = c.find_named.new.caller in
    let now = own c.watch_found.new.caller in
    let cube = c.in-Ok.found in
    watch-refused (opening before) (opening mid) (number before) (number mid) did.opening did.number cube.place
    c.args.session.now c.find_named.new.session c.args.statement cube.decl (own before) (own mid) now c.requires.form
    c.requires.may c.in-Ok.ensures.counted
    (record {
      left = c.in-Ok.ensures.found;
      name = c.in-Some.name.now;
      needed = sym c.in-Some.ensures;
      told = c.in-Ok.ensures.told;
      stands = c.in-Ok.ensures.stands;
    }) c.watch_found.result c.watch_found.ensures.refused

pub returns-in-Err-clause-none : goal.returns-in-Err-clause-none
returns-in-Err-clause-none g c =
    let did = c.find_named.ensures in
    let own = g.P.CellCaller.own in
    let before = c.args.caller.now in
    let cells = g.P.CellCaller.opening before in
    let caller = g.P.CellCaller.number before in
    let old = c.args.session.now in
    let mid = own c.find_named.new.caller in
    coe 1 0 (i. HoldersHold (did.opening i) (did.number i) (did.more.number i) mid NoReader)
    (holders-left FitsShard CoreShardStands ShardAnswerSays cells caller old.number (own before) mid did.goes_on
    (of-statement-are-own FitsShard CoreShardStands ShardAnswerSays cells caller old.number (old.statements + 1)
    c.args.statement (own before) mid did.calls) NoReader c.requires.none)

pub returns-in-Err-clause-refused : goal.returns-in-Err-clause-refused
returns-in-Err-clause-refused g c =
    let own = g.P.CellCaller.own in
    let before = c.args.caller.now in
    none-found (g.P.CellCaller.opening before) (g.P.CellCaller.number before) c.args.session.now c.find_named.new.session
    c.args.statement (own before) (own c.find_named.new.caller) c.requires.form c.find_named.ensures.calls c.in-Err.answered
    c.in-Err.ensures.executed
