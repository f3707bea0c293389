use Rattle.std.proofs.Common.{◌++◌, map, Option, OnOk}
use Rattle.std.specs.Prelude.{IfSome}
use Rattle.core_endings.specs.ScriptEnds.{HoldsReaderUnder, IsWatchUnder}
use Rattle.core_scripts.proofs.PlayedTexts.{reader-at-end, watch-at-end}
use Rattle.core_scripts.specs.PlayingSessions.{IsPlaying}
use Rattle.core_scripts.specs.ToldFiles.{files_told}
use Rattle.core_watches.specs.KeptWatches.{watch_on_record}
use Rattle.cube_run.specs.SessionStates.{KeptWatch}
use Rattle.linked_shards.specs.CellShards.{CoreShardStands}
use Rattle.script_sentences.specs.Sentences.{sentence_of}
use Rattle.scripted_ends.specs.EndedScripts.{EndsScript}
use Rattle.scripted_pasts.specs.PlayedScripts.{HasPlayedScript}
use Rattle.shard_events.specs.ShardsInRuns.{FitsShard, ShardAnswerSays}
use Rattle.core_scripts.proofs.scripts.play_to_the_end.Goals as goal

pub end_script-requires-clause-reader : goal.end_script-requires-clause-reader
end_script-requires-clause-reader g c =
    let caller = c.play_texts.new.caller in
    let player = c.play_texts.new.player in
    let cells = g.P.CellCaller.opening caller in
    let number = g.P.CellCaller.number caller in
    let own = g.P.CellCaller.own caller in
    coe 1 0 (i. IfSome (c.holder_of-holder.ensures i) (HoldsReaderUnder cells number player.session.number own))
    (reader-at-end cells number player.session.number own player.watch c.if-not-play_texts.ensures.in_script.is_playing.keeps)

pub returns-in-Ok-clause-ended : goal.returns-in-Ok-clause-ended
returns-in-Ok-clause-ended g c before playing =
    let caller = c.play_texts.new.caller in
    let player = c.play_texts.new.player in
    let same = c.play_texts.ensures.opening in
    let also = c.play_texts.ensures.number in
    let own = g.P.CellCaller.own caller in
    let now = g.P.CellCaller.own c.end_script.new.caller in
    let told = g.H.Shelf.told c.args.shelf.now in
    let here =
    coe 1 0 (i. IsPlaying told (same i) (also i) c.args.player.now (g.P.CellCaller.own c.args.caller.now) before
    c.args.replies.now.items) playing
    in
    let played = c.if-not-play_texts.ensures.played before here in
    let watch = watch_on_record player.watch in
    let Ends = λ (w : Option KeptWatch). EndsScript FitsShard CoreShardStands ShardAnswerSays
    (g.P.CellCaller.opening caller) (g.P.CellCaller.number caller) player.session w own now in
    let ended =
    coe 0 1 (i. OnOk (c.in-Ok.is i) ((w : Option KeptWatch) → IsWatchUnder c.holder_of-holder.result w → Ends w))
    c.end_script.ensures.ended
    in
    record {
      last = player.session;
      number_is = c.play_texts.ensures.session;
      every_is = c.play_texts.ensures.every;
      watch = watch;
      before = own;
      played =
          coe 0 1 (i. HasPlayedScript FitsShard CoreShardStands ShardAnswerSays (same i) (also i) (files_told told)
          player.session watch own (before ++ map sentence_of c.args.script.items) c.play_texts.new.replies.items)
          played.played;
      ends =
          coe 0 1 (i. EndsScript FitsShard CoreShardStands ShardAnswerSays (same i) (also i) player.session watch own now)
          (ended watch (coe 1 0 (i. IsWatchUnder (c.holder_of-holder.ensures i) watch) (watch-at-end player.watch)));
    }
