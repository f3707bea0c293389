use Rattle.std.proofs.Common.{◌≡◌, ◌∙◌, ◌≤◌, List, length, None, sym, ap, subst, arith}
use Rattle.cube_language.specs.Cubes.{first_repeated}
use Rattle.cube_language.specs.declared.decl.Decl.{Decl}
use Rattle.cube_language.specs.declared.decl.TheConstants.{MOST_CUBES}
use Rattle.cube_rounds.specs.Stands.{Kept}
use Rattle.aosi_desk.specs.Desks.{decl_names}
use Rattle.kept_data.specs.KeptNames.{HaveKeptNames}
use Rattle.opened_core.proofs.OpenedCells.{all-cells, next-mail, next-shard}
use Rattle.opened_core.proofs.cells.opening_cells.Goals as goal

pub new-requires-clause-few : goal.new-requires-clause-few
new-requires-clause-few c =
    let items = c.as_slice.ensures ∙ ap (λ (k : Kept). k.cubes) c.kept.view_is in
    subst (λ (cubes : List Decl). length cubes ≤ MOST_CUBES) (sym items) (c.kept_data_are_sound.ensures.sound c.args.kept.now c.requires.kept).few

pub new-requires-clause-differ : goal.new-requires-clause-differ
new-requires-clause-differ c =
    let items = c.as_slice.ensures ∙ ap (λ (k : Kept). k.cubes) c.kept.view_is in
    subst (λ (cubes : List Decl). first_repeated (decl_names cubes) ≡ None) (sym items)
    (c.kept_data_are_sound.ensures.sound c.args.kept.now c.requires.kept).differ

pub kept_dictionaries-requires-clause-names : goal.kept_dictionaries-requires-clause-names
kept_dictionaries-requires-clause-names c =
    let items = c.as_slice-2.ensures ∙ ap (λ (k : Kept). k.cubes) c.kept.view_is in
    let names = ap (λ (k : Kept). k.names) c.kept.view_is in
    coe 1 0 (i. HaveKeptNames (items i) (names i)) (c.kept_data_are_sound.ensures.sound c.args.kept.now c.requires.kept).names

pub shards-preserved : goal.shards-preserved
shards-preserved c =
    next-shard c.args.kept.now c.args.shards c.args.sessions c.shards.number c.shards.cells.items c.push-in-shards.new.self.items c.in_ok-shard.shard
    c.shards.invariant.0 c.shards.invariant.1 c.shards-test.true c.in_ok-shard.ensures.holds c.in_ok-shard.ensures.takes c.in_ok-push-3.ensures.items

pub mails-preserved : goal.mails-preserved
mails-preserved c =
    next-mail c.args.kept.now c.args.shards c.args.sessions c.mails._number c.mails.cells.items c.push-in-mails.new.self.items c.in_ok-mail.mail
    c.mails.invariant c.mails-test.true c.in_ok-mail.ensures c.in_ok-push-4.ensures.items

pub returns-clause-cells : goal.returns-clause-cells
returns-clause-cells c =
    let done = c.mails-test.false in
    let within = c.mails.auto._number-end in
    all-cells c.args.kept.now c.args.shards c.args.sessions c.mails._number c.mails.cells.items c.push-3.new.self.items c.in_ok-mail-2.mail
    c.mails.invariant (omega (arith, done, within)) c.in_ok-mail-2.ensures c.in_ok-push-5.ensures.items

pub returns-clause-opens : goal.returns-clause-opens
returns-clause-opens c =
    let done = c.mails-test.false in
    let within = c.mails.auto._number-end in
    c.kept_cells_open_runs.ensures c.args.kept.now c.args.shards c.args.sessions c.push-3.new.self.items
    (record {
      some_shards = c.requires.some_shards;
      few_shards = c.requires.few_shards;
      some_sessions = c.requires.some_sessions;
      few_sessions = c.requires.few_sessions;
      small = c.requires.small;
    }) c.requires.kept
    (all-cells c.args.kept.now c.args.shards c.args.sessions c.mails._number c.mails.cells.items c.push-3.new.self.items c.in_ok-mail-2.mail
    c.mails.invariant (omega (arith, done, within)) c.in_ok-mail-2.ensures c.in_ok-push-5.ensures.items)
