use Rattle.std.proofs.Common.{◌∙◌, ◌+◌, List, length, subst, arith}
use Rattle.std.proofs.lemmas.Result.{IfOk-weaker}
use Rattle.cube_language.specs.declared.decl.Decl.{Decl}
use Rattle.round_copies.proofs.CopiedRound.{copied-round}
use Rattle.round_copies.proofs.FlusherSteps.{more-none, stays-none}
use Rattle.round_copies.proofs.NameLoops.{still-flusher}
use Rattle.round_copies.proofs.RoundGoes.{cubes-known, on-ok, open-at-first, open-with-cubes, rows-known, told-at, told-behind-rows, went, went-both}
use Rattle.round_copies.specs.RoundCopies.{HasMoreWith, HaveNamesTold, IsCopiedRound, IsRoundOfCopies, texts_by_cube}
use Rattle.round_copies.proofs.round.copy_round.Goals as goal

pub returns-in_err-place-clause-more : goal.returns-in_err-place-clause-more
returns-in_err-place-clause-more g c =
    let cells = g.P.CellCaller.opening in
    let number = g.P.CellCaller.number in
    let own = g.P.CellCaller.own in
    let client = c.args.client in
    let first = c.args.caller.now in
    more-none (cells first) (number first) client (own first)

pub returns-in_err-place-clause-within : goal.returns-in_err-place-clause-within
returns-in_err-place-clause-within g c =
    let cells = g.P.CellCaller.opening in
    let number = g.P.CellCaller.number in
    let own = g.P.CellCaller.own in
    let client = c.args.client in
    let first = c.args.caller.now in
    stays-none (cells first) (number first) client (own first)

pub returns-in_err-place-clause-open : goal.returns-in_err-place-clause-open
returns-in_err-place-clause-open g c =
    let cells = g.P.CellCaller.opening in
    let number = g.P.CellCaller.number in
    let own = g.P.CellCaller.own in
    let client = c.args.client in
    let span = c.args.span in
    let first = c.args.caller.now in
    open-at-first (cells first) (number first) client (own first) span c.requires.round

pub returns-in_err-copies-clause-board : goal.returns-in_err-copies-clause-board
returns-in_err-copies-clause-board g c = c.copy_rows.ensures.board

pub returns-in_err-copies-clause-opening : goal.returns-in_err-copies-clause-opening
returns-in_err-copies-clause-opening g c = c.copy_rows.ensures.opening

pub returns-in_err-copies-clause-number : goal.returns-in_err-copies-clause-number
returns-in_err-copies-clause-number g c = c.copy_rows.ensures.number

pub returns-in_err-copies-clause-others : goal.returns-in_err-copies-clause-others
returns-in_err-copies-clause-others g c = c.copy_rows.ensures.others

pub returns-in_err-copies-clause-more : goal.returns-in_err-copies-clause-more
returns-in_err-copies-clause-more g c = c.copy_rows.ensures.more

pub returns-in_err-copies-clause-within : goal.returns-in_err-copies-clause-within
returns-in_err-copies-clause-within g c = c.copy_rows.ensures.within

pub returns-in_err-copies-clause-open : goal.returns-in_err-copies-clause-open
returns-in_err-copies-clause-open g c = c.copy_rows.ensures.open

pub copy_cubes-requires-clause-flusher : goal.copy_cubes-requires-clause-flusher
copy_cubes-requires-clause-flusher g c =
    let cells = g.P.CellCaller.opening in
    let number = g.P.CellCaller.number in
    let client = c.args.client in
    let span = c.args.span in
    let first = c.args.caller.now in
    let after_rows = c.copy_rows.new.caller in
    let rows = c.copy_rows.ensures in (
      c.args.size.now.shards,
      still-flusher span client c.args.size.now.shards (cells first) (cells after_rows) (number first)
          (number after_rows) rows.opening rows.number c.requires.flusher,
    )

pub copy_cubes-requires-clause-rows : goal.copy_cubes-requires-clause-rows
copy_cubes-requires-clause-rows g c = (c.in_ok-copies.copies.items, c.in_ok-copies.ensures.copied)

pub copy_cubes-requires-clause-told : goal.copy_cubes-requires-clause-told
copy_cubes-requires-clause-told g c =
    let cells = g.P.CellCaller.opening in
    let number = g.P.CellCaller.number in
    let own = g.P.CellCaller.own in
    let client = c.args.client in
    let shapes = c.args.shapes.now in
    let counts = c.args.counts.now in
    let after_rows = c.copy_rows.new.caller in
    let rows = c.copy_rows.ensures in (
      counts,
      told-at (cells after_rows) (number after_rows) client (own after_rows) c.in_ok-place.place (length shapes) counts
          c.in_ok-place.ensures (rows.told (length shapes) counts c.requires.told),
    )

pub returns-in_err-made-clause-board : goal.returns-in_err-made-clause-board
returns-in_err-made-clause-board g c = c.copy_cubes.ensures.board

pub returns-in_err-made-clause-opening : goal.returns-in_err-made-clause-opening
returns-in_err-made-clause-opening g c = c.copy_cubes.ensures.opening ∙ c.copy_rows.ensures.opening

pub returns-in_err-made-clause-number : goal.returns-in_err-made-clause-number
returns-in_err-made-clause-number g c = c.copy_cubes.ensures.number ∙ c.copy_rows.ensures.number

pub returns-in_err-made-clause-others : goal.returns-in_err-made-clause-others
returns-in_err-made-clause-others g c = c.copy_cubes.ensures.others ∙ c.copy_rows.ensures.others

pub returns-in_err-made-clause-more : goal.returns-in_err-made-clause-more
returns-in_err-made-clause-more g c =
    let rows = c.copy_rows.ensures in
    let cubes = c.copy_cubes.ensures in
    (went-both (went rows.opening rows.number rows.more rows.within)
    (went cubes.opening cubes.number cubes.more cubes.within)).more

pub returns-in_err-made-clause-within : goal.returns-in_err-made-clause-within
returns-in_err-made-clause-within g c =
    let rows = c.copy_rows.ensures in
    let cubes = c.copy_cubes.ensures in
    (went-both (went rows.opening rows.number rows.more rows.within)
    (went cubes.opening cubes.number cubes.more cubes.within)).within

pub returns-in_err-made-clause-open : goal.returns-in_err-made-clause-open
returns-in_err-made-clause-open g c = c.copy_cubes.ensures.open

pub copy_names-requires-clause-flusher : goal.copy_names-requires-clause-flusher
copy_names-requires-clause-flusher g c =
    let cells = g.P.CellCaller.opening in
    let number = g.P.CellCaller.number in
    let client = c.args.client in
    let span = c.args.span in
    let first = c.args.caller.now in
    let after_cubes = c.copy_cubes.new.caller in
    let rows = c.copy_rows.ensures in
    let cubes = c.copy_cubes.ensures in (
      c.args.size.now.shards,
      still-flusher span client c.args.size.now.shards (cells first) (cells after_cubes) (number first)
          (number after_cubes) (cubes.opening ∙ rows.opening) (cubes.number ∙ rows.number) c.requires.flusher,
    )

pub copy_names-requires-clause-history : goal.copy_names-requires-clause-history
copy_names-requires-clause-history g c = c.copy_cubes.ensures.history

pub copy_names-requires-clause-may : goal.copy_names-requires-clause-may
copy_names-requires-clause-may g c =
    let cells = g.P.CellCaller.opening in
    let number = g.P.CellCaller.number in
    let own = g.P.CellCaller.own in
    let client = c.args.client in
    let span = c.args.span in
    let shapes = c.args.shapes.now in
    let counts = c.args.counts.now in
    let after_rows = c.copy_rows.new.caller in
    let after_cubes = c.copy_cubes.new.caller in
    let rows = c.copy_rows.ensures in
    let copies = c.in_ok-copies.copies.items in
    let made = c.in_ok-made.made in
    let seen = c.as_slice-cubes.result.now in (
      copies,
      cubes-known (cells after_cubes) (number after_cubes) client (own after_cubes) span copies counts c.in_ok-place.place
          (length shapes) made seen c.in_ok-place.ensures c.as_slice-cubes.ensures
          (c.in_ok-made.ensures.copied copies counts c.in_ok-copies.ensures.copied
          (told-at (cells after_rows) (number after_rows) client (own after_rows) c.in_ok-place.place (length shapes) counts
          c.in_ok-place.ensures (rows.told (length shapes) counts c.requires.told))),
    )

pub returns-in_err-names-clause-board : goal.returns-in_err-names-clause-board
returns-in_err-names-clause-board g c = c.copy_names.ensures.board

pub returns-in_err-names-clause-opening : goal.returns-in_err-names-clause-opening
returns-in_err-names-clause-opening g c = c.copy_names.ensures.opening ∙ (c.copy_cubes.ensures.opening ∙ c.copy_rows.ensures.opening)

pub returns-in_err-names-clause-number : goal.returns-in_err-names-clause-number
returns-in_err-names-clause-number g c = c.copy_names.ensures.number ∙ (c.copy_cubes.ensures.number ∙ c.copy_rows.ensures.number)

pub returns-in_err-names-clause-others : goal.returns-in_err-names-clause-others
returns-in_err-names-clause-others g c = c.copy_names.ensures.others ∙ (c.copy_cubes.ensures.others ∙ c.copy_rows.ensures.others)

pub returns-in_err-names-clause-more : goal.returns-in_err-names-clause-more
returns-in_err-names-clause-more g c =
    let rows = c.copy_rows.ensures in
    let cubes = c.copy_cubes.ensures in
    let names = c.copy_names.ensures in
    (went-both (went-both (went rows.opening rows.number rows.more rows.within)
    (went cubes.opening cubes.number cubes.more cubes.within))
    (went names.opening names.number names.goes.more names.goes.within)).more

pub returns-in_err-names-clause-within : goal.returns-in_err-names-clause-within
returns-in_err-names-clause-within g c =
    let rows = c.copy_rows.ensures in
    let cubes = c.copy_cubes.ensures in
    let names = c.copy_names.ensures in
    (went-both (went-both (went rows.opening rows.number rows.more rows.within)
    (went cubes.opening cubes.number cubes.more cubes.within))
    (went names.opening names.number names.goes.more names.goes.within)).within

pub returns-in_err-names-clause-open : goal.returns-in_err-names-clause-open
returns-in_err-names-clause-open g c =
    let cells = g.P.CellCaller.opening in
    let number = g.P.CellCaller.number in
    let own = g.P.CellCaller.own in
    let client = c.args.client in
    let span = c.args.span in
    let shapes = c.args.shapes.now in
    let counts = c.args.counts.now in
    let after_rows = c.copy_rows.new.caller in
    let after_cubes = c.copy_cubes.new.caller in
    let after_names = c.copy_names.new.caller in
    let rows = c.copy_rows.ensures in
    let names = c.copy_names.ensures in
    let copies = c.in_ok-copies.copies.items in
    let made = c.in_ok-made.made in
    let seen = c.as_slice-cubes.result.now in
    let has =
    cubes-known (cells after_cubes) (number after_cubes) client (own after_cubes) span copies counts c.in_ok-place.place
    (length shapes) made seen c.in_ok-place.ensures c.as_slice-cubes.ensures
    (c.in_ok-made.ensures.copied copies counts c.in_ok-copies.ensures.copied
    (told-at (cells after_rows) (number after_rows) client (own after_rows) c.in_ok-place.place (length shapes) counts
    c.in_ok-place.ensures (rows.told (length shapes) counts c.requires.told)))
    in
    open-with-cubes (cells after_names) (number after_names) client (own after_names) span copies counts (length shapes + length seen)
    (names.goes.keeps copies (length shapes + length seen) counts has)

pub returns-clause-board : goal.returns-clause-board
returns-clause-board g c = c.copy_names.ensures.board

pub returns-clause-opening : goal.returns-clause-opening
returns-clause-opening g c = c.copy_names.ensures.opening ∙ (c.copy_cubes.ensures.opening ∙ c.copy_rows.ensures.opening)

pub returns-clause-number : goal.returns-clause-number
returns-clause-number g c = c.copy_names.ensures.number ∙ (c.copy_cubes.ensures.number ∙ c.copy_rows.ensures.number)

pub returns-clause-others : goal.returns-clause-others
returns-clause-others g c = c.copy_names.ensures.others ∙ (c.copy_cubes.ensures.others ∙ c.copy_rows.ensures.others)

pub returns-clause-more : goal.returns-clause-more
returns-clause-more g c =
    let rows = c.copy_rows.ensures in
    let cubes = c.copy_cubes.ensures in
    let names = c.copy_names.ensures in
    (went-both (went-both (went rows.opening rows.number rows.more rows.within)
    (went cubes.opening cubes.number cubes.more cubes.within))
    (went names.opening names.number names.goes.more names.goes.within)).more

pub returns-clause-within : goal.returns-clause-within
returns-clause-within g c =
    let rows = c.copy_rows.ensures in
    let cubes = c.copy_cubes.ensures in
    let names = c.copy_names.ensures in
    (went-both (went-both (went rows.opening rows.number rows.more rows.within)
    (went cubes.opening cubes.number cubes.more cubes.within))
    (went names.opening names.number names.goes.more names.goes.within)).within

pub returns-clause-open : goal.returns-clause-open
returns-clause-open g c =
    let cells = g.P.CellCaller.opening in
    let number = g.P.CellCaller.number in
    let own = g.P.CellCaller.own in
    let client = c.args.client in
    let span = c.args.span in
    let shapes = c.args.shapes.now in
    let counts = c.args.counts.now in
    let after_rows = c.copy_rows.new.caller in
    let after_cubes = c.copy_cubes.new.caller in
    let after_names = c.copy_names.new.caller in
    let rows = c.copy_rows.ensures in
    let names = c.copy_names.ensures in
    let copies = c.in_ok-copies.copies.items in
    let made = c.in_ok-made.made in
    let seen = c.as_slice-cubes.result.now in
    let has =
    cubes-known (cells after_cubes) (number after_cubes) client (own after_cubes) span copies counts c.in_ok-place.place
    (length shapes) made seen c.in_ok-place.ensures c.as_slice-cubes.ensures
    (c.in_ok-made.ensures.copied copies counts c.in_ok-copies.ensures.copied
    (told-at (cells after_rows) (number after_rows) client (own after_rows) c.in_ok-place.place (length shapes) counts
    c.in_ok-place.ensures (rows.told (length shapes) counts c.requires.told)))
    in
    open-with-cubes (cells after_names) (number after_names) client (own after_names) span copies counts (length shapes + length seen)
    (names.goes.keeps copies (length shapes + length seen) counts has)

pub round_of-requires : goal.round_of-requires
round_of-requires g c =
    let count = c.in_ok-copies.ensures.count in
    let some = c.requires.some in
    omega (arith, count, some)

pub returns-clause-history : goal.returns-clause-history
returns-clause-history g c = on-ok c.round_of.result c.copy_names.ensures.goes.history

pub returns-clause-copied : goal.returns-clause-copied
returns-clause-copied g c =
    let cells = g.P.CellCaller.opening in
    let number = g.P.CellCaller.number in
    let own = g.P.CellCaller.own in
    let client = c.args.client in
    let span = c.args.span in
    let shapes = c.args.shapes.now in
    let counts = c.args.counts.now in
    let after_rows = c.copy_rows.new.caller in
    let after_cubes = c.copy_cubes.new.caller in
    let after_names = c.copy_names.new.caller in
    let rows = c.copy_rows.ensures in
    let cubes = c.copy_cubes.ensures in
    let names = c.copy_names.ensures in
    let copies = c.in_ok-copies.copies.items in
    let made = c.in_ok-made.made in
    let seen = c.as_slice-cubes.result.now in
    let has =
    cubes-known (cells after_cubes) (number after_cubes) client (own after_cubes) span copies counts c.in_ok-place.place
    (length shapes) made seen c.in_ok-place.ensures c.as_slice-cubes.ensures
    (c.in_ok-made.ensures.copied copies counts c.in_ok-copies.ensures.copied
    (told-at (cells after_rows) (number after_rows) client (own after_rows) c.in_ok-place.place (length shapes) counts
    c.in_ok-place.ensures (rows.told (length shapes) counts c.requires.told)))
    in
    IfOk-weaker c.round_of.result (IsRoundOfCopies span copies made c.in_ok-names.names.items)
    (IsCopiedRound (cells after_names) (number after_names) client (own c.args.caller.now) (own after_names) span shapes counts)
    (λ round is.
    copied-round (cells after_names) (number after_names) client (own c.args.caller.now) (own after_names) span shapes counts copies
    (length shapes + length seen) made c.in_ok-names.names.items round (names.goes.keeps copies (length shapes + length seen) counts has)
    c.in_ok-copies.ensures.sound is (own after_rows) rows.more
    (rows-known (cells after_rows) (number after_rows) client (own after_rows) span copies counts (cells after_names) (number after_names)
    (names.opening ∙ cubes.opening) (names.number ∙ cubes.number) c.in_ok-copies.ensures.copied)
    (told-behind-rows (number after_cubes) (number after_names) c.in_ok-place.place (length shapes) (own after_rows) (own after_cubes)
    (own after_names) counts (texts_by_cube shapes made) made c.in_ok-names.names.items names.number c.in_ok-place.ensures
    c.in_ok-made.ensures.listed
    (subst (λ (l : List Decl). HasMoreWith (own after_cubes) (own after_names)
    (λ later. HaveNamesTold (number after_names) later counts (texts_by_cube shapes l) c.in_ok-names.names.items))
    c.as_slice-cubes.ensures c.in_ok-names.ensures.told)))
    c.round_of.ensures
