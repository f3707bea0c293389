-- A round behind what is kept has the rows of the run up to its target.
use Rattle.std.proofs.Common.{◌≡◌, ◌∙◌, ℕ, ◌+◌, ◌<◌, ◌≤◌, ◌==◌, Bool, List, [], ◌∷◌, ◌++◌, filter, length, slice_get, Option, Some, None, IfSome, inl, inr, refl, sym, ap, arith, append_assoc, append-nil, length-append}
use Rattle.std.specs.List.{AllByRecursion, count_by}
use Rattle.std.specs.List.Sorted.{IsPermutation}
use Rattle.std.specs.Option.{option_map_or}
use Rattle.std.proofs.lemmas.List.Concat.{flat_map-append}
use Rattle.std.proofs.lemmas.List.Elements.{recursion_from_All}
use Rattle.std.proofs.lemmas.List.Sorted.{IsPermutation-refl, length_permutation}
use Rattle.std.proofs.lemmas.Option.{slice_get_cases}
use Rattle.cube_values.specs.declared.row.CodedRow.{CodedRow}
use Rattle.cube_values.specs.EpochsVector.{Leads}
use Rattle.cube_language.specs.declared.decl.Decl.{Decl}
use Rattle.brick_map.specs.Copied.{part_numbered}
use Rattle.cube_rounds.specs.Bricks.{BrickPart}
use Rattle.cube_rounds.specs.Demands.{IsOfEpochs}
use Rattle.cube_rounds.specs.KeptRows.{entries_joined, kept_rows_of_brick, parts_in, parts_of_brick, rows_joined, rows_seen}
use Rattle.cube_rounds.specs.Stands.{Kept, kept_of_cubes, kept_with}
use Rattle.cube_rounds.specs.declared.round.Round.{Round}
use Rattle.cube_rounds.specs.declared.round.RoundCube.{RoundCube}
use Rattle.cube_journal.specs.Counters.{lce}
use Rattle.core_events.specs.Cells.{counters_of_run, desk_of, rows_of_brick}
use Rattle.core_events.specs.Clients.{client_state, reader_up_to}
use Rattle.core_events.specs.Events.{Opening, CoreEvent}
use Rattle.core_events.specs.Runs.{IsCoreRun}
use Rattle.core_events.specs.ShardView.{BrickEntry, every_epoch, rows_over_kept}
use Rattle.core_events.proofs.RoundEntries.{IsOfRound}
use Rattle.core_serial.specs.Copies.{HasCopied, IsOfOpenRound, copies_by, rows_committed_up_to}
use Rattle.core_serial.proofs.OverKept.{over-counts, over-none}
use Rattle.core_serial.proofs.Permutations.{counts-permuted, permuted-by-counts}
use Rattle.core_serial.proofs.StoreRows.{copies-of-bricks, round-of}
use Rattle.core_settled.proofs.Settled.{run-before}
use Rattle.copied_rows.specs.CopiedRows.{KeptAreCubeRows}
use Rattle.copied_rows.proofs.CopiedBricks.{copied-bricks}
use Rattle.copied_rounds.specs.CopiedRounds.{IsRoundBehindKept}
use Rattle.following_rounds.proofs.KeptLists.{cubes-listed}
use Rattle.following_rounds.proofs.MadeCubes.{cubes-grow}
use Rattle.shard_events.specs.ShardsInRuns.{IsWholePart}
use Rattle.shard_views.specs.Views.{part_view}
use Rattle.rows_of_rounds.specs.RowsOfRounds.{AreJoinedUpTo, HasRowsOfRun}
use Rattle.rows_of_rounds.proofs.NumberedParts.{numbered-has, one-of-number}
use Rattle.rows_of_rounds.proofs.RoundAbove.{counts-with-round, epochs-with-round, leads-with-round, part_of_round}
use Rattle.rows_of_rounds.proofs.SettledRows.{committed-at-safe, committed-at-zero, committed-since}
use Rattle.rows_of_rounds.proofs.UnmadeCubes.{nothing-committed}

none-left : (xs ys : List CodedRow) → IsPermutation xs ys → ys ≡ [] → xs ≡ []
none-left [] ys moved none = refl
none-left (x ∷ xs) ys moved none =
    let same = length_permutation (x ∷ xs) ys moved in
    let long = ap (λ (l : List CodedRow). length l) none in
    absurd (omega (arith, same, long))

-- ---- at the opening, and without rounds

pub rows-at-opening : (o : Opening) (es : List CoreEvent) (kept : Kept) → IsCoreRun o es → kept.epoch ≡ o.safe
    → ((cube : ℕ) → length o.cubes ≤ cube → o.rows cube ≡ [])
    → ((cube brick : ℕ) → AreJoinedUpTo kept.epoch (parts_of_brick cube brick kept.rounds))
    → ((cube brick : ℕ) → rows_of_brick o cube brick (o.rows cube)
    ≡ kept_rows_of_brick (reader_up_to kept.epoch) cube brick kept.rounds)
    → HasRowsOfRun o es kept
rows-at-opening o es kept run at opens joined same = record {
  opens = opens;
  joined = joined;
  rows = λ cube brick.
      let there : rows_committed_up_to o es cube kept.epoch ≡ o.rows cube =
      ap (λ (e : ℕ). rows_committed_up_to o es cube e) at ∙ committed-at-safe o cube es run
      in
      let rows = kept_rows_of_brick (reader_up_to kept.epoch) cube brick kept.rounds in
      coe 1 0 (i. IsPermutation rows (rows_of_brick o cube brick (there i)))
      (coe 1 0 (i. IsPermutation rows (same cube brick i)) (IsPermutation-refl rows));
}

pub rows-of-none : (o : Opening) (es : List CoreEvent) (cubes : List Decl) → IsCoreRun o es
    → ((cube : ℕ) → length o.cubes ≤ cube → o.rows cube ≡ []) → HasRowsOfRun o es (kept_of_cubes cubes)
rows-of-none o es cubes run opens = record {
  opens = opens;
  joined = λ cube brick. record { leads = refl; epochs = tt };
  rows = λ cube brick.
      coe 1 0 (i. IsPermutation [] (rows_of_brick o cube brick (committed-at-zero o cube es run i)))
      (IsPermutation-refl []);
}

-- ---- later, and earlier

module _ (o : Opening) (later es : List CoreEvent) (kept : Kept) (run : IsCoreRun o (later ++ es))
    (low : kept.epoch ≤ lce (counters_of_run o es)) where
  pub rows-later : HasRowsOfRun o es kept → HasRowsOfRun o (later ++ es) kept
  rows-later has = record {
    opens = has.opens;
    joined = has.joined;
    rows = λ cube brick.
        coe 1 0 (i. IsPermutation (kept_rows_of_brick (reader_up_to kept.epoch) cube brick kept.rounds)
        (rows_of_brick o cube brick (committed-since o later es cube kept.epoch run low i))) (has.rows cube brick);
  }

  pub rows-earlier : HasRowsOfRun o (later ++ es) kept → HasRowsOfRun o es kept
  rows-earlier has = record {
    opens = has.opens;
    joined = has.joined;
    rows = λ cube brick.
        coe 0 1 (i. IsPermutation (kept_rows_of_brick (reader_up_to kept.epoch) cube brick kept.rounds)
        (rows_of_brick o cube brick (committed-since o later es cube kept.epoch run low i))) (has.rows cube brick);
  }

-- ---- with a round

module _ (o : Opening) (run : List CoreEvent) (client : ℕ) (kept : Kept) (round : Round) (is_run : IsCoreRun o run)
    (cube_rows : KeptAreCubeRows o) (behind : IsRoundBehindKept o run client kept.cubes kept.names round)
    (from : round.from ≡ kept.epoch) (has : HasRowsOfRun o run kept) where
  abbrev copied : List CoreEvent
  copied = behind.copied

  abbrev since : List CoreEvent
  since = behind.taken.made.later ++ behind.taken.made.since

  whole : run ≡ since ++ copied
  whole =
      behind.taken.made.of_run ∙ sym (append_assoc behind.taken.made.later behind.taken.made.since copied)

  run-since : IsCoreRun o (since ++ copied)
  run-since = coe 0 1 (i. IsCoreRun o (whole i)) is_run

  run-copied : IsCoreRun o copied
  run-copied = run-before o since copied run-since

  opened : IsOfOpenRound round.from round.epoch (counters_of_run o copied)
  opened = round-of o copied client round.from round.epoch run-copied behind.taken.rows

  rises : round.from < round.epoch
  rises =
      let above = opened.rises in
      elim opened.begins [
        | inl at ↦ omega (arith, at, above)
        | inr zero ↦ omega (arith, zero, above)
      ]

  from-lce : round.from ≤ lce (counters_of_run o copied)
  from-lce = let most = opened.committed in let up = rises in omega (arith, most, up)

  committed : (cube e : ℕ) → e ≤ lce (counters_of_run o copied)
      → rows_committed_up_to o run cube e ≡ rows_committed_up_to o copied cube e
  committed cube e low =
      ap (λ (all : List CoreEvent). rows_committed_up_to o all cube e) whole
      ∙ committed-since o since copied cube e run-since low

  past-copied : (cube : ℕ) → length round.cubes ≤ cube → length (desk_of o copied).cubes ≤ cube
  past-copied cube past =
      let made = behind.taken.made in
      let all =
      behind.taken.parts
      ∙ ap (λ (l : List Decl). length l)
      (sym (cubes-listed o copied run client kept.cubes kept.names round behind.kept behind.taken))
      in
      let grows = cubes-grow o made.since copied in
      let long = ap (λ (l : List Decl). length l) grows.1 ∙ length-append (desk_of o copied).cubes grows.0 in
      omega (arith, past, all, long)

  module _ (cube brick : ℕ) where
    abbrev parts : List BrickPart
    parts = parts_of_brick cube brick kept.rounds

    abbrev copy : List BrickEntry
    copy = copies_by o (client_state o client copied).group.answers cube brick

    abbrev rows_then : List CodedRow
    rows_then = rows_seen (reader_up_to round.from) (entries_joined 0 parts) 0 (rows_joined parts)

    abbrev rows_first : List CodedRow
    rows_first = rows_of_brick o cube brick (rows_committed_up_to o copied cube round.from)

    abbrev rows_last : List CodedRow
    rows_last = rows_of_brick o cube brick (rows_committed_up_to o run cube round.epoch)

    low : AllByRecursion (IsOfEpochs 0 round.from) (entries_joined 0 parts)
    low = coe 1 0 (i. AllByRecursion (IsOfEpochs 0 (from i)) (entries_joined 0 parts)) (has.joined cube brick).epochs

    moved : IsPermutation rows_then rows_first
    moved =
        coe 0 1 (i. IsPermutation rows_then (rows_of_brick o cube brick (committed cube round.from from-lce i)))
        (coe 1 0 (i. IsPermutation
        (rows_seen (reader_up_to (from i)) (entries_joined 0 parts) 0 (rows_joined parts))
        (rows_of_brick o cube brick (rows_committed_up_to o run cube (from i)))) (has.rows cube brick))

    none-first : round.from ≡ 0 → rows_first ≡ []
    none-first zero =
        ap (λ (e : ℕ). rows_of_brick o cube brick (rows_committed_up_to o copied cube e)) zero
        ∙ ap (rows_of_brick o cube brick) (committed-at-zero o cube copied run-copied)

    none-then : round.from ≡ 0 → rows_then ≡ []
    none-then zero = none-left rows_then rows_first moved (none-first zero)

    counts-copied : (c : CodedRow → Bool) → count_by c (rows_over_kept round.from rows_then copy) ≡ count_by c rows_last
    counts-copied c =
        over-counts c round.from rows_then rows_first copy none-then none-first
        (counts-permuted rows_then rows_first moved c)
        ∙ copies-of-bricks o copied client round.from round.epoch cube brick c run-copied behind.taken.rows
        ∙ ap (λ (rows : List CodedRow). count_by c (rows_of_brick o cube brick rows))
        (sym (committed cube round.epoch opened.committed))

    -- The part of the round, and what it makes of the rows.
    record HasPart : Type 0 where
      pub part : Option BrickPart
      pub is : parts_in cube brick round ≡ part_of_round part
      pub leads : IfSome part (λ p. Leads 0 p.entries (length p.rows))
      pub within : AllByRecursion (IsOfRound round.from round.epoch) (option_map_or part_view part [])
      pub counts : (c : CodedRow → Bool)
          → count_by c (rows_over_kept round.from rows_then (option_map_or part_view part []))
          ≡ count_by c rows_last

    part-leads : (part : Option BrickPart) → IfSome part IsWholePart
        → IfSome part (λ p. Leads 0 p.entries (length p.rows))
    part-leads None is = tt
    part-leads (Some p) is = is.vector.leads

    some-part : (c : RoundCube) → slice_get round.cubes cube ≡ Some c → HasPart
    some-part c is =
        let all = behind.all cube c is in
        let of_round =
        recursion_from_All (IsOfRound round.from round.epoch) copy
        (copied-bricks o copied client round.from round.epoch cube brick run-copied cube_rows behind.taken.rows).epochs
        in
        record {
          part = part_numbered brick c.bricks;
          is = ap (λ (x : Option RoundCube).
              option_map_or (λ (cube : RoundCube). filter (λ b. b.brick == brick) cube.bricks) x []) is
              ∙ one-of-number 0 brick c.bricks all.sound.rising;
          leads = part-leads (part_numbered brick c.bricks) (numbered-has IsWholePart brick c.bricks all.sound.whole);
          within = coe 1 0 (i. AllByRecursion (IsOfRound round.from round.epoch) (all.same brick i)) of_round;
          counts = λ t.
              ap (λ (entries : List BrickEntry). count_by t (rows_over_kept round.from rows_then entries))
              (all.same brick)
              ∙ counts-copied t;
        }

    no-part : length round.cubes ≤ cube → slice_get round.cubes cube ≡ None → HasPart
    no-part past is =
        let unmade = past-copied cube past in
        let then_none =
        none-left rows_then rows_first moved
        (ap (rows_of_brick o cube brick) (nothing-committed o copied cube round.from run-copied has.opens unmade))
        in
        let last_none =
        ap (rows_of_brick o cube brick)
        (committed cube round.epoch opened.committed
        ∙ nothing-committed o copied cube round.epoch run-copied has.opens unmade)
        in
        record {
          part = None;
          is = ap (λ (x : Option RoundCube).
              option_map_or (λ (cube : RoundCube). filter (λ b. b.brick == brick) cube.bricks) x []) is;
          leads = tt;
          within = tt;
          counts = λ t.
              ap (λ (rows : List CodedRow). count_by t (rows_over_kept round.from rows [])) then_none
              ∙ ap (count_by t) (over-none round.from every_epoch every_epoch [])
              ∙ ap (count_by t) (sym last_none);
        }

    part-there : HasPart
    part-there = elim (slice_get_cases round.cubes cube).1 [
      | inl there ↦ some-part there.0 there.2
      | inr none ↦ no-part none.0 none.1
    ]

    parts-then : parts_of_brick cube brick (kept.rounds ++ round ∷ []) ≡ parts ++ part_of_round part-there.part
    parts-then =
        flat_map-append (parts_in cube brick) kept.rounds (round ∷ [])
        ∙ ap (λ (l : List BrickPart). parts ++ l) (append-nil (parts_in cube brick round) ∙ part-there.is)

  pub rows-with-round : HasRowsOfRun o run (kept_with kept round)
  rows-with-round =
      let up = rises in
      record {
        opens = has.opens;
        joined = λ cube brick.
            let part = part-there cube brick in
            coe 1 0 (i. AreJoinedUpTo round.epoch (parts-then cube brick i)) (record {
              leads = leads-with-round round.from round.epoch (parts cube brick) (has.joined cube brick).leads
                  (low cube brick) (omega (arith, up)) part.part part.leads;
              epochs = epochs-with-round round.from round.epoch (parts cube brick) (has.joined cube brick).leads
                  (low cube brick) (omega (arith, up)) part.part part.within;
            });
        rows = λ cube brick.
            let part = part-there cube brick in
            permuted-by-counts
            (kept_rows_of_brick (reader_up_to round.epoch) cube brick (kept.rounds ++ round ∷ []))
            (rows_last cube brick) (λ c.
            ap (λ (all : List BrickPart).
            count_by c (rows_seen (reader_up_to round.epoch) (entries_joined 0 all) 0 (rows_joined all)))
            (parts-then cube brick)
            ∙ counts-with-round round.from round.epoch (parts cube brick) (has.joined cube brick).leads
            (low cube brick) (omega (arith, up)) c part.part part.leads part.within
            ∙ part.counts c);
      }
