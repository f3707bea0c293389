-- The whole run is a run.
use Rattle.std.proofs.Common.{◌≡◌, ◌∙◌, ℕ, ◌%◌, ◌<◌, ◌≤◌, ◌==◌, Bool, true, false, List, [], ◌∷◌, inl, inr, refl, sym, ap, arith, eq-eqb, ne_eqb, if◌then◌else◌}
use Rattle.std.specs.List.{Contains}
use Rattle.std.proofs.lemmas.Bool.{false≢true}
use Rattle.std.proofs.lemmas.List.Elements.{All-cons, All-nil}
use Rattle.cube_values.specs.declared.query.BoundItem.TheVariants.{Count}
use Rattle.cube_values.specs.declared.row.CodedRow.{CodedRow}
use Rattle.cube_values.specs.Queries.{IsSoundItem, IsSoundQuery}
use Rattle.cube_language.specs.Grammar.{IsProperColumn}
use Rattle.cube_language.specs.Keywords.{keyword_of}
use Rattle.cube_language.specs.declared.decl.Column.TheVariants as column
use Rattle.brick_address.specs.Addresses.{AreCoords}
use Rattle.core_events.specs.ShardView.{BrickEntry, RowRun, brick_rows_seen, entries_of_round, rows_appended, rows_over_kept, rows_where}
use Rattle.core_events.specs.Events.{CoreEvent, By, At}
use Rattle.core_events.specs.Clients.{ClientState, client_state, reader_up_to}
use Rattle.core_events.specs.Cells.{brick_after_move, rows_of_brick, shard_view_of, counters_of_run}
use Rattle.core_events.specs.Fitting.{CanBeMade, MayPutRow}
use Rattle.core_events.specs.Runs.{IsCoreRun, AreByBrick, IsBrickCopy, rows_in_span, rows_shown_besides, sight_of_reader}
use Rattle.core_events.proofs.RoundEntries.{IsOfRound, all-of-round, rows-of-round}
use Rattle.core_serial.specs.Queries.{HasAnswered, rows_fetched}
use Rattle.core_cases.specs.SmallRun.{small_shape, small_row, small_query}
use Rattle.core_cases.specs.WholeRun.{whole_cube, whole_opening, whole_reader, whole_opened, whole_written, whole_asked, whole_watched, whole_rows, whole_round, whole_saved, whole_purged, whole_reads, whole_events}
use Rattle.core_cases.proofs.SmallRun.{flushes, no-texts, one-shard}

-- Its cube can be made.
can-be-made : CanBeMade whole_cube
unfolding keyword_of
can-be-made = record {
  proper = (refl, (omega arith, All-cons IsProperColumn (column.Dim (record { name = 100 ∷ []; text = false; cardinality = 4; range = 2 })) (column.Metric (109 ∷ []) ∷ []) (record { name = refl; cardinality = omega arith; range = omega arith }) (All-cons IsProperColumn (column.Metric (109 ∷ [])) [] refl (All-nil IsProperColumn))));
  storable = refl;
}

put-row : (k : ClientState) → MayPutRow whole_opening 0 0 k small_row
put-row k = record {
  coords = (omega arith, tt);
  of_shard = refl;
  metrics = refl;
  names = λ dim coord text at. absurd (no-texts dim text);
}

sound-query : IsSoundQuery small_query 1 1
sound-query = record {
  span = refl;
  group = All-nil (λ (dim : ℕ). dim < 1);
  items = All-cons (IsSoundItem [] 1) Count [] tt (All-nil (IsSoundItem [] 1));
}

-- Each brick is of the one shard, whose mail has the number 0.
abbrev plain_view : List CoreEvent → ℕ → List BrickEntry
plain_view [] brick = RowRun 0 [] ∷ []
plain_view (By client call ∷ es) brick = plain_view es brick
plain_view (At mail move ∷ es) brick = brick_after_move whole_opening (mail == 0) 0 brick move (plain_view es brick)

plain : (es : List CoreEvent) (brick : ℕ) → shard_view_of whole_opening es 0 brick ≡ plain_view es brick
plain [] brick = refl
plain (By client call ∷ es) brick = plain es brick
plain (At mail move ∷ es) brick = λ i. brick_after_move whole_opening (mail == one-shard brick i) 0 brick move (plain es brick i)

found-by : (rows : List CodedRow) (f : List BrickEntry → List CodedRow) (es : List CoreEvent)
    → ((brick : ℕ) → rows_of_brick whole_opening 0 brick rows ≡ f (plain_view es brick))
    → AreByBrick whole_opening 0 0 rows (λ brick. f (shard_view_of whole_opening es 0 brick))
found-by rows f es each brick =
    each brick ∙ (λ i. rows_where (sym (eq-eqb (brick % 1) 0 (one-shard brick)) i) (f (sym (plain es brick) i)))

-- The row is in the brick or not.
in-span : (here : Bool) → (if here then small_row ∷ [] else []) ≡ rows_in_span small_query.span (if here then small_row ∷ [] else [])
in-span true = refl
in-span false = refl

opened : IsCoreRun whole_opening whole_opened
opened = (
  (
    (
      record {
        some = omega arith;
        shards = omega arith;
        sessions = omega arith;
        safe = omega arith;
        cubes = omega arith;
        rows = λ cube. All-nil (λ row. AreCoords small_shape.shape.sizes row.coords);
        none = λ begins cube. refl;
      },
      record { fits = (record { session = record { first = omega arith; last = omega arith }; under = inl refl; free = refl; ready = refl }, can-be-made); says = refl },
    ),
    record { fits = record { session = record { first = omega arith; last = omega arith }; under = inr (inl refl); free = refl; ready = refl }; says = refl },
  ),
  record { fits = record { session = record { first = omega arith; last = omega arith }; under = inl refl; free = refl; ready = refl }; says = (refl, refl) },
)

written : IsCoreRun whole_opening whole_written
written = (
  (
    (
      (
        (
          (
            opened,
            record { fits = record { goes = omega arith; bears = record { session = record { first = omega arith; last = omega arith }; writer = (refl, refl); there = omega arith; of_cube = All-cons (MayPutRow whole_opening 0 0 (client_state whole_opening 1 whole_opened)) small_row [] (put-row (client_state whole_opening 1 whole_opened)) (All-nil (MayPutRow whole_opening 0 0 (client_state whole_opening 1 whole_opened))) }; group = inl (record { ended = refl; next = refl }) }; says = tt },
          ),
          record { there = omega arith; fits = tt; says = refl },
        ),
        record { there = omega arith; fits = (refl, λ e. false≢true (ap flushes e)); says = tt },
      ),
      record { there = omega arith; fits = (refl, refl); says = tt },
    ),
    record { fits = refl; says = refl },
  ),
  record { fits = record { session = record { first = omega arith; last = omega arith }; writer = (refl, refl); ready = refl }; says = tt },
)

asked : IsCoreRun whole_opening whole_asked
asked = (
  (
    (
      written,
      record { fits = record { session = record { first = omega arith; last = omega arith }; under = inr (inr refl); free = refl; ready = refl }; says = refl },
    ),
    record { fits = record { goes = omega arith; bears = record { session = record { first = omega arith; last = omega arith }; sound = record { there = omega arith; sound = sound-query }; readers = refl }; group = inl (record { ended = refl; next = refl }) }; says = tt },
  ),
  record { there = omega arith; fits = tt; says = refl },
)

came : AreByBrick whole_opening 0 0 (small_row ∷ [])
    (λ brick. rows_in_span small_query.span
    (rows_shown_besides (sight_of_reader 2) (sight_of_reader 1) (shard_view_of whole_opening whole_asked 0 brick)))
came = found-by (small_row ∷ [])
    (λ entries. rows_in_span small_query.span (rows_shown_besides (sight_of_reader 2) (sight_of_reader 1) entries)) whole_asked
    (λ brick. in-span (1 == brick))

went : AreByBrick whole_opening 0 0 []
    (λ brick. rows_in_span small_query.span
    (rows_shown_besides (sight_of_reader 1) (sight_of_reader 2) (shard_view_of whole_opening whole_asked 0 brick)))
went = found-by []
    (λ entries. rows_in_span small_query.span (rows_shown_besides (sight_of_reader 1) (sight_of_reader 2) entries)) whole_asked
    (λ brick. refl)

watched : IsCoreRun whole_opening whole_watched
watched = (
  (
    (
      (
        asked,
        record { there = omega arith; fits = (refl, λ e. false≢true (ap flushes e)); says = record { comes = came; goes = went } },
      ),
      record { there = omega arith; fits = (refl, refl); says = tt },
    ),
    record { fits = refl; says = refl },
  ),
  record { fits = record { session = record { first = omega arith; last = omega arith }; under = inr (inl refl); reader = refl; ready = refl }; says = tt },
)

round : IsCoreRun whole_opening whole_round
round = (
  (
    (
      (
        (
          watched,
          record { fits = record { goes = refl; bears = record { first = omega arith; last = omega arith }; group = inl (record { ended = refl; next = refl }) }; says = tt },
        ),
        record { there = omega arith; fits = tt; says = refl },
      ),
      record { fits = record { flusher = refl; none = refl; store = refl; ready = refl }; says = refl },
    ),
    record { fits = record { goes = omega arith; bears = (refl, record { ends = refl; begins = inl refl; first = refl }); group = inl (record { ended = refl; next = refl }) }; says = tt },
  ),
  record { there = omega arith; fits = tt; says = refl },
)

-- What the shard has of a brick: the cube is the one that was made, and the brick is that of the row, or not.
abbrev view_where : Bool → Bool → List BrickEntry
view_where cube brick = if cube then RowRun 2 (if brick then small_row ∷ [] else []) ∷ RowRun 0 [] ∷ [] else RowRun 0 [] ∷ []

abbrev own_view : ℕ → List CoreEvent → ℕ → List BrickEntry
own_view cube [] brick = RowRun 0 [] ∷ []
own_view cube (By client call ∷ es) brick = own_view cube es brick
own_view cube (At mail move ∷ es) brick = brick_after_move whole_opening (mail == 0) cube brick move (own_view cube es brick)

own : (cube : ℕ) (es : List CoreEvent) (brick : ℕ) → shard_view_of whole_opening es cube brick ≡ own_view cube es brick
own cube [] brick = refl
own cube (By client call ∷ es) brick = own cube es brick
own cube (At mail move ∷ es) brick = λ i. brick_after_move whole_opening (mail == one-shard brick i) cube brick move (own cube es brick i)

view-is : (cube brick : ℕ) → shard_view_of whole_opening whole_round cube brick ≡ view_where (0 == cube) (1 == brick)
view-is cube brick = own cube whole_round brick

nothing-copied : (entries : List BrickEntry)
    → rows_over_kept 0 (brick_rows_seen (reader_up_to 0) entries) []
    ≡ rows_over_kept 0 (brick_rows_seen (reader_up_to 0) entries) (entries_of_round 0 2 entries) → IsBrickCopy 0 2 entries []
nothing-copied entries shows = record {
  epochs = All-nil (IsOfRound 0 2);
  rows = All-nil (Contains (rows_appended entries));
  shows = shows;
}

copied-where : (cube brick : Bool) → let entries = view_where cube brick in
    IsBrickCopy 0 2 entries (if brick then entries_of_round 0 2 entries else [])
copied-where cube true = record {
  epochs = all-of-round 0 2 (view_where cube true);
  rows = rows-of-round 0 2 (view_where cube true);
  shows = refl;
}
copied-where true false = nothing-copied (view_where true false) refl
copied-where false false = nothing-copied (view_where false false) refl

whole-copied : (cube brick : ℕ) → IsBrickCopy 0 2 (shard_view_of whole_opening whole_round cube brick) (whole_rows cube brick)
whole-copied cube brick =
    coe 1 0 (i. IsBrickCopy 0 2 (view-is cube brick i) (if 1 == brick then entries_of_round 0 2 (view-is cube brick i) else []))
    (copied-where (0 == cube) (1 == brick))

none-copied : (cube brick : ℕ) → 2 ≤ brick → whole_rows cube brick ≡ []
none-copied cube brick past =
    ap (λ (b : Bool). if b then entries_of_round 0 2 (shard_view_of whole_opening whole_round cube brick) else [])
    (ne_eqb 1 brick (λ same. omega (arith, past, same)))

saved : IsCoreRun whole_opening whole_saved
saved = (
  (
    (
      (
        (
          (
            (
              (
                round,
                record { there = omega arith; fits = (refl, λ e. false≢true (ap flushes e)); says = record { own = λ cube brick own. whole-copied cube brick; others = none-copied } },
              ),
              record { there = omega arith; fits = (refl, refl); says = tt },
            ),
            record { fits = refl; says = refl },
          ),
          record { fits = (omega arith, record { from = 0; copies = refl; done = record { all = refl; fetched = refl; none = refl } }); says = refl },
        ),
        record { fits = record { flusher = refl; round = refl; fetched = refl }; says = tt },
      ),
      record { there = omega arith; fits = (refl, refl); says = tt },
    ),
    record { fits = refl; says = refl },
  ),
  record { fits = record { session = record { first = omega arith; last = omega arith }; ready = refl; allowed = (refl, refl) }; says = refl },
)

purged : IsCoreRun whole_opening whole_purged
purged = (
  (
    (
      (
        (
          (
            saved,
            record { fits = record { goes = omega arith; bears = (omega arith, omega arith); group = inl (record { ended = refl; next = refl }) }; says = tt },
          ),
          record { there = omega arith; fits = tt; says = refl },
        ),
        record { there = omega arith; fits = (refl, λ e. false≢true (ap flushes e)); says = tt },
      ),
      record { there = omega arith; fits = (refl, refl); says = tt },
    ),
    record { fits = refl; says = refl },
  ),
  record { fits = record { session = record { first = omega arith; last = omega arith }; ready = refl; allowed = (refl, record { purges = refl; done = record { all = refl; fetched = refl; none = refl }; shown = refl }) }; says = refl },
)

reads : IsCoreRun whole_opening whole_reads
reads = (
  (
    (
      purged,
      record { fits = record { session = record { first = omega arith; last = omega arith }; under = inl refl; free = refl; ready = refl }; says = refl },
    ),
    record { fits = record { goes = omega arith; bears = record { session = record { first = omega arith; last = omega arith }; sound = record { there = omega arith; sound = sound-query }; held = inl refl }; group = inl (record { ended = refl; next = refl }) }; says = tt },
  ),
  record { there = omega arith; fits = tt; says = refl },
)

found : AreByBrick whole_opening 0 0 (small_row ∷ [])
    (λ brick. rows_in_span small_query.span (brick_rows_seen whole_reader (shard_view_of whole_opening whole_reads 0 brick)))
found = found-by (small_row ∷ []) (λ entries. rows_in_span small_query.span (brick_rows_seen whole_reader entries)) whole_reads
    (λ brick. in-span (1 == brick))

pub whole-run : IsCoreRun whole_opening whole_events
whole-run = (
  (
    (
      reads,
      record { there = omega arith; fits = (refl, λ e. false≢true (ap flushes e)); says = found },
    ),
    record { there = omega arith; fits = (refl, refl); says = tt },
  ),
  record { fits = refl; says = refl },
)

pub whole-answer : HasAnswered 1 small_query whole_reader (client_state whole_opening 1 whole_events).group
whole-answer = record { asks = refl; done = record { all = refl; fetched = refl; none = refl } }

pub whole-rows : rows_fetched (client_state whole_opening 1 whole_events).group.answers ≡ small_row ∷ []
whole-rows = refl

pub whole-safe : (counters_of_run whole_opening whole_events).lse ≡ 2
whole-safe = refl
