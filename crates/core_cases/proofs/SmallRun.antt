-- The small run is a run, and its query is answered.
use Rattle.std.proofs.Common.{◌≡◌, ℕ, zero, suc, ◌%◌, ◌<◌, ◌==◌, Bool, true, false, List, [], ◌∷◌, slice_get, Some, inl, refl, sym, ap, arith, eq-eqb, if◌then◌else◌}
use Rattle.std.proofs.lemmas.Bool.{false≢true}
use Rattle.std.proofs.lemmas.Option.{none-some, same_Some}
use Rattle.std.proofs.lemmas.List.Elements.{All-cons, All-nil}
use Rattle.cube_values.specs.declared.query.BoundItem.TheVariants.{Count}
use Rattle.cube_values.specs.Queries.{IsSoundItem}
use Rattle.core_events.specs.ShardView.{BrickEntry, RowRun, brick_rows_seen, rows_where}
use Rattle.core_events.specs.Jobs.{CoreJob, Flush, Done}
use Rattle.core_events.specs.Events.{OnDesk, OpenWrite, OpenRead, Post, Take, Work, Reply, CoreEvent, By, At}
use Rattle.core_events.specs.Clients.{ClientState, client_state}
use Rattle.core_events.specs.Cells.{brick_after_move, rows_of_brick}
use Rattle.core_events.specs.Fitting.{MayPutRow}
use Rattle.core_events.specs.Runs.{IsCoreRun, AreByBrick, rows_in_span}
use Rattle.core_serial.specs.Queries.{HasAnswered, rows_asked, rows_fetched}
use Rattle.brick_address.specs.Addresses.{AreCoords}
use Rattle.core_cases.specs.SmallRun.{small_shape, small_opening, small_row, small_query, small_reader, small_put, small_scan, small_write, small_events}

abbrev pub flushes : CoreJob → Bool
flushes Flush = true
flushes job = false

pub no-texts : (dim : ℕ) → slice_get (false ∷ []) dim ≡ Some true → ⊥
no-texts zero e = false≢true (same_Some false true e)
no-texts (suc dim) e = none-some true e

put-row : (k : ClientState) → MayPutRow small_opening 0 0 k small_row
put-row k = record {
  coords = (omega arith, tt);
  of_shard = refl;
  metrics = refl;
  names = λ dim coord text at. absurd (no-texts dim text);
}

written : IsCoreRun small_opening small_write
written = (
  (
    (
      (
        (
          (
            (
              record {
                some = omega arith;
                shards = omega arith;
                sessions = omega arith;
                safe = omega arith;
                cubes = omega arith;
                rows = λ cube. All-nil (λ row. AreCoords small_shape.shape.sizes row.coords);
                none = λ begins cube. refl;
              },
              record {
                fits = record { session = record { first = omega arith; last = omega arith }; under = inl refl; free = refl; ready = refl };
                says = (refl, refl);
              },
            ),
            record {
              fits = record {
                goes = omega arith;
                bears = record {
                  session = record { first = omega arith; last = omega arith };
                  writer = (refl, refl);
                  there = omega arith;
                  of_cube = All-cons (MayPutRow small_opening 0 0 (client_state small_opening 1 (By 1 (OnDesk (OpenWrite 1 1 [])) ∷ []))) small_row []
                      (put-row (client_state small_opening 1 (By 1 (OnDesk (OpenWrite 1 1 [])) ∷ [])))
                      (All-nil (MayPutRow small_opening 0 0 (client_state small_opening 1 (By 1 (OnDesk (OpenWrite 1 1 [])) ∷ []))));
                };
                group = inl (record { ended = refl; next = refl });
              };
              says = tt;
            },
          ),
          record { there = omega arith; fits = tt; says = refl },
        ),
        record { there = omega arith; fits = (refl, λ e. false≢true (ap flushes e)); says = tt },
      ),
      record { there = omega arith; fits = (refl, refl); says = tt },
    ),
    record { fits = refl; says = refl },
  ),
  record {
    fits = record { session = record { first = omega arith; last = omega arith }; writer = (refl, refl); ready = refl };
    says = tt;
  },
)

-- Each brick is of the one shard.
pub one-shard : (brick : ℕ) → brick % 1 ≡ 0
one-shard brick = omega arith

-- What was there before the scan.
abbrev small_past : List CoreEvent
small_past = At 0 (Take 1 small_scan) ∷ By 1 (Post 0 small_scan) ∷ By 1 (OnDesk (OpenRead 1 2 1)) ∷ small_write

-- The brick's entries, by whether the shard is its own.
abbrev entries_there : Bool → ℕ → List BrickEntry
entries_there here brick =
    brick_after_move small_opening here 0 brick (Take 1 small_scan)
    (brick_after_move small_opening here 0 brick (Reply 1 Done)
    (brick_after_move small_opening here 0 brick (Work small_put Done)
    (brick_after_move small_opening here 0 brick (Take 1 small_put)
    (RowRun 0 (rows_of_brick small_opening 0 brick []) ∷ []))))

abbrev IsFound : Bool → Bool → ℕ → Type 0
IsFound here own brick = rows_of_brick small_opening 0 brick (small_row ∷ [])
    ≡ rows_where own (rows_in_span small_query.span (brick_rows_seen small_reader (entries_there here brick)))

-- The row is in the brick or not.
taken : (here : Bool) → (if here then small_row ∷ [] else []) ≡ rows_in_span small_query.span (if here then small_row ∷ [] else [])
taken true = refl
taken false = refl

found : AreByBrick small_opening 0 0 (small_row ∷ []) (rows_asked small_opening small_past small_query small_reader)
found brick =
    let same : 0 ≡ brick % 1 = sym (one-shard brick) in
    coe 1 0 (i. IsFound (eq-eqb 0 (brick % 1) same i) (eq-eqb (brick % 1) 0 (one-shard brick) i) brick) (taken (1 == brick))

pub small-run : IsCoreRun small_opening small_events
small-run = (
  (
    (
      (
        (
          (
            written,
            record {
              fits = record { session = record { first = omega arith; last = omega arith }; under = inl refl; free = refl; ready = refl };
              says = refl;
            },
          ),
          record {
            fits = record {
              goes = omega arith;
              bears = record {
                session = record { first = omega arith; last = omega arith };
                sound = record {
                  there = omega arith;
                  sound = record {
                    span = refl;
                    group = All-nil (λ (dim : ℕ). dim < 1);
                    items = All-cons (IsSoundItem [] 1) Count [] tt (All-nil (IsSoundItem [] 1));
                  };
                };
                held = inl refl;
              };
              group = inl (record { ended = refl; next = refl });
            };
            says = tt;
          },
        ),
        record { there = omega arith; fits = tt; says = refl },
      ),
      record { there = omega arith; fits = (refl, λ e. false≢true (ap flushes e)); says = found },
    ),
    record { there = omega arith; fits = (refl, refl); says = tt },
  ),
  record { fits = refl; says = refl },
)

pub small-answer : HasAnswered 1 small_query small_reader (client_state small_opening 1 small_events).group
small-answer = record { asks = refl; done = record { all = refl; fetched = refl; none = refl } }

pub small-rows : rows_fetched (client_state small_opening 1 small_events).group.answers ≡ small_row ∷ []
small-rows = refl
