use Rattle.cube_journal.proofs.Digits.{decimal-1, decimal-2, decimal-3, decimal-4, decimal-5, decimal-6, decimal-7, decimal-8, decimal-9, decimal-10, decimal-11, decimal-12, decimal-13, decimal-14, decimal-15, decimal-16, decimal-17, decimal-18, decimal-19, decimal-20, decimal-21, decimal-22, decimal-23, decimal-24, decimal-25, decimal-26, decimal-27, decimal-28, decimal-29, decimal-30, decimal-31}
use Rattle.cube_journal.proofs.written_refusals.refusals_as_written.Goals as goal

pub returns-clause-syntax : goal.returns-clause-syntax
returns-clause-syntax c = simp (decimal-1, decimal-12)

pub returns-clause-unknown_cube : goal.returns-clause-unknown_cube
returns-clause-unknown_cube c = simp decimal-2

pub returns-clause-unknown_column : goal.returns-clause-unknown_column
returns-clause-unknown_column c = simp decimal-3

pub returns-clause-wrong_kind : goal.returns-clause-wrong_kind
returns-clause-wrong_kind c = simp decimal-4

pub returns-clause-not_grouped : goal.returns-clause-not_grouped
returns-clause-not_grouped c = simp decimal-5

pub returns-clause-cuts_brick : goal.returns-clause-cuts_brick
returns-clause-cuts_brick c = simp decimal-6

pub returns-clause-bad_value : goal.returns-clause-bad_value
returns-clause-bad_value c = simp (decimal-1, decimal-7)

pub returns-clause-bad_count : goal.returns-clause-bad_count
returns-clause-bad_count c = simp (decimal-1, decimal-7)

pub returns-clause-no_such_file : goal.returns-clause-no_such_file
returns-clause-no_such_file c = simp decimal-8

pub returns-clause-file_too_long : goal.returns-clause-file_too_long
returns-clause-file_too_long c = simp (decimal-7, decimal-9)

pub returns-clause-too_many_rejected : goal.returns-clause-too_many_rejected
returns-clause-too_many_rejected c = simp (decimal-2, decimal-3, decimal-10)

pub returns-clause-read_fault : goal.returns-clause-read_fault
returns-clause-read_fault c = simp decimal-11

pub returns-clause-transaction_open : goal.returns-clause-transaction_open
returns-clause-transaction_open c = simp decimal-12

pub returns-clause-no_transaction : goal.returns-clause-no_transaction
returns-clause-no_transaction c = simp decimal-13

pub returns-clause-transaction_aborted : goal.returns-clause-transaction_aborted
returns-clause-transaction_aborted c = simp decimal-14

pub returns-clause-dictionary_full : goal.returns-clause-dictionary_full
returns-clause-dictionary_full c = simp decimal-15

pub returns-clause-no_memory : goal.returns-clause-no_memory
returns-clause-no_memory c = simp decimal-16

pub returns-clause-store_failed : goal.returns-clause-store_failed
returns-clause-store_failed c = simp decimal-17

pub returns-clause-shard_full : goal.returns-clause-shard_full
returns-clause-shard_full c = simp (decimal-4, decimal-5, decimal-18)

pub returns-clause-cube_exists : goal.returns-clause-cube_exists
returns-clause-cube_exists c = simp decimal-19

pub returns-clause-bad_cube : goal.returns-clause-bad_cube
returns-clause-bad_cube c = simp decimal-20

pub returns-clause-bad_range : goal.returns-clause-bad_range
returns-clause-bad_range c = simp decimal-20

pub returns-clause-too_many_cubes : goal.returns-clause-too_many_cubes
returns-clause-too_many_cubes c = simp decimal-21

pub returns-clause-read_only : goal.returns-clause-read_only
returns-clause-read_only c = simp decimal-22

pub returns-clause-watch_open : goal.returns-clause-watch_open
returns-clause-watch_open c = simp decimal-23

pub returns-clause-no_watch : goal.returns-clause-no_watch
returns-clause-no_watch c = simp decimal-24

pub returns-clause-not_watchable : goal.returns-clause-not_watchable
returns-clause-not_watchable c = simp decimal-25

pub returns-clause-not_an_item : goal.returns-clause-not_an_item
returns-clause-not_an_item c = simp decimal-26

pub returns-clause-bad_having : goal.returns-clause-bad_having
returns-clause-bad_having c = simp decimal-27

pub returns-clause-no_such_open : goal.returns-clause-no_such_open
returns-clause-no_such_open c = simp (decimal-1, decimal-28)

pub returns-clause-no_such_entry : goal.returns-clause-no_such_entry
returns-clause-no_such_entry c = simp decimal-29

pub returns-clause-too_many_open : goal.returns-clause-too_many_open
returns-clause-too_many_open c = simp decimal-30

pub returns-clause-spent : goal.returns-clause-spent
returns-clause-spent c = simp (decimal-7, decimal-31)
