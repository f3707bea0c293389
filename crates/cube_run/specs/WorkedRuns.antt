-- Small runs over one cube: a session that watches; two sessions, of which one has a transaction open; and a session
-- that meets refusals and faults.
-- Source: this project's own.
use Rattle.std.specs.Prelude.{ℕ, false, List, [], ◌∷◌, ◌++◌, codes, None, Ok, Err, pos}
use Rattle.cube_values.specs.declared.value.Value.TheVariants.{Int}
use Rattle.cube_language.specs.declared.bad_row.BadRow.TheVariants.{Column}
use Rattle.cube_language.specs.declared.bad_row.Reason.TheVariants.{OutOfRange}
use Rattle.cube_language.specs.declared.decl.Decl.{Decl}
use Rattle.cube_language.specs.declared.statement.Item.{Item}
use Rattle.cube_language.specs.declared.statement.Item.TheVariants.{Sum, CountAll}
use Rattle.cube_language.specs.declared.statement.Statement.{Statement}
use Rattle.cube_language.specs.declared.statement.Statement.TheVariants as statement
use Rattle.cube_journal.specs.declared.journal_entry.AbortCause.TheVariants.{TooManyRejected}
use Rattle.cube_journal.specs.declared.journal_entry.JournalEntry.{JournalEntry}
use Rattle.cube_journal.specs.declared.journal_entry.JournalEntry.TheVariants.{Begin, Read, ReadEnd, Committed, Aborted, Refused, Cleared, Show, Flushed, Purged, Cube, Round, Idle, Safe}
use Rattle.cube_run.specs.RunRecords.{RunRecord, Sentence, Says, LoadedFile, Missing, Records}

-- A dimension x of five numbers, in ranges of two, and a metric m.
abbrev pub small_cube : Decl
small_cube = record {
  name = codes "t";
  dims = record { name = codes "x"; text = false; cardinality = 5; range = 2 } ∷ [];
  metrics = codes "m" ∷ [];
}

-- INSERT INTO t VALUES (x, m)
abbrev pub small_insert : ℕ → ℕ → Statement
small_insert x m = statement.Insert (codes "t") ((Int (pos x) ∷ Int (pos m) ∷ []) ∷ [])

-- SUM(m), COUNT(*)
abbrev pub sum_and_count_items : List Item
sum_and_count_items = Sum (codes "m") ∷ CountAll ∷ []

-- WATCH SELECT SUM(m), COUNT(*) FROM t
abbrev pub small_watch : Statement
small_watch = statement.Watch sum_and_count_items (codes "t") [] []

-- DELETE FROM t
abbrev pub small_delete : Statement
small_delete = statement.Delete (codes "t") []

-- SELECT SUM(m), COUNT(*) FROM t
abbrev pub small_select : Statement
small_select = statement.Select sum_and_count_items (codes "t") [] [] [] [] None

-- A run of these scripts with this journal, over the small cube and without a store.
abbrev pub small_run : List (List Sentence) → List JournalEntry → RunRecord
small_run scripts journal = record {
  safe = 0;
  kept = [];
  kept_names = [];
  cubes = small_cube ∷ [];
  scripts = scripts;
  file = λ session statement. Missing;
  round_every = 0;
  names = [];
  journal = journal;
}

-- A watch that is shown twice. Its readers are held by the numbers 17 and 33 in turn.
abbrev pub watched_run : RunRecord
watched_run = small_run
    ((Says small_watch ∷ Says (small_insert 0 5) ∷ Says statement.ShowWatch ∷ Says small_delete
    ∷ Says statement.ShowWatch ∷ []) ∷ [])
    (Read 17 1 0
    ∷ Begin 1 2 1 [] ∷ Committed 1 2 1
    ∷ Read 33 3 1 ∷ ReadEnd 17 3
    ∷ Begin 1 4 2 [] ∷ Committed 1 4 2
    ∷ Read 17 5 2 ∷ ReadEnd 33 5
    ∷ ReadEnd 17 6
    ∷ Round 2 ∷ Safe 2 ∷ [])

-- Its text.
abbrev pub watched_text : List ℕ
watched_text =
    codes "session 1\n1.1 watching 1 epoch 0\nNULL,0\n1.2 stored 1 epoch 1\n1.3 watching 1 epoch 1\n5,1\n"
    ++ (codes "1.4 dropped epoch 2\n1.5 watching 1 epoch 2\nNULL,0\n"
    ++ (codes "journal 12\nread 17.1 epoch 0\nbegin 1.2 epoch 1 deps []\ncommitted 1.2 epoch 1\n"
    ++ (codes "read 33.3 epoch 1\nreadend 17.3\nbegin 1.4 epoch 2 deps []\ncommitted 1.4 epoch 2\n"
    ++ codes "read 17.5 epoch 2\nreadend 33.5\nreadend 17.6\nround 2\nsafe 2\nend ec 3 lce 2 lse 2\n")))

-- Session 1 has a transaction open, in which it reads what it has stored, and commits once too often. Session 2 stores
-- a row beside it, which is unseen while the older transaction is pending.
abbrev pub paired_run : RunRecord
paired_run = small_run
    ((Says statement.Begin ∷ Says (small_insert 0 5) ∷ Says small_select ∷ Says statement.Commit
    ∷ Says statement.Commit ∷ [])
    ∷ (Says (small_insert 1 7) ∷ Says small_select ∷ []) ∷ [])
    (Begin 1 1 1 []
    ∷ Begin 2 1 2 (1 ∷ []) ∷ Committed 2 1 2
    ∷ Read 2 2 0 ∷ ReadEnd 2 2
    ∷ Committed 1 4 1
    ∷ Refused 1 5 13
    ∷ Round 2 ∷ Safe 2 ∷ [])

-- Its text.
abbrev pub paired_text : List ℕ
paired_text =
    codes "session 1\n1.1 begun 1\n1.2 stored 1 epoch 1\n1.3 rows 1 epoch 1\n5,1\n1.4 committed 1\n"
    ++ (codes "1.5 refused 13 NoTransaction\nsession 2\n2.1 stored 1 epoch 2\n2.2 rows 1 epoch 0\nNULL,0\n"
    ++ (codes "journal 9\nbegin 1.1 epoch 1 deps []\nbegin 2.1 epoch 2 deps [1]\ncommitted 2.1 epoch 2\n"
    ++ (codes "read 2.2 epoch 0\nreadend 2.2\ncommitted 1.4 epoch 1\nrefused 1.5 code 13\n"
    ++ codes "round 2\nsafe 2\nend ec 3 lce 2 lse 2\n")))

-- A cube of a metric k alone.
abbrev pub other_cube : Decl
other_cube = record { name = codes "u"; dims = []; metrics = codes "k" ∷ [] }

-- A file of two records: a row, and a value outside its dimension.
abbrev pub small_file : LoadedFile
small_file = Records (λ d.
    Ok (record { dims = Int (pos 4) ∷ []; metrics = pos 1 ∷ [] })
    ∷ Err (Column (codes "x") OutOfRange) ∷ [])

-- LOAD t FROM 'h' REJECT reject
abbrev pub small_load : ℕ → Statement
small_load reject = statement.Load (codes "t") (codes "h") reject

-- SELECT COUNT(*) FROM w
abbrev pub lost_select : Statement
lost_select = statement.Select (CountAll ∷ []) (codes "w") [] [] [] [] None

-- A session makes a cube, loads a file twice, has its transaction aborted by it, and asks for a round and a purge.
abbrev pub faulty_run : RunRecord
faulty_run = record (small_run
    ((Says (statement.CreateCube other_cube) ∷ Says (statement.CreateCube other_cube) ∷ Says (small_load 1)
    ∷ Says statement.Begin ∷ Says (small_load 0) ∷ Says statement.Commit ∷ Says statement.Rollback
    ∷ Says statement.Flush ∷ Says statement.Purge ∷ Says statement.ShowEpochs ∷ Says lost_select ∷ []) ∷ [])
    (Cube 1 1 1
    ∷ Refused 1 2 19
    ∷ Begin 1 3 2 [] ∷ Committed 1 3 2
    ∷ Begin 1 4 3 []
    ∷ Aborted 1 5 3 TooManyRejected
    ∷ Refused 1 6 14
    ∷ Cleared 1 7
    ∷ Round 3 ∷ Safe 3 ∷ Flushed 1 8
    ∷ Purged 1 9 3
    ∷ Show 1 10
    ∷ Refused 1 11 2
    ∷ Idle 3 ∷ [])) { file = λ session statement. small_file }

-- Its text.
abbrev pub faulty_text : List ℕ
faulty_text =
    codes "session 1\n1.1 created epoch 1\n1.2 refused 19 CubeExists u\n1.3 stored 1 rejected 1 epoch 2\n"
    ++ (codes "reject 2 column x OutOfRange\n1.4 begun 3\n1.5 refused 10 TooManyRejected 1 allowed 0\n"
    ++ (codes "1.6 refused 14 TransactionAborted\n1.7 rolled back 3\n1.8 flushed 3\n1.9 purged 3\n"
    ++ (codes "1.10 epochs ec 4 lce 3 lse 3 pending []\n1.11 refused 2 UnknownCube w\n"
    ++ (codes "journal 15\ncube 1.1 epoch 1\nrefused 1.2 code 19\nbegin 1.3 epoch 2 deps []\ncommitted 1.3 epoch 2\n"
    ++ (codes "begin 1.4 epoch 3 deps []\naborted 1.5 epoch 3 TooManyRejected\nrefused 1.6 code 14\ncleared 1.7\n"
    ++ (codes "round 3\nsafe 3\nflushed 1.8\npurged 1.9 epoch 3\nshow 1.10\nrefused 1.11 code 2\nidle 3\n"
    ++ codes "end ec 4 lce 3 lse 3\n"))))))
