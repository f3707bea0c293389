-- A small run whole: a session stores four rows, one by one, and asks one query.
-- Source: this project's own.
use Rattle.std.specs.Prelude.{ℕ, true, List, [], ◌∷◌, ◌++◌, codes, None, pos}
use Rattle.cube_values.specs.declared.value.Value.TheVariants.{Text, Int}
use Rattle.cube_language.specs.declared.decl.Decl.{Decl}
use Rattle.cube_language.specs.declared.statement.Item.TheVariants.{Plain, Sum, CountAll}
use Rattle.cube_language.specs.declared.statement.Statement.{Statement}
use Rattle.cube_language.specs.declared.statement.Statement.TheVariants.{Select, Insert}
use Rattle.cube_journal.specs.declared.journal_entry.JournalEntry.{JournalEntry}
use Rattle.cube_journal.specs.declared.journal_entry.JournalEntry.TheVariants.{Begin, Committed, Read, ReadEnd, Round, Safe}
use Rattle.cube_run.specs.RunRecords.{RunRecord, Says, Missing}

-- Visits by region and gender, with likes and comments.
abbrev pub visits_cube : Decl
visits_cube = record {
  name = codes "visits";
  dims = record { name = codes "region"; text = true; cardinality = 4; range = 2 }
      ∷ record { name = codes "gender"; text = true; cardinality = 4; range = 1 } ∷ [];
  metrics = codes "likes" ∷ codes "comments" ∷ [];
}

-- INSERT INTO visits VALUES (region, gender, likes, comments)
abbrev pub visit_insert : List ℕ → List ℕ → ℕ → ℕ → Statement
visit_insert region gender likes comments =
    Insert (codes "visits") ((Text region ∷ Text gender ∷ Int (pos likes) ∷ Int (pos comments) ∷ []) ∷ [])

-- SELECT region, SUM(likes), COUNT(*) FROM visits GROUP BY region
abbrev pub likes_by_region : Statement
likes_by_region =
    Select (Plain (codes "region") ∷ Sum (codes "likes") ∷ CountAll ∷ []) (codes "visits") [] (codes "region" ∷ [])
    [] [] None

abbrev pub visits_journal : List JournalEntry
visits_journal =
    Begin 1 1 1 [] ∷ Committed 1 1 1
    ∷ Begin 1 2 2 [] ∷ Committed 1 2 2
    ∷ Begin 1 3 3 [] ∷ Committed 1 3 3
    ∷ Begin 1 4 4 [] ∷ Committed 1 4 4
    ∷ Read 1 5 4 ∷ ReadEnd 1 5
    ∷ Round 4 ∷ Safe 4 ∷ []

abbrev pub visits_report : RunRecord
visits_report = record {
  safe = 0;
  kept = [];
  kept_names = [];
  cubes = visits_cube ∷ [];
  scripts = (Says (visit_insert (codes "CA") (codes "M") 3 1)
      ∷ Says (visit_insert (codes "NY") (codes "F") 5 0)
      ∷ Says (visit_insert (codes "CA") (codes "F") 2 4)
      ∷ Says (visit_insert (codes "TX") (codes "M") 7 2)
      ∷ Says likes_by_region ∷ []) ∷ [];
  file = λ session statement. Missing;
  round_every = 0;
  names = ((codes "CA" ∷ codes "NY" ∷ codes "TX" ∷ []) ∷ (codes "M" ∷ codes "F" ∷ []) ∷ []) ∷ [];
  journal = visits_journal;
}

-- Its text.
abbrev pub visits_text : List ℕ
visits_text =
    codes "session 1\n1.1 stored 1 epoch 1\n1.2 stored 1 epoch 2\n1.3 stored 1 epoch 3\n1.4 stored 1 epoch 4\n"
    ++ (codes "1.5 rows 3 epoch 4\n'CA',5,2\n'NY',5,1\n'TX',7,1\n"
    ++ (codes "journal 12\nbegin 1.1 epoch 1 deps []\ncommitted 1.1 epoch 1\n"
    ++ (codes "begin 1.2 epoch 2 deps []\ncommitted 1.2 epoch 2\n"
    ++ (codes "begin 1.3 epoch 3 deps []\ncommitted 1.3 epoch 3\nbegin 1.4 epoch 4 deps []\ncommitted 1.4 epoch 4\n"
    ++ codes "read 1.5 epoch 4\nreadend 1.5\nround 4\nsafe 4\nend ec 5 lce 4 lse 4\n"))))
