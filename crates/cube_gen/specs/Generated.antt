-- The cube, the scripts and the files of the generator.
-- Source: the recurrence is the linear congruential generator of Knuth's MMIX (The Art of Computer Programming,
-- volume 2, 3.3.4); what is made of its numbers is this project's own.
use Rattle.std.specs.Prelude.{ℕ, suc, zero, ◌+◌, ◌*◌, ◌/◌, ◌%◌, ◌^◌, ◌==◌, Bool, true, false, List, [], ◌∷◌, ◌++◌, codes, decimal, filter, if◌then◌else◌}
use Rattle.std.specs.List.{flat_map, range_with_len}
use Rattle.cube_language.specs.declared.decl.Decl.{Decl}

-- The cube, with a dimension of texts, one of numbers and a metric.
abbrev pub visits : Decl
visits = record {
  name = codes "visits";
  dims =
      record { name = codes "region"; text = true; cardinality = 8; range = 1 }
      ∷ record { name = codes "day"; text = false; cardinality = 365; range = 31 }
      ∷ [];
  metrics = codes "likes" ∷ [];
}

-- The name of a session's file.
abbrev pub part_name : ℕ → List ℕ
part_name session = codes "part" ++ (decimal session ++ codes ".csv")

-- The script of a session loads its file.
abbrev pub script_text : ℕ → List ℕ
script_text session = codes "LOAD visits FROM '" ++ (part_name session ++ codes "' REJECT 0;")

-- The number behind another.
abbrev pub next_number : ℕ → ℕ
next_number x = (x * 6364136223846793005 + 1442695040888963407) % 2 ^ 64

-- The number at a place behind a seed, which is the number at place 0.
abbrev pub number_at : ℕ → ℕ → ℕ
number_at seed zero = seed
number_at seed (suc place) = next_number (number_at seed place)

-- The 31 highest bits of a number.
abbrev pub high_bits : ℕ → ℕ
high_bits x = x / 2 ^ 33

-- The region, the day and the likes that the high bits of a number give, as a line of a file.
abbrev pub row_line : ℕ → List ℕ
row_line bits =
    codes "r" ++ (decimal (bits % 8) ++ (codes ","
    ++ (decimal ((bits / 8) % 365) ++ (codes "," ++ (decimal ((bits / 2920) % 100) ++ codes "\n")))))

-- The line of row k, from 0, of n rows, which are the seed too.
abbrev pub row_text : ℕ → ℕ → List ℕ
row_text n k = row_line (high_bits (number_at n (suc k)))

-- Row k is one of a session, of which there are four.
abbrev pub falls_to_session : ℕ → ℕ → Bool
falls_to_session session k = k % 4 + 1 == session

-- The line of row k in the file of a session, which has none where the row is of another.
abbrev pub line_for : ℕ → ℕ → ℕ → List ℕ
line_for session k bits = if falls_to_session session k then row_line bits else []

-- The lines of a session among the first rows.
abbrev pub part_so_far : ℕ → ℕ → ℕ → List ℕ
part_so_far n session rows = flat_map (row_text n) (filter (falls_to_session session) (range_with_len 0 rows))

-- The file of a session: its rows in order.
abbrev pub part_text : ℕ → ℕ → List ℕ
part_text n session = part_so_far n session n
