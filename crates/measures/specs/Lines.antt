-- The text of a line.
use Rattle.std.specs.Prelude.{ℕ, ◌*◌, ◌/◌, ◌%◌, ◌&&◌, nat_lt, List, [], ◌++◌, codes, if◌then◌else◌}
use Rattle.std.specs.Fmt.{decimal}
use Rattle.measures.specs.declared.request.Request.{Request}
use Rattle.timed_work.specs.declared.work.Measured.{Measured}
use Rattle.measures.specs.Words.{done_of}

-- So many tenths as a number with one decimal.
abbrev pub tenths_text : ℕ → List ℕ
tenths_text tenths = decimal (tenths / 10) ++ codes "." ++ decimal (tenths % 10)

-- What a line says of the time of each of some items: the whole time cut to tenths of a nanosecond.
abbrev pub time_text : ℕ → ℕ → List ℕ
time_text nanoseconds items = codes ", " ++ tenths_text (nanoseconds * 10 / items) ++ codes " ns each"

-- How many items, what was done, the checksum, and the time where it is wanted.
abbrev pub line_text : Request → Measured → List ℕ
line_text r m =
    decimal r.items ++ codes " " ++ done_of r.path ++ codes ", checksum " ++ decimal m.checksum
    ++ (if r.timed && nat_lt 0 r.items then time_text m.nanoseconds r.items else [])
