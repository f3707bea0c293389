-- The numbers and the texts of refusals.
-- Source: this project's own.
use Rattle.std.specs.Prelude.{ℕ, List, ◌++◌, codes, decimal}
use Rattle.cube_language.specs.declared.bad_row.BadRow.{BadRow as WhyBad}
use Rattle.cube_language.specs.declared.bad_row.BadRow.TheVariants as row
use Rattle.cube_language.specs.declared.bad_row.Reason.{Reason}
use Rattle.cube_language.specs.declared.bad_row.Reason.TheVariants as reason
use Rattle.cube_language.specs.declared.cubes_fault.SchemaFault.{SchemaFault}
use Rattle.cube_language.specs.declared.cubes_fault.SchemaFault.TheVariants as schema
use Rattle.cube_language.specs.declared.misfit.Misfit.{Misfit}
use Rattle.cube_language.specs.declared.misfit.Misfit.TheVariants as misfit
use Rattle.cube_language.specs.Printed.{item_text}
use Rattle.cube_language.specs.Quotes.{quoted}
use Rattle.cube_journal.specs.declared.refusal.Refusal.{Refusal}
use Rattle.cube_journal.specs.declared.refusal.Refusal.TheVariants.{Syntax, UnknownCube, UnknownColumn, WrongKind, NotGrouped, CutsBrick, BadRow, NoSuchFile, FileTooLong, TooManyRejected, ReadFault, TransactionOpen, NoTransaction, TransactionAborted, DictionaryFull, NoMemory, StoreFailed, ShardFull, CubeExists, BadCube, TooManyCubes, ReadOnly, WatchOpen, NoWatch, NotWatchable, NotAnItem, BadHaving, NoSuchOpen, NoSuchEntry, TooManyOpen, Spent}

-- The number of a refusal.
abbrev pub code : Refusal → ℕ
code (Syntax fault) = 1
code (UnknownCube name) = 2
code (UnknownColumn name) = 3
code (WrongKind name) = 4
code (NotGrouped name) = 5
code (CutsBrick name) = 6
code (BadRow row why) = 7
code NoSuchFile = 8
code (FileTooLong size) = 9
code (TooManyRejected rejected allowed) = 10
code ReadFault = 11
code TransactionOpen = 12
code NoTransaction = 13
code TransactionAborted = 14
code (DictionaryFull name) = 15
code NoMemory = 16
code StoreFailed = 17
code (ShardFull shard rows) = 18
code (CubeExists name) = 19
code (BadCube fault) = 20
code TooManyCubes = 21
code ReadOnly = 22
code WatchOpen = 23
code NoWatch = 24
code (NotWatchable item) = 25
code (NotAnItem item) = 26
code (BadHaving item) = 27
code (NoSuchOpen epoch) = 28
code NoSuchEntry = 29
code TooManyOpen = 30
code (Spent counter) = 31

-- The refusal of a statement that does not fit its cube.
abbrev pub of_misfit : Misfit → Refusal
of_misfit (misfit.UnknownColumn name) = UnknownColumn name
of_misfit (misfit.WrongKind name) = WrongKind name
of_misfit (misfit.NotGrouped name) = NotGrouped name
of_misfit (misfit.NotAnItem item) = NotAnItem item
of_misfit (misfit.BadHaving item) = BadHaving item
of_misfit (misfit.NotWatchable item) = NotWatchable item
of_misfit (misfit.CutsBrick name) = CutsBrick name
of_misfit (misfit.BadRow row why) = BadRow row why

-- Why a value does not fit its column.
abbrev pub reason_text : Reason → List ℕ
reason_text reason.NotNumber = codes "NotNumber"
reason_text reason.OutOfRange = codes "OutOfRange"
reason_text reason.NotText = codes "NotText"
reason_text reason.TooLong = codes "TooLong"
reason_text reason.DictionaryFull = codes "DictionaryFull"

-- Why a row is not stored.
abbrev pub bad_row_text : WhyBad → List ℕ
bad_row_text (row.WrongCount values) = codes "values " ++ (decimal values ++ codes " WrongCount")
bad_row_text (row.Column name reason) = codes "column " ++ (name ++ (codes " " ++ reason_text reason))

-- Why a cube cannot be stored.
abbrev pub schema_fault_text : SchemaFault → List ℕ
schema_fault_text (schema.DuplicateName name) = codes "DuplicateName " ++ name
schema_fault_text (schema.ZeroCardinality name) = codes "ZeroCardinality " ++ name
schema_fault_text (schema.RangeTooLarge name) = codes "RangeTooLarge " ++ name
schema_fault_text schema.TooManyBricks = codes "TooManyBricks"
schema_fault_text schema.TooManyColumns = codes "TooManyColumns"
schema_fault_text schema.NoMetric = codes "NoMetric"

-- What a refusal says.
abbrev pub cause_text : Refusal → List ℕ
cause_text (Syntax fault) = codes "Syntax at " ++ decimal fault.at
cause_text (UnknownCube name) = codes "UnknownCube " ++ name
cause_text (UnknownColumn name) = codes "UnknownColumn " ++ name
cause_text (WrongKind name) = codes "WrongKind " ++ name
cause_text (NotGrouped name) = codes "NotGrouped " ++ name
cause_text (CutsBrick name) = codes "CutsBrick " ++ name
cause_text (BadRow row why) = codes "BadRow row " ++ (decimal row ++ (codes " " ++ bad_row_text why))
cause_text NoSuchFile = codes "NoSuchFile"
cause_text (FileTooLong size) = codes "FileTooLong " ++ decimal size
cause_text (TooManyRejected rejected allowed) =
    codes "TooManyRejected " ++ (decimal rejected ++ (codes " allowed " ++ decimal allowed))
cause_text ReadFault = codes "ReadFault"
cause_text TransactionOpen = codes "TransactionOpen"
cause_text NoTransaction = codes "NoTransaction"
cause_text TransactionAborted = codes "TransactionAborted"
cause_text (DictionaryFull name) = codes "DictionaryFull " ++ quoted name
cause_text NoMemory = codes "NoMemory"
cause_text StoreFailed = codes "StoreFailed"
cause_text (ShardFull shard rows) = codes "ShardFull " ++ (decimal shard ++ (codes " rows " ++ decimal rows))
cause_text (CubeExists name) = codes "CubeExists " ++ name
cause_text (BadCube fault) = codes "BadCube " ++ schema_fault_text fault
cause_text TooManyCubes = codes "TooManyCubes"
cause_text ReadOnly = codes "ReadOnly"
cause_text WatchOpen = codes "WatchOpen"
cause_text NoWatch = codes "NoWatch"
cause_text (NotWatchable item) = codes "NotWatchable " ++ item_text item
cause_text (NotAnItem item) = codes "NotAnItem " ++ item_text item
cause_text (BadHaving item) = codes "BadHaving " ++ item_text item
cause_text (NoSuchOpen epoch) = codes "NoSuchOpen " ++ decimal epoch
cause_text NoSuchEntry = codes "NoSuchEntry"
cause_text TooManyOpen = codes "TooManyOpen"
cause_text (Spent counter) = codes "Spent " ++ decimal counter

-- The number of a refusal and what it says.
abbrev pub refusal_text : Refusal → List ℕ
refusal_text refusal = decimal (code refusal) ++ (codes " " ++ cause_text refusal)
