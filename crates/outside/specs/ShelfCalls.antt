-- The calls that a shelf has answered, the newest first, and those that reading a file whole adds.
use Rattle.std.specs.Prelude.{◌≡◌, ℕ, ◌<◌, ◌≤◌, ◌⊎◌, List, [], ◌∷◌, ◌++◌, length, take, Option, Some, Result, Ok, Err, Vec}
use Rattle.std.specs.Option.{option_map}
use Rattle.std.specs.declared.alloc.Global.{Global}
use Rattle.cube_values.specs.declared.call_error.CallError.{CallError}
use Rattle.cube_values.specs.declared.call_error.CallError.TheVariants.{Fault, NoMemory}
use Rattle.outside.specs.declared.answers.SizeAnswer.{SizeAnswer}
use Rattle.outside.specs.declared.answers.SizeAnswer.TheVariants.{Size, Absent as NoFile, Failed as NoSize}
use Rattle.outside.specs.declared.answers.ReadAnswer.{ReadAnswer}
use Rattle.outside.specs.declared.answers.ReadAnswer.TheVariants.{Got, Failed as NoPiece}
use Rattle.outside.specs.declared.reading.FileFault.{FileFault}
use Rattle.outside.specs.declared.reading.FileFault.TheVariants.{Absent, TooLong, Failed}
use Rattle.outside.specs.Given.{Given, missing, too_long, whole}

-- a call that was answered: the size of a file, bytes of a file from a place on, or a read that failed
pub data ShelfCall : Type 0 where
  sized : (name : List ℕ) → SizeAnswer → ShelfCall
  gave : (name : List ℕ) → (at : ℕ) → (bytes : List ℕ) → ShelfCall
  read_failed : (name : List ℕ) → (at : ℕ) → ShelfCall

-- the calls after one more, where they are known
abbrev pub with_call : ShelfCall → Option (List ShelfCall) → Option (List ShelfCall)
with_call call = option_map (λ past. call ∷ past)

-- a call of `read` with this piece behind it
abbrev pub read_call : List ℕ → ℕ → List ℕ → ReadAnswer → ShelfCall
read_call name at piece (Got n) = gave name at (take n piece)
read_call name at piece NoPiece = read_failed name at

-- after the past, pieces of a file were read one after the other from its beginning, none of them
-- empty, and these are their bytes
pub data ReadsPrefix (name : List ℕ) (past : List ShelfCall) : List ShelfCall → List ℕ → Type 0 where
  no_piece : ReadsPrefix name past past []
  one_more : {calls : List ShelfCall} {bytes piece : List ℕ} → ReadsPrefix name past calls bytes → 0 < length piece
      → ReadsPrefix name past (gave name (length bytes) piece ∷ calls) (bytes ++ piece)

-- a file of this size was read to its end, or to a read before it that gave nothing
pub record ReadsToEnd (name : List ℕ) (size : ℕ) (past now : List ShelfCall) (bytes : List ℕ) : Type 0 where
  pub calls : List ShelfCall
  pub prefix : ReadsPrefix name past calls bytes
  pub end :
      ((length bytes ≡ size) × (now ≡ calls))
      ⊎ ((length bytes < size) × (now ≡ gave name (length bytes) [] ∷ calls))

-- a read failed before the end of a file of this size
pub record ReadsToFault (name : List ℕ) (size : ℕ) (past now : List ShelfCall) : Type 0 where
  pub calls : List ShelfCall
  pub bytes : List ℕ
  pub prefix : ReadsPrefix name past calls bytes
  pub short : length bytes < size
  pub fault : now ≡ read_failed name (length bytes) ∷ calls

-- what comes of reading a file of this size into a piece, of which so many bytes are then the file's
abbrev pub FillsBy : List ℕ → ℕ → List ShelfCall → List ShelfCall → List ℕ → ReadAnswer → Type 0
FillsBy name size past now piece (Got n) = ReadsToEnd name size past now (take n piece)
FillsBy name size past now piece NoPiece = ReadsToFault name size past now

-- the calls by which a file gives this to a reader with a limit: its size is asked once, and it is
-- read only where that is within the limit
abbrev pub GivesBy : List ℕ → ℕ → List ShelfCall → List ShelfCall → Given → Type 0
GivesBy name limit past now missing = now ≡ sized name NoFile ∷ past
GivesBy name limit past now (too_long size) = (limit < size) × (now ≡ sized name (Size size) ∷ past)
GivesBy name limit past now (whole bytes) =
    (size : ℕ) × (size ≤ limit) × ReadsToEnd name size (sized name (Size size) ∷ past) now bytes

-- the calls by which a shelf fails a reader with a limit: the size fails, or a read does
abbrev pub FailsBy : List ℕ → ℕ → List ShelfCall → List ShelfCall → Type 0
FailsBy name limit past now =
    (now ≡ sized name NoSize ∷ past)
    ⊎ ((size : ℕ) × (size ≤ limit) × ReadsToFault name size (sized name (Size size) ∷ past) now)

-- the calls by which a reader with a limit comes to this answer
abbrev pub AnswersBy :
    List ℕ → ℕ → List ShelfCall → List ShelfCall → Result (Vec ℕ Global) (CallError FileFault) → Type 0
AnswersBy name limit past now (Ok bytes) = GivesBy name limit past now (whole bytes.items)
AnswersBy name limit past now (Err (Fault Absent)) = GivesBy name limit past now missing
AnswersBy name limit past now (Err (Fault (TooLong size))) = GivesBy name limit past now (too_long size)
AnswersBy name limit past now (Err (Fault Failed)) = FailsBy name limit past now
AnswersBy name limit past now (Err NoMemory) = (size : ℕ) × (size ≤ limit) × (now ≡ sized name (Size size) ∷ past)

-- where the calls before are known, those after are, and they are related so
abbrev pub WhereKnown :
    (List ShelfCall → List ShelfCall → Type 0) → Option (List ShelfCall) → Option (List ShelfCall) → Type 0
WhereKnown related before after =
    (past : List ShelfCall) → before ≡ Some past → (now : List ShelfCall) × (after ≡ Some now) × related past now
