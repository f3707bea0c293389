-- Rows that are kept as columns, one list for each, and what a list of columns becomes.
use Rattle.std.specs.Prelude.{◌≡◌, ℕ, ◌+◌, ◌≤◌, Bool, List, [], ◌∷◌, ◌++◌, length, map, replicate, All, vec_len, vec_capacity}
use Rattle.std.specs.List.{AllZip, zip, items_where_true}
use Rattle.std.specs.declared.vec.Vec.{Vec}
use Rattle.std.specs.declared.alloc.Global.{Global}

-- The n rows of columns: of no column, n empty rows; else each item of the first before a row of the others.
abbrev pub column_rows : {T : Type 0} → List (Vec T Global) → ℕ → List (List T)
column_rows [] n = replicate n []
column_rows (column ∷ columns) n = map (λ p. p.0 ∷ p.1) (zip column.items (column_rows columns n))

-- Each column has n items, and memory for `room`.
pub record AreColumns {T : Type 0} (columns : List (Vec T Global)) (n room : ℕ) : Type 0 where
  pub long : All (λ column. length column.items ≡ n) columns
  pub memory : All (λ column. room ≤ vec_capacity column) columns

-- Each column has memory for `more` items beside those that it has.
abbrev pub HaveSpare : {T : Type 0} → ℕ → List (Vec T Global) → Type 0
HaveSpare more columns = All (λ column. vec_len column + more ≤ vec_capacity column) columns

-- A column has its items still, and memory that is no less.
pub record IsGrown {T : Type 0} (old new : Vec T Global) : Type 0 where
  pub items : new.items ≡ old.items
  pub memory : vec_capacity old ≤ vec_capacity new

-- A column has one item more at the end, in the memory that it had.
pub record IsPushed {T : Type 0} (old : Vec T Global) (item : T) (new : Vec T Global) : Type 0 where
  pub items : new.items ≡ old.items ++ item ∷ []
  pub memory : vec_capacity new ≡ vec_capacity old

-- A column has the items whose bit is set, in the memory that it had.
pub record IsSelection {T : Type 0} (bits : List Bool) (old new : Vec T Global) : Type 0 where
  pub items : new.items ≡ items_where_true bits old.items
  pub memory : vec_capacity new ≡ vec_capacity old

-- Each column has its item of a row more at the end.
abbrev pub ArePushed : {T : Type 0} → List (Vec T Global) → List T → List (Vec T Global) → Type 0
ArePushed old row new = AllZip (λ p column. IsPushed p.0 p.1 column) (zip old row) new
