-- What the words of the program ask for.
use Rattle.std.specs.Prelude.{◌≡◌, ℕ, ◌<◌, ◌^◌, Bool, true, false, ◌&&◌, nat_le, List, [], ◌∷◌, Option, Some, None, bytes_eq, codes, if◌then◌else◌}
use Rattle.std.specs.Str.Parse.{IsNumeral, digits_value, without_leading_plus}
use Rattle.measures.specs.declared.request.HotPath.{HotPath}
use Rattle.measures.specs.declared.request.HotPath.TheVariants.{Split, Encode, Lookup, Known, Visible, Plan, Fold, Mail, Desk, Lock, Call, Cells, Records, LoadStep, Digest, RoundWrite, RoundRead, StoreRead, StoreOpen, Copy, BrickAppend, Sum, BrickScan, BrickCount, BrickKeep, ShardAppend, ShardScan, ShardBricks}
use Rattle.measures.specs.declared.request.Request.{Request}

-- The path of a name among those over shards.
abbrev pub shard_path_of : List ℕ → Option HotPath
shard_path_of word =
    if bytes_eq word (codes "shard_append") then Some ShardAppend
    else if bytes_eq word (codes "shard_scan") then Some ShardScan
    else if bytes_eq word (codes "shard_bricks") then Some ShardBricks
    else None

-- The path of a name among those over rounds, bricks and shards.
abbrev pub row_path_of : List ℕ → Option HotPath
row_path_of word =
    if bytes_eq word (codes "digest") then Some Digest
    else if bytes_eq word (codes "round_write") then Some RoundWrite
    else if bytes_eq word (codes "round_read") then Some RoundRead
    else if bytes_eq word (codes "store_read") then Some StoreRead
    else if bytes_eq word (codes "store_open") then Some StoreOpen
    else if bytes_eq word (codes "copy") then Some Copy
    else if bytes_eq word (codes "brick_append") then Some BrickAppend
    else if bytes_eq word (codes "sum") then Some Sum
    else if bytes_eq word (codes "brick_scan") then Some BrickScan
    else if bytes_eq word (codes "brick_count") then Some BrickCount
    else if bytes_eq word (codes "brick_keep") then Some BrickKeep
    else shard_path_of word

-- The path of a name.
abbrev pub path_of : List ℕ → Option HotPath
path_of word =
    if bytes_eq word (codes "split") then Some Split
    else if bytes_eq word (codes "encode") then Some Encode
    else if bytes_eq word (codes "lookup") then Some Lookup
    else if bytes_eq word (codes "known") then Some Known
    else if bytes_eq word (codes "visible") then Some Visible
    else if bytes_eq word (codes "plan") then Some Plan
    else if bytes_eq word (codes "fold") then Some Fold
    else if bytes_eq word (codes "mail") then Some Mail
    else if bytes_eq word (codes "desk") then Some Desk
    else if bytes_eq word (codes "lock") then Some Lock
    else if bytes_eq word (codes "call") then Some Call
    else if bytes_eq word (codes "cells") then Some Cells
    else if bytes_eq word (codes "records") then Some Records
    else if bytes_eq word (codes "load_step") then Some LoadStep
    else row_path_of word

-- How many items a path takes at most.
abbrev pub most_of : HotPath → ℕ
most_of Split = 65_536
most_of Encode = 10_000_000
most_of Lookup = 10_000_000
most_of Known = 10_000_000
most_of Visible = 10_000_000
most_of Plan = 10_000_000
most_of Fold = 1_000_000_000
most_of Mail = 1_000_000_000
most_of Desk = 10_000_000
most_of Lock = 1_000_000_000
most_of Call = 1_000_000_000
most_of Cells = 1_000_000_000
most_of Records = 10_000_000
most_of LoadStep = 10_000_000
most_of Digest = 100_000_000
most_of RoundWrite = 100_000_000
most_of RoundRead = 100_000_000
most_of StoreRead = 10_000_000
most_of StoreOpen = 10_000_000
most_of Copy = 1_000_000_000
most_of BrickAppend = 1_000_000_000
most_of Sum = 1_000_000_000
most_of BrickScan = 1_000_000_000
most_of BrickCount = 1_000_000_000
most_of BrickKeep = 1_000_000_000
most_of ShardAppend = 1_000_000_000
most_of ShardScan = 1_000_000_000
most_of ShardBricks = 1_000_000

-- What a path does with its items.
abbrev pub done_of : HotPath → List ℕ
done_of Split = codes "statements split"
done_of Encode = codes "names encoded"
done_of Lookup = codes "names looked up"
done_of Known = codes "known names looked up"
done_of Visible = codes "entries asked for the visible rows"
done_of Plan = codes "entries purged"
done_of Fold = codes "rows folded"
done_of Mail = codes "jobs mailed"
done_of Desk = codes "entries added to a journal"
done_of Lock = codes "locks taken"
done_of Call = codes "calls made"
done_of Cells = codes "calls made on each of four cells"
done_of Records = codes "records read"
done_of LoadStep = codes "records loaded"
done_of Digest = codes "rows of a round digested"
done_of RoundWrite = codes "rows written in a round"
done_of RoundRead = codes "rows read in a round"
done_of StoreRead = codes "rows of a store's file read"
done_of StoreOpen = codes "rows opened in a store"
done_of Copy = codes "rows copied"
done_of BrickAppend = codes "rows appended to a brick"
done_of Sum = codes "numbers summed"
done_of BrickScan = codes "rows summed and counted in a brick"
done_of BrickCount = codes "rows counted in a brick"
done_of BrickKeep = codes "rows of columns kept or left out"
done_of ShardAppend = codes "rows appended to a shard"
done_of ShardScan = codes "rows summed and counted in a shard"
done_of ShardBricks = codes "bricks of a shard summed and counted"

-- A text spells a number below 2 ^ 32 in decimal digits, or none.
abbrev pub IsItemCount : List ℕ → Option ℕ → Type 0
IsItemCount text (Some n) = IsNumeral 10 (without_leading_plus text)
    × (n ≡ digits_value 10 (without_leading_plus text)) × (n < 2 ^ 32)
IsItemCount text None = IsNumeral 10 (without_leading_plus text) × (digits_value 10 (without_leading_plus text) < 2 ^ 32) → ⊥

-- The request of a path and a number of items, where the path takes so many.
abbrev pub request_of : Bool → Option HotPath → Option ℕ → Option Request
request_of timed (Some path) (Some n) =
    if nat_le 1 n && nat_le n (most_of path) then Some (record { timed = timed; path = path; items = n }) else None
request_of timed path n = None

-- What a name and a number ask for.
abbrev pub Asks : Bool → List ℕ → List ℕ → Option Request → Type 0
Asks timed name items request = (n : Option ℕ) × IsItemCount items n × (request ≡ request_of timed (path_of name) n)

-- The same behind a flag, which is the one that is known, or not.
abbrev pub AsksBehind : Bool → List ℕ → List ℕ → Option Request → Type 0
AsksBehind true name items request = Asks true name items request
AsksBehind false name items request = request ≡ None

-- What words ask for: NAME N for a path, and --time NAME N for its time too.
abbrev pub AsksFor : List (List ℕ) → Option Request → Type 0
AsksFor (name ∷ items ∷ []) request = Asks false name items request
AsksFor (flag ∷ name ∷ items ∷ []) request = AsksBehind (bytes_eq flag (codes "--time")) name items request
AsksFor words request = request ≡ None
