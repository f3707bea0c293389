-- Which names a set has.
use Rattle.std.specs.Prelude.{◌≡◌, ℕ, List}
use Rattle.std.specs.Borrow.{Bor}
use Rattle.std.specs.HashSet.{HashSet, contains_by}
use Rattle.std.specs.List.{list_any}
use Rattle.std.specs.Str.{bytes_eq}
use Rattle.std.specs.declared.hash.FoldHasher.{FoldHasher}
use Rattle.std.specs.declared.hash.BuildHasherDefault.{BuildHasherDefault}

-- A set has these names and no others.
abbrev pub HasJust : HashSet (Bor (List ℕ)) (BuildHasherDefault FoldHasher) → List (List ℕ) → Type 0
HasJust set names =
    (name : Bor (List ℕ)) → contains_by (λ k. bytes_eq name.now k.now) set ≡ list_any (bytes_eq name.now) names
