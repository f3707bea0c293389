use Rattle.std.proofs.Common.{◌≡◌, ◌++◌, map}
use Rattle.std.specs.Vec.Iter.{into_iter_items}
use Rattle.cube_language.specs.Grammar.{sort_key_of}
use Rattle.sql_tree.proofs.written.keys_of.Given as goal

abbrev pub invariant-keys : goal.invariant-keys
invariant-keys l =
    (goal.iterator-keys).can_next l.key-iterator × (goal.iterator-keys).is_finite l.key-iterator × (l.keys ++ map sort_key_of (into_iter_items l.key-iterator) ≡ map sort_key_of l.fn.written)
