use Rattle.std.proofs.Common.{◌≡◌, ◌+◌, length}
use Rattle.std.specs.List.{position_from}
use Rattle.std.specs.Str.{bytes_eq}
use Rattle.condition_spans.proofs.codes.text_place.Given as goal

abbrev pub invariant-texts : goal.invariant-texts
invariant-texts l = record {
  same : position_from (bytes_eq l.text) l.place l.left ≡ position_from (bytes_eq l.text) 0 l.texts;
  count : l.place + length l.left ≡ length l.texts;
}

abbrev pub decreases-texts : goal.decreases-texts
decreases-texts l = length l.left
