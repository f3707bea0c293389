-- How room for more items grows.
use Rattle.std.specs.Prelude.{ℕ, ◌-◌, ◌*◌, ◌^◌, nat_le, max, min, if◌then◌else◌}

-- The room after a call that wants room for `least` items in all: the room that there was, where that is
-- enough, else twice as much at least, as far as 64 bits count.
abbrev pub grown_room : ℕ → ℕ → ℕ
grown_room room least = if nat_le least room then room else max (min (2 * room) (2 ^ 64 - 1)) least
