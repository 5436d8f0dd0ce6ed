-- A byte that comes bit by bit, low bit first.
--   with_level x l    the byte x once the level l has gone in at its top and moved the earlier bits down
use Rattle.std.specs.Prelude.{ℕ, ◌+◌, ◌*◌, ◌/◌, Bool, cond}

abbrev pub with_level : ℕ → Bool → ℕ
with_level x l = x / 2 + 128 * cond l 1 0
