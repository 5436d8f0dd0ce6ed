use mathlib.Core.Path.{◌≡◌}
use Prim.Native.Nat.{◌≤◌}
use lib.ListN.{length, take}
use Rattle.wire.specs.Wire.{kept, chips_with}
use Rattle.wire.proofs.Wire.without.Given as goal

abbrev pub invariant-loop-p : goal.invariant-loop-p
invariant-loop-p l =
    (l.rest.count ≤ length l.yielded)
    × (l.rest ≡ chips_with (kept l.id (take (length l.yielded) (take l.n l.fn.self.line.probes)) l.fn.self.chips.table))
