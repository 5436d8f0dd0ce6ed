use mathlib.Core.Path.{◌≡◌}
use Prim.Native.Nat.{◌≤◌}
use lib.ListN.{take}
use Rattle.withdrawal.specs.Withdrawal.{others, line_with}
use Rattle.withdrawal.proofs.without.Given as goal

abbrev pub invariant-loop-p : goal.invariant-loop-p
invariant-loop-p l = (l.rest.count ≤ l.p-index) × (l.rest ≡ line_with (others l.id (take l.p-index l.p-items)))
