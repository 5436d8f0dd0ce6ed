use mathlib.Core.Path.{◌≡◌}
use Prim.Native.Nat.{◌^◌, ◌<◌, ◌-◌}
use Rattle.pass.specs.Pass.{walked, begun}
use Rattle.pass.proofs.triplets.Given as goal

abbrev pub invariant-loop-k : goal.invariant-loop-k
invariant-loop-k l =
    (l.id < 2 ^ l.k)
    × (walked 64 0 l.previous l.before (begun l.initial.bridge)
    ≡ walked (64 - l.k) l.k l.previous l.before (record { bridge = l.bridge; id = l.id; conflict = l.conflict }))
