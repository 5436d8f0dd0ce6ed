-- A line whose fitted probes have been gone through.
--   front_all       the table's front xs, with f done to its first i, which are all
use mathlib.Core.Path.{◌≡◌, ap, ap₂, ◌∙◌}
use mathlib.Core.List.{List, ◌++◌, map}
use Prim.Native.Nat.{ℕ, ◌≤◌}
use lib.ListN.{length, take, drop}
use Rattle.probe.specs.declared.Probe.{Probe}
use Rattle.line.specs.declared.Line.{Line}
use Rattle.line.specs.Line.{fitted, on_fitted}
use Rattle.line.proofs.Front.{stepped, stepped_all}

-- n is what the call of `entries` gave
pub front_all : (f : Probe → Probe) (l : Line) (n i : ℕ) (xs : List Probe)
    → xs ≡ stepped f i (take n l.probes) → length (take n l.probes) ≤ i → take n l.probes ≡ fitted l → drop n l.probes ≡ drop l.count l.probes
    → ◌≡◌ {A = Line} (record { probes = xs ++ drop n l.probes; count = l.count }) (on_fitted f l)
unfolding on_fitted
front_all f l n i xs e h front back =
    ap₂ {C = Line} (λ (s t : List Probe). record { probes = s ++ t; count = l.count }) (e ∙ stepped_all f (take n l.probes) i h ∙ ap (map f) front) back
