-- The triplets of a pass, one after the other.
--   tripled_by     a triplet, part by part
--   walked_next    one triplet goes by, and one fewer is left
--   walked_none    after bit 63 none is left
use mathlib.Core.Path.{◌≡◌, sym, ap, ap₂, ◌∙◌}
use mathlib.Core.List.{[], ◌∷◌}
use Prim.Native.Nat.{ℕ, suc, ◌+◌, ◌-◌, ◌*◌, ◌^◌, ◌<◌}
use native.Mathlib.Numerals.{add-one}
use native.Mathlib.Omega.{arith}
use Rattle.std.specs.Prelude.{Option}
use Rattle.probe.specs.Probe.{digit}
use Rattle.bridge.specs.declared.Bridge.{Bridge}
use Rattle.bridge.specs.Bridge.{command}
use Rattle.pass.specs.declared.Walk.{Walk}
use Rattle.pass.specs.Pass.{direction, noted, triplet_byte, took_triplet, tripled, walked}

module _ (i : ℕ) (c : Option ℕ) (k : ℕ) (w : Walk) where
  -- the bridge after the triplet shows the bit taken and the two levels
  pub tripled_by : {b : Bridge} {j : ℕ} {q : Option ℕ} → let s = b.registers.status in b ≡ command (0x78 ∷ triplet_byte (direction i c k) ∷ []) w.bridge → j ≡ w.id + digit s.dir * 2 ^ k → q ≡ noted s.sbr s.tsb s.dir k w.conflict → ◌≡◌ {A = Walk} (record { bridge = b; id = j; conflict = q }) (tripled i c k w)
  unfolding tripled took_triplet
  tripled_by {b} e f g = (λ r. record { bridge = b; id = f r; conflict = g r }) ∙ ap (λ (v : Bridge). took_triplet k v w) e

  pub walked_next : {v : Walk} → k < 64 → v ≡ tripled i c k w → walked (64 - k) k i c w ≡ walked (64 - (k + 1)) (k + 1) i c v
  unfolding walked
  walked_next {v} h e =
      ap (λ (n : ℕ). walked n k i c w) left
      ∙ ap₂ (λ (j : ℕ) (u : Walk). walked (64 - (k + 1)) j i c u) (sym (add-one k)) (sym e)
    where
      left : 64 - k ≡ suc (64 - (k + 1))
      left = omega arith

  pub walked_none : k ≡ 64 → walked (64 - k) k i c w ≡ w
  unfolding walked
  walked_none e = ap (λ (n : ℕ). walked n k i c w) left
    where
      left : 64 - k ≡ 0
      left = omega arith
