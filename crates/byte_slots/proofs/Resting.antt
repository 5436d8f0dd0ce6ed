-- Slots on a line whose probes all rest, at whatever speed.
--   slots_rest       they leave the line as it is
--   levels_rest      their levels are the bits that the bridge writes
use mathlib.Core.Path.{◌≡◌, refl, sym, ap, ap₂, ◌∙◌}
use mathlib.Core.Bool.{Bool, true, false}
use mathlib.Core.List.{map-id}
use Prim.Native.Nat.{ℕ, zero, suc, ◌+◌, ◌*◌, ◌/◌, ◌%◌, ◌^◌}
use native.Mathlib.Omega.{arith}
use lib.Dec.{eqb}
use Rattle.probe.specs.declared.Probe.{Probe}
use Rattle.probe.specs.Probe.{sends_at, took_at, rests, digit}
use Rattle.probe.proofs.Rests.{took_at_rests, sends_at_rests}
use Rattle.line.specs.declared.Line.{Line}
use Rattle.line.specs.Line.{all, fitted, level, levels, slot, slots}
use Rattle.line.proofs.Each.{all_map, on_fitted_same, on_fitted_none}
use Rattle.byte_slots.proofs.Digits.{digit_odd, low_suc}

module _ (v : ℕ) where
  -- ---- one slot

  slot_rest : (w : Bool) (l : Line) → all rests (fitted l) ≡ true → slot v w l ≡ l
  unfolding slot
  slot_rest w l e =
      on_fitted_same rests (took_at v (level v w l)) (λ (p : Probe). p) (took_at_rests v (level v w l)) l e ∙ on_fitted_none l

  level_rest : (w : Bool) (l : Line) → all rests (fitted l) ≡ true → level v w l ≡ w
  unfolding level
  level_rest true l e =
      ap (all (sends_at v)) (sym (map-id (fitted l))) ∙ all_map rests (sends_at v) (λ (p : Probe). p) (sends_at_rests v) (fitted l) e
  level_rest false l e = refl

  -- ---- several

  pub slots_rest : (n x : ℕ) (l : Line) → all rests (fitted l) ≡ true → slots v n x l ≡ l
  unfolding slots
  slots_rest zero x l e = refl
  slots_rest (suc n) x l e = ap (slots v n (x / 2)) (slot_rest (eqb (x % 2) 1) l e) ∙ slots_rest n (x / 2) l e

  pub levels_rest : (n x : ℕ) (l : Line) → all rests (fitted l) ≡ true → levels v n x l ≡ x % 2 ^ n
  unfolding levels
  levels_rest zero x l e = omega arith
  levels_rest (suc n) x l e =
      ap₂ (λ (d k : ℕ). d + 2 * k) (ap digit (level_rest (eqb (x % 2) 1) l e) ∙ digit_odd x)
      (ap (levels v n (x / 2)) (slot_rest (eqb (x % 2) 1) l e) ∙ levels_rest n (x / 2) l e)
      ∙ sym (low_suc n x)
