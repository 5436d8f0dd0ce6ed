-- The cases P9, P10 and P11 of the table. P9 holds of any bridge that is not busy.
use mathlib.Core.Path.{◌≡◌, refl, sym, ap}
use mathlib.Core.Bool.{false}
use mathlib.Core.List.{List, [], ◌∷◌}
use Prim.Native.Nat.{ℕ}
use lib.Dec.{lit<}
use Rattle.identity.specs.Identity.{number_of, refusal_of}
use Rattle.probe.specs.Probe.{reaches, sends, sends_in, sends_at, took, took_in, took_code, took_at, reset}
use Rattle.line.specs.declared.Line.{Line}
use Rattle.line.specs.Line.{bare, fitted, ids_of, is_fitted, any, all, level, slot, on_fitted, after_reset, present, place_number, with_probe, after_fit}
use Rattle.line.proofs.Places.{fit_number_free, after_fit_done}
use Rattle.bridge.specs.declared.Bridge.{Bridge}
use Rattle.bridge.specs.Bridge.{power_on, status_of, read_of, busy, bytes_of, good_configuration, good_parameter, write_number, after_write, accepted, on_line}
use Rattle.bridge.specs.Bridge.{finished_reset, finished_triplet, finished_of, after_time, after_fitting, command}
use Rattle.paper.specs.Paper.{ready}

-- ---- P9: D2h D2h is refused with 8, D2h E1h accepted and read back as 01h

module _ (b : Bridge) (free : busy b ≡ false) where
  pub p9_refused : write_number (0xD2 ∷ 0xD2 ∷ []) b ≡ 8
  unfolding write_number bytes_of good_configuration good_parameter
  p9_refused = simp free

  pub p9_accepted : write_number (0xD2 ∷ 0xE1 ∷ []) b ≡ 0
  unfolding write_number bytes_of good_configuration good_parameter
  p9_accepted = simp free

  pub p9_read : read_of (after_write (0xD2 ∷ 0xE1 ∷ []) b) ≡ 0x01
  unfolding after_write write_number bytes_of good_configuration good_parameter accepted read_of
  p9_read = simp free

-- ---- P10: from power-on with one probe, D2h F0h, then a 1-Wire reset, time passes: status 0Ah

-- an accepted ID on the bare line
one_fitted : (x : List ℕ) → refusal_of x ≡ 0 → after_fit x bare ≡ with_probe (number_of x) bare
unfolding place_number is_fitted ids_of fitted any bare
one_fitted x e = sym (after_fit_done x bare (fit_number_free x bare e refl (lit< tt)))

pub p10 : (x : List ℕ) → refusal_of x ≡ 0 → read_of (ready x) ≡ 0x0A
unfolding after_fitting power_on bare with_probe command after_time finished_of after_write write_number bytes_of good_configuration good_parameter accepted finished_reset present after_reset on_fitted fitted read_of status_of
p10 x e = ap (λ (l : Line). read_of (command (0xB4 ∷ []) (after_write (0xD2 ∷ 0xF0 ∷ []) (on_line l power_on)))) (one_fitted x e)

-- ---- P11: then a triplet with any parameter, time passes: EAh. The probe takes the slots as command bits and sends nothing.

pub p11 : (x : List ℕ) → refusal_of x ≡ 0 → (d : ℕ) → read_of (command (0x78 ∷ d ∷ []) (ready x)) ≡ 0xEA
unfolding after_fitting power_on bare with_probe command after_time finished_of after_write write_number bytes_of good_configuration good_parameter accepted finished_reset finished_triplet present after_reset level slot on_fitted all reaches sends sends_in sends_at took took_in took_code took_at reset fitted read_of status_of
p11 x e d =
    ap (λ (l : Line). read_of (command (0x78 ∷ d ∷ []) (command (0xB4 ∷ []) (after_write (0xD2 ∷ 0xF0 ∷ []) (on_line l power_on))))) (one_fitted x e)
