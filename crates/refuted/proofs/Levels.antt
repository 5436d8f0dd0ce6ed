-- Both levels 1 where the law of a search's levels does not reach: one case for each, which computes.
--   presence_needed_lem    the first pass on the bare line began without presence
--   search_needed_lem      on the line of A, after Skip ROM, nobody sends
use Prim.Native.Nat.{ℕ, ◌<◌}
use mathlib.Core.Bool.{true, false, true≢false}
use mathlib.Core.List.{[], ◌∷◌}
use mathlib.Core.List.Memᴰ
use mathlib.Core.Path.{◌≡◌, refl}
use lib.Dec.{lit<}
use Rattle.std.specs.Prelude.{None}
use Rattle.checksum.specs.Register.{crc8_of, crc_from, entered, shifts, shifted, taps8, taps}
use Rattle.identity.specs.Identity.{number_of, crc_right, family_of, refusal_of}
use Rattle.probe.specs.Probe.{reaches, sends, sends_in, sends_at, took, took_in, took_at, reset, took_code, obeyed}
use Rattle.line.specs.Line.{all, any, bare, fitted, on_fitted, level, slot, slots, present, after_reset, ids_of, is_fitted, place_number, fit_number, with_probe, after_fit}
use Rattle.bridge.specs.declared.Bridge.{Bridge}
use Rattle.bridge.specs.Bridge.{power_on, after_fitting, command, bytes_of, taken_while_busy, good_parameter, write_number, after_write, accepted}
use Rattle.bridge.specs.Bridge.{finished_reset, finished_write, finished_triplet, finished_of, after_time}
use Rattle.bridge.specs.Reached.{Reached}
use Rattle.bridge.specs.Reached.Reached.{on}
use Rattle.pass.specs.Pass.{direction, took_triplet, tripled, walked}
use Rattle.enumeration.specs.Order.{Among}
use Rattle.paper.specs.Paper.{a, with_one}
use Rattle.demand.proofs.Reached.{reached_reset, reached_byte}
use Rattle.levels.specs.Levels.{Pass, after_triplet, both_one, taken_from, passes_taken}
use Rattle.refuted.proofs.Searches.{one_reached}

pub presence_needed_lem : ((s : Bridge) → Reached s → (b : ℕ) (p : Pass) → Among p (passes_taken b s) → (k : ℕ) → k < 64 → both_one (after_triplet k p) ≡ false) → ⊥
unfolding passes_taken taken_from after_triplet walked tripled took_triplet direction command after_time finished_of finished_reset finished_write finished_triplet after_write write_number bytes_of taken_while_busy good_parameter accepted power_on bare present after_reset reset reaches level slot slots on_fitted fitted all
presence_needed_lem h =
    true≢false
    (h power_on on 1 (record { previous = 0; conflict = None; bridge = command (0xB4 ∷ []) (command (0xF0 ∷ []) power_on) }) (Memᴰ.head refl) 0 (lit< tt))

pub search_needed_lem : ((s : Bridge) → Reached s → s.registers.status.ppd ≡ true → both_one (command (0x78 ∷ 0 ∷ []) s) ≡ false) → ⊥
unfolding command after_time finished_of finished_reset finished_write finished_triplet after_write write_number bytes_of taken_while_busy good_parameter accepted power_on bare present after_reset reset reaches level slot slots on_fitted fitted all sends sends_in sends_at took took_in took_at took_code obeyed after_fitting after_fit fit_number place_number is_fitted ids_of any with_probe refusal_of crc_right family_of crc8_of crc_from entered shifts shifted taps8 taps number_of
search_needed_lem h =
    true≢false
    (h (command (0xA5 ∷ 0xCC ∷ []) (command (0xB4 ∷ []) (with_one a))) (reached_byte 0xCC (lit< tt) (reached_reset (one_reached a refl refl))) refl)
