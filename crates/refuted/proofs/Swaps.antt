-- A mark that is kept over withdrawing and fitting: one case, which computes.
--   mark_kept_lem     on the line of A, which a Match ROM has marked
use Prim.Native.Nat.{ℕ, suc}
use mathlib.Core.Bool.{true, false≢true}
use mathlib.Core.List.{List, [], ◌∷◌}
use mathlib.Core.List.Memᴰ
use mathlib.Core.Path.{◌≡◌, refl}
use lib.ListN.{length}
use Rattle.checksum.specs.Register.{crc8_of, crc_from, entered, shifts, shifted, taps8, taps}
use Rattle.identity.specs.Identity.{number_of, bit_of, crc_right, family_of, refusal_of}
use Rattle.probe.specs.declared.Condition.TheVariants.{Selected}
use Rattle.probe.specs.declared.Probe.{Probe}
use Rattle.probe.specs.Probe.{standard, deaf_new, reaches, sends, sends_in, sends_at, took, took_in, took_at, reset, took_code, took_matching, obeyed}
use Rattle.line.specs.Line.{all, any, bare, fitted, on_fitted, level, slot, slots, present, after_reset, ids_of, is_fitted, place_number, fit_number, with_probe, after_fit}
use Rattle.withdrawal.specs.Withdrawal.{others, line_with, without, withdraw_number, after_withdraw}
use Rattle.bridge.specs.declared.Bridge.{Bridge}
use Rattle.bridge.specs.Bridge.{power_on, after_fitting, after_withdrawal, command, bytes_of, taken_while_busy, good_parameter, write_number, after_write, accepted}
use Rattle.bridge.specs.Bridge.{finished_reset, finished_write, finished_of, after_time}
use Rattle.bridge.specs.Reached.{Bytes, Reached}
use Rattle.enumeration.specs.Order.{Among}
use Rattle.paper.specs.Paper.{a, with_one}
use Rattle.demand.specs.Swaps.{fitted_at}
use Rattle.demand.proofs.Reached.{reached_reset, reached_byte}
use Rattle.refuted.proofs.Searches.{below, one_reached}

-- the bytes of Match ROM of A, one after the other
abbrev sent : List ℕ → Bridge → Bridge
sent [] s = s
sent (x ∷ xs) s = sent xs (command (0xA5 ∷ x ∷ []) s)

reached_sent : (x : List ℕ) → Bytes x → {s : Bridge} → Reached s → Reached (sent x s)
reached_sent [] small r = r
reached_sent (y ∷ x) small r = reached_sent x (λ k. small (suc k)) (reached_byte y (small 0) r)

abbrev marked : Bridge
marked = sent (0x55 ∷ a) (command (0xB4 ∷ []) (with_one a))

marked_reached : Reached marked
unfolding all
marked_reached = reached_sent (0x55 ∷ a) (below (0x55 ∷ a) refl) (reached_reset (one_reached a refl refl))

pub mark_kept_lem : ((s : Bridge) → Reached s → (x : List ℕ) → Bytes x → length x ≡ 8 → withdraw_number x s.line ≡ 0 → (p q : Probe) → Among p (fitted_at s) → p.id ≡ number_of x → Among q (fitted_at (after_fitting x (after_withdrawal x s))) → q.id ≡ number_of x → q.marked ≡ p.marked) → ⊥
unfolding command after_time finished_of finished_reset finished_write after_write write_number bytes_of taken_while_busy good_parameter accepted power_on bare present after_reset reset reaches level slot slots on_fitted fitted all sends sends_in sends_at took took_in took_at took_code took_matching obeyed bit_of after_fitting after_fit fit_number place_number is_fitted ids_of any with_probe refusal_of crc_right family_of crc8_of crc_from entered shifts shifted taps8 taps number_of after_withdrawal after_withdraw withdraw_number without line_with others
mark_kept_lem h =
    false≢true
    (h marked marked_reached a (below a refl) refl refl (record { id = number_of a; marked = true; speed = standard; condition = Selected })
    (deaf_new (number_of a))
    (Memᴰ.head refl) refl (Memᴰ.head refl) refl)
