-- One turn of a loop, and slots one after the other.
--   took_bits_next, slots_next     a loop over the bits of a byte
--   meet_next                     a loop over the probes
--   gathered f g v n y x a        the byte y once the levels of n slots at the speed v with the low bits of x have gone in at its top
--   gathered_next                 one level more; turn, one slot more
--   gathered_levels               eight levels that go into 0 are the levels, low bit first
--   slots_line, levels_line       slots of a line; slots_line_next and gathered_line_next, one of them more
use mathlib.Core.Path.{◌≡◌, refl, sym, ap, ◌∙◌}
use mathlib.Core.Bool.{Bool}
use mathlib.Core.List.{List, [], ◌∷◌}
use Prim.Native.Nat.{ℕ, zero, suc, ◌+◌, ◌-◌, ◌*◌, ◌/◌, ◌%◌, ◌^◌, ◌<◌}
use native.Mathlib.Numerals.{add-one}
use native.Mathlib.Omega.{arith}
use lib.Bits.{bit_and}
use lib.Dec.{eqb}
use lib.ListN.{length, get_or, take}
use Rattle.byte.specs.Byte.{with_level}
use Rattle.probe.specs.declared.Probe.{Probe}
use Rattle.probe.specs.Probe.{took, digit}
use Rattle.line.specs.declared.Line.{Line}
use Rattle.line.specs.Line.{level, levels, slot, slots}
use Rattle.byte_slots.specs.Foresight.{ahead, meet, took_bits}
use Rattle.byte_slots.specs.SlotBySlot.{slot_in, slots_in, levels_in, line_took}
use Rattle.byte_slots.proofs.Digits.{doubled, moved_weight, moved_down}

pub took_bits_next : (n m x : ℕ) (p : Probe) → n ≡ suc m → took_bits m (x / 2) (took (eqb (x % 2) 1) p) ≡ took_bits n x p
unfolding took_bits
took_bits_next n m x p e = sym (ap (λ (k : ℕ). took_bits k x p) e)

module _ {A : Type 0} (f : ℕ → Bool → A → Bool) (g : ℕ → Bool → A → A) (v : ℕ) where
  pub slots_next : (n m x : ℕ) (a : A) → n ≡ suc m → slots_in f g v m (x / 2) (slot_in f g v (eqb (x % 2) 1) a) ≡ slots_in f g v n x a
  unfolding slots_in
  slots_next n m x a e = sym (ap (λ (k : ℕ). slots_in f g v k x a) e)

  -- ---- levels that go in at the top of a byte

  unfoldable pub gathered : ℕ → ℕ → ℕ → A → ℕ
  gathered zero y x a = y
  gathered (suc n) y x a = gathered n (y / 2 + digit (f v (eqb (x % 2) 1) a) * 128) (x / 2) (slot_in f g v (eqb (x % 2) 1) a)

  pub gathered_next : (n m y x : ℕ) (a : A) → n ≡ suc m
      → gathered m (y / 2 + digit (f v (eqb (x % 2) 1) a) * 128) (x / 2) (slot_in f g v (eqb (x % 2) 1) a) ≡ gathered n y x a
  unfolding gathered
  gathered_next n m y x a e = sym (ap (λ (k : ℕ). gathered k y x a) e)

  -- a turn of the loop: its level is b, and then a' is what carries the slots and y' the byte; r and q are what the loop comes to
  pub turn : (n m y x : ℕ) (a : A) (b : Bool) (a' : A) (y' : ℕ) (r : ℕ) (q : A) → n ≡ suc m
      → b ≡ f v (eqb (x % 2) 1) a → a' ≡ g v b a → y' ≡ with_level y b → (gathered n y x a ≡ r) × (slots_in f g v n x a ≡ q)
      → (gathered m y' (x / 2) a' ≡ r) × (slots_in f g v m (x / 2) a' ≡ q)
  unfolding slot_in
  turn n m y x a b a' y' r q e level taken into inv =
      let went : a' ≡ slot_in f g v (eqb (x % 2) 1) a = rw level at taken in
      let gone : y' ≡ y / 2 + digit (f v (eqb (x % 2) 1) a) * 128 = rw level at into ∙ omega arith in (
        rw (went, gone, gathered_next n m y x a e) inv.0,
        rw (went, slots_next n m x a e) inv.1,
      )

  -- n + 1 levels come to stand k places above bit 0, and what was in the byte moves down
  gathered_at : (n k y x : ℕ) (a : A) → 2 ^ k * 2 ^ n ≡ 128 → gathered (suc n) y x a ≡ y / 2 ^ suc n + 2 ^ k * levels_in f g v (suc n) x a
  unfolding gathered levels_in
  gathered_at zero k y x a w =
      omega arith ∙ moved_down 0 (2 ^ k) y (digit (f v (eqb (x % 2) 1) a)) 0 w
  gathered_at (suc n) k y x a w =
      let d = digit (f v (eqb (x % 2) 1) a) in
      let m = levels_in f g v (suc n) (x / 2) (slot_in f g v (eqb (x % 2) 1) a) in
      gathered_at n (k + 1) (y / 2 + d * 128) (x / 2) (slot_in f g v (eqb (x % 2) 1) a) (moved_weight k n w)
      ∙ ap (λ (q : ℕ). (y / 2 + d * 128) / 2 ^ suc n + q * m) (doubled k)
      ∙ moved_down (suc n) (2 ^ k) y d m w

  pub gathered_levels : (x : ℕ) (a : A) → gathered 8 0 x a ≡ levels_in f g v 8 x a
  gathered_levels x a = gathered_at 7 0 0 x a refl ∙ omega arith

-- ---- the line

one_less : (n : ℕ) → 0 < n → n ≡ suc (n - 1)
one_less n h = omega arith

module _ (v : ℕ) where
  pub slots_line : (n x : ℕ) (l : Line) → slots_in level line_took v n x l ≡ slots v n x l
  unfolding slot_in slots_in slot slots
  slots_line zero x l = refl
  slots_line (suc n) x l = slots_line n (x / 2) (slot v (eqb (x % 2) 1) l)

  pub levels_line : (n x : ℕ) (l : Line) → levels_in level line_took v n x l ≡ levels v n x l
  unfolding slot_in levels_in slot levels
  levels_line zero x l = refl
  levels_line (suc n) x l =
      ap (λ (m : ℕ). digit (level v (eqb (x % 2) 1) l) + 2 * m) (levels_line n (x / 2) (slot v (eqb (x % 2) 1) l))

  pub slots_line_next : (n x : ℕ) (l : Line) → 0 < n → slots v (n - 1) (x / 2) (slot v (eqb (x % 2) 1) l) ≡ slots v n x l
  unfolding slots
  slots_line_next n x l h = sym (ap (λ (k : ℕ). slots v k x l) (one_less n h))

  pub gathered_line_next : (n y x : ℕ) (l : Line) → 0 < n
      → gathered level line_took v (n - 1) (y / 2 + digit (level v (eqb (x % 2) 1) l) * 128) (x / 2) (slot v (eqb (x % 2) 1) l) ≡ gathered level line_took v n y x l
  unfolding slot_in slot
  gathered_line_next n y x l h = gathered_next level line_took v n (n - 1) y x l (one_less n h)

-- ---- what all probes have in common

more : (n x i : ℕ) (ps : List Probe) (d : Probe) → i < length ps → bit_and (meet n x (take i ps)) (ahead n (get_or ps i d)) ≡ meet n x (take (suc i) ps)
unfolding meet
more n x i [] d h = absurd (omega arith)
more n x zero (p ∷ ps) d h = refl
more n x (suc i) (p ∷ ps) d h = more n (bit_and x (ahead n p)) i ps d (omega arith)

pub meet_next : (n x i : ℕ) (ps : List Probe) (d : Probe) → i < length ps
    → bit_and (meet n x (take i ps)) (ahead n (get_or ps i d)) ≡ meet n x (take (i + 1) ps)
meet_next n x i ps d h = rw add-one (more n x i ps d h)
