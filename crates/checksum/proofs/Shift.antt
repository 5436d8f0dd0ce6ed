-- The shift register is linear over XOR, so a byte goes in by one entry of a table. Every law holds for any taps and so for both checksums.
--   xor_half         the half of an XOR; xor_swap, the last two of three change places
--   shifts_xor       bits that go in one by one may as well be added at the start
--   shifts_linear    the register of a sum is the sum of the registers
--   shifts_high      a number that stands above the bits that move out comes down unchanged
--   entered_table    the register after a byte, by the register that the table has
--   shift_odd        a bit that differs from the one that falls out; shift_even, one that does not
--   Left             the bits of a byte that are still to go in, a 1 above them; left_next, one more has gone in; left_over, all have
--   crc_from_next     one byte more of a slice; crc_from_done, none left
--   entered_lt, crc_from_lt, crc8_of_lt, crc16_of_lt    a register of w bits stays one
use mathlib.Core.Path.{◌≡◌, refl, sym, ap, ap₂, ◌∙◌}
use mathlib.Core.Bool.{Bool, true, false, cond}
use Prim.Native.Nat.{ℕ, zero, suc, ◌+◌, ◌*◌, ◌/◌, ◌%◌, ◌^◌, ◌<◌, ◌≤◌}
use native.Mathlib.Nat.{mul-one, pow-suc, mod-lt}
use native.Mathlib.Numerals.{add-one}
use native.Mathlib.Omega.{arith}
use mathlib.Core.List.{List, [], ◌∷◌}
use lib.ListN.{length, get_or, drop, drop_of_length-le}
use lib.Seq.{drop-cons}
use borrow.Author.Tests.{eq-eqb, ne_eqb}
use lib.Arith.{lt-one}
use lib.Bits.{bit_xor, xor_assoc, xor_lt, xor_zero_r, xor_self, xor_comm, xor_shifted, xor_shr, xor_mod, xor_add_and, shifted_half, shifted_even}
use lib.Dec.{eqb, lit<}
use lib.Pow.{pow_pos, split}
use Rattle.checksum.specs.Register.{shifted, shifts, entered, crc_from, crc8_of, crc16_of, taps, taps8, taps16}

pub xor_half : (a b : ℕ) → bit_xor a b / 2 ≡ bit_xor (a / 2) (b / 2)
xor_half a b = xor_shr a b 1

-- the last two of three change places
pub xor_swap : (a b c : ℕ) → bit_xor (bit_xor a b) c ≡ bit_xor (bit_xor a c) b
xor_swap a b c = xor_assoc a b c ∙ ap (bit_xor a) (xor_comm b c) ∙ sym (xor_assoc a c b)

-- what the taps add to a register whose low bit and the bit that goes in sum to f
abbrev gate : ℕ → ℕ → ℕ
gate p f = cond (eqb (f % 2) 1) p 0

-- one bit, as one sum
shifted_gate : (p r b : ℕ) → shifted p r b ≡ bit_xor (r / 2) (gate p (r + b))
unfolding shifted
shifted_gate p r b = go (eqb ((r + b) % 2) 1)
  where
    go : (t : Bool) → cond t (bit_xor (r / 2) p) (r / 2) ≡ bit_xor (r / 2) (cond t p 0)
    go true = refl
    go false = sym (xor_zero_r (r / 2))

gate_parity : (p f g : ℕ) → f % 2 ≡ g % 2 → gate p f ≡ gate p g
gate_parity p f g e = ap (λ (k : ℕ). cond (eqb k 1) p 0) e

shifted_xor : (p r x : ℕ) → bit_xor (shifted p r (x % 2)) (x / 2) ≡ shifted p (bit_xor r x) 0
shifted_xor p r x =
    ap (λ (k : ℕ). bit_xor k (x / 2)) (shifted_gate p r (x % 2))
    ∙ xor_swap (r / 2) (gate p (r + x % 2)) (x / 2)
    ∙ ap₂ bit_xor (sym (xor_half r x)) (gate_parity p (r + x % 2) (bit_xor r x + 0) (omega (arith, xor_add_and r x)))
    ∙ sym (shifted_gate p (bit_xor r x) 0)

pub shifts_xor : (p n r x : ℕ) → x < 2 ^ n → shifts p n r x ≡ shifts p n (bit_xor r x) 0
unfolding shifts
shifts_xor p zero r x h = sym (ap (bit_xor r) (lt-one h) ∙ xor_zero_r r)
shifts_xor p (suc n) r x h =
    shifts_xor p n (shifted p r (x % 2)) (x / 2) (omega (arith, pow-suc 2 n))
    ∙ ap (λ (k : ℕ). shifts p n k 0) (shifted_xor p r x)

-- whether a number is odd
data Odd? (n : ℕ) : Type 0 where
  even : n % 2 ≡ 0 → Odd? n
  odd : n % 2 ≡ 1 → Odd? n

odd? : (n : ℕ) → Odd? n
odd? n = go (n % 2) refl
  where
    go : (k : ℕ) → n % 2 ≡ k → Odd? n
    go zero e = even e
    go (suc zero) e = odd e
    go (suc (suc k)) e = absurd (omega arith)

gate_even : (p f : ℕ) → f % 2 ≡ 0 → gate p f ≡ 0
gate_even p f e = ap (λ (t : Bool). cond t p 0) (ne_eqb (f % 2) 1 (omega arith))

gate_odd : (p f : ℕ) → f % 2 ≡ 1 → gate p f ≡ p
gate_odd p f e = ap (λ (t : Bool). cond t p 0) (eq-eqb (f % 2) 1 e)

gate_xor : (p a b : ℕ) → Odd? a → Odd? b → gate p (bit_xor a b + 0) ≡ bit_xor (gate p (a + 0)) (gate p (b + 0))
gate_xor p a b (even e) (even f) =
    gate_even p (bit_xor a b + 0) (omega (arith, xor_add_and a b))
    ∙ sym (ap₂ bit_xor (gate_even p (a + 0) (omega arith)) (gate_even p (b + 0) (omega arith)))
gate_xor p a b (even e) (odd f) =
    gate_odd p (bit_xor a b + 0) (omega (arith, xor_add_and a b))
    ∙ sym (ap₂ bit_xor (gate_even p (a + 0) (omega arith)) (gate_odd p (b + 0) (omega arith)))
gate_xor p a b (odd e) (even f) =
    gate_odd p (bit_xor a b + 0) (omega (arith, xor_add_and a b))
    ∙ sym (ap₂ bit_xor (gate_odd p (a + 0) (omega arith)) (gate_even p (b + 0) (omega arith)) ∙ xor_zero_r p)
gate_xor p a b (odd e) (odd f) =
    gate_even p (bit_xor a b + 0) (omega (arith, xor_add_and a b))
    ∙ sym (ap₂ bit_xor (gate_odd p (a + 0) (omega arith)) (gate_odd p (b + 0) (omega arith)) ∙ xor_self p)

-- the sum of two sums, paired the other way
xor_pairs : (a b c d : ℕ) → bit_xor (bit_xor a b) (bit_xor c d) ≡ bit_xor (bit_xor a c) (bit_xor b d)
xor_pairs a b c d =
    sym (xor_assoc (bit_xor a b) c d) ∙ ap (λ (k : ℕ). bit_xor k d) (xor_swap a b c) ∙ xor_assoc (bit_xor a c) b d

shifted_linear : (p a b : ℕ) → shifted p (bit_xor a b) 0 ≡ bit_xor (shifted p a 0) (shifted p b 0)
shifted_linear p a b =
    shifted_gate p (bit_xor a b) 0
    ∙ ap₂ bit_xor (xor_half a b) (gate_xor p a b (odd? a) (odd? b))
    ∙ xor_pairs (a / 2) (b / 2) (gate p (a + 0)) (gate p (b + 0))
    ∙ sym (ap₂ bit_xor (shifted_gate p a 0) (shifted_gate p b 0))

pub shifts_linear : (p n a b : ℕ) → shifts p n (bit_xor a b) 0 ≡ bit_xor (shifts p n a 0) (shifts p n b 0)
unfolding shifts
shifts_linear p zero a b = refl
shifts_linear p (suc n) a b =
    ap (λ (k : ℕ). shifts p n k 0) (shifted_linear p a b) ∙ shifts_linear p n (shifted p a 0) (shifted p b 0)

pub shifts_high : (p n a : ℕ) → shifts p n (a * 2 ^ n) 0 ≡ a
unfolding shifts
shifts_high p zero a = mul-one a
shifts_high p (suc n) a =
    ap (λ (k : ℕ). shifts p n k 0)
    (shifted_gate p (a * 2 ^ suc n) 0
    ∙ ap₂ bit_xor (shifted_half a n) (gate_even p (a * 2 ^ suc n + 0) (omega (arith, shifted_even a n)))
    ∙ xor_zero_r (a * 2 ^ n))
    ∙ shifts_high p n a

-- a register, split at n bits: the high part comes down and the low part goes by itself
shifts_split : (p n v : ℕ) → shifts p n v 0 ≡ bit_xor (shifts p n (v % 2 ^ n) 0) (v / 2 ^ n)
shifts_split p n v =
    ap (λ (k : ℕ). shifts p n k 0) (sym (xor_shifted (v / 2 ^ n) n (v % 2 ^ n) (mod-lt v (pow_pos n)) ∙ split v n))
    ∙ shifts_linear p n (v / 2 ^ n * 2 ^ n) (v % 2 ^ n)
    ∙ ap (λ (k : ℕ). bit_xor k (shifts p n (v % 2 ^ n) 0)) (shifts_high p n (v / 2 ^ n))
    ∙ xor_comm (v / 2 ^ n) (shifts p n (v % 2 ^ n) 0)

pub entered_table : (p r x : ℕ) → x < 256 → entered p r x ≡ bit_xor (entered p 0 (bit_xor (r % 256) x)) (r / 256)
unfolding entered
entered_table p r x h =
    shifts_xor p 8 r x h
    ∙ shifts_split p 8 (bit_xor r x)
    ∙ ap₂ bit_xor
    (ap (λ (k : ℕ). shifts p 8 k 0) (xor_mod r x 8 ∙ ap (bit_xor (r % 256)) x_low)
    ∙ sym (shifts_xor p 8 0 (bit_xor (r % 256) x) (xor_lt 8 (r % 256) x (omega arith) h)))
    (xor_shr r x 8 ∙ ap (bit_xor (r / 256)) (omega arith) ∙ xor_zero_r (r / 256))
  where
    x_low : x % 256 ≡ x
    x_low = omega arith

-- ---- a byte, bit by bit

pub shift_odd : (p r b : ℕ) → (r + b) % 2 ≡ 1 → shifted p r b ≡ bit_xor (r / 2) p
shift_odd p r b e = shifted_gate p r b ∙ ap (bit_xor (r / 2)) (gate_odd p (r + b) e)

pub shift_even : (p r b : ℕ) → (r + b) % 2 ≡ 0 → shifted p r b ≡ r / 2
shift_even p r b e = shifted_gate p r b ∙ ap (bit_xor (r / 2)) (gate_even p (r + b) e) ∙ xor_zero_r (r / 2)

shifted_parity : (p r b c : ℕ) → b % 2 ≡ c % 2 → shifted p r b ≡ shifted p r c
shifted_parity p r b c e =
    shifted_gate p r b ∙ ap (bit_xor (r / 2)) (gate_parity p (r + b) (r + c) (omega arith)) ∙ sym (shifted_gate p r c)

-- What is left of a byte is x: n bits and a 1 above them. With these n in the register r too, it is w.
pub record Left (p w r x : ℕ) : Type 0 where
  pub n : ℕ
  pub bits : ℕ
  pub below : bits < 2 ^ n
  pub marked : x ≡ 2 ^ n + bits
  pub comes : shifts p n r bits ≡ w

pub left_next : (p w r x q : ℕ) → Left p w r x → (x ≡ 1 → ⊥) → q ≡ shifted p r x → Left p w q (x / 2)
unfolding shifts
left_next p w r x q l h e = go l.n l.bits l.below l.marked l.comes
  where
    go : (n y : ℕ) → y < 2 ^ n → x ≡ 2 ^ n + y → shifts p n r y ≡ w → Left p w q (x / 2)
    go zero y b m c = absurd (h (omega (arith, m, lt-one b)))
    go (suc n) y b m c = record {
      n = n;
      bits = y / 2;
      below = omega (arith, pow-suc 2 n, b);
      marked = omega (arith, pow-suc 2 n, m);
      comes = ap (λ (k : ℕ). shifts p n k (y / 2)) (e ∙ shifted_parity p r x (y % 2) (omega (arith, pow-suc 2 n, m))) ∙ c;
    }

pub left_over : (p w r x : ℕ) → Left p w r x → x ≡ 1 → r ≡ w
unfolding shifts
left_over p w r x l e = go l.n l.marked l.comes
  where
    go : (n : ℕ) → x ≡ 2 ^ n + l.bits → shifts p n r l.bits ≡ w → r ≡ w
    go zero m c = c
    go (suc n) m c = absurd (omega (arith, pow-suc 2 n, pow_pos n, m, e))

-- ---- a slice, byte by byte

-- With the bytes from i on in the register r too, it is w: so it is with one more of them in it, and with none left r is w.
pub crc_from_next : (p w r : ℕ) (s : List ℕ) (i q : ℕ)
    → i < length s → crc_from p r (drop i s) ≡ w → q ≡ entered p r (get_or s i 0) → crc_from p q (drop (i + 1) s) ≡ w
unfolding crc_from
crc_from_next p w r s i q h c e = ap (λ (k : ℕ). crc_from p k (drop (i + 1) s)) e ∙ step ∙ c
  where
    step : crc_from p (entered p r (get_or s i 0)) (drop (i + 1) s) ≡ crc_from p r (drop i s)
    step = rw (add-one, drop-cons s i 0)

pub crc_from_done : (p w r : ℕ) (s : List ℕ) (i : ℕ) → length s ≤ i → crc_from p r (drop i s) ≡ w → r ≡ w
unfolding crc_from
crc_from_done p w r s i h c = sym (ap (crc_from p r) (drop_of_length-le s h)) ∙ c

-- ---- a register of w bits stays one

module _ (w p : ℕ) (tap : p < 2 ^ w) where
  shifted_lt : (r b : ℕ) → r < 2 ^ w → shifted p r b < 2 ^ w
  unfolding shifted
  shifted_lt r b h = go (eqb ((r + b) % 2) 1)
    where
      half : r / 2 < 2 ^ w
      half = omega arith

      go : (t : Bool) → cond t (bit_xor (r / 2) p) (r / 2) < 2 ^ w
      go true = xor_lt w (r / 2) p half tap
      go false = half

  shifts_lt : (n r x : ℕ) → r < 2 ^ w → shifts p n r x < 2 ^ w
  unfolding shifts
  shifts_lt zero r x h = h
  shifts_lt (suc n) r x h = shifts_lt n (shifted p r (x % 2)) (x / 2) (shifted_lt r (x % 2) h)

  pub entered_lt : (r x : ℕ) → r < 2 ^ w → entered p r x < 2 ^ w
  unfolding entered
  entered_lt r x h = shifts_lt 8 r x h

  pub crc_from_lt : (r : ℕ) (s : List ℕ) → r < 2 ^ w → crc_from p r s < 2 ^ w
  unfolding crc_from
  crc_from_lt r [] h = h
  crc_from_lt r (x ∷ xs) h = crc_from_lt (entered p r x) xs (entered_lt r x h)

pub crc8_of_lt : (s : List ℕ) → crc8_of s < 2 ^ 8
unfolding crc8_of taps8 taps
crc8_of_lt s = crc_from_lt 8 taps8 (lit< tt) 0 s (lit< tt)

pub crc16_of_lt : (s : List ℕ) → crc16_of s < 2 ^ 16
unfolding crc16_of taps16 taps
crc16_of_lt s = crc_from_lt 16 taps16 (lit< tt) 0 s (lit< tt)
