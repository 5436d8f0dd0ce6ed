-- The bits of an ID.
--   bit_of_past     bits past the last read 0; past_64, the same of a number of 64 bits as the shift has it
--   bit_of_half     bit k of a half is bit k + 1
--   bit_of_inj      numbers of n bits that are alike in all of them are equal
use mathlib.Core.Path.{◌≡◌, refl, sym, ap, ◌∙◌}
use mathlib.Core.Bool.{Bool, true, false}
use Prim.Native.Nat.{ℕ, zero, suc, ◌/◌, ◌%◌, ◌^◌, ◌<◌, ◌≤◌}
use native.Mathlib.Nat.{pow-suc, pow-succ', div-eq_of_lt, div-div-eq-div-mul, lt_of_lt_of_le}
use native.Mathlib.Omega.{arith}
use lib.Arith.{lt-one}
use lib.Dec.{eqb}
use lib.Pow.{pow_mono}
use borrow.Author.Tests.{eqb-true, eqb-false}
use Rattle.identity.specs.Identity.{bit_of}

pub bit_of_past : (n id k : ℕ) → id < 2 ^ n → n ≤ k → bit_of id k ≡ false
unfolding bit_of
bit_of_past n id k h p = ap (λ (q : ℕ). eqb (q % 2) 1) (div-eq_of_lt (lt_of_lt_of_le h (pow_mono p)))

-- the same of the numbers of 64 bits, for the tactics
pub past_64 : (id k : ℕ) → id < 2 ^ 64 → 64 ≤ k → id / 2 ^ k ≡ 0
past_64 id k h p = div-eq_of_lt (lt_of_lt_of_le h (pow_mono p))

pub bit_of_half : (id k : ℕ) → bit_of (id / 2) k ≡ bit_of id (suc k)
unfolding bit_of
bit_of_half id k = ap (λ (q : ℕ). eqb (q % 2) 1) (div-div-eq-div-mul id 2 (2 ^ k) ∙ ap (λ (p : ℕ). id / p) (sym (pow-succ' 2 k)))

-- ---- a number is its bits

low_alike : (i j : ℕ) → bit_of i 0 ≡ bit_of j 0 → i % 2 ≡ j % 2
unfolding bit_of
low_alike i j e = go (eqb (j / 1 % 2) 1) refl
  where
    go : (t : Bool) → eqb (j / 1 % 2) 1 ≡ t → i % 2 ≡ j % 2
    go true h = omega (arith, eqb-true (j / 1 % 2) 1 h, eqb-true (i / 1 % 2) 1 (e ∙ h))
    go false h = omega (arith, eqb-false (j / 1 % 2) 1 h, eqb-false (i / 1 % 2) 1 (e ∙ h))

pub bit_of_inj : (n i j : ℕ) → i < 2 ^ n → j < 2 ^ n → ((k : ℕ) → k < n → bit_of i k ≡ bit_of j k) → i ≡ j
bit_of_inj zero i j hi hj alike = lt-one hi ∙ sym (lt-one hj)
bit_of_inj (suc n) i j hi hj alike =
    let high : i / 2 ≡ j / 2 = bit_of_inj n (i / 2) (j / 2) (omega (arith, pow-suc 2 n)) (omega (arith, pow-suc 2 n)) above in
    omega (arith, low_alike i j (alike 0 (omega arith)))
  where
    above : (k : ℕ) → k < n → bit_of (i / 2) k ≡ bit_of (j / 2) k
    above k h = bit_of_half i k ∙ alike (suc k) (omega arith) ∙ sym (bit_of_half j k)
