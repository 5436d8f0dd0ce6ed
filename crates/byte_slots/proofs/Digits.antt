-- The binary digits of numbers.
--   digit_odd                  the digit that a test of the low digit gives
--   half_of                    the digits above place k, halved
--   past_last                  past its last digit a number has nothing; past_id, past its last bit an ID
--   low_suc                    the low n + 1 digits: the lowest, and n of the half
--   low_half, low_low          their half, and their lowest
--   ones_half, ones_low        of digits that are all 1
--   and_half, and_odd          of what two numbers have in common
--   doubled, moved_weight      the weight of the next place, and two weights that make up 128
--   moved_down                 a digit that goes in at weight 128 and what stands above it, n places down
use mathlib.Core.Path.{◌≡◌, refl, sym, ap, ◌∙◌}
use mathlib.Core.Bool.{Bool, true, false, cond}
use Prim.Native.Nat.{ℕ, zero, suc, ◌+◌, ◌-◌, ◌*◌, ◌/◌, ◌%◌, ◌^◌, ◌<◌, ◌≤◌}
use native.Mathlib.Nat.{mul-add, mul_comm, mul_assoc, mul_right_comm, add-mul-div_right, div-div-eq-div-mul, div-eq_of_lt, lt_of_lt_of_le, pow-suc, pow-succ'}
use native.Mathlib.Omega.{arith}
use lib.Arith.{mod-mul}
use lib.Bits.{bit_and, and_shr, and_mod}
use lib.Dec.{eqb}
use lib.Pow.{pow_pos, pow_mono}
use borrow.Author.Tests.{eqb-true, eqb-false}
use Rattle.probe.specs.Probe.{digit}

pub digit_odd : (m : ℕ) → digit (eqb (m % 2) 1) ≡ m % 2
digit_odd m = go (eqb (m % 2) 1) refl
  where
    go : (t : Bool) → eqb (m % 2) 1 ≡ t → digit t ≡ m % 2
    go true e = sym (eqb-true (m % 2) 1 e)
    go false e = omega (arith, eqb-false (m % 2) 1 e)

pub half_of : (i k : ℕ) → i / 2 ^ k / 2 ≡ i / 2 ^ (k + 1)
half_of i k =
    div-div-eq-div-mul i (2 ^ k) 2 ∙ ap (λ (m : ℕ). i / m) (sym (pow-suc 2 k)) ∙ ap (λ (m : ℕ). i / 2 ^ m) (omega arith)

-- a number of n digits has nothing past the last
pub past_last : (n i k : ℕ) → i < 2 ^ n → n ≤ k → i / 2 ^ k ≡ 0
past_last n i k h p = div-eq_of_lt (lt_of_lt_of_le h (pow_mono p))

pub low_suc : (n m : ℕ) → m % 2 ^ suc n ≡ m % 2 + 2 * (m / 2 % 2 ^ n)
low_suc n m = ap (λ (k : ℕ). m % k) (pow-suc 2 n) ∙ mod-mul m (pow_pos n) (omega arith) ∙ omega arith

pub low_half : (n m : ℕ) → m % 2 ^ suc n / 2 ≡ m / 2 % 2 ^ n
low_half n m = omega (arith, low_suc n m)

pub low_low : (n m : ℕ) → m % 2 ^ suc n % 2 ≡ m % 2
low_low n m = omega (arith, low_suc n m)

pub ones_half : (n : ℕ) → (2 ^ suc n - 1) / 2 ≡ 2 ^ n - 1
ones_half n = omega (arith, pow-suc 2 n, pow_pos n)

pub ones_low : (n : ℕ) → (2 ^ suc n - 1) % 2 ≡ 1
ones_low n = omega (arith, pow-suc 2 n, pow_pos n)

pub and_half : (a b : ℕ) → bit_and a b / 2 ≡ bit_and (a / 2) (b / 2)
and_half a b = and_shr a b 1

two_digits : (m k : ℕ) → m < 2 → k < 2 → eqb (bit_and m k) 1 ≡ cond (eqb m 1) (eqb k 1) false
two_digits zero k h g = refl
two_digits (suc zero) zero h g = refl
two_digits (suc zero) (suc zero) h g = refl
two_digits (suc zero) (suc (suc k)) h g = absurd (omega arith)
two_digits (suc (suc m)) k h g = absurd (omega arith)

pub and_odd : (a b : ℕ) → eqb (bit_and a b % 2) 1 ≡ cond (eqb (a % 2) 1) (eqb (b % 2) 1) false
and_odd a b = ap (λ (k : ℕ). eqb k 1) (and_mod a b 1) ∙ two_digits (a % 2) (b % 2) (omega arith) (omega arith)

pub doubled : (k : ℕ) → 2 ^ (k + 1) ≡ 2 ^ k * 2
doubled k = ap (λ (m : ℕ). 2 ^ m) (omega arith) ∙ pow-suc 2 k

-- a place higher and a slot fewer, the weights still make up 128
pub moved_weight : (k n : ℕ) → 2 ^ k * 2 ^ suc n ≡ 128 → 2 ^ (k + 1) * 2 ^ n ≡ 128
moved_weight k n e =
    ap (λ (m : ℕ). m * 2 ^ n) (doubled k)
    ∙ omega (arith, e, mul_assoc (2 ^ k) (2 ^ n) 2, mul_right_comm (2 ^ k) 2 (2 ^ n), ap (λ (m : ℕ). 2 ^ k * m) (pow-suc 2 n))

pub moved_down : (n p x d m : ℕ) → p * 2 ^ n ≡ 128 → (x / 2 + d * 128) / 2 ^ n + p * 2 * m ≡ x / 2 ^ suc n + p * (d + 2 * m)
moved_down n p x d m e =
    ap (λ (k : ℕ). k + p * 2 * m)
    (ap (λ (k : ℕ). (x / 2 + k) / 2 ^ n) (ap (λ (k : ℕ). d * k) (sym e) ∙ sym (mul_assoc d p (2 ^ n)))
    ∙ add-mul-div_right (x / 2) (d * p) (pow_pos n)
    ∙ ap (λ (k : ℕ). k + d * p) (div-div-eq-div-mul x 2 (2 ^ n) ∙ ap (λ (k : ℕ). x / k) (sym (pow-succ' 2 n))))
    ∙ omega (arith, mul-add p d (2 * m), mul_comm p d, mul_assoc p 2 m)

pub past_id : (i k : ℕ) → i < 2 ^ 64 → 64 ≤ k → i / 2 ^ k % 256 ≡ 0
past_id i k h p = ap (λ (q : ℕ). q % 256) (past_last 64 i k h p)
