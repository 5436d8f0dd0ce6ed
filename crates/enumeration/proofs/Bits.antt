-- What the low bits of a number say.
--   bit_one, bit_zero       one bit more of a number
--   begins_child            an ID begins as a child exactly if it begins as the node and has the child's bit
--   bit_child, mod_child    an ID below a child has that child's bit, and is below the node; child_mod, and back
--   has_split               something is at a node exactly if something is at one of its children
use mathlib.Core.Path.{◌≡◌, refl, sym, ap, ap₂, ◌∙◌}
use mathlib.Core.Bool.{Bool, true, false, cond, not}
use mathlib.Core.List.{List, [], ◌∷◌}
use Prim.Native.Nat.{ℕ, suc, ◌+◌, ◌*◌, ◌/◌, ◌%◌, ◌^◌, ◌<◌}
use native.Mathlib.Nat.{pow-suc, mul_comm, mod-lt}
use native.Mathlib.Omega.{arith}
use borrow.Author.Tests.{eq-eqb, ne_eqb, eqb-true, eqb-false}
use lib.Arith.{mod-mul}
use lib.Dec.{eqb, lit<}
use lib.Pow.{pow_pos}
use Rattle.identity.specs.Identity.{bit_of}
use Rattle.enumeration.proofs.Tree.{begins, has, child}

-- ---- one bit more

mod_next : (i k : ℕ) → i % 2 ^ suc k ≡ (i / 2 ^ k % 2) * 2 ^ k + i % 2 ^ k
mod_next i k = ap (λ (m : ℕ). i % m) (pow-suc 2 k ∙ mul_comm (2 ^ k) 2) ∙ mod-mul i (lit< tt) (pow_pos k)

-- the bit by its value
digit_one : (i k q : ℕ) → i / 2 ^ k % 2 ≡ q → i % 2 ^ suc k ≡ q * 2 ^ k + i % 2 ^ k
digit_one i k q h = mod_next i k ∙ ap (λ (m : ℕ). m * 2 ^ k + i % 2 ^ k) h

pub bit_one : (i k : ℕ) → bit_of i k ≡ true → i % 2 ^ suc k ≡ i % 2 ^ k + 2 ^ k
unfolding bit_of
bit_one i k h = omega (arith, digit_one i k 1 (eqb-true (i / 2 ^ k % 2) 1 h))

pub bit_zero : (i k : ℕ) → bit_of i k ≡ false → i % 2 ^ suc k ≡ i % 2 ^ k
unfolding bit_of
bit_zero i k h = omega (arith, digit_one i k 0 zero_digit)
  where
    zero_digit : i / 2 ^ k % 2 ≡ 0
    zero_digit = omega (arith, eqb-false (i / 2 ^ k % 2) 1 h)

-- a child has one bit more
pub child_lt : (w : Bool) (k a : ℕ) → a < 2 ^ k → child w k a < 2 ^ suc k
child_lt true k a h = omega (arith, pow-suc 2 k)
child_lt false k a h = omega (arith, pow-suc 2 k)

pub begins_child : (w : Bool) (k a i : ℕ) → a < 2 ^ k → begins (suc k) (child w k a) i ≡ cond (begins k a i) (cond (bit_of i k) w (not w)) false
unfolding begins
begins_child w k a i h = go (bit_of i k) refl (eqb (i % 2 ^ k) a) refl w
  where
    low : i % 2 ^ k < 2 ^ k
    low = mod-lt i (pow_pos k)

    go : (t : Bool) → bit_of i k ≡ t → (s : Bool) → eqb (i % 2 ^ k) a ≡ s → (w : Bool) → eqb (i % 2 ^ suc k) (child w k a) ≡ cond s (cond t w (not w)) false
    go true t true s true = eq-eqb (i % 2 ^ suc k) (a + 2 ^ k) (omega (arith, bit_one i k t, eqb-true (i % 2 ^ k) a s))
    go true t true s false = ne_eqb (i % 2 ^ suc k) a (omega (arith, bit_one i k t, eqb-true (i % 2 ^ k) a s))
    go true t false s true = ne_eqb (i % 2 ^ suc k) (a + 2 ^ k) (λ e. eqb-false (i % 2 ^ k) a s (omega (arith, bit_one i k t)))
    go true t false s false = ne_eqb (i % 2 ^ suc k) a (omega (arith, bit_one i k t))
    go false t true s true = ne_eqb (i % 2 ^ suc k) (a + 2 ^ k) (omega (arith, bit_zero i k t, low))
    go false t true s false = eq-eqb (i % 2 ^ suc k) a (omega (arith, bit_zero i k t, eqb-true (i % 2 ^ k) a s))
    go false t false s true = ne_eqb (i % 2 ^ suc k) (a + 2 ^ k) (omega (arith, bit_zero i k t, low))
    go false t false s false = ne_eqb (i % 2 ^ suc k) a (λ e. eqb-false (i % 2 ^ k) a s (omega (arith, bit_zero i k t)))

-- an ID below a child has that child's bit and is below the node
pub bit_child : (w : Bool) (k a i : ℕ) → a < 2 ^ k → i % 2 ^ suc k ≡ child w k a → bit_of i k ≡ w
bit_child w k a i h e = go (bit_of i k) refl w e
  where
    go : (t : Bool) → bit_of i k ≡ t → (w : Bool) → i % 2 ^ suc k ≡ child w k a → t ≡ w
    go true t true e = refl
    go false t false e = refl
    go true t false e = absurd (omega (arith, bit_one i k t))
    go false t true e = absurd (omega (arith, bit_zero i k t, mod-lt i (pow_pos k)))

pub mod_child : (w : Bool) (k a i : ℕ) → a < 2 ^ k → i % 2 ^ suc k ≡ child w k a → i % 2 ^ k ≡ a
mod_child true k a i h e = omega (arith, bit_one i k (bit_child true k a i h e))
mod_child false k a i h e = omega (arith, bit_zero i k (bit_child false k a i h e))

pub child_mod : (w : Bool) (k a i : ℕ) → i % 2 ^ k ≡ a → bit_of i k ≡ w → i % 2 ^ suc k ≡ child w k a
child_mod true k a i e t = bit_one i k t ∙ ap (λ (r : ℕ). r + 2 ^ k) e
child_mod false k a i e t = bit_zero i k t ∙ e

-- ---- some ID begins so

-- it goes on with 0 or with 1
pub has_split : (ids : List ℕ) (k a : ℕ) → a < 2 ^ k → has ids k a ≡ cond (has ids (suc k) (child false k a)) true (has ids (suc k) (child true k a))
unfolding has
has_split [] k a h = refl
has_split (i ∷ ids) k a h =
    ap (cond (begins k a i) true) (has_split ids k a h)
    ∙ go (begins k a i) (bit_of i k) (has ids (suc k) (child false k a)) (has ids (suc k) (child true k a))
    ∙ sym (ap₂ (λ (p q : Bool). cond (cond p true (has ids (suc k) (child false k a))) true (cond q true (has ids (suc k) (child true k a)))) (begins_child false k a i h) (begins_child true k a i h))
  where
    go : (s t x y : Bool) → cond s true (cond x true y) ≡ cond (cond (cond s (cond t false true) false) true x) true (cond (cond s (cond t true false) false) true y)
    go true true true y = refl
    go true true false y = refl
    go true false x y = refl
    go false t x y = refl
