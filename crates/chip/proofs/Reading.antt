-- The bytes read, one by one.
--   length_read    there are as many as were asked for
--   read_at        the m-th is the register m steps on
--   read_behind    behind them there are none
--   behind_first   what stands behind the first of a list
use mathlib.Core.Path.{◌≡◌, refl, ap, ◌∙◌}
use Prim.Native.Nat.{ℕ, zero, suc, ◌+◌, ◌-◌, ◌%◌, ◌<◌, ◌≤◌}
use mathlib.Core.List.{List, ◌∷◌}
use native.Mathlib.Omega.{arith}
use lib.ListN.{length, get_or}
use Rattle.chip.specs.declared.Sensor.{Sensor}
use Rattle.chip.specs.Sensor.{stepped, read_from}

pub length_read : (n : ℕ) (s : Sensor) → length (read_from n s) ≡ n
unfolding read_from
length_read zero s = refl
length_read (suc n) s = ap suc (length_read n (stepped 1 s))

pub read_at : (n m : ℕ) (s : Sensor) → m < n → get_or (read_from n s) m 255 ≡ get_or s.registers ((s.pointer + m) % 16) 0
unfolding read_from stepped
read_at zero m s h = absurd (omega arith)
read_at (suc n) zero s h = ap (λ (k : ℕ). get_or s.registers k 0) (omega arith)
read_at (suc n) (suc m) s h =
    read_at n m (stepped 1 s) (omega arith) ∙ ap (λ (k : ℕ). get_or s.registers k 0) (omega arith)

pub read_behind : (n m : ℕ) (s : Sensor) → n ≤ m → get_or (read_from n s) m 255 ≡ 255
unfolding read_from
read_behind zero m s h = refl
read_behind (suc n) zero s h = absurd (omega arith)
read_behind (suc n) (suc m) s h = read_behind n m (stepped 1 s) (omega arith)

pub behind_first : (x : ℕ) (xs : List ℕ) (n : ℕ) → (n ≡ 0 → ⊥) → get_or (x ∷ xs) n 255 ≡ get_or xs (n - 1) 255
behind_first x xs zero h = absurd (h refl)
behind_first x xs (suc n) h = ap (λ (k : ℕ). get_or xs k 255) (omega arith)
