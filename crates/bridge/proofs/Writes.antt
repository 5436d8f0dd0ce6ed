-- The checks of a write in their order: what each has found decides the number.
--   held_up b c              the bridge is busy and the code c has to wait
--   checked c w x b          the number that the checks after that of the code c give
--   write_number_none, -unknown, -busy, -length, -parameter, -done     the number, by the checks passed and the one that fails
--   never_done               no refusal has the number 0
--   after_write_done, after_write_refused     the state, by the number
--   numbers, writes          what the contracts of the checks and of a write rest on
use mathlib.Core.Path.{◌≡◌, refl, ◌∙◌}
use mathlib.Core.Bool.{Bool, true, false, cond}
use mathlib.Core.List.{List, [], ◌∷◌}
use Prim.Native.Nat.{ℕ, ◌<◌}
use native.Mathlib.Omega.{arith}
use borrow.Author.Tests.{eq-eqb, ne_eqb}
use lib.Dec.{eqb}
use lib.ListN.{length, get_or}
use Rattle.std.specs.Prelude.{slice_get, Some, None, Ok, Err}
use Rattle.bridge.specs.declared.Bridge.{Bridge}
use Rattle.bridge.specs.declared.Refusal.{Refusal}
use Rattle.bridge.specs.declared.Refusal.TheVariants.{Unknown, Busy, Length, Parameter}
use Rattle.bridge.specs.Bridge.{busy, bytes_of, wanted_of, taken_while_busy, good_parameter, number_of, write_number, accepted, with_registers, after_write}

abbrev pub held_up : Bridge → ℕ → Bool
held_up b c = cond (busy b) (cond (taken_while_busy c) false true) false

-- the checks after that of the code, where w bytes are wanted
abbrev pub checked : ℕ → ℕ → List ℕ → Bridge → ℕ
checked c w x b = cond (held_up b c) 6 (cond (eqb (length x) w) (cond (good_parameter c (get_or x 1 0)) 0 8) 7)

pub write_number_none : (x : List ℕ) (b : Bridge) → None ≡ slice_get x 0 → write_number x b ≡ 7
unfolding write_number
write_number_none [] b e = refl
write_number_none (c ∷ ps) b e = cc

module _ (x : List ℕ) (b : Bridge) (c : ℕ) (some : Some c ≡ slice_get x 0) where
  write_number_some : write_number x b ≡ cond (eqb (bytes_of c) 0) 5 (checked c (bytes_of c) x b)
  unfolding write_number
  write_number_some = go x some
    where
      go : (y : List ℕ) → Some c ≡ slice_get y 0 → write_number y b ≡ cond (eqb (bytes_of c) 0) 5 (checked c (bytes_of c) y b)
      go [] e = cc
      go (d ∷ ps) e = let h : d ≡ c = cc in simp h

  pub write_number_unknown : (e : Refusal) → Err e ≡ wanted_of c → write_number x b ≡ number_of e
  write_number_unknown e h = write_number_some ∙ go (eqb (bytes_of c) 0) (bytes_of c) h
    where
      go : (t : Bool) (n : ℕ) → Err e ≡ cond t (Err Unknown) (Ok n) → cond t 5 (checked c n x b) ≡ number_of e
      go true n p = let u : e ≡ Unknown = cc in simp u
      go false n p = cc

  module _ (w : ℕ) (known : Ok w ≡ wanted_of c) where
    write_number_known : write_number x b ≡ checked c w x b
    write_number_known = write_number_some ∙ go (eqb (bytes_of c) 0) (bytes_of c) known
      where
        go : (t : Bool) (n : ℕ) → Ok w ≡ cond t (Err Unknown) (Ok n) → cond t 5 (checked c n x b) ≡ checked c w x b
        go true n p = cc
        go false n p = let u : w ≡ n = cc in simp u

    pub write_number_busy : held_up b c ≡ true → write_number x b ≡ 6
    write_number_busy e = write_number_known ∙ simp e

    module _ (free : held_up b c ≡ false) where
      pub write_number_length : (length x ≡ w → ⊥) → write_number x b ≡ 7
      write_number_length e = write_number_known ∙ simp (free, ne_eqb (length x) w e)

      module _ (whole : length x ≡ w) where
        pub write_number_parameter : good_parameter c (get_or x 1 0) ≡ false → write_number x b ≡ 8
        write_number_parameter e = write_number_known ∙ simp (free, eq-eqb (length x) w whole, e)

        pub write_number_done : good_parameter c (get_or x 1 0) ≡ true → write_number x b ≡ 0
        write_number_done e = write_number_known ∙ simp (free, eq-eqb (length x) w whole, e)

-- ---- the state after a write

pub never_done : (e : Refusal) → 0 < number_of e
never_done Unknown = omega arith
never_done Busy = omega arith
never_done Length = omega arith
never_done Parameter = omega arith

pub after_write_done : (x : List ℕ) (b : Bridge) → write_number x b ≡ 0
    → after_write x b ≡ with_registers (accepted (get_or x 0 0) (get_or x 1 0) b.registers) b
unfolding after_write
after_write_done x b e = simp (eq-eqb _ _ e)

pub after_write_refused : (x : List ℕ) (b : Bridge) → 0 < write_number x b → after_write x b ≡ b
unfolding after_write
after_write_refused x b h = simp (ne_eqb (write_number x b) 0 (λ z. omega (arith, h, z)))

-- What the contracts of the checks and of a write rest on.
pub ruleset numbers = (write_number_none, write_number_unknown, write_number_busy, write_number_length, write_number_parameter, write_number_done)

pub ruleset writes = (never_done, after_write_done, after_write_refused)
