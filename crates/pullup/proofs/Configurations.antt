-- Which configuration bytes are accepted: one rule over the three bits, carried to every byte.
--   digit_le            a bit is 0 or 1
--   good_stored         what is stored of a good byte: the nibble of its three bits
--   configurations      the rule
use mathlib.Core.Path.{◌≡◌, refl, ap, ◌∙◌}
use mathlib.Core.Bool.{Bool, true, false, cond, false≢true}
use mathlib.Core.List.{List, [], ◌∷◌}
use mathlib.Core.Logic.{inl, inr}
use Prim.Native.Nat.{ℕ, ◌+◌, ◌*◌, ◌-◌, ◌/◌, ◌%◌, ◌≤◌}
use native.Mathlib.Omega.{arith}
use Rattle.std.proofs.lemmas.Grind.{common_steps}
use lib.Dec.{eqb}
use Rattle.probe.specs.Probe.{digit}
use Rattle.line.specs.Line.{any, all}
use Rattle.byte_slots.proofs.Digits.{digit_odd}
use Rattle.bridge.specs.declared.Bridge.{Bridge}
use Rattle.bridge.specs.Bridge.{busy, bytes_of, taken_while_busy, good_configuration, good_parameter, write_number, after_write, accepted, read_of}
use Rattle.pullup.specs.Pullup.{nibble, byte, eight_bytes, WrongByte, Configurations}

pub digit_le : (t : Bool) → digit t ≤ 1
digit_le true = omega arith
digit_le false = omega arith

-- ---- the rule

-- what is asked of a byte
good_when : (x : ℕ) → x / 2 % 2 ≡ 0 → x / 16 + x % 16 ≡ 15 → good_configuration x ≡ true
unfolding good_configuration
good_when x one sum = grind (arith, common_steps)

good_then : (x : ℕ) → good_configuration x ≡ true → (x / 2 % 2 ≡ 0) × (x / 16 + x % 16 ≡ 15)
unfolding good_configuration
good_then x e = (grind (arith, common_steps), grind (arith, common_steps))

-- the three bits as numbers
three_good : (a p w : ℕ) → a ≤ 1 → p ≤ 1 → w ≤ 1 → let n = a + p * 4 + w * 8 in good_configuration ((15 - n) * 16 + n) ≡ true
three_good a p w ha hp hw = good_when _ (omega arith) (omega arith)

three_of : (x : ℕ) → x / 2 % 2 ≡ 0 → x / 16 + x % 16 ≡ 15 → let n = x % 2 + x / 4 % 2 * 4 + x / 8 % 2 * 8 in x ≡ (15 - n) * 16 + n
three_of x one sum =
    let four : x / 2 / 2 ≡ x / 4 = omega arith in
    let eight : x / 4 / 2 ≡ x / 8 = omega arith in
    let sixteen : x / 8 / 2 ≡ x / 16 = omega arith in
    omega (arith, four, eight, sixteen)

good_bits : (a p w : Bool) → good_configuration (byte a p w) ≡ true
good_bits a p w = three_good (digit a) (digit p) (digit w) (digit_le a) (digit_le p) (digit_le w)

good_only : (x : ℕ) → good_configuration x ≡ true → x ≡ byte (eqb (x % 2) 1) (eqb (x / 4 % 2) 1) (eqb (x / 8 % 2) 1)
good_only x e =
    let g = good_then x e in
    three_of x g.0 g.1 ∙ simp (digit_odd x, digit_odd (x / 4), digit_odd (x / 8))

-- ---- so there are eight

-- the byte of three bits is among them
listed : (a p w : Bool) → any (eqb (byte a p w)) eight_bytes ≡ true
unfolding any
listed true true true = refl
listed true true false = refl
listed true false true = refl
listed true false false = refl
listed false true true = refl
listed false true false = refl
listed false false true = refl
listed false false false = refl

-- one of some good bytes is good
good_among : (x : ℕ) (l : List ℕ) → all good_configuration l ≡ true → any (eqb x) l ≡ true → good_configuration x ≡ true
unfolding any all
good_among x [] h e = absurd (false≢true e)
good_among x (y ∷ l) h e = grind (arith, common_steps, good_among x l)

good_listed : (x : ℕ) → good_configuration x ≡ true → any (eqb x) eight_bytes ≡ true
good_listed x e =
    ap (λ (y : ℕ). any (eqb y) eight_bytes) (good_only x e) ∙ listed (eqb (x % 2) 1) (eqb (x / 4 % 2) 1) (eqb (x / 8 % 2) 1)

good_eight : (x : ℕ) → good_configuration x ≡ any (eqb x) eight_bytes
unfolding good_configuration all
good_eight x = grind (arith, common_steps, good_listed x, good_among x eight_bytes refl)

-- ---- the number of a write

-- with nothing pending the byte alone decides
number_of_lem : (x : ℕ) (s : Bridge) → busy s ≡ false → write_number (0xD2 ∷ x ∷ []) s ≡ cond (good_configuration x) 0 8
unfolding write_number bytes_of good_parameter
number_of_lem x s free = simp free

-- 8 comes from the byte
number_eight : (x : ℕ) (s : Bridge) → write_number (0xD2 ∷ x ∷ []) s ≡ 8 → good_configuration x ≡ false
unfolding write_number bytes_of taken_while_busy good_parameter
number_eight x s e = grind (arith, common_steps)

wrong_bad : (x : ℕ) → WrongByte x → good_configuration x ≡ false
wrong_bad x h = grind (arith, common_steps, good_then x)

bad_wrong : (x : ℕ) → good_configuration x ≡ false → WrongByte x
bad_wrong x e = go (eqb (x / 2 % 2) 0) refl
  where
    go : (t : Bool) → eqb (x / 2 % 2) 0 ≡ t → WrongByte x
    go true et = inr (λ sum. grind (arith, common_steps, good_when x))
    go false et = inl (grind (arith, common_steps))

-- the three bits are stored and read back
low : (a p w : ℕ) → a ≤ 1 → p ≤ 1 → w ≤ 1 → let n = a + p * 4 + w * 8 in (((15 - n) * 16 + n) % 16 ≡ n) × (n % 16 ≡ n)
low a p w ha hp hw = (omega arith, omega arith)

stored : (a p w : Bool) → (byte a p w % 16 ≡ nibble a p w) × (nibble a p w % 16 ≡ nibble a p w)
stored a p w = low (digit a) (digit p) (digit w) (digit_le a) (digit_le p) (digit_le w)

pub good_stored : (x : ℕ) → good_configuration x ≡ true → x % 16 ≡ nibble (eqb (x % 2) 1) (eqb (x / 4 % 2) 1) (eqb (x / 8 % 2) 1)
good_stored x e =
    ap (λ (y : ℕ). y % 16) (good_only x e) ∙ (stored (eqb (x % 2) 1) (eqb (x / 4 % 2) 1) (eqb (x / 8 % 2) 1)).0

read_back : (a p w : Bool) (s : Bridge) → busy s ≡ false → read_of (after_write (0xD2 ∷ byte a p w ∷ []) s) ≡ nibble a p w
unfolding after_write accepted read_of
read_back a p w s free =
    simp (number_of_lem (byte a p w) s free, good_bits a p w) (ap (λ (n : ℕ). n % 16) (stored a p w).0 ∙ (stored a p w).1)

pub configurations : Configurations
configurations =
    record {
      accepted = good_bits;
      only = good_only;
      eight = good_eight;
      done = λ a p w s free. number_of_lem (byte a p w) s free ∙ ap (λ (g : Bool). cond g 0 8) (good_bits a p w);
      back = read_back;
      refused = λ x s free h. number_of_lem x s free ∙ ap (λ (g : Bool). cond g 0 8) (wrong_bad x h);
      wrong = λ x s e. bad_wrong x (number_eight x s e);
    }
