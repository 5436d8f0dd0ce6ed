-- The bits of a script as numbers.
--   number_at_is        bits that are those of a number x are x, but for what x has above them
--   bit_at_pair         a bit of two bytes, seen as one number
--   number_at_pair      bits that lie in two bytes
--   number_at_shifted   the same, with the shift and the remainder that give them
--   count_of_bytes      the event count is the first two bytes
--   number_at_lt        n bits make a number below 2 ^ n
--   number_at_add       m + n bits are the first m, and then n
--   piece_number, piece_lt, piece_next     the number of a piece, how large it is, and the place behind it
--   bytes_at_snoc       one byte more
use Rattle.std.proofs.Common.{◌≡◌, ℕ, zero, suc, ◌+◌, ◌-◌, ◌*◌, ◌/◌, ◌%◌, ◌^◌, ◌<◌, ◌≤◌, List, [], ◌∷◌, ◌++◌, get_or, sym, ap, ◌∙◌, subst, ap₂, add-zero, mod-lt, mod-eq_of_lt, one-mul, pow-suc, zero-add, add-one, one-add, arith, pow-add, shr-shr}
use native.Mathlib.Nat.{mod-one}
use native.Mathlib.Decide.{dec_lt}
use lib.Pow.{mod-pow-add, mod-mod-pow, field, pow-lt}
use Rattle.script.specs.Pair.{Pair}
use Rattle.script.specs.Script.{bit_at, number_at, piece_at, bytes_at, count_of}
use Rattle.script.specs.declared.Piece.{Piece}

-- ---- a number by its bits

pub number_at_is : (s : List ℕ) (k n x : ℕ) → ((j : ℕ) → j < n → bit_at s (k + j) ≡ x / 2 ^ (n - suc j) % 2) → number_at s k n ≡ x % 2 ^ n
unfolding number_at
number_at_is s k zero x same = sym (mod-one x)
number_at_is s k (suc n) x same =
    let first : bit_at s k ≡ x / 2 ^ n % 2 =
    ap (bit_at s) (sym (add-zero k)) ∙ same 0 (omega arith) ∙ ap (λ (m : ℕ). x / 2 ^ m % 2) (omega arith) in
    let rest : number_at s (suc k) n ≡ x % 2 ^ n = number_at_is s (suc k) n x (λ j h.
    ap (bit_at s) (omega arith) ∙ same (suc j) (omega arith) ∙ ap (λ (m : ℕ). x / 2 ^ m % 2) (omega arith)) in
    ap₂ (λ (b r : ℕ). b * 2 ^ n + r) first rest ∙ sym (mod-pow-add x 1 n) ∙ ap (λ (m : ℕ). x % 2 ^ m) (one-add n)

-- ---- two bytes

abbrev pub pair_at : List ℕ → ℕ → ℕ
pair_at s i = get_or s i 0 * 256 + get_or s (i + 1) 0

bit_at_place : (s : List ℕ) (i j : ℕ) → j < 8 → bit_at s (8 * i + j) ≡ get_or s i 0 / 2 ^ (7 - j) % 2
unfolding bit_at
bit_at_place s i j h =
    let byte : (8 * i + j) / 8 ≡ i = omega arith in
    let bit : (8 * i + j) % 8 ≡ j = omega arith in
    ap₂ (λ (a b : ℕ). get_or s a 0 / 2 ^ (7 - b) % 2) byte bit

-- the low bits of a number below 256, with something above it
low_bit : (a b m : ℕ) → b < 256 → m < 8 → (a * 256 + b) / 2 ^ m % 2 ≡ b / 2 ^ m % 2
low_bit a b m h l =
    let e : 7 - m + (1 + m) ≡ 8 = omega arith in
    let whole : (a * 256 + b) % 2 ^ (7 - m + (1 + m)) ≡ b = ap (λ (k : ℕ). (a * 256 + b) % 2 ^ k) e ∙ omega arith in
    let low : (a * 256 + b) % 2 ^ (1 + m) ≡ b % 2 ^ (1 + m) = sym (mod-mod-pow (a * 256 + b) (7 - m) (1 + m)) ∙ ap (λ (x : ℕ). x % 2 ^ (1 + m)) whole in
    sym (field (a * 256 + b) 1 m) ∙ ap (λ (x : ℕ). x / 2 ^ m) low ∙ field b 1 m

pub bit_at_pair : (s : List ℕ) (i j : ℕ) → j < 16 → get_or s (i + 1) 0 < 256 → bit_at s (8 * i + j) ≡ pair_at s i / 2 ^ (15 - j) % 2
bit_at_pair s i j h byte = go (dec_lt j 8)
  where
    high : pair_at s i / 2 ^ 8 ≡ get_or s i 0
    high = omega arith

    go : Dec (j < 8) → bit_at s (8 * i + j) ≡ pair_at s i / 2 ^ (15 - j) % 2
    go (yes l) =
        bit_at_place s i j l ∙ ap (λ (x : ℕ). x / 2 ^ (7 - j) % 2) (sym high) ∙ ap (λ (x : ℕ). x % 2) (shr-shr (pair_at s i) 8 (7 - j))
        ∙ ap (λ (m : ℕ). pair_at s i / 2 ^ m % 2) (omega arith)
    go (no l) =
        ap (bit_at s) (omega arith) ∙ bit_at_place s (i + 1) (j - 8) (omega arith) ∙ ap (λ (m : ℕ). get_or s (i + 1) 0 / 2 ^ m % 2) (omega arith)
        ∙ sym (low_bit (get_or s i 0) (get_or s (i + 1) 0) (15 - j) byte (omega arith))

pub number_at_pair : (s : List ℕ) (i o n : ℕ) → o + n ≤ 16 → get_or s (i + 1) 0 < 256 → number_at s (8 * i + o) n ≡ pair_at s i / 2 ^ (16 - o - n) % 2 ^ n
number_at_pair s i o n h byte =
    number_at_is s (8 * i + o) n (pair_at s i / 2 ^ (16 - o - n)) (λ j l.
    ap (bit_at s) (omega arith) ∙ bit_at_pair s i (o + j) (omega arith) byte ∙ ap (λ (m : ℕ). pair_at s i / 2 ^ m % 2) (omega arith)
    ∙ ap (λ (x : ℕ). x % 2) (sym (shr-shr (pair_at s i) (16 - o - n) (n - suc j))))

-- as two bytes are taken apart by a shift and a remainder
power_is : (n : ℕ) → n ≤ 8 → 1 * 2 ^ n % 2 ^ 32 ≡ 2 ^ n
power_is n h =
    let small : n < 32 = omega arith in
    ap (λ (p : ℕ). p % 2 ^ 32) (one-mul (2 ^ n)) ∙ mod-eq_of_lt (pow-lt small)

pub number_at_shifted : (s : List ℕ) (k n x : ℕ) → Pair s (k / 8) x → n ≤ 8 → x / 2 ^ (16 - k % 8 - n) % (1 * 2 ^ n % 2 ^ 32) ≡ number_at s k n
number_at_shifted s k n x pair h =
    let place : 8 * (k / 8) + k % 8 ≡ k = omega arith in
    ap₂ (λ (y p : ℕ). y / 2 ^ (16 - k % 8 - n) % p) pair.value (power_is n h)
    ∙ sym (number_at_pair s (k / 8) (k % 8) n (omega arith) pair.second) ∙ ap (λ (j : ℕ). number_at s j n) place

-- ---- how large, and how they join

bit_at_lt : (s : List ℕ) (k : ℕ) → bit_at s k < 2
unfolding bit_at
bit_at_lt s k = mod-lt (get_or s (k / 8) 0 / 2 ^ (7 - k % 8)) (omega arith)

pub number_at_lt : (s : List ℕ) (k n : ℕ) → number_at s k n < 2 ^ n
unfolding number_at
number_at_lt s k zero = omega arith
number_at_lt s k (suc n) =
    let rest : number_at s (suc k) n < 2 ^ n = number_at_lt s (suc k) n in
    subst (λ (m : ℕ). bit_at s k * 2 ^ n + number_at s (suc k) n < m) (sym (pow-suc 2 n)) (go (bit_at s k) (bit_at_lt s k) rest)
  where
    go : (b : ℕ) → b < 2 → number_at s (suc k) n < 2 ^ n → b * 2 ^ n + number_at s (suc k) n < 2 ^ n * 2
    go zero h r = omega arith
    go (suc zero) h r = omega arith
    go (suc (suc b)) h r = absurd (omega arith)

pub number_at_add : (s : List ℕ) (k m n : ℕ) → number_at s k (m + n) ≡ number_at s k m * 2 ^ n + number_at s (k + m) n
unfolding number_at
number_at_add s k zero n = ap₂ (number_at s) (sym (add-zero k)) (zero-add n) ∙ omega arith
number_at_add s k (suc m) n =
    let rest : number_at s (suc k) (m + n) ≡ number_at s (suc k) m * 2 ^ n + number_at s (suc k + m) n = number_at_add s (suc k) m n in
    let e : suc m + n ≡ suc (m + n) = omega arith in
    let f : suc k + m ≡ k + suc m = omega arith in
    ap (number_at s k) e ∙ omega (arith, rest, ap (λ (j : ℕ). number_at s j n) f, ap (λ (p : ℕ). bit_at s k * p) (pow-add 2 m n))

-- ---- pieces

module _ (s : List ℕ) (k n : ℕ) (p : Piece) (is : p ≡ piece_at s k n) where
  pub piece_number : p.number ≡ number_at s k n
  piece_number = ap (λ (q : Piece). q.number) is

  pub piece_lt : p.number < 2 ^ n
  piece_lt = subst (λ (x : ℕ). x < 2 ^ n) (sym piece_number) (number_at_lt s k n)

  -- a place that 64 bits hold does not count from 0 again
  pub piece_next : k + n < 2 ^ 64 → p.next ≡ k + n
  piece_next h = ap (λ (q : Piece). q.next) is ∙ omega arith

-- ---- bytes

pub count_of_bytes : (s : List ℕ) → count_of s ≡ number_at s 0 8 * 256 + number_at s 8 8
unfolding count_of
count_of_bytes s = number_at_add s 0 8 8

pub bytes_at_snoc : (s : List ℕ) (k n : ℕ) → bytes_at s k (n + 1) ≡ bytes_at s k n ++ (number_at s (k + 8 * n) 8 ∷ [])
unfolding bytes_at
bytes_at_snoc s k n = ap (bytes_at s k) (add-one n) ∙ go k n
  where
    go : (j m : ℕ) → bytes_at s j (suc m) ≡ bytes_at s j m ++ (number_at s (j + 8 * m) 8 ∷ [])
    go j zero = ap (λ (i : ℕ). number_at s i 8 ∷ []) (sym (add-zero j))
    go j (suc m) =
        let e : j + 8 + 8 * m ≡ j + 8 * suc m = omega arith in
        ap (λ (t : List ℕ). number_at s j 8 ∷ t) (go (j + 8) m ∙ ap (λ (i : ℕ). bytes_at s (j + 8) m ++ (number_at s i 8 ∷ [])) e)
