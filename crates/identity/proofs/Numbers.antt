-- An ID as one number.
--   number_of_le      what the library reads of eight bytes, low byte first, is their number
--   number_of_lt      n bytes make a number below 256 ^ n
use mathlib.Core.Path.{◌≡◌, ap}
use mathlib.Core.List.{List, [], ◌∷◌}
use Prim.Native.Nat.{ℕ, suc, ◌+◌, ◌*◌, ◌^◌, ◌<◌, ◌≤◌}
use native.Mathlib.Nat.{pow-suc}
use native.Mathlib.Omega.{arith}
use lib.ListN.{length, get_or, drop, drop_of_length-le}
use lib.Seq.{drop-cons}
use Rattle.std.specs.Int.{w64, from_le_bytes}
use Rattle.identity.specs.Identity.{number_of}

number_of_drop : (s : List ℕ) (j : ℕ) → j < length s → number_of (drop j s) ≡ get_or s j 0 + 256 * number_of (drop (suc j) s)
unfolding number_of
number_of_drop s j h = rw (drop-cons s j 0)

pub number_of_le : (s : List ℕ) → length s ≡ 8 → from_le_bytes w64 s ≡ number_of s
unfolding number_of
number_of_le s h =
    let at = λ (j : ℕ) (l : j < 8). number_of_drop s j (omega arith) in
    let short : length s ≤ 8 = omega arith in
    let end : number_of (drop 8 s) ≡ 0 = ap number_of (drop_of_length-le s short) in
    omega (arith, at 0 (omega arith), at 1 (omega arith), at 2 (omega arith), at 3 (omega arith), at 4 (omega arith), at 5 (omega arith), at 6 (omega arith), at 7 (omega arith))

pub number_of_lt : (s : List ℕ) → ((k : ℕ) → get_or s k 0 < 256) → number_of s < 256 ^ length s
unfolding number_of
number_of_lt [] byte = omega arith
number_of_lt (x ∷ s) byte =
    let first : x < 256 = byte 0 in
    let rest : number_of s < 256 ^ length s = number_of_lt s (λ k. byte (suc k)) in
    omega (arith, pow-suc 256 (length s))
