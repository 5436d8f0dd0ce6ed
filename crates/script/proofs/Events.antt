-- Events and the place behind them.
--   kind_at_lt, length_at_lt          two bits make a number below 4
--   event_is                          the event at a place, by the four bits of its head
--   write_lt                          a write has at most three bytes
--   size_of_event                     how many bits the event at a place takes
--   size_at_low, size_at_high         it takes 2 to 66
--   end_of_next, end_of_none          one event more, and none left
--   end_of_low                        each event takes two bits at least
--   count_of_most                     a well-formed script has at most 16,376 events
use Rattle.std.proofs.Common.{◌≡◌, ℕ, zero, suc, ◌+◌, ◌-◌, ◌*◌, ◌/◌, ◌%◌, ◌^◌, ◌<◌, ◌≤◌, Bool, true, false, cond, ◌&&◌, eqb, ltb, leb, List, length, refl, ap, ap₂, ◌∙◌, arith, leb-true}
use mathlib.Core.Bool.{and-eq-true_iff}
use Rattle.script.specs.declared.Piece.{Piece}
use Rattle.script.specs.declared.Event.TheVariants.{Write}
use Rattle.script.specs.Script.{number_at, piece_at, kind_at, length_at, event_of, event_at, size_for, size_of, size_at, end_of, count_of, is_padded, is_script}
use Rattle.script.proofs.Numbers.{number_at_lt, number_at_add, piece_number}

-- ---- an event and how many bits it takes

module _ (s : List ℕ) (k : ℕ) where
  pub kind_at_lt : kind_at s k < 4
  unfolding kind_at
  kind_at_lt = number_at_lt s k 2

  pub length_at_lt : length_at s k < 4
  unfolding length_at
  length_at_lt = number_at_lt s (k + 2) 2

  -- an event's head is four bits: its kind, and the two that are a write's byte count
  pub event_is : (p : Piece) → p ≡ piece_at s k 4 → event_of (p.number / 4) (p.number % 4) ≡ event_at s k
  unfolding event_at kind_at length_at
  event_is p is =
      let h : p.number ≡ number_at s k 2 * 2 ^ 2 + number_at s (k + 2) 2 = piece_number s k 4 p is ∙ number_at_add s k 2 2 in
      let kind : p.number / 4 ≡ number_at s k 2 = omega (arith, length_at_lt) in
      let n : p.number % 4 ≡ number_at s (k + 2) 2 = omega (arith, length_at_lt) in
      ap₂ event_of kind n

  pub write_lt : (n : ℕ) → Write n ≡ event_at s k → n < 4
  unfolding event_at event_of
  write_lt n is = go (kind_at s k) kind_at_lt is
    where
      go : (kind : ℕ) → kind < 4 → Write n ≡ event_of kind (length_at s k) → n < 4
      go zero h e = let same : n ≡ length_at s k = cc in omega (arith, length_at_lt)
      go (suc zero) h e = absurd (cc)
      go (suc (suc zero)) h e = absurd (cc)
      go (suc (suc (suc zero))) h e = absurd (cc)
      go (suc (suc (suc (suc kind)))) h e = absurd (omega arith)

  pub size_of_event : size_of (event_at s k) ≡ size_at s k
  unfolding event_at event_of size_at size_for
  size_of_event = go (kind_at s k) kind_at_lt
    where
      go : (kind : ℕ) → kind < 4 → size_of (event_of kind (length_at s k)) ≡ size_for kind (length_at s k)
      go zero h = refl
      go (suc zero) h = refl
      go (suc (suc zero)) h = refl
      go (suc (suc (suc zero))) h = refl
      go (suc (suc (suc (suc kind)))) h = absurd (omega arith)

  pub size_at_low : 2 ≤ size_at s k
  unfolding size_at size_for
  size_at_low = go (eqb (kind_at s k) 0) (eqb (kind_at s k) 3)
    where
      go : (w f : Bool) → 2 ≤ cond w (4 + 8 * length_at s k) (cond f 66 2)
      go true f = omega arith
      go false true = omega arith
      go false false = omega arith

  pub size_at_high : size_at s k ≤ 66
  unfolding size_at size_for
  size_at_high = go (eqb (kind_at s k) 0) (eqb (kind_at s k) 3)
    where
      go : (w f : Bool) → cond w (4 + 8 * length_at s k) (cond f 66 2) ≤ 66
      go true f = omega (arith, length_at_lt)
      go false true = omega arith
      go false false = omega arith

-- ---- the place behind the events

pub end_of_next : (s : List ℕ) (n k : ℕ) → 0 < n → end_of s (n - 1) (k + size_at s k) ≡ end_of s n k
unfolding end_of
end_of_next s zero k h = absurd (omega arith)
end_of_next s (suc n) k h =
    let e : suc n - 1 ≡ n = omega arith in
    ap (λ (m : ℕ). end_of s m (k + size_at s k)) e

pub end_of_none : (s : List ℕ) (n k : ℕ) → n ≡ 0 → end_of s n k ≡ k
unfolding end_of
end_of_none s n k e = ap (λ (m : ℕ). end_of s m k) e

pub end_of_low : (s : List ℕ) (n k : ℕ) → k + 2 * n ≤ end_of s n k
unfolding end_of
end_of_low s zero k = omega arith
end_of_low s (suc n) k = omega (arith, end_of_low s n (k + size_at s k), size_at_low s k)

-- ---- a well-formed script

-- 4,096 bytes have 32,752 bits behind the count, and no event takes fewer than two
pub count_of_most : (s : List ℕ) → is_script s ≡ true → count_of s ≤ 16376
unfolding is_script is_padded
count_of_most s h =
    let e = end_of s (count_of s) 16 in
    let w = 8 * length s in
    let sized = leb (length s) 4096 && leb 2 (length s) in
    let both = (and-eq-true_iff sized (is_padded s e)).0 h in
    let placed = (and-eq-true_iff (leb e w && ltb w (e + 8)) (eqb (number_at s e (w - e)) 0)).0 both.1 in
    let inside : leb e w ≡ true = ((and-eq-true_iff (leb e w) (ltb w (e + 8))).0 placed.0).0 in
    let short : leb (length s) 4096 ≡ true = ((and-eq-true_iff (leb (length s) 4096) (leb 2 (length s))).0 both.0).0 in
    omega (arith, leb-true (length s) 4096 short, leb-true e w inside, end_of_low s (count_of s) 16)
