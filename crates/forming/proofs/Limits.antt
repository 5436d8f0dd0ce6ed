-- What an accepted request shows.
--   limits_first           a request outside its limits is refused with 11, whatever the buffer
--   good_of, room_of       the number is 0 only where the request is within its limits and the packet fits
--   address_of_lem, count_of   the limits as orders
use mathlib.Core.Path.{◌≡◌, refl, sym, ap, ◌∙◌}
use mathlib.Core.Bool.{Bool, true, false, cond, ◌&&◌, and-eq-true_iff}
use Prim.Native.Nat.{ℕ, ◌≤◌}
use borrow.Author.Tests.{leb-true}
use native.Mathlib.Omega.{arith}
use lib.Dec.{leb}
use Rattle.forming.specs.Forming.{number_for, good_address, good_count}

limits_first : (w r : ℕ) → number_for false w r ≡ 11
limits_first w r = refl

pub good_of : (t : Bool) (w r : ℕ) → number_for t w r ≡ 0 → t ≡ true
good_of true w r e = refl
good_of false w r e = absurd (omega (arith, limits_first w r))

pub room_of : (t : Bool) (w r : ℕ) → number_for t w r ≡ 0 → w ≤ r
room_of true w r e = go (leb w r) refl e
  where
    go : (u : Bool) → leb w r ≡ u → number_for true w r ≡ 0 → w ≤ r
    go true h f = leb-true w r h
    go false h f = absurd (omega (arith, sym (ap (λ (t : Bool). cond t 0 12) h) ∙ f))
room_of false w r e = absurd (omega (arith, limits_first w r))

pub address_of_lem : (a : ℕ) (b : Bool) → (good_address a && b) ≡ true → a ≤ 127
address_of_lem a b e = leb-true a 127 ((and-eq-true_iff (good_address a) b).0 e).0

pub count_of : (n : ℕ) → good_count n ≡ true → (1 ≤ n) × (n ≤ 255)
count_of n e =
    let b = (and-eq-true_iff (leb 1 n) (leb n 255)).0 e in
    (leb-true 1 n b.0, leb-true n 255 b.1)
