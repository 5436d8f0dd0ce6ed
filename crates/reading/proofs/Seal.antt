-- Laws of the checksum behind a packet.
--   sealed_split    a packet that is sealed is its front with the checksum of that behind
--   sealed_true     a body with its checksum behind it is sealed
--   no_seal         a packet of less than two bytes is not sealed
use mathlib.Core.Path.{◌≡◌, refl, sym, ap, ap₂, subst, ◌∙◌}
use mathlib.Core.Bool.{Bool, true, false, ◌&&◌, and-eq-true_iff}
use mathlib.Core.List.{List, [], ◌∷◌, ◌++◌}
use Prim.Native.Nat.{ℕ, suc, ◌+◌, ◌-◌, ◌/◌, ◌%◌, ◌<◌}
use native.Mathlib.Numerals.{add-one}
use native.Mathlib.Omega.{arith}
use borrow.Author.Tests.{eq-eqb, eqb-true}
use lib.Dec.{eqb}
use lib.ListN.{length, get_or, take, drop, length-append, take-append-drop}
use lib.Seq.{drop-cons, drop-length, take-append_seam, get_or-append_seam, get_or-append-add}
use Rattle.checksum.specs.Register.{crc16_of, crc_from}
use Rattle.packet.specs.Request.{inverted_of, seal_of}
use Rattle.reading.specs.Reading.{is_sealed}

pub sealed_split : (p : List ℕ) (n : ℕ) → length p ≡ n + 2 → is_sealed p ≡ true → p ≡ take n p ++ seal_of (take n p)
unfolding is_sealed seal_of
sealed_split p n h s =
    let low : ℕ = inverted_of (take n p) % 256 in
    let high : ℕ = inverted_of (take n p) / 256 in
    let at : length p - 2 ≡ n = omega arith in
    let t : (eqb (get_or p n 0) low && eqb (get_or p (n + 1) 0) high) ≡ true
    = subst (λ (k : ℕ). (eqb (get_or p k 0) (inverted_of (take k p) % 256) && eqb (get_or p (k + 1) 0) (inverted_of (take k p) / 256)) ≡ true) at s in
    let first : get_or p n 0 ≡ low = eqb-true (get_or p n 0) low ((and-eq-true_iff (eqb (get_or p n 0) low) (eqb (get_or p (n + 1) 0) high)).0 t).0 in
    let second : get_or p (n + 1) 0 ≡ high = eqb-true (get_or p (n + 1) 0) high ((and-eq-true_iff (eqb (get_or p n 0) low) (eqb (get_or p (n + 1) 0) high)).0 t).1 in
    let next : get_or p (suc n) 0 ≡ high = ap (λ (k : ℕ). get_or p k 0) (sym (add-one n)) ∙ second in
    let tail : drop n p ≡ get_or p n 0 ∷ get_or p (suc n) 0 ∷ drop (suc (suc n)) p
    = drop-cons p n 0 (omega arith) ∙ ap (λ (l : List ℕ). get_or p n 0 ∷ l) (drop-cons p (suc n) 0 (omega arith)) in
    let end : suc (suc n) ≡ length p = omega arith in
    let none : drop (suc (suc n)) p ≡ [] = ap (λ (k : ℕ). drop k p) end ∙ drop-length p in
    sym (take-append-drop n p)
    ∙ ap (λ (l : List ℕ). take n p ++ l)
    (tail ∙ ap₂ (λ (x : ℕ) (l : List ℕ). x ∷ l) first (ap₂ (λ (x : ℕ) (l : List ℕ). x ∷ l) next none))

pub sealed_true : (s : List ℕ) → is_sealed (s ++ seal_of s) ≡ true
unfolding is_sealed seal_of
sealed_true s =
    let p : List ℕ = s ++ seal_of s in
    let low : ℕ = inverted_of s % 256 in
    let high : ℕ = inverted_of s / 256 in
    let at : length p - 2 ≡ length s = omega (arith, length-append s (seal_of s)) in
    let front : take (length s) p ≡ s = take-append_seam s (seal_of s) in
    let first : get_or p (length s) 0 ≡ low = get_or-append_seam s low (high ∷ []) 0 in
    let second : get_or p (length s + 1) 0 ≡ high = get_or-append-add s (seal_of s) 1 0 in
    simp (at, front, first, second, eq-eqb low low refl, eq-eqb high high refl)

pub no_seal : (p : List ℕ) → length p < 2 → is_sealed p ≡ false
unfolding is_sealed inverted_of crc16_of crc_from
no_seal [] h = refl
no_seal (x ∷ []) h = and_false (eqb x 255)
  where
    and_false : (t : Bool) → (t && false) ≡ false
    and_false true = refl
    and_false false = refl
no_seal (x ∷ y ∷ l) h = absurd (omega arith)
