-- Two tables side by side whose first entries have been gone through.
--   paired_at       an entry that is still to come is as it was
--   paired_next     one entry more; paired_set, in place
--   paired_length   as many as there were
--   paired_all      all of them, and the entries behind
--   all_zip         a test of every pair
use mathlib.Core.Path.{◌≡◌, refl, ap, ap₂, ◌∙◌}
use mathlib.Core.Bool.{Bool, false, cond}
use mathlib.Core.List.{List, [], ◌∷◌, ◌++◌}
use Prim.Native.Nat.{ℕ, zero, suc, ◌+◌, ◌<◌, ◌≤◌}
use native.Mathlib.Numerals.{add-one}
use native.Mathlib.Omega.{arith}
use lib.ListN.{length, get_or, take, drop, set, length-take, take-append-drop}
use Rattle.std.specs.List.{zip}
use Rattle.line.specs.Line.{all}
use Rattle.wire.specs.Pairs.{paired, both_all}

module _ {A B : Type 0} where
  pub paired_length : (f : A → B → B) (xs : List A) (ys : List B) → length (paired f xs ys) ≡ length ys
  unfolding paired
  paired_length f [] ys = refl
  paired_length f (a ∷ xs) [] = refl
  paired_length f (a ∷ xs) (b ∷ ys) = ap suc (paired_length f xs ys)

  pub paired_at : (f : A → B → B) (xs : List A) (ys : List B) (i : ℕ) (e : B) → get_or (paired f (take i xs) ys) i e ≡ get_or ys i e
  unfolding paired
  paired_at f xs ys zero e = refl
  paired_at f [] ys (suc i) e = refl
  paired_at f (a ∷ xs) [] (suc i) e = refl
  paired_at f (a ∷ xs) (b ∷ ys) (suc i) e = paired_at f xs ys i e

  next : (f : A → B → B) (xs : List A) (ys : List B) (i : ℕ) (d : A) (e : B) → i < length xs → i < length ys
      → set (paired f (take i xs) ys) i (f (get_or xs i d) (get_or ys i e)) ≡ paired f (take (suc i) xs) ys
  unfolding paired
  next f [] ys i d e h k = absurd (omega arith)
  next f (a ∷ xs) [] i d e h k = absurd (omega arith)
  next f (a ∷ xs) (b ∷ ys) zero d e h k = refl
  next f (a ∷ xs) (b ∷ ys) (suc i) d e h k = ap (λ (t : List B). f a b ∷ t) (next f xs ys i d e (omega arith) (omega arith))

  pub paired_next : (f : A → B → B) (xs : List A) (ys : List B) (i : ℕ) (d : A) (e : B) → i < length xs → i < length ys
      → set (paired f (take i xs) ys) i (f (get_or xs i d) (get_or ys i e)) ≡ paired f (take (i + 1) xs) ys
  paired_next f xs ys i d e h k = rw add-one (next f xs ys i d e h k)

  pub paired_set : (f : A → B → B) (xs : List A) (ys zs : List B) (i : ℕ) (d : A) (e z : B) → i < length xs → i < length ys
      → zs ≡ paired f (take i xs) ys → z ≡ f (get_or xs i d) (get_or zs i e) → set zs i z ≡ paired f (take (i + 1) xs) ys
  paired_set f xs ys zs i d e z h k m q =
      ap₂ (λ (t : List B) (x : B). set t i x) m
      (q ∙ ap (λ (t : List B). f (get_or xs i d) (get_or t i e)) m ∙ ap (f (get_or xs i d)) (paired_at f xs ys i e))
      ∙ paired_next f xs ys i d e h k

  front : (f : A → B → B) (xs : List A) (ys : List B) (n : ℕ) → length xs ≤ n → paired f xs (take n ys) ++ drop n ys ≡ paired f xs ys
  unfolding paired
  front f [] ys n h = take-append-drop n ys
  front f (a ∷ xs) ys zero h = absurd (omega arith)
  front f (a ∷ xs) [] (suc n) h = refl
  front f (a ∷ xs) (b ∷ ys) (suc n) h = ap (λ (t : List B). f a b ∷ t) (front f xs ys n (omega arith))

  pub paired_all : (f : A → B → B) (xs : List A) (ys zs : List B) (n i : ℕ) → zs ≡ paired f (take i xs) (take n ys) → i ≡ n
      → zs ++ drop n ys ≡ paired f (take n xs) ys
  paired_all f xs ys zs n i m e =
      ap (λ (t : List B). t ++ drop n ys) (m ∙ ap (λ (j : ℕ). paired f (take j xs) (take n ys)) e)
      ∙ front f (take n xs) ys n (omega (arith, length-take n xs))

  pub all_zip : (f : A → B → Bool) (xs : List A) (ys : List B) (n : ℕ) → length xs ≤ n → all (λ (z : A × B). f z.0 z.1) (zip xs (take n ys)) ≡ both_all f xs ys
  unfolding all both_all
  all_zip f [] ys n h = refl
  all_zip f (a ∷ xs) ys zero h = absurd (omega arith)
  all_zip f (a ∷ xs) [] (suc n) h = refl
  all_zip f (a ∷ xs) (b ∷ ys) (suc n) h = ap (λ (t : Bool). cond (f a b) t false) (all_zip f xs ys n (omega arith))
