-- The first entries of a table, over any type of entry.
--   stepped f i l      l with f done to each of its first i entries
--   stepped_next       one entry more; stepped_set, of a table that is said to be so far; stepped_all, every entry
--   both, first_of, rest_of     two tests in a row
--   take_beyond, drop_beyond    a count beyond the table's end means the whole table
--   all_next           one entry more passes a test
--   any_std, all_std   the library's words for it
--   any_map            a test of what a function makes of each entry
--   beyond             what the tactics take of these
use mathlib.Core.Path.{◌≡◌, refl, sym, ap, ap₂, ◌∙◌}
use mathlib.Core.Bool.{Bool, true, false, cond, ◌||◌, ◌&&◌, false≢true}
use mathlib.Core.List.{List, [], ◌∷◌, ◌++◌, map, append-nil}
use Prim.Native.Nat.{ℕ, zero, suc, ◌+◌, ◌<◌, ◌≤◌}
use native.Mathlib.Numerals.{add-one}
use native.Mathlib.Omega.{arith}
use lib.ListN.{length, get_or, take, drop, set, drop_of_length-le}
use lib.Seq.{take_all}
use Rattle.std.specs.List.{list_any, list_all}
use Rattle.line.specs.Line.{all, any}

-- ---- two tests in a row

pub both : (s t : Bool) → s ≡ true → t ≡ true → cond s t false ≡ true
both s t e f = ap (λ (b : Bool). cond b t false) e ∙ f

pub first_of : (s t : Bool) → cond s t false ≡ true → s ≡ true
first_of true t e = refl
first_of false t e = e

pub rest_of : (s t : Bool) → cond s t false ≡ true → t ≡ true
rest_of true t e = e
rest_of false t e = absurd (false≢true e)

module _ {A : Type 0} where
  -- ---- what is done to each

  abbrev pub stepped : (A → A) → ℕ → List A → List A
  stepped f i l = map f (take i l) ++ drop i l

  next : (f : A → A) (l : List A) (i : ℕ) (d : A) → i < length l → set (stepped f i l) i (f (get_or (stepped f i l) i d)) ≡ stepped f (suc i) l
  next f [] i d h = absurd (omega arith)
  next f (x ∷ l) zero d h = refl
  next f (x ∷ l) (suc i) d h = ap (λ (t : List A). f x ∷ t) (next f l i d (omega arith))

  pub stepped_next : (f : A → A) (l : List A) (i : ℕ) (d : A) → i < length l → set (stepped f i l) i (f (get_or (stepped f i l) i d)) ≡ stepped f (i + 1) l
  stepped_next f l i d h = rw add-one (next f l i d h)

  -- a table m of which the first i entries are gone through, and f is done to one more
  pub stepped_set : (f : A → A) (l m : List A) (i : ℕ) (d p : A)
      → i < length l → m ≡ stepped f i l → p ≡ f (get_or m i d) → set m i p ≡ stepped f (i + 1) l
  stepped_set f l m i d p h e q =
      ap₂ (λ (t : List A) (x : A). set t i x) e (q ∙ ap (λ (t : List A). f (get_or t i d)) e) ∙ stepped_next f l i d h

  pub stepped_all : (f : A → A) (l : List A) (i : ℕ) → length l ≤ i → stepped f i l ≡ map f l
  stepped_all f l i h = rw (take_all i l h, drop_of_length-le l h, append-nil)

  -- ---- a count beyond the end

  pub take_beyond : (l : List A) (m n : ℕ) → length l ≤ m → length l ≤ n → take m l ≡ take n l
  take_beyond l m n h k = take_all m l h ∙ sym (take_all n l k)

  pub drop_beyond : (l : List A) (m n : ℕ) → length l ≤ m → length l ≤ n → drop m l ≡ drop n l
  drop_beyond l m n h k = drop_of_length-le l h ∙ sym (drop_of_length-le l k)

  -- ---- tests

  more : (f : A → Bool) (l : List A) (i : ℕ) (d : A)
      → i < length l → all f (take i l) ≡ true → f (get_or l i d) ≡ true → all f (take (suc i) l) ≡ true
  unfolding all
  more f [] i d h a e = absurd (omega arith)
  more f (x ∷ l) zero d h a e = both (f x) true e refl
  more f (x ∷ l) (suc i) d h a e =
      both (f x) (all f (take (suc i) l)) (first_of (f x) (all f (take i l)) a)
      (more f l i d (omega arith) (rest_of (f x) (all f (take i l)) a) e)

  pub all_next : (f : A → Bool) (l : List A) (i : ℕ) (d : A)
      → i < length l → all f (take i l) ≡ true → f (get_or l i d) ≡ true → all f (take (i + 1) l) ≡ true
  all_next f l i d h a e = rw add-one (more f l i d h a e)

-- ---- the library's words

pub any_std : {A : Type 0} (f : A → Bool) (l : List A) → list_any f l ≡ any f l
unfolding any
any_std f [] = refl
any_std f (x ∷ l) = ap (λ (t : Bool). f x || t) (any_std f l) ∙ go (f x) (any f l)
  where
    go : (s t : Bool) → (s || t) ≡ cond s true t
    go true t = refl
    go false t = refl

pub all_std : {A : Type 0} (f : A → Bool) (l : List A) → list_all f l ≡ all f l
unfolding all
all_std f [] = refl
all_std f (x ∷ l) = ap (λ (t : Bool). f x && t) (all_std f l) ∙ go (f x) (all f l)
  where
    go : (s t : Bool) → (s && t) ≡ cond s t false
    go true t = refl
    go false t = refl

pub any_map : {A B : Type 0} (f : B → Bool) (g : A → B) (l : List A) → any f (map g l) ≡ any (λ (x : A). f (g x)) l
unfolding any
any_map f g [] = refl
any_map f g (x ∷ l) = ap (λ (t : Bool). cond (f (g x)) true t) (any_map f g l)

-- what the tactics take of these
pub ruleset beyond = (take_beyond, drop_beyond)
