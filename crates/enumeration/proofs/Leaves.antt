-- The leaves of the whole tree are the IDs in search order. That each ID stands there once is where distinctness is used.
--   leaves_mod, leaves_has, leaves_all    what stands at a node begins as the node says, and is there; and all that is there stands at the node
--   leaves_rising                         the leaves rise
--   length_leaves                         there are as many as IDs that begin so
--   sorted_in_order                       `sorted` is the IDs in search order
use mathlib.Core.Path.{◌≡◌, refl, sym, ap, ap₂, subst, ◌∙◌}
use mathlib.Core.Bool.{Bool, true, false, cond, true≢false, false≢true}
use mathlib.Core.List.Memᴰ
use mathlib.Core.List.{List, [], ◌∷◌, ◌++◌}
use mathlib.Core.Logic.{⊎_elim}
use Prim.Native.Nat.{ℕ, zero, suc, ◌+◌, ◌%◌, ◌^◌, ◌<◌, ◌≤◌}
use native.Mathlib.Nat.{le_refl, mod-eq_of_lt, mod-lt, mod-one, eq-or-lt_of_le}
use native.Mathlib.Omega.{arith}
use borrow.Author.Tests.{eqb-true, eq-eqb}
use lib.Dec.{eqb, lit<}
use lib.ListN.{length, length-append}
use lib.Pow.{pow_pos}
use Rattle.identity.specs.Identity.{bit_of}
use Rattle.enumeration.specs.Order.{Before, Among, Distinct, Narrow, Rising, InOrder}
use Rattle.enumeration.proofs.Tree.{begins, has, child, leaves, sorted}
use Rattle.enumeration.proofs.Bits.{child_lt, bit_child, mod_child, child_mod, begins_child, has_split}
use Rattle.enumeration.proofs.Passes.{leaves_none}

-- ---- membership

-- what stands in a list of one or none
in_cond : (t : Bool) (x a : ℕ) → Among x (cond t (a ∷ []) []) → (x ≡ a) × (t ≡ true)
in_cond true x a m = (Memᴰ.eq_of_singleton m, refl)
in_cond false x a m = absurd (Memᴰ.not-nil m)

cond_in : (t : Bool) (x a : ℕ) → x ≡ a → t ≡ true → Among x (cond t (a ∷ []) [])
cond_in true x a e t = Memᴰ.head e
cond_in false x a e t = absurd (false≢true t)

module _ (h : ℕ → ℕ → Bool) where
  pub leaves_mod : (n k a x : ℕ) → a < 2 ^ k → Among x (leaves h n k a) → x % 2 ^ k ≡ a
  unfolding leaves
  leaves_mod zero k a x lt m = ap (λ (y : ℕ). y % 2 ^ k) (in_cond (h k a) x a m).0 ∙ mod-eq_of_lt lt
  leaves_mod (suc n) k a x lt m =
      ⊎_elim (λ y. mod_child false k a x lt (leaves_mod n (suc k) (child false k a) x (child_lt false k a lt) y))
      (λ y. mod_child true k a x lt (leaves_mod n (suc k) (child true k a) x (child_lt true k a lt) y))
      (Memᴰ.append_cases (leaves h n (suc k) (child false k a)) m)

  pub leaves_has : (n k a x z : ℕ) → n + k ≡ z → Among x (leaves h n k a) → h z x ≡ true
  unfolding leaves
  leaves_has zero k a x z e m =
      let r = in_cond (h k a) x a m in
      ap₂ h (sym k_is) r.0 ∙ r.1
    where
      k_is : k ≡ z
      k_is = omega arith
  leaves_has (suc n) k a x z e m =
      ⊎_elim (λ y. leaves_has n (suc k) (child false k a) x z (omega arith) y)
      (λ y. leaves_has n (suc k) (child true k a) x z (omega arith) y)
      (Memᴰ.append_cases (leaves h n (suc k) (child false k a)) m)

  pub leaves_all : (n k a x z : ℕ) → n + k ≡ z → x < 2 ^ z → x % 2 ^ k ≡ a → h z x ≡ true → Among x (leaves h n k a)
  unfolding leaves
  leaves_all zero k a x z e lt b t = cond_in (h k a) x a x_is (ap₂ h k_is (sym x_is) ∙ t)
    where
      k_is : k ≡ z
      k_is = omega arith

      x_is : x ≡ a
      x_is = sym (mod-eq_of_lt (subst (λ (j : ℕ). x < 2 ^ j) (sym k_is) lt)) ∙ b
  leaves_all (suc n) k a x z e lt b t =
      go (bit_of x k) refl
      (λ w o. leaves_all n (suc k) (child w k a) x z (omega arith) lt (child_mod w k a x b o) t)
    where
      go : (w : Bool) → bit_of x k ≡ w → ((w : Bool) → bit_of x k ≡ w → Among x (leaves h n (suc k) (child w k a))) → Among x (leaves h n (suc k) (child false k a) ++ leaves h n (suc k) (child true k a))
      go true o f = Memᴰ.append_right (leaves h n (suc k) (child false k a)) (f true o)
      go false o f = Memᴰ.append_left (leaves h n (suc k) (child true k a)) (f false o)

-- ---- order

alike : (i j k : ℕ) → i % 2 ^ k ≡ j % 2 ^ k → (m : ℕ) → m < k → bit_of i m ≡ bit_of j m
alike i j zero e m lt = absurd (omega arith)
alike i j (suc k) e m lt =
    ⊎_elim (λ (s : m ≡ k). ap (bit_of i) s ∙ bit_child (bit_of j k) k (j % 2 ^ k) i (mod-lt j (pow_pos k)) here ∙ ap (bit_of j) (sym s))
    (λ (l : m < k). alike i j k (mod_child (bit_of j k) k (j % 2 ^ k) i (mod-lt j (pow_pos k)) here) m l)
    (eq-or-lt_of_le (omega arith))
  where
    here : i % 2 ^ suc k ≡ child (bit_of j k) k (j % 2 ^ k)
    here = e ∙ child_mod (bit_of j k) k (j % 2 ^ k) j refl refl

rising_append : (l r : List ℕ) → Rising l → Rising r → ((i j : ℕ) → Among i l → Among j r → Before i j) → Rising (l ++ r)
rising_append [] r a b c = b
rising_append (x ∷ l) r a b c = (
  λ j m. ⊎_elim (λ y. a.0 j y) (λ y. c x j (Memᴰ.head refl) y) (Memᴰ.append_cases l m),
  rising_append l r a.1 b (λ i j y z. c i j (Memᴰ.tail y) z),
)

pub leaves_rising : (h : ℕ → ℕ → Bool) (n k a : ℕ) → a < 2 ^ k → n + k ≤ 64 → Rising (leaves h n k a)
unfolding leaves
leaves_rising h zero k a lt le = go (h k a)
  where
    go : (t : Bool) → Rising (cond t (a ∷ []) [])
    go true = (λ j m. absurd (Memᴰ.not-nil m), tt)
    go false = tt
leaves_rising h (suc n) k a lt le =
    rising_append (leaves h n (suc k) (child false k a)) (leaves h n (suc k) (child true k a))
    (leaves_rising h n (suc k) (child false k a) (child_lt false k a lt) (omega arith))
    (leaves_rising h n (suc k) (child true k a) (child_lt true k a lt) (omega arith))
    (λ i j x y.
    let p = leaves_mod h n (suc k) (child false k a) i (child_lt false k a lt) x in
    let q = leaves_mod h n (suc k) (child true k a) j (child_lt true k a lt) y in
    record {
      place = k;
      within = omega arith;
      alike = alike i j k (mod_child false k a i lt p ∙ sym (mod_child true k a j lt q));
      first = bit_child false k a i lt p;
      second = bit_child true k a j lt q;
    })

-- ---- number

-- how many IDs begin so
tally : List ℕ → ℕ → ℕ → ℕ
tally [] k a = 0
tally (i ∷ ids) k a = cond (begins k a i) (suc (tally ids k a)) (tally ids k a)

tally_split : (ids : List ℕ) (k a : ℕ) → a < 2 ^ k → tally ids k a ≡ tally ids (suc k) (child false k a) + tally ids (suc k) (child true k a)
unfolding tally
tally_split [] k a lt = refl
tally_split (i ∷ ids) k a lt =
    simp (begins_child false k a i lt, begins_child true k a i lt)
    (go (begins k a i) (bit_of i k) (tally ids k a) (tally ids (suc k) a) (tally ids (suc k) (a + 2 ^ k)) (tally_split ids k a lt))
  where
    go : (s t : Bool) (x y z : ℕ) → x ≡ y + z → cond s (suc x) x ≡ cond (cond s (cond t false true) false) (suc y) y + cond (cond s (cond t true false) false) (suc z) z
    go true true x y z e = omega arith
    go true false x y z e = omega arith
    go false t x y z e = e

-- a narrow ID is its own low 64 bits
pub begins_whole : (a i : ℕ) → i < 2 ^ 64 → begins 64 a i ≡ eqb i a
unfolding begins
begins_whole a i lt = ap (λ (j : ℕ). eqb j a) (mod-eq_of_lt lt)

-- what is narrow of a list is narrow of its tail
pub narrow_tail : {i : ℕ} {ids : List ℕ} → Narrow (i ∷ ids) → Narrow ids
narrow_tail w j m = w j (Memᴰ.tail m)

begins_same : (a i : ℕ) → i < 2 ^ 64 → begins 64 a i ≡ true → i ≡ a
begins_same a i lt t = eqb-true i a (sym (begins_whole a i lt) ∙ t)

pub has_among : (ids : List ℕ) → Narrow ids → (a : ℕ) → has ids 64 a ≡ true → Among a ids
unfolding has
has_among [] w a e = absurd (false≢true e)
has_among (i ∷ ids) w a e = go (begins 64 a i) refl (has_among ids (narrow_tail w) a) e
  where
    go : (t : Bool) → begins 64 a i ≡ t → (has ids 64 a ≡ true → Among a ids) → cond t true (has ids 64 a) ≡ true → Among a (i ∷ ids)
    go true t f e = Memᴰ.head (sym (begins_same a i (w i (Memᴰ.head refl)) t))
    go false t f e = Memᴰ.tail (f e)

pub among_has : (ids : List ℕ) → Narrow ids → (a : ℕ) → Among a ids → has ids 64 a ≡ true
unfolding has
among_has [] w a m = absurd (Memᴰ.not-nil m)
among_has (i ∷ ids) w a m =
    ⊎_elim
    (λ e. ap (λ (t : Bool). cond t true (has ids 64 a)) (begins_whole a i (w i (Memᴰ.head refl)) ∙ eq-eqb i a (sym e)))
    (λ y. go (begins 64 a i) (among_has ids (narrow_tail w) a y)) (Memᴰ.cases_cons m)
  where
    go : (t : Bool) → has ids 64 a ≡ true → cond t true (has ids 64 a) ≡ true
    go true e = refl
    go false e = e

tally_none : (ids : List ℕ) (k a : ℕ) → has ids k a ≡ false → tally ids k a ≡ 0
unfolding tally has
tally_none [] k a e = refl
tally_none (i ∷ ids) k a e = go (begins k a i) e (tally_none ids k a)
  where
    go : (t : Bool) → cond t true (has ids k a) ≡ false → (has ids k a ≡ false → tally ids k a ≡ 0) → cond t (suc (tally ids k a)) (tally ids k a) ≡ 0
    go true e f = absurd (true≢false e)
    go false e f = f e

tally_some : (ids : List ℕ) (k a : ℕ) → has ids k a ≡ true → 1 ≤ tally ids k a
unfolding tally has
tally_some [] k a e = absurd (false≢true e)
tally_some (i ∷ ids) k a e = go (begins k a i) e (tally_some ids k a)
  where
    go : (t : Bool) → cond t true (has ids k a) ≡ true → (has ids k a ≡ true → 1 ≤ tally ids k a) → 1 ≤ cond t (suc (tally ids k a)) (tally ids k a)
    go true e f = omega arith
    go false e f = f e

-- of distinct IDs one at most is a given number
tally_one : (ids : List ℕ) → Distinct ids → Narrow ids → (a : ℕ) → has ids 64 a ≡ true → tally ids 64 a ≡ 1
unfolding tally has
tally_one [] u w a e = absurd (false≢true e)
tally_one (i ∷ ids) u w a e = go (begins 64 a i) refl e (tally_one ids u.1 (narrow_tail w) a)
  where
    same : begins 64 a i ≡ true → i ≡ a
    same = begins_same a i (w i (Memᴰ.head refl))

    others : i ≡ a → (t : Bool) → has ids 64 a ≡ t → t ≡ false
    others e true t = absurd (u.0 (Memᴰ.cast e (has_among ids (narrow_tail w) a t)))
    others e false t = refl

    go : (t : Bool) → begins 64 a i ≡ t → cond t true (has ids 64 a) ≡ true → (has ids 64 a ≡ true → tally ids 64 a ≡ 1) → cond t (suc (tally ids 64 a)) (tally ids 64 a) ≡ 1
    go true t e f = ap suc (tally_none ids 64 a (others (same t) (has ids 64 a) refl))
    go false t e f = f e

-- whatever the IDs are, no more leaves than IDs
leaves_short : (ids : List ℕ) (n k a : ℕ) → a < 2 ^ k → length (leaves (has ids) n k a) ≤ tally ids k a
unfolding leaves
leaves_short ids zero k a lt = go (has ids k a) refl
  where
    go : (t : Bool) → has ids k a ≡ t → length (cond t (a ∷ []) []) ≤ tally ids k a
    go true t = tally_some ids k a t
    go false t = omega arith
leaves_short ids (suc n) k a lt =
    omega (
      arith,
      length-append (leaves (has ids) n (suc k) a) (leaves (has ids) n (suc k) (a + 2 ^ k)),
      leaves_short ids n (suc k) (child false k a) (child_lt false k a lt),
      leaves_short ids n (suc k) (child true k a) (child_lt true k a lt),
      tally_split ids k a lt,
    )

length_leaves : (ids : List ℕ) → Distinct ids → Narrow ids → (n k a : ℕ) → a < 2 ^ k → n + k ≡ 64 → length (leaves (has ids) n k a) ≡ tally ids k a
unfolding leaves
length_leaves ids u w zero k a lt e = subst (λ (j : ℕ). length (cond (has ids j a) (a ∷ []) []) ≡ tally ids j a) (sym k_is) (go (has ids 64 a) refl)
  where
    k_is : k ≡ 64
    k_is = omega arith

    go : (t : Bool) → has ids 64 a ≡ t → length (cond t (a ∷ []) []) ≡ tally ids 64 a
    go true t = sym (tally_one ids u w a t)
    go false t = sym (tally_none ids 64 a t)
length_leaves ids u w (suc n) k a lt e =
    length-append (leaves (has ids) n (suc k) (child false k a)) (leaves (has ids) n (suc k) (child true k a))
    ∙ ap₂ ◌+◌ (length_leaves ids u w n (suc k) (child false k a) (child_lt false k a lt) (omega arith))
    (length_leaves ids u w n (suc k) (child true k a) (child_lt true k a lt) (omega arith))
    ∙ sym (tally_split ids k a lt)

-- every ID begins with no bits
tally_all : (ids : List ℕ) → tally ids 0 0 ≡ length ids
unfolding tally begins
tally_all [] = refl
tally_all (i ∷ ids) =
    ap (λ (t : Bool). cond t (suc (tally ids 0 0)) (tally ids 0 0)) (eq-eqb (i % 1) 0 (mod-one i)) ∙ ap suc (tally_all ids)

-- ---- the IDs in search order

pub sorted_in_order : (ids : List ℕ) → Distinct ids → Narrow ids → InOrder ids (sorted ids)
unfolding sorted
sorted_in_order ids u w =
    record {
      rising = leaves_rising (has ids) 64 0 0 (lit< tt) (le_refl 64);
      all = λ i m. leaves_all (has ids) 64 0 0 i 64 refl (w i m) (mod-one i) (among_has ids w i m);
      only = λ i m. has_among ids w i (leaves_has (has ids) 64 0 0 i 64 refl m);
      once = length_leaves ids u w 64 0 0 (lit< tt) refl ∙ tally_all ids;
    }

pub sorted_short : (ids : List ℕ) → length (sorted ids) ≤ length ids
unfolding sorted
sorted_short ids = omega (arith, leaves_short ids 64 0 0 (lit< tt), tally_all ids)

pub sorted_none : sorted [] ≡ []
unfolding sorted has
sorted_none = leaves_none (has []) (has_split []) 64 0 0 (lit< tt) refl

-- with no bits said, some ID is there if there is one
pub has_some : (i : ℕ) (ids : List ℕ) → has (i ∷ ids) 0 0 ≡ true
unfolding has begins
has_some i ids = ap (λ (t : Bool). cond t true (has ids 0 0)) (eq-eqb (i % 1) 0 (mod-one i))
