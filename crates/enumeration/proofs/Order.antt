-- Search order is strict, so that there is one list in order at most; and one ID more, or less, leaves the others where they are.
--   before_irrefl, before_trans      no ID comes before itself; what comes before comes before all behind
--   in_order_unique                  two lists of the same IDs in order are one list
--   in_order_more                    an ID stands somewhere in the list, and all others as they stand without it
--   parted, widen, narrow            a member stands between two parts; what stands in them without it, and with it
--   length_parted                    with it they are one more
use mathlib.Core.Path.{◌≡◌, refl, sym, ap, ap₂, subst, subst⁻¹, ◌∙◌}
use mathlib.Core.Bool.{true≢false}
use mathlib.Core.List.Memᴰ
use mathlib.Core.List.{List, [], ◌∷◌, ◌++◌}
use mathlib.Core.Logic.{◌⊎◌, inl, inr, ⊎_elim}
use Prim.Native.Nat.{ℕ, suc, ◌<◌}
use native.Mathlib.Decide.{dec_lt}
use native.Mathlib.Omega.{arith}
use lib.ListN.{length, length-append}
use Rattle.identity.specs.Identity.{bit_of}
use Rattle.enumeration.specs.Order.{Before, Among, Rising, InOrder}

pub before_irrefl : (i : ℕ) → Before i i → ⊥
before_irrefl i b = true≢false (sym b.second ∙ b.first)

pub before_trans : (i j k : ℕ) → Before i j → Before j k → Before i k
before_trans i j k b c = go (dec_lt b.place c.place) (dec_lt c.place b.place)
  where
    go : Dec (b.place < c.place) → Dec (c.place < b.place) → Before i k
    go (yes lt) d =
        record {
          place = b.place;
          within = b.within;
          alike = λ m le. b.alike m le ∙ c.alike m (omega arith);
          first = b.first;
          second = sym (c.alike b.place lt) ∙ b.second;
        }
    go (no ge) (yes lt) =
        record {
          place = c.place;
          within = c.within;
          alike = λ m le. b.alike m (omega arith) ∙ c.alike m le;
          first = b.alike c.place lt ∙ c.first;
          second = c.second;
        }
    go (no ge) (no le) =
        absurd (true≢false (sym b.second ∙ ap (bit_of j) same ∙ c.first))
      where
        same : b.place ≡ c.place
        same = omega arith

-- ---- one list at most

-- nothing comes before what it comes before
heads : (i j : ℕ) (l m : List ℕ) → Rising (i ∷ l) → Rising (j ∷ m) → (i ≡ j) ⊎ Among i m → (j ≡ i) ⊎ Among j l → i ≡ j
heads i j l m r s (inl e) y = e
heads i j l m r s (inr x) (inl e) = sym e
heads i j l m r s (inr x) (inr y) = absurd (before_irrefl i (before_trans i j i (r.0 j y) (s.0 i x)))

-- a member of the tail stands in the other tail
tails : (i j : ℕ) (l m : List ℕ) → Rising (i ∷ l) → i ≡ j → (k : ℕ) → Among k l → (k ≡ j) ⊎ Among k m → Among k m
tails i j l m r e k x (inl f) = absurd (before_irrefl i (subst (Before i) (f ∙ sym e) (r.0 k x)))
tails i j l m r e k x (inr y) = y

pub rising_unique : (l m : List ℕ) → Rising l → Rising m → ((i : ℕ) → Among i l → Among i m) → ((i : ℕ) → Among i m → Among i l) → l ≡ m
rising_unique [] [] r s f g = refl
rising_unique [] (j ∷ m) r s f g = absurd (Memᴰ.not-nil (g j (Memᴰ.head refl)))
rising_unique (i ∷ l) [] r s f g = absurd (Memᴰ.not-nil (f i (Memᴰ.head refl)))
rising_unique (i ∷ l) (j ∷ m) r s f g =
    ap₂ {C = List ℕ} (λ (x : ℕ) (y : List ℕ). x ∷ y) same
    (rising_unique l m r.1 s.1
    (λ k x. tails i j l m r same k x (Memᴰ.cases_cons (f k (Memᴰ.tail x))))
    (λ k x. tails j i m l s (sym same) k x (Memᴰ.cases_cons (g k (Memᴰ.tail x)))))
  where
    same : i ≡ j
    same =
        heads i j l m r s (Memᴰ.cases_cons (f i (Memᴰ.head refl)))
        (Memᴰ.cases_cons (g j (Memᴰ.head refl)))

pub in_order_unique : {ids l m : List ℕ} → InOrder ids l → InOrder ids m → l ≡ m
in_order_unique {ids} {l} {m} a b =
    rising_unique l m a.rising b.rising (λ i x. b.all i (a.only i x)) (λ i x. a.all i (b.only i x))

-- ---- one ID more, or less

-- a member stands between what is before it and what is behind it
pub parted : {i : ℕ} {l : List ℕ} → Among i l → (p : List ℕ) × (q : List ℕ) × (l ≡ p ++ i ∷ q)
parted {i} (Memᴰ.head {xs = xs} e) = ([], xs, ap (λ (y : ℕ). y ∷ xs) (sym e))
parted (Memᴰ.tail {x = x} m) =
    let r = parted m in
    (x ∷ r.0, r.1, ap {B = List ℕ} (λ (y : List ℕ). x ∷ y) r.2)

-- more stands in the longer list
pub widen : {j : ℕ} (i : ℕ) (p q : List ℕ) → Among j (p ++ q) → Among j (p ++ i ∷ q)
widen i p q m =
    ⊎_elim (λ x. Memᴰ.append_left (i ∷ q) x) (λ x. Memᴰ.append_right p (Memᴰ.tail x)) (Memᴰ.append_cases p m)

pub narrow : {j : ℕ} (i : ℕ) (p q : List ℕ) → Among j (p ++ i ∷ q) → (j ≡ i) ⊎ Among j (p ++ q)
narrow {j} i p q m = ⊎_elim (λ x. inr (Memᴰ.append_left q x)) (λ x. behind (Memᴰ.cases_cons x)) (Memᴰ.append_cases p m)
  where
    behind : (j ≡ i) ⊎ Among j q → (j ≡ i) ⊎ Among j (p ++ q)
    behind (inl e) = inl e
    behind (inr x) = inr (Memᴰ.append_right p x)

struck : (i : ℕ) (p q : List ℕ) → Rising (p ++ i ∷ q) → Rising (p ++ q)
struck i [] q r = r.1
struck i (x ∷ p) q r = (λ j m. r.0 j (widen i p q m), struck i p q r.1)

-- the member stands there once
alone : (i : ℕ) (p q : List ℕ) → Rising (p ++ i ∷ q) → Among i (p ++ q) → ⊥
alone i [] q r m = before_irrefl i (r.0 i m)
alone i (x ∷ p) q r m =
    ⊎_elim
    (λ e. before_irrefl i (subst (λ (y : ℕ). Before y i) (sym e) (r.0 i (Memᴰ.append_right p (Memᴰ.head refl)))))
    (λ y. alone i p q r.1 y) (Memᴰ.cases_cons m)

pub length_parted : (i : ℕ) (p q : List ℕ) → length (p ++ i ∷ q) ≡ suc (length (p ++ q))
length_parted i p q = omega (arith, length-append p (i ∷ q), length-append p q)

-- the list with the ID, and the list without it
pub in_order_more : {l m : List ℕ} (i : ℕ) (s t : List ℕ) → (Among i (s ++ t) → ⊥) → InOrder (s ++ t) l → InOrder (s ++ i ∷ t) m → (p : List ℕ) × (q : List ℕ) × (m ≡ p ++ i ∷ q) × (l ≡ p ++ q)
in_order_more {l} {m} i s t new a b = (p, q, place, rising_unique l (p ++ q) a.rising (struck i p q r) into from)
  where
    cut : (p : List ℕ) × (q : List ℕ) × (m ≡ p ++ i ∷ q)
    cut = parted (b.all i (Memᴰ.append_right s (Memᴰ.head refl)))

    p : List ℕ
    p = cut.0

    q : List ℕ
    q = cut.1

    place : m ≡ p ++ i ∷ q
    place = cut.2

    r : Rising (p ++ i ∷ q)
    r = subst Rising place b.rising

    into : (j : ℕ) → Among j l → Among j (p ++ q)
    into j x =
        ⊎_elim (λ e. absurd (new (Memᴰ.cast (sym e) (a.only j x)))) (λ y. y)
        (narrow i p q (subst (Among j) place (b.all j (widen i s t (a.only j x)))))

    from : (j : ℕ) → Among j (p ++ q) → Among j l
    from j x =
        ⊎_elim (λ e. absurd (alone i p q r (Memᴰ.cast (sym e) x))) (λ y. a.all j y)
        (narrow i s t (b.only j (subst⁻¹ (Among j) place (widen i p q x))))
