-- What a withdrawal does to a line on which no ID stands twice.
--   any_among, among_any    an ID that the test `any` does not find stands not there; one that it finds does
--   Withdrawn i l           the probe of the ID i stood between others, which are left as they were
--   withdrawn_of            so it is where the ID is fitted
--   fitted_line_with         the probes of a line that is laid of them
--   others_among            what is left was there, and has another ID
--   withdrawn_fitted, withdrawn_line    an accepted withdrawal: its ID is fitted, and is gone from the line
--   withdrawn_when          an ID that is there can be withdrawn
use mathlib.Core.Path.{◌≡◌, refl, sym, ap, subst, ◌∙◌}
use mathlib.Core.Bool.{Bool, true, false, cond, true≢false, false≢true}
use mathlib.Core.List.Memᴰ
use mathlib.Core.List.{List, [], ◌∷◌, ◌++◌, map, map-append}
use mathlib.Core.Logic.{◌⊎◌, inl, inr, ⊎_elim}
use Prim.Native.Nat.{ℕ}
use native.Mathlib.Omega.{arith}
use borrow.Author.Tests.{eqb-true, eqb-false}
use lib.Dec.{eqb}
use lib.Seq.{take-append_seam}
use Rattle.identity.specs.Identity.{number_of}
use Rattle.probe.specs.declared.Probe.{Probe}
use Rattle.line.specs.declared.Line.{Line}
use Rattle.line.specs.Line.{any, fitted, id_of, ids_of, is_fitted}
use Rattle.withdrawal.specs.Withdrawal.{others, line_with, without, withdraw_number, after_withdraw}
use Rattle.withdrawal.proofs.Others.{withdrawn}
use Rattle.enumeration.specs.Order.{Among, Distinct}
use Rattle.demand.specs.Swaps.{Gone}
use Rattle.enumeration.proofs.Order.{widen}

-- ---- what is there

pub any_among : (i : ℕ) (ids : List ℕ) → any (eqb i) ids ≡ false → Among i ids → ⊥
unfolding any
any_among i [] e m = Memᴰ.not-nil m
any_among i (j ∷ ids) e m = go (eqb i j) refl e (any_among i ids) (Memᴰ.cases_cons m)
  where
    go : (t : Bool) → eqb i j ≡ t → cond t true (any (eqb i) ids) ≡ false → (any (eqb i) ids ≡ false → Among i ids → ⊥) → (i ≡ j) ⊎ Among i ids → ⊥
    go true et f rec y = true≢false f
    go false et f rec (inl y) = eqb-false i j et y
    go false et f rec (inr y) = rec f y

pub among_any : (i : ℕ) (ids : List ℕ) → any (eqb i) ids ≡ true → Among i ids
unfolding any
among_any i [] e = absurd (false≢true e)
among_any i (j ∷ ids) e = go (eqb i j) refl e (among_any i ids)
  where
    go : (t : Bool) → eqb i j ≡ t → cond t true (any (eqb i) ids) ≡ true → (any (eqb i) ids ≡ true → Among i ids) → Among i (j ∷ ids)
    go true et f rec = Memᴰ.head (eqb-true i j et)
    go false et f rec = Memᴰ.tail (rec f)

-- ---- what is left

-- none of them has the ID
others_none : (i : ℕ) (ps : List Probe) → (Among i (map id_of ps) → ⊥) → others i ps ≡ ps
unfolding others
others_none i [] n = refl
others_none i (p ∷ ps) n = go (eqb i p.id) refl (others_none i ps (λ m. n (Memᴰ.tail m)))
  where
    go : (t : Bool) → eqb i p.id ≡ t → others i ps ≡ ps → cond t (others i ps) (p ∷ others i ps) ≡ p ∷ ps
    go true et e = absurd (n (Memᴰ.head (eqb-true i p.id et)))
    go false et e = ap (λ (r : List Probe). p ∷ r) e

others_gone : (i : ℕ) (ps : List Probe) → Distinct (map id_of ps) → Among i (map id_of ps) → Gone i ps (others i ps)
unfolding others
others_gone i [] d m = absurd (Memᴰ.not-nil m)
others_gone i (p ∷ ps) d m = go (eqb i p.id) refl (Memᴰ.cases_cons m) (others_gone i ps d.1)
  where
    go : (t : Bool) → eqb i p.id ≡ t → (i ≡ p.id) ⊎ Among i (map id_of ps) → (Among i (map id_of ps) → Gone i ps (others i ps)) → Gone i (p ∷ ps) (cond t (others i ps) (p ∷ others i ps))
    go true et y rec =
        let same = eqb-true i p.id et in
        record {
          front = [];
          one = p;
          back = ps;
          before = refl;
          id = sym same;
          after = others_none i ps (λ n. d.0 (Memᴰ.cast (sym same) n));
        }
    go false et (inl y) rec = absurd (eqb-false i p.id et y)
    go false et (inr y) rec =
        let r = rec y in
        record {
          front = p ∷ r.front;
          one = r.one;
          back = r.back;
          before = ap {B = List Probe} (λ (q : List Probe). p ∷ q) r.before;
          id = r.id;
          after = ap {B = List Probe} (λ (q : List Probe). p ∷ q) r.after;
        }

-- what is left was there, and has another ID
pub others_among : (i : ℕ) {q : Probe} (ps : List Probe) → Among q (others i ps) → Among q ps × (eqb i q.id ≡ false)
unfolding others
others_among i [] m = absurd (Memᴰ.not-nil m)
others_among i {q} (p ∷ ps) m = go (eqb i p.id) refl (others_among i ps) m
  where
    kept : Among q ps × (eqb i q.id ≡ false) → Among q (p ∷ ps) × (eqb i q.id ≡ false)
    kept r = (Memᴰ.tail r.0, r.1)

    go : (t : Bool) → eqb i p.id ≡ t → (Among q (others i ps) → Among q ps × (eqb i q.id ≡ false)) → Among q (cond t (others i ps) (p ∷ others i ps)) → Among q (p ∷ ps) × (eqb i q.id ≡ false)
    go true et rec n = kept (rec n)
    go false et rec n =
        ⊎_elim (λ e. (Memᴰ.head e, ap (λ (r : Probe). eqb i r.id) e ∙ et)) (λ y. kept (rec y)) (Memᴰ.cases_cons n)

-- what stands between two parts once stands in neither
once : (i : ℕ) (p q : List ℕ) → Distinct (p ++ i ∷ q) → Among i (p ++ q) → ⊥
once i [] q d m = d.0 m
once i (j ∷ p) q d m = go (Memᴰ.cases_cons m) (once i p q d.1)
  where
    go : (i ≡ j) ⊎ Among i (p ++ q) → (Among i (p ++ q) → ⊥) → ⊥
    go (inl e) rec = d.0 (Memᴰ.cast (sym e) (Memᴰ.append_right p (Memᴰ.head refl)))
    go (inr y) rec = rec y

-- and without it the two parts are as distinct as they were
pub distinct_fewer : (i : ℕ) (p q : List ℕ) → Distinct (p ++ i ∷ q) → Distinct (p ++ q)
distinct_fewer i [] q d = d.1
distinct_fewer i (j ∷ p) q d = (λ m. d.0 (widen i p q m), distinct_fewer i p q d.1)

pub record Withdrawn (i : ℕ) (l : Line) : Type 0 where
  pub probes : Gone i (fitted l) (fitted (without i l))
  -- the IDs in front of it and behind it
  pub front : List ℕ
  pub back : List ℕ
  pub before : ids_of l ≡ front ++ i ∷ back
  pub after : ids_of (without i l) ≡ front ++ back
  pub gone : Among i (front ++ back) → ⊥

pub fitted_line_with : (ps : List Probe) → fitted (line_with ps) ≡ ps
unfolding fitted line_with
fitted_line_with ps = take-append_seam ps _

pub withdrawn_of : (i : ℕ) (l : Line) → Distinct (ids_of l) → is_fitted i l ≡ true → Withdrawn i l
unfolding is_fitted ids_of without
withdrawn_of i l d e =
    let c = others_gone i (fitted l) d (among_any i (map id_of (fitted l)) e) in
    let left = fitted_line_with (others i (fitted l)) ∙ c.after in
    let ids : ids_of l ≡ map id_of c.front ++ i ∷ map id_of c.back =
    ap (map id_of) c.before
    ∙ map-append id_of c.front (c.one ∷ c.back)
    ∙ ap (λ (j : ℕ). map id_of c.front ++ j ∷ map id_of c.back) c.id in
    record {
      probes =
          record { front = c.front; one = c.one; back = c.back; before = c.before; id = c.id; after = left };
      front = map id_of c.front;
      back = map id_of c.back;
      before = ids;
      after = ap (map id_of) left ∙ map-append id_of c.front c.back;
      gone = once i (map id_of c.front) (map id_of c.back) (subst Distinct ids d);
    }

-- ---- a withdrawal that is accepted

pub withdrawn_fitted : (x : List ℕ) (l : Line) → withdraw_number x l ≡ 0 → is_fitted (number_of x) l ≡ true
unfolding withdraw_number
withdrawn_fitted x l = go (is_fitted (number_of x) l)
  where
    go : (t : Bool) → cond {A = ℕ} t 0 20 ≡ 0 → t ≡ true
    go true e = refl
    go false e = absurd (omega arith)

pub withdrawn_line : (x : List ℕ) (l : Line) → withdraw_number x l ≡ 0 → after_withdraw x l ≡ without (number_of x) l
withdrawn_line x l e = sym (withdrawn x l (withdrawn_fitted x l e)).1

pub withdrawn_when : (x : List ℕ) (l : Line) → Among (number_of x) (ids_of l) → withdraw_number x l ≡ 0
unfolding withdraw_number is_fitted
withdrawn_when x l m = go (any (eqb (number_of x)) (ids_of l)) refl
  where
    go : (t : Bool) → any (eqb (number_of x)) (ids_of l) ≡ t → cond {A = ℕ} t 0 20 ≡ 0
    go true e = refl
    go false e = absurd (any_among (number_of x) (ids_of l) e m)
