-- What document 02, R-3, says of withdrawing holds of every state that calls reach.
--   laid         a line that calls reach is laid of its probes
--   free_place   a right ID that is not fitted is accepted, unless 64 probes are there
--   swaps        the sentences of R-3
use mathlib.Core.Path.{◌≡◌, refl, sym, ap, ap₂, subst, subst⁻¹, ◌∙◌}
use mathlib.Core.Bool.{Bool, true, false, cond}
use mathlib.Core.List.Memᴰ
use mathlib.Core.List.{List, [], ◌∷◌, ◌++◌, map}
use mathlib.Core.Logic.{⊎_elim}
use Prim.Native.Nat.{ℕ, ◌<◌, ◌≤◌}
use native.Mathlib.Omega.{arith}
use borrow.Author.Tests.{eq-eqb, ne_eqb, eqb-true, eqb-false, le-leb, lt-leb}
use lib.Dec.{eqb, leb}
use lib.ListN.{length, take-append-drop, length-map, drop}
use Rattle.identity.specs.Identity.{number_of, refusal_of}
use Rattle.probe.specs.declared.Condition.TheVariants.{Deaf}
use Rattle.probe.specs.declared.Probe.{Probe}
use Rattle.probe.specs.Probe.{standard, deaf_new, at_speed}
use Rattle.line.specs.declared.Line.{Line}
use Rattle.line.specs.Line.{any, bare, fitted, id_of, ids_of, is_fitted, place_number, fit_number}
use Rattle.withdrawal.specs.Withdrawal.{line_with, without, withdraw_number, after_withdraw}
use Rattle.withdrawal.proofs.Others.{not_fitted_lem}
use Rattle.bridge.specs.declared.Bridge.{Bridge}
use Rattle.bridge.specs.declared.Pending.TheVariants.{Nothing}
use Rattle.bridge.specs.Bridge.{speed_of, after_fitting, after_withdrawal, on_line}
use Rattle.bridge.specs.Reached.{Bytes, Reached}
use Rattle.bridge.specs.Reached.Reached.{withdraw}
use Rattle.enumeration.specs.Order.{Among}
use Rattle.enumeration.proofs.Order.{length_parted}
use Rattle.searching.proofs.Words.{commanded, gathered}
use Rattle.searching.proofs.Wire.{line_path, line_of_parts, fitted_line_of}
use Rattle.searching.proofs.Holds.{obeyed_id}
use Rattle.searching.proofs.Pass.{commanded_line}
use Rattle.demand.specs.Sound.{Sound}
use Rattle.demand.specs.Demand.{ids_at, after_resume}
use Rattle.demand.specs.Swaps.{Gone, fitted_at, Swaps}
use Rattle.demand.proofs.Withdrawn.{among_any, withdrawn_line, withdrawn_when}
use Rattle.demand.proofs.Reached.{reached_kept, fitted_fit}
use Rattle.demand.proofs.New.{New, new_resumed}
use Rattle.demand.proofs.Search.{unmarked_deaf, sound, at_most_lem, parted_at, ids_fewer}

-- ---- the number

not_there : (i : ℕ) (l : Line) → (Among i (ids_of l) → ⊥) → is_fitted i l ≡ false
unfolding is_fitted
not_there i l n = go (any (eqb i) (ids_of l)) refl
  where
    go : (t : Bool) → any (eqb i) (ids_of l) ≡ t → t ≡ false
    go true e = absurd (n (among_any i (ids_of l) e))
    go false e = refl

refused_20 : (x : List ℕ) (l : Line) → (Among (number_of x) (ids_of l) → ⊥) → withdraw_number x l ≡ 20
refused_20 x l n = sym (not_fitted_lem x l (not_there (number_of x) l n)).0

refused_kept : (x : List ℕ) (s : Bridge) → (withdraw_number x s.line ≡ 0 → ⊥) → after_withdrawal x s ≡ s
unfolding after_withdrawal after_withdraw
refused_kept x s n =
    ap (λ (t : Bool). on_line (cond t (without (number_of x) s.line) s.line) s) (ne_eqb (withdraw_number x s.line) 0 n)

-- ---- the table

laid : (l : Line) → Sound l → l ≡ line_with (fitted l)
unfolding fitted line_with ids_of
laid l h =
    let n : l.count ≡ length (fitted l) = sym h.counted ∙ length-map (fitted l) id_of in
    line_path l.probes (fitted l ++ drop (length (fitted l)) bare.probes) l.count (length (fitted l))
    (sym (take-append-drop l.count l.probes)
    ∙ ap (λ (t : List Probe). fitted l ++ t) (h.free ∙ ap (λ (k : ℕ). drop k bare.probes) n))
    n

-- ---- room

-- what fitting an ID that is right by itself and not there comes to
place : (x : List ℕ) (l : Line) → refusal_of x ≡ 0 → (Among (number_of x) (ids_of l) → ⊥) → fit_number x l ≡ cond (leb 64 l.count) 1 0
unfolding fit_number place_number
place x l e n =
    ap₂ (λ (r t : Bool). cond r (cond t 4 (cond (leb 64 l.count) 1 0)) (refusal_of x)) (eq-eqb (refusal_of x) 0 e)
    (not_there (number_of x) l n)

-- no more than 64 are 64 or fewer
at_64 : (n : ℕ) → n ≤ 64 → leb 64 n ≡ eqb n 64
at_64 n h = go (eqb n 64) refl
  where
    go : (t : Bool) → eqb n 64 ≡ t → leb 64 n ≡ t
    go true e = le-leb 64 n (omega (arith, eqb-true n 64 e))
    go false e =
        let other : n ≡ 64 → ⊥ = eqb-false n 64 e in
        lt-leb 64 n (omega arith)

module _ (s : Bridge) (r : Reached s) where
  full_at : (x : List ℕ) → refusal_of x ≡ 0 → (Among (number_of x) (ids_at s) → ⊥) → fit_number x s.line ≡ cond (eqb (length (ids_at s)) 64) 1 0
  full_at x e n =
      place x s.line e n
      ∙ ap (λ (k : ℕ). cond {A = ℕ} (leb 64 k) 1 0) (sym (sound s r).counted)
      ∙ ap (λ (t : Bool). cond {A = ℕ} t 1 0) (at_64 (length (ids_at s)) (at_most_lem s r))

  free_place : (x : List ℕ) → refusal_of x ≡ 0 → (Among (number_of x) (ids_at s) → ⊥) → length (ids_at s) < 64 → fit_number x s.line ≡ 0
  free_place x e n h =
      full_at x e n ∙ ap (λ (t : Bool). cond {A = ℕ} t 1 0) (ne_eqb (length (ids_at s)) 64 (λ z. omega arith))

-- ---- a withdrawal, and what follows it

its_id : {q : Probe} (s : Bridge) → Among q (fitted_at s) → Among q.id (ids_at s)
unfolding ids_of
its_id s m = Memᴰ.map id_of m

module _ (s : Bridge) (r : Reached s) (x : List ℕ) (e : withdraw_number x s.line ≡ 0) where
  taken_off : Gone (number_of x) (fitted_at s) (fitted_at (after_withdrawal x s))
  unfolding after_withdrawal
  taken_off =
      subst (λ (l : Line). Gone (number_of x) (fitted_at s) (fitted l)) (sym (withdrawn_line x s.line e))
      (parted_at s r x e).probes

  not_left : Among (number_of x) (ids_at (after_withdrawal x s)) → ⊥
  not_left m = (parted_at s r x e).gone (subst (Among (number_of x)) (ids_fewer s r x e) m)

  -- one less than there were
  fewer_than_64 : length (ids_at (after_withdrawal x s)) < 64
  fewer_than_64 =
      let w = parted_at s r x e in
      omega (
        arith,
        ap length (ids_fewer s r x e),
        ap length w.before,
        length_parted (number_of x) w.front w.back,
        at_most_lem s r,
      )

  room_for : Bytes x → length x ≡ 8 → (y : List ℕ) → refusal_of y ≡ 0 → (Among (number_of y) (ids_at (after_withdrawal x s)) → ⊥) → fit_number y (after_withdrawal x s).line ≡ 0
  room_for small eight y right new =
      free_place (after_withdrawal x s) (withdraw x small eight r) y right new fewer_than_64

  -- its bytes are right, since it was fitted
  accepted_again : Bytes x → length x ≡ 8 → fit_number x (after_withdrawal x s).line ≡ 0
  accepted_again small eight =
      let there = subst⁻¹ (Among (number_of x)) (parted_at s r x e).before (Memᴰ.append_right (parted_at s r x e).front (Memᴰ.head refl)) in
      room_for small eight x ((sound s r).right x small eight there) not_left

  behind : Bytes x → length x ≡ 8 → fitted_at (after_fitting x (after_withdrawal x s)) ≡ fitted_at (after_withdrawal x s) ++ deaf_new (number_of x) ∷ []
  unfolding after_fitting
  behind small eight = fitted_fit x (reached_kept (withdraw x small eight r)) (accepted_again small eight)

  still : s.registers.pending ≡ Nothing → (after_fitting x (after_withdrawal x s)).registers.pending ≡ Nothing
  unfolding after_fitting after_withdrawal
  still idle = idle

  -- it alone has its ID, and it is new
  alone : Bytes x → length x ≡ 8 → New (number_of x) (after_fitting x (after_withdrawal x s)).line
  alone small eight q m same =
      ⊎_elim (λ y. absurd (not_left (Memᴰ.cast (sym same) (its_id (after_withdrawal x s) y)))) Memᴰ.eq_of_singleton
      (Memᴰ.append_cases (fitted_at (after_withdrawal x s)) (subst (Among q) (behind small eight) m))

  -- at standard speed it obeyed the Resume, without a mark
  at_standard : Bytes x → length x ≡ 8 → s.registers.pending ≡ Nothing → speed_of s.registers ≡ standard → (p : Probe) → Among p (fitted_at (after_resume (after_fitting x (after_withdrawal x s)))) → p.id ≡ number_of x → p.condition ≡ Deaf
  unfolding gathered after_fitting after_withdrawal
  at_standard small eight idle speed p m f =
      let t = after_fitting x (after_withdrawal x s) in
      let parts = line_of_parts t.line in
      let after = ap fitted (commanded_line t (fitted_at t) parts.0 parts.1 (still idle) speed 0xA5) ∙ fitted_line_of (map (commanded 0xA5) (fitted_at t)) parts.0 in
      let q = Memᴰ.of_map (commanded 0xA5) (fitted_at t) (subst (Among p) after m) in
      let same : q.0.id ≡ number_of x = sym (obeyed_id 0xA5 (at_speed standard q.0)) ∙ ap id_of q.2 ∙ f in
      ap (λ (v : Probe). v.condition) (sym q.2) ∙ unmarked_deaf q.0 (ap (λ (v : Probe). v.marked) (alone small eight q.0 q.1 same))

  -- at overdrive neither reset nor Resume reached it
  at_overdrive : Bytes x → length x ≡ 8 → s.registers.pending ≡ Nothing → eqb (speed_of s.registers) standard ≡ false → (p : Probe) → Among p (fitted_at (after_resume (after_fitting x (after_withdrawal x s)))) → p.id ≡ number_of x → p.condition ≡ Deaf
  unfolding after_fitting after_withdrawal
  at_overdrive small eight idle speed p m f =
      ap (λ (v : Probe). v.condition) (new_resumed (number_of x) (after_fitting x (after_withdrawal x s)) (still idle) speed (alone small eight) p m f)

  not_resumed : Bytes x → length x ≡ 8 → s.registers.pending ≡ Nothing → (p : Probe) → Among p (fitted_at (after_resume (after_fitting x (after_withdrawal x s)))) → p.id ≡ number_of x → p.condition ≡ Deaf
  not_resumed small eight idle p m f = go (eqb (speed_of s.registers) standard) refl
    where
      go : (t : Bool) → eqb (speed_of s.registers) standard ≡ t → p.condition ≡ Deaf
      go true e = at_standard small eight idle (eqb-true _ _ e) p m f
      go false e = at_overdrive small eight idle e p m f

-- ---- the sentences of R-3

registers_kept : (x : List ℕ) (s : Bridge) → (after_withdrawal x s).registers ≡ s.registers
unfolding after_withdrawal
registers_kept x s = refl

pub swaps : (s : Bridge) → Reached s → Swaps s
swaps s r =
    record {
      accepted = λ x m. withdrawn_when x s.line m;
      not_fitted = λ x n. refused_20 x s.line n;
      unsound = λ x small eight wrong. refused_20 x s.line (λ m. wrong ((sound s r).right x small eight m));
      refused = λ x n. refused_kept x s n;
      goes = λ x e. taken_off s r x e;
      gone = λ x e. not_left s r x e;
      registers = λ x. registers_kept x s;
      full = full_at s r;
      room = λ x y small eight e right new. room_for s r x e small eight y right new;
      again = λ x small eight e. (accepted_again s r x e small eight, behind s r x e small eight);
      unresumed = λ x small eight e idle. not_resumed s r x e small eight idle;
      one = λ t q e. laid t.line (sound t q) ∙ ap line_with e ∙ sym (laid s.line (sound s r));
    }
