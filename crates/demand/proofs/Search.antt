-- What our search comes to from a state that calls reach, in the words of the demand.
--   resumed_line     after a Resume exactly the probe that the last pass ended at is selected
--   resume_none      with no marked probe on the line a Resume selects none
--   order_of         the IDs on the line in search order
--   listed_of, number_of_lem, complete_when, passes_used, longer_by, resume_last, none_last, fitting_one, withdrawing_one
--                    the sentences of the demand, of `search`
--   capped_at        more than 64 passes do what 64 do
use mathlib.Core.Path.{◌≡◌, refl, sym, ap, subst, subst⁻¹, ◌∙◌}
use mathlib.Core.Bool.{Bool, true, false, cond, ◌&&◌}
use mathlib.Core.List.Memᴰ
use mathlib.Core.List.{List, [], ◌∷◌, ◌++◌, append-nil, map}
use Prim.Native.Nat.{ℕ, ◌^◌, ◌<◌, ◌≤◌, min, max}
use native.Mathlib.Omega.{arith}
use borrow.Author.Tests.{ne_eqb, eqb-false}
use lib.Dec.{eqb, leb}
use lib.ListN.{length, take, drop, length-append, length-take, take-append-drop}
use lib.Seq.{take-take, take_all}
use Rattle.identity.specs.Identity.{number_of}
use Rattle.probe.specs.declared.Condition.TheVariants.{Deaf, Selected}
use Rattle.probe.specs.declared.Probe.{Probe}
use Rattle.probe.specs.Probe.{standard, deaf_new, at_speed, obeyed, resumed}
use Rattle.line.specs.declared.Line.{Line}
use Rattle.line.specs.Line.{fitted, id_of, ids_of, fit_number}
use Rattle.withdrawal.specs.Withdrawal.{others, line_with, without, withdraw_number}
use Rattle.bridge.specs.declared.Bridge.{Bridge}
use Rattle.bridge.specs.declared.Pending.{Pending}
use Rattle.bridge.specs.declared.Pending.TheVariants.{Nothing, Reset}
use Rattle.bridge.specs.Bridge.{is_pending, speed_of, pended, with_registers, accepted, bytes_of, taken_while_busy, good_parameter, write_number, after_write, finished_reset, finished_of, after_time, command, after_fitting, after_withdrawal}
use Rattle.bridge.specs.Reached.{Bytes, Reached}
use Rattle.bridge.specs.Reached.Reached.{fit, withdraw}
use Rattle.pass.specs.Passes.{search}
use Rattle.enumeration.specs.Order.{Among, Narrow, InOrder}
use Rattle.enumeration.proofs.Tree.{begins, sorted}
use Rattle.enumeration.proofs.Order.{in_order_more, length_parted}
use Rattle.enumeration.proofs.Leaves.{sorted_in_order, begins_whole}
use Rattle.searching.proofs.Words.{Rest, line_of, commanded, gathered, marked_selected, standing, Facts}
use Rattle.searching.proofs.Words.Rest.{free}
use Rattle.searching.proofs.Wire.{fitted_line_of, id_standing}
use Rattle.searching.proofs.Holds.{obeyed_id, holds_command}
use Rattle.searching.proofs.Pass.{commanded_line}
use Rattle.searching.proofs.Facts.{search_facts, search_capped}
use Rattle.demand.specs.Sound.{Sound}
use Rattle.demand.specs.Demand.{ids_at, after_resume, Resumed, Resumes, ResumesNone}
use Rattle.demand.proofs.Withdrawn.{Withdrawn, withdrawn_of, withdrawn_fitted, withdrawn_line, withdrawn_when, others_among}
use Rattle.demand.proofs.Reached.{Kept, holds_ids, holds_length, holds_fit, new_id, reached_kept, reached_sound}

-- ---- lists

-- a list that is not empty has a last element
last_one : (l : List ℕ) → 0 < length l → (p : List ℕ) × (x : ℕ) × (l ≡ p ++ x ∷ [])
last_one [] h = absurd (omega arith)
last_one (y ∷ []) h = ([], y, refl)
last_one (y ∷ z ∷ l) h =
    let r = last_one (z ∷ l) (omega arith) in
    (y ∷ r.0, r.1, ap {B = List ℕ} (λ (q : List ℕ). y ∷ q) r.2)

take_longer : (m n : ℕ) (l : List ℕ) → m ≤ n → take n l ≡ take m l ++ drop m (take n l)
take_longer m n l h = sym (take-append-drop m (take n l)) ∙ ap (λ (p : List ℕ). p ++ drop m (take n l)) (take-take m n l h)

-- ---- Resume

-- the probe that a pass ended at is marked, and no other
resumed_condition : (x i : ℕ) → i < 2 ^ 64 → (commanded 0xA5 (standing 64 x i)).condition ≡ cond (eqb i x) Selected Deaf
unfolding standing obeyed resumed
resumed_condition x i lt = go (begins 64 x i) ∙ ap (λ (t : Bool). cond t Selected Deaf) (begins_whole x i lt)
  where
    go : (t : Bool) → (commanded 0xA5 (cond t (marked_selected i) (deaf_new i))).condition ≡ cond t Selected Deaf
    go true = refl
    go false = refl

-- all fitted probes obeyed the Resume
resumed_line : (x : ℕ) (ids : List ℕ) (rest : Rest) (l : Line) → Narrow ids → Among x (ids_of l) → l ≡ line_of (map (commanded 0xA5) (map (standing 64 x) ids)) rest → Resumed x l
resumed_line x ids rest l narrow there e =
    record {
      there = there;
      only =
          λ p m.
          let q = Memᴰ.of_map (commanded 0xA5) (map (standing 64 x) ids) (subst (Among p) (ap fitted e ∙ fitted_line_of _ rest) m) in
          let j = Memᴰ.of_map (standing 64 x) ids q.1 in
          go p j.0 (ap (commanded 0xA5) j.2 ∙ q.2) (narrow j.0 j.1);
    }
  where
    go : (p : Probe) (i : ℕ) → commanded 0xA5 (standing 64 x i) ≡ p → i < 2 ^ 64 → p.condition ≡ cond (eqb p.id x) Selected Deaf
    go p i f lt =
        ap (λ (v : Probe). v.condition) (sym f) ∙ resumed_condition x i lt
        ∙ ap (λ (j : ℕ). cond (eqb j x) Selected Deaf)
        (sym (id_standing 64 x i) ∙ sym (obeyed_id 0xA5 (at_speed standard (standing 64 x i))) ∙ ap id_of f)

-- with nothing pending the reset is accepted, and then the Resume
reset_accepted_lem : (s : Bridge) → s.registers.pending ≡ Nothing → write_number (0xB4 ∷ []) s ≡ 0
unfolding write_number bytes_of taken_while_busy good_parameter
reset_accepted_lem s e = ap (λ (p : Pending). cond {A = ℕ} (cond (is_pending p) true false) 6 0) e

resume_accepted_lem : (s : Bridge) → s.registers.pending ≡ Nothing → write_number (0xA5 ∷ 0xA5 ∷ []) s ≡ 0
unfolding write_number bytes_of taken_while_busy good_parameter
resume_accepted_lem s e = ap (λ (p : Pending). cond {A = ℕ} (cond (is_pending p) true false) 6 0) e

pub reset_done : (s : Bridge) → s.registers.pending ≡ Nothing → (command (0xB4 ∷ []) s).registers.pending ≡ Nothing
unfolding command after_write accepted after_time finished_of finished_reset
reset_done s e = ap (λ (n : ℕ). (after_time (cond (eqb n 0) (with_registers (pended Reset s.registers) s) s)).registers.pending) (reset_accepted_lem s e)

-- a probe without a mark is deaf after a Resume
pub unmarked_deaf : (q : Probe) → q.marked ≡ false → (commanded 0xA5 q).condition ≡ Deaf
unfolding obeyed resumed
unmarked_deaf q e = ap (λ (t : Bool). cond t Selected Deaf) e

pub resume_none : (s : Bridge) (ps : List Probe) (rest : Rest) → s.line ≡ line_of ps rest → s.registers.pending ≡ Nothing → speed_of s.registers ≡ standard → ((q : Probe) → Among q ps → q.marked ≡ false) → ResumesNone s
unfolding gathered
resume_none s ps rest e idle speed unmarked =
    record {
      reset_accepted = reset_accepted_lem s idle;
      resume_accepted = resume_accepted_lem (command (0xB4 ∷ []) s) (reset_done s idle);
      selects_none =
          λ p m.
          let after = ap fitted (commanded_line s ps rest e idle speed 0xA5) ∙ fitted_line_of (map (commanded 0xA5) ps) rest in
          let q = Memᴰ.of_map (commanded 0xA5) ps (subst (Among p) after m) in
          ap (λ (v : Probe). v.condition) (sym q.2) ∙ unmarked_deaf q.0 (unmarked q.0 q.1);
    }

-- of the probes after a pass the one that it ended at has the mark alone
standing_unmarked : (x i : ℕ) → i < 2 ^ 64 → eqb x i ≡ false → (standing 64 x i).marked ≡ false
unfolding standing
standing_unmarked x i lt e =
    ap (λ (t : Bool). (cond t (marked_selected i) (deaf_new i)).marked) (begins_whole x i lt ∙ ne_eqb i x (λ f. eqb-false x i e (sym f)))

-- withdrawn from among them
without_unmarked : (x : ℕ) (ids : List ℕ) → Narrow ids → (q : Probe) → Among q (others x (map (standing 64 x) ids)) → q.marked ≡ false
without_unmarked x ids narrow q m =
    let o = others_among x (map (standing 64 x) ids) m in
    let j = Memᴰ.of_map (standing 64 x) ids o.0 in
    ap (λ (v : Probe). v.marked) (sym j.2)
    ∙ standing_unmarked x j.0 (narrow j.0 j.1) (ap (eqb x) (sym (id_standing 64 x j.0) ∙ ap id_of j.2) ∙ o.1)

-- ---- the search, from a state that calls reach

module _ (s : Bridge) (r : Reached s) where
  stock : Kept s.line
  stock = reached_kept r

  ids_at_lem : ids_at s ≡ stock.ids
  ids_at_lem = holds_ids stock.holds

  pub order_of : List ℕ
  order_of = sorted stock.ids

  pub order_is : InOrder (ids_at s) order_of
  unfolding order_of
  order_is =
      subst⁻¹ (λ (ids : List ℕ). InOrder ids (sorted stock.ids)) ids_at_lem
      (sorted_in_order stock.ids stock.distinct stock.narrow)

  found : (b : ℕ) → Facts stock.ids (free stock.entries) order_of b (search b s)
  unfolding order_of
  found b =
      search_facts stock.ids (free stock.entries) s stock.holds
      (λ e. holds_length stock.holds ∙ ap length e) b

  pub listed_of : (b : ℕ) → (search b s).ids ≡ take b order_of
  listed_of b = (found b).listed

  pub number_of_lem : (b : ℕ) → length (search b s).ids ≡ min b (length (ids_at s))
  number_of_lem b = ap length (found b).listed ∙ length-take b order_of ∙ ap (min b) order_is.once

  pub complete_when : (b : ℕ) → (search b s).complete ≡ (leb 1 b && leb (length (ids_at s)) b)
  complete_when b = (found b).whole ∙ ap (λ (n : ℕ). leb 1 b && leb n b) order_is.once

  pub passes_used : (b : ℕ) → (search b s).passes ≡ min b (max 1 (length (ids_at s)))
  passes_used b = (found b).used ∙ ap (λ (n : ℕ). min b (max 1 n)) order_is.once

  pub longer_by : (b n : ℕ) → b ≤ n → (t : List ℕ) × ((search n s).ids ≡ (search b s).ids ++ t)
  longer_by b n h = (
    drop b (take n order_of),
    (found n).listed ∙ take_longer b n order_of h
        ∙ ap (λ (p : List ℕ). p ++ drop b (take n order_of)) (sym (found b).listed),
  )

  pub kept_ids : (b : ℕ) → ids_at (search b s).bridge ≡ ids_at s
  kept_ids b = holds_ids (found b).holds ∙ sym ids_at_lem

  pub resume_kept : (b : ℕ) → ids_at (after_resume (search b s).bridge) ≡ ids_at s
  resume_kept b =
      holds_ids
      (holds_command (0xA5 ∷ 0xA5 ∷ []) (command (0xB4 ∷ []) (search b s).bridge)
      (holds_command (0xB4 ∷ []) (search b s).bridge (found b).holds))
      ∙ sym ids_at_lem

  -- what is listed is on the line
  listed_there : (b : ℕ) (p : List ℕ) (x : ℕ) → (search b s).ids ≡ p ++ x ∷ [] → Among x (ids_at s)
  listed_there b p x e =
      order_is.only x
      (subst (Among x) (take-append-drop b order_of)
      (Memᴰ.append_left (drop b order_of)
      (subst (Among x) (sym e ∙ (found b).listed) (Memᴰ.append_right p (Memᴰ.head refl)))))

  pub listed_narrow : (b : ℕ) (p : List ℕ) (x : ℕ) → (search b s).ids ≡ p ++ x ∷ [] → x < 2 ^ 64
  listed_narrow b p x e = stock.narrow x (subst (Among x) ids_at_lem (listed_there b p x e))

  resumed_last : (b : ℕ) (p : List ℕ) (x : ℕ) → (search b s).ids ≡ p ++ x ∷ [] → Resumed x (after_resume (search b s).bridge).line
  unfolding gathered
  resumed_last b p x e =
      let c = (found b).closing p x e in
      resumed_line x stock.ids (free stock.entries) (after_resume (search b s).bridge).line stock.narrow
      (subst⁻¹ (Among x) (resume_kept b) (listed_there b p x e))
      (commanded_line (search b s).bridge (map (standing 64 x) stock.ids) (free stock.entries) c.0 c.1 c.2 0xA5)

  pub resume_last : (b : ℕ) → 0 < length (search b s).ids → (p : List ℕ) × (x : ℕ) × ((search b s).ids ≡ p ++ x ∷ []) × Resumes x (search b s).bridge
  resume_last b h =
      let l = last_one (search b s).ids h in
      let idle = ((found b).closing l.0 l.1 l.2).1 in (
        l.0,
        l.1,
        l.2,
        record {
          reset_accepted = reset_accepted_lem (search b s).bridge idle;
          resume_accepted = resume_accepted_lem (command (0xB4 ∷ []) (search b s).bridge) (reset_done (search b s).bridge idle);
          selects = resumed_last b l.0 l.1 l.2;
        },
      )

  -- the last one listed is there to be withdrawn, and the mark goes with it
  pub none_last : (b : ℕ) (p x : List ℕ) → (search b s).ids ≡ p ++ number_of x ∷ [] → (withdraw_number x (search b s).bridge.line ≡ 0) × ResumesNone (after_withdrawal x (search b s).bridge)
  unfolding after_withdrawal without line_with
  none_last b p x e =
      let t = (search b s).bridge in
      let i = number_of x in
      let c = (found b).closing p i e in
      let there = withdrawn_when x t.line (subst⁻¹ (Among i) (kept_ids b) (listed_there b p i e)) in
      let left =
      withdrawn_line x t.line there
      ∙ ap (λ (ps : List Probe). line_with (others i ps))
      (ap fitted c.0 ∙ fitted_line_of (map (standing 64 i) stock.ids) (free stock.entries)) in (
        there,
        resume_none (after_withdrawal x t) (others i (map (standing 64 i) stock.ids)) (free _) left c.1 c.2
            (without_unmarked i stock.ids stock.narrow),
      )

  pub sound : Sound s.line
  sound = reached_sound r

  pub at_most_lem : length (ids_at s) ≤ 64
  at_most_lem = omega (arith, sound.counted, sound.within)

  pub capped_at : (b : ℕ) → search b s ≡ search (min b 64) s
  capped_at = search_capped s (omega (arith, sound.entries)) (omega (arith, sound.entries))

  -- the list of as many passes as IDs is whole
  listed_whole : (b : ℕ) → length (ids_at s) ≤ b → (search b s).ids ≡ order_of
  listed_whole b h = (found b).listed ∙ take_all b order_of (omega (arith, order_is.once))

-- ---- one probe more

ids_more : (s : Bridge) → Reached s → (x : List ℕ) → fit_number x s.line ≡ 0 → ids_at (after_fitting x s) ≡ ids_at s ++ number_of x ∷ []
unfolding after_fitting
ids_more s r x e =
    holds_ids (holds_fit (stock s r).entries x (stock s r).holds (stock s r).full e).2
    ∙ ap (λ (ids : List ℕ). ids ++ number_of x ∷ []) (sym (ids_at_lem s r))

pub fitting_one : (s : Bridge) → Reached s → (x : List ℕ) → Bytes x → length x ≡ 8 → fit_number x s.line ≡ 0 → (b : ℕ) → length (ids_at s) < b → (p : List ℕ) × (q : List ℕ) × ((search b (after_fitting x s)).ids ≡ p ++ number_of x ∷ q) × ((search b s).ids ≡ p ++ q)
fitting_one s r x bytes eight e b h =
    let after = fit x bytes eight r in
    let ids = sym (append-nil (ids_at s)) in
    let new : Among (number_of x) (ids_at s) → ⊥ = λ y. new_id x (stock s r).holds e (subst (Among (number_of x)) (ids_at_lem s r) y) in
    let cut =
    in_order_more (number_of x) (ids_at s) [] (subst (λ (l : List ℕ). Among (number_of x) l → ⊥) ids new)
    (subst (λ (l : List ℕ). InOrder l (order_of s r)) ids (order_is s r))
    (subst (λ (l : List ℕ). InOrder l (order_of (after_fitting x s) after)) (ids_more s r x e)
    (order_is (after_fitting x s) after)) in (
      cut.0,
      cut.1,
      listed_whole (after_fitting x s) after b
          (omega (arith, ap length (ids_more s r x e), length-append (ids_at s) (number_of x ∷ [])))
          ∙ cut.2,
      listed_whole s r b (omega arith) ∙ cut.3,
    )

-- ---- one probe less

-- where the probe stood among the others
pub parted_at : (s : Bridge) → Reached s → (x : List ℕ) → withdraw_number x s.line ≡ 0 → Withdrawn (number_of x) s.line
parted_at s r x e = withdrawn_of (number_of x) s.line (sound s r).distinct (withdrawn_fitted x s.line e)

pub ids_fewer : (s : Bridge) (r : Reached s) (x : List ℕ) (e : withdraw_number x s.line ≡ 0) → ids_at (after_withdrawal x s) ≡ (parted_at s r x e).front ++ (parted_at s r x e).back
unfolding after_withdrawal
ids_fewer s r x e = ap ids_of (withdrawn_line x s.line e) ∙ (parted_at s r x e).after

pub withdrawing_one : (s : Bridge) → Reached s → (x : List ℕ) → Bytes x → length x ≡ 8 → withdraw_number x s.line ≡ 0 → (b : ℕ) → length (ids_at s) ≤ b → (p : List ℕ) × (q : List ℕ) × ((search b s).ids ≡ p ++ number_of x ∷ q) × ((search b (after_withdrawal x s)).ids ≡ p ++ q)
withdrawing_one s r x bytes eight e b h =
    let after = withdraw x bytes eight r in
    let w = parted_at s r x e in
    let cut =
    in_order_more (number_of x) w.front w.back w.gone
    (subst (λ (l : List ℕ). InOrder l (order_of (after_withdrawal x s) after)) (ids_fewer s r x e)
    (order_is (after_withdrawal x s) after))
    (subst (λ (l : List ℕ). InOrder l (order_of s r)) w.before (order_is s r)) in (
      cut.0,
      cut.1,
      listed_whole s r b h ∙ cut.2,
      listed_whole (after_withdrawal x s) after b
          (omega
          (arith, ap length (ids_fewer s r x e), ap length w.before, length_parted (number_of x) w.front w.back))
          ∙ cut.3,
    )
