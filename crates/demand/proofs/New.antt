-- A newly fitted probe on a line where the bridge is not at standard speed: neither resets nor slots change it.
--   New i l          a probe of l that has the ID i is as newly fitted
--   new_resumed      it is so after a 1-Wire reset and Resume at another speed
use mathlib.Core.Path.{◌≡◌, refl, sym, ap, subst, subst⁻¹, ◌∙◌}
use mathlib.Core.Bool.{Bool, false, cond}
use mathlib.Core.List.Memᴰ
use mathlib.Core.List.{[], ◌∷◌}
use Prim.Native.Nat.{ℕ, zero, suc, ◌/◌, ◌%◌}
use lib.Dec.{eqb}
use Rattle.probe.specs.declared.Condition.TheVariants.{Taking}
use Rattle.probe.specs.declared.Probe.{Probe}
use Rattle.probe.specs.Probe.{standard, deaf_new, in_condition, reaches, took_at, rests, rests_in, reset}
use Rattle.probe.proofs.Rests.{took_at_rests}
use Rattle.line.specs.declared.Line.{Line}
use Rattle.line.specs.Line.{fitted, id_of, on_fitted, level, slot, slots, after_reset}
use Rattle.line.proofs.Each.{fitted_on_fitted}
use Rattle.bridge.specs.declared.Bridge.{Bridge}
use Rattle.bridge.specs.declared.Pending.TheVariants.{Nothing, Reset}
use Rattle.bridge.specs.Bridge.{is_pending, speed_of, finished_reset, finished_write, command}
use Rattle.bridge.proofs.Effects.{pended_speed, command_reset, command_write}
use Rattle.enumeration.specs.Order.{Among}
use Rattle.searching.proofs.Holds.{took_id, reset_id}
use Rattle.demand.specs.Demand.{after_resume}
use Rattle.demand.proofs.Search.{reset_done}

abbrev pub New : ℕ → Line → Type 0
New i l = (p : Probe) → Among p (fitted l) → p.id ≡ i → p ≡ deaf_new i

module _ (i : ℕ) where
  new_on : (f : Probe → Probe) → ((p : Probe) → (f p).id ≡ p.id) → f (deaf_new i) ≡ deaf_new i → (l : Line) → New i l → New i (on_fitted f l)
  new_on f same kept l h p m e =
      let q = Memᴰ.of_map f (fitted l) (subst (Among p) (fitted_on_fitted f l) m) in
      sym q.2 ∙ ap f (h q.0 q.1 (sym (same q.0) ∙ ap id_of q.2 ∙ e)) ∙ kept

  -- a deaf probe rests
  new_slot : (v : ℕ) (w : Bool) (l : Line) → New i l → New i (slot v w l)
  unfolding slot rests rests_in
  new_slot v w l h = new_on (took_at v (level v w l)) (took_id v (level v w l)) (took_at_rests v (level v w l) (deaf_new i) refl) l h

  new_slots : (v n x : ℕ) (l : Line) → New i l → New i (slots v n x l)
  unfolding slots
  new_slots v zero x l h = h
  new_slots v (suc n) x l h = new_slots v n (x / 2) (slot v (eqb (x % 2) 1) l) (new_slot v (eqb (x % 2) 1) l h)

  -- it is at standard speed, so that a reset at another does not reach it
  new_reset : (v : ℕ) → eqb v standard ≡ false → (l : Line) → New i l → New i (after_reset v l)
  unfolding after_reset reset reaches
  new_reset v other l h =
      new_on (reset v) (reset_id v)
      (ap (λ (t : Bool). cond t (in_condition (deaf_new i) (Taking 0 0)) (cond t (in_condition (deaf_new i) (Taking 0 0)) (deaf_new i))) other) l h

  pub new_resumed : (s : Bridge) → s.registers.pending ≡ Nothing → eqb (speed_of s.registers) standard ≡ false → New i s.line → New i (after_resume s).line
  unfolding finished_reset finished_write
  new_resumed s idle other h =
      subst⁻¹ (λ (b : Bridge). New i b.line) (command_write (command (0xB4 ∷ []) s) (ap is_pending (reset_done s idle)) 0xA5)
      (new_slots _ 8 0xA5 (command (0xB4 ∷ []) s).line
      (subst⁻¹ (λ (b : Bridge). New i b.line) (command_reset s (ap is_pending idle))
      (new_reset _ (ap (λ (v : ℕ). eqb v standard) (pended_speed Reset s.registers) ∙ other) s.line h)))
