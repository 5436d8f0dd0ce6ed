-- Which chips listen, and what a slot does to one.
--   beyond           what a table of chips is read as behind its end
--   listens_not      a probe that is not selected does not listen
--   lets_quiet, hears_not, quieted_not     one that does not listen sends nothing, hears nothing, and is not deaf behind the slot
--   quieted_on_lem   nor is one whose chip is not over
--   calm_some        whether a probe is calm for some slots
use mathlib.Core.Path.{◌≡◌, refl, sym, ap, ◌∙◌}
use mathlib.Core.Bool.{Bool, true, false, cond, ◌&&◌}
use mathlib.Core.List.{[]}
use Prim.Native.Nat.{ℕ, zero, suc}
use lib.Dec.{ltb}
use Rattle.probe.specs.declared.Condition.TheVariants.{Deaf}
use Rattle.probe.specs.declared.Probe.{Probe}
use Rattle.probe.specs.Probe.{reaches, in_condition}
use Rattle.chip.specs.declared.Sensor.{Sensor}
use Rattle.chip.specs.declared.Chip.{Chip}
use Rattle.chip.specs.Chip.{no_packet, sends, heard, is_over}
use Rattle.wire.specs.Wire.{is_selected, listens, lets, heard_by, quieted}
use Rattle.wire.specs.Calm.{calm_in, calm}

-- Of no bearing: no place behind the end is read.
abbrev pub beyond : Chip
beyond =
    let s : Sensor = record { pointer = 0; registers = [] } in
    record { address = 0; sensor = s; packet = no_packet s }

-- two tests in a row of which the second fails
no_second : (s : Bool) → (s && false) ≡ false
no_second true = refl
no_second false = refl

module _ (v : ℕ) (p : Probe) (c : Chip) where
  pub listens_not : is_selected p.condition ≡ false → false ≡ listens v p c
  unfolding listens
  listens_not e =
      sym (ap (λ (t : Bool). ltb c.address 128 && (t && reaches v p)) e ∙ no_second (ltb c.address 128))

  pub lets_quiet : listens v p c ≡ false → lets v p c ≡ true
  unfolding lets
  lets_quiet e = ap (λ (t : Bool). cond t (sends c) true) e

  pub hears_not : (x : Bool) → listens v p c ≡ false → heard_by v x p c ≡ c
  unfolding heard_by
  hears_not x e = ap (λ (t : Bool). cond t (heard x c) c) e

  pub quieted_not : listens v p c ≡ false → quieted v c p ≡ p
  unfolding quieted
  quieted_not e = ap (λ (t : Bool). cond (t && is_over c) (in_condition p Deaf) p) e

  pub quieted_on_lem : is_over c ≡ false → quieted v c p ≡ p
  unfolding quieted
  quieted_on_lem e =
      ap (λ (t : Bool). cond (listens v p c && t) (in_condition p Deaf) p) e
      ∙ ap (λ (t : Bool). cond t (in_condition p Deaf) p) (no_second (listens v p c))

pub calm_some : (n : ℕ) (p : Probe) → (n ≡ 0 → ⊥) → calm n p ≡ calm_in n p.condition
unfolding calm
calm_some zero p h = absurd (h refl)
calm_some (suc n) p h = refl
