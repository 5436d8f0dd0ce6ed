-- The strong pull-up in every state that calls reach.
--   Fine r          of the registers r: the configuration is that of three bits, and while the pull-up is on SPU is set and nothing pending
--   reached_fine    so it is in every state that calls reach
--   pull_up         the sentences of R-12
use mathlib.Core.Path.{◌≡◌, refl, sym, ap, ap₂, subst⁻¹, ◌∙◌}
use mathlib.Core.Bool.{Bool, true, false, cond, ◌&&◌, false≢true}
use mathlib.Core.List.{List, [], ◌∷◌}
use Prim.Native.Nat.{ℕ, ◌+◌, ◌*◌, ◌/◌, ◌%◌, ◌≤◌}
use native.Mathlib.Omega.{arith}
use Rattle.std.proofs.lemmas.Grind.{common_steps}
use borrow.Author.Tests.{eqb-true}
use lib.Dec.{eqb}
use lib.ListN.{length, get_or}
use Rattle.probe.specs.Probe.{digit}
use Rattle.line.specs.Line.{any}
use Rattle.bridge.specs.declared.Bridge.{Bridge}
use Rattle.bridge.specs.declared.Registers.{Registers}
use Rattle.bridge.specs.declared.StatusBits.{StatusBits}
use Rattle.bridge.specs.declared.Pending.{Pending}
use Rattle.bridge.specs.declared.Pending.TheVariants.{Nothing, Reset, SingleBit, WriteByte, ReadByte, Triplet}
use Rattle.bridge.specs.Bridge.{cleared, power_on, is_pending, busy, is_strong, set_pointer, configured, without_spu, pended, top_bit, accepted, bytes_of, taken_while_busy, good_configuration, good_parameter, write_number, with_registers, after_write}
use Rattle.bridge.specs.Bridge.{switches_on, pullup_after, finished, finished_reset, finished_bit, finished_write, finished_read, finished_triplet, finished_of, after_time, after_fitting, after_withdrawal, command}
use Rattle.bridge.specs.Reached.{Reached}
use Rattle.bridge.specs.Reached.Reached.{on, write, wait, fit, withdraw}
use Rattle.bridge.proofs.Writes.{after_write_done}
use Rattle.bridge.proofs.Effects.{command_write}
use Rattle.pullup.specs.Pullup.{nibble, OfBits, one_wire, configuration_at, spu_at, is_on, PullUp}
use Rattle.pullup.proofs.Configurations.{digit_le, good_stored}

-- ---- tests

-- the case that a test picks has what both have
pick : {A : Type 0} (P : A → Type 0) (t : Bool) {x y : A} → (t ≡ true → P x) → (t ≡ false → P y) → P (cond t x y)
pick P true f g = f refl
pick P false f g = g refl

-- ---- what is so of the registers

record Fine (r : Registers) : Type 0 where
  pub bits : OfBits r.configuration
  pub strong : r.pullup ≡ true → is_strong r.configuration ≡ true
  pub idle : r.pullup ≡ true → r.pending ≡ Nothing

fine_cleared : (o : ℕ) → Fine (cleared o)
fine_cleared o =
    record {
      bits = (false, false, false, refl);
      strong = λ e. absurd (false≢true e);
      idle = λ e. absurd (false≢true e);
    }

fine_pointer : (x : ℕ) (r : Registers) → Fine r → Fine (set_pointer x r)
fine_pointer x r f = record { bits = f.bits; strong = f.strong; idle = f.idle }

low_strong : (x : ℕ) → x % 16 / 4 % 2 ≡ x / 4 % 2
low_strong x = omega arith

fine_configured : (x : ℕ) (r : Registers) → good_configuration x ≡ true → Fine r → Fine (configured x r)
fine_configured x r good f =
    record {
      bits = (eqb (x % 2) 1, eqb (x / 4 % 2) 1, eqb (x / 8 % 2) 1, good_stored x good);
      strong = λ e. grind (arith, common_steps, low_strong x);
      idle = λ e. f.idle (grind (arith, common_steps));
    }

-- SPU out of three bits
low_without : (a p w : ℕ) → a ≤ 1 → p ≤ 1 → w ≤ 1 → let n = a + p * 4 + w * 8 in n / 8 * 8 + n % 4 ≡ a + w * 8
low_without a p w ha hp hw = omega arith

without_spu_lem : (a p w : Bool) → without_spu (nibble a p w) ≡ nibble a false w
without_spu_lem a p w = low_without (digit a) (digit p) (digit w) (digit_le a) (digit_le p) (digit_le w) ∙ omega arith

not_strong : (x : ℕ) → (x / 8 * 8 + x % 4) / 4 % 2 ≡ 0
not_strong x = omega arith

spu_cleared : (x : ℕ) → is_strong (without_spu x) ≡ false
spu_cleared x = ap (λ (n : ℕ). eqb n 1) (not_strong x)

fine_pended : (q : Pending) (r : Registers) → Fine r → Fine (pended q r)
fine_pended q r f =
    record {
      bits = go f.bits r.pullup;
      strong = λ e. absurd (false≢true e);
      idle = λ e. absurd (false≢true e);
    }
  where
    go : OfBits r.configuration → (t : Bool) → OfBits (cond t (without_spu r.configuration) r.configuration)
    go b true = (b.0, false, b.2, ap without_spu b.3 ∙ without_spu_lem b.0 b.1 b.2)
    go b false = b

-- ---- writes

-- an accepted write has a good parameter
done_good : (u h l g : Bool) → cond {A = ℕ} u 5 (cond h 6 (cond l (cond g 0 8) 7)) ≡ 0 → g ≡ true
done_good u h l g e = grind (arith, common_steps)

parameter_good : (x : List ℕ) (s : Bridge) → write_number x s ≡ 0 → good_parameter (get_or x 0 0) (get_or x 1 0) ≡ true
unfolding write_number
parameter_good [] s e = absurd (omega arith)
parameter_good (c ∷ ps) s e =
    done_good (eqb (bytes_of c) 0) (cond (busy s) (cond (taken_while_busy c) false true) false) (eqb (length (c ∷ ps)) (bytes_of c))
    (good_parameter c (get_or ps 0 0)) e

configuration_good : (c x : ℕ) → good_parameter c x ≡ true → eqb c 0xD2 ≡ true → good_configuration x ≡ true
unfolding good_parameter
configuration_good c x e h = sym (ap (λ (k : ℕ). good_parameter k x) (eqb-true c 0xD2 h)) ∙ e

fine_accepted : (c x : ℕ) (r : Registers) → good_parameter c x ≡ true → Fine r → Fine (accepted c x r)
unfolding accepted
fine_accepted c x r good f =
    pick Fine (eqb c 0xF0) (λ e. fine_cleared r.readout) (λ _.
    pick Fine (eqb c 0xE1) (λ e. fine_pointer x r f) (λ _.
    pick Fine (eqb c 0xD2) (λ e. fine_configured x r (configuration_good c x good e) f) (λ _.
    pick Fine (eqb c 0xB4) (λ e. fine_pended Reset r f) (λ _.
    pick Fine (eqb c 0x87) (λ e. fine_pended (SingleBit (top_bit x)) r f) (λ _.
    pick Fine (eqb c 0xA5) (λ e. fine_pended (WriteByte x) r f) (λ _.
    pick Fine (eqb c 0x96) (λ e. fine_pended ReadByte r f) (λ _. fine_pended (Triplet (top_bit x)) r f)))))))

fine_write : (x : List ℕ) (s : Bridge) → Fine s.registers → Fine (after_write x s).registers
unfolding after_write
fine_write x s f =
    pick (λ (b : Bridge). Fine b.registers) (eqb (write_number x s) 0)
    (λ e. fine_accepted (get_or x 0 0) (get_or x 1 0) s.registers (parameter_good x s (eqb-true (write_number x s) 0 e)) f)
    (λ _. f)

-- ---- time passing

fine_finished : (t : StatusBits) (o : ℕ) (r : Registers) → Fine r → Fine (finished t o r)
fine_finished t o r f = record { bits = f.bits; strong = go (switches_on r.pending) (is_strong r.configuration) refl; idle = λ _. refl }
  where
    go : (t u : Bool) → is_strong r.configuration ≡ u → cond t (cond u true r.pullup) r.pullup ≡ true → is_strong r.configuration ≡ true
    go t u eu e = grind (arith, common_steps, f.strong)

fine_time : (s : Bridge) → Fine s.registers → Fine (after_time s).registers
unfolding after_time finished_of finished_reset finished_bit finished_write finished_read finished_triplet
fine_time s f = go s.registers.pending
  where
    go : (q : Pending) → Fine (finished_of q s).registers
    go Nothing = f
    go Reset = fine_finished _ _ s.registers f
    go (SingleBit w) = fine_finished _ _ s.registers f
    go (WriteByte x) = fine_finished _ _ s.registers f
    go ReadByte = fine_finished _ _ s.registers f
    go (Triplet d) = fine_finished _ _ s.registers f

reached_fine : {s : Bridge} → Reached s → Fine s.registers
unfolding power_on after_fitting after_withdrawal
reached_fine on = fine_cleared 0
reached_fine (write x h {b} r) = fine_write x b (reached_fine r)
reached_fine (wait {b} r) = fine_time b (reached_fine r)
reached_fine (fit x h n r) = reached_fine r
reached_fine (withdraw x h n r) = reached_fine r

-- ---- the sentences

-- a 1-Wire command that is accepted is pending
accepted_pended : (c x : ℕ) (r : Registers) → one_wire c ≡ true → (q : Pending) × (accepted c x r ≡ pended q r)
unfolding accepted one_wire any
accepted_pended c x r =
    go (eqb c 0xB4) refl (eqb c 0x87) refl (eqb c 0xA5) refl (eqb c 0x96) refl (eqb c 0x78) refl
  where
    Pended : ℕ → Type 0
    Pended k = (q : Pending) × (accepted k x r ≡ pended q r)

    go : (t : Bool) → eqb c 0xB4 ≡ t → (u : Bool) → eqb c 0x87 ≡ u → (v : Bool) → eqb c 0xA5 ≡ v → (w : Bool) → eqb c 0x96 ≡ w → (z : Bool) → eqb c 0x78 ≡ z → cond t true (cond u true (cond v true (cond w true (cond z true false)))) ≡ true → Pended c
    go true e u eu v ev w ew z ez h = subst⁻¹ Pended (eqb-true c 0xB4 e) (Reset, refl)
    go false e true eu v ev w ew z ez h = subst⁻¹ Pended (eqb-true c 0x87 eu) (SingleBit (top_bit x), refl)
    go false e false eu true ev w ew z ez h = subst⁻¹ Pended (eqb-true c 0xA5 ev) (WriteByte x, refl)
    go false e false eu false ev true ew z ez h = subst⁻¹ Pended (eqb-true c 0x96 ew) (ReadByte, refl)
    go false e false eu false ev false ew true ez h = subst⁻¹ Pended (eqb-true c 0x78 ez) (Triplet (top_bit x), refl)
    go false e false eu false ev false ew false ez h = absurd (false≢true h)

module _ (s : Bridge) where
  written_pended : (x : List ℕ) → write_number x s ≡ 0 → one_wire (get_or x 0 0) ≡ true → (q : Pending) × (after_write x s ≡ with_registers (pended q s.registers) s)
  written_pended x e h =
      let p = accepted_pended (get_or x 0 0) (get_or x 1 0) s.registers h in
      (p.0, after_write_done x s e ∙ ap (λ (r : Registers). with_registers r s) p.1)

  -- the configuration of the command that ends the pull-up, and of one that finds it off
  on_without : (x : List ℕ) → write_number x s ≡ 0 → one_wire (get_or x 0 0) ≡ true → is_on s ≡ true → (a p w : Bool) → configuration_at s ≡ nibble a p w → configuration_at (after_write x s) ≡ nibble a false w
  on_without x e h now a p w is =
      ap configuration_at (written_pended x e h).1
      ∙ ap (λ (t : Bool). cond t (without_spu (configuration_at s)) (configuration_at s)) now
      ∙ ap without_spu is
      ∙ without_spu_lem a p w

  off_kept : (x : List ℕ) → write_number x s ≡ 0 → one_wire (get_or x 0 0) ≡ true → is_on s ≡ false → configuration_at (after_write x s) ≡ configuration_at s
  off_kept x e h off =
      ap configuration_at (written_pended x e h).1
      ∙ ap (λ (t : Bool). cond t (without_spu (configuration_at s)) (configuration_at s)) off

  under : (x : ℕ) → write_number (0xD2 ∷ x ∷ []) s ≡ 0 → is_on (after_write (0xD2 ∷ x ∷ []) s) ≡ (is_strong x && is_on s)
  unfolding accepted
  under x e =
      ap is_on (after_write_done (0xD2 ∷ x ∷ []) s e) ∙ grind (arith, common_steps)

  -- a Device Reset is taken, busy or not
  reset_done : write_number (0xF0 ∷ []) s ≡ 0
  unfolding write_number bytes_of taken_while_busy good_parameter
  reset_done = grind (arith, common_steps)

  reset_ends : is_on (after_write (0xF0 ∷ []) s) ≡ false
  unfolding accepted
  reset_ends = ap is_on (after_write_done (0xF0 ∷ []) s reset_done)

  module _ (f : Fine s.registers) where
    -- while a command is pending the pull-up is off
    pending_off : is_pending s.registers.pending ≡ true → is_on s ≡ false
    pending_off e = grind (arith, common_steps, f.idle)

    after_pending : (q : Pending) → s.registers.pending ≡ q → is_pending q ≡ true → pullup_after s.registers ≡ (switches_on q && spu_at s)
    after_pending q e h =
        ap₂ (λ (k : Pending) (t : Bool). cond (switches_on k) (cond (spu_at s) true t) t) e (pending_off (ap is_pending e ∙ h))
        ∙ grind (arith, common_steps)

    after_time_lem : is_on (after_time s) ≡ cond (busy s) (switches_on s.registers.pending && spu_at s) (is_on s)
    unfolding after_time finished_of finished_reset finished_bit finished_write finished_read finished_triplet
    after_time_lem = go s.registers.pending refl
      where
        go : (q : Pending) → s.registers.pending ≡ q → is_on (finished_of q s) ≡ cond (is_pending q) (switches_on q && spu_at s) (is_on s)
        go Nothing e = refl
        go Reset e = after_pending Reset e refl
        go (SingleBit w) e = after_pending (SingleBit w) e refl
        go (WriteByte x) e = after_pending (WriteByte x) e refl
        go ReadByte e = after_pending ReadByte e refl
        go (Triplet d) e = after_pending (Triplet d) e refl

    -- SPU is cleared as the second is accepted
    second_off : (x : ℕ) → is_on s ≡ true → is_on (command (0xA5 ∷ x ∷ []) s) ≡ false
    unfolding finished_write
    second_off x now =
        ap is_on (command_write s (ap is_pending (f.idle now)) x)
        ∙ ap (λ (t : Bool). cond (is_strong (cond t (without_spu (configuration_at s)) (configuration_at s))) true false) now
        ∙ ap (λ (t : Bool). cond t true false) (spu_cleared (configuration_at s))

pub pull_up : (s : Bridge) → Reached s → PullUp s
pull_up s r =
    let f = reached_fine r in
    record {
      bits = f.bits;
      strong = f.strong;
      idle = f.idle;
      time = after_time_lem s f;
      ends = λ x e h. ap is_on (written_pended s x e h).1;
      cleared = on_without s;
      kept = off_kept s;
      second = second_off s f;
      configured = under s;
      reset = reset_ends s;
    }
