-- The line keeps its IDs, and what it has beside them, in everything but a fitting.
--   obeyed_id, took_id, reset_id    a probe keeps its ID
--   holds-f               the line keeps its IDs and its free entries in f: slot, reset, slots, time, command
--   write_line            a write leaves the line
use mathlib.Core.Path.{◌≡◌, refl, ap, ap₂, subst⁻¹, ◌∙◌}
use mathlib.Core.Bool.{Bool, true, false, cond}
use mathlib.Core.List.{List, [], ◌∷◌, map}
use Prim.Native.Nat.{ℕ, zero, suc, ◌+◌, ◌*◌, ◌/◌, ◌%◌}
use lib.Dec.{eqb, leb}
use lib.ListN.{get_or}
use Rattle.probe.specs.declared.Slot.TheVariants.{First, Second, Third}
use Rattle.probe.specs.declared.Condition.{Condition}
use Rattle.probe.specs.declared.Condition.TheVariants.{Deaf, Taking, Sending, Matching, Searching, Selected}
use Rattle.probe.specs.declared.Probe.{Probe}
use Rattle.probe.specs.Probe.{standard, digit, reaches, agrees, reset, obeyed, took, took_in, took_code, took_sending, took_matching, took_searching, took_at}
use Rattle.line.specs.declared.Line.{Line}
use Rattle.line.specs.Line.{id_of, on_fitted, slot, level, after_reset, slots}
use Rattle.bridge.specs.declared.Pending.{Pending}
use Rattle.bridge.specs.declared.Pending.TheVariants.{Nothing, Reset, SingleBit, WriteByte, ReadByte, Triplet}
use Rattle.bridge.specs.declared.Bridge.{Bridge}
use Rattle.bridge.specs.Bridge.{accepted, with_registers, write_number, after_write, finished_of, finished_reset, finished_bit, finished_write, finished_read, finished_triplet, after_time, command}
use Rattle.searching.proofs.Words.{Rest, Holds}
use Rattle.searching.proofs.Wire.{on_fitted_line_of}

-- ---- a probe keeps its ID

cond_id : (i : ℕ) (t : Bool) (p q : Probe) → p.id ≡ i → q.id ≡ i → (cond t p q).id ≡ i
cond_id i true p q a b = a
cond_id i false p q a b = b

pub obeyed_id : (c : ℕ) (p : Probe) → (obeyed c p).id ≡ p.id
unfolding obeyed
obeyed_id c p =
    cond_id p.id (eqb c 0x33) _ _ refl
    (cond_id p.id (eqb c 0x55) _ _ refl
    (cond_id p.id (eqb c 0xF0) _ _ refl
    (cond_id p.id (eqb c 0xCC) _ _ refl
    (cond_id p.id (eqb c 0x3C) _ _ refl
    (cond_id p.id (eqb c 0x69) _ _ refl (cond_id p.id (eqb c 0xA5) _ _ refl refl))))))

took_in_id : (c : Condition) (l : Bool) (p : Probe) → (took_in c l p).id ≡ p.id
unfolding took_in took_code took_sending took_matching took_searching
took_in_id Deaf l p = refl
took_in_id (Taking n c) l p = cond_id p.id (leb 7 n) _ _ (obeyed_id (c / 2 + 128 * digit l) p) refl
took_in_id (Sending k) l p = refl
took_in_id (Matching k v) l p = cond_id p.id (agrees l p.id k) _ _ (cond_id p.id (leb 63 k) _ _ refl refl) refl
took_in_id (Searching k First) l p = refl
took_in_id (Searching k Second) l p = refl
took_in_id (Searching k Third) l p =
    cond_id p.id (agrees l p.id k) _ _ (cond_id p.id (leb 63 k) _ _ refl refl) refl
took_in_id Selected l p = refl

pub took_id : (v : ℕ) (l : Bool) (p : Probe) → (took_at v l p).id ≡ p.id
unfolding took_at took
took_id v l p = cond_id p.id (reaches v p) _ _ (took_in_id p.condition l p) refl

pub reset_id : (v : ℕ) (p : Probe) → (reset v p).id ≡ p.id
unfolding reset
reset_id v p = cond_id p.id (eqb v standard) _ _ refl (cond_id p.id (reaches v p) _ _ refl refl)

-- ---- the line keeps its IDs and its free entries

ids_map : (f : Probe → Probe) → ((p : Probe) → (f p).id ≡ p.id) → (ps : List Probe) → map id_of (map f ps) ≡ map id_of ps
ids_map f e [] = refl
ids_map f e (p ∷ ps) = ap₂ {C = List ℕ} (λ (x : ℕ) (y : List ℕ). x ∷ y) (e p) (ids_map f e ps)

module _ {ids : List ℕ} {rest : Rest} where
  holds_on : (f : Probe → Probe) → ((p : Probe) → (f p).id ≡ p.id) → {l : Line} → Holds ids rest l → Holds ids rest (on_fitted f l)
  holds_on f e h =
      record {
        probes = map f h.probes;
        line = ap (on_fitted f) h.line ∙ on_fitted_line_of f h.probes rest;
        same = ids_map f e h.probes ∙ h.same;
      }

  holds_slot : (v : ℕ) (w : Bool) {l : Line} → Holds ids rest l → Holds ids rest (slot v w l)
  unfolding slot
  holds_slot v w {l} h = holds_on (took_at v (level v w l)) (took_id v (level v w l)) h

  holds_reset : (v : ℕ) {l : Line} → Holds ids rest l → Holds ids rest (after_reset v l)
  unfolding after_reset
  holds_reset v h = holds_on (reset v) (reset_id v) h

  holds_slots : (v n x : ℕ) {l : Line} → Holds ids rest l → Holds ids rest (slots v n x l)
  unfolding slots
  holds_slots v zero x h = h
  holds_slots v (suc n) x h = holds_slots v n (x / 2) (holds_slot v (eqb (x % 2) 1) h)

  -- time passing
  pub holds_time : (b : Bridge) → Holds ids rest b.line → Holds ids rest (after_time b).line
  unfolding after_time finished_of finished_reset finished_bit finished_write finished_read finished_triplet
  holds_time b h = go b.registers.pending
    where
      go : (p : Pending) → Holds ids rest (finished_of p b).line
      go Nothing = h
      go Reset = holds_reset _ h
      go (SingleBit w) = holds_slot _ w h
      go (WriteByte x) = holds_slots _ 8 x h
      go ReadByte = holds_slots _ 8 0xFF h
      go (Triplet d) = holds_slot _ _ (holds_slot _ true (holds_slot _ true h))

-- a write leaves the line
pub write_line : (x : List ℕ) (b : Bridge) → (after_write x b).line ≡ b.line
unfolding after_write
write_line x b = go (eqb (write_number x b) 0)
  where
    go : (t : Bool) → (cond t (with_registers (accepted (get_or x 0 0) (get_or x 1 0) b.registers) b) b).line ≡ b.line
    go true = refl
    go false = refl

pub holds_command : {ids : List ℕ} {rest : Rest} (x : List ℕ) (b : Bridge) → Holds ids rest b.line → Holds ids rest (command x b).line
unfolding command
holds_command {ids} {rest} x b h = holds_time (after_write x b) (subst⁻¹ (Holds ids rest) (write_line x b) h)
