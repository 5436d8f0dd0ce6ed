-- A pass ends where the enumeration says, notes the last conflict that it says, and shows levels 1,1 after none of its triplets.
--   triplet_sbr .. triplet_line       what the bridge shows after the triplet of bit k, and its line
--   tripled_on, walked_on             a pass on the path a before bit k is on the path with the bit taken before the next; so on to bit 64
--   tripled_heard, walked_heard       after such a triplet one of its levels is 0
--   reset_ppd, reset_line, reset_idle a 1-Wire Reset
--   commanded_line, commanded_idle    a 1-Wire Reset and a Write Byte
--   searching_under, passed_on        a pass before its first triplet, and a whole one
--   under_idle                        the bridge after it is as ready as before
use mathlib.Core.Path.{◌≡◌, refl, sym, ap, ap₂, subst, subst⁻¹, fun_ext, ◌∙◌}
use mathlib.Core.Bool.{Bool, true, false, cond, not, ◌&&◌, true≢false}
use mathlib.Core.List.{List, [], ◌∷◌, map, map-map}
use Prim.Native.Nat.{ℕ, zero, suc, ◌+◌, ◌*◌, ◌^◌, ◌<◌}
use native.Mathlib.Nat.{one-mul, zero-mul, add-zero}
use native.Mathlib.Omega.{arith}
use Rattle.std.specs.Prelude.{Option, None, Some}
use Rattle.std.specs.Option.{option_or}
use Rattle.probe.specs.declared.Slot.TheVariants.{Second}
use Rattle.probe.specs.declared.Probe.{Probe}
use lib.Dec.{ltb, lit<}
use Rattle.probe.specs.Probe.{standard, digit, reset}
use Rattle.line.specs.declared.Line.{Line}
use Rattle.line.specs.Line.{level, slot, id_of, after_reset, present, slots}
use Rattle.triplet_slots.specs.Triplet.{chosen, first_level}
use Rattle.bridge.specs.declared.Bridge.{Bridge}
use Rattle.bridge.specs.declared.Pending.TheVariants.{Nothing, Reset, WriteByte, Triplet}
use Rattle.bridge.proofs.Effects.{pended_speed, command_reset, command_write, command_triplet}
use Rattle.bridge.specs.Bridge.{is_pending, busy, speed_of, pended, with_registers, finished_reset, finished_write, finished_triplet, command}
use Rattle.pass.specs.declared.Walk.{Walk}
use Rattle.pass.specs.Pass.{direction, noted, triplet_byte, took_triplet, tripled, walked, begun, passed}
use Rattle.enumeration.proofs.Tree.{has, child, branch, conflict_at, ending, last}
use Rattle.enumeration.proofs.Bits.{child_lt, has_split}
use Rattle.searching.proofs.Words.{Rest, line_of, commanded, stand, standing, gathered, Under, Idle}
use Rattle.searching.proofs.Wire.{first_slot, second_slot, third_slot, first_level_lem, second_level_lem, after_reset_line_of, slots_reset, obeyed_search, ids_standing}

-- ---- a triplet on the bridge

-- with nothing pending the bridge is not busy
free : (b : Bridge) → b.registers.pending ≡ Nothing → busy b ≡ false
free b idle = ap is_pending idle

-- the direction goes through the parameter's bit 7
command_direction : (b : Bridge) → b.registers.pending ≡ Nothing → (d : Bool) → command (0x78 ∷ triplet_byte d ∷ []) b ≡ finished_triplet d (with_registers (pended (Triplet d) b.registers) b)
command_direction b idle true = command_triplet b (free b idle) 128
command_direction b idle false = command_triplet b (free b idle) 0

-- the bit that the bridge writes is the bit that the enumeration takes
chosen_branch : (h : ℕ → ℕ → Bool) (d : ℕ → Bool) (k a : ℕ) → chosen (not (h (suc k) (child false k a))) (not (h (suc k) (child true k a))) (d k) ≡ branch h d k a
unfolding branch
chosen_branch h d k a = go (h (suc k) (child false k a)) (h (suc k) (child true k a))
  where
    go : (z o : Bool) → cond (not z) true (cond (not o) false (d k)) ≡ cond z (cond o (d k) false) true
    go true true = refl
    go true false = refl
    go false o = refl

noted_conflict_at : (h : ℕ → ℕ → Bool) (d : ℕ → Bool) (k a : ℕ) (c : Option ℕ) → noted (not (h (suc k) (child false k a))) (not (h (suc k) (child true k a))) (branch h d k a) k c ≡ option_or (conflict_at h d k a) c
unfolding noted conflict_at branch
noted_conflict_at h d k a c = go (h (suc k) (child false k a)) (h (suc k) (child true k a)) (d k)
  where
    go : (z o e : Bool) → cond (not z) c (cond (not o) c (cond (cond z (cond o e false) true) c (Some k))) ≡ option_or (cond z (cond o (cond e None (Some k)) None) None) c
    go true true true = refl
    go true true false = refl
    go true false e = refl
    go false o e = refl

module _ (ids : List ℕ) (rest : Rest) (d : ℕ → Bool) (k a : ℕ) (within : k < 64) (below : a < 2 ^ k) (b : Bridge) (line : b.line ≡ line_of (map (standing k a) ids) rest) (speed : speed_of b.registers ≡ standard) where
  after : Bridge
  after = finished_triplet (d k) (with_registers (pended (Triplet (d k)) b.registers) b)

  -- the speed of its slots
  abbrev speed_now : ℕ
  speed_now = speed_of (pended (Triplet (d k)) b.registers)

  triplet_speed : speed_now ≡ standard
  triplet_speed = pended_speed (Triplet (d k)) b.registers ∙ speed

  triplet_sbr : after.registers.status.sbr ≡ not (has ids (suc k) (child false k a))
  unfolding after finished_triplet
  triplet_sbr = ap₂ first_level triplet_speed line ∙ first_level_lem k a below ids rest within

  -- the line after the first slot
  first_line : slot speed_now true b.line ≡ line_of (map (stand Second k a) ids) rest
  first_line = ap₂ (λ (v : ℕ) (l : Line). slot v true l) triplet_speed line ∙ first_slot k a below ids rest within

  triplet_tsb : after.registers.status.tsb ≡ not (has ids (suc k) (child true k a))
  unfolding after finished_triplet
  triplet_tsb = ap₂ (λ (v : ℕ) (l : Line). level v true l) triplet_speed first_line ∙ second_level_lem k a below ids rest

  triplet_dir : after.registers.status.dir ≡ branch (has ids) d k a
  unfolding after finished_triplet
  triplet_dir = ap₂ (λ (x y : Bool). chosen x y (d k)) triplet_sbr triplet_tsb ∙ chosen_branch (has ids) d k a

  triplet_line : after.line ≡ line_of (map (standing (suc k) (child (branch (has ids) d k a) k a)) ids) rest
  unfolding after finished_triplet
  triplet_line =
      ap₂ (λ (w : Bool) (l : Line). slot speed_now w (slot speed_now true l)) triplet_dir first_line
      ∙ ap (λ (v : ℕ). slot v (branch (has ids) d k a) (slot v true (line_of (map (stand Second k a) ids) rest))) triplet_speed
      ∙ ap (slot standard (branch (has ids) d k a)) (second_slot k a below ids rest)
      ∙ third_slot k a below ids rest (branch (has ids) d k a)

-- ---- a triplet of a pass

or_deeper : (p q c : Option ℕ) → option_or p (option_or q c) ≡ option_or (option_or p q) c
or_deeper None q c = refl
or_deeper (Some k) q c = refl

-- the bit joins the path
id_child : (t : Bool) (k a : ℕ) → a + digit t * 2 ^ k ≡ child t k a
id_child true k a = ap (λ (m : ℕ). a + m) (one-mul (2 ^ k))
id_child false k a = ap (λ (m : ℕ). a + m) (zero-mul (2 ^ k)) ∙ add-zero a

-- with an ID below the node one of the levels is 0
one_heard : (z o : Bool) → cond z true o ≡ true → (not z && not o) ≡ false
one_heard true o h = refl
one_heard false true h = refl
one_heard false false h = absurd (true≢false (sym h))

-- the branch taken is there
has_branch : (ids : List ℕ) (d : ℕ → Bool) (k a : ℕ) → a < 2 ^ k → has ids k a ≡ true → has ids (suc k) (child (branch (has ids) d k a) k a) ≡ true
unfolding branch
has_branch ids d k a below there =
    go (has ids (suc k) (child false k a)) refl (has ids (suc k) (child true k a)) refl (d k) (sym (has_split ids k a below) ∙ there)
  where
    go : (z : Bool) → has ids (suc k) (child false k a) ≡ z → (o : Bool) → has ids (suc k) (child true k a) ≡ o → (e : Bool) → cond z true o ≡ true → has ids (suc k) (child (cond z (cond o e false) true) k a) ≡ true
    go true ez true eo true h = eo
    go true ez true eo false h = ez
    go true ez false eo e h = ez
    go false ez true eo e h = eo
    go false ez false eo e h = absurd (true≢false (sym h))

module _ (ids : List ℕ) (rest : Rest) (i : ℕ) (c : Option ℕ) where
  module _ (k a : ℕ) (within : k < 64) (below : a < 2 ^ k) (there : has ids k a ≡ true) (w : Walk) (u : Under ids rest k a w) where
    -- the triplet's bridge
    shown : Bridge
    shown = after ids rest (direction i c) k a within below w.bridge u.line u.speed

    tripled_shown : tripled i c k w ≡ took_triplet k shown w
    unfolding tripled shown after
    tripled_shown = ap (λ (b : Bridge). took_triplet k b w) (command_direction w.bridge u.idle (direction i c k))

    tripled_under : Under ids rest (suc k) (child (branch (has ids) (direction i c) k a) k a) (took_triplet k shown w)
    unfolding took_triplet shown after finished_triplet
    tripled_under =
        record {
          line = triplet_line ids rest (direction i c) k a within below w.bridge u.line u.speed;
          idle = refl;
          speed = triplet_speed ids rest (direction i c) k a within below w.bridge u.line u.speed;
          path =
              ap₂ (λ (x : ℕ) (t : Bool). x + digit t * 2 ^ k) u.path
              (triplet_dir ids rest (direction i c) k a within below w.bridge u.line u.speed)
              ∙ id_child (branch (has ids) (direction i c) k a) k a;
        }

    tripled_conflict : (took_triplet k shown w).conflict ≡ option_or (conflict_at (has ids) (direction i c) k a) w.conflict
    unfolding took_triplet shown
    tripled_conflict =
        ap₂ (λ (x y : Bool). noted x y shown.registers.status.dir k w.conflict)
        (triplet_sbr ids rest (direction i c) k a within below w.bridge u.line u.speed)
        (triplet_tsb ids rest (direction i c) k a within below w.bridge u.line u.speed)
        ∙ ap
        (λ (t : Bool). noted (not (has ids (suc k) (child false k a))) (not (has ids (suc k) (child true k a))) t k w.conflict)
        (triplet_dir ids rest (direction i c) k a within below w.bridge u.line u.speed)
        ∙ noted_conflict_at (has ids) (direction i c) k a w.conflict

    -- where the triplet leaves the pass
    tripled_on : Under ids rest (suc k) (child (branch (has ids) (direction i c) k a) k a) (tripled i c k w) × ((tripled i c k w).conflict ≡ option_or (conflict_at (has ids) (direction i c) k a) w.conflict)
    tripled_on = (
      subst⁻¹ (Under ids rest (suc k) (child (branch (has ids) (direction i c) k a) k a)) tripled_shown tripled_under,
      ap (λ (v : Walk). v.conflict) tripled_shown ∙ tripled_conflict,
    )

    -- one of its levels is 0
    tripled_heard : let s = (tripled i c k w).bridge.registers.status in (s.sbr && s.tsb) ≡ false
    unfolding took_triplet shown
    tripled_heard =
        ap (λ (v : Walk). v.bridge.registers.status.sbr && v.bridge.registers.status.tsb) tripled_shown
        ∙ ap₂ ◌&&◌
        (triplet_sbr ids rest (direction i c) k a within below w.bridge u.line u.speed)
        (triplet_tsb ids rest (direction i c) k a within below w.bridge u.line u.speed)
        ∙ one_heard (has ids (suc k) (child false k a)) (has ids (suc k) (child true k a)) (sym (has_split ids k a below) ∙ there)

  -- ---- the triplets of a pass

  walked_on : (n k a : ℕ) → n + k ≡ 64 → a < 2 ^ k → has ids k a ≡ true → (w : Walk) → Under ids rest k a w → Under ids rest 64 (ending (has ids) (direction i c) n k a) (walked n k i c w) × ((walked n k i c w).conflict ≡ option_or (last (has ids) (direction i c) n k a) w.conflict)
  unfolding walked ending last
  walked_on zero k a e below there w u = (subst (λ (j : ℕ). Under ids rest j a w) k_is u, refl)
    where
      k_is : k ≡ 64
      k_is = omega arith
  walked_on (suc n) k a e below there w u =
      let now = tripled_on k a (omega arith) below there w u in
      let then =
      walked_on n (suc k) (child (branch (has ids) (direction i c) k a) k a) (omega arith)
      (child_lt (branch (has ids) (direction i c) k a) k a below) (has_branch ids (direction i c) k a below there)
      (tripled i c k w) now.0 in (
        then.0,
        then.1
            ∙ ap (option_or (last (has ids) (direction i c) n (suc k) (child (branch (has ids) (direction i c) k a) k a))) now.1
            ∙ or_deeper (last (has ids) (direction i c) n (suc k) (child (branch (has ids) (direction i c) k a) k a))
            (conflict_at (has ids) (direction i c) k a) w.conflict,
      )

  -- after the triplet of bit k + j one of its levels is 0
  pub walked_heard : (n k a : ℕ) → n + k ≡ 64 → a < 2 ^ k → has ids k a ≡ true → (w : Walk) → Under ids rest k a w → (j : ℕ) → j < n → let s = (walked (suc j) k i c w).bridge.registers.status in (s.sbr && s.tsb) ≡ false
  unfolding walked
  walked_heard zero k a e below there w u j h = absurd (omega arith)
  walked_heard (suc n) k a e below there w u zero h = tripled_heard k a (omega arith) below there w u
  walked_heard (suc n) k a e below there w u (suc j) h =
      walked_heard n (suc k) (child (branch (has ids) (direction i c) k a) k a) (omega arith)
      (child_lt (branch (has ids) (direction i c) k a) k a below) (has_branch ids (direction i c) k a below there)
      (tripled i c k w) (tripled_on k a (omega arith) below there w u).0 j (omega arith)

-- ---- a 1-Wire Reset, and a ROM command

-- at standard speed every fitted probe answers the reset
pub reset_ppd : (b : Bridge) → b.registers.pending ≡ Nothing → speed_of b.registers ≡ standard → (command (0xB4 ∷ []) b).registers.status.ppd ≡ ltb 0 b.line.count
unfolding finished_reset present
reset_ppd b idle speed =
    ap (λ (r : Bridge). r.registers.status.ppd) (command_reset b (free b idle))
    ∙ ap (λ (v : ℕ). present v b.line) (pended_speed Reset b.registers ∙ speed)

module _ (b : Bridge) (ps : List Probe) (rest : Rest) (line : b.line ≡ line_of ps rest) (idle : b.registers.pending ≡ Nothing) (speed : speed_of b.registers ≡ standard) where
  reset_line : (command (0xB4 ∷ []) b).line ≡ line_of (map (reset standard) ps) rest
  unfolding finished_reset
  reset_line =
      ap (λ (r : Bridge). r.line) (command_reset b (free b idle))
      ∙ ap₂ after_reset (pended_speed Reset b.registers ∙ speed) line
      ∙ after_reset_line_of ps rest

  reset_idle : (command (0xB4 ∷ []) b).registers.pending ≡ Nothing
  unfolding finished_reset
  reset_idle = ap (λ (r : Bridge). r.registers.pending) (command_reset b (free b idle))

  reset_speed : speed_of (command (0xB4 ∷ []) b).registers ≡ standard
  unfolding finished_reset
  reset_speed =
      ap (λ (r : Bridge). speed_of r.registers) (command_reset b (free b idle)) ∙ pended_speed Reset b.registers ∙ speed

  -- the byte written after the reset
  written : (x : ℕ) → command (0xA5 ∷ x ∷ []) (command (0xB4 ∷ []) b) ≡ finished_write x (with_registers (pended (WriteByte x) (command (0xB4 ∷ []) b).registers) (command (0xB4 ∷ []) b))
  written x = command_write (command (0xB4 ∷ []) b) (free (command (0xB4 ∷ []) b) reset_idle) x

  written_speed : (x : ℕ) → speed_of (pended (WriteByte x) (command (0xB4 ∷ []) b).registers) ≡ standard
  written_speed x = pended_speed (WriteByte x) (command (0xB4 ∷ []) b).registers ∙ reset_speed

  -- all probes obey it, at standard speed
  pub commanded_line : (x : ℕ) → (command (0xA5 ∷ x ∷ []) (command (0xB4 ∷ []) b)).line ≡ line_of (map (commanded (gathered 8 x 0)) ps) rest
  unfolding finished_write
  commanded_line x =
      ap (λ (r : Bridge). r.line) (written x)
      ∙ ap₂ (λ (v : ℕ) (l : Line). slots v 8 x l) (written_speed x) reset_line
      ∙ slots_reset x ps rest

  commanded_idle : (x : ℕ) → (command (0xA5 ∷ x ∷ []) (command (0xB4 ∷ []) b)).registers.pending ≡ Nothing
  unfolding finished_write
  commanded_idle x = ap (λ (r : Bridge). r.registers.pending) (written x)

  commanded_speed : (x : ℕ) → speed_of (command (0xA5 ∷ x ∷ []) (command (0xB4 ∷ []) b)).registers ≡ standard
  unfolding finished_write
  commanded_speed x = ap (λ (r : Bridge). speed_of r.registers) (written x) ∙ written_speed x

-- ---- a pass

module _ {ids : List ℕ} {rest : Rest} {b : Bridge} (t : Idle ids rest b) where
  searching_line : (command (0xA5 ∷ 0xF0 ∷ []) (command (0xB4 ∷ []) b)).line ≡ line_of (map (standing 0 0) ids) rest
  unfolding gathered
  searching_line =
      commanded_line b t.holds.probes rest t.holds.line t.idle t.speed 0xF0
      ∙ ap (λ (ps : List Probe). line_of ps rest)
      (ap (λ (f : Probe → Probe). map f t.holds.probes) (fun_ext obeyed_search)
      ∙ sym (map-map (standing 0 0) id_of t.holds.probes)
      ∙ ap (map (standing 0 0)) t.holds.same)

  -- before its first triplet a pass is on the path of no bit
  pub searching_under : Under ids rest 0 0 (begun (command (0xA5 ∷ 0xF0 ∷ []) (command (0xB4 ∷ []) b)))
  searching_under =
      record {
        line = searching_line;
        idle = commanded_idle b t.holds.probes rest t.holds.line t.idle t.speed 0xF0;
        speed = commanded_speed b t.holds.probes rest t.holds.line t.idle t.speed 0xF0;
        path = refl;
      }

  pub passed_on : (i : ℕ) (c : Option ℕ) → has ids 0 0 ≡ true → Under ids rest 64 (ending (has ids) (direction i c) 64 0 0) (passed i c (command (0xB4 ∷ []) b)) × ((passed i c (command (0xB4 ∷ []) b)).conflict ≡ option_or (last (has ids) (direction i c) 64 0 0) None)
  unfolding passed
  passed_on i c there = walked_on ids rest i c 64 0 0 refl (lit< tt) there _ searching_under

-- the line after a pass has the same IDs
pub under_idle : {ids : List ℕ} {rest : Rest} {k a : ℕ} {w : Walk} → Under ids rest k a w → Idle ids rest w.bridge
under_idle {ids} {rest} {k} {a} u =
    record {
      holds = record { probes = map (standing k a) ids; line = u.line; same = ids_standing k a ids };
      idle = u.idle;
      speed = u.speed;
    }
