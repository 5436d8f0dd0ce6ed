-- What a search comes to, with no pass allowed, with no probe and with some. Neither distinct IDs nor a reached state is asked for.
--   started          after its Device Reset
--   search_facts     what it comes to
--   search_enough    as many passes as IDs, and one, do what any more do
--   search_capped    more than 64 passes do what 64 do
use mathlib.Core.Path.{◌≡◌, refl, sym, ap, ap₂, subst⁻¹, ◌∙◌}
use mathlib.Core.Bool.{Bool, true, ◌&&◌}
use mathlib.Core.List.{List, [], ◌∷◌}
use Prim.Native.Nat.{ℕ, zero, suc, ◌<◌, ◌≤◌, min, max}
use native.Mathlib.Nat.{zero-min, min-eq_left, min-eq_right}
use native.Mathlib.Decide.{dec_le}
use native.Mathlib.Omega.{arith}
use borrow.Author.Tests.{le-leb, le-ltb, lt-leb}
use lib.Dec.{ltb, leb, lit<, leb-zero}
use lib.ListN.{length, take, length-take, length-map}
use Rattle.std.specs.Prelude.{None}
use Rattle.line.specs.Line.{fitted, id_of, ids_of}
use Rattle.bridge.specs.declared.Bridge.{Bridge}
use Rattle.bridge.proofs.Effects.{command_device_reset}
use Rattle.bridge.specs.Bridge.{speed_of, command}
use Rattle.pass.specs.Pass.{direction}
use Rattle.pass.specs.Passes.{absent, Result, searched, search}
use Rattle.enumeration.proofs.Tree.{has, sorted, Sequences}
use Rattle.enumeration.proofs.Bits.{has_split}
use Rattle.enumeration.proofs.Passes.{sequence, sequences_some}
use Rattle.enumeration.proofs.Leaves.{sorted_short, sorted_none, has_some}
use Rattle.searching.proofs.Words.{Rest, Holds, Idle, Outcome, Facts}
use Rattle.searching.proofs.Wire.{line_of_parts}
use Rattle.searching.proofs.Pass.{reset_ppd}
use Rattle.searching.proofs.Holds.{holds_command}
use Rattle.pass.proofs.Next.{searched_absent}
use Rattle.searching.proofs.Outcomes.{no_snoc, searched_outcome, searched_enough}

-- the first pass asks for 0 everywhere
first_pass : (ids : List ℕ) → has ids 0 0 ≡ true → Sequences (has ids) 64 0 0 (direction 0 None) (sorted ids)
unfolding direction sorted
first_pass ids there = sequence (has ids) (has_split ids) 64 0 0 (lit< tt) there (direction 0 None) (λ j h. refl)

-- after the Device Reset nothing is pending, the bridge is at standard speed, and the line is as it was
pub started : {ids : List ℕ} {rest : Rest} (b : Bridge) → Holds ids rest b.line → Idle ids rest (command (0xF0 ∷ []) b)
started {ids} {rest} b h =
    subst⁻¹ (Idle ids rest) (command_device_reset b) (record { holds = h; idle = refl; speed = refl })

-- ---- no pass allowed

none_allowed : (ids : List ℕ) (rest : Rest) (l : List ℕ) (b : Bridge) → Holds ids rest b.line → Facts ids rest l zero (search zero b)
unfolding search
none_allowed ids rest l b h =
    record {
      listed = refl;
      used = sym (zero-min (max 1 (length l)));
      whole = ap (λ (t : Bool). t && leb (length l) 0) (sym (lt-leb 1 0 (lit< tt)));
      holds = h;
      closing = λ p x e. absurd (no_snoc p x e);
    }

-- ---- no probe

absent_facts : (rest : Rest) (m : ℕ) (b : Bridge) → Idle [] rest b → Facts [] rest [] (suc m) (absent (command (0xB4 ∷ []) b))
absent_facts rest m b t =
    record {
      listed = refl;
      used = omega arith;
      whole = ap₂ ◌&&◌ (sym (le-leb 1 (suc m) (omega arith))) (sym (leb-zero (suc m)));
      holds = holds_command (0xB4 ∷ []) b t.holds;
      closing = λ p x e. absurd (no_snoc p x e);
    }

-- with no probe there is no presence
search_absent : (m : ℕ) (b : Bridge) → b.line.count ≡ 0 → search (suc m) b ≡ absent (command (0xB4 ∷ []) (command (0xF0 ∷ []) b))
unfolding search
search_absent m b none =
    searched_absent m 0 None (command (0xF0 ∷ []) b)
    (reset_ppd (command (0xF0 ∷ []) b) (ap (λ (r : Bridge). r.registers.pending) (command_device_reset b))
    (ap (λ (r : Bridge). speed_of r.registers) (command_device_reset b))
    ∙ ap (λ (r : Bridge). ltb 0 r.line.count) (command_device_reset b)
    ∙ le-ltb 0 b.line.count (omega arith))

-- ---- some probes

outcome_facts : (ids : List ℕ) (rest : Rest) (l : List ℕ) (m : ℕ) (b : Bridge) (r : Result) → 0 < length l → Outcome ids rest l (suc m) b r → Facts ids rest l (suc m) r
outcome_facts ids rest l m b r pos o =
    record {
      listed = o.listed;
      used = omega (arith, o.used);
      whole = o.whole ∙ ap (λ (t : Bool). t && leb (length l) (suc m)) (sym (le-leb 1 (suc m) (omega arith)));
      holds = o.idle.holds;
      closing = λ p x e. (o.closing p x e, o.idle.idle, o.idle.speed);
    }

search_some : (i : ℕ) (ids : List ℕ) (rest : Rest) (m : ℕ) (b : Bridge) → Holds (i ∷ ids) rest b.line → Facts (i ∷ ids) rest (sorted (i ∷ ids)) (suc m) (search (suc m) b)
unfolding search
search_some i ids rest m b h =
    let passes = first_pass (i ∷ ids) (has_some i ids) in
    outcome_facts (i ∷ ids) rest (sorted (i ∷ ids)) m (command (0xF0 ∷ []) b)
    (searched (suc m) 0 None (command (0xF0 ∷ []) b)) (sequences_some passes)
    (searched_outcome (i ∷ ids) rest (has_some i ids) 0 None passes (suc m) (command (0xF0 ∷ []) b) (started b h))

-- ---- every search

module _ (ids : List ℕ) (rest : Rest) (b : Bridge) (h : Holds ids rest b.line) (none : ids ≡ [] → b.line.count ≡ 0) where
  pub search_facts : (m : ℕ) → Facts ids rest (sorted ids) m (search m b)
  search_facts zero = none_allowed ids rest (sorted ids) b h
  search_facts (suc m) = go ids h none
    where
      go : (ids : List ℕ) → Holds ids rest b.line → (ids ≡ [] → b.line.count ≡ 0) → Facts ids rest (sorted ids) (suc m) (search (suc m) b)
      go [] h none =
          subst⁻¹ (λ (l : List ℕ). Facts [] rest l (suc m) (search (suc m) b)) sorted_none
          (subst⁻¹ (Facts [] rest [] (suc m)) (search_absent m b (none refl))
          (absent_facts rest m (command (0xF0 ∷ []) b) (started b h)))
      go (i ∷ ids) h none = search_some i ids rest m b h

  -- as many passes as there are IDs, and one, are enough
  pub search_enough : (m n : ℕ) → 0 < m → 0 < n → length ids ≤ m → length ids ≤ n → search m b ≡ search n b
  unfolding search
  search_enough zero n p q f g = absurd (omega arith)
  search_enough (suc m) zero p q f g = absurd (omega arith)
  search_enough (suc m) (suc n) p q f g = go ids h none f g
    where
      go : (ids : List ℕ) → Holds ids rest b.line → (ids ≡ [] → b.line.count ≡ 0) → length ids ≤ suc m → length ids ≤ suc n → search (suc m) b ≡ search (suc n) b
      go [] h none f g = search_absent m b (none refl) ∙ sym (search_absent n b (none refl))
      go (i ∷ ids) h none f g =
          searched_enough (i ∷ ids) rest (has_some i ids) 0 None (first_pass (i ∷ ids) (has_some i ids)) (suc m) (suc n)
          (omega (arith, sorted_short (i ∷ ids))) (omega (arith, sorted_short (i ∷ ids))) (command (0xF0 ∷ []) b)
          (started b h)

-- ---- any line with a table, reached or not

module _ (b : Bridge) (table : 0 < length b.line.probes) where
  rest_of : Rest
  rest_of = (line_of_parts b.line).0

  held : Holds (ids_of b.line) rest_of b.line
  unfolding ids_of rest_of
  held = record { probes = fitted b.line; line = (line_of_parts b.line).1; same = refl }

  ids_length : length (ids_of b.line) ≡ min b.line.count (length b.line.probes)
  unfolding ids_of fitted
  ids_length = length-map (take b.line.count b.line.probes) id_of ∙ length-take b.line.count b.line.probes

  none_held : ids_of b.line ≡ [] → b.line.count ≡ 0
  none_held e = omega (arith, ids_length, ap length e)

  -- more passes than 64 do what 64 do
  pub search_capped : length b.line.probes ≤ 64 → (m : ℕ) → search m b ≡ search (min m 64) b
  search_capped few m = go (dec_le m 64)
    where
      go : Dec (m ≤ 64) → search m b ≡ search (min m 64) b
      go (yes h) = ap (λ (n : ℕ). search n b) (sym (min-eq_left h))
      go (no h) =
          search_enough (ids_of b.line) rest_of b held none_held m 64 (omega arith) (lit< tt)
          (omega (arith, ids_length)) (omega (arith, ids_length))
          ∙ ap (λ (n : ℕ). search n b) (sym (min-eq_right (omega arith)))
