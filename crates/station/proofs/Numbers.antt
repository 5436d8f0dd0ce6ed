-- What fitting a chip and withdrawing answer.
--   has_room          where a fitting is accepted there is room
--   never_id, never_zero     no refusal has the number 0
--   chip_wrong, chip_family, chip_place, chip_address, chip_done     the number of a fitting, check by check
--   chip_left         a refused one leaves the station; chip_fitted, an accepted one
--   removal_left, removal_done     the same of a withdrawal
--   fittings, removals     what the two contracts rest on
use mathlib.Core.Path.{◌≡◌, refl, sym, ap, ◌∙◌}
use mathlib.Core.Bool.{Bool, true, false, cond}
use mathlib.Core.List.{List}
use Prim.Native.Nat.{ℕ, ◌<◌, ◌≤◌}
use native.Mathlib.Omega.{arith}
use lib.Dec.{leb}
use borrow.Author.Tests.{eq-eqb, ne_eqb, le-leb, lt-leb, leb-false}
use Rattle.identity.specs.declared.Refusal.{Refusal as WrongID}
use Rattle.identity.specs.declared.Refusal.TheVariants as wrong
use Rattle.identity.specs.Identity.{number_of, family_of, refusal_of, number_returned as id_number}
use lib.ListN.{get_or}
use Rattle.line.specs.declared.Line.{Line as OneWire}
use Rattle.line.specs.Line.{is_fitted, place_number, fit_number, of_identity, number_returned as line_number}
use Rattle.withdrawal.specs.Withdrawal.{withdraw_number}
use Rattle.bridge.specs.declared.Bridge.{Bridge}
use Rattle.bridge.proofs.Results.{never_refused, never_withdrawn}
use Rattle.bridge.specs.Bridge.{after_fitting, after_withdrawal}
use Rattle.wire.specs.Wire.{chips_without}
use Rattle.station.specs.declared.Station.{Station}
use Rattle.station.specs.declared.Refusal.{Refusal}
use Rattle.station.specs.declared.Refusal.TheVariants.{Line, Family, Address}
use Rattle.station.specs.Station.{number_returned, chip_number, with_chip, after_chip, after_removal}

placed : (x : List ℕ) (l : OneWire) → refusal_of x ≡ 0 → fit_number x l ≡ place_number (number_of x) l
unfolding fit_number
placed x l e = ap (λ (t : Bool). cond t (place_number (number_of x) l) (refusal_of x)) (eq-eqb (refusal_of x) 0 e)

pub has_room : (x : List ℕ) (l : OneWire) → refusal_of x ≡ 0 → fit_number x l ≡ 0 → l.count < 64
unfolding place_number
has_room x l e f = go (is_fitted (number_of x) l) (leb 64 l.count) refl (sym (placed x l e) ∙ f)
  where
    go : (s t : Bool) → leb 64 l.count ≡ t → ◌≡◌ {A = ℕ} (cond s 4 (cond t 1 0)) 0 → l.count < 64
    go true t q h = absurd (omega arith)
    go false true q h = absurd (omega arith)
    go false false q h = leb-false 64 l.count q

-- No refusal has the number 0, and what refuses an ID by itself has the same number for the line.
pub never_id : (e : WrongID) → 0 < id_number e
never_id wrong.Crc = omega arith
never_id wrong.Family = omega arith

pub of_line : (e : WrongID) → line_number (of_identity e) ≡ id_number e
of_line wrong.Crc = refl
of_line wrong.Family = refl

pub never_zero : (e : Refusal) → 0 < number_returned e
never_zero (Line e) = never_refused e
never_zero Family = omega arith
never_zero Address = omega arith

module _ (x : List ℕ) (a : ℕ) (b : Bridge) where
  pub chip_wrong : 0 < refusal_of x → chip_number x a b ≡ refusal_of x
  unfolding chip_number
  chip_wrong h = simp (ne_eqb (refusal_of x) 0 (λ z. omega (arith, h, z))) refl

  module _ (right : refusal_of x ≡ 0) where
    pub chip_family : (get_or x 0 0 ≡ 0x19 → ⊥) → chip_number x a b ≡ 21
    unfolding chip_number family_of
    chip_family h = simp (eq-eqb (refusal_of x) 0 right, ne_eqb (get_or x 0 0) 0x19 h) refl

    module _ (family : get_or x 0 0 ≡ 0x19) where
      pub chip_place : 0 < fit_number x b.line → chip_number x a b ≡ fit_number x b.line
      unfolding chip_number family_of
      chip_place h =
          let at = placed x b.line right in
          let taken = ne_eqb (place_number (number_of x) b.line) 0 (λ z. omega (arith, h, at, z)) in
          simp (eq-eqb (refusal_of x) 0 right, eq-eqb (get_or x 0 0) 0x19 family, taken) (sym at)

      module _ (free : fit_number x b.line ≡ 0) where
        pub chip_address : 128 ≤ a → chip_number x a b ≡ 22
        unfolding chip_number family_of
        chip_address h =
            let at = eq-eqb (place_number (number_of x) b.line) 0 (sym (placed x b.line right) ∙ free) in
            simp (eq-eqb (refusal_of x) 0 right, eq-eqb (get_or x 0 0) 0x19 family, at, lt-leb a 127 (omega (arith, h))) refl

        pub chip_done : a < 128 → chip_number x a b ≡ 0
        unfolding chip_number family_of
        chip_done h =
            let at = eq-eqb (place_number (number_of x) b.line) 0 (sym (placed x b.line right) ∙ free) in
            simp (eq-eqb (refusal_of x) 0 right, eq-eqb (get_or x 0 0) 0x19 family, at, le-leb a 127 (omega (arith, h))) refl

module _ (x : List ℕ) (a : ℕ) (s : Station) where
  pub chip_left : 0 < chip_number x a s.bridge → after_chip x a s ≡ s
  unfolding after_chip
  chip_left h = simp (ne_eqb (chip_number x a s.bridge) 0 (λ z. omega (arith, h, z))) refl

  pub chip_fitted : chip_number x a s.bridge ≡ 0
      → ◌≡◌ {A = Station} (after_chip x a s) (record { bridge = after_fitting x s.bridge; chips = with_chip s.bridge.line.count a s.chips })
  unfolding after_chip
  chip_fitted e = simp (eq-eqb (chip_number x a s.bridge) 0 e) refl

module _ (x : List ℕ) (s : Station) where
  pub removal_left : 0 < withdraw_number x s.bridge.line → after_removal x s ≡ s
  unfolding after_removal
  removal_left h = simp (ne_eqb (withdraw_number x s.bridge.line) 0 (λ z. omega (arith, h, z))) refl

  pub removal_done : withdraw_number x s.bridge.line ≡ 0
      → ◌≡◌ {A = Station} (after_removal x s) (record { bridge = after_withdrawal x s.bridge; chips = chips_without (number_of x) s.bridge.line s.chips })
  unfolding after_removal
  removal_done e = simp (eq-eqb (withdraw_number x s.bridge.line) 0 e) refl

-- What the contracts of a fitting and of a withdrawal rest on.
pub ruleset fittings = (has_room, never_id, of_line, never_refused, chip_wrong, chip_family, chip_place, chip_address, chip_done, chip_left, chip_fitted)

pub ruleset removals = (never_withdrawn, removal_left, removal_done)
