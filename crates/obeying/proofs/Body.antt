-- The bytes of a packet, one after the other.
--   Taken s c e     after the bytes s the chip c is e, and it waited until the last of their slots
--   crc_from_then   the CRC of two lists, one behind the other
--   asking          what has been asked so far
--   at_place        a chip at a place of its packet
--   taken_then      one byte, and then others; last_taken, one byte and no other
--   data_taken      the data, behind which other bytes come
--   code_taken      each other byte, behind which others come; address_taken, length_taken, count_taken, reads_taken
--   seal_taken      the two last
use mathlib.Core.Path.{◌≡◌, refl, subst}
use mathlib.Core.Bool.{true, false, cond}
use mathlib.Core.List.{List, [], ◌∷◌, ◌++◌}
use Prim.Native.Nat.{ℕ, suc, ◌-◌, ◌<◌, ◌≤◌}
use native.Mathlib.Omega.{arith}
use borrow.Author.Tests.{lt-leb, ne_eqb}
use lib.Dec.{eqb, leb}
use lib.ListN.{length}
use Rattle.checksum.specs.Register.{taps16, entered, crc_from}
use Rattle.chip.specs.declared.Sensor.{Sensor}
use Rattle.chip.specs.declared.Place.{Place}
use Rattle.chip.specs.declared.Place.TheVariants.{Code, Address, Count, First, Later, Reads, Seal, SealEnd}
use Rattle.chip.specs.declared.Asked.{Asked}
use Rattle.chip.specs.declared.Chip.{Chip}
use Rattle.chip.specs.Sensor.{pointed_to, stored_one, stored, written}
use Rattle.chip.specs.Chip.{next_at, with_packet, is_code, took_code, took_address, took_reads, took_length, took_count, took_data, whole, took_at}
use Rattle.obeying.specs.Obeying.{Bytes, levels_of}
use Rattle.obeying.proofs.Bytes.{Heard, heard_then, gathers, byte_heard}

-- ---- bytes

-- levels of bytes
abbrev pub Taken : List ℕ → Chip → Chip → Type 0
Taken s c e = Heard c.sensor (levels_of s) c e

pub crc_from_then : (p r : ℕ) (s t : List ℕ) → crc_from p r (s ++ t) ≡ crc_from p (crc_from p r s) t
unfolding crc_from
crc_from_then p r [] t = refl
crc_from_then p r (x ∷ s) t = crc_from_then p (entered p r x) s t

-- what has been asked
abbrev pub asking : ℕ → ℕ → ℕ → ℕ → ℕ → Sensor → Asked
asking k y n r v m = record { code = k; address = y; left = n; reads = r; crc = v; meant = m }

module _ (c : Chip) where
  abbrev pub at_place : Place → Asked → Chip
  at_place p a = with_packet (next_at p a) c

  pub taken_then : (x : ℕ) (s : List ℕ) (p r : Place) (a b : Asked) (e : Chip) → gathers p ≡ true → x < 256 → took_at p x (at_place p a) ≡ at_place r b → Taken s (at_place r b) e → Taken (x ∷ s) (at_place p a) e
  unfolding levels_of
  taken_then x s p r a b e g h t f =
      heard_then c.sensor (levels_of (x ∷ [])) (levels_of s) (at_place p a) (at_place r b) e
      (subst (λ (d : Chip). Heard c.sensor (levels_of (x ∷ [])) (at_place p a) d) t (byte_heard c a p g x h)) f

  -- ---- the data

  -- what comes behind the data
  abbrev pub behind : ℕ → Place
  behind k = cond (eqb k 0x2D) Reads Seal

  -- a data byte that is not the last
  data_more : (k y n r v : ℕ) (m o : Sensor) → with_packet (took_data o (asking k y (suc (suc n)) r v m)) c ≡ at_place Later (asking k y (suc n) r v o)
  unfolding took_data
  data_more k y n r v m o =
      let more : leb (suc (suc n)) 1 ≡ false = lt-leb (suc (suc n)) 1 (omega arith) in
      let less : suc (suc n) - 1 ≡ suc n = omega arith in
      simp (more, less)

  later_taken : (x : ℕ) (d s : List ℕ) (k y r v : ℕ) (m : Sensor) (e : Chip) → Bytes (x ∷ d) → Taken s (at_place (behind k) (asking k y 0 r (crc_from taps16 v (x ∷ d)) (stored (x ∷ d) m))) e → Taken (x ∷ (d ++ s)) (at_place Later (asking k y (length (x ∷ d)) r v m)) e
  unfolding crc_from stored took_at took_data
  later_taken x [] s k y r v m e byte f =
      taken_then x s Later (behind k) _ _ e refl (byte 0) refl f
  later_taken x (z ∷ d) s k y r v m e byte f =
      taken_then x (z ∷ d ++ s) Later Later _ _ e refl (byte 0) (data_more k y (length d) r (entered taps16 v x) m (stored_one x m))
      (later_taken z d s k y r (entered taps16 v x) (stored_one x m) e (λ i. byte (suc i)) f)

  pub data_taken : (x : ℕ) (d s : List ℕ) (k y r v : ℕ) (m : Sensor) (e : Chip) → Bytes (x ∷ d) → Taken s (at_place (behind k) (asking k y 0 r (crc_from taps16 v (x ∷ d)) (written (x ∷ d) m))) e → Taken (x ∷ (d ++ s)) (at_place First (asking k y (length (x ∷ d)) r v m)) e
  unfolding crc_from stored written took_at took_data
  data_taken x [] s k y r v m e byte f = taken_then x s First (behind k) _ _ e refl (byte 0) refl f
  data_taken x (z ∷ d) s k y r v m e byte f =
      taken_then x (z ∷ d ++ s) First Later _ _ e refl (byte 0) (data_more k y (length d) r (entered taps16 v x) m (pointed_to x m))
      (later_taken z d s k y r (entered taps16 v x) (pointed_to x m) e (λ i. byte (suc i)) f)

  -- ---- the other bytes

  pub code_taken : (x : ℕ) (s : List ℕ) (v : ℕ) (m : Sensor) (e : Chip) → x < 256 → is_code x ≡ true → Taken s (at_place Address (asking x 0 0 0 (entered taps16 v x) m)) e → Taken (x ∷ s) (at_place Code (asking 0 0 0 0 v m)) e
  unfolding took_at took_code
  code_taken x s v m e h g f = taken_then x s Code Address _ _ e refl h (simp g) f

  pub address_taken : (y : ℕ) (s : List ℕ) (k v : ℕ) (m : Sensor) (e : Chip) → y < 256 → Taken s (at_place Count (asking k y 0 0 (entered taps16 v y) m)) e → Taken (y ∷ s) (at_place Address (asking k 0 0 0 v m)) e
  unfolding took_at took_address
  address_taken y s k v m e h f = taken_then y s Address Count _ _ e refl h refl f

  -- a count that is not zero
  positive : (n : ℕ) → 1 ≤ n → eqb n 0 ≡ false
  positive n h = ne_eqb n 0 (omega arith)

  pub length_taken : (n : ℕ) (s : List ℕ) (k y v : ℕ) (m : Sensor) (e : Chip) → 1 ≤ n → n < 256 → eqb k 0x87 ≡ false → Taken s (at_place First (asking k y n 0 (entered taps16 v n) m)) e → Taken (n ∷ s) (at_place Count (asking k y 0 0 v m)) e
  unfolding took_at took_count took_length
  length_taken n s k y v m e p h g f = taken_then n s Count First _ _ e refl h (simp (g, positive n p)) f

  pub count_taken : (r : ℕ) (s : List ℕ) (y v : ℕ) (m : Sensor) (e : Chip) → 1 ≤ r → r < 256 → Taken s (at_place Seal (asking 0x87 y 0 r (entered taps16 v r) m)) e → Taken (r ∷ s) (at_place Count (asking 0x87 y 0 0 v m)) e
  unfolding took_at took_count took_reads
  count_taken r s y v m e p h f = taken_then r s Count Seal _ _ e refl h (simp (positive r p)) f

  pub reads_taken : (r : ℕ) (s : List ℕ) (k y v : ℕ) (m : Sensor) (e : Chip) → 1 ≤ r → r < 256 → Taken s (at_place Seal (asking k y 0 r (entered taps16 v r) m)) e → Taken (r ∷ s) (at_place Reads (asking k y 0 0 v m)) e
  unfolding took_at took_reads
  reads_taken r s k y v m e p h f = taken_then r s Reads Seal _ _ e refl h (simp (positive r p)) f

  -- the last of the bytes
  pub last_taken : (x : ℕ) (p : Place) (a : Asked) (e : Chip) → gathers p ≡ true → x < 256 → took_at p x (at_place p a) ≡ e → Taken (x ∷ []) (at_place p a) e
  last_taken x p a e g h t = subst (λ (d : Chip). Taken (x ∷ []) (at_place p a) d) t (byte_heard c a p g x h)

  pub seal_taken : (low high : ℕ) (a : Asked) → low < 256 → high < 256 → Taken (low ∷ high ∷ []) (at_place Seal a) (whole low high (at_place (SealEnd low) a))
  unfolding took_at
  seal_taken low high a l h =
      taken_then low (high ∷ []) Seal (SealEnd low) _ _ _ refl l refl (last_taken high (SealEnd low) a _ refl h refl)
