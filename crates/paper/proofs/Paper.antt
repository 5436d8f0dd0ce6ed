-- Every case of the table holds. Most compute.
use Prim.Native.Nat.{ℕ, zero, suc, ◌<◌}
use mathlib.Core.List.Memᴰ
use mathlib.Core.List.{[], ◌∷◌}
use mathlib.Core.Path.{◌≡◌, refl, subst⁻¹}
use native.Mathlib.Omega.{arith}
use Rattle.checksum.specs.Register.{crc8_of, crc16_of, crc_from, entered, shifts, shifted, taps, taps8, taps16}
use Rattle.identity.specs.Identity.{number_of, bit_of, crc_right, family_of, refusal_of}
use Rattle.line.specs.declared.Line.{Line}
use Rattle.line.specs.Line.{fit_number}
use Rattle.enumeration.specs.Order.{Before, Among, InOrder}
use Rattle.packet.specs.Request.{read, body_of, inverted_of, seal_of, packet_of}
use Rattle.reading.specs.Reading.{is_unknown, wanted_of, zero_count, parts_in, form_of, is_sealed, checked, reading_of, Refuses}
use Rattle.paper.proofs.Wire.{p9_refused, p9_accepted, p9_read, p10, p11}
use Rattle.paper.specs.Paper.{Paper, a, b, c}

p1 : crc8_of (0x02 ∷ 0x1C ∷ 0xB8 ∷ 0x01 ∷ 0 ∷ 0 ∷ 0 ∷ []) ≡ 0xA2
unfolding crc8_of crc_from entered shifts shifted taps8 taps
p1 = refl

p2 : crc8_of (0x19 ∷ 0x01 ∷ 0 ∷ 0 ∷ 0 ∷ 0 ∷ 0 ∷ []) ≡ 0x00
unfolding crc8_of crc_from entered shifts shifted taps8 taps
p2 = refl

p3 : crc8_of (0x19 ∷ 0x02 ∷ 0 ∷ 0 ∷ 0 ∷ 0 ∷ 0 ∷ []) ≡ 0x59
unfolding crc8_of crc_from entered shifts shifted taps8 taps
p3 = refl

p4 : (crc8_of (0 ∷ 0 ∷ 0 ∷ 0 ∷ 0 ∷ 0 ∷ 0 ∷ []) ≡ 0) × ((l : Line) → fit_number (0 ∷ 0 ∷ 0 ∷ 0 ∷ 0 ∷ 0 ∷ 0 ∷ 0 ∷ []) l ≡ 3)
unfolding fit_number refusal_of crc_right family_of crc8_of crc_from entered shifts shifted taps8 taps
p4 = (refl, λ l. refl)

-- B and A are alike in the eight bits of their family
alike : (k : ℕ) → k < 8 → bit_of (number_of b) k ≡ bit_of (number_of a) k
unfolding bit_of number_of
alike zero h = refl
alike (suc zero) h = refl
alike (suc (suc zero)) h = refl
alike (suc (suc (suc zero))) h = refl
alike (suc (suc (suc (suc zero)))) h = refl
alike (suc (suc (suc (suc (suc zero))))) h = refl
alike (suc (suc (suc (suc (suc (suc zero)))))) h = refl
alike (suc (suc (suc (suc (suc (suc (suc zero))))))) h = refl
alike (suc (suc (suc (suc (suc (suc (suc (suc k)))))))) h = absurd (omega arith)

c_before_b : Before (number_of c) (number_of b)
unfolding bit_of number_of
c_before_b =
    record { place = 0; within = omega arith; alike = λ k h. absurd (omega arith); first = refl; second = refl }

c_before_a : Before (number_of c) (number_of a)
unfolding bit_of number_of
c_before_a =
    record { place = 0; within = omega arith; alike = λ k h. absurd (omega arith); first = refl; second = refl }

b_before_a : Before (number_of b) (number_of a)
unfolding bit_of number_of
b_before_a = record { place = 8; within = omega arith; alike = alike; first = refl; second = refl }

-- the same three the other way round
turned : (x y z i : ℕ) → Among i (x ∷ y ∷ z ∷ []) → Among i (z ∷ y ∷ x ∷ [])
turned x y z i (Memᴰ.head e) = Memᴰ.tail (Memᴰ.tail (Memᴰ.head e))
turned x y z i (Memᴰ.tail (Memᴰ.head e)) = Memᴰ.tail (Memᴰ.head e)
turned x y z i (Memᴰ.tail (Memᴰ.tail m)) = Memᴰ.head (Memᴰ.eq_of_singleton m)

before_both : (x y z : ℕ) → Before z y → Before z x → (j : ℕ) → Among j (y ∷ x ∷ []) → Before z j
before_both x y z h k j (Memᴰ.head e) = subst⁻¹ (Before z) e h
before_both x y z h k j (Memᴰ.tail m) = subst⁻¹ (Before z) (Memᴰ.eq_of_singleton m) k

-- three IDs, each of which comes before all that stand in front of it
in_turn : (x y z : ℕ) → Before z y → Before z x → Before y x → InOrder (x ∷ y ∷ z ∷ []) (z ∷ y ∷ x ∷ [])
in_turn x y z zy zx yx =
    record {
      rising = (
        before_both x y z zy zx,
        (λ j m. subst⁻¹ (Before y) (Memᴰ.eq_of_singleton m) yx, (λ j m. absurd (Memᴰ.not-nil m), tt)),
      );
      all = turned x y z;
      only = turned z y x;
      once = refl;
    }

p6 : packet_of (read 0x20 2) ≡ 0x87 ∷ 0x41 ∷ 0x02 ∷ 0xFE ∷ 0x47 ∷ []
unfolding packet_of body_of seal_of inverted_of crc16_of crc_from entered shifts shifted taps16 taps
p6 = refl

p7 : Refuses (reading_of (0x87 ∷ 0x41 ∷ 0x02 ∷ 0xFE ∷ 0x46 ∷ [])) 14 0
unfolding reading_of checked form_of is_unknown wanted_of zero_count parts_in is_sealed inverted_of crc16_of crc_from entered shifts shifted taps16 taps
p7 = (refl, refl)

p8 : (x y : ℕ) → Refuses (reading_of (0x87 ∷ 0x41 ∷ 0x00 ∷ x ∷ y ∷ [])) 18 2
unfolding reading_of checked form_of is_unknown wanted_of zero_count
p8 x y = (refl, refl)

pub paper : Paper
paper =
    record {
      p1 = p1;
      p2 = p2;
      p3 = p3;
      p4 = p4;
      p5 = in_turn (number_of a) (number_of b) (number_of c) c_before_b c_before_a b_before_a;
      p6 = p6;
      p7 = p7;
      p8 = p8;
      p9 = λ s free. (p9_refused s free, p9_accepted s free, p9_read s free);
      p10 = p10;
      p11 = p11;
    }
