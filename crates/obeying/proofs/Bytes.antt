-- Eight levels are a byte.
--   levels_byte      the levels of a byte, gathered, are the byte
--   Waits s ls c     the chip c waits before each of the levels ls; waits_take, before one of them
--   hearing_then     two lists of levels, one after the other
--   Heard s ls c e   after the levels ls the chip c is e, and it waited until the last of them; heard_then, two lists of levels
--   gathers p        at the place p a byte of a packet is gathered
--   byte_heard       the levels of a byte, heard at such a place
use mathlib.Core.Path.{◌≡◌, refl, sym, ap, subst, ◌∙◌}
use mathlib.Core.Bool.{Bool, true, false, false≢true}
use mathlib.Core.List.{List, [], ◌∷◌, ◌++◌}
use Prim.Native.Nat.{ℕ, zero, suc, ◌+◌, ◌*◌, ◌/◌, ◌%◌, ◌^◌, ◌<◌}
use native.Mathlib.Omega.{arith}
use borrow.Author.Tests.{le-leb, lt-leb, eqb-true, eqb-false}
use lib.Dec.{eqb, leb}
use lib.ListN.{length, take}
use Rattle.identity.specs.Identity.{bit_of}
use Rattle.probe.specs.Probe.{digit}
use Rattle.chip.specs.declared.Sensor.{Sensor}
use Rattle.chip.specs.declared.Place.{Place}
use Rattle.chip.specs.declared.Place.TheVariants.{Code, Address, Count, First, Later, Reads, Seal, SealEnd, Answering, Silent, Over}
use Rattle.chip.specs.declared.Asked.{Asked}
use Rattle.chip.specs.declared.Chip.{Chip}
use Rattle.chip.specs.Chip.{next_at, with_packet, took_at, took_byte, whole, with_level, gathered, sends_in, sends, heard_in, heard, over_at, is_over}
use Rattle.obeying.specs.Obeying.{levels_of, hearing, Waiting}

-- ---- the levels of a byte

digit_odd : (m : ℕ) → digit (eqb (m % 2) 1) ≡ m % 2
digit_odd m = go (eqb (m % 2) 1) refl
  where
    go : (t : Bool) → eqb (m % 2) 1 ≡ t → digit t ≡ m % 2
    go true e = sym (eqb-true (m % 2) 1 e)
    go false e = omega (arith, eqb-false (m % 2) 1 e)

digit_bit : (x k : ℕ) → digit (bit_of x k) ≡ x / 2 ^ k % 2
unfolding bit_of
digit_bit x k = digit_odd (x / 2 ^ k)

-- each level moves the earlier ones down
moved : (v w d u : ℕ) → v ≡ 2 * w → w + 128 * d ≡ u → v / 2 + 128 * d ≡ u
moved v w d u e f = omega arith

eight_moved : (a b c d e f g h : ℕ) → (((((((0 / 2 + 128 * a) / 2 + 128 * b) / 2 + 128 * c) / 2 + 128 * d) / 2 + 128 * e) / 2 + 128 * f) / 2 + 128 * g) / 2 + 128 * h ≡ a + 2 * (b + 2 * (c + 2 * (d + 2 * (e + 2 * (f + 2 * (g + 2 * h))))))
eight_moved a b c d e f g h =
    moved _ (a + 2 * b + 4 * c + 8 * d + 16 * e + 32 * f + 64 * g) h _
    (moved _ (2 * a + 4 * b + 8 * c + 16 * d + 32 * e + 64 * f) g _
    (moved _ (4 * a + 8 * b + 16 * c + 32 * d + 64 * e) f _
    (moved _ (8 * a + 16 * b + 32 * c + 64 * d) e _
    (moved _ (16 * a + 32 * b + 64 * c) d _
    (moved _ (32 * a + 64 * b) c _
    (moved _ (64 * a) b _
    (moved 0 0 a _ (omega arith) (omega arith)) (omega arith)) (omega arith)) (omega arith)) (omega arith)) (omega arith)) (omega arith)) (omega arith)

-- a number is its low bit and twice its half
split : (m n w : ℕ) → m / 2 ≡ n → w ≡ n → m % 2 + 2 * w ≡ m
split m n w e f = omega arith

-- a byte is its bits
eight_bits : (x : ℕ) → x < 256 → x / 1 % 2 + 2 * (x / 2 % 2 + 2 * (x / 4 % 2 + 2 * (x / 8 % 2 + 2 * (x / 16 % 2 + 2 * (x / 32 % 2 + 2 * (x / 64 % 2 + 2 * (x / 128 % 2))))))) ≡ x
eight_bits x h =
    split (x / 1) (x / 2) _ (omega arith)
    (split (x / 2) (x / 4) _ (omega arith)
    (split (x / 4) (x / 8) _ (omega arith)
    (split (x / 8) (x / 16) _ (omega arith)
    (split (x / 16) (x / 32) _ (omega arith)
    (split (x / 32) (x / 64) _ (omega arith)
    (split (x / 64) (x / 128) _ (omega arith) (omega arith)))))))
    ∙ omega arith

-- levels that are gathered one by one
abbrev gathering : List Bool → ℕ → ℕ
gathering [] b = b
gathering (l ∷ ls) b = gathering ls (with_level l b)

pub levels_byte : (x : ℕ) → x < 256 → gathering (levels_of (x ∷ [])) 0 ≡ x
unfolding levels_of
levels_byte x h = simp digit_bit (eight_moved _ _ _ _ _ _ _ _ ∙ eight_bits x h)

-- ---- levels, one after the other

pub Waits : Sensor → List Bool → Chip → Type 0
Waits s [] c = Unit {0}
Waits s (l ∷ ls) c = Waiting s c × Waits s ls (heard l c)

waits_then : (s : Sensor) (ls ms : List Bool) (c : Chip) → Waits s ls c → Waits s ms (hearing ls c) → Waits s (ls ++ ms) c
unfolding hearing Waits
waits_then s [] ms c w v = v
waits_then s (l ∷ ls) ms c w v = (w.0, waits_then s ls ms (heard l c) w.1 v)

pub waits_take : (s : Sensor) (ls : List Bool) (c : Chip) → Waits s ls c → (n : ℕ) → n < length ls → Waiting s (hearing (take n ls) c)
unfolding hearing Waits
waits_take s [] c w n h = absurd (omega arith)
waits_take s (l ∷ ls) c w zero h = w.0
waits_take s (l ∷ ls) c w (suc n) h = waits_take s ls (heard l c) w.1 n (omega arith)

pub hearing_then : (ls ms : List Bool) (c : Chip) → hearing (ls ++ ms) c ≡ hearing ms (hearing ls c)
unfolding hearing
hearing_then [] ms c = refl
hearing_then (l ∷ ls) ms c = hearing_then ls ms (heard l c)

pub record Heard (s : Sensor) (ls : List Bool) (c e : Chip) : Type 0 where
  pub waits : Waits s ls c
  pub ends : hearing ls c ≡ e

pub heard_then : (s : Sensor) (ls ms : List Bool) (c d e : Chip) → Heard s ls c d → Heard s ms d e → Heard s (ls ++ ms) c e
heard_then s ls ms c d e f g =
    record {
      waits = waits_then s ls ms c f.waits (subst (λ (k : Chip). Waits s ms k) (sym f.ends) g.waits);
      ends = hearing_then ls ms c ∙ ap (hearing ms) f.ends ∙ g.ends;
    }

-- ---- a byte

abbrev pub gathers : Place → Bool
gathers Code = true
gathers Address = true
gathers Count = true
gathers First = true
gathers Later = true
gathers Reads = true
gathers Seal = true
gathers (SealEnd low) = true
gathers (Answering t n) = false
gathers Silent = false
gathers Over = false

module _ (c : Chip) (a : Asked) where
  -- at the place p, with n bits of the next byte, which make up b of it
  abbrev gathering_at : Place → ℕ → ℕ → Chip
  gathering_at p n b = with_packet (record { place = p; bits = n; byte = b; asked = a }) c

  -- at each of these places a chip waits and does the same with a level, and a byte that is whole is that place's
  record Alike (p : Place) (n b : ℕ) : Type 0 where
    pub ones : sends (gathering_at p n b) ≡ true
    pub awake : is_over (gathering_at p n b) ≡ false
    pub level : (l : Bool) → heard l (gathering_at p n b) ≡ gathered l (gathering_at p n b)
    pub byte : (x : ℕ) → took_byte x (gathering_at p n b) ≡ took_at p x (gathering_at p 0 0)

  alike : (p : Place) → gathers p ≡ true → (n b : ℕ) → Alike p n b
  unfolding heard heard_in sends sends_in is_over over_at took_byte took_at whole
  alike Code g n b = record { ones = refl; awake = refl; level = λ l. refl; byte = λ x. refl }
  alike Address g n b = record { ones = refl; awake = refl; level = λ l. refl; byte = λ x. refl }
  alike Count g n b = record { ones = refl; awake = refl; level = λ l. refl; byte = λ x. refl }
  alike First g n b = record { ones = refl; awake = refl; level = λ l. refl; byte = λ x. refl }
  alike Later g n b = record { ones = refl; awake = refl; level = λ l. refl; byte = λ x. refl }
  alike Reads g n b = record { ones = refl; awake = refl; level = λ l. refl; byte = λ x. refl }
  alike Seal g n b = record { ones = refl; awake = refl; level = λ l. refl; byte = λ x. refl }
  alike (SealEnd low) g n b = record { ones = refl; awake = refl; level = λ l. refl; byte = λ x. refl }
  alike (Answering t m) g n b = absurd (false≢true g)
  alike Silent g n b = absurd (false≢true g)
  alike Over g n b = absurd (false≢true g)

  waiting : (p : Place) → gathers p ≡ true → (n b : ℕ) → Waiting c.sensor (gathering_at p n b)
  waiting p g n b = let k = alike p g n b in record { ones = k.ones; awake = k.awake; kept = refl }

  -- the levels up to the eighth
  rest_heard : (p : Place) → gathers p ≡ true → (l : Bool) (ls : List Bool) (n b : ℕ) → n + length (l ∷ ls) ≡ 8 → Heard c.sensor (l ∷ ls) (gathering_at p n b) (took_at p (gathering (l ∷ ls) b) (gathering_at p 0 0))
  unfolding hearing Waits gathered
  rest_heard p g l [] n b h =
      let k = alike p g n b in
      let full : leb 7 n ≡ true = le-leb 7 n (omega arith) in
      record { waits = (waiting p g n b, tt); ends = k.level l ∙ simp full (k.byte (with_level l b)) }
  rest_heard p g l (m ∷ ls) n b h =
      let k = alike p g n b in
      let more : leb 7 n ≡ false = lt-leb 7 n (omega arith) in
      let next : heard l (gathering_at p n b) ≡ gathering_at p (n + 1) (with_level l b) = k.level l ∙ simp more in
      let r = rest_heard p g m ls (n + 1) (with_level l b) (omega arith) in
      record {
        waits = (waiting p g n b, subst (λ (d : Chip). Waits c.sensor (m ∷ ls) d) (sym next) r.waits);
        ends = ap (hearing (m ∷ ls)) next ∙ r.ends;
      }

  pub byte_heard : (p : Place) → gathers p ≡ true → (x : ℕ) → x < 256 → Heard c.sensor (levels_of (x ∷ [])) (with_packet (next_at p a) c) (took_at p x (with_packet (next_at p a) c))
  unfolding levels_of
  byte_heard p g x h =
      subst (λ (y : ℕ). Heard c.sensor (levels_of (x ∷ [])) (gathering_at p 0 0) (took_at p y (gathering_at p 0 0))) (levels_byte x h)
      (rest_heard p g _ _ 0 0 refl)
