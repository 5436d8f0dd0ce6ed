-- The sentences of R-7: what the library forms is what the chip obeys.
--   from_start    a chip that is just selected is at the first place of its packet
--   whole_taken   the chip when its packet is whole, by the status
--   obeyed        status 0
--   refused       any other: spoilt, wrong_byte, strange
--   ignored       no status: unknown, no_count, no_reads
--   obeying       all the sentences
use mathlib.Core.Path.{◌≡◌, refl, sym, ap, ap₂, subst, ◌∙◌}
use mathlib.Core.Bool.{Bool, true, false, cond}
use mathlib.Core.List.{List, [], ◌∷◌, ◌++◌}
use Prim.Native.Nat.{ℕ, ◌+◌, ◌*◌, ◌-◌, ◌/◌, ◌%◌, ◌<◌, ◌≤◌}
use native.Mathlib.Omega.{arith}
use borrow.Author.Tests.{eq-eqb, ne_eqb}
use lib.Dec.{eqb, lit<}
use lib.ListN.{length}
use Rattle.checksum.specs.Register.{taps16, entered, crc16_of}
use Rattle.packet.specs.Request.{Request, write, read, write_read, body_of, inverted_of, seal_of, packet_of}
use Rattle.forming.specs.Forming.{good_count}
use Rattle.chip.specs.declared.Sensor.{Sensor}
use Rattle.chip.specs.declared.Place.TheVariants.{Code, Count, Reads, SealEnd, Answering, Over}
use Rattle.chip.specs.declared.Asked.{Asked}
use Rattle.chip.specs.declared.Packet.{Packet}
use Rattle.chip.specs.declared.Chip.{Chip}
use Rattle.chip.specs.Chip.{with_packet, emptied, status_for, sensor_for, whole, answer_of, is_over, over_at, is_code, took_at, took_code, took_count, took_reads, took_length}
use Rattle.chip.specs.Chip as chip
use Rattle.obeying.specs.Obeying.{done_by, answer_to, address_of, address_byte, code_of, Bytes, Fair, levels_of, hearing, JustSelected, Gathers, answer_in, Answers, Obeyed, status_alone, Refused, Ignored, addressed_by, Obeying}
use Rattle.obeying.proofs.Bytes.{Heard, waits_take}
use Rattle.obeying.proofs.Body.{Taken, asking, at_place, code_taken, address_taken, last_taken}
use Rattle.obeying.proofs.Packet.{asked_by, writing_taken, packet_taken}
use Rattle.obeying.proofs.Meaning.{inverted_lt, seal_right, seal_wrong, own_body, chip_byte, byte_lt, byte_inj, code_lt, code_known, done, answered}
use Rattle.obeying.proofs.Answer.{replied_past, replied_within, answers, never_over, over_stays}

-- ---- a chip that is just selected

from_start : (c : Chip) → JustSelected c → (s : List ℕ) (e : Chip) → Taken s (at_place c Code (asking 0 0 0 0 0 c.sensor)) e → Taken s c e
from_start c new s e f = subst (λ (d : Chip). Heard c.sensor (levels_of s) d e) (sym start) f
  where
    start : c ≡ at_place c Code (asking 0 0 0 0 0 c.sensor)
    start = ap (λ (k : Packet). with_packet k c) new

ready : (c : Chip) → JustSelected (emptied c)
unfolding emptied
ready c = refl

taken_gathers : (s : List ℕ) (c e : Chip) → Taken s c e → Gathers s c
taken_gathers s c e f n h = waits_take c.sensor (levels_of s) c f.waits n (omega arith)

-- ---- the packet is whole

abbrev with_sensor : Sensor → Chip → Chip
with_sensor s c = record { address = c.address; sensor = s; packet = c.packet }

-- the status of the body of q with the address byte y and two bytes behind it
abbrev status_of : Request → ℕ → ℕ → ℕ → Chip → ℕ
status_of q y low high c =
    status_for (eqb (low + 256 * high) (65535 - crc16_of (addressed_by y q))) (eqb y (chip.address_byte (code_of q) c.address))

whole_taken : (c : Chip) → JustSelected c → (q : Request) → Fair q → (y low high : ℕ) → y < 256 → low < 256 → high < 256 → (t : ℕ) → status_of q y low high c ≡ t → (s : Sensor) → sensor_for t (asked_by q y c.sensor) c.sensor ≡ s → Taken (addressed_by y q ++ low ∷ high ∷ []) c (at_place (with_sensor s c) (Answering t 0) (asked_by q y c.sensor))
unfolding whole
whole_taken c new q fair y low high yb lb hb t e s f =
    subst (λ (d : Chip). Taken (addressed_by y q ++ low ∷ high ∷ []) c d) ends
    (from_start c new (addressed_by y q ++ low ∷ high ∷ []) _ (packet_taken c q y low high fair yb lb hb))
  where
    ends : whole low high (at_place c (SealEnd low) (asked_by q y c.sensor)) ≡ at_place (with_sensor s c) (Answering t 0) (asked_by q y c.sensor)
    ends =
        ap (λ (k : ℕ). at_place (with_sensor (sensor_for k (asked_by q y c.sensor) c.sensor) c) (Answering k 0) (asked_by q y c.sensor)) e
        ∙ ap (λ (m : Sensor). at_place (with_sensor m c) (Answering t 0) (asked_by q y c.sensor)) f

-- the packet as the library forms it
formed : (q : Request) (P : List ℕ → Type 0) → P (addressed_by (address_byte q (address_of q)) q ++ seal_of (addressed_by (address_byte q (address_of q)) q)) → P (packet_of q)
unfolding packet_of
formed q P h = subst (λ (b : List ℕ). P (b ++ seal_of b)) (own_body q) h

-- ---- obeyed

own_status : (q : Request) (c : Chip) → address_of q ≡ c.address → let y = address_byte q (address_of q) in let n = inverted_of (addressed_by y q) in status_of q y (n % 256) (n / 256) c ≡ 0
unfolding status_for
own_status q c own = ap₂ status_for (seal_right _) (eq-eqb _ _ (ap (address_byte q) own ∙ sym (chip_byte q c.address)))

obeyed : (q : Request) → Fair q → (c : Chip) → JustSelected c → address_of q ≡ c.address → Obeyed q c
unfolding seal_of sensor_for is_over over_at
obeyed q fair c new own =
    record {
      before = taken_gathers (packet_of q) c _ taken;
      done = ap (λ (k : Chip). k.sensor) taken.ends;
      answers = subst (λ (k : Chip). Answers (answer_to q s) (done_by q s) k) (sym taken.ends)
          (subst (λ (b : List ℕ). Answers b (done_by q s) e) (answered q y s) (answers d 0 a));
      awake = λ ls h. ap (λ (k : Chip). is_over (hearing ls k)) taken.ends
          ∙ ap is_over (replied_within d 0 a ls (subst (λ (b : List ℕ). length ls < length (answer_in b)) (sym (answered q y s)) h));
      deaf = λ ls h. ap (λ (k : Chip). is_over (hearing ls k)) taken.ends
          ∙ ap is_over (replied_past d 0 a ls (subst (λ (b : List ℕ). length (answer_in b) ≤ length ls) (sym (answered q y s)) h));
    }
  where
    s : Sensor
    s = c.sensor

    y : ℕ
    y = address_byte q (address_of q)

    a : Asked
    a = asked_by q y s

    d : Chip
    d = with_sensor (done_by q s) c

    e : Chip
    e = at_place d (Answering 0 0) a

    n : ℕ
    n = inverted_of (addressed_by y q)

    taken : Taken (packet_of q) c e
    taken =
        formed q (λ (b : List ℕ). Taken b c e)
        (whole_taken c new q fair y (n % 256) (n / 256) (byte_lt q fair) (omega arith) (omega (arith, inverted_lt (addressed_by y q))) 0
        (own_status q c own) (done_by q s) (done q s fair))

-- ---- refused

module _ (t : ℕ) (nonzero : eqb t 0 ≡ false) where
  -- the status alone
  status_alone_lem : (a : Asked) → answer_of t a ≡ status_alone t
  unfolding answer_of status_alone
  status_alone_lem a = cc

  sensor_kept : (a : Asked) (s : Sensor) → sensor_for t a s ≡ s
  unfolding sensor_for
  sensor_kept a s = simp nonzero

  refused : (s : List ℕ) (c : Chip) (a : Asked) → Taken s c (at_place c (Answering t 0) a) → Refused t s c
  refused s c a taken =
      record {
        before = taken_gathers s c _ taken;
        answers = subst (λ (k : Chip). Answers (status_alone t) c.sensor k) (sym taken.ends)
            (subst (λ (b : List ℕ). Answers b c.sensor (at_place c (Answering t 0) a)) (status_alone_lem a) (answers c t a));
        awake = λ ls. ap (λ (k : Chip). is_over (hearing ls k)) taken.ends ∙ never_over c t a nonzero ls;
      }

spoilt : (q : Request) → Fair q → (c : Chip) → JustSelected c → (y low high : ℕ) → y < 256 → low < 256 → high < 256 → (low ∷ high ∷ [] ≡ seal_of (addressed_by y q) → ⊥) → Refused 1 (addressed_by y q ++ low ∷ high ∷ []) c
unfolding status_for
spoilt q fair c new y low high yb lb hb bad =
    refused 1 refl (addressed_by y q ++ low ∷ high ∷ []) c (asked_by q y c.sensor)
    (whole_taken c new q fair y low high yb lb hb 1
    (ap (λ (r : Bool). status_for r (eqb y (chip.address_byte (code_of q) c.address))) (seal_wrong (addressed_by y q) low high lb bad))
    c.sensor (sensor_kept 1 refl _ c.sensor))

wrong_byte : (q : Request) → Fair q → (c : Chip) → JustSelected c → (y : ℕ) → y < 256 → (y ≡ address_byte q c.address → ⊥) → Refused 2 (addressed_by y q ++ seal_of (addressed_by y q)) c
unfolding status_for seal_of
wrong_byte q fair c new y yb bad =
    refused 2 refl (addressed_by y q ++ seal_of (addressed_by y q)) c (asked_by q y c.sensor)
    (whole_taken c new q fair y (n % 256) (n / 256) yb (omega arith) (omega (arith, inverted_lt (addressed_by y q))) 2
    (ap₂ status_for (seal_right (addressed_by y q)) (ne_eqb y (chip.address_byte (code_of q) c.address) (λ e. bad (e ∙ chip_byte q c.address))))
    c.sensor (sensor_kept 2 refl _ c.sensor))
  where
    n : ℕ
    n = inverted_of (addressed_by y q)

strange : (q : Request) → Fair q → (c : Chip) → JustSelected c → (address_of q ≡ c.address → ⊥) → Refused 2 (packet_of q) c
strange q fair c new other =
    formed q (λ (b : List ℕ). Refused 2 b c)
    (wrong_byte q fair c new (address_byte q (address_of q)) (byte_lt q fair) (λ e. other (byte_inj q (address_of q) c.address e)))

-- ---- ignored

ignored : (s : List ℕ) (c : Chip) (a : Asked) → Taken s c (at_place c Over a) → Ignored s c
unfolding is_over over_at
ignored s c a taken =
    record {
      before = taken_gathers s c _ taken;
      deaf = λ ls. ap is_over (ap (hearing ls) taken.ends ∙ over_stays c a ls);
      kept = λ ls. ap (λ (k : Chip). k.sensor) (ap (hearing ls) taken.ends ∙ over_stays c a ls);
    }

unknown : (c : Chip) → JustSelected c → (x : ℕ) → x < 256 → ((q : Request) → x ≡ code_of q → ⊥) → Ignored (x ∷ []) c
unfolding took_at took_code code_of body_of
unknown c new x xb other = ignored (x ∷ []) c _ (from_start c new (x ∷ []) _ (last_taken c x Code _ _ refl xb over))
  where
    none : is_code x ≡ false
    none = simp (ne_eqb x 0x4B (other (write 0 [])), ne_eqb x 0x87 (other (read 0 0)), ne_eqb x 0x2D (other (write_read 0 [] 0)))

    over : took_at Code x (at_place c Code (asking 0 0 0 0 0 c.sensor)) ≡ at_place c Over (asking 0 0 0 0 (entered taps16 0 x) c.sensor)
    over = simp none

no_count : (q : Request) (c : Chip) → JustSelected c → (y : ℕ) → y < 256 → Ignored (code_of q ∷ y ∷ 0 ∷ []) c
unfolding took_at took_count took_reads took_length
no_count q c new y yb =
    ignored (code_of q ∷ y ∷ 0 ∷ []) c _ (from_start c new _ _
    (code_taken c (code_of q) _ 0 c.sensor _ (code_lt q) (code_known q)
    (address_taken c y _ (code_of q) _ c.sensor _ yb (last_taken c 0 Count _ _ refl (lit< tt) (over (eqb (code_of q) 0x87))))))
  where
    over : (b : Bool) {k : Packet} → with_packet (cond b k k) c ≡ with_packet k c
    over true = refl
    over false = refl

no_reads : (c : Chip) → JustSelected c → (y : ℕ) (d : List ℕ) → y < 256 → Bytes d → good_count (length d) ≡ true → Ignored (0x2D ∷ y ∷ length d ∷ (d ++ 0 ∷ [])) c
unfolding took_at took_reads
no_reads c new y d yb byte good =
    ignored (0x2D ∷ y ∷ length d ∷ (d ++ 0 ∷ [])) c _ (from_start c new _ _
    (writing_taken c 0x2D y d (0 ∷ []) _ (lit< tt) refl refl yb good byte (last_taken c 0 Reads _ _ refl (lit< tt) refl)))

-- ---- all of them

pub obeying : Obeying
obeying =
    record {
      ready = ready;
      obeyed = obeyed;
      spoilt = spoilt;
      strange = strange;
      wrong_byte = wrong_byte;
      unknown = unknown;
      no_count = no_count;
      no_reads = no_reads;
    }
