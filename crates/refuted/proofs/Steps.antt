-- The wrong steps and packets: one case for each, which computes.
use Prim.Native.Nat.{ℕ, suc}
use mathlib.Core.Bool.{Bool, false, false≢true}
use mathlib.Core.List.{List, [], ◌∷◌}
use mathlib.Core.Path.{◌≡◌, refl, ap}
use native.Mathlib.Omega.{arith}
use lib.Dec.{lit<}
use lib.ListN.{get_or}
use Rattle.checksum.specs.Register.{crc16_of, crc_from, entered, shifts, shifted, taps, taps16}
use Rattle.line.specs.Line.{bare, fitted, all, level, slot, on_fitted}
use Rattle.triplet_slots.specs.Triplet.{chosen}
use Rattle.bridge.specs.declared.Bridge.{Bridge}
use Rattle.bridge.specs.declared.Pending.TheVariants.{Reset, Triplet}
use Rattle.bridge.specs.declared.Pointer.TheVariants.{Status}
use Rattle.bridge.specs.Bridge.{power_on, status_of, read_of, busy, bytes_of, good_configuration, good_parameter, write_number, after_write, accepted, finished_reset, finished_triplet, finished_of, after_time}
use Rattle.bridge.specs.Reached.{Bytes, Reached}
use Rattle.bridge.specs.Reached.Reached.{on, write}
use Rattle.packet.specs.Request.{Request, read, body_of, inverted_of, seal_of, packet_of}
use Rattle.reading.specs.Reading.{is_unknown, wanted_of, zero_count, parts_in, form_of, is_sealed, checked, reading_of, Refuses}
use Rattle.demand.proofs.Reached.{bytes_one, bytes_two}
use Rattle.refuted.specs.Versions.{clears_rst, zero_after_ones, triplet_by, uninverted}

-- ---- steps

pub step_refuses_lem : (f : List ℕ → Bridge → ℕ) → ((x : List ℕ) → Bytes x → (s : Bridge) → Reached s → write_number x s ≡ suc (f x s)) → ⊥
unfolding write_number bytes_of power_on good_parameter
step_refuses_lem f h =
    let e : 0 ≡ suc (f (0xF0 ∷ []) power_on) = h (0xF0 ∷ []) (bytes_one 0xF0 (lit< tt)) power_on on in
    omega arith

-- a 1-Wire Reset that waits for time to pass
abbrev pending : Bridge
pending = after_write (0xB4 ∷ []) power_on

pending_reached : Reached pending
pending_reached = write (0xB4 ∷ []) (bytes_one 0xB4 (lit< tt)) on

-- 18h at power-on, 19h while a reset is pending
pub status_fixed_lem : (v : ℕ) → ((s : Bridge) → Reached s → s.registers.pointer ≡ Status → read_of s ≡ v) → ⊥
unfolding read_of status_of after_write write_number bytes_of power_on good_parameter accepted
status_fixed_lem v h =
    let free : 0x18 ≡ v = h power_on on refl in
    let busy : 0x19 ≡ v = h pending pending_reached refl in
    omega arith

-- a configuration that is written clears RST
pub write_lazy_lem : ((x : List ℕ) → Bytes x → (s : Bridge) → Reached s → after_write x s ≡ s) → ⊥
unfolding after_write write_number bytes_of power_on good_configuration good_parameter accepted
write_lazy_lem h =
    false≢true
    (ap (λ (s : Bridge). s.registers.status.rst) (h (0xD2 ∷ 0xF0 ∷ []) (bytes_two 0xD2 0xF0 (lit< tt) (lit< tt)) power_on on))

pub time_lazy_lem : ((s : Bridge) → Reached s → after_time s ≡ s) → ⊥
unfolding after_time finished_of finished_reset after_write write_number bytes_of power_on good_parameter accepted
time_lazy_lem h = false≢true (ap busy (h pending pending_reached))

pub rst_cleared_lem : ((s : Bridge) → Reached s → s.registers.pending ≡ Reset → clears_rst s ≡ after_time s) → ⊥
unfolding after_time finished_of finished_reset after_write write_number bytes_of power_on good_parameter accepted
rst_cleared_lem h = false≢true (ap (λ (s : Bridge). s.registers.status.rst) (h pending pending_reached refl))

-- with no probe on the line both levels are 1
pub zero_written_lem : ((s : Bridge) → Reached s → (d : Bool) → s.registers.pending ≡ Triplet d → triplet_by zero_after_ones d s ≡ after_time s) → ⊥
unfolding after_time finished_of finished_triplet after_write write_number bytes_of power_on good_parameter accepted bare level slot on_fitted fitted all
zero_written_lem h =
    false≢true
    (ap (λ (s : Bridge). s.registers.status.dir)
    (h (after_write (0x78 ∷ 0 ∷ []) power_on) (write (0x78 ∷ 0 ∷ []) (bytes_two 0x78 0 (lit< tt) (lit< tt)) on) false refl))

pub triplet : (d : Bool) (s : Bridge) → triplet_by chosen d s ≡ finished_triplet d s
unfolding finished_triplet
triplet d s = refl

-- ---- packets: a read, address 20h, 2 bytes

pub reader_refuses_lem : (f g : List ℕ → ℕ) → ((p : List ℕ) → Refuses (reading_of p) (f p) (g p)) → ⊥
unfolding reading_of checked form_of is_unknown wanted_of zero_count parts_in is_sealed inverted_of crc16_of crc_from entered shifts shifted taps16 taps
reader_refuses_lem f g h = h (0x87 ∷ 0x41 ∷ 0x02 ∷ 0xFE ∷ 0x47 ∷ [])

pub crc_plain_lem : ((q : Request) → uninverted q ≡ packet_of q) → ⊥
unfolding packet_of body_of seal_of inverted_of crc16_of crc_from entered shifts shifted taps16 taps
crc_plain_lem h =
    let e : ◌≡◌ {A = ℕ} 0x01 0xFE = ap (λ (p : List ℕ). get_or p 3 0) (h (read 0x20 2)) in
    omega arith
