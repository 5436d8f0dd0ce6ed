-- Each contract leaves one answer for each argument.
use mathlib.Core.Path.{sym, ap₂, ◌∙◌}
use mathlib.Core.List.{List}
use Prim.Native.Nat.{ℕ}
use Rattle.checksum.proofs.Unique.{OneAnswer, OneSeen}
use Rattle.reading.proofs.read.Reads as read
use Rattle.reading.proofs.data_of.Reads as data_of
use Rattle.reading.proofs.number_in.Reads as number_in
use Rattle.reading.proofs.place_in.Reads as place_in
use Rattle.reading.proofs.Refusal.number.Reads as number
use Rattle.reading.proofs.Refusal.place.Reads as place

pub one_read : OneAnswer read.Post
one_read κ a x y s t p q = p ∙ sym q

pub one_number_in : OneAnswer number_in.Post
one_number_in κ a x y s t p q = p ∙ sym q

pub one_place_in : OneAnswer place_in.Post
one_place_in κ a x y s t p q = p ∙ sym q

pub one_number : OneAnswer number.Post
one_number κ a x y s t p q = p ∙ sym q

pub one_place : OneAnswer place.Post
one_place κ a x y s t p q = p ∙ sym q

-- The part of the packet that is given back: its place in memory and its bytes.
pub one_data_of : OneSeen {C = (ℕ × ℕ) × List ℕ} data_of.Post (λ κ x. (x.ref_ptr, x.now))
one_data_of κ a x y s t p q = ap₂ (λ (m : ℕ × ℕ) (l : List ℕ). (m, l)) (p.1 ∙ sym q.1) (p.0 ∙ sym q.0)
