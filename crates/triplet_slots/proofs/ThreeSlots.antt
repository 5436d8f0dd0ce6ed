-- The three slots of a triplet, one after the other, on whatever carries them.
use mathlib.Core.Path.{◌≡◌}
use mathlib.Core.Bool.{Bool, true}
use Prim.Native.Nat.{ℕ}
use Rattle.byte_slots.specs.SlotBySlot.{slot_in}
use Rattle.triplet_slots.specs.Triplet.{chosen, second_in, written_in, triplet_in}

module _ {A : Type 0} (f : ℕ → Bool → A → Bool) (g : ℕ → Bool → A → A) (v : ℕ) (d : Bool) (a : A) where
  pub three_slots : (first second bit third : Bool) (once twice thrice : A)
      → first ≡ f v true a → once ≡ g v first a → second ≡ f v true once → twice ≡ g v second once
      → bit ≡ chosen first second d → third ≡ f v bit twice → thrice ≡ g v third twice
      → (first ≡ f v true a) × (second ≡ second_in f g v a) × (bit ≡ written_in f g v d a) × (thrice ≡ triplet_in f g v d a)
  unfolding slot_in
  three_slots first second bit third once twice thrice e₁ e₂ e₃ e₄ e₅ e₆ e₇ =
      let one : once ≡ slot_in f g v true a = rw e₁ at e₂ in
      let two : second ≡ second_in f g v a = rw one at e₃ in
      let there : twice ≡ slot_in f g v true (slot_in f g v true a) = rw (two, one) at e₄ in
      let wrote : bit ≡ written_in f g v d a = rw (e₁, two) at e₅ in
      (e₁, two, wrote, rw (e₆, wrote, there) at e₇)
