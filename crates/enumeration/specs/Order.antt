-- Search order, and lists of IDs in it (document 01, "Probe identities").
--   Before i j       i comes before j in search order
--   Among x l        x stands in l
--   Distinct l       nothing stands twice in l
--   Narrow l         every number of l has 64 bits at most
--   Rising l         each ID of l comes, in search order, before all that stand behind it
--   InOrder ids l    l is the IDs `ids`, each once, in search order
use Rattle.std.specs.Prelude.{ℕ, ◌^◌, ◌<◌, true, false, ◌≡◌, length}
use mathlib.Core.List.{List, [], ◌∷◌, Memᴰ}
use Rattle.identity.specs.Identity.{bit_of}

-- Search order: two IDs are compared at the lowest-numbered bit where they differ; the one with 0 there comes first.
pub record Before (i j : ℕ) : Type 0 where
  pub place : ℕ
  pub within : place < 64
  pub alike : (k : ℕ) → k < place → bit_of i k ≡ bit_of j k
  pub first : bit_of i place ≡ false
  pub second : bit_of j place ≡ true

abbrev pub Among : {A : Type 0} → A → List A → Type 0
Among x l = Memᴰ x l

abbrev pub Distinct : List ℕ → Type 0
Distinct [] = Unit {0}
Distinct (i ∷ l) = (Among i l → ⊥) × Distinct l

abbrev pub Narrow : List ℕ → Type 0
Narrow l = (i : ℕ) → Among i l → i < 2 ^ 64

abbrev pub Rising : List ℕ → Type 0
Rising [] = Unit {0}
Rising (i ∷ l) = ((j : ℕ) → Among j l → Before i j) × Rising l

pub record InOrder (ids l : List ℕ) : Type 0 where
  pub rising : Rising l
  pub all : (i : ℕ) → Among i ids → Among i l
  pub only : (i : ℕ) → Among i l → Among i ids
  pub once : length l ≡ length ids
