-- Two tables side by side, entry by entry.
--   paired f xs ys     ys with f done to each entry that has a fellow in xs; those behind stay as they are
--   both_all f xs ys    every entry passes the test with its fellow
use Rattle.std.specs.Prelude.{Bool, true, false, cond, List, [], ◌∷◌}

unfoldable pub paired : {A B : Type 0} → (A → B → B) → List A → List B → List B
paired f [] ys = ys
paired f (a ∷ xs) [] = []
paired f (a ∷ xs) (b ∷ ys) = f a b ∷ paired f xs ys

unfoldable pub both_all : {A B : Type 0} → (A → B → Bool) → List A → List B → Bool
both_all f [] ys = true
both_all f (a ∷ xs) [] = true
both_all f (a ∷ xs) (b ∷ ys) = cond (f a b) (both_all f xs ys) false
