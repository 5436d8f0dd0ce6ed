-- Text put into the buffer of the transcript.
--   Put d e k r t       e is the buffer d with the text t at k, and r the place behind the text
--   Puts a b t           the lines b are the lines a with the text t behind them, in the same buffer
--   pair_of n            n, which is below 100, as two digits
--   behind_number l v    what stands behind an event's number: the letter l between spaces, the value v, the newline
use Rattle.std.specs.Prelude.{ℕ, ◌+◌, ◌/◌, ◌%◌, ◌≡◌, List, [], ◌∷◌, ◌++◌, length}
use Rattle.std.proofs.lemmas.List.Edits.{sets}
use Rattle.transcript.specs.declared.text.Lines.{Lines}

pub record Put (d e : List ℕ) (k r : ℕ) (t : List ℕ) : Type 0 where
  pub content : e ≡ sets d k t
  pub end : r ≡ k + length t

pub record Puts (a b : Lines) (t : List ℕ) : Type 0 where
  pub put : Put a.out.now b.out.now a.len b.len t
  pub same : b.out.ghost_name ≡ a.out.ghost_name

abbrev pub pair_of : ℕ → List ℕ
pair_of n = (48 + n / 10) ∷ (48 + n % 10) ∷ []

unfoldable pub behind_number : ℕ → List ℕ → List ℕ
behind_number l v = (0x20 ∷ l ∷ 0x20 ∷ []) ++ v ++ (0x0A ∷ [])
