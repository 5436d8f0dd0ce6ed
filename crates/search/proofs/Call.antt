-- The two outcomes of the call that is allowed n passes, for the list buffer d and the bridge b.
--   number_short, number_roomy     the number, with a buffer that is too short and with one that is not
--   Answered n d b a s x           the answer is a, the state s, and the buffer x
--   short, done                    the buffer is too short; the list is written
use mathlib.Core.Path.{◌≡◌, ap}
use mathlib.Core.Bool.{Bool, cond}
use mathlib.Core.List.{List}
use Prim.Native.Nat.{ℕ, ◌*◌, ◌<◌, ◌≤◌, min}
use borrow.Author.Tests.{lt-ltb, le-ltb}
use lib.Dec.{eqb}
use lib.ListN.{length}
use Rattle.bridge.specs.declared.Bridge.{Bridge}
use Rattle.pass.specs.Passes.{search}
use Rattle.search.specs.Search.{Answer, search_number, listed, answer_of, written, buffer_of, bridge_of}
use Rattle.search.specs.Search.Answer.{Refused}

module _ (n : ℕ) (d : List ℕ) (b : Bridge) where
  number_short : length d < 8 * min n 64 → search_number n d ≡ 9
  unfolding search_number
  number_short h = ap (λ (t : Bool). cond {A = ℕ} t 9 0) (lt-ltb (length d) (8 * min n 64) h)

  number_roomy : 8 * min n 64 ≤ length d → search_number n d ≡ 0
  unfolding search_number
  number_roomy h = ap (λ (t : Bool). cond {A = ℕ} t 9 0) (le-ltb (length d) (8 * min n 64) h)

  pub record Answered (a : Answer) (s : Bridge) (x : List ℕ) : Type 0 where
    pub answer : answer_of n d b ≡ a
    pub state : bridge_of n d b ≡ s
    pub buffer : buffer_of n d b ≡ x

  -- by the number
  by : (k : ℕ) → search_number n d ≡ k → Answered (cond (eqb k 0) (listed (search n b)) (Refused k)) (cond (eqb k 0) (search n b).bridge b) (cond (eqb k 0) (written (search n b).ids d) d)
  unfolding answer_of bridge_of buffer_of
  by k e =
      record {
        answer = ap (λ (m : ℕ). cond (eqb m 0) (listed (search n b)) (Refused m)) e;
        state = ap (λ (m : ℕ). cond (eqb m 0) (search n b).bridge b) e;
        buffer = ap (λ (m : ℕ). cond (eqb m 0) (written (search n b).ids d) d) e;
      }

  pub short : length d < 8 * min n 64 → Answered (Refused 9) b d
  short h = by 9 (number_short h)

  pub done : 8 * min n 64 ≤ length d → Answered (listed (search n b)) (search n b).bridge (written (search n b).ids d)
  done h = by 0 (number_roomy h)
