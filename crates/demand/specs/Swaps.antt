-- Probes that come and go (document 02, R-3): what a withdrawal comes to, from every state that calls reach.
--   Gone i ps qs     of the probes ps the one of the ID i has gone, and qs are the others
--   fitted_at s       the probes on the line behind s, in the order in which they came
--   Swaps s          the sentences of R-3, of the state s
use Rattle.std.specs.Prelude.{ℕ, cond, List, [], ◌∷◌, ◌++◌, ◌≡◌, eqb, length}
use Rattle.identity.specs.Identity.{number_of, refusal_of}
use Rattle.probe.specs.declared.Condition.TheVariants.{Deaf}
use Rattle.probe.specs.declared.Probe.{Probe}
use Rattle.probe.specs.Probe.{deaf_new}
use Rattle.line.specs.Line.{fitted, fit_number}
use Rattle.withdrawal.specs.Withdrawal.{withdraw_number}
use Rattle.bridge.specs.declared.Bridge.{Bridge}
use Rattle.bridge.specs.declared.Pending.TheVariants.{Nothing}
use Rattle.bridge.specs.Bridge.{after_fitting, after_withdrawal}
use Rattle.bridge.specs.Reached.{Bytes, Reached}
use Rattle.enumeration.specs.Order.{Among}
use Rattle.demand.specs.Demand.{ids_at, after_resume}

-- The others are as they were, condition and mark included, and in the order in which they came.
pub record Gone (i : ℕ) (ps qs : List Probe) : Type 0 where
  pub front : List Probe
  pub one : Probe
  pub back : List Probe
  pub before : ps ≡ front ++ one ∷ back
  pub id : one.id ≡ i
  pub after : qs ≡ front ++ back

-- The probes on the line behind a bridge.
abbrev pub fitted_at : Bridge → List Probe
fitted_at s = fitted s.line

pub record Swaps (s : Bridge) : Type 0 where
  -- An ID that is fitted can be withdrawn, whatever its probe does; any other is refused with 20.
  pub accepted : (x : List ℕ) → Among (number_of x) (ids_at s) → withdraw_number x s.line ≡ 0
  pub not_fitted : (x : List ℕ) → (Among (number_of x) (ids_at s) → ⊥) → withdraw_number x s.line ≡ 20
  -- So are eight bytes that are no right ID.
  pub unsound : (x : List ℕ) → Bytes x → length x ≡ 8 → (refusal_of x ≡ 0 → ⊥) → withdraw_number x s.line ≡ 20
  -- A refused withdrawal changes nothing.
  pub refused : (x : List ℕ) → (withdraw_number x s.line ≡ 0 → ⊥) → after_withdrawal x s ≡ s
  -- An accepted one takes its probe off the line at once, and no other.
  pub goes : (x : List ℕ) → withdraw_number x s.line ≡ 0 → Gone (number_of x) (fitted_at s) (fitted_at (after_withdrawal x s))
  pub gone : (x : List ℕ) → withdraw_number x s.line ≡ 0 → Among (number_of x) (ids_at (after_withdrawal x s)) → ⊥
  -- The bridge's registers stay, and what is pending among them.
  pub registers : (x : List ℕ) → (after_withdrawal x s).registers ≡ s.registers
  -- "Line full" means that 64 probes are fitted at that moment: then, and only then, a right ID that is not fitted is refused, with 1.
  pub full : (x : List ℕ) → refusal_of x ≡ 0 → (Among (number_of x) (ids_at s) → ⊥) → fit_number x s.line ≡ cond (eqb (length (ids_at s)) 64) 1 0
  -- The room of a withdrawn probe serves the next fitting.
  pub room : (x y : List ℕ) → Bytes x → length x ≡ 8 → withdraw_number x s.line ≡ 0 → refusal_of y ≡ 0 → (Among (number_of y) (ids_at (after_withdrawal x s)) → ⊥) → fit_number y (after_withdrawal x s).line ≡ 0
  -- Withdrawing an ID and fitting it again is accepted, and gives a deaf, unmarked probe at the end of the order.
  pub again : (x : List ℕ) → Bytes x → length x ≡ 8 → withdraw_number x s.line ≡ 0 → (fit_number x (after_withdrawal x s).line ≡ 0) × (fitted_at (after_fitting x (after_withdrawal x s)) ≡ fitted_at (after_withdrawal x s) ++ deaf_new (number_of x) ∷ [])
  -- So a 1-Wire reset and Resume, each given its time, do not select it.
  pub unresumed : (x : List ℕ) → Bytes x → length x ≡ 8 → withdraw_number x s.line ≡ 0 → s.registers.pending ≡ Nothing → (p : Probe) → Among p (fitted_at (after_resume (after_fitting x (after_withdrawal x s)))) → p.id ≡ number_of x → p.condition ≡ Deaf
  -- One state stands for one line: where the same probes are fitted, the whole table is the same.
  pub one : (t : Bridge) → Reached t → fitted_at t ≡ fitted_at s → t.line ≡ s.line
