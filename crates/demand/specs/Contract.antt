-- The search of the library, as its contract has it.
--   Called P given back    the calls that meet the promise P: what goes in, and the outcome that comes back
--   Promised               the outcomes that the contract of search::search allows, as the check reads it off the source
use Rattle.std.specs.Prelude.{ℕ, List, ◌≡◌}
use Rattle.bridge.specs.declared.Bridge.{Bridge}
use Rattle.search.specs.Search.{answer_in, bridge_in}
use Rattle.search.proofs.search.Reads as search
use Rattle.demand.specs.Demand.{Outcome, Search}

-- A promise speaks of lifetimes, arguments, a result, and the arguments at exit.
pub record Called {K : Type 0} {A R S : K → Type 0} (P : (κ : K) → A κ → R κ → S κ → Type 0) (given : (κ : K) → A κ → Bridge × ℕ × List ℕ) (back : (κ : K) → A κ → R κ → S κ → Outcome) (g : Bridge × ℕ × List ℕ) (o : Outcome) : Type 0 where
  pub lifetimes : K
  pub arguments : A lifetimes
  pub result : R lifetimes
  pub exit : S lifetimes
  pub promise : P lifetimes arguments result exit
  pub goes_in : given lifetimes arguments ≡ g
  pub comes_back : back lifetimes arguments result exit ≡ o

-- The bridge, the allowance and the list buffer go in; the answer, the bridge and the list buffer come back. A refusal leaves the caller's
-- own bridge.
abbrev pub Promised : Search
Promised s b d o =
    Called search.Post (λ κ a. (a.0, a.1.0, a.1.1.0.now))
    (λ κ a r t. record { answer = answer_in r; bridge = bridge_in a.0 r; list = t.1.1.0.now })
    (s, b, d) o
