-- `triplets` meets its contract: what is left of the walk is the triplets from bit k on.
use mathlib.Core.Path.{sym, ap, ◌∙◌}
use mathlib.Core.List.{[], ◌∷◌}
use Prim.Native.Nat.{ℕ}
use native.Mathlib.Omega.{arith}
use Rattle.bridge.specs.Bridge.{command}
use Rattle.pass.specs.declared.Walk.{Walk}
use Rattle.pass.specs.Pass.{triplet_byte}
use Rattle.pass.proofs.Walked.{tripled_by, walked_next, walked_none}
use borrow.Author.Rules.{rules}
use Rattle.pass.proofs.triplets.Goals as goal

pub loop-k-preserved : goal.loop-k-preserved
loop-k-preserved c =
    let a = c.args in
    let l = c.loop-k in
    let w : Walk = record { bridge = l.bridge; id = l.id; conflict = l.conflict } in (
      c.with_bit-id.ensures.1,
      l.invariant.1
          ∙ walked_next _ _ _ _ (omega arith)
          (tripled_by a.previous a.before l.k w
          (c.command-bridge.ensures
          ∙ ap (λ (x : ℕ). command (0x78 ∷ x ∷ []) l.bridge) (c.triplet_byte.ensures ∙ ap triplet_byte c.direction-asked.ensures))
          (search rules) c.noted-conflict.ensures),
    )

pub returns : goal.returns
returns c = sym (c.loop-k.invariant.1 ∙ walked_none _ _ _ _ (omega arith))
