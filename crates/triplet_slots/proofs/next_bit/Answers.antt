-- `triplet_slots::next_bit` meets its contract: a probe in the first slot of a search bit sends the bit and then its complement.
use mathlib.Core.Path.{◌≡◌, sym, ap, ◌∙◌}
use borrow.Author.Rules.{rules}
use Rattle.probe.specs.declared.Slot.TheVariants.{First}
use Rattle.probe.specs.declared.Condition.TheVariants.{Searching}
use Rattle.triplet_slots.proofs.Settled.{sends_first}
use Rattle.triplet_slots.proofs.next_bit.Goals as goal

pub returns : goal.returns
returns c =
    let at = c.in-Searching in
    let first : at.slot ≡ First = search rules in
    sends_first c.args.speed at.bit c.args.p _ (at.is ∙ ap (Searching at.bit) first) (sym c.reached.ensures ∙ c.if-not-reached.false) c.bit-sent.ensures
