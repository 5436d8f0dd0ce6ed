-- `triplet_slots::outlook` meets its contract: of the probes gone through all are settled, and the levels are what they let the line be.
use mathlib.Core.Path.{◌≡◌, refl, sym, ap, ◌∙◌}
use mathlib.Core.Bool.{true}
use Prim.Native.Nat.{◌<◌}
use native.Mathlib.Omega.{arith}
use lib.ListN.{length, take}
use lib.Seq.{take_all}
use Rattle.probe.specs.Probe.{sends_at}
use Rattle.line.specs.Line.{all, fitted, level}
use Rattle.line.proofs.Front.{all_next}
use Rattle.triplet_slots.specs.Triplet.{settled}
use Rattle.triplet_slots.proofs.Settled.{sends_after, sends_resting, second_level_lem, all_more, kept}
use Rattle.triplet_slots.proofs.outlook.Goals as goal

pub loop-p-init : goal.loop-p-init
unfolding all
loop-p-init c = (refl, refl, λ a. refl)

pub loop-p-preserved : goal.loop-p-preserved
loop-p-preserved c =
    let l = c.loop-p in
    let v = c.args.speed in
    let ps = take c.entries-n.result c.args.line.now.probes in
    let below : l.p-index < length ps = omega arith in
    let s = c.in_ok-bit.ensures in (
      all_next (settled v) ps l.p-index _ below l.invariant.0 s.0,
      all_more (sends_at v) ps l.p-index _ _ _ below l.invariant.1 s.1,
      λ a. all_more (sends_after v a) ps l.p-index _ _ _ below (l.invariant.2 a) (s.2 a),
    )

pub loop-p-preserved-then-rests : goal.loop-p-preserved-then-rests
loop-p-preserved-then-rests c =
    let l = c.loop-p in
    let v = c.args.speed in
    let ps = take c.entries-n.result c.args.line.now.probes in
    let below : l.p-index < length ps = omega arith in
    let s = sends_resting v _ (sym c.rests.ensures ∙ c.if-rests.true) in (
      all_next (settled v) ps l.p-index _ below l.invariant.0 s.0,
      kept _ ∙ all_more (sends_at v) ps l.p-index _ _ _ below l.invariant.1 s.1,
      λ a. kept _ ∙ all_more (sends_after v a) ps l.p-index _ _ _ below (l.invariant.2 a) (s.2 a),
    )

pub returns : goal.returns
unfolding level
returns c =
    let l = c.loop-p in
    let v = c.args.speed in
    let line = c.args.line.now in
    let ps = take c.entries-n.result line.probes in
    let front : take l.p-index ps ≡ fitted line = take_all l.p-index ps (omega arith) ∙ c.entries-n.ensures.2 in (
      sym (ap (all (settled v)) front) ∙ l.invariant.0,
      l.invariant.1 ∙ ap (all (sends_at v)) front,
      l.invariant.2 (level v true line) ∙ ap (all (sends_after v (level v true line))) front ∙ sym (second_level_lem v line),
    )
