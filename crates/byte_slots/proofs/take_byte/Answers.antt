-- `byte_slots::take_byte` meets its contract where a probe has taken no bit of a code yet: the byte is the code.
use mathlib.Core.Path.{◌≡◌, refl, sym, ap, ◌∙◌}
use Prim.Native.Nat.{ℕ, ◌<◌}
use native.Mathlib.Omega.{arith}
use Rattle.probe.specs.declared.Condition.TheVariants.{Taking}
use Rattle.probe.specs.declared.Probe.{Probe}
use Rattle.probe.specs.Probe.{obeyed, in_condition}
use Rattle.byte_slots.specs.Foresight.{took_bits}
use Rattle.byte_slots.proofs.Whole.{taking_whole}
use Rattle.byte_slots.proofs.take_byte.Goals as goal

obeys : (k c x y : ℕ) (p q : Probe) → p.condition ≡ Taking k c → k ≡ 0 → c < 256 → x < 256 → x ≡ y → q ≡ obeyed y p → q ≡ took_bits 8 x p
obeys k c x y p q e first low h same r = r ∙ sym (taking_whole k c x y p e first low h same)

pub returns-in-51 : goal.returns-in-51
unfolding obeyed
returns-in-51 c =
    let t = c.in-Taking-eq0-default in
    obeys t.count t._code c.args.byte 51 _ _ t.is (sym t.count-is ∙ t.count-test) (omega arith) (omega arith) c.in-51.is c.with_mark.ensures

pub returns-in-85 : goal.returns-in-85
unfolding obeyed
returns-in-85 c =
    let t = c.in-Taking-eq0-default in
    obeys t.count t._code c.args.byte 85 _ _ t.is (sym t.count-is ∙ t.count-test) (omega arith) (omega arith) c.in-85.is c.with_mark-in-85.ensures

pub returns-in-240 : goal.returns-in-240
unfolding obeyed
returns-in-240 c =
    let t = c.in-Taking-eq0-default in
    obeys t.count t._code c.args.byte 240 _ _ t.is (sym t.count-is ∙ t.count-test) (omega arith) (omega arith) c.in-240.is c.with_mark-in-240.ensures

pub returns-in-204 : goal.returns-in-204
unfolding obeyed
returns-in-204 c =
    let t = c.in-Taking-eq0-default in
    obeys t.count t._code c.args.byte 204 _ _ t.is (sym t.count-is ∙ t.count-test) (omega arith) (omega arith) c.in-204.is c.with_mark-in-204.ensures

pub returns-in-165 : goal.returns-in-165
unfolding obeyed
returns-in-165 c =
    let t = c.in-Taking-eq0-default in
    obeys t.count t._code c.args.byte 165 _ _ t.is (sym t.count-is ∙ t.count-test) (omega arith) (omega arith) c.in-165.is (c.in_condition.ensures ∙ ap (in_condition c.args.p.now) c.resumed.ensures)

pub returns-in_default-byte : goal.returns-in_default-byte
returns-in_default-byte c =
    let t = c.in-Taking-eq0-default in
    obeys t.count t._code c.args.byte c.args.byte _ _ t.is (sym t.count-is ∙ t.count-test) (omega arith) (omega arith) refl c.obeyed.ensures
