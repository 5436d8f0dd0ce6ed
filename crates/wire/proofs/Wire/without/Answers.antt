-- `Wire::without` meets its contract: of the entries gone through all others are laid.
use mathlib.Core.Path.{◌≡◌, refl, sym, ap, ◌∙◌}
use mathlib.Core.List.{[], ◌∷◌, List}
use Prim.Native.Nat.{ℕ, ◌+◌}
use native.Mathlib.Omega.{arith}
use borrow.Author.Tests.{eq-eqb, ne_eqb}
use lib.Dec.{eqb}
use lib.ListN.{length, take, set, length-take, length-append}
use lib.Seq.{take_all}
use Rattle.std.proofs.Common.{rules}
use Rattle.std.proofs.lemmas.Slice.Zip.{zip_turn, zip_end}
use Rattle.probe.specs.declared.Probe.{Probe}
use Rattle.chip.specs.declared.Chip.{Chip}
use Rattle.wire.specs.declared.Chips.{Chips}
use Rattle.wire.specs.Wire.{no_chips, kept, chips_with, chips_without}
use Rattle.wire.proofs.Kept.{laid_start, laid_passed, laid_kept}
use Rattle.wire.proofs.Wire.without.Goals as goal

pub loop-p-init : goal.loop-p-init
unfolding no_chips
loop-p-init c =
    let empty : c.none-rest.result.count ≡ 0 = ap (λ (k : Chips). k.count) c.none-rest.ensures in
    (omega arith, laid_start c.args.id c.args.self.chips.table c.none-rest.ensures)

pub offset_bounds-rest-to : goal.offset_bounds-rest-to
offset_bounds-rest-to c =
    let l = c.loop-p in
    let ps = take c.pairs-n.result c.args.self.line.probes in
    let t = zip_turn ps c.args.self.chips.table l.yielded c.into_iter-p-iterator.result l.p-iterator c.next.new.self c.next.result (search rules) (search rules)
    l.yielded_by (c.in-Some.p, c.in-Some.c) c.in-Some.is c.next.ensures.steps in
    omega (arith, c.pairs-n.ensures.0, l.invariant.0, t.0, length-take c.pairs-n.result c.args.self.line.probes)

pub bounds-rest-to : goal.bounds-rest-to
bounds-rest-to c =
    let l = c.loop-p in
    let ps = take c.pairs-n.result c.args.self.line.probes in
    let t = zip_turn ps c.args.self.chips.table l.yielded c.into_iter-p-iterator.result l.p-iterator c.next.new.self c.next.result (search rules) (search rules)
    l.yielded_by (c.in-Some.p, c.in-Some.c) c.in-Some.is c.next.ensures.steps in
    omega (arith, c.pairs-n.ensures.0, l.invariant.0, t.0, length-take c.pairs-n.result c.args.self.line.probes)

pub overflow_add-rest : goal.overflow_add-rest
overflow_add-rest c =
    let l = c.loop-p in
    let ps = take c.pairs-n.result c.args.self.line.probes in
    let t = zip_turn ps c.args.self.chips.table l.yielded c.into_iter-p-iterator.result l.p-iterator c.next.new.self c.next.result (search rules) (search rules)
    l.yielded_by (c.in-Some.p, c.in-Some.c) c.in-Some.is c.next.ensures.steps in
    omega (arith, c.pairs-n.ensures.0, l.invariant.0, t.0, length-take c.pairs-n.result c.args.self.line.probes)

pub loop-p-preserved-then-id-p : goal.loop-p-preserved-then-id-p
loop-p-preserved-then-id-p c =
    let l = c.loop-p in
    let m = c.args.self in
    let p = c.in-Some.p.now in
    let d = c.in-Some.c.now in
    let ps = take c.pairs-n.result m.line.probes in
    let t = zip_turn ps m.chips.table l.yielded c.into_iter-p-iterator.result l.p-iterator c.next.new.self c.next.result (search rules) (search rules)
    l.yielded_by (c.in-Some.p, c.in-Some.c) c.in-Some.is c.next.ensures.steps in
    let more = length-append l.yielded ((c.in-Some.p, c.in-Some.c) ∷ []) in (
      omega (arith, l.invariant.0, more),
      ap {B = Chips} (λ (x : Chip). record { table = set l.rest.table l.rest.count x; count = l.rest.count + 1 }) (t.3 d)
          ∙ laid_kept c.args.id ps m.chips.table (length l.yielded) p d l.rest t.0 t.1 (omega (arith, c.pairs-n.ensures.2)) l.invariant.1
          (ap (λ (x : Probe). eqb c.args.id x.id) (sym (t.2 p)) ∙ ne_eqb _ _ c.if-id-p.true) _ _ refl refl
          ∙ ap (λ (j : ℕ). chips_with (kept c.args.id (take j ps) m.chips.table)) (omega (arith, more)),
    )

pub loop-p-preserved : goal.loop-p-preserved
loop-p-preserved c =
    let l = c.loop-p in
    let m = c.args.self in
    let p = c.in-Some.p.now in
    let ps = take c.pairs-n.result m.line.probes in
    let t = zip_turn ps m.chips.table l.yielded c.into_iter-p-iterator.result l.p-iterator c.next.new.self c.next.result (search rules) (search rules)
    l.yielded_by (c.in-Some.p, c.in-Some.c) c.in-Some.is c.next.ensures.steps in
    let more = length-append l.yielded ((c.in-Some.p, c.in-Some.c) ∷ []) in (
      omega (arith, l.invariant.0, more),
      laid_passed c.args.id ps m.chips.table (length l.yielded) p c.in-Some.c.now l.rest t.0 t.1 (omega (arith, c.pairs-n.ensures.2)) l.invariant.1
          (ap (λ (x : Probe). eqb c.args.id x.id) (sym (t.2 p)) ∙ eq-eqb _ _ c.if-id-p.false)
          ∙ ap (λ (j : ℕ). chips_with (kept c.args.id (take j ps) m.chips.table)) (omega (arith, more)),
    )

pub returns : goal.returns
unfolding chips_without
returns c =
    let l = c.loop-p in
    let m = c.args.self in
    let ps = take c.pairs-n.result m.line.probes in
    let e = zip_end ps m.chips.table l.yielded c.into_iter-p-iterator.result l.p-iterator c.next.new.self c.next.result (search rules) (search rules)
    l.yielded_by c.in-None.is c.next.ensures.steps in
    l.invariant.1
    ∙ ap (λ (qs : List Probe). chips_with (kept c.args.id qs m.chips.table))
    (take_all (length l.yielded) ps (omega (arith, e, c.pairs-n.ensures.0, c.pairs-n.ensures.2, length-take c.pairs-n.result m.line.probes)) ∙ c.pairs-n.ensures.3)
