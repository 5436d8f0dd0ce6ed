use Rattle.search.proofs.Onward.{Going}
use Rattle.search.proofs.passes.passes.Given as goal

abbrev pub invariant-loop-count : goal.invariant-loop-count
invariant-loop-count l = Going l.allowed l.initial.walk.bridge l.initial.list l.list l.walk.bridge l.walk.id l.walk.conflict l.count
