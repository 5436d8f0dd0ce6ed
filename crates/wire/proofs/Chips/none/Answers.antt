-- `Chips::none` meets its contract.
use mathlib.Core.Path.{ap}
use lib.ListN.{replicate}
use Rattle.chip.specs.declared.Chip.{Chip}
use Rattle.wire.specs.declared.Chips.{Chips}
use Rattle.wire.specs.Wire.{no_chips}
use Rattle.wire.proofs.Chips.none.Goals as goal

pub returns : goal.returns
unfolding no_chips
returns c = ap {B = Chips} (λ (c : Chip). record { table = replicate 64 c; count = 0 }) c.none-none.ensures
