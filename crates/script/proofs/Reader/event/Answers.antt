-- `script::Reader::event` meets its contract: the four bits read are the event's head.
use Rattle.std.proofs.Common.{arith}
use Rattle.std.proofs.lemmas.Bool.Decides.{nat_tests}
use Rattle.script.specs.Script.{event_of}
use Rattle.script.proofs.Events.{event_is}
use Rattle.script.proofs.Reader.event.Goals as goal

pub returns-in-0 : goal.returns-in-0
unfolding event_of
returns-in-0 c =
    let e = event_is c.args.self.script.now c.args.self.place c.bits-head.result c.bits-head.ensures in
    simp c.in-0.is at e

pub returns-in-1 : goal.returns-in-1
unfolding event_of
returns-in-1 c =
    let e = event_is c.args.self.script.now c.args.self.place c.bits-head.result c.bits-head.ensures in
    simp c.in-1.is at e

pub returns-in-2 : goal.returns-in-2
unfolding event_of
returns-in-2 c =
    let e = event_is c.args.self.script.now c.args.self.place c.bits-head.result c.bits-head.ensures in
    simp c.in-2.is at e

pub returns-in_default : goal.returns-in_default
unfolding event_of
returns-in_default c = grind (arith, nat_tests, event_is c.args.self.script.now c.args.self.place c.bits-head.result c.bits-head.ensures)
