-- `forming::form_read` meets its contract: each test in its turn is an outcome, and behind them the packet is laid.
use Rattle.std.proofs.Common.{◌∙◌, ap, ap₂, Bool, ◌&&◌, ◌+◌, [], ◌∷◌, ℕ, arith}
use Rattle.packet.specs.Request.{read}
use Rattle.forming.specs.Buffer.{over}
use Rattle.forming.specs.Forming.{in_limits, good_count}
use Rattle.forming.proofs.Forming.{outside, short, laid, read_laid, length_read}
use Rattle.forming.proofs.form_read.Goals as goal

pub returns-in_err-from : goal.returns-in_err-from
unfolding in_limits
returns-in_err-from c =
    let a = c.args in
    let why = c.in_err-from.ensures in
    let r =
    outside (read a.address a.count) a.buffer.now c.from_residual.result _ c.from_residual.ensures.1 why.1
    (ap (λ (t : Bool). t && good_count a.count) why.0) in
    record { value = r.0; buffer_after = r.1 }

pub returns-in_err-count : goal.returns-in_err-count
unfolding in_limits
returns-in_err-count c =
    let a = c.args in
    let why = c.in_err-count.ensures in
    let r =
    outside (read a.address a.count) a.buffer.now c.from_residual-in_err-count.result _ c.from_residual-in_err-count.ensures.1 why.1
    (ap₂ ◌&&◌ c.in_ok-from.ensures.0 why.0) in
    record { value = r.0; buffer_after = r.1 }

pub returns-in_err-roomy : goal.returns-in_err-roomy
unfolding in_limits
returns-in_err-roomy c =
    let a = c.args in
    let why = c.in_err-roomy.ensures in
    let r =
    short (read a.address a.count) a.buffer.now c.from_residual-in_err-roomy.result _ c.from_residual-in_err-roomy.ensures.1 why.1
    (ap₂ ◌&&◌ c.in_ok-from.ensures.0 c.in_ok-count.ensures.0)
    (omega (arith, why.0, length_read a.address a.count)) in
    record { value = r.0; buffer_after = r.1 }

pub returns : goal.returns
unfolding in_limits
returns c =
    let a = c.args in
    let r =
    laid (read a.address a.count) a.buffer.now c.put_seal.new.buffer
    (ap₂ ◌&&◌ c.in_ok-from.ensures.0 c.in_ok-count.ensures.0)
    (omega (arith, c.in_ok-roomy.ensures, length_read a.address a.count))
    (c.put_seal.ensures ∙ read_laid a.address a.count a.buffer.now c.put_head.new.buffer
    (c.put_head.ensures ∙ ap₂ (λ (x y : ℕ). over (0x87 ∷ (x + 1) ∷ y ∷ []) a.buffer.now) c.in_ok-from.ensures.1 c.in_ok-count.ensures.1)) in
    record { value = r.0; buffer_after = r.1 }
