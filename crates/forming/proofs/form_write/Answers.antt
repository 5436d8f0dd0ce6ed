-- `forming::form_write` meets its contract: each test in its turn is an outcome, and behind them the packet is laid.
use Rattle.std.proofs.Common.{◌∙◌, ap, ap₂, Bool, ◌&&◌, [], ◌∷◌, ℕ, length, arith}
use Rattle.packet.specs.Request.{write}
use Rattle.forming.specs.Buffer.{over}
use Rattle.forming.specs.Forming.{in_limits, good_count}
use Rattle.forming.proofs.Forming.{outside, short, laid, write_laid, length_write}
use Rattle.forming.proofs.form_write.Goals as goal

pub returns-in_err-to : goal.returns-in_err-to
unfolding in_limits
returns-in_err-to c =
    let a = c.args in
    let why = c.in_err-to.ensures in
    let r =
    outside (write a.address a.data.now) a.buffer.now c.from_residual.result _ c.from_residual.ensures.1 why.1
    (ap (λ (t : Bool). t && good_count (length a.data.now)) why.0) in
    record { value = r.0; buffer_after = r.1 }

pub returns-in_err-len : goal.returns-in_err-len
unfolding in_limits
returns-in_err-len c =
    let a = c.args in
    let why = c.in_err-len.ensures in
    let r =
    outside (write a.address a.data.now) a.buffer.now c.from_residual-in_err-len.result _ c.from_residual-in_err-len.ensures.1 why.1
    (ap₂ ◌&&◌ c.in_ok-to.ensures.0 why.0) in
    record { value = r.0; buffer_after = r.1 }

pub returns-in_err-roomy : goal.returns-in_err-roomy
unfolding in_limits
returns-in_err-roomy c =
    let a = c.args in
    let why = c.in_err-roomy.ensures in
    let r =
    short (write a.address a.data.now) a.buffer.now c.from_residual-in_err-roomy.result _ c.from_residual-in_err-roomy.ensures.1 why.1
    (ap₂ ◌&&◌ c.in_ok-to.ensures.0 c.in_ok-len.ensures.0)
    (omega (arith, why.0, length_write a.address a.data.now)) in
    record { value = r.0; buffer_after = r.1 }

pub returns : goal.returns
unfolding in_limits
returns c =
    let a = c.args in
    let r =
    laid (write a.address a.data.now) a.buffer.now c.put_seal.new.buffer
    (ap₂ ◌&&◌ c.in_ok-to.ensures.0 c.in_ok-len.ensures.0)
    (omega (arith, c.in_ok-roomy.ensures, length_write a.address a.data.now))
    (c.put_seal.ensures ∙ write_laid a.address a.data.now a.buffer.now c.put_head.new.buffer c.put_data.new.buffer
    (c.put_head.ensures ∙ ap₂ (λ (x y : ℕ). over (0x4B ∷ x ∷ y ∷ []) a.buffer.now) c.in_ok-to.ensures.1 c.in_ok-len.ensures.1)
    c.put_data.ensures) in
    record { value = r.0; buffer_after = r.1 }
