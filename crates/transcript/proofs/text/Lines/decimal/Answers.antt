-- `text::Lines::decimal` meets its contract: the tests tell how many digits the number has, and the digits are put two at a time.
use Rattle.std.proofs.Common.{◌≡◌, ℕ, ◌+◌, ◌/◌, ◌%◌, ◌≤◌, List, [], ◌∷◌, ◌++◌, sym, ap, ◌∙◌, arith}
use Rattle.transcript.specs.declared.text.Lines.{Lines}
use Rattle.transcript.specs.Text.{Puts, pair_of}
use Rattle.transcript.specs.Transcript.{digits_of, decimal}
use Rattle.transcript.proofs.Buffer.{puts_more, puts_same, digits_one, digits_pair, digits_hundreds, length_decimal}
use Rattle.transcript.proofs.text.Lines.decimal.Goals as goal

-- the text put is the number's
of : {a b : Lines} {t : List ℕ} (n : ℕ) → Puts a b t → digits_of 5 n ≡ t → Puts a b (decimal n) × (b.len ≤ a.len + 5)
unfolding decimal
of {a} {b} {t} n p same =
    let whole = puts_same p (sym same) in (whole, omega (arith, whole.put.end, length_decimal n))

pub returns-then-n-ge10000 : goal.returns-then-n-ge10000
returns-then-n-ge10000 c =
    let n = c.args.n in
    let high : n / 100 / 100 ≡ n / 10000 = omega arith in
    let put =
    of n (puts_more (puts_more c.digit.ensures c.pair.ensures) c.pair-then-n-ge10000.ensures)
    (digits_hundreds 3 n (omega arith)
    ∙ ap (λ (t : List ℕ). t ++ pair_of (n % 100))
    (digits_hundreds 1 (n / 100) (omega arith)
    ∙ ap (λ (t : List ℕ). t ++ pair_of (n / 100 % 100)) (digits_one 0 (n / 100 / 100) (omega arith) ∙ ap (λ (d : ℕ). (48 + d) ∷ []) high))) in
    record { puts = put.0; upper_bound = put.1 }

pub returns-then-n-ge1000 : goal.returns-then-n-ge1000
returns-then-n-ge1000 c =
    let n = c.args.n in
    let put =
    of n (puts_more c.pair-then-n-ge1000.ensures c.pair-then-n-ge1000-2.ensures)
    (digits_hundreds 3 n (omega arith) ∙ ap (λ (t : List ℕ). t ++ pair_of (n % 100)) (digits_pair 1 (n / 100) (omega arith) (omega arith))) in
    record { puts = put.0; upper_bound = put.1 }

pub returns-then-n-ge100 : goal.returns-then-n-ge100
returns-then-n-ge100 c =
    let n = c.args.n in
    let put =
    of n (puts_more c.digit-then-n-ge100.ensures c.pair-then-n-ge100.ensures)
    (digits_hundreds 3 n (omega arith) ∙ ap (λ (t : List ℕ). t ++ pair_of (n % 100)) (digits_one 2 (n / 100) (omega arith))) in
    record { puts = put.0; upper_bound = put.1 }

pub returns-then-n-ge10 : goal.returns-then-n-ge10
returns-then-n-ge10 c =
    let n = c.args.n in
    let put = of n c.pair-then-n-ge10.ensures (digits_pair 3 n (omega arith) (omega arith)) in
    record { puts = put.0; upper_bound = put.1 }

pub returns-else-n-ge10 : goal.returns-else-n-ge10
returns-else-n-ge10 c =
    let put = of c.args.n c.digit-else-n-ge10.ensures (digits_one 4 c.args.n (omega arith)) in
    record { puts = put.0; upper_bound = put.1 }
