-- The run of a script (document 01, "The bench script" and "Numbers returned").
--   decimal n           n, which is below 100,000, in decimal digits, no leading zeros
--   hexadecimal n       a byte as two upper-case hexadecimal digits
--   Step                what an event gives: its letter, its printed value, the bridge afterwards
--   step_at s k b        the event at bit k of the script s, run on the bridge b
--   line_of i t          the line of the i-th event
--   lines_from s n i k b the lines of n events, numbered from i, from bit k on, run on the bridge b
--   lines_of s           the lines of all events of s
--   script_number s      the number that the run gives for s
--   number_of e          the number of the refusal e
--   run_of s             what the run answers
--   run_number r         document 01's number of the answer r
--   run_values r         its values: how many bytes were written
--   run_buffer s d       the lent buffer d afterwards
use Rattle.std.specs.Prelude.{ℕ, zero, suc, ◌+◌, ◌/◌, ◌%◌, cond, List, [], ◌∷◌, ◌++◌, eqb, ltb, length, drop, Result, Ok, Err}
use Rattle.line.specs.Line.{fit_number}
use Rattle.bridge.specs.declared.Bridge.{Bridge}
use Rattle.bridge.specs.Bridge.{power_on, read_of, write_number, after_write, after_time, after_fitting}
use Rattle.script.specs.Script.{bytes_at, count_of, kind_at, length_at, size_at, is_script}
use Rattle.transcript.specs.declared.Refusal.{Refusal}
use Rattle.transcript.specs.declared.Refusal.TheVariants.{Malformed}

-- ---- numbers as text

-- A number below 10 is one digit; any other is what stands before its last digit, and that digit. The first argument bounds the digits.
unfoldable pub digits_of : ℕ → ℕ → List ℕ
digits_of zero n = []
digits_of (suc d) n = cond (ltb n 10) ((48 + n) ∷ []) (digits_of d (n / 10) ++ ((48 + n % 10) ∷ []))

-- No number that is printed has more than five digits.
unfoldable pub decimal : ℕ → List ℕ
decimal n = digits_of 5 n

-- 0 to 9, then A to F.
unfoldable pub hex_digit : ℕ → ℕ
hex_digit d = cond (ltb d 10) (48 + d) (55 + d)

unfoldable pub hexadecimal : ℕ → List ℕ
hexadecimal n = hex_digit (n / 16) ∷ hex_digit (n % 16) ∷ []

-- ---- the run

pub record Step : Type 0 where
  pub letter : ℕ
  pub value : List ℕ
  pub bridge : Bridge

-- W and the number of the write.
unfoldable pub write_step : List ℕ → Bridge → Step
write_step x b = record { letter = 0x57; value = decimal (write_number x b); bridge = after_write x b }

-- R and the byte read; a read changes nothing.
unfoldable pub read_step : Bridge → Step
read_step b = record { letter = 0x52; value = hexadecimal (read_of b); bridge = b }

-- T and 0: time always passes.
unfoldable pub wait_step : Bridge → Step
wait_step b = record { letter = 0x54; value = decimal 0; bridge = after_time b }

-- F and the number of the fitting.
unfoldable pub fit_step : List ℕ → Bridge → Step
fit_step x b = record { letter = 0x46; value = decimal (fit_number x b.line); bridge = after_fitting x b }

-- Kind 0 is a write, 1 a read, 2 lets time pass, 3 fits a probe.
unfoldable pub step_at : List ℕ → ℕ → Bridge → Step
step_at s k b =
    cond (eqb (kind_at s k) 0) (write_step (bytes_at s (k + 4) (length_at s k)) b)
    (cond (eqb (kind_at s k) 1) (read_step b)
    (cond (eqb (kind_at s k) 2) (wait_step b) (fit_step (bytes_at s (k + 2) 8) b)))

-- Event number, a space, the letter, a space, the value; a newline ends the line.
unfoldable pub line_of : ℕ → Step → List ℕ
line_of i t = decimal i ++ (0x20 ∷ t.letter ∷ 0x20 ∷ []) ++ t.value ++ (0x0A ∷ [])

unfoldable pub lines_from : List ℕ → ℕ → ℕ → ℕ → Bridge → List ℕ
lines_from s zero i k b = []
lines_from s (suc n) i k b =
    line_of i (step_at s k b) ++ lines_from s n (suc i) (k + size_at s k) (step_at s k b).bridge

-- From power-on with no probe, numbered from 1.
unfoldable pub lines_of : List ℕ → List ℕ
lines_of s = lines_from s (count_of s) 1 16 power_on

-- ---- its answer

-- 15 exactly when the script is not of its form.
unfoldable pub script_number : List ℕ → ℕ
script_number s = cond (is_script s) 0 15

-- Its number in the table of document 01.
abbrev pub number_of : Refusal → ℕ
number_of Malformed = 15

unfoldable pub run_of : List ℕ → Result ℕ Refusal
run_of s = cond (eqb (script_number s) 0) (Ok (length (lines_of s))) (Err Malformed)

-- What an answer means. A run that was done has the number 0; a refusal returns its number alone.
abbrev pub run_number : Result ℕ Refusal → ℕ
run_number (Ok len) = 0
run_number (Err e) = number_of e

abbrev pub run_values : Result ℕ Refusal → List ℕ
run_values (Ok len) = len ∷ []
run_values (Err e) = []

-- The lines lie at the front of the buffer; bytes behind them stay. A refused script changes no byte.
unfoldable pub run_buffer : List ℕ → List ℕ → List ℕ
run_buffer s d = cond (eqb (script_number s) 0) (lines_of s ++ drop (length (lines_of s)) d) d
