-- What is printed, by the run's answer.
--   printed_done        the lines of the run, which lie in its buffer
--   printed_refused     the line 15, and the buffer is as it was
use mathlib.Core.Path.{◌≡◌, refl}
use mathlib.Core.Bool.{Bool, true, false}
use mathlib.Core.List.{List, [], ◌∷◌, ◌++◌}
use Prim.Native.Nat.{ℕ}
use lib.ListN.{length, drop}
use Rattle.script.specs.Script.{is_script}
use Rattle.std.proofs.Common.{Result, Ok, Err}
use Rattle.transcript.specs.declared.Refusal.{Refusal}
use Rattle.transcript.specs.declared.Refusal.TheVariants.{Malformed}
use Rattle.transcript.specs.Text.{pair_of}
use Rattle.transcript.specs.Transcript.{number_of, lines_of, script_number, run_of, run_buffer}
use Rattle.output.specs.Output.{transcript_of}

module _ (s d : List ℕ) where
  pub printed_done : (n : ℕ) → Ok n ≡ run_of s → (n ≡ length (transcript_of s)) × (run_buffer s d ≡ transcript_of s ++ drop (length (transcript_of s)) d)
  unfolding run_of run_buffer script_number transcript_of
  printed_done n = go (is_script s) refl
    where
      go : (t : Bool) → is_script s ≡ t → Ok n ≡ run_of s → (n ≡ length (transcript_of s)) × (run_buffer s d ≡ transcript_of s ++ drop (length (transcript_of s)) d)
      go true h e = let f : ◌≡◌ {A = Result ℕ Refusal} (Ok n) (Ok (length (lines_of s))) = simp h at e in (simp h (cc), simp h)
      go false h e = let f : ◌≡◌ {A = Result ℕ Refusal} (Ok n) (Err Malformed) = simp h at e in absurd (cc)

  pub printed_refused : (r : Refusal) → Err r ≡ run_of s → (run_buffer s d ≡ d) × (transcript_of s ≡ pair_of (number_of r) ++ 0x0A ∷ [])
  unfolding run_of run_buffer script_number transcript_of
  printed_refused Malformed = go (is_script s) refl
    where
      go : (t : Bool) → is_script s ≡ t → Err Malformed ≡ run_of s → (run_buffer s d ≡ d) × (transcript_of s ≡ 0x31 ∷ 0x35 ∷ 0x0A ∷ [])
      go true h e = let f : ◌≡◌ {A = Result ℕ Refusal} (Err Malformed) (Ok (length (lines_of s))) = simp h at e in absurd (cc)
      go false h e = (simp h, simp h)
