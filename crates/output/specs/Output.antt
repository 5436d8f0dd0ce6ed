-- What the bench prints for a script (document 01, "The bench script").
--   transcript_of s      all that the bench prints for s
use Rattle.std.specs.Prelude.{ℕ, cond, List, [], ◌∷◌}
use Rattle.script.specs.Script.{is_script}
use Rattle.transcript.specs.Transcript.{lines_of}

-- A malformed script is refused before any event runs; the program then prints the single line 15.
unfoldable pub transcript_of : List ℕ → List ℕ
transcript_of s = cond (is_script s) (lines_of s) (0x31 ∷ 0x35 ∷ 0x0A ∷ [])
