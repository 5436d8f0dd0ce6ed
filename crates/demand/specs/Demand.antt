-- What is asked of a search: the third demand of the request, with what document 02, R-3, adds to it, said of any search, over the
-- definitions of the bridge, of the answer and of search order alone.
--   Outcome            what a search gives back: its answer, and the bridge and the list buffer afterwards
--   Search             a search: which outcomes it may have, from a state, with an allowance and with a list buffer
--   Done run s b d o   o is such an outcome, and the list buffer d has room for 8 × the smaller of b and 64 bytes
--   bytes_listed o      the bytes that the outcome o lists, at the front of its buffer
--   ids_at s            the IDs on the line behind s, in the order in which they came
--   after_resume s      s after a 1-Wire Reset and a Resume, each given its time
--   Resumed x l        of the probes of the line l the one with the ID x is selected, and all others are deaf
--   Resumes x s        from the state s on a 1-Wire Reset and a Resume are accepted, and lead there
--   ResumesNone s      from the state s on both are accepted, and lead to a line on which every probe is deaf
--   Demand run s       what has to hold of every search `run` from the state s on
--   Meets run          the demand, of every state that calls reach
use Rattle.std.specs.Prelude.{ℕ, ◌*◌, ◌≤◌, ◌<◌, min, max, cond, ◌&&◌, List, [], ◌∷◌, ◌++◌, ◌≡◌, eqb, leb, length, get_or, take, drop}
use Rattle.identity.specs.Identity.{number_of}
use Rattle.probe.specs.declared.Condition.TheVariants.{Deaf, Selected}
use Rattle.probe.specs.declared.Probe.{Probe}
use Rattle.probe.specs.Probe.{digit}
use Rattle.line.specs.declared.Line.{Line}
use Rattle.line.specs.Line.{fitted, ids_of, fit_number}
use Rattle.withdrawal.specs.Withdrawal.{withdraw_number}
use Rattle.bridge.specs.declared.Bridge.{Bridge}
use Rattle.bridge.specs.Bridge.{write_number, command, after_fitting, after_withdrawal}
use Rattle.bridge.specs.Reached.{Bytes, Reached}
use Rattle.search.specs.Search.{Answer, answer_number, answer_values, list_of}
use Rattle.enumeration.specs.Order.{Among, InOrder}

pub record Outcome : Type 0 where
  pub answer : Answer
  pub bridge : Bridge
  pub list : List ℕ

abbrev pub Search : Type 1
Search = Bridge → ℕ → List ℕ → Outcome → Type 0

abbrev pub Done : Search → Bridge → ℕ → List ℕ → Outcome → Type 0
Done run s b d o = run s b d o × (8 * min b 64 ≤ length d)

-- The number listed is the first of the answer's values; an ID has eight bytes.
abbrev pub bytes_listed : Outcome → List ℕ
bytes_listed o = take (8 * get_or (answer_values o.answer) 0 0) o.list

abbrev pub ids_at : Bridge → List ℕ
ids_at s = ids_of s.line

abbrev pub after_resume : Bridge → Bridge
after_resume s = command (0xA5 ∷ 0xA5 ∷ []) (command (0xB4 ∷ []) s)

pub record Resumed (x : ℕ) (l : Line) : Type 0 where
  pub there : Among x (ids_of l)
  pub only : (p : Probe) → Among p (fitted l) → p.condition ≡ cond (eqb p.id x) Selected Deaf

pub record Resumes (x : ℕ) (s : Bridge) : Type 0 where
  pub reset_accepted : write_number (0xB4 ∷ []) s ≡ 0
  pub resume_accepted : write_number (0xA5 ∷ 0xA5 ∷ []) (command (0xB4 ∷ []) s) ≡ 0
  pub selects : Resumed x (after_resume s).line

pub record ResumesNone (s : Bridge) : Type 0 where
  pub reset_accepted : write_number (0xB4 ∷ []) s ≡ 0
  pub resume_accepted : write_number (0xA5 ∷ 0xA5 ∷ []) (command (0xB4 ∷ []) s) ≡ 0
  pub selects_none : (p : Probe) → Among p (fitted (after_resume s).line) → p.condition ≡ Deaf

-- n is the number of IDs on the line: of the probes that are fitted now.
pub record Demand (run : Search) (s : Bridge) : Type 0 where
  -- At most 64 probes.
  pub at_most : length (ids_at s) ≤ 64
  -- The n IDs in search order: there is exactly one such list.
  pub order : List ℕ
  pub ordered : InOrder (ids_at s) order
  pub unique : (l : List ℕ) → InOrder (ids_at s) l → l ≡ order
  -- It answers, whatever it is asked.
  pub some : (b : ℕ) (d : List ℕ) → (o : Outcome) × run s b d o
  -- Allowed b passes, with room for 8 × the smaller of b and 64 bytes, it is done and not refused.
  pub done : (b : ℕ) (d : List ℕ) (o : Outcome) → Done run s b d o → answer_number o.answer ≡ 0
  -- It lists the first of the n IDs in search order, as many as the smaller of b and n; the bytes behind them stay.
  pub listed : (b : ℕ) (d : List ℕ) (o : Outcome) → Done run s b d o → o.list ≡ list_of (take b order) ++ drop (8 * min b (length (ids_at s))) d
  -- The number listed is the smaller of b and n, the passes used are the smaller of b and the larger of 1 and n, and it says complete
  -- exactly when b is at least 1 and at least n.
  pub values : (b : ℕ) (d : List ℕ) (o : Outcome) → Done run s b d o → answer_values o.answer ≡ min b (length (ids_at s)) ∷ min b (max 1 (length (ids_at s))) ∷ digit (leb 1 b && leb (length (ids_at s)) b) ∷ []
  -- Without that room it is refused with 9, and changes neither state nor buffer.
  pub refused : (b : ℕ) (d : List ℕ) (o : Outcome) → run s b d o → length d < 8 * min b 64 → (answer_number o.answer ≡ 9) × (o.bridge ≡ s) × (o.list ≡ d)
  -- The eight bytes that are listed of an ID are those that were fitted.
  pub bytes : (x : List ℕ) → Bytes x → length x ≡ 8 → list_of (number_of x ∷ []) ≡ x
  -- More passes only lengthen the list at its end.
  pub longer : (b c : ℕ) (d e : List ℕ) (o q : Outcome) → b ≤ c → Done run s b d o → Done run s c e q → (r : List ℕ) × (bytes_listed q ≡ bytes_listed o ++ r)
  -- Fitting one more probe leaves all others in their order in the complete list.
  pub fitting : (x : List ℕ) → Bytes x → length x ≡ 8 → fit_number x s.line ≡ 0 → (b : ℕ) (d e : List ℕ) (o q : Outcome) → length (ids_at s) < b → Done run s b d o → Done run (after_fitting x s) b e q → (p : List ℕ) × (r : List ℕ) × (bytes_listed q ≡ list_of p ++ (x ++ list_of r)) × (bytes_listed o ≡ list_of p ++ list_of r)
  -- Withdrawing one probe leaves all others in their order in the complete list.
  pub withdrawing : (x : List ℕ) → Bytes x → length x ≡ 8 → withdraw_number x s.line ≡ 0 → (b : ℕ) (d e : List ℕ) (o q : Outcome) → length (ids_at s) ≤ b → Done run s b d o → Done run (after_withdrawal x s) b e q → (p : List ℕ) × (r : List ℕ) × (bytes_listed o ≡ list_of p ++ (x ++ list_of r)) × (bytes_listed q ≡ list_of p ++ list_of r)
  -- If anything was listed, a 1-Wire reset and then Resume select only the last one listed.
  pub resume : (b : ℕ) (d : List ℕ) (o : Outcome) → Done run s b d o → 0 < length (bytes_listed o) → (p : List ℕ) × (x : ℕ) × (bytes_listed o ≡ list_of (p ++ x ∷ [])) × Resumes x o.bridge
  -- If the last one listed, whose bytes are the last eight, is withdrawn directly after the search, they select none.
  pub resume_none : (b : ℕ) (d : List ℕ) (o : Outcome) → Done run s b d o → 0 < length (bytes_listed o) → (p : List ℕ) × (x : List ℕ) × (bytes_listed o ≡ p ++ x) × (length x ≡ 8) × (withdraw_number x o.bridge.line ≡ 0) × ResumesNone (after_withdrawal x o.bridge)
  -- The state afterwards is one that calls reach, with the same probes on the line; and so after the Resume.
  pub reached : (b : ℕ) (d : List ℕ) (o : Outcome) → run s b d o → Reached o.bridge
  pub kept : (b : ℕ) (d : List ℕ) (o : Outcome) → run s b d o → (ids_at o.bridge ≡ ids_at s) × (ids_at (after_resume o.bridge) ≡ ids_at s)

-- Take any line of n accepted probes, after any calls.
abbrev pub Meets : Search → Type 0
Meets run = (s : Bridge) → Reached s → Demand run s
