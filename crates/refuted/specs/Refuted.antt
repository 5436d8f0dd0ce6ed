-- What is wrong with each wrong version: a field for each, beside the words of the document that name it.
use Rattle.std.specs.Prelude.{ℕ, suc, ◌<◌, Bool, true, false, List, [], ◌∷◌, ◌≡◌, length}
use Rattle.identity.specs.Identity.{number_of}
use Rattle.probe.specs.declared.Probe.{Probe}
use Rattle.withdrawal.specs.Withdrawal.{withdraw_number}
use Rattle.triplet_slots.specs.Triplet.{chosen}
use Rattle.bridge.specs.declared.Bridge.{Bridge}
use Rattle.bridge.specs.declared.Pending.TheVariants.{Reset, Triplet}
use Rattle.bridge.specs.declared.Pointer.TheVariants.{Status}
use Rattle.bridge.specs.Bridge.{read_of, write_number, after_write, after_time, after_fitting, after_withdrawal, command, finished_triplet}
use Rattle.bridge.specs.Reached.{Bytes, Reached}
use Rattle.pass.specs.Pass.{noted}
use Rattle.pass.specs.Passes.{search}
use Rattle.packet.specs.Request.{Request, packet_of}
use Rattle.reading.specs.Reading.{reading_of, Refuses}
use Rattle.demand.specs.Demand.{Outcome, Done, bytes_listed, ResumesNone, Meets}
use Rattle.demand.specs.Swaps.{fitted_at}
use Rattle.enumeration.specs.Order.{Among}
use Rattle.levels.specs.Levels.{Pass, after_triplet, both_one, passes_taken}
use Rattle.refuted.specs.Versions.{call_of, always_refuses, fixed_list, first_pass_only, passes_of, passes_as_listed, sorted_as_numbers, search_by, notes_one, starts_again, clears_rst, zero_after_ones, triplet_by, uninverted}

pub record Refuted : Type 0 where
  -- What the wrong versions are held against: the search itself meets the demand by the same frame, and the frame that leaves a rule of the
  -- search open is the search itself where the rule is right; so is that of the triplet.
  pub ours : Meets (call_of search)
  pub rules : (b : ℕ) (s : Bridge) → search_by noted b s ≡ search b s
  pub triplet : (d : Bool) (s : Bridge) → triplet_by chosen d s ≡ finished_triplet d s
  -- "A search, step or packet reader that always refuses"
  pub search_refuses : (f : Bridge → ℕ → List ℕ → ℕ) → Meets (always_refuses f) → ⊥
  pub step_refuses : (f : List ℕ → Bridge → ℕ) → ((x : List ℕ) → Bytes x → (s : Bridge) → Reached s → write_number x s ≡ suc (f x s)) → ⊥
  pub reader_refuses : (f g : List ℕ → ℕ) → ((p : List ℕ) → Refuses (reading_of p) (f p) (g p)) → ⊥
  -- "A fixed list or fixed status byte"
  pub list_fixed : (l : ℕ → List ℕ) → Meets (call_of (fixed_list l)) → ⊥
  pub status_fixed : (v : ℕ) → ((s : Bridge) → Reached s → s.registers.pointer ≡ Status → read_of s ≡ v) → ⊥
  -- "A bridge that acknowledges and does nothing"
  pub write_lazy : ((x : List ℕ) → Bytes x → (s : Bridge) → Reached s → after_write x s ≡ s) → ⊥
  pub time_lazy : ((s : Bridge) → Reached s → after_time s ≡ s) → ⊥
  -- "A search that walks its first pass and fills the others .. without moving the line"
  pub line_left : Meets (call_of first_pass_only) → ⊥
  pub state_left : ((b : ℕ) (s : Bridge) → Reached s → (first_pass_only b s).bridge ≡ (search b s).bridge) → ⊥
  -- "A made-up number of passes"
  pub passes_made_up : (f : ℕ → ℕ) → Meets (call_of (passes_of f)) → ⊥
  pub passes_listed : Meets (call_of passes_as_listed) → ⊥
  -- "Sorting IDs as numbers"
  pub numbers : Meets (call_of sorted_as_numbers) → ⊥
  -- "Remembering a conflict where 1 was taken"
  pub one_noted : Meets (call_of notes_one) → ⊥
  -- "One pass more after the last, which starts the list again"
  pub list_again : Meets (call_of starts_again) → ⊥
  -- "Clearing RST at a 1-Wire reset"
  pub rst_cleared : ((s : Bridge) → Reached s → s.registers.pending ≡ Reset → clears_rst s ≡ after_time s) → ⊥
  -- "Writing 0 after levels 1,1"
  pub zero_written : ((s : Bridge) → Reached s → (d : Bool) → s.registers.pending ≡ Triplet d → triplet_by zero_after_ones d s ≡ after_time s) → ⊥
  -- "Sending CRC-16 uninverted"
  pub crc_plain : ((q : Request) → uninverted q ≡ packet_of q) → ⊥
  -- Document 02, R-6, speaks of a pass that began with presence. Without presence both levels are 1 in a triplet, and so they are, with
  -- presence, in one outside a search.
  pub presence_needed : ((s : Bridge) → Reached s → (b : ℕ) (p : Pass) → Among p (passes_taken b s) → (k : ℕ) → k < 64 → both_one (after_triplet k p) ≡ false) → ⊥
  pub search_needed : ((s : Bridge) → Reached s → s.registers.status.ppd ≡ true → both_one (command (0x78 ∷ 0 ∷ []) s) ≡ false) → ⊥
  -- Document 02, R-3, of the last one listed: a withdrawal that leaves its probe on the line, so that Resume still selects it. And of
  -- withdrawing and fitting again: a new probe with the mark of the old one.
  pub probe_stays : ((s : Bridge) → Reached s → (b : ℕ) (d : List ℕ) (o : Outcome) → Done (call_of search) s b d o → 0 < length (bytes_listed o) → ResumesNone o.bridge) → ⊥
  pub mark_kept : ((s : Bridge) → Reached s → (x : List ℕ) → Bytes x → length x ≡ 8 → withdraw_number x s.line ≡ 0 → (p q : Probe) → Among p (fitted_at s) → p.id ≡ number_of x → Among q (fitted_at (after_fitting x (after_withdrawal x s))) → q.id ≡ number_of x → q.marked ≡ p.marked) → ⊥
