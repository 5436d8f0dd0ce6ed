-- Each contract leaves one answer for each argument.
--   OneEnsured T c       of two results that the contract c ensures for the same arguments it follows that they are equal
use Rattle.std.proofs.Common.{◌≡◌, ℕ, List, sym, ◌∙◌, ap₂, Bor}
use seplogic.Ra.Ura.{Ura}
use base.Logic.{SProp, ent, emp}
use prog.Memory.{Memory}
use prog.Routine.{Routine}
use types.Logic.{Logic}
use contract.Lifetimes.{Lfts}
use contract.Monad.{Fun, conj, fact, fact_i, guard-conj, conj-guard}
use denote.Triple.Entry.{Args, Res}
use denote.Triple.Clauses.{Ended, AtExit, Clauses}
use Rattle.checksum.proofs.Unique.{OneAnswer}
use Rattle.script.specs.declared.Reader.{Reader}
use Rattle.script.specs.contracts.Reader.opened as opened
use Rattle.script.specs.contracts.Reader.moved as moved
use Rattle.script.specs.contracts.Reader.bits as bits
use Rattle.script.specs.contracts.Reader.event as event
use Rattle.script.proofs.bits_from.Reads as bits_from
use Rattle.script.proofs.Event.size.Reads as size
use Rattle.script.proofs.count_of.Reads as count_of
use Rattle.script.proofs.is_script.Reads as is_script

pub one_bits_from : OneAnswer bits_from.Post
one_bits_from κ a x y s t p q = p ∙ sym q

pub one_size : OneAnswer size.Post
one_size κ a x y s t p q = p ∙ sym q

pub one_count_of : OneAnswer count_of.Post
one_count_of κ a x y s t p q = p ∙ sym q

pub one_is_script : OneAnswer is_script.Post
one_is_script κ a x y s t p q = p ∙ sym q

-- ---- the functions over the reader

-- Their contracts are assertions of the program logic, in every model of it: no result but one can have what the clause asserts, whatever
-- the arguments are at exit.
abbrev pub OneEnsured : {M : Type 1} (𝓤 : Ura M) (T : Ended) → Clauses 𝓤 T → Type 1
OneEnsured 𝓤 T c =
    (κs : Lfts T.signature.lifetimes) (a : Args T.signature κs) (g : (c κs a).ghost) (x y : Res T.signature κs) (s t : AtExit T κs)
    → ent 𝓤 (conj 𝓤 ((c κs a).ensures g x s) ((c κs a).ensures g y t)) (fact 𝓤 (x ≡ y))

-- two facts from which a third follows
both : {M : Type 1} (𝓤 : Ura M) {P Q R : Type 0} → (P → Q → R) → ent 𝓤 (conj 𝓤 (fact 𝓤 P) (fact 𝓤 Q)) (fact 𝓤 R)
both 𝓤 {P} {Q} {R} f =
    guard-conj 𝓤 P (emp 𝓤) (fact 𝓤 Q) (λ p. conj-guard 𝓤 Q (emp 𝓤) (emp 𝓤) (λ q. fact_i 𝓤 R (conj 𝓤 (emp 𝓤) (emp 𝓤)) (f p q)))

-- a reader is its slice and its place
one_reader : {r : Bor (List ℕ)} {k : ℕ} (x y : Reader) → (x.script ≡ r) × (x.place ≡ k) → (y.script ≡ r) × (y.place ≡ k) → x ≡ y
one_reader x y p q =
    ap₂ (λ (r : Bor (List ℕ)) (k : ℕ). record { script = r; place = k }) (p.0 ∙ sym q.0) (p.1 ∙ sym q.1)

module _ {M : Type 1} {𝓤 : Ura M} (𝓛 : Logic 𝓤) (mem : Memory → SProp 𝓤) (run : Routine → Fun 𝓤) where
  pub one_opened : OneEnsured 𝓤 opened.ended (opened.clauses 𝓛 mem run)
  one_opened κs a g x y s t = both 𝓤 (one_reader x y)

  pub one_moved : OneEnsured 𝓤 moved.ended (moved.clauses 𝓛 mem run)
  one_moved κs a g x y s t = both 𝓤 (one_reader x y)

  pub one_bits : OneEnsured 𝓤 bits.ended (bits.clauses 𝓛 mem run)
  one_bits κs a g x y s t = both 𝓤 (λ p q. p ∙ sym q)

  pub one_event : OneEnsured 𝓤 event.ended (event.clauses 𝓛 mem run)
  one_event κs a g x y s t = both 𝓤 (λ p q. p ∙ sym q)
