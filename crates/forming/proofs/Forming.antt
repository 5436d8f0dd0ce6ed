-- Forming, put together from its steps: the buffer after each step is the packet's first bytes over what was there.
--   length_write, length_read, length_write_read    how long a packet is
--   outside, short, laid    the outcomes of a call: refused for its limits or its buffer, or the packet laid
--   sealed              the checksum completes the packet
--   write_laid, read_laid, write_read_laid    the steps of each form
use Rattle.std.proofs.Common.{◌≡◌, refl, sym, ap, ap₂, subst, ◌∙◌, Bool, true, false, cond, List, [], ◌∷◌, ◌++◌, ℕ, ◌+◌, ◌*◌, ◌<◌, ◌≤◌, arith, length, take, length-append, Result, Ok, Err}
use Rattle.std.specs.Result.{IsErrAnd}
use borrow.Author.Tests.{eq-eqb, ne_eqb, lt-leb, le-leb}
use lib.ListN.{set}
use Rattle.forming.specs.declared.Refusal.{Refusal}
use Rattle.forming.specs.declared.Refusal.TheVariants.{Limits, Buffer}
use Rattle.forming.specs.Buffer.{over, placed}
use Rattle.packet.specs.Request.{Request, write, read, write_read, body_of, seal_of, packet_of}
use Rattle.forming.specs.Forming.{number_of, number_in, in_limits, number_for, form_number, formed}
use Rattle.forming.proofs.Buffer.{over_placed, take_over, placed_one, length_over}

-- ---- lengths

length_packet : (q : Request) → length (packet_of q) ≡ length (body_of q) + 2
unfolding packet_of seal_of
length_packet q = length-append (body_of q) (seal_of (body_of q))

length_body : (a : ℕ) (s : List ℕ) → length (body_of (write a s)) ≡ length s + 3
unfolding body_of
length_body a s = omega arith

length_bodies : (a : ℕ) (s : List ℕ) (r : ℕ) → length (body_of (write_read a s r)) ≡ length s + 4
unfolding body_of
length_bodies a s r = omega (arith, length-append s (r ∷ []))

pub length_write : (a : ℕ) (s : List ℕ) → length (packet_of (write a s)) ≡ length s + 5
length_write a s = omega (arith, length_packet (write a s), length_body a s)

pub length_read : (a r : ℕ) → length (packet_of (read a r)) ≡ 5
unfolding packet_of body_of seal_of
length_read a r = refl

pub length_write_read : (a : ℕ) (s : List ℕ) (r : ℕ) → length (packet_of (write_read a s r)) ≡ length s + 6
length_write_read a s r = omega (arith, length_packet (write_read a s r), length_bodies a s r)

-- ---- the outcomes of a call: the number, and the buffer afterwards

refused : (q : Request) (d : List ℕ) (n : ℕ) → n ≡ form_number q d → (n ≡ 0 → ⊥) → (n ≡ form_number q d) × (d ≡ formed q d)
unfolding formed
refused q d n e h =
    (e, sym (ap (λ (t : Bool). cond t (over (packet_of q) d) d) (ne_eqb (form_number q d) 0 (λ z. h (e ∙ z)))))

pub outside : (q : Request) (d : List ℕ) (r : Result Unit Refusal) (why : Refusal) → IsErrAnd r (λ x. x ≡ why) → why ≡ Limits → in_limits q ≡ false → (number_in r ≡ form_number q d) × (d ≡ formed q d)
unfolding form_number
outside q d (Ok x) why h e f = elim h [ ]
outside q d (Err x) why h e f =
    refused q d (number_of x)
    (ap number_of (h ∙ e) ∙ sym (ap (λ (t : Bool). number_for t (length (packet_of q)) (length d)) f))
    (λ z. absurd (omega (arith, sym (ap number_of (h ∙ e)) ∙ z)))

pub short : (q : Request) (d : List ℕ) (r : Result Unit Refusal) (why : Refusal) → IsErrAnd r (λ x. x ≡ why) → why ≡ Buffer → in_limits q ≡ true → length d < length (packet_of q) → (number_in r ≡ form_number q d) × (d ≡ formed q d)
unfolding form_number
short q d (Ok x) why h e f room = elim h [ ]
short q d (Err x) why h e f room =
    refused q d (number_of x)
    (ap number_of (h ∙ e)
    ∙ sym (ap₂ (λ (t u : Bool). cond t (cond u 0 12) 11) f (lt-leb (length (packet_of q)) (length d) room)))
    (λ z. absurd (omega (arith, sym (ap number_of (h ∙ e)) ∙ z)))

pub laid : (q : Request) (d e : List ℕ) → in_limits q ≡ true → length (packet_of q) ≤ length d → e ≡ over (packet_of q) d → (0 ≡ form_number q d) × (e ≡ formed q d)
unfolding form_number formed
laid q d e f room h = (sym done, h ∙ sym (ap (λ (t : Bool). cond t (over (packet_of q) d) d) (eq-eqb (form_number q d) 0 done)))
  where
    done : form_number q d ≡ 0
    done = ap₂ (λ (t u : Bool). cond t (cond u 0 12) 11) f (le-leb (length (packet_of q)) (length d) room)

-- ---- the steps

pub sealed : (q : Request) (d : List ℕ) (n : ℕ) → length (body_of q) ≡ n → placed n (seal_of (take n (over (body_of q) d))) (over (body_of q) d) ≡ over (packet_of q) d
unfolding packet_of
sealed q d n h =
    subst (λ (k : ℕ). placed k (seal_of (take k (over (body_of q) d))) (over (body_of q) d) ≡ over (packet_of q) d) h
    (ap (λ (s : List ℕ). placed (length (body_of q)) (seal_of s) (over (body_of q) d)) (take_over (body_of q) d)
    ∙ over_placed (body_of q) (seal_of (body_of q)) d)

-- a seal put on a buffer that begins with the body
sealed_on : (q : Request) (d b : List ℕ) (n : ℕ) → length (body_of q) ≡ n → b ≡ over (body_of q) d → placed n (seal_of (take n b)) b ≡ over (packet_of q) d
sealed_on q d b n h e = ap (λ (x : List ℕ). placed n (seal_of (take n x)) x) e ∙ sealed q d n h

pub read_laid : (a r : ℕ) (d b : List ℕ) → b ≡ over (0x87 ∷ (a * 2 + 1) ∷ r ∷ []) d → placed 3 (seal_of (take 3 b)) b ≡ over (packet_of (read a r)) d
unfolding body_of
read_laid a r d b e = sealed_on (read a r) d b 3 refl e

pub write_laid : (a : ℕ) (s d b₁ b₂ : List ℕ) → b₁ ≡ over (0x4B ∷ (a * 2) ∷ length s ∷ []) d → b₂ ≡ placed 3 s b₁ → placed (length s + 3) (seal_of (take (length s + 3) b₂)) b₂ ≡ over (packet_of (write a s)) d
unfolding body_of
write_laid a s d b₁ b₂ e f =
    sealed_on (write a s) d b₂ (length s + 3) (length_body a s)
    (f ∙ ap (placed 3 s) e ∙ over_placed (0x4B ∷ (a * 2) ∷ length s ∷ []) s d)

pub write_read_laid : (a : ℕ) (s : List ℕ) (r : ℕ) (d b₁ b₂ : List ℕ) → b₁ ≡ over (0x2D ∷ (a * 2) ∷ length s ∷ []) d → b₂ ≡ placed 3 s b₁ → length s + 6 ≤ length d → let b₃ = set b₂ (length s + 3) r in placed (length s + 4) (seal_of (take (length s + 4) b₃)) b₃ ≡ over (packet_of (write_read a s r)) d
unfolding body_of
write_read_laid a s r d b₁ b₂ e f room =
    let h : List ℕ = 0x2D ∷ (a * 2) ∷ length s ∷ s in
    let at : length h ≡ length s + 3 = omega arith in
    let front : b₂ ≡ over h d = f ∙ ap (placed 3 s) e ∙ over_placed (0x2D ∷ (a * 2) ∷ length s ∷ []) s d in
    let long : length (over h d) ≡ length d = length_over h d (omega arith) in
    let stored : set b₂ (length s + 3) r ≡ over (h ++ (r ∷ [])) d
    = ap (λ (x : List ℕ). set x (length s + 3) r) front ∙ ap (λ (k : ℕ). set (over h d) k r) (sym at)
    ∙ placed_one (length h) r (over h d) (omega arith) ∙ over_placed h (r ∷ []) d in
    sealed_on (write_read a s r) d (set b₂ (length s + 3) r) (length s + 4) (length_bodies a s r) stored
