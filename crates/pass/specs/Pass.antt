-- One pass of a search (document 01, "The search").
--   direction i c k      the direction asked for at bit k, after a pass that ended at the ID i with the last conflict c
--   triplet_byte d        the parameter of a triplet that asks for d
--   noted f s t k c      the last conflict after bit k with the levels f and s and the bit t taken, where it was c before
--   took_triplet k b w    the walk w after the triplet of bit k, which left the bridge b
--   tripled i c k w      the walk w after the triplet of bit k
--   walked n k i c w     the walk w after the n triplets from bit k on
--   begun b              the walk before its first triplet
--   passed i c b         a pass from the bridge b on, where a probe is present
use Rattle.std.specs.Prelude.{ℕ, zero, suc, ◌+◌, ◌*◌, ◌^◌, Bool, false, cond, [], ◌∷◌, eqb, ltb, Option, None, Some}
use Rattle.identity.specs.Identity.{bit_of}
use Rattle.probe.specs.Probe.{digit}
use Rattle.bridge.specs.declared.Bridge.{Bridge}
use Rattle.bridge.specs.Bridge.{command}
use Rattle.pass.specs.declared.Walk.{Walk}

-- Below the last conflict the bit of the previous ID, 1 at it, 0 above it; the first pass has no conflict behind it and always takes 0.
unfoldable pub direction : ℕ → Option ℕ → ℕ → Bool
direction i None k = false
direction i (Some c) k = cond (ltb k c) (bit_of i k) (eqb k c)

-- A triplet's parameter carries the direction in bit 7.
abbrev pub triplet_byte : Bool → ℕ
triplet_byte d = 128 * digit d

-- The last conflict is the highest bit with levels 0,0 where 0 was taken; bits come in rising order, so a later one replaces it.
unfoldable pub noted : Bool → Bool → Bool → ℕ → Option ℕ → Option ℕ
noted first second taken k c = cond first c (cond second c (cond taken c (Some k)))

-- What the bridge shows after the triplet: SBR and TSB are the levels and DIR the bit taken.
unfoldable pub took_triplet : ℕ → Bridge → Walk → Walk
took_triplet k b w =
    let s = b.registers.status in
    record {
      bridge = b;
      id = w.id + digit s.dir * 2 ^ k;
      conflict = noted s.sbr s.tsb s.dir k w.conflict;
    }

unfoldable pub tripled : ℕ → Option ℕ → ℕ → Walk → Walk
tripled i c k w = took_triplet k (command (0x78 ∷ triplet_byte (direction i c k) ∷ []) w.bridge) w

unfoldable pub walked : ℕ → ℕ → ℕ → Option ℕ → Walk → Walk
walked zero k i c w = w
walked (suc n) k i c w = walked n (suc k) i c (tripled i c k w)

-- No bit has been taken yet.
abbrev pub begun : Bridge → Walk
begun b = record { bridge = b; id = 0; conflict = None }

-- Write Byte F0h and 64 triplets.
unfoldable pub passed : ℕ → Option ℕ → Bridge → Walk
passed i c b = walked 64 0 i c (begun (command (0xA5 ∷ 0xF0 ∷ []) b))
