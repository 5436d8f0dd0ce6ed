-- The reader's type over the one lifetime of a signature.
--   B κs           its row
--   D κs           the type as it is declared
--   L κs           that type's laws
--   typed          a reader's machine value has the reader's type
use Rattle.std.proofs.Common.{T as Holds, [], ◌∷◌}
use seplogic.Ra.Ura.{Ura}
use mir.Syntax.{named}
use mir.Val.{WT, has_ty}
use types.Logic.{Logic}
use contract.Lifetimes.{Lfts}
use denote.RattleType.{RattleType}
use denote.Laws.{Is}
use denote.Signature.{named_lft}
use denote.Struct.Declared.{Declared}
use denote.Struct.Laws as LL
use Rattle.script.specs.declared.Reader.{Reader}
use Rattle.script.specs.contracts.Reader as T
use Rattle.script.proofs.Reader.TheLaws as T'

abbrev pub B : Lfts 1 → RattleType
B κs = T.the_row (named_lft 1 0 tt κs)

abbrev pub D : Lfts 1 → Declared
D κs = T.the_type (named_lft 1 0 tt κs)

abbrev pub L : (κs : Lfts 1) → LL.Laws (D κs)
L κs = T'.the_laws (named_lft 1 0 tt κs)

pub typed : {M : Type 1} {𝓤 : Ura M} (𝓛 : Logic 𝓤) → (κs : Lfts 1) (d : Reader) → Is (B κs) d (T'.lowered d ∷ []) → Holds (has_ty (T'.mir (named 0)) (T'.lowered d)) × WT (T'.lowered d)
typed 𝓛 κs d is = ((LL.lawful (D κs) (L κs) 𝓛).typed d _ is).0
