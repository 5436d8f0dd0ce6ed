-- `listing::put` meets its contract: what is copied to the place is the bytes of the ID.
use mathlib.Core.Path.{sym, ◌∙◌}
use native.Mathlib.Omega.{arith}
use Rattle.std.proofs.lemmas.Slice.{put_mid-paste}
use Rattle.search.specs.Search.{bytes_from}
use Rattle.search.proofs.Bytes.{length_bytes_from, le_bytes_from}
use Rattle.search.proofs.listing.put.Goals as goal

pub returns : goal.returns
returns c =
    let a = c.args in
    put_mid-paste a.place _ a.list.now _ (bytes_from 8 a.id) 8
    (c.copy_from_slice.ensures.after ∙ c.to_le_bytes.ensures ∙ le_bytes_from a.id) (omega arith)
    (sym (length_bytes_from 8 a.id))
