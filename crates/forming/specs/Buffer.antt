-- Bytes put into a lent buffer (document 01, "Packets": bytes behind the packet stay).
--   over p d        p at the front of the buffer d, and the bytes behind p as they were
--   placed n s d    s at the place n of the buffer d, and the other bytes as they were
use Rattle.std.specs.Prelude.{ℕ, ◌+◌, List, ◌++◌, length, take, drop}

unfoldable pub over : List ℕ → List ℕ → List ℕ
over p d = p ++ drop (length p) d

unfoldable pub placed : ℕ → List ℕ → List ℕ → List ℕ
placed n s d = take n d ++ s ++ drop (n + length s) d
