-- What each way through the export of an answer shows.
--
-- In order: the number of rows of an answer; a clearing by another name.
-- Assumes nothing.
use mathlib.Core.Path.{◌≡◌, sym, ap}
use mathlib.Core.List.{List}
use Prim.Native.Nat.{ℕ, ◌≤◌, ◌<◌}
use lib.ListN.{length}
use borrow.Author.Tests.{lt-ltb, le-ltb}
use Rattle.std.specs.Prelude.{Ok}
use Rattle.layout.specs.Form.{offer_count}
use Rattle.layout.proofs.Contained.{contents-count}
use Rattle.sale.specs.declared.Clearing.{Clearing}
use Rattle.plain.specs.Structs.{no_value}
use Rattle.answers.specs.Answers.{exported}
use Rattle.answers.specs.inner.Answers.{rows_stated}
use Rattle.call.specs.Answer.{Answer}

-- a book of one block at least states its number of offers there
pub rows-stated : (b : List ℕ) → 512 ≤ length b → offer_count b ≡ rows_stated b
unfolding rows_stated
rows-stated b h = rw (le-ltb (length b) 512 h) (contents-count b)

-- and a shorter one states nothing
pub rows-unstated : (b : List ℕ) → length b < 512 → no_value ≡ rows_stated b
unfolding rows_stated
rows-unstated b l = rw (lt-ltb (length b) 512 l)

-- a clearing by another name
pub cleared-told : {a : Answer} {c : Clearing} (rows : ℕ) → a ≡ Ok c → exported (Ok c) rows ≡ exported a rows
cleared-told rows e = ap (λ (x : Answer). exported x rows) (sym e)
