-- The contract of `share_out` leaves one content of the list of amounts.
--
-- In order: what is shared out is one list; the amounts, by the contract.
-- Assumes nothing.
use mathlib.Core.Path.{◌≡◌, sym, ◌∙◌}
use mathlib.Core.List.{List}
use Prim.Native.Nat.{ℕ}
use contract.Lifetimes.{Lfts}
use denote.Ref.{Bor, MutBor}
use lib.Seq.{ext_get_or}
use Rattle.laws.proofs.Cases.{by_order}
use Rattle.auction.specs.Offers.{Offers}
use Rattle.levels.specs.declared.level.Level.{Level}
use Rattle.columns.specs.declared.rows.Rows.{Rows}
use Rattle.shares.specs.inner.Out.{SharedOut}
use Rattle.shares.proofs.share_out.Reads as share-out

shared-alone : (o : Offers) (x : ℕ) (before after other : List ℕ) → SharedOut o x before after → SharedOut o x before other
    → after ≡ other
shared-alone o x before after other a b =
    ext_get_or 0 after other (a.length-kept ∙ sym b.length-kept)
    (λ i h. by_order o.count i (λ l. a.past i l ∙ sym (b.past i l)) (λ l. a.row i l ∙ sym (b.row i l)))

pub share-out-decided : (κs : Lfts 3) (rows : Bor Rows) (level : Level) (out after other : MutBor (List ℕ))
    → share-out.Post κs (rows, (level, (out, tt))) tt (rows, (level, (after, tt)))
    → share-out.Post κs (rows, (level, (out, tt))) tt (rows, (level, (other, tt)))
    → after.now ≡ other.now
share-out-decided κs rows level out after other e f = shared-alone _ level.total out.now after.now other.now e f
