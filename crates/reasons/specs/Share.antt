-- A row's share of its price level, by the definitions of the auction.
-- Assumes nothing.
use Rattle.std.specs.Prelude.{ℕ, cond, ltb, Some, None}
use Rattle.auction.specs.Offers.{Offers, level_sum}
use Rattle.auction.specs.Shares.{level_amount, share_down, remainder}
use Rattle.reasons.specs.declared.share.Share.{Share}
use Rattle.std.specs.declared.option.Option.{Option}

-- the share of a row, where there is such a row
abbrev pub RowShare : Type 0
RowShare = Option Share

-- row i's share of x
unfoldable pub share_at : Offers → ℕ → ℕ → Share
share_at o x i =
    record {
      amount = level_amount o x (o.price i);
      sum = level_sum o (o.price i);
      down = share_down o x i;
      remainder = remainder o x i;
    }

-- the same of a row that may not be there
unfoldable pub row_share_at : Offers → ℕ → ℕ → RowShare
row_share_at o x i = cond (ltb i o.count) (Some (share_at o x i)) None
