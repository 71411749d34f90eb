-- Losers don't matter: what is asked of two books, and what their calls then have in common.
--
-- In order: the offers at a price or below, and two books that agree in them; what a call tells of a row, and of the rows at a price or
-- below; offers that lose; two calls with the same sale; a book with one losing offer more.
-- Assumes nothing.
use Rattle.std.specs.Prelude.{ℕ, ◌<◌, ◌≡◌, Bool, false, List, ◌∷◌, ◌++◌, length, get_or, leb}
use Rattle.laws.specs.Lists.{list_of, those}
use Rattle.values.specs.Contents.{Contents, offer_at}
use Rattle.values.specs.declared.Value.{Value}
use Rattle.values.specs.declared.Value.TheVariants.{Given, Missing}
use Rattle.values.specs.declared.place.Offer.{Offer}
use Rattle.sale.specs.Auction.{row_make_whole}
use Rattle.sale.specs.declared.Clearing.{Clearing}

-- a price that is given and is p or less; a missing price is not
abbrev pub to_price : ℕ → Value → Bool
to_price p (Given price) = leb price p
to_price p Missing = false

-- THE OFFERS AT OR BELOW p: those offers of a book whose price is p or less, with all their fields, in the order of the book
unfoldable pub at_or_below : ℕ → List Offer → List Offer
at_or_below p offers = those (λ o. to_price p o.price) offers

-- two books say the same up to the price p
pub record SameToPrice (p : ℕ) (c c' : Contents) : Type 0 where
  -- their parameters are the same
  pub parameters : c.parameters ≡ c'.parameters
  -- and their offers at or below p are the same, row for row in the same order among themselves
  pub offers : at_or_below p c.offers ≡ at_or_below p c'.offers

-- ---- what a call tells of rows

-- an offer with its cleared and committed tenths, and its make-whole in mills a day
pub record Line : Type 0 where
  pub offer : Offer
  pub cleared : ℕ
  pub committed : ℕ
  pub make_whole : ℕ

-- the line of a row: the tenths are its entries of the two result buffers
abbrev pub line_at : Contents → (cleared committed : List ℕ) → ℕ → Line
line_at c cleared committed row =
    record {
      offer = offer_at c.offers row;
      cleared = get_or cleared row 0;
      committed = get_or committed row 0;
      make_whole = row_make_whole c row;
    }

-- the lines of the offers at or below p, in the order of the book
unfoldable pub lines_at_or_below : ℕ → Contents → (cleared committed : List ℕ) → List Line
lines_at_or_below p c cleared committed =
    those (λ line. to_price p line.offer.price) (list_of (line_at c cleared committed) (length c.offers))

-- a line whose offer is above p, and that gets nothing
pub record Loses (p : ℕ) (line : Line) : Type 0 where
  pub price : ℕ
  pub given : line.offer.price ≡ Given price
  pub above : p < price
  pub cleared : line.cleared ≡ 0
  pub committed : line.committed ≡ 0
  pub make_whole : line.make_whole ≡ 0

-- every row that is not at or below p loses
abbrev pub OthersLose : ℕ → Contents → (cleared committed : List ℕ) → Type 0
OthersLose p c cleared committed =
    (row : ℕ) → row < length c.offers → to_price p (offer_at c.offers row).price ≡ false → Loses p (line_at c cleared committed row)

-- ---- two calls

-- two calls sell the same at the price p
pub record SameSale (p : ℕ) (c c' : Contents) (k k' : Clearing) (cleared committed cleared' committed' : List ℕ) : Type 0 where
  -- the same price and the same total
  pub price : k.price ≡ k'.price
  pub total : k.total ≡ k'.total
  -- each offer at or below p has the same cleared and committed tenths and the same make-whole, wherever its row stands
  pub lines : lines_at_or_below p c cleared committed ≡ lines_at_or_below p c' cleared' committed'
  -- the same make-whole of all rows, and the same totals of the day and of the year
  pub make-whole : k.make_whole ≡ k'.make_whole
  pub daily : k.daily ≡ k'.daily
  pub year : k.year ≡ k'.year
  -- every other offer, in either book, is above p and gets nothing
  pub losers : OthersLose p c cleared committed
  pub losers' : OthersLose p c' cleared' committed'

-- c' is c with one offer more, which is above p, wherever it stands
pub record OneLoser (p : ℕ) (c c' : Contents) : Type 0 where
  pub parameters : c.parameters ≡ c'.parameters
  pub loser : Offer
  pub price : ℕ
  pub given : loser.price ≡ Given price
  pub above : p < price
  -- the offers before its row, and those behind
  pub before : List Offer
  pub behind : List Offer
  pub offers : c.offers ≡ before ++ behind
  pub offers' : c'.offers ≡ before ++ (loser ∷ behind)
