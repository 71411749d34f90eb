-- The comparison of two books: the theorem that losers don't matter applies, or what comes first that keeps it from applying.
--
-- In order: the offers at or below a price with their rows; two lists of them compared; two books' contents; two books.
-- Assumes nothing.
use Rattle.std.specs.Prelude.{ℕ, suc, ◌≡◌, cond, List, [], ◌∷◌, length, Err, Some, None, Ok}
use Rattle.values.specs.Contents.{Contents}
use Rattle.values.specs.declared.place.Offer.{Offer}
use Rattle.layout.specs.Read.{contents_of}
use Rattle.book.specs.Faults.{first_fault}
use Rattle.sale.specs.Payment.{clearing_of}
use Rattle.call.specs.Answer.{answer_of, Answer}
use Rattle.call.specs.Losers.{to_price, at_or_below, SameToPrice}
use Rattle.compare.specs.Same.{same_offer, field_apart}
use Rattle.compare.specs.declared.Comparison.{Comparison}
use Rattle.compare.specs.declared.Comparison.TheVariants.{Applies, FirstRefused, SecondRefused, NothingClears, ParametersDiffer, OffersDiffer, OnlyFirst, OnlySecond}
use Rattle.std.specs.declared.option.Option.{Option}
use Rattle.values.specs.Refusals.{Verdict, no_fault}
use Rattle.pricing.specs.Price.{ClearingPrice}

-- an offer and the row in which it stands
pub record Standing : Type 0 where
  pub row : ℕ
  pub offer : Offer

-- the offers at or below p, in their order, each with its row, where the first offer stands in `row`
unfoldable pub standing : ℕ → ℕ → List Offer → List Standing
standing p row [] = []
standing p row (o ∷ offers) =
    let rest = standing p (suc row) offers in
    cond (to_price p o.price) (record { row = row; offer = o } ∷ rest) rest

-- The offers at or below p of two books, one by one: the first that differ, or the first that stands in one book alone; and where all
-- agree, how many there are. So many were shared before.
unfoldable pub standing_compared : ℕ → ℕ → List Standing → List Standing → Comparison
standing_compared p shared [] [] = Applies p shared
standing_compared p shared (x ∷ xs) [] = OnlyFirst x.row
standing_compared p shared [] (y ∷ ys) = OnlySecond y.row
standing_compared p shared (x ∷ xs) (y ∷ ys) =
    cond (same_offer x.offer y.offer) (standing_compared p (suc shared) xs ys) (OffersDiffer x.row y.row)

unfoldable pub offers_compared : ℕ → List Offer → List Offer → Comparison
offers_compared p offers offers' = standing_compared p 0 (standing p 0 offers) (standing p 0 offers')

-- the first field that differs, or what comes next where none does
abbrev pub parameters_compared : Option ℕ → Comparison → Comparison
parameters_compared (Some field) next = ParametersDiffer field
parameters_compared None next = next

-- the parameters first, then the offers at or below p
unfoldable pub compared_to : ℕ → Contents → Contents → Comparison
compared_to p c c' =
    parameters_compared (field_apart c.parameters c'.parameters) (offers_compared p c.offers c'.offers)

-- a book that is accepted and has this price, or none, against one with this verdict
abbrev pub against_by : Verdict → ClearingPrice → Contents → Contents → Comparison
against_by (Err refusal) quoted c c' = SecondRefused refusal
against_by (Ok u) None c c' = NothingClears
against_by (Ok u) (Some p) c c' = compared_to p.0 c c'

abbrev pub compared_by : Answer → Verdict → Contents → Contents → Comparison
compared_by (Err refusal) verdict c c' = FirstRefused refusal
compared_by (Ok k) verdict c c' = against_by verdict k.price c c'

-- the comparison of two books: the first's refusal, the second's, the first's price, then what they say
unfoldable pub comparison_of : List ℕ → List ℕ → Comparison
comparison_of b b' = compared_by (answer_of b) (first_fault b') (contents_of b) (contents_of b')

-- ---- what it is for the theorem to apply

-- two accepted books, the first with the price p, that say the same up to p, with so many offers at or below it
pub record TheoremApplies (b b' : List ℕ) (p : ℕ) (shared : ℕ) : Type 0 where
  pub accepted : first_fault b ≡ no_fault
  pub accepted' : first_fault b' ≡ no_fault
  pub priced : (clearing_of (contents_of b)).price ≡ Some (record { 0 = p })
  pub same : SameToPrice p (contents_of b) (contents_of b')
  pub count : shared ≡ length (at_or_below p (contents_of b).offers)
