-- What can be read of a book whose form is right, by the fault of its form.
-- Assumes nothing.
use Rattle.std.specs.Prelude.{ℕ, Bool, cond, List, [], length, ltb, eqb, Err, Some, None, Ok}
use Rattle.laws.specs.Largest.{least_where, lesser}
use Rattle.values.specs.Contents.{Contents, offer_at}
use Rattle.values.specs.declared.place.Offer.{Offer}
use Rattle.readout.specs.declared.Head.{Head}
use Rattle.values.specs.Refusals.{Verdict}
use Rattle.std.specs.declared.option.Option.{Option}

-- the offer of a row: none where there is no such row, or the book is refused by 1 to 3
abbrev pub RowOffer : Type 0
RowOffer = Option Offer

-- the edition, the parameters and the number of offers
abbrev pub head_by : Verdict → Contents → Option Head
head_by (Ok u) c = Some (record { edition = c.edition; parameters = c.parameters; offers = length c.offers })
head_by (Err refusal) c = None

-- the offers that can be read: all, or none
abbrev pub offers_by : Verdict → Contents → List Offer
offers_by (Ok u) c = c.offers
offers_by (Err refusal) c = []

-- the offer of a row, where it is there
unfoldable pub row_of : List Offer → ℕ → RowOffer
row_of offers row = cond (ltb row (length offers)) (Some (offer_at offers row)) None

-- the first row with a row's resource: the row itself where no row before it has that resource, or where it is not there
unfoldable pub earlier_row : List Offer → ℕ → ℕ
earlier_row offers row =
    let same : ℕ → Bool = λ i. eqb (offer_at offers i).resource (offer_at offers row).resource in
    cond (ltb row (length offers)) (lesser row (least_where same (λ i. i) row)) row
