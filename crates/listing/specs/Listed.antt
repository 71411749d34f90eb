-- What a book says, by the rules of the plain structs.
--
-- In order: a value and an offer; what a book says besides its rows, or why it is refused; how many rows are filled in; what a
-- reading returns and leaves in the array of rows.
-- Assumes nothing.
use Rattle.std.specs.Prelude.{ℕ, zero, suc, ◌≡◌, cond, List, eqb, leb, length, set, Err, Ok}
use Rattle.values.specs.Refusals.{unless, and_then, short_buffer, number_of, place_of, Verdict}
use Rattle.values.specs.Contents.{offer_at}
use Rattle.values.specs.declared.Value.{Value}
use Rattle.values.specs.declared.Value.TheVariants.{Given, Missing}
use Rattle.values.specs.declared.head.Parameters.{Parameters}
use Rattle.values.specs.declared.place.Offer.{Offer}
use Rattle.layout.specs.Form.{form_fault}
use Rattle.layout.specs.Read.{contents_of}
use Rattle.plain.specs.Structs.{no_value}
use Rattle.plain.specs.declared.structs.OzpContents.{OzpContents}
use Rattle.plain.specs.declared.structs.OzpRow.{OzpRow}
use Rattle.plain.specs.declared.structs.OzpValue.{OzpValue}

-- a value that is missing has no number
abbrev pub value_out : Value → OzpValue
value_out (Given number) = record { kind = 1; number = number }
value_out Missing = record { kind = 4; number = no_value }

-- the values of an offer
abbrev pub offer_out : Offer → OzpRow
offer_out o =
    record {
      stamp = o.stamp;
      resource = o.resource;
      seller = o.seller;
      quantity = o.quantity;
      price = value_out o.price;
      block = value_out o.block;
      step = o.step;
    }

-- ---- what a book says besides its rows

-- the edition and the parameters, with the number of rows
abbrev pub contents_out : ℕ → Parameters → ℕ → OzpContents
contents_out edition p rows =
    record {
      kind = 1;
      rows = rows;
      edition = edition;
      number = no_value;
      place = no_value;
      parameters =
          record {
            year = p.year;
            cost = value_out p.cost;
            offset = value_out p.offset;
            outage = value_out p.outage;
            requirement = value_out p.requirement;
            margin = value_out p.margin;
          };
    }

-- no value: there is none
abbrev pub none_out : OzpValue
none_out = record { kind = 2; number = no_value }

abbrev pub contents_refused : ℕ → ℕ → OzpContents
contents_refused number place =
    record {
      kind = 3;
      rows = no_value;
      edition = no_value;
      number = number;
      place = place;
      parameters =
          record { year = no_value; cost = none_out; offset = none_out; outage = none_out; requirement = none_out; margin = none_out };
    }

-- 1 to 3, and then 9 where the rows do not all have an entry
unfoldable pub read_fault : List ℕ → ℕ → Verdict
read_fault b entries = and_then (form_fault b) (unless (leb (length (contents_of b).offers) entries) (short_buffer 1))

abbrev pub contents_by : Verdict → OzpContents → OzpContents
contents_by (Ok u) contents = contents
contents_by (Err refusal) contents = contents_refused (number_of refusal) (place_of refusal)

-- what a book says, its rows going into so many entries, or the refusal
unfoldable pub exported_contents : List ℕ → ℕ → OzpContents
exported_contents b entries =
    let c = contents_of b in contents_by (read_fault b entries) (contents_out c.edition c.parameters (length c.offers))

-- ---- its rows

-- how many entries are filled, by what is answered: one for each row, and none on a refusal
unfoldable pub rows_filled : OzpContents → ℕ
rows_filled c = cond (eqb c.kind 1) c.rows 0

-- the entries of which the first n are filled in order; entries past them are not touched
unfoldable pub filled_rows : (ℕ → OzpRow) → ℕ → List OzpRow → List OzpRow
filled_rows f zero xs = xs
filled_rows f (suc n) xs = set (filled_rows f n xs) n (f n)

-- the values of a row of a book
unfoldable pub row_out : List ℕ → ℕ → OzpRow
row_out b row = offer_out (offer_at (contents_of b).offers row)

-- What a reading returns and leaves in the array: each row of the book has its values in its own entry.
pub record Read (b : List ℕ) (rows : List OzpRow) (r : OzpContents) (rows' : List OzpRow) : Type 0 where
  pub contents : r ≡ exported_contents b (length rows)
  pub filled : rows' ≡ filled_rows (row_out b) (rows_filled (exported_contents b (length rows))) rows
