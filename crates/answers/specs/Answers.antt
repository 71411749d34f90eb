-- What a call answers, as a function of the library's own answer, by the rules of the plain structs.
--
-- In order: the answer of a call; a row's make-whole.
-- Assumes nothing.
use Rattle.std.specs.Prelude.{ℕ, ◌-◌, cond, eqb, Some, None, Ok, Err}
use Rattle.std.proofs.Math.Option.{none, some}
use Rattle.auction.specs.Settlement.{mills}
use Rattle.plain.specs.Structs.{no_value, no_amount}
use Rattle.plain.specs.declared.structs.OzpAnswer.{OzpAnswer}
use Rattle.pricing.specs.Price.{ClearingPrice}
use Rattle.call.specs.Answer.{Answer}
use Rattle.values.specs.Refusals.{number_of, place_of}

-- ---- the answer of a call

-- 1 where a clearing has a price, 2 where it has none
abbrev pub clearing_kind : ClearingPrice → ℕ
clearing_kind (Some cents) = 1
clearing_kind None = 2

-- no price is no number of cents
abbrev pub clearing_cents : ClearingPrice → ℕ
clearing_cents (Some cents) = cents.0
clearing_cents None = no_value

-- a refusal by its number at its place, which has no other value
abbrev pub answer_refused : ℕ → ℕ → OzpAnswer
answer_refused number place =
    record {
      make_whole = no_amount;
      daily = no_amount;
      year = no_amount;
      kind = 3;
      total = no_value;
      price = no_value;
      rows = no_value;
      number = number;
      place = place;
    }

-- a clearing of so many rows, priced or not, or a refusal
abbrev pub exported : Answer → ℕ → OzpAnswer
exported (Ok c) rows =
    record {
      make_whole = c.make_whole;
      daily = c.daily;
      year = c.year;
      kind = clearing_kind c.price;
      total = c.total;
      price = clearing_cents c.price;
      rows = rows;
      number = no_value;
      place = no_value;
    }
exported (Err refusal) rows = answer_refused (number_of refusal) (place_of refusal)

-- ---- a row's make-whole

-- by the kind and the price of an answer: 1 the price times what is committed past what cleared, 2 nothing, else no value
unfoldable pub exported_make_whole : ℕ → ℕ → ℕ → ℕ → ℕ
exported_make_whole kind price cleared committed =
    cond (eqb kind 1) (mills (some price) (committed - cleared))
    (cond (eqb kind 2) (mills none (committed - cleared)) no_amount)
