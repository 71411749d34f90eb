-- The comparison of two books as a plain struct of numbers, by the rules of the plain structs.
-- Assumes nothing.
use Rattle.std.specs.Prelude.{ℕ}
use Rattle.values.specs.Refusals.{number_of, place_of}
use Rattle.compare.specs.declared.Comparison.{Comparison}
use Rattle.compare.specs.declared.Comparison.TheVariants.{Applies, FirstRefused, SecondRefused, NothingClears, ParametersDiffer, OffersDiffer, OnlyFirst, OnlySecond}
use Rattle.plain.specs.Structs.{no_value}
use Rattle.plain.specs.declared.structs.OzpComparison.{OzpComparison}

-- the theorem applies: the price, and how many offers are shared
abbrev pub applies_out : ℕ → ℕ → OzpComparison
applies_out price shared =
    record { kind = 1; price = price; shared = shared; field = no_value; row = no_value; other = no_value; book = no_value; number = no_value; place = no_value }

-- nothing clears in the first book
abbrev pub nothing_out : OzpComparison
nothing_out =
    record { kind = 2; price = no_value; shared = no_value; field = no_value; row = no_value; other = no_value; book = no_value; number = no_value; place = no_value }

-- a book is refused: which of both, the number and the place
abbrev pub refused_out : ℕ → ℕ → ℕ → OzpComparison
refused_out book number place =
    record { kind = 3; price = no_value; shared = no_value; field = no_value; row = no_value; other = no_value; book = book; number = number; place = place }

-- the books differ: in a field of the parameters, or in a row of the first and of the other book
abbrev pub differs_out : ℕ → ℕ → ℕ → OzpComparison
differs_out field row other =
    record { kind = 5; price = no_value; shared = no_value; field = field; row = row; other = other; book = no_value; number = no_value; place = no_value }

-- a comparison as it goes out; where one book alone has an offer more, there is no row in the other
abbrev pub compared_out : Comparison → OzpComparison
compared_out (Applies price shared) = applies_out price shared
compared_out (FirstRefused refusal) = refused_out 1 (number_of refusal) (place_of refusal)
compared_out (SecondRefused refusal) = refused_out 2 (number_of refusal) (place_of refusal)
compared_out NothingClears = nothing_out
compared_out (ParametersDiffer field) = differs_out field no_value no_value
compared_out (OffersDiffer row other) = differs_out no_value row other
compared_out (OnlyFirst row) = differs_out no_value row no_value
compared_out (OnlySecond other) = differs_out no_value no_value other
