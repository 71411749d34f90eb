-- The table of refusals, how tests follow one another, and what a refusal leaves as it was.
--
-- In order: the table; what a test answers; tests that refuse; the order of tests; what is left.
-- Assumes nothing.
use Rattle.std.specs.Prelude.{◌≡◌, ℕ, zero, suc, Bool, true, false, List, Ok, Err, IsErrAnd, ⊤}
use Rattle.std.specs.declared.result.Result.{Result}
use Rattle.values.specs.declared.refusal.Refusal.{Refusal}
use Rattle.values.specs.declared.refusal.Refusal.TheVariants.{WrongLength, WrongCheck, WrongLayout, MissingParameter, ParameterOutOfRange, NoPrice, OfferOutOfRange, RepeatedResource, ShortBuffer, BrokenSteps, SeveralSteps, TooManyRows, ShortRoom}

-- ---- the table: each refusal with its number and its place

-- the number of a refusal
abbrev pub number_of : Refusal → ℕ
number_of WrongLength = 1
number_of (WrongCheck block) = 2
number_of (WrongLayout block) = 3
number_of (MissingParameter field) = 4
number_of (ParameterOutOfRange field) = 5
number_of (NoPrice row) = 6
number_of (OfferOutOfRange row) = 7
number_of (RepeatedResource row) = 8
number_of (ShortBuffer buffer) = 9
number_of (BrokenSteps row) = 10
number_of (SeveralSteps row) = 11
number_of TooManyRows = 19
number_of ShortRoom = 20

-- its place: what the refusal holds, and 0 where it holds nothing
abbrev pub place_of : Refusal → ℕ
place_of WrongLength = 0
place_of (WrongCheck block) = block
place_of (WrongLayout block) = block
place_of (MissingParameter field) = field
place_of (ParameterOutOfRange field) = field
place_of (NoPrice row) = row
place_of (OfferOutOfRange row) = row
place_of (RepeatedResource row) = row
place_of (ShortBuffer buffer) = buffer
place_of (BrokenSteps row) = row
place_of (SeveralSteps row) = row
place_of TooManyRows = 0
place_of ShortRoom = 0

-- ---- what a test answers

-- what a test answers: it passed, or why not
abbrev pub Tested : Type 0 → Type 0
Tested E = Result ⊤ E

-- what a test of a book answers: it passed, or the refusal
abbrev pub Verdict : Type 0
Verdict = Tested Refusal

-- a test of a book refused, by this number at this place
abbrev pub RefusedBy : Verdict → ℕ → ℕ → Type 0
RefusedBy v number place = IsErrAnd v (λ refusal. (number_of refusal ≡ number) × (place_of refusal ≡ place))

-- ---- tests that refuse

-- 1: length not a multiple of 512, or under 512, or over 20,992; place 0
abbrev pub wrong_length : Verdict
wrong_length = Err WrongLength

-- 2: a block's check is wrong; the block
abbrev pub wrong_check : ℕ → Verdict
wrong_check block = Err (WrongCheck block)

-- 3: letters, edition, block number, counts, unused marks or bytes differ from the layout, or a value marked absent is not
-- zero; the block
abbrev pub wrong_layout : ℕ → Verdict
wrong_layout block = Err (WrongLayout block)

-- 4: a parameter is missing; the field
abbrev pub missing_parameter : ℕ → Verdict
missing_parameter field = Err (MissingParameter field)

-- 5: a parameter is out of range; the field
abbrev pub parameter_out_of_range : ℕ → Verdict
parameter_out_of_range field = Err (ParameterOutOfRange field)

-- 6: an offer has no price; the row
abbrev pub no_price : ℕ → Verdict
no_price row = Err (NoPrice row)

-- 7: an offer value is out of range; the row
abbrev pub offer_out_of_range : ℕ → Verdict
offer_out_of_range row = Err (OfferOutOfRange row)

-- 8: the resource number of a row with step 1 stands in an earlier row; the row
abbrev pub repeated_resource : ℕ → Verdict
repeated_resource row = Err (RepeatedResource row)

-- 9: a result buffer has fewer entries than offers; 1 cleared, 2 committed
abbrev pub short_buffer : ℕ → Verdict
short_buffer buffer = Err (ShortBuffer buffer)

-- 10: a row past step 1 breaks the rules of steps; the row
abbrev pub broken_steps : ℕ → Verdict
broken_steps row = Err (BrokenSteps row)

-- 11: a book that goes to edition 1 has a step of 2 or more; the row
abbrev pub several_steps : ℕ → Verdict
several_steps row = Err (SeveralSteps row)

-- 19: more than 600 rows are to be written; place 0
abbrev pub too_many_rows : Verdict
too_many_rows = Err TooManyRows

-- 20: the room lent is too small; place 0
abbrev pub short_room : Verdict
short_room = Err ShortRoom

-- ---- order

module _ {E : Type 0} where
  -- a test that passed
  abbrev pub no_fault : Tested E
  no_fault = Ok tt

  -- a test that holds, or else the fault
  abbrev pub unless : Bool → Tested E → Tested E
  unless true fault = no_fault
  unless false fault = fault

  -- the first fault of two tests: the second is looked at only where the first passed
  abbrev pub and_then : Tested E → Tested E → Tested E
  and_then (Ok u) next = next
  and_then (Err fault) next = Err fault

  -- the first fault among the first n of a row of tests
  unfoldable pub first : (ℕ → Tested E) → ℕ → Tested E
  first test zero = no_fault
  first test (suc n) = and_then (first test n) (test n)

  -- ---- what is left

  -- a fault leaves a buffer as it was
  abbrev pub buffer_by : Tested E → List ℕ → List ℕ → List ℕ
  buffer_by (Ok u) before after = after
  buffer_by (Err fault) before after = before
