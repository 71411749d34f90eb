-- What the exported call returns and leaves in both buffers, and the version of the interface.
-- Assumes nothing.
use Rattle.std.specs.Prelude.{ℕ, ◌≡◌, List, length}
use Rattle.layout.specs.Read.{contents_of}
use Rattle.sale.specs.Payment.{clearing_of}
use Rattle.call.specs.Answer.{Outcome, answer_by, call_fault, Answer}
use Rattle.plain.specs.declared.structs.OzpAnswer.{OzpAnswer}
use Rattle.answers.specs.Answers.{exported}

-- the answer of a call with result buffers of these lengths
abbrev pub answer_to : List ℕ → ℕ → ℕ → Answer
answer_to b cleared committed = answer_by (call_fault b cleared committed) (clearing_of (contents_of b))

-- what the exported call returns and leaves in both buffers
pub record Returned (b cleared committed : List ℕ) (r : OzpAnswer) (cleared' committed' : List ℕ) : Type 0 where
  pub answer : r ≡ exported (answer_to b (length cleared) (length committed)) (length (contents_of b).offers)
  pub outcome : Outcome b cleared committed (answer_to b (length cleared) (length committed)) cleared' committed'

-- the version of the interface: 0.9.0
abbrev pub version : ℕ
version = 9000
