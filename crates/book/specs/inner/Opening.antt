-- What a book says before its rows, and the first fault of that.
-- Assumes nothing.
use Rattle.std.specs.Prelude.{ℕ, ◌≡◌, List, length, Ok, Err}
use Rattle.values.specs.Refusals.{and_then, Verdict, no_fault}
use Rattle.values.specs.declared.head.Parameters.{Parameters}
use Rattle.layout.specs.Read.{contents_of}
use Rattle.layout.specs.Form.{form_fault}
use Rattle.limits.specs.Given.{parameters_fault}
use Rattle.book.specs.declared.Opening.{Opening}
use Rattle.book.specs.declared.Unopened.{Unopened}
use Rattle.std.specs.declared.result.Result.{Result}

-- what comes before the rows of a book that is to be cleared: 1; 2 over all blocks; 3 likewise; 4; 5 by field
unfoldable pub before_rows : List ℕ → Verdict
before_rows b = and_then (form_fault b) (parameters_fault (contents_of b).parameters)

-- an edition, parameters and a number of rows that a book says, and that passed
pub record Opened (b : List ℕ) (e : ℕ) (p : Parameters) (n : ℕ) : Type 0 where
  pub passed : before_rows b ≡ no_fault
  pub edition : e ≡ (contents_of b).edition
  pub parameters : p ≡ (contents_of b).parameters
  pub rows : n ≡ length (contents_of b).offers

-- the edition, the parameters and the number of rows that a book says, refused or not
pub record SaidIn (b : List ℕ) (o : Opening) : Type 0 where
  pub edition : o.edition ≡ (contents_of b).edition
  pub parameters : o.parameters ≡ (contents_of b).parameters
  pub rows : o.rows ≡ length (contents_of b).offers

-- a fault that was found before the rows of a book, and what it says there all the same
pub record Refused (b : List ℕ) (u : Unopened) : Type 0 where
  pub refused : before_rows b ≡ Err u.refusal
  pub said : SaidIn b u.opening

-- what is told of a book before its rows: what it says there, which passed, or the first fault of that and what it says
abbrev pub OpensAs : List ℕ → Result Opening Unopened → Type 0
OpensAs b (Ok o) = Opened b o.edition o.parameters o.rows
OpensAs b (Err u) = Refused b u
