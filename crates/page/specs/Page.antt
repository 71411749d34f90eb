-- The numbers of a book's page, in order: its head, its rows, and the page of one row.
-- Assumes nothing.
use Rattle.std.specs.Prelude.{ℕ, List, [], ◌∷◌, ◌++◌, Ok, Err, Some, None}
use Rattle.layout.specs.Form.{form_fault}
use Rattle.call.specs.Answer.{answer_of, Answer}
use Rattle.std.specs.declared.option.Option.{Option}
use Rattle.readout.specs.declared.Head.{Head}
use Rattle.readout.specs.Facts.{head_in, row_in}
use Rattle.lines.specs.Stated.{stated_numbers}
use Rattle.workings.specs.Works.{worked, WorksAnswer}
use Rattle.refusing.specs.Refused.{unread_parts, refused_parts}
use Rattle.refusing.specs.Stated.{stated_row}
use Rattle.rowpages.specs.Row.{row_parts}
use Rattle.rowpages.specs.Rows.{rows_parts}
use Rattle.headpage.specs.Accepted.{accepted_parts}

-- what a book that can be read answers
abbrev pub answered_parts : List ℕ → Head → Answer → List (List ℕ)
answered_parts b h (Ok k) = accepted_parts b h k
answered_parts b h (Err refusal) = refused_parts b h refusal

-- the head: what the book states and what it answers, or why it cannot be read
abbrev pub head_behind : List ℕ → Option Head → List (List ℕ)
head_behind b (Some h) = stated_numbers h.edition h.parameters h.offers ∷ answered_parts b h (answer_of b)
head_behind b None = unread_parts b (form_fault b)

unfoldable pub head_parts : List ℕ → List (List ℕ)
head_parts b = head_behind b (head_in b)

-- the page: the head, and the rows where the book is accepted
unfoldable pub page_parts : List ℕ → List (List ℕ)
page_parts b = head_parts b ++ rows_parts b (head_in b) (worked b 600 600 600)

-- the page of a row: in full where the book is accepted, and else as the book states it; nothing where there is no such row, or
-- where the book cannot be read
abbrev pub row_page : List ℕ → ℕ → Option Head → WorksAnswer → List (List ℕ)
row_page b row (Some h) (Ok w) = row_parts h.edition row (row_in b row) (worked b row 600 600)
row_page b row (Some h) (Err refusal) = stated_row h.edition row (row_in b row)
row_page b row None w = []

unfoldable pub row_page_parts : List ℕ → ℕ → List (List ℕ)
row_page_parts b row = row_page b row (head_in b) (worked b 600 600 600)
