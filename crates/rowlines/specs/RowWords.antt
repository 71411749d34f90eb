-- Which of a form's words fit a row or a number of spare tenths: the parts of a choice are counted from 0.
-- Assumes nothing.
use Rattle.std.specs.Prelude.{ℕ, Bool, cond, eqb}
use Rattle.wording.specs.Words.{first_true}

-- what a row clears: nothing, less than it commits, all of it, one tenth more than its part rounded down, or that part
abbrev pub line_word : (none block whole spare : Bool) → ℕ
line_word none block whole spare = cond none 0 (cond block 4 (cond whole 1 (cond spare 3 2)))

-- a make-whole: it is paid; or it is zero, as nothing cleared, as the price is zero, or as the row commits what cleared
abbrev pub reason : (paid none more : Bool) → ℕ
reason paid none more = cond paid 3 (cond none 0 (cond more 2 1))

-- a number of spare tenths, or of places: none, one, or another number
abbrev pub count_word : ℕ → ℕ
count_word number = first_true (eqb number 0) (eqb number 1)
