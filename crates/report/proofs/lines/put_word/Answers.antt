-- `put_word` puts a word, a number and the byte behind it.
-- Assumes nothing.
use Rattle.report.specs.Lines.{word_text, Fitted}
use Rattle.report.proofs.Fitting.{fitted, fitted-append, fitted-place}
use native.Mathlib.Omega.{arith}
use Rattle.report.proofs.lines.put_word.Goals as goal
use Rattle.report.proofs.lines.put_word.Goals.{After-put_bytes-behind}

-- the word fits
word-fitted : (c : After-put_bytes-behind) → let a = c.args in
    Fitted a.out.now a.at a.word.now c.put_bytes-behind.new.out c.put_bytes-behind.result
word-fitted c = fitted (omega arith) c.put_bytes-behind.ensures

pub put_ended-requires : goal.put_ended-requires
put_ended-requires c = omega (arith, fitted-place (word-fitted (goal.at.put_ended-requires c).After-put_bytes-behind))

pub returns : goal.returns
unfolding word_text
returns c =
    let word = word-fitted (goal.at.returns c).After-put_bytes-behind in
    let ended = c.put_ended.ensures in
    (fitted-append word ended.0, omega (arith, fitted-place word, ended.1))
