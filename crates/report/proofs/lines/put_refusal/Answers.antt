-- `put_refusal` puts a refusal as one line.
-- Assumes nothing.
use Rattle.report.specs.Lines.{refusal_text}
use Rattle.report.proofs.Fitting.{fitted-append}
use Rattle.report.proofs.lines.put_refusal.Goals as goal

pub returns : goal.returns
unfolding refusal_text
returns c =
    fitted-append (rw (c.from.ensures, c.number.ensures) at c.put_word-behind.ensures.0)
    (rw c.place.ensures at c.put_short.ensures.0)
