-- `ozp_report` makes the report of a book, and puts it where it fits.
-- Assumes nothing.
use native.Mathlib.Omega.{arith}
use Rattle.text.proofs.Puts.{written-taken}
use Rattle.words.proofs.Telling.{told-as}
use Rattle.ozpinduru.proofs.texts.ozp_report.Goals as goal

pub returns : goal.returns
returns c =
    let made = c.put_report-end.ensures.fitted in
    told-as (written-taken _ _ (omega (arith, made.fits)) made.written) c.put_text.ensures
