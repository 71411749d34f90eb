-- `ozp_quote` shows what `quote` answers.
-- Assumes nothing.
use mathlib.Core.Path.{◌∙◌}
use Rattle.ozpinduru.proofs.Exports.{shown-quote}
use Rattle.ozpinduru.proofs.export.ozp_quote.Goals as goal

pub returns : goal.returns
returns c = c.answer.ensures ∙ shown-quote _ _ _ c.quote.ensures c.rows_stated.ensures
