-- `ozp_clear` shows what `clear` answers.
-- Assumes nothing.
use Rattle.ozpinduru.proofs.Exports.{returned-call}
use Rattle.ozpinduru.proofs.export.ozp_clear.Goals as goal

pub returns : goal.returns
returns c = returned-call _ _ _ c.clear.ensures c.rows_stated.ensures c.answer.ensures
