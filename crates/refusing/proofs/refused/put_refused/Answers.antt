-- `put_refused` puts the fault, and behind it what is missing.
-- Assumes nothing.
use Rattle.forms.proofs.Shows.{shows_then}
use Rattle.refusing.specs.Refused.{refused_parts}
use Rattle.refusing.proofs.refused.put_refused.Goals as goal

pub returns : goal.returns
unfolding refused_parts
returns c = shows_then _ _ _ _ _ _ _ _ c.put_fault-fault.ensures c.put_missing.ensures
