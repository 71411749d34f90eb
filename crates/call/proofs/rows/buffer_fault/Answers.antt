-- `buffer_fault` is 9 at the buffer that is too short.
-- Assumes nothing.
use borrow.Author.Tests.{le-leb, lt-leb}
use Rattle.call.specs.Answer.{buffer_fault}
use Rattle.call.proofs.rows.buffer_fault.Goals as goal

pub returns-then-cleared-offers : goal.returns-then-cleared-offers
unfolding buffer_fault
returns-then-cleared-offers c = rw (lt-leb _ _ c.if-cleared-offers.true)

pub returns-then-committed-offers : goal.returns-then-committed-offers
unfolding buffer_fault
returns-then-committed-offers c = rw (le-leb _ _ c.if-cleared-offers.false, lt-leb _ _ c.if-committed-offers.true)

pub returns : goal.returns
unfolding buffer_fault
returns c = rw (le-leb _ _ c.if-cleared-offers.false, le-leb _ _ c.if-committed-offers.false)
