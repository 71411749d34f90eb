-- `put_page` puts the head of a page, and the rows behind it.
-- Assumes nothing.
use Rattle.forms.proofs.Shows.{shows_then}
use Rattle.page.specs.Page.{page_parts}
use Rattle.page.proofs.put_page.Goals as goal

pub returns : goal.returns
unfolding page_parts
returns c = shows_then _ _ _ _ _ _ _ _ c.put_head-behind.ensures c.put_rows.ensures
