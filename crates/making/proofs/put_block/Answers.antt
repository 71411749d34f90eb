-- `put_block` puts what opens a block of rows and zeros where nothing stands, and seals it.
-- Assumes nothing.
use Rattle.making.proofs.Fields.{put-block}
use Rattle.making.proofs.put_block.Goals as goal

pub returns : goal.returns
returns c =
    put-block c.args.b.now c.args.k c.args.here c.requires.0
    c.put_letters.ensures c.put_u16.ensures c.put_u16-2.ensures c.put_zeros.ensures c.put_unused.ensures
    c.seal.ensures
