-- `put_converted` answers and leaves what the call that converts means.
-- Assumes nothing.
use mathlib.Core.Path.{◌≡◌, sym, ap₂, ◌∙◌}
use Prim.Native.Nat.{ℕ, ◌<◌}
use native.Mathlib.Omega.{arith}
use lib.ListN.{length}
use Rattle.block.specs.Bytes.{byte}
use Rattle.words.specs.Texts.{text_refused}
use Rattle.convert.specs.Convert.{convert_fault}
use Rattle.convert.proofs.Converting.{converted-refused, converted-made, passed-own, passed-room, own-sound, own_block}
use Rattle.convert.proofs.put_converted.Goals as goal
use Rattle.convert.proofs.put_converted.Goals.{In_default}
use Rattle.values.specs.Refusals.{no_fault}

pub returns-in-Err : goal.returns-in-Err
returns-in-Err c =
    converted-refused _ _ _ (sym c.convert_fault.ensures ∙ c.in-Err.is) (c.refused.ensures ∙ ap₂ text_refused c.number.ensures c.place.ensures)

-- past the test nothing refuses the book
passed : (c : In_default) → convert_fault c.args.book.now (length c.args.room.now) ≡ no_fault
passed c = sym c.convert_fault.ensures ∙ c.in_default.is

-- what the book holds are bytes
bytes-known : (c : In_default) → let b = c.args.book.now in (i : ℕ) → i < length b → byte b i < 256
bytes-known c i l = omega (arith, c.type_inv.book i)

pub put_zeros-requires : goal.put_zeros-requires
put_zeros-requires c =
    let at = (goal.at.put_zeros-requires c).In_default in
    omega (arith, passed-room _ _ (passed at) (bytes-known at), own_block _ (passed-own _ _ (passed at)))

pub put_other-requires : goal.put_other-requires
put_other-requires c =
    let at = (goal.at.put_other-requires c).In_default in
    (own-sound _ (passed-own _ _ (passed at)), omega (arith, c.put_zeros.auto.b, passed-room _ _ (passed at) (bytes-known at)))

pub returns : goal.returns
returns c =
    let at = (goal.at.returns c).In_default in
    converted-made _ _ (passed-own _ _ (passed at)) (bytes-known at) (passed-room _ _ (passed at) (bytes-known at))
    c.put_zeros.ensures c.put_other.ensures c.given.ensures
