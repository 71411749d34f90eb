-- `convert_fault` tests the book, and then the room.
-- Assumes nothing.
use mathlib.Core.Path.{◌≡◌, sym, ◌∙◌}
use Prim.Native.Nat.{ℕ, ◌<◌}
use native.Mathlib.Omega.{arith}
use lib.ListN.{length}
use Rattle.std.proofs.lemmas.Result.{err_from_is_err_and}
use Rattle.block.specs.Bytes.{byte}
use Rattle.convert.specs.inner.Converts.{own_fault}
use Rattle.convert.proofs.Converting.{own-refused, room-short, room-enough}
use Rattle.convert.proofs.convert_fault.Goals as goal
use Rattle.convert.proofs.convert_fault.Goals.{In_ok-own_fault}
use Rattle.values.specs.Refusals.{no_fault}

pub returns-in_err-own_fault : goal.returns-in_err-own_fault
returns-in_err-own_fault c =
    let failed = err_from_is_err_and c.from_residual.result c.from_residual.ensures.1 in
    rw (failed.1, failed.2) (own-refused _ _ _ (sym c.own_fault.ensures ∙ c.in_err-own_fault.was))

-- past the first test nothing refuses the book but the room
owned : (c : In_ok-own_fault) → own_fault c.args.book.now ≡ no_fault
owned c = sym c.own_fault.ensures ∙ c.in_ok-own_fault.was

-- what the book holds are bytes
bytes-known : (c : In_ok-own_fault) → let b = c.args.book.now in (i : ℕ) → i < length b → byte b i < 256
bytes-known c i l = omega (arith, c.type_inv.book i)

pub returns-then-room-book : goal.returns-then-room-book
returns-then-room-book c =
    let at = goal.at.returns-then-room-book c in
    room-short _ _ (owned at.In_ok-own_fault) (bytes-known at.In_ok-own_fault) c.if-room-book.true

pub returns : goal.returns
returns c =
    let at = goal.at.returns c in
    room-enough _ _ (owned at.In_ok-own_fault) (bytes-known at.In_ok-own_fault) c.if-room-book.false
