-- `put_zeros` fills a part of the bytes with zeros.
-- Assumes nothing.
use mathlib.Core.Path.{◌≡◌, ◌∙◌}
use Prim.Native.Nat.{ℕ}
use native.Mathlib.Omega.{arith}
use lib.ListN.{replicate, length-take, length-drop}
use Rattle.encoding.specs.Numbers.{zeros}
use Rattle.encoding.proofs.Digits.{length-zeros}
use Rattle.places.proofs.Puts.{put-copied}
use Rattle.making.proofs.Zeros.{zeros-filled}
use Rattle.making.proofs.put_zeros.Goals as goal

-- as many as are filled
filled : (n k : ℕ) → k ≡ n → replicate k 0 ≡ zeros n
filled n k e = rw e (zeros-filled n)

pub returns : goal.returns
returns c =
    let a = c.args in
    put-copied _ _ _ (c.fill.ensures.after (λ y e. e) ∙ filled a.n _ (simp (length-take, length-drop) (omega arith))) (omega (arith, length-zeros a.n))
