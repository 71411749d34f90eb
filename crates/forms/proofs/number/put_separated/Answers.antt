-- `put_separated` puts one letter a turn, with the comma behind it.
-- Assumes nothing.
use mathlib.Core.Path.{◌∙◌}
use mathlib.Core.List.{List, ◌∷◌}
use Prim.Native.Nat.{ℕ, ◌+◌}
use native.Mathlib.Omega.{arith}
use lib.ListN.{drop, get_or, drop_of_length-le}
use borrow.Author.Rules.{rules}
use Rattle.forms.specs.inner.Plain.{separated}
use Rattle.forms.specs.Number.{comma}
use Rattle.forms.proofs.Puts.{put-length}
use Rattle.forms.proofs.Left.{left-all, left_less, left-none}
use Rattle.forms.proofs.Separated.{separated-next, separated-none}
use Rattle.forms.proofs.number.put_separated.Goals as goal

pub loop-letter-init : goal.loop-letter-init
loop-letter-init c =
    let a = c.args in (search rules, left-all a.room.now a.at (separated a.whole a.letters.now) (omega arith))

pub loop-letter-preserved : goal.loop-letter-preserved
loop-letter-preserved c =
    let l = c.loop-letter in
    let letters : List ℕ = c.args.letters.now in
    let put = c.put_digit-place.ensures in
    let left : ℕ = c.saturating_sub-left.result in (
      put-length put ∙ l.invariant.0,
      left_less (get_or letters l.letter-index 0 ∷ comma left) (separated left (drop (l.letter-index + 1) letters)) (omega arith)
          (rw (separated-next letters l.left l.letter-index (omega arith), ← c.saturating_sub-left.ensures) at l.invariant.1)
          put,
    )

pub returns : goal.returns
returns c =
    let l = c.loop-letter in
    let letters : List ℕ = c.args.letters.now in
    left-none (rw (drop_of_length-le letters {i = l.letter-index} (omega arith), separated-none) at l.invariant.1)
