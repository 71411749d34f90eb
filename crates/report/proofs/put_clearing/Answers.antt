-- `put_clearing` puts the lines of an accepted book.
-- Assumes nothing.
use mathlib.Core.Path.{sym, subst}
use Prim.Native.Nat.{◌≤◌}
use Rattle.layout.specs.inner.Read.{Inside}
use Rattle.layout.proofs.Passing.{form-passed-length}
use Rattle.book.proofs.Accepted.{accepted-form, accepted-inside}
use Rattle.report.specs.inner.Report.{sold_text}
use Rattle.report.proofs.Fitting.{fitted-length, fitted-append, rows-counted}
use native.Mathlib.Omega.{arith}
use Rattle.report.proofs.put_clearing.Goals as goal
use Rattle.report.proofs.put_clearing.Goals.{After-offer_count-n}

pub offer_count-n-requires : goal.offer_count-n-requires
offer_count-n-requires c = form-passed-length _ (accepted-form _ c.requires.book_value)

-- there are 600 rows at most
few : (c : After-offer_count-n) → c.offer_count-n.result ≤ 600
few c = omega (arith, c.offer_count-n.ensures.0, (accepted-inside _ c.requires.book_value).few)

pub put_rows-third-requires : goal.put_rows-third-requires
put_rows-third-requires c =
    let count = c.offer_count-n.ensures.0 in
    let inside = accepted-inside _ c.requires.book_value in record {
      inside = (
        subst (Inside _ 1) (sym count) inside,
        omega (arith, count, inside.few, c.requires.in_bounds.0),
        omega (arith, count, inside.few, c.requires.in_bounds.1),
      );
      n_in_bounds = omega (arith, count, inside.few, c.requires.at_in_bounds);
    }

pub put_word-fourth-requires : goal.put_word-fourth-requires
put_word-fourth-requires c = omega (arith, few (goal.at.put_word-fourth-requires c).After-offer_count-n)

pub put_word-requires : goal.put_word-requires
put_word-requires c =
    let first = c.put_word-first.ensures in
    let second = c.put_price-second.ensures in
    let third = c.put_rows-third.ensures in
    let fourth = c.put_word-fourth.ensures in
    omega (
      arith,
      few (goal.at.put_word-requires c).After-offer_count-n,
      c.requires.at_in_bounds,
      first.1,
      second.1,
      third.1,
      fourth.1,
      fitted-length first.0,
      fitted-length second.0,
      fitted-length third.0,
      fitted-length fourth.0,
    )

pub returns : goal.returns
unfolding sold_text
returns c =
    let head = fitted-append (rw c.from.ensures at c.put_word-first.ensures.0) c.put_price-second.ensures.0 in
    let rows = rows-counted _ c.offer_count-n.ensures.0 c.put_rows-third.ensures.0 in
    let daily = c.put_word-fourth.ensures.0 in
    fitted-append (fitted-append (fitted-append head rows) daily) c.put_word.ensures.0
