-- What parameters that passed the tests are: given, and within the outline's ranges.
--
-- In order: a number within a range, a given value within one; the margin of a year; all parameters given, each range's test;
-- both together.
-- Assumes nothing.
use mathlib.Core.Path.{◌≡◌, refl, sym, ap, ◌∙◌}
use mathlib.Core.Bool.{Bool, true, false, ◌&&◌, false≢true}
use Prim.Native.Nat.{ℕ, ◌≤◌}
use native.Mathlib.Omega.{arith}
use lib.Dec.{leb}
use borrow.Author.Tests.{leb-true, le-leb, lt-leb}
use Rattle.laws.proofs.Cases.{and_left, and_right, and-true}
use Rattle.values.specs.Values.{held}
use Rattle.values.specs.Refusals.{parameter_out_of_range, unless, and_then, Verdict, no_fault}
use Rattle.values.specs.declared.Value.{Value}
use Rattle.values.specs.declared.Value.TheVariants.{Given, Missing}
use Rattle.values.specs.declared.head.Parameters.{Parameters}
use Rattle.values.specs.declared.refusal.Refusal.TheVariants.{ParameterOutOfRange}
use Rattle.values.proofs.Firsts.{unless-passed, and_then-left, and_then-right}
use Rattle.limits.specs.Parameters.{within, given_within, by_margin, field_fault, offset_most, margin_within, missing_fault, range_fault}
use Rattle.limits.specs.Ranges.{Ranged}

-- ---- numbers and values

pub within-from : (least most number : ℕ) → within least most number ≡ true → least ≤ number
within-from least most number e = leb-true least number (and_left (leb least number) (leb number most) e)

pub within-to : (least most number : ℕ) → within least most number ≡ true → number ≤ most
within-to least most number e = leb-true number most (and_right (leb least number) (leb number most) e)

pub given-within : (least most : ℕ) (v : Value) (number : ℕ)
    → given_within least most v ≡ true → v ≡ Given number → within least most number ≡ true
given-within least most v number e g = rw g at e

-- ---- the margin of a year

-- the years from 2022 to 2025 go by the margin
pub margin-early : {year : ℕ} → 2022 ≤ year → year ≤ 2025 → by_margin year ≡ true
unfolding by_margin
margin-early {year} from to = and-true (leb 2022 year) (leb year 2025) (le-leb 2022 year from) (le-leb year 2025 to)

-- and none after 2025
pub margin-until : {year : ℕ} → by_margin year ≡ true → year ≤ 2025
unfolding by_margin
margin-until {year} e = within-to 2022 2025 year e

and-off : (s t : Bool) → t ≡ false → s && t ≡ false
and-off true t e = e
and-off false t e = refl

-- those from 2026 on do not
pub margin-late : {year : ℕ} → 2026 ≤ year → by_margin year ≡ false
unfolding by_margin
margin-late {year} from = and-off (leb 2022 year) (leb year 2025) (lt-leb year 2025 from)

-- a margin that is given is at most 5,000
margin-most : (year number : ℕ) (v : Value) → margin_within year v ≡ true → v ≡ Given number → number ≤ 5000
margin-most year number v e g = within-to 0 5000 number (and_right (by_margin year) (within 0 5000 number) (rw g at e))

-- a year that does not go by it has none
margin-absent : (year : ℕ) (v : Value) → by_margin year ≡ false → margin_within year v ≡ true → v ≡ Missing
margin-absent year (Given number) late e = absurd (false≢true (sym (ap (λ b. b && within 0 5000 number) late) ∙ e))
margin-absent year Missing late e = refl

-- ---- parameters

-- each parameter is given
record AllGiven (p : Parameters) : Type 0 where
  cost : p.cost ≡ Given (held p.cost)
  offset : p.offset ≡ Given (held p.offset)
  outage : p.outage ≡ Given (held p.outage)
  requirement : p.requirement ≡ Given (held p.requirement)
  margin : by_margin p.year ≡ true → p.margin ≡ Given (held p.margin)

field_fault-given : (field : ℕ) (v : Value) → field_fault field v ≡ no_fault → v ≡ Given (held v)
field_fault-given field (Given number) e = refl
field_fault-given field Missing e = cc

all-given : (p : Parameters) → missing_fault p ≡ no_fault → AllGiven p
unfolding missing_fault
all-given p e =
    let from3 = and_then-right (field_fault 2 p.cost) _ e in
    let from4 = and_then-right (field_fault 3 p.offset) _ from3 in
    let from5 = and_then-right (field_fault 4 p.outage) _ from4 in
    let from6 = and_then-right (field_fault 5 p.requirement) _ from5 in
    record {
      cost = field_fault-given 2 p.cost (and_then-left _ _ e);
      offset = field_fault-given 3 p.offset (and_then-left _ _ from3);
      outage = field_fault-given 4 p.outage (and_then-left _ _ from4);
      requirement = field_fault-given 5 p.requirement (and_then-left _ _ from5);
      margin = λ old. field_fault-given 6 p.margin (rw old at from6);
    }

-- each field's test of its range holds
record InRange (p : Parameters) : Type 0 where
  year : within 2022 2099 p.year ≡ true
  cost : given_within 1 1000000 p.cost ≡ true
  offset : given_within 0 (offset_most p.cost) p.offset ≡ true
  outage : given_within 0 5000 p.outage ≡ true
  requirement : given_within 1000 2000000 p.requirement ≡ true
  margin : margin_within p.year p.margin ≡ true

range-passed : (t : Bool) (field : ℕ) (rest : Verdict)
    → and_then (unless t (parameter_out_of_range field)) rest ≡ no_fault → (t ≡ true) × (rest ≡ no_fault)
range-passed true field rest e = (refl, e)
range-passed false field rest e = (cc, cc)

in-range : (p : Parameters) → range_fault p ≡ no_fault → InRange p
unfolding range_fault
in-range p e =
    let y = range-passed (within 2022 2099 p.year) 1 _ e in
    let c = range-passed (given_within 1 1000000 p.cost) 2 _ y.1 in
    let o = range-passed (given_within 0 (offset_most p.cost) p.offset) 3 _ c.1 in
    let f = range-passed (given_within 0 5000 p.outage) 4 _ o.1 in
    let r = range-passed (given_within 1000 2000000 p.requirement) 5 _ f.1 in
    let m = unless-passed (margin_within p.year p.margin) (ParameterOutOfRange 6) r.1 in
    record { year = y.0; cost = c.0; offset = o.0; outage = f.0; requirement = r.0; margin = m }

-- Parameters of a year from 2026 on that 5 does not refuse have no margin.
pub parameters-margin : (p : Parameters) → range_fault p ≡ no_fault → 2026 ≤ p.year → p.margin ≡ Missing
parameters-margin p f late = margin-absent p.year p.margin (margin-late late) (in-range p f).margin

-- Parameters that neither 4 nor 5 refuses are given and within their ranges.
pub parameters-ranged : (p : Parameters) → missing_fault p ≡ no_fault → range_fault p ≡ no_fault → Ranged p
parameters-ranged p e f =
    let given = all-given p e in
    let test = in-range p f in
    let from = within-from 2022 2099 p.year test.year in
    let cost = given-within 1 1000000 p.cost _ test.cost given.cost in
    let offset = given-within 0 (offset_most p.cost) p.offset _ test.offset given.offset in
    let requirement = given-within 1000 2000000 p.requirement _ test.requirement given.requirement in
    record {
      year-from = from;
      year-to = within-to 2022 2099 p.year test.year;
      cost-given = given.cost;
      cost-from = within-from 1 1000000 _ cost;
      cost-to = within-to 1 1000000 _ cost;
      offset-given = given.offset;
      offset-to = omega (arith, within-to 0 (offset_most p.cost) (held p.offset) offset, ap offset_most given.cost);
      outage-given = given.outage;
      outage-to = within-to 0 5000 _ (given-within 0 5000 p.outage _ test.outage given.outage);
      requirement-given = given.requirement;
      requirement-from = within-from 1000 2000000 _ requirement;
      requirement-to = within-to 1000 2000000 _ requirement;
      margin-given = λ early. given.margin (margin-early from early);
      margin-to = λ early. margin-most p.year _ p.margin test.margin (given.margin (margin-early from early));
      margin-none = parameters-margin p f;
    }
