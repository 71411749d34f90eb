-- What the plain structs keep of the answers.
--
-- In order: answers that are exported alike are the same answer, of as many rows; a row's make-whole can be had from an exported
-- answer.
-- Assumes nothing.
use mathlib.Core.Path.{◌≡◌, refl, sym, ap}
use Prim.Native.Nat.{ℕ, ◌-◌}
use native.Mathlib.Omega.{arith}
use Rattle.std.specs.Prelude.{Some, None, Ok, Err}
use Rattle.values.proofs.Table.{refusal-told}
use Rattle.auction.specs.Settlement.{mills}
use Rattle.settle.specs.inner.Read.{quoted}
use Rattle.answers.specs.Answers.{clearing_kind, clearing_cents, exported, exported_make_whole}
use Rattle.sale.specs.declared.Clearing.{Clearing}
use Rattle.pricing.specs.Price.{ClearingPrice}
use Rattle.call.specs.Answer.{Answer}

-- the kind and the cents tell the price: no price is told by its kind, whatever stands for the cents
price-told : (p q : ClearingPrice) → clearing_kind p ≡ clearing_kind q → clearing_cents p ≡ clearing_cents q → p ≡ q
price-told (Some p) (Some q) k e = λ i. Some (record { 0 = e i })
price-told (Some p) None k e = absurd (omega arith)
price-told None (Some q) k e = absurd (omega arith)
price-told None None k e = refl

-- a clearing is told by its values
clearing-told : (c d : Clearing) → c.total ≡ d.total → c.price ≡ d.price → c.make_whole ≡ d.make_whole → c.daily ≡ d.daily
    → c.year ≡ d.year → c ≡ d
clearing-told c d total price whole daily year =
    λ i. record { total = total i; price = price i; make_whole = whole i; daily = daily i; year = year i }

-- a clearing is never exported as a refusal
kinds-differ : (p : ClearingPrice) → clearing_kind p ≡ 3 → ⊥
kinds-differ (Some p) e = omega arith
kinds-differ None e = omega arith

-- Answers that are exported alike are the same answer: nothing is lost, and no field needs to be in any range.
pub exported-injective : (a b : Answer) (rows more : ℕ) → exported a rows ≡ exported b more → a ≡ b
exported-injective (Ok c) (Ok d) rows more e =
    let price = price-told c.price d.price (λ i. (e i).kind) (λ i. (e i).price) in
    ap Ok
    (clearing-told c d (λ i. (e i).total) price (λ i. (e i).make_whole) (λ i. (e i).daily) (λ i. (e i).year))
exported-injective (Ok c) (Err n) rows more e = absurd (kinds-differ c.price (λ i. (e i).kind))
exported-injective (Err n) (Ok d) rows more e = absurd (kinds-differ d.price (sym (λ i. (e i).kind)))
exported-injective (Err r) (Err s) rows more e = ap Err (refusal-told r s (λ i. (e i).number) (λ i. (e i).place))

make-whole-told : (p : ClearingPrice) (cleared committed : ℕ)
    → exported_make_whole (clearing_kind p) (clearing_cents p) cleared committed ≡ mills (quoted p) (committed - cleared)
unfolding exported_make_whole
make-whole-told (Some p) cleared committed = refl
make-whole-told None cleared committed = refl

-- and so is the number of rows, where there is a clearing
pub exported-rows : (c d : Clearing) (rows more : ℕ) → exported (Ok c) rows ≡ exported (Ok d) more → rows ≡ more
exported-rows c d rows more e = λ i. (e i).rows

-- A row's make-whole can be had from the kind and the price of an exported clearing.
pub exported-make-whole : (c : Clearing) (rows cleared committed : ℕ)
    → exported_make_whole (exported (Ok c) rows).kind (exported (Ok c) rows).price cleared committed
    ≡ mills (quoted c.price) (committed - cleared)
exported-make-whole c rows = make-whole-told c.price
