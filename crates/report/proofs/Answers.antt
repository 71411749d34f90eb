-- The text of a report by what the call answered.
--
-- In order: buffers of 600 entries are never too short; a clearing was answered for an accepted book, and its lines are the
-- book's; a refusal's line is the book's.
-- Assumes nothing.
use mathlib.Core.Path.{◌≡◌, sym, ap, ap₂, subst, ◌∙◌}
use mathlib.Core.List.{List, ◌++◌}
use Prim.Native.Nat.{ℕ, ◌-◌, ◌≤◌, ◌<◌}
use lib.ListN.{length, get_or}
use Rattle.std.specs.Prelude.{Ok, Err}
use Rattle.auction.specs.Settlement.{mills}
use Rattle.values.specs.Contents.{offer_at}
use Rattle.values.specs.declared.place.Offer.{Offer}
use Rattle.layout.specs.Read.{contents_of}
use Rattle.layout.proofs.Contained.{contents-count, contents-offer}
use Rattle.book.specs.Faults.{first_fault}
use Rattle.sale.specs.Auction.{total, price, row_cleared, row_committed, row_make_whole, daily_total, year_total}
use Rattle.sale.specs.Payment.{clearing_of}
use Rattle.call.specs.Answer.{Outcome, Answer}
use Rattle.sale.specs.declared.Clearing.{Clearing}
use Rattle.call.proofs.Calls.{fault-first}
use Rattle.sale.proofs.Payments.{quoted-as_price}
use Rattle.call.proofs.Outcomes.{cleared-accepted, cleared-clearing, cleared-row, committed-row, refused-first}
use Rattle.report.specs.Lines.{cleared_word, daily_word, year_word, line_text, price_text, refusal_text, row_text}
use Rattle.report.specs.Report.{clearing_text, report_by, report_text}
use Rattle.report.specs.inner.Report.{sold_text}
use Rattle.report.proofs.Fitting.{rows_text-ext}
use Rattle.values.specs.Refusals.{Verdict, no_fault}
use Rattle.values.specs.declared.refusal.Refusal.{Refusal}

module _ (b : List ℕ) where
  -- a row's line, with the resource that its own bytes hold
  abbrev line : ℕ → ℕ → ℕ → ℕ → List ℕ
  line resource x y row = row_text resource x y (mills (price (contents_of b)) (y - x))

  -- the lines of the clearing of what a book says
  sold-clearing : (cleared committed : List ℕ)
      → ((row : ℕ) → row < length (contents_of b).offers → get_or cleared row 0 ≡ row_cleared (contents_of b) row)
      → ((row : ℕ) → row < length (contents_of b).offers → get_or committed row 0 ≡ row_committed (contents_of b) row)
      → sold_text b (clearing_of (contents_of b)) cleared committed ≡ clearing_text (contents_of b)
  unfolding sold_text clearing_text clearing_of row_committed row_make_whole
  sold-clearing cleared committed h k =
      let c = contents_of b in
      rw (quoted-as_price (price c), contents-count b)
      (ap (λ (rows : List ℕ). line_text cleared_word (total c) ++ price_text (price c) ++ rows ++ line_text daily_word (daily_total c) ++ line_text year_word (year_total c))
      (rows_text-ext _ _ (length c.offers)
      (λ row l.
      ap (λ (o : Offer). line o.resource (get_or cleared row 0) (get_or committed row 0) row)
      (sym (contents-offer b row (rw (contents-count b) l)))
      ∙ ap₂ (λ (x y : ℕ). line (offer_at c.offers row).resource x y row) (h row l) (k row l))))

module _ (b cleared committed : List ℕ) (answer : Answer) (cleared' committed' : List ℕ)
    (out : Outcome b cleared committed answer cleared' committed') where
  as-answered : (a : Answer) → answer ≡ a → Outcome b cleared committed a cleared' committed'
  as-answered a e = subst (λ (x : Answer). Outcome b cleared committed x cleared' committed') e out

  -- a clearing: the book was accepted
  pub answered-accepted : (c : Clearing) → answer ≡ Ok c → first_fault b ≡ no_fault
  answered-accepted c e = cleared-accepted b cleared committed c cleared' committed' (as-answered (Ok c) e)

  pub sold-reported : (c : Clearing) → answer ≡ Ok c → sold_text b c cleared' committed' ≡ report_text b
  unfolding report_text
  sold-reported c e =
      let o = as-answered (Ok c) e in
      ap (λ (k : Clearing). sold_text b k cleared' committed') (cleared-clearing b cleared committed c cleared' committed' o)
      ∙ sold-clearing b cleared' committed' (cleared-row b cleared committed c cleared' committed' o)
      (committed-row b cleared committed c cleared' committed' o)
      ∙ sym (ap (λ (v : Verdict). report_by v (clearing_text (contents_of b))) (answered-accepted c e))

  pub refusal-reported : (refusal : Refusal) → 600 ≤ length cleared → 600 ≤ length committed
      → answer ≡ Err refusal → refusal_text refusal ≡ report_text b
  unfolding report_text
  refusal-reported refusal h k e =
      let first = refused-first b cleared committed refusal cleared' committed' (as-answered (Err refusal) e) in
      sym (ap (λ (v : Verdict). report_by v (clearing_text (contents_of b)))
      (sym (fault-first b (length cleared) (length committed) h k) ∙ first))
