-- The contracts of the lines of rows and price levels leave one outcome but for the words: any two that a contract allows, by one
-- form, coincide.
-- Assumes nothing.
use mathlib.Core.Path.{◌≡◌}
use mathlib.Core.List.{List}
use Prim.Native.Nat.{ℕ}
use contract.Lifetimes.{Lfts}
use denote.Ref.{MutBor}
use Rattle.values.specs.declared.place.Offer.{Offer}
use Rattle.reasons.specs.declared.share.Share.{Share}
use Rattle.ladder.specs.declared.rung.Rung.{Rung}
use Rattle.turns.specs.declared.order.Contender.{Contender}
use Rattle.turns.specs.declared.turn.Turn.{Turn}
use Rattle.wording.proofs.Worded.{one_form}
use Rattle.rowlines.proofs.table.put_table_head.Reads as put-table-head
use Rattle.rowlines.proofs.table.put_line.Reads as put-line
use Rattle.rowlines.proofs.rows.put_rows_head.Reads as put-rows-head
use Rattle.rowlines.proofs.rows.put_offer.Reads as put-offer
use Rattle.rowlines.proofs.rows.put_part.Reads as put-part
use Rattle.rowlines.proofs.rows.put_settled.Reads as put-settled
use Rattle.rowlines.proofs.rows.put_together.Reads as put-together
use Rattle.rowlines.proofs.turn.put_turn.Reads as put-turn
use Rattle.rowlines.proofs.division.put_division.Reads as put-division
use Rattle.rowlines.proofs.division.put_left_before.Reads as put-left-before
use Rattle.rowlines.proofs.division.put_place.Reads as put-place
use Rattle.rowlines.proofs.division.put_left_behind.Reads as put-left-behind
use Rattle.rowlines.proofs.rungs.put_ladder.Reads as put-ladder
use Rattle.rowlines.proofs.rungs.put_rung.Reads as put-rung
use Rattle.pricing.specs.Price.{ClearingPrice}

module _ (κs : Lfts 1) (room after other : MutBor (List ℕ)) (at r s : ℕ) where
  -- the head of the table of rows, by the contract of `put_table_head`
  pub put-table-head-decided : (e : put-table-head.Post κs (room, (at, tt)) r (after, (at, tt)))
      → (f : put-table-head.Post κs (room, (at, tt)) s (other, (at, tt)))
      → e.form ≡ f.form → (r ≡ s) × (after.now ≡ other.now)
  put-table-head-decided e f same = one_form e f same

  -- the line of a row, by the contract of `put_line`
  pub put-line-decided : (row : ℕ) (o : Offer) (cleared committed mills amount sum : ℕ)
      → (e : put-line.Post κs (room, (at, (row, (o, (cleared, (committed, (mills, (amount, (sum, tt))))))))) r (after, (at, (row, (o, (cleared, (committed, (mills, (amount, (sum, tt))))))))))
      → (f : put-line.Post κs (room, (at, (row, (o, (cleared, (committed, (mills, (amount, (sum, tt))))))))) s (other, (at, (row, (o, (cleared, (committed, (mills, (amount, (sum, tt))))))))))
      → e.form ≡ f.form → (r ≡ s) × (after.now ≡ other.now)
  put-line-decided row o cleared committed mills amount sum e f same = one_form e f same

  -- the head of the rows, by the contract of `put_rows_head`
  pub put-rows-head-decided : (e : put-rows-head.Post κs (room, (at, tt)) r (after, (at, tt)))
      → (f : put-rows-head.Post κs (room, (at, tt)) s (other, (at, tt)))
      → e.form ≡ f.form → (r ≡ s) × (after.now ≡ other.now)
  put-rows-head-decided e f same = one_form e f same

  -- a row's offer, by the contract of `put_offer`
  pub put-offer-decided : (edition row : ℕ) (o : Offer)
      → (e : put-offer.Post κs (room, (at, (edition, (row, (o, tt))))) r (after, (at, (edition, (row, (o, tt))))))
      → (f : put-offer.Post κs (room, (at, (edition, (row, (o, tt))))) s (other, (at, (edition, (row, (o, tt))))))
      → e.form ≡ f.form → (r ≡ s) × (after.now ≡ other.now)
  put-offer-decided edition row o e f same = one_form e f same

  -- a row's part of its level, by the contract of `put_part`
  pub put-part-decided : (quantity : ℕ) (share : Share)
      → (e : put-part.Post κs (room, (at, (quantity, (share, tt)))) r (after, (at, (quantity, (share, tt)))))
      → (f : put-part.Post κs (room, (at, (quantity, (share, tt)))) s (other, (at, (quantity, (share, tt)))))
      → e.form ≡ f.form → (r ≡ s) × (after.now ≡ other.now)
  put-part-decided quantity share e f same = one_form e f same

  -- what a row clears, commits and is paid, by the contract of `put_settled`
  pub put-settled-decided : (price : ClearingPrice) (cleared committed mills : ℕ)
      → (e : put-settled.Post κs (room, (at, (price, (cleared, (committed, (mills, tt)))))) r (after, (at, (price, (cleared, (committed, (mills, tt)))))))
      → (f : put-settled.Post κs (room, (at, (price, (cleared, (committed, (mills, tt)))))) s (other, (at, (price, (cleared, (committed, (mills, tt)))))))
      → e.form ≡ f.form → (r ≡ s) × (after.now ≡ other.now)
  put-settled-decided price cleared committed mills e f same = one_form e f same

  -- a resource's steps together, by the contract of `put_together`
  pub put-together-decided : (resource steps cleared offered : ℕ)
      → (e : put-together.Post κs (room, (at, (resource, (steps, (cleared, (offered, tt)))))) r (after, (at, (resource, (steps, (cleared, (offered, tt)))))))
      → (f : put-together.Post κs (room, (at, (resource, (steps, (cleared, (offered, tt)))))) s (other, (at, (resource, (steps, (cleared, (offered, tt)))))))
      → e.form ≡ f.form → (r ≡ s) × (after.now ≡ other.now)
  put-together-decided resource steps cleared offered e f same = one_form e f same

  -- a row's turn, by the contract of `put_turn`
  pub put-turn-decided : (edition : ℕ) (t : Turn)
      → (e : put-turn.Post κs (room, (at, (edition, (t, tt)))) r (after, (at, (edition, (t, tt)))))
      → (f : put-turn.Post κs (room, (at, (edition, (t, tt)))) s (other, (at, (edition, (t, tt)))))
      → e.form ≡ f.form → (r ≡ s) × (after.now ≡ other.now)
  put-turn-decided edition t e f same = one_form e f same

  -- a level that is divided, by the contract of `put_division`
  pub put-division-decided : (edition price amount sum spares : ℕ)
      → (e : put-division.Post κs (room, (at, (edition, (price, (amount, (sum, (spares, tt))))))) r (after, (at, (edition, (price, (amount, (sum, (spares, tt))))))))
      → (f : put-division.Post κs (room, (at, (edition, (price, (amount, (sum, (spares, tt))))))) s (other, (at, (edition, (price, (amount, (sum, (spares, tt))))))))
      → e.form ≡ f.form → (r ≡ s) × (after.now ≡ other.now)
  put-division-decided edition price amount sum spares e f same = one_form e f same

  -- the places left out before, by the contract of `put_left_before`
  pub put-left-before-decided : (last : ℕ)
      → (e : put-left-before.Post κs (room, (at, (last, tt))) r (after, (at, (last, tt))))
      → (f : put-left-before.Post κs (room, (at, (last, tt))) s (other, (at, (last, tt))))
      → e.form ≡ f.form → (r ≡ s) × (after.now ≡ other.now)
  put-left-before-decided last e f same = one_form e f same

  -- a place in the contest, by the contract of `put_place`
  pub put-place-decided : (edition k spares : ℕ) (c : Contender)
      → (e : put-place.Post κs (room, (at, (edition, (k, (spares, (c, tt)))))) r (after, (at, (edition, (k, (spares, (c, tt)))))))
      → (f : put-place.Post κs (room, (at, (edition, (k, (spares, (c, tt)))))) s (other, (at, (edition, (k, (spares, (c, tt)))))))
      → e.form ≡ f.form → (r ≡ s) × (after.now ≡ other.now)
  put-place-decided edition k spares c e f same = one_form e f same

  -- the places left out behind, by the contract of `put_left_behind`
  pub put-left-behind-decided : (spares contenders : ℕ)
      → (e : put-left-behind.Post κs (room, (at, (spares, (contenders, tt)))) r (after, (at, (spares, (contenders, tt)))))
      → (f : put-left-behind.Post κs (room, (at, (spares, (contenders, tt)))) s (other, (at, (spares, (contenders, tt)))))
      → e.form ≡ f.form → (r ≡ s) × (after.now ≡ other.now)
  put-left-behind-decided spares contenders e f same = one_form e f same

  -- the head of the ladder, by the contract of `put_ladder`
  pub put-ladder-decided : (lower : ℕ)
      → (e : put-ladder.Post κs (room, (at, (lower, tt))) r (after, (at, (lower, tt))))
      → (f : put-ladder.Post κs (room, (at, (lower, tt))) s (other, (at, (lower, tt))))
      → e.form ≡ f.form → (r ≡ s) × (after.now ≡ other.now)
  put-ladder-decided lower e f same = one_form e f same

  -- a rung of the ladder, by the contract of `put_rung`
  pub put-rung-decided : (k : ℕ) (rung : Rung)
      → (e : put-rung.Post κs (room, (at, (k, (rung, tt)))) r (after, (at, (k, (rung, tt)))))
      → (f : put-rung.Post κs (room, (at, (k, (rung, tt)))) s (other, (at, (k, (rung, tt)))))
      → e.form ≡ f.form → (r ≡ s) × (after.now ≡ other.now)
  put-rung-decided k rung e f same = one_form e f same
