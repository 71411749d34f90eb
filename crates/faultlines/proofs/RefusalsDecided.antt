-- The contracts of a refusal's lines leave one outcome but for the words: any two that a contract allows, by one form, coincide.
-- Assumes nothing.
use mathlib.Core.Path.{◌≡◌}
use mathlib.Core.List.{List}
use Prim.Native.Nat.{ℕ}
use contract.Lifetimes.{Lfts}
use denote.Ref.{MutBor}
use Rattle.values.specs.declared.head.Parameters.{Parameters}
use Rattle.values.specs.declared.place.Offer.{Offer}
use Rattle.wording.proofs.Worded.{one_form}
use Rattle.faultlines.proofs.refused.put_length.Reads as put-length
use Rattle.faultlines.proofs.refused.put_check.Reads as put-check
use Rattle.faultlines.proofs.refused.put_layout.Reads as put-layout
use Rattle.faultlines.proofs.parameter.put_parameter.Reads as put-parameter
use Rattle.faultlines.proofs.refused.put_refused_row.Reads as put-refused-row
use Rattle.faultlines.proofs.wrong.put_values.Reads as put-values
use Rattle.faultlines.proofs.wrong.put_rules.Reads as put-rules
use Rattle.faultlines.proofs.missing.put_missing_parameters.Reads as put-missing-parameters
use Rattle.faultlines.proofs.missing.put_missing_price.Reads as put-missing-price

module _ (κs : Lfts 1) (room after other : MutBor (List ℕ)) (at r s : ℕ) where
  -- the length, by the contract of `put_length`
  pub put-length-decided : (bytes : ℕ)
      → (e : put-length.Post κs (room, (at, (bytes, tt))) r (after, (at, (bytes, tt))))
      → (f : put-length.Post κs (room, (at, (bytes, tt))) s (other, (at, (bytes, tt))))
      → e.form ≡ f.form → (r ≡ s) × (after.now ≡ other.now)
  put-length-decided bytes e f same = one_form e f same

  -- the check of a block, by the contract of `put_check`
  pub put-check-decided : (block : ℕ)
      → (e : put-check.Post κs (room, (at, (block, tt))) r (after, (at, (block, tt))))
      → (f : put-check.Post κs (room, (at, (block, tt))) s (other, (at, (block, tt))))
      → e.form ≡ f.form → (r ≡ s) × (after.now ≡ other.now)
  put-check-decided block e f same = one_form e f same

  -- the layout of a block, by the contract of `put_layout`
  pub put-layout-decided : (block test byte : ℕ)
      → (e : put-layout.Post κs (room, (at, (block, (test, (byte, tt))))) r (after, (at, (block, (test, (byte, tt))))))
      → (f : put-layout.Post κs (room, (at, (block, (test, (byte, tt))))) s (other, (at, (block, (test, (byte, tt))))))
      → e.form ≡ f.form → (r ≡ s) × (after.now ≡ other.now)
  put-layout-decided block test byte e f same = one_form e f same

  -- a parameter, by the contract of `put_parameter`
  pub put-parameter-decided : (number field : ℕ) (p : Parameters)
      → (e : put-parameter.Post κs (room, (at, (number, (field, (p, tt))))) r (after, (at, (number, (field, (p, tt))))))
      → (f : put-parameter.Post κs (room, (at, (number, (field, (p, tt))))) s (other, (at, (number, (field, (p, tt))))))
      → e.form ≡ f.form → (r ≡ s) × (after.now ≡ other.now)
  put-parameter-decided number field p e f same = one_form e f same

  -- a row, by the contract of `put_refused_row`
  pub put-refused-row-decided : (number row resource first : ℕ)
      → (e : put-refused-row.Post κs (room, (at, (number, (row, (resource, (first, tt)))))) r (after, (at, (number, (row, (resource, (first, tt)))))))
      → (f : put-refused-row.Post κs (room, (at, (number, (row, (resource, (first, tt)))))) s (other, (at, (number, (row, (resource, (first, tt)))))))
      → e.form ≡ f.form → (r ≡ s) × (after.now ≡ other.now)
  put-refused-row-decided number row resource first e f same = one_form e f same

  -- the values of a row, by the contract of `put_values`
  pub put-values-decided : (edition : ℕ) (o : Offer)
      → (e : put-values.Post κs (room, (at, (edition, (o, tt)))) r (after, (at, (edition, (o, tt)))))
      → (f : put-values.Post κs (room, (at, (edition, (o, tt)))) s (other, (at, (edition, (o, tt)))))
      → e.form ≡ f.form → (r ≡ s) × (after.now ≡ other.now)
  put-values-decided edition o e f same = one_form e f same

  -- the rule of steps, by the contract of `put_rules`
  pub put-rules-decided : (cause : ℕ)
      → (e : put-rules.Post κs (room, (at, (cause, tt))) r (after, (at, (cause, tt))))
      → (f : put-rules.Post κs (room, (at, (cause, tt))) s (other, (at, (cause, tt))))
      → e.form ≡ f.form → (r ≡ s) × (after.now ≡ other.now)
  put-rules-decided cause e f same = one_form e f same

  -- the parameters that are missing, by the contract of `put_missing_parameters`
  pub put-missing-parameters-decided : (p : Parameters)
      → (e : put-missing-parameters.Post κs (room, (at, (p, tt))) r (after, (at, (p, tt))))
      → (f : put-missing-parameters.Post κs (room, (at, (p, tt))) s (other, (at, (p, tt))))
      → e.form ≡ f.form → (r ≡ s) × (after.now ≡ other.now)
  put-missing-parameters-decided p e f same = one_form e f same

  -- a price that is missing, by the contract of `put_missing_price`
  pub put-missing-price-decided : (edition row resource step : ℕ)
      → (e : put-missing-price.Post κs (room, (at, (edition, (row, (resource, (step, tt)))))) r (after, (at, (edition, (row, (resource, (step, tt)))))))
      → (f : put-missing-price.Post κs (room, (at, (edition, (row, (resource, (step, tt)))))) s (other, (at, (edition, (row, (resource, (step, tt)))))))
      → e.form ≡ f.form → (r ≡ s) × (after.now ≡ other.now)
  put-missing-price-decided edition row resource step e f same = one_form e f same
