-- A row that the reader hands back has 32 bytes, and any other part is empty; so the first empty part tells how many there
-- are.
--
-- In order: the part of a row that is there, of one that isn't; a row that was asked with an empty part, and with one that is
-- not; there are at most 600.
-- Assumes nothing.
use mathlib.Core.Path.{◌≡◌, refl, ap}
use mathlib.Core.List.{List}
use Prim.Native.Nat.{ℕ, ◌+◌, ◌≤◌, ◌<◌}
use native.Mathlib.Nat.{not-suc-le-zero}
use native.Mathlib.Omega.{arith}
use lib.ListN.{length}
use Rattle.std.specs.Prelude.{Err, Ok}
use Rattle.laws.proofs.Cases.{by_order}
use Rattle.layout.specs.Form.{form_fault, offer_count, own_bytes}
use Rattle.layout.proofs.Handed.{row-part-refused, row-part-past, row-part-length}
use Rattle.layout.proofs.Passing.{form-passed-count}
use Rattle.verdicts.specs.inner.Handed.{rows_handed}
use Rattle.values.specs.Refusals.{Verdict}

module _ (b : List ℕ) (row : ℕ) where
  part-there : (v : Verdict) → form_fault b ≡ v → row < rows_handed v (offer_count b) → length (own_bytes b row) ≡ 32
  part-there (Ok u) e l = row-part-length b row e l
  part-there (Err refusal) e l = absurd (not-suc-le-zero l)

  part-past : (v : Verdict) → form_fault b ≡ v → rows_handed v (offer_count b) ≤ row → length (own_bytes b row) ≡ 0
  part-past (Ok u) e l = ap length (row-part-past b row e l)
  part-past (Err refusal) e l = ap length (row-part-refused b row refusal e)

  abbrev handed : ℕ
  handed = rows_handed (form_fault b) (offer_count b)

  -- an empty part: the rows asked before were all there are
  pub handed-empty : row ≤ handed → length (own_bytes b row) ≡ 0 → row ≡ handed
  handed-empty l e =
      by_order handed row (λ h. omega arith) (λ h. absurd (omega (arith, part-there (form_fault b) refl h)))

  -- a part that is not: there is one row more
  pub handed-more : (length (own_bytes b row) ≡ 0 → ⊥) → row + 1 ≤ handed
  handed-more n = by_order handed row (λ h. absurd (n (part-past (form_fault b) refl h))) (λ h. omega arith)

few : (b : List ℕ) (v : Verdict) → form_fault b ≡ v → rows_handed v (offer_count b) ≤ 600
few b (Ok u) e = form-passed-count b e
few b (Err refusal) e = omega arith

pub handed-few : (b : List ℕ) → rows_handed (form_fault b) (offer_count b) ≤ 600
handed-few b = few b (form_fault b) refl
