-- What the reader of rows hands back: nothing of a refused book, nothing for a row that isn't there, and else the row's
-- own 32 bytes.
-- Assumes nothing.
use mathlib.Core.Path.{◌≡◌, refl, ap, ◌∙◌}
use mathlib.Core.Bool.{Bool, cond, ◌&&◌}
use mathlib.Core.List.{List, []}
use Prim.Native.Nat.{ℕ, ◌≤◌, ◌<◌}
use lib.Dec.{ltb}
use lib.ListN.{length}
use borrow.Author.Tests.{lt-ltb, le-ltb}
use Rattle.std.specs.Prelude.{Ok, Err, is_ok}
use Rattle.sections.specs.Blocks.{row_bytes}
use Rattle.sections.proofs.Parts.{row-length}
use Rattle.layout.specs.Form.{offer_count, form_fault, handed_back, own_bytes}
use Rattle.layout.proofs.Passing.{form-passed-row}
use Rattle.values.specs.Refusals.{Verdict, no_fault}
use Rattle.values.specs.declared.refusal.Refusal.{Refusal}

handed : (v : Verdict) (there : Bool) (part : List ℕ) → handed_back v (cond there part []) ≡ cond (is_ok v && there) part []
handed (Ok u) there part = refl
handed (Err refusal) there part = refl

-- the row's part, as the code tells whether there is one
pub row-part : (b : List ℕ) (row : ℕ)
    → own_bytes b row ≡ cond (is_ok (form_fault b) && ltb row (offer_count b)) (row_bytes b 1 row) []
unfolding own_bytes
row-part b row = handed (form_fault b) (ltb row (offer_count b)) (row_bytes b 1 row)

-- a book that is refused
pub row-part-refused : (b : List ℕ) (row : ℕ) (refusal : Refusal) → form_fault b ≡ Err refusal → own_bytes b row ≡ []
unfolding own_bytes
row-part-refused b row refusal e = rw e

-- a row that isn't there
pub row-part-past : (b : List ℕ) (row : ℕ) → form_fault b ≡ no_fault → offer_count b ≤ row → own_bytes b row ≡ []
unfolding own_bytes
row-part-past b row e h = rw (e, le-ltb row (offer_count b) h)

-- a row that is there
pub row-part-there : (b : List ℕ) (row : ℕ) → form_fault b ≡ no_fault → row < offer_count b → own_bytes b row ≡ row_bytes b 1 row
unfolding own_bytes
row-part-there b row e h = rw (e, lt-ltb row (offer_count b) h)

pub row-part-length : (b : List ℕ) (row : ℕ) → form_fault b ≡ no_fault → row < offer_count b → length (own_bytes b row) ≡ 32
row-part-length b row e h = ap length (row-part-there b row e h) ∙ row-length b 1 row (form-passed-row b e row h)
