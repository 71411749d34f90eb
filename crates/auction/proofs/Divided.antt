-- Amounts that divide a total by the stated shares, level by level.
--
-- In order: what `cleared` gives is so divided; amounts that agree with it in every row are too.
-- Assumes nothing.
use mathlib.Core.Path.{◌≡◌, sym, ◌∙◌}
use Prim.Native.Nat.{ℕ, ◌<◌}
use lib.Dec.{eqb}
use Rattle.laws.proofs.Summands.{sum_where-ext}
use Rattle.auction.specs.Offers.{Offers, Proper}
use Rattle.auction.specs.Shares.{cleared}
use Rattle.auction.specs.Demands.{Divided}
use Rattle.auction.proofs.ShareLaws.{share-down-or-up, share-within, shares-add-up}
use Rattle.auction.proofs.Spares.{spare-tenth, spares-in-order}

-- what `cleared` gives divides the total by the stated shares
pub cleared-divided : (o : Offers) (x : ℕ) → Proper o → Divided o x (cleared o x)
cleared-divided o x proper =
    record {
      part = λ i l. share-down-or-up o x proper i l;
      within = λ i l. share-within o x proper i l;
      exact = λ p. shares-add-up o x proper p;
      first = λ i l. spare-tenth o x i;
      ordered = λ i j l m e b h. spares-in-order o x i j m e b h;
    }

-- and so do amounts that agree with such amounts in every row
pub divided-agree : (o : Offers) (x : ℕ) (a b : ℕ → ℕ) → ((i : ℕ) → i < o.count → b i ≡ a i) → Divided o x a → Divided o x b
divided-agree o x a b e d =
    record {
      part = λ i l. rw (e i l) (d.part i l);
      within = λ i l. rw (e i l) (d.within i l);
      exact = λ p. sum_where-ext (λ i. eqb (o.price i) p) b a o.count (λ i l t. e i l) ∙ d.exact p;
      first = λ i l. rw (e i l) (d.first i l);
      ordered = λ i j l m f h g. e j m ∙ d.ordered i j l m f h (sym (e i l) ∙ g);
    }
