-- Two auctions with the same offers at or below a price p.
--
-- In order: at p or below both offer the same, in all and in each level; so of one total x an offer at p or below clears the same
-- in both.
-- Assumes nothing.
use mathlib.Core.Path.{◌≡◌, refl, sym, ap, ap₂, ◌∙◌}
use mathlib.Core.Bool.{Bool, true, cond, ◌&&◌}
use Prim.Native.Nat.{ℕ, ◌-◌, ◌≤◌, ◌<◌}
use native.Mathlib.Nat.{le_trans, le_of_eq, le_of_lt, not-le_of_lt}
use lib.Dec.{leb, ltb, eqb}
use borrow.Author.Tests.{leb-true, leb-false, eqb-true}
use Rattle.laws.specs.Sum.{sum_to, sum_where}
use Rattle.laws.proofs.Cases.{by-test, cond-false, and_left}
use Rattle.laws.proofs.Those.{sums-agree}
use Rattle.auction.specs.Offers.{Offers, supply, supply_below, level_sum}
use Rattle.auction.specs.Shares.{level_amount, spare_tenths}
use Rattle.auction.specs.Losers.{Row, row_of, rows_at_or_below}
use Rattle.auction.proofs.ByRow.{row_down, row_left, row_ahead, rank_part, row_rank, down_part, row_clears, spares-by-row}

-- a test that lets no price over q pass gives nothing to a row over p, where q is no more than p
left_out : (t : Bool) (v : ℕ) → (t ≡ true → ⊥) → cond t v 0 ≡ 0
left_out t v refuted = by-test t (λ e. absurd (refuted e)) (cond-false t v 0)

module _ (p : ℕ) (o o' : Offers) (same : rows_at_or_below p o ≡ rows_at_or_below p o') where
  -- summands that count only at p or below, and agree there, come to the same in both
  both_sums : (value other : Row → ℕ) → ((r : Row) → p < r.price → value r ≡ 0) → ((r : Row) → p < r.price → other r ≡ 0)
      → ((r : Row) → r.price ≤ p → value r ≡ other r)
      → sum_to (λ i. value (row_of o i)) o.count ≡ sum_to (λ i. other (row_of o' i)) o'.count
  unfolding rows_at_or_below
  both_sums value other none none' agree =
      sums-agree (λ (r : Row). leb r.price p) value other
      (λ r e. none r (leb-false _ _ e)) (λ r e. none' r (leb-false _ _ e)) (λ r e. agree r (leb-true _ _ e))
      (row_of o) (row_of o') o.count o'.count same

  -- what counts by a test of the price that no price over p passes
  both-where : (test : ℕ → Bool) → ((q : ℕ) → test q ≡ true → q ≤ p)
      → sum_where (λ i. test (o.price i)) o.quantity o.count ≡ sum_where (λ i. test (o'.price i)) o'.quantity o'.count
  unfolding sum_where
  both-where test low =
      let value : Row → ℕ = λ r. cond (test r.price) r.quantity 0 in
      let none : (r : Row) → p < r.price → value r ≡ 0 = λ r l. left_out (test r.price) r.quantity (λ e. not-le_of_lt l (low _ e)) in
      both_sums value value none none (λ r l. refl)

  module _ (q : ℕ) (l : q ≤ p) where
    -- at p or below both offer the same, up to a price, below it and at it
    pub supply-shared : supply o q ≡ supply o' q
    unfolding supply
    supply-shared = both-where (λ (r : ℕ). leb r q) (λ r e. le_trans (leb-true _ _ e) l)

    pub below-shared : supply_below o q ≡ supply_below o' q
    unfolding supply_below
    below-shared = both-where (λ (r : ℕ). ltb r q) (λ r e. le_trans (le_of_lt (leb-true _ _ e)) l)

    pub level-shared : level_sum o q ≡ level_sum o' q
    unfolding level_sum
    level-shared = both-where (λ (r : ℕ). eqb r q) (λ r e. le_trans (le_of_eq (eqb-true _ _ e)) l)

    amount-shared : (x : ℕ) → level_amount o x q ≡ level_amount o' x q
    unfolding level_amount
    amount-shared x = rw (below-shared, level-shared)

  module _ (x : ℕ) where
    down-shared : (r : Row) → r.price ≤ p → row_down o x r ≡ row_down o' x r
    unfolding row_down
    down-shared r l = rw (amount-shared r.price l x, level-shared r.price l)

    left-shared : (r : Row) → r.price ≤ p → row_left o x r ≡ row_left o' x r
    unfolding row_left
    left-shared r l = rw (amount-shared r.price l x, level-shared r.price l)

    ahead-shared : (r s : Row) → r.price ≤ p → s.price ≤ p → row_ahead o x r s ≡ row_ahead o' x r s
    unfolding row_ahead
    ahead-shared r s l m = rw (left-shared r l, left-shared s m)

    -- a row over p is in no level at p or below
    level-none : (r : Row) (q v : ℕ) → q ≤ p → p < r.price → cond (eqb r.price q) v 0 ≡ 0
    level-none r q v l m = left_out _ v (λ e. not-le_of_lt m (le_trans (le_of_eq (eqb-true _ _ e)) l))

    spares-shared : (q : ℕ) → q ≤ p → spare_tenths o x q ≡ spare_tenths o' x q
    unfolding down_part
    spares-shared q l =
        spares-by-row o x q
        ∙ ap₂ ◌-◌ (amount-shared q l x)
        (both_sums (down_part o x q) (down_part o' x q) (λ r m. level-none r q _ l m) (λ r m. level-none r q _ l m)
        (λ r m. ap (λ (v : ℕ). cond (eqb r.price q) v 0) (down-shared r m)))
        ∙ sym (spares-by-row o' x q)

    rank-none : (e : Offers) (s r : Row) → s.price ≤ p → p < r.price → rank_part e x s r ≡ 0
    unfolding rank_part
    rank-none e s r l m =
        left_out (eqb r.price s.price && row_ahead e x r s) 1
        (λ t. not-le_of_lt m (le_trans (le_of_eq (eqb-true _ _ (and_left (eqb r.price s.price) (row_ahead e x r s) t))) l))

    rank-shared : (s : Row) → s.price ≤ p → row_rank o x s ≡ row_rank o' x s
    unfolding row_rank rank_part
    rank-shared s l =
        both_sums (rank_part o x s) (rank_part o' x s) (λ r m. rank-none o s r l m) (λ r m. rank-none o' s r l m)
        (λ r m. ap (λ (t : Bool). cond {A = ℕ} (eqb r.price s.price && t) 1 0) (ahead-shared r s m l))

    -- of one total an offer at p or below clears the same in both
    pub clears-shared : (r : Row) → r.price ≤ p → row_clears o x r ≡ row_clears o' x r
    unfolding row_clears
    clears-shared r l = rw (down-shared r l, rank-shared r l, spares-shared r.price l)
