-- Ranks: how many of some places stand before a place, in a strict order in which no two of them stand level.
--
-- In order: what a rank is; who stands before another has the lower rank; what one place more does to the ranks; and the
-- theorem that exactly m places have a rank under m.
-- Assumes nothing.
use mathlib.Core.Path.{◌≡◌, sym, ap, ◌∙◌}
use mathlib.Core.Bool.{Bool, true, false, ◌&&◌}
use Prim.Native.Nat.{ℕ, zero, suc, ◌-◌, ◌≤◌, ◌<◌}
use native.Mathlib.Omega.{arith}
use lib.Dec.{ltb}
use borrow.Author.Tests.{lt-ltb, le-ltb}
use Rattle.laws.specs.Sum.{count_where}
use Rattle.laws.proofs.Cases.{by_order, by-test, and-true, and_left, and_right}
use Rattle.laws.proofs.Counts.{count_where-zero, count_where-more, count_where-kept, count_where-within}
use Rattle.laws.proofs.Counts.{count_where-mono, count_where-less}
use Rattle.laws.proofs.Orders.{StrictOrder, Tied}

-- how many of the first n places, among those within, stand before i
abbrev pub rank_among : (ℕ → Bool) → (ℕ → ℕ → Bool) → ℕ → ℕ → ℕ
rank_among within before n i = count_where (λ j. within j && before j i) n

-- how many of the first n places, among those within, have a rank under m
abbrev pub ranked_under : (ℕ → Bool) → (ℕ → ℕ → Bool) → ℕ → ℕ → ℕ
ranked_under within before n m = count_where (λ i. within i && ltb (rank_among within before n i) m) n

-- of the first n places, no two within stand level
abbrev pub NoTies : (ℕ → Bool) → (ℕ → ℕ → Bool) → ℕ → Type 0
NoTies within before n =
    (i j : ℕ) → i < n → j < n → within i ≡ true → within j ≡ true → Tied before i j → i ≡ j

-- two tests of an order agree where each order implies the other
ltb-agree : (a b c d : ℕ) → (a < b → c < d) → (c < d → a < b) → ltb a b ≡ ltb c d
ltb-agree a b c d f g =
    by_order b a
    (λ l. le-ltb a b l ∙ sym (le-ltb c d (by_order d c (λ m. m) (λ m. omega (arith, g m)))))
    (λ l. lt-ltb a b l ∙ sym (lt-ltb c d (f l)))

module _ (within : ℕ → Bool) (before : ℕ → ℕ → Bool) (order : StrictOrder before) where
  abbrev rank : ℕ → ℕ → ℕ
  rank = rank_among within before

  abbrev under : ℕ → ℕ → ℕ
  under = ranked_under within before

  rank_most : (n i : ℕ) → rank n i ≤ count_where within n
  rank_most n i = count_where-mono _ _ n (λ j l t. and_left (within j) (before j i) t)

  later : (i k j : ℕ) → before i k ≡ true → within j && before j i ≡ true → within j && before j k ≡ true
  later i k j b t =
      let w = and_left (within j) (before j i) t in
      let a = and_right (within j) (before j i) t in
      and-true (within j) (before j k) w (order.transitive j i k a b)

  rank_mono : (n i k : ℕ) → before i k ≡ true → rank n i ≤ rank n k
  rank_mono n i k b = count_where-mono _ _ n (λ j l t. later i k j b t)

  -- who is within and stands before another has the lower rank
  pub rank_less : (n i k : ℕ) → i < n → within i ≡ true → before i k ≡ true → rank n i < rank n k
  rank_less n i k l w b =
      let counts = and-true (within i) (before i k) w b in
      count_where-less _ _ n i (λ j m t. later i k j b t) l (rw (w, order.irreflexive i)) counts

  -- one place more, n: i's rank stays, or grows by one where n is within and stands before i
  rank-kept : (n i : ℕ) → within n && before n i ≡ false → rank (suc n) i ≡ rank n i
  rank-kept n i e = count_where-kept (λ j. within j && before j i) n e

  rank-moved : (n i : ℕ) → within n && before n i ≡ true → rank (suc n) i ≡ suc (rank n i)
  rank-moved n i e = count_where-more (λ j. within j && before j i) n e

  rank-own : (n : ℕ) → within n ≡ true → rank (suc n) n ≡ rank n n
  rank-own n w = rank-kept n n (rw (w, order.irreflexive n))

  -- those whose rank with n is under m are those whose rank without it was under k
  abbrev Agree : ℕ → ℕ → ℕ → Type 0
  Agree n m k = (i : ℕ) → i < n → within i ≡ true → ltb (rank (suc n) i) m ≡ ltb (rank n i) k

  agree-outside : (n m : ℕ) → within n ≡ false → Agree n m m
  agree-outside n m w i l v = ap (λ (r : ℕ). ltb r m) (rank-kept n i (rw w))

  -- n's own rank is m or more: who moves was not under m
  agree_after : (n m : ℕ) → within n ≡ true → m ≤ rank n n → Agree n m m
  agree_after n m w h i l v =
      by-test (before n i)
      (λ b.
      let moved = rank-moved n i (rw (w, b)) in
      let behind = rank_mono n n i b in
      ltb-agree (rank (suc n) i) m (rank n i) m (λ a. omega arith) (λ a. omega arith))
      (λ b. ap (λ (r : ℕ). ltb r m) (rank-kept n i (rw (w, b))))

  untied : (n i : ℕ) → NoTies within before (suc n)
      → within n ≡ true → i < n → within i ≡ true → before n i ≡ false → before i n ≡ true
  untied n i free w l v b =
      by-test (before i n)
      (λ c. c)
      (λ c. let same = free n i (omega arith) (omega arith) w v (b, c) in absurd (omega arith))

  -- n's own rank is k or less: who does not move was under k
  agree-among : (n m k : ℕ) → NoTies within before (suc n) → within n ≡ true → rank n n ≤ k → m ≡ suc k → Agree n m k
  agree-among n m k free w h e i l v =
      by-test (before n i)
      (λ b.
      let moved = rank-moved n i (rw (w, b)) in
      ltb-agree (rank (suc n) i) m (rank n i) k (λ a. omega arith) (λ a. omega arith))
      (λ b.
      let kept = rank-kept n i (rw (w, b)) in
      let ahead = rank_less n i n l v (untied n i free w l v b) in
      ltb-agree (rank (suc n) i) m (rank n i) k (λ a. omega arith) (λ a. omega arith))

  under-kept : (n m k : ℕ) → Agree n m k → within n && ltb (rank (suc n) n) m ≡ false → under (suc n) m ≡ under n k
  under-kept n m k agree e = count_where-kept _ n e ∙ count_where-within within _ _ n agree

  under_more : (n m k : ℕ) → Agree n m k → within n && ltb (rank (suc n) n) m ≡ true → under (suc n) m ≡ suc (under n k)
  under_more n m k agree e = count_where-more _ n e ∙ ap suc (count_where-within within _ _ n agree)

  -- the theorem of n places, from which that of n + 1 follows by where n stands
  abbrev Fills : ℕ → Type 0
  Fills n = (k : ℕ) → k ≤ count_where within n → under n k ≡ k

  fill-outside : (n m : ℕ) → Fills n → within n ≡ false → m ≤ count_where within (suc n) → under (suc n) m ≡ m
  fill-outside n m fill w h =
      under-kept n m m (agree-outside n m w) (rw w) ∙ fill m (omega (arith, count_where-kept within n w))

  fill-after : (n m : ℕ) → Fills n → within n ≡ true → m ≤ rank n n → under (suc n) m ≡ m
  fill-after n m fill w l =
      let last = le-ltb (rank (suc n) n) m (omega (arith, rank-own n w)) in
      under-kept n m m (agree_after n m w l) (rw (w, last)) ∙ fill m (omega (arith, rank_most n n))

  fill-among : (n m : ℕ) → Fills n → NoTies within before (suc n)
      → within n ≡ true → rank n n < m → m ≤ count_where within (suc n) → under (suc n) m ≡ m
  fill-among n m fill free w l h =
      let k : ℕ = m - 1 in
      let first = lt-ltb (rank (suc n) n) m (omega (arith, rank-own n w)) in
      under_more n m k (agree-among n m k free w (omega arith) (omega arith)) (rw (w, first))
      ∙ omega (arith, fill k (omega (arith, count_where-more within n w)))

  -- exactly m of the places within have a rank under m
  pub ranks-fill : (n m : ℕ) → NoTies within before n → m ≤ count_where within n → under n m ≡ m
  ranks-fill zero m free h = omega (arith, count_where-zero within, count_where-zero (λ i. within i && ltb (rank 0 i) m))
  ranks-fill (suc n) m free h =
      let fill : Fills n = λ k l. ranks-fill n k (λ i j p q. free i j (omega arith) (omega arith)) l in
      by-test (within n)
      (λ w. by_order m (rank n n) (λ l. fill-after n m fill w l) (λ l. fill-among n m fill free w l h))
      (λ w. fill-outside n m fill w h)
