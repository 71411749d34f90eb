-- Two numbers that close in on the limit of a key.
--
-- In order: two numbers by what contends under each, and where a search begins; a look at a number between the two; the first
-- moved up to the next key, and the second down to the last; where a search ends.
-- Assumes nothing.
use mathlib.Core.Path.{◌≡◌, sym, ◌∙◌}
use mathlib.Core.Bool.{Bool}
use Prim.Native.Nat.{ℕ, suc, ◌+◌, ◌-◌, ◌≤◌, ◌<◌}
use native.Mathlib.Omega.{arith}
use Rattle.laws.proofs.Compare.{le-unless}
use Rattle.contest.specs.inner.Sieve.{Parts, count_under}
use Rattle.contest.specs.inner.Nearest.{HighestTo, LowestFrom}
use Rattle.contest.specs.inner.Search.{Between, Closer, Looked}
use Rattle.contest.specs.declared.limit.KeyBracket.{KeyBracket}
use Rattle.contest.proofs.Parting.{under-lowest, under-mono, under_same, parts-exact, parts_next}

module _ (contends : ℕ → Bool) (key : ℕ → ℕ) (n spare : ℕ) where
  -- how many of the n rows contend under a number
  abbrev under : ℕ → ℕ
  under limit = count_under contends key limit n

  -- a number under which fewer contend is lower, so the two are in order
  bracketed : (low few high many : ℕ) → few ≡ under low → few ≤ spare → many ≡ under high → spare < many → many ≤ 600
      → Between contends key n spare (record { low = low; few = few; high = high; many = many })
  bracketed low few high many e enough f short book =
      record {
        ordered = le-unless (suc low) high (λ l. omega (arith, under-mono contends key n high low (omega arith)));
        few = e;
        enough = enough;
        many = f;
        short = short;
        book = book;
      }

  -- numbers that are closer after a look, and then closer still
  pub looked-then : (b a r : KeyBracket) (mid : ℕ) → Looked contends key n spare b mid a → Closer contends key n spare a r
      → Looked contends key n spare b mid r
  looked-then b a r mid looked closer =
      record {
        closer = record { between = closer.between; apart = omega (arith, looked.closer.apart, closer.apart) };
        nearer = λ l m. omega (arith, looked.nearer l m, closer.apart);
      }

  -- from the lowest key to a number under which too many contend
  pub begun : (low high many : ℕ) → ((i : ℕ) → i < n → low ≤ key i) → many ≡ under high → spare < many → many ≤ 600
      → Between contends key n spare (record { low = low; few = 0; high = high; many = many })
  begun low high many lowest = bracketed low 0 high many (sym (under-lowest contends key n low lowest)) (omega arith)

  module _ (b : KeyBracket) (between : Between contends key n spare b) where
    -- a number under which few enough contend takes the place of the first
    pub looked-low : (mid count : ℕ) → b.low ≤ mid → count ≡ under mid → count ≤ spare
        → Looked contends key n spare b mid (record { low = mid; few = count; high = b.high; many = b.many })
    looked-low mid count h e enough =
        record {
          closer = record {
            between = bracketed mid count b.high b.many e enough between.many between.short between.book;
            apart = omega arith;
          };
          nearer = λ l m. omega arith;
        }

    -- one under which too many contend takes the place of the second
    pub looked-high : (mid count : ℕ) → mid ≤ b.high → count ≡ under mid → spare < count → count ≤ 600
        → Looked contends key n spare b mid (record { low = b.low; few = b.few; high = mid; many = count })
    looked-high mid count h e short book =
        record {
          closer = record {
            between = bracketed b.low b.few mid count between.few between.enough e short book;
            apart = omega arith;
          };
          nearer = λ l m. omega arith;
        }

    -- the first moved up to the next key
    pub moved_up : (next : ℕ) → LowestFrom key n b.low b.high next
        → Between contends key n spare (record { low = next; few = b.few; high = b.high; many = b.many })
    moved_up next l =
        bracketed next b.few b.high b.many
        (between.few ∙ under_same contends key n b.low next l.least l.none)
        between.enough
        between.many
        between.short
        between.book

    -- no key lies from the number after the last key to the second
    none_after : (last : ℕ) → HighestTo key n b.low (b.high - 1) last → (i : ℕ) → i < n → last + 1 ≤ key i → b.high ≤ key i
    none_after last h i l k = le-unless b.high (key i) (λ m. omega (arith, h.none i l (omega arith)))

    -- the second moved down to that number
    pub moved_down : (last : ℕ) → HighestTo key n b.low (b.high - 1) last
        → Between contends key n spare (record { low = b.low; few = b.few; high = last + 1; many = b.many })
    moved_down last h =
        let within : last + 1 ≤ b.high = omega (arith, h.most, between.ordered) in
        bracketed b.low b.few (last + 1) b.many
        between.few
        between.enough
        (between.many ∙ sym (under_same contends key n (last + 1) b.high within (none_after last h)))
        between.short
        between.book

    -- fewer contend under the first
    pub few-many : b.few ≤ b.many
    few-many = omega (arith, between.enough, between.short)

    -- where `spare` contend under the first, or no number lies between the two, the first parts the contenders
    pub found-exact : spare ≤ b.few → Parts contends key n spare b.low
    found-exact h = parts-exact contends key n spare b.low (omega (arith, between.few, between.enough))

    pub found-next : b.high - b.low ≤ 1 → Parts contends key n spare b.low
    found-next h =
        parts_next contends key n spare b.low b.high
        (omega arith)
        (omega (arith, between.few, between.enough))
        (omega (arith, between.many, between.short))
