-- What is committed and what is paid. Mills are tenths of a cent: cents per MW-day times tenths of a megawatt.
-- Assumes nothing.
use Rattle.std.specs.Prelude.{ℕ, ◌-◌, ◌*◌, max, cond, eqb}
use Rattle.std.proofs.Math.Option.{Option, none, some}

-- the cleared quantity, or the minimum block if that is larger and the cleared quantity is not 0; no block: flexible
abbrev pub committed : Option ℕ → ℕ → ℕ
committed none c = c
committed (some block) c = cond (eqb c 0) 0 (max c block)

-- a price times tenths, in mills; with no price every amount of mills is 0
abbrev pub mills : Option ℕ → ℕ → ℕ
mills none tenths = 0
mills (some price) tenths = price * tenths

-- make-whole, mills per day: the price times what is committed past what cleared
abbrev pub make_whole : Option ℕ → Option ℕ → ℕ → ℕ
make_whole price block c = mills price (committed block c - c)
