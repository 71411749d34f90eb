-- A block in columns, by which the code takes its running sums: bytes 28 to 507 are thirty rows of sixteen columns, and before
-- each column's rows stands one of bytes 12 to 27.
-- Assumes nothing.
use Rattle.std.specs.Prelude.{ℕ, ◌+◌, ◌*◌, ◌%◌, List}
use Rattle.block.specs.Bytes.{byte}
use Rattle.block.specs.Running.{running_sum, running_total}

-- the byte of a column at a row
abbrev pub in_column : List ℕ → ℕ → ℕ → ℕ
in_column s column row = byte s (row * 16 + column + 28)

-- a column's running sum after its first row, and the byte before that, modulo 65,536
abbrev pub column_sum : List ℕ → ℕ → ℕ
column_sum s column = (running_sum (in_column s column) 30 30 + byte s (column + 12)) % 65536

-- a column's total after its first row
abbrev pub column_total : List ℕ → ℕ → ℕ
column_total s column = running_total (in_column s column) 30 30
