-- Parts of a page, in order: each is the list of the numbers that a few lines show.
-- Assumes nothing.
use Rattle.std.specs.Prelude.{ℕ, zero, suc, List, [], ◌++◌}

-- the parts of 0, of 1, up to n − 1
unfoldable pub parts_of : (ℕ → List (List ℕ)) → ℕ → List (List ℕ)
parts_of parts zero = []
parts_of parts (suc n) = parts_of parts n ++ parts n
