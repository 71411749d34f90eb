-- Letters put one at a time, with the thousands of the first of them separated.
-- Assumes nothing.
use mathlib.Core.Path.{◌≡◌, refl, ap}
use mathlib.Core.List.{List, [], ◌∷◌, ◌++◌, append_assoc}
use Prim.Native.Nat.{ℕ, suc, ◌+◌, ◌-◌, ◌<◌}
use native.Mathlib.Numerals.{add-one}
use native.Mathlib.Omega.{arith}
use lib.ListN.{length, drop, get_or}
use lib.Seq.{drop-cons}
use Rattle.forms.specs.Number.{comma, grouped}
use Rattle.forms.specs.inner.Plain.{separated}

-- one letter more
pub separated-next : (letters : List ℕ) (whole i : ℕ) → i < length letters
    → separated whole (drop i letters)
    ≡ (get_or letters i 0 ∷ comma (whole - 1)) ++ separated (whole - 1) (drop (i + 1) letters)
unfolding separated
separated-next letters whole i h = rw (add-one i, drop-cons letters i 0 h)

pub separated-none : (whole : ℕ) → separated whole [] ≡ []
unfolding separated
separated-none whole = refl

-- letters of which none is separated
pub separated-plain : (letters : List ℕ) → separated 0 letters ≡ letters
unfolding separated comma
separated-plain [] = refl
separated-plain (letter ∷ rest) = ap (λ (r : List ℕ). letter ∷ r) (separated-plain rest)

-- digits are separated, and what follows them stands as it is
pub separated-whole : (digits rest : List ℕ) → separated (length digits) (digits ++ rest) ≡ grouped digits ++ rest
unfolding separated grouped
separated-whole [] rest = separated-plain rest
separated-whole (digit ∷ digits) rest =
    let less : suc (length digits) - 1 ≡ length digits = omega arith in
    rw (less, separated-whole digits rest, append_assoc (comma (length digits)) (grouped digits) rest)
