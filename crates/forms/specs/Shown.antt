-- What a page shows.
-- In order: numbers shown at a place of a room by some form, and parts of a page, one behind the other.
-- Assumes nothing.
use Rattle.std.specs.Prelude.{ℕ, ◌≡◌, List, [], ◌∷◌}
use Rattle.forms.specs.Put.{Put}
use Rattle.forms.specs.Form.{form_text}

-- some form shows the numbers: what stands between them is the form's
pub record Shown (room : List ℕ) (at : ℕ) (numbers after : List ℕ) (end : ℕ) : Type 0 where
  pub form : List ℕ
  pub put : Put room at (form_text form numbers) after end

-- parts of a page, each where the one before it ends
unfoldable pub Shows : List ℕ → ℕ → List (List ℕ) → List ℕ → ℕ → Type 0
Shows room at [] after end = (after ≡ room) × (end ≡ at)
Shows room at (numbers ∷ parts) after end =
    (mid : List ℕ) × (place : ℕ) × Shown room at numbers mid place × Shows mid place parts after end
