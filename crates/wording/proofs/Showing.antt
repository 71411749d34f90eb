-- A form that was put shows its numbers.
-- Assumes nothing.
use mathlib.Core.Path.{◌≡◌}
use mathlib.Core.List.{List}
use Prim.Native.Nat.{ℕ}
use Rattle.forms.specs.Put.{Put}
use Rattle.forms.specs.Form.{form_text}
use Rattle.forms.specs.Shown.{Shown}

-- numbers that are those asked for
pub showing : {room numbers after : List ℕ} {at end : ℕ} (form told : List ℕ)
    → Put room at (form_text form told) after end → told ≡ numbers → Shown room at numbers after end
showing form told put same = record { form = form; put = rw same at put }
