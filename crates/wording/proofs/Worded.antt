-- What a contract that shows numbers decides: all but the words. Two outcomes by one form coincide.
-- Assumes nothing.
use mathlib.Core.Path.{◌≡◌, sym, ap, ◌∙◌}
use mathlib.Core.List.{List}
use Prim.Native.Nat.{ℕ}
use Rattle.forms.specs.Put.{over, behind}
use Rattle.forms.specs.Form.{form_text}
use Rattle.forms.specs.Shown.{Shown}

pub one_form : {room : List ℕ} {at : ℕ} {numbers after other : List ℕ} {r s : ℕ}
    → (e : Shown room at numbers after r) (f : Shown room at numbers other s) → e.form ≡ f.form → (r ≡ s) × (after ≡ other)
one_form {room} {at} {numbers} e f same = (
  e.put.place ∙ ap (λ (form : List ℕ). behind at (form_text form numbers)) same ∙ sym f.put.place,
  e.put.buffer ∙ ap (λ (form : List ℕ). over room at (form_text form numbers)) same ∙ sym f.put.buffer,
)
