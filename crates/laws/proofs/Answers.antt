-- Two answers that an equation with a definition allows.
-- Assumes nothing.
use mathlib.Core.Path.{◌≡◌, sym, ap, ◌∙◌}

-- answers that are each what is defined of its own argument coincide where the arguments do
pub same_answer : {A X : Type 0} (defined : A → X) {p q : A} {r s : X} → p ≡ q → r ≡ defined p → s ≡ defined q → r ≡ s
same_answer defined same e f = e ∙ ap defined same ∙ sym f
