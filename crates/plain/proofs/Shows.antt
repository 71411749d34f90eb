-- What each way through the reading of a value shows, by the value's kind.
-- Assumes nothing.
use Prim.Native.Nat.{ℕ}
use mathlib.Core.Path.{◌≡◌, refl}
use mathlib.Core.Bool.{Bool, true, false, cond}
use lib.Dec.{eqb}
use borrow.Author.Tests.{ne_eqb}
use Rattle.values.specs.declared.Value.TheVariants.{Given, Missing}
use Rattle.plain.specs.Structs.{no_value}
use Rattle.plain.specs.Given.{value_in}
use Rattle.plain.specs.declared.structs.OzpValue.{OzpValue}

-- a value given, by a number that is chosen
given-cond : (b : Bool) (x y : ℕ) → Given (cond b x y) ≡ cond b (Given x) (Given y)
given-cond true x y = refl
given-cond false x y = refl

module _ (v : OzpValue) where
  -- given, missing, and of neither kind
  pub value-given : v.kind ≡ 1 → Given v.number ≡ value_in v
  unfolding value_in
  value-given e = rw e refl

  pub value-missing : v.kind ≡ 4 → Missing ≡ value_in v
  unfolding value_in
  value-missing e = rw e refl

  pub value-neither : (v.kind ≡ 1 → ⊥) → (v.kind ≡ 4 → ⊥) → Given no_value ≡ value_in v
  unfolding value_in
  value-neither n m = rw (ne_eqb v.kind 1 n, ne_eqb v.kind 4 m) refl

  -- not missing, with the number that is chosen
  pub value-chosen : (v.kind ≡ 4 → ⊥) → Given (cond (eqb v.kind 1) v.number no_value) ≡ value_in v
  unfolding value_in
  value-chosen n = rw (ne_eqb v.kind 4 n) (given-cond (eqb v.kind 1) v.number no_value)
