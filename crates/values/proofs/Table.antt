-- The table of refusals leaves no two alike: a number and a place tell the refusal, and so what a test answered.
-- Assumes nothing.
use mathlib.Core.Path.{◌≡◌, refl, sym, ap, ap₂, ◌∙◌}
use mathlib.Core.Bool.{cond}
use Prim.Native.Nat.{ℕ}
use lib.Dec.{eqb}
use Rattle.std.specs.Prelude.{Err, Ok}
use Rattle.values.specs.Refusals.{number_of, place_of, Verdict, RefusedBy}
use Rattle.values.specs.declared.refusal.Refusal.{Refusal}
use Rattle.values.specs.declared.refusal.Refusal.TheVariants.{WrongLength, WrongCheck, WrongLayout, MissingParameter, ParameterOutOfRange, NoPrice, OfferOutOfRange, RepeatedResource, ShortBuffer, BrokenSteps, SeveralSteps, TooManyRows, ShortRoom}

-- the refusal of a number, at a place
at : ℕ → ℕ → Refusal
at number place =
    cond (eqb number 1) WrongLength
    (cond (eqb number 2) (WrongCheck place)
    (cond (eqb number 3) (WrongLayout place)
    (cond (eqb number 4) (MissingParameter place)
    (cond (eqb number 5) (ParameterOutOfRange place)
    (cond (eqb number 6) (NoPrice place)
    (cond (eqb number 7) (OfferOutOfRange place)
    (cond (eqb number 8) (RepeatedResource place)
    (cond (eqb number 9) (ShortBuffer place)
    (cond (eqb number 10) (BrokenSteps place)
    (cond (eqb number 11) (SeveralSteps place)
    (cond (eqb number 19) TooManyRows ShortRoom)))))))))))

told-at : (r : Refusal) → r ≡ at (number_of r) (place_of r)
unfolding at
told-at WrongLength = refl
told-at (WrongCheck block) = refl
told-at (WrongLayout block) = refl
told-at (MissingParameter field) = refl
told-at (ParameterOutOfRange field) = refl
told-at (NoPrice row) = refl
told-at (OfferOutOfRange row) = refl
told-at (RepeatedResource row) = refl
told-at (ShortBuffer buffer) = refl
told-at (BrokenSteps row) = refl
told-at (SeveralSteps row) = refl
told-at TooManyRows = refl
told-at ShortRoom = refl

-- Refusals of one number and one place are the same refusal.
pub refusal-told : (r s : Refusal) → number_of r ≡ number_of s → place_of r ≡ place_of s → r ≡ s
refusal-told r s e f = told-at r ∙ ap₂ at e f ∙ sym (told-at s)

-- A test that refuses by a refusal's number at its place answers that refusal.
pub refused-told : (v : Verdict) (refusal : Refusal) → RefusedBy v (number_of refusal) (place_of refusal) → v ≡ Err refusal
refused-told (Ok u) refusal by = absurd by
refused-told (Err other) refusal by = ap Err (refusal-told other refusal by.0 by.1)
