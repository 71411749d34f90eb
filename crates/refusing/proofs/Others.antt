-- What is shown of the refusals that an arm names together: 1 to 5, and those that no arm before names.
-- Assumes nothing.
use mathlib.Core.Path.{◌≡◌, refl}
use mathlib.Core.Logic.{◌⊎◌, inl, inr}
use mathlib.Core.List.{List, [], ◌∷◌, ◌++◌}
use Prim.Native.Nat.{ℕ}
use Rattle.std.specs.Prelude.{Err}
use Rattle.values.specs.declared.place.Offer.{Offer}
use Rattle.values.specs.declared.refusal.Refusal.{Refusal}
use Rattle.values.specs.declared.refusal.Refusal.TheVariants.{WrongLength, WrongCheck, WrongLayout, MissingParameter, ParameterOutOfRange, OfferOutOfRange, RepeatedResource, BrokenSteps}
use Rattle.values.specs.Refusals.{number_of, place_of}
use Rattle.causes.specs.Cause.{cause_of}
use Rattle.readout.specs.declared.Head.{Head}
use Rattle.readout.specs.Facts.{row_in}
use Rattle.faultlines.specs.Refused.{parameter_numbers}
use Rattle.rowlines.specs.Rows.{offer_numbers}
use Rattle.refusing.specs.Refused.{layout_parts, unread_parts, against_parts, wrong_parts, refused_row, fault_parts}

module _ (b : List ℕ) where
  pub unread-other : (r : Refusal) → (r ≡ WrongLength → ⊥) → ((block : ℕ) → r ≡ WrongCheck block → ⊥)
      → unread_parts b (Err r) ≡ layout_parts (place_of r) (cause_of b)
  unread-other WrongLength h k = absurd (h refl)
  unread-other (WrongCheck block) h k = absurd (k block refl)
  unread-other r h k = refl

  module _ (edition row : ℕ) (o : Offer) (first : ℕ) where
    pub against-other : (r : Refusal) → ((x : ℕ) → r ≡ RepeatedResource x → ⊥) → ((x : ℕ) → r ≡ BrokenSteps x → ⊥)
        → against_parts b edition r row o first ≡ []
    against-other (RepeatedResource x) h k = absurd (h x refl)
    against-other (BrokenSteps x) h k = absurd (k x refl)
    against-other r h k = refl

    pub wrong-other : (r : Refusal) → ((x : ℕ) → r ≡ OfferOutOfRange x → ⊥)
        → wrong_parts b edition r row o first ≡ against_parts b edition r row o first ++ (offer_numbers edition row o ∷ [])
    wrong-other (OfferOutOfRange x) h = absurd (h x refl)
    wrong-other r h = refl

  module _ (h : Head) where
    pub fault-field : (r : Refusal)
        → (r ≡ WrongLength) ⊎ (((x : ℕ) × (r ≡ WrongCheck x)) ⊎ (((x : ℕ) × (r ≡ WrongLayout x))
        ⊎ (((x : ℕ) × (r ≡ MissingParameter x)) ⊎ ((x : ℕ) × (r ≡ ParameterOutOfRange x)))))
        → fault_parts b h r ≡ parameter_numbers (number_of r) (place_of r) h.parameters ∷ []
    fault-field r (inl e) = rw e
    fault-field r (inr (inl (x, e))) = rw e
    fault-field r (inr (inr (inl (x, e)))) = rw e
    fault-field r (inr (inr (inr (inl (x, e))))) = rw e
    fault-field r (inr (inr (inr (inr (x, e))))) = rw e

    pub fault-row : (r : Refusal) → (r ≡ WrongLength → ⊥) → ((x : ℕ) → r ≡ WrongCheck x → ⊥) → ((x : ℕ) → r ≡ WrongLayout x → ⊥)
        → ((x : ℕ) → r ≡ MissingParameter x → ⊥) → ((x : ℕ) → r ≡ ParameterOutOfRange x → ⊥)
        → fault_parts b h r ≡ refused_row b h.edition r (place_of r) (row_in b (place_of r))
    fault-row WrongLength l c y m o = absurd (l refl)
    fault-row (WrongCheck x) l c y m o = absurd (c x refl)
    fault-row (WrongLayout x) l c y m o = absurd (y x refl)
    fault-row (MissingParameter x) l c y m o = absurd (m x refl)
    fault-row (ParameterOutOfRange x) l c y m o = absurd (o x refl)
    fault-row r l c y m o = refl
