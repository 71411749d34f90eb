-- What a form puts into a room is one text, and the place behind it one place: any two outcomes that the contract allows coincide.
-- Assumes nothing.
use mathlib.Core.Path.{◌≡◌, sym, ◌∙◌}
use mathlib.Core.List.{List}
use Prim.Native.Nat.{ℕ}
use contract.Lifetimes.{Lfts}
use denote.Ref.{Bor, MutBor}
use Rattle.forms.proofs.form.put_form.Reads as put-form

-- one room after, and one place
pub put-form-decided : (κs : Lfts 3) (room after other : MutBor (List ℕ)) (at : ℕ) (form numbers : Bor (List ℕ)) (r s : ℕ)
    → put-form.Post κs (room, (at, (form, (numbers, tt)))) r (after, (at, (form, (numbers, tt))))
    → put-form.Post κs (room, (at, (form, (numbers, tt)))) s (other, (at, (form, (numbers, tt))))
    → (r ≡ s) × (after.now ≡ other.now)
put-form-decided κs room after other at form numbers r s e f = (e.place ∙ sym f.place, e.buffer ∙ sym f.buffer)
