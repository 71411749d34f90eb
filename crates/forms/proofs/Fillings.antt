-- A form filled byte by byte, and the next number of a list.
-- Assumes nothing.
use mathlib.Core.Path.{◌≡◌, refl, ◌∙◌}
use mathlib.Core.Bool.{cond}
use mathlib.Core.List.{List, [], ◌∷◌, ◌++◌}
use Prim.Native.Nat.{ℕ, ◌+◌, ◌≤◌, ◌<◌}
use native.Mathlib.Numerals.{add-one}
use native.Mathlib.Omega.{arith}
use lib.Dec.{eqb}
use lib.ListN.{length, drop, get_or, drop_of_length-le}
use lib.Seq.{drop-cons}
use Rattle.forms.specs.Put.{Put}
use Rattle.forms.specs.Mark.{mark_text, next_text, byte_text}
use Rattle.forms.specs.Form.{turn_after, width_after, taken, filling, form_text}
use Rattle.forms.proofs.Puts.{put-length}
use Rattle.forms.proofs.Left.{Left, left-all, left_less, left-none}

-- a byte more
filling-next : (turn width : ℕ) (numbers : List ℕ) (form : List ℕ) (i : ℕ) → i < length form
    → let mark : ℕ = get_or form i 0 in
    filling turn width numbers (drop i form)
    ≡ cond (eqb turn 0) (byte_text width mark numbers) []
    ++ filling (turn_after mark turn numbers) (width_after mark width) (drop (taken mark) numbers) (drop (i + 1) form)
unfolding filling
filling-next turn width numbers form i h = rw (add-one i, drop-cons form i 0 h)

-- a form that is put byte by byte: no more `_` are counted than bytes are passed
pub record Passing (room : List ℕ) (at : ℕ) (form numbers now : List ℕ) (place : ℕ) (rest : List ℕ) (width turn i : ℕ) : Type 0 where
  pub long : length now ≡ length room
  pub narrow : width ≤ i
  pub left : Left room at (form_text form numbers) now place (filling turn width rest (drop i form))

pub passing-none : (room : List ℕ) (at : ℕ) (form numbers : List ℕ) → at ≤ 18446744073709551615
    → Passing room at form numbers room at numbers 0 0 0
unfolding form_text
passing-none room at form numbers h =
    record { long = refl; narrow = omega arith; left = left-all room at (filling 0 0 numbers form) h }

-- a byte of a form is put, and what follows of it is known
pub passing-more : {room : List ℕ} {at : ℕ} {form numbers now : List ℕ} {place : ℕ} {rest : List ℕ} {width turn i : ℕ}
    {after : List ℕ} {next turn' width' : ℕ} {rest' : List ℕ} → i < length form → length now ≤ 18446744073709551615
    → Passing room at form numbers now place rest width turn i
    → Put now place (cond (eqb turn 0) (byte_text width (get_or form i 0) rest) []) after next
    → turn' ≡ turn_after (get_or form i 0) turn rest
    → (width' ≡ width_after (get_or form i 0) width) × (width' ≤ width + 1) → rest' ≡ drop (taken (get_or form i 0)) rest
    → Passing room at form numbers after next rest' width' turn' (i + 1)
passing-more {form} {rest} {width} {turn} {i} h small s p t w r =
    record {
      long = put-length p ∙ s.long;
      narrow = omega arith;
      left = rw (t, w.0, r) (left_less _ _ small (rw (filling-next turn width rest form i h) at s.left) p);
    }

-- all bytes are passed
pub passing-all : {room : List ℕ} {at : ℕ} {form numbers now : List ℕ} {place : ℕ} {rest : List ℕ} {width turn i : ℕ}
    → length form ≤ i → Passing room at form numbers now place rest width turn i → Put room at (form_text form numbers) now place
unfolding filling
passing-all {form} h s = left-none (rw (drop_of_length-le form h) at s.left)

-- the next number
pub next-some : (mark : ℕ) (numbers : List ℕ) → 1 ≤ length numbers → next_text mark numbers ≡ mark_text mark (get_or numbers 0 0)
unfolding next_text
next-some mark [] h = absurd (omega arith)
next-some mark (n ∷ numbers) h = refl

-- none is left
pub next-none : (mark : ℕ) (numbers : List ℕ) → length numbers < 1 → next_text mark numbers ≡ 63 ∷ []
unfolding next_text
next-none mark [] h = refl
next-none mark (n ∷ numbers) h = absurd (omega arith)
