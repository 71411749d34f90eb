-- Parts of a page: one form, no part, one part, parts behind others, the same parts by another name; and that a page touches nothing
-- but its own text.
-- Assumes nothing.
use mathlib.Core.Path.{◌≡◌, refl}
use mathlib.Core.List.{List, [], ◌∷◌, ◌++◌}
use Prim.Native.Nat.{ℕ, ◌≤◌}
use native.Mathlib.Omega.{arith}
use lib.ListN.{length}
use Rattle.forms.specs.Put.{Put}
use Rattle.forms.specs.Form.{form_text}
use Rattle.forms.specs.Shown.{Shown, Shows}
use Rattle.forms.proofs.Puts.{behind-most, put-none, put-put, put-length}

-- what a form puts shows its numbers
pub shown : {room : List ℕ} {at : ℕ} (numbers : List ℕ) {after : List ℕ} {end : ℕ} (form : List ℕ)
    → Put room at (form_text form numbers) after end → Shown room at numbers after end
shown numbers form p = record { form = form; put = p }

pub shows-none : (room : List ℕ) (at : ℕ) → Shows room at [] room at
unfolding Shows
shows-none room at = (refl, refl)

-- a part in front of others
pub shows_more : {room : List ℕ} {at : ℕ} {numbers mid : List ℕ} {place : ℕ} (parts : List (List ℕ)) (after : List ℕ) (end : ℕ)
    → Shown room at numbers mid place → Shows mid place parts after end → Shows room at (numbers ∷ parts) after end
unfolding Shows
shows_more parts after end s t = (_, _, s, t)

pub shows-one : {room : List ℕ} {at : ℕ} {numbers after : List ℕ} {end : ℕ} → Shown room at numbers after end
    → Shows room at (numbers ∷ []) after end
shows-one {after} {end} s = shows_more [] after end s (shows-none after end)

-- parts in front of others
pub shows_then : (room : List ℕ) (at : ℕ) (ps qs : List (List ℕ)) (mid : List ℕ) (place : ℕ) (after : List ℕ) (end : ℕ)
    → Shows room at ps mid place → Shows mid place qs after end → Shows room at (ps ++ qs) after end
unfolding Shows
shows_then room at [] qs mid place after end s t = rw (← s.0, ← s.1) t
shows_then room at (numbers ∷ ps) qs mid place after end s t =
    (s.0, s.1, s.2, shows_then s.0 s.1 ps qs mid place after end s.3 t)

-- the same parts by another name
pub shows-as : (room : List ℕ) (at : ℕ) {ps qs : List (List ℕ)} (after : List ℕ) (end : ℕ) → ps ≡ qs → Shows room at ps after end
    → Shows room at qs after end
shows-as room at after end e s = rw (← e) s

-- a page is one text, put where its first part begins
pub shows-put : (room : List ℕ) (at : ℕ) (parts : List (List ℕ)) (after : List ℕ) (end : ℕ) → length room ≤ 18446744073709551615
    → at ≤ 18446744073709551615 → Shows room at parts after end → (text : List ℕ) × Put room at text after end
unfolding Shows
shows-put room at [] after end small low s = ([], rw (s.0, s.1) (put-none room at low))
shows-put room at (numbers ∷ parts) after end small low s =
    let first = s.2.put in
    let rest = shows-put s.0 s.1 parts after end (omega (arith, put-length first)) (rw first.place (behind-most at _)) s.3 in
    (form_text s.2.form numbers ++ rest.0, put-put room at _ rest.0 small first rest.1)
