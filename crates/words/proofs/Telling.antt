-- What is told of a text, by whether the room holds it.
--
-- In order: no bytes; room that is too small; a text that was put; the same text by another name; the words of a number, and
-- room for those of every number.
-- Assumes nothing.
use mathlib.Core.Path.{◌≡◌, refl, sym, ap, ◌∙◌}
use mathlib.Core.Bool.{Bool, true, false, cond}
use mathlib.Core.List.{List, [], ◌∷◌, ◌++◌}
use Prim.Native.Nat.{ℕ, ◌+◌, ◌≤◌, ◌<◌}
use Prim.Native.String.{String}
use native.Mathlib.Nat.{zero-add}
use native.Mathlib.Omega.{arith}
use lib.Dec.{eqb, leb}
use lib.ListN.{length, drop}
use lib.Seq.{paste, take-length}
use borrow.Author.Tests.{le-leb, lt-leb, leb-true, ne_eqb}
use Rattle.text.specs.Put.{Written}
use Rattle.text.proofs.Puts.{fits-buffer, fits-place}
use Rattle.words.specs.Words.{bytes_of, words_of}
use Rattle.words.specs.Texts.{text_given, text_refused, no_text, text_of, Told}
use Rattle.plain.specs.declared.structs.OzpText.{OzpText}

-- where there are no bytes there is no text, and the room is as it was
pub told_none : (text room : List ℕ) → length text ≡ 0 → Told text room no_text room
told_none [] room e =
    record { answered = rw (le-leb 0 (length room) (omega arith)); room-holds = rw (le-leb 0 (length room) (omega arith)) }
told_none (byte ∷ bytes) room e = absurd (omega arith)

-- a text that does not fit
pub told-short : (text room : List ℕ) → length room < length text → Told text room (text_refused 20 0) room
told-short text room l =
    record { answered = rw (lt-leb (length text) (length room) l); room-holds = rw (lt-leb (length text) (length room) l) }

-- a text that has bytes is given as many
pub given-some : (text : List ℕ) → (length text ≡ 0 → ⊥) → text_given (length text) ≡ text_of text
given-some [] any = absurd (any refl)
given-some (byte ∷ bytes) any = refl

-- a text at the front, and behind it what stood there
front : (text room : List ℕ) → paste room 0 text (length text) ≡ text ++ drop (length text) room
front text room = rw (take-length text, zero-add)

-- a text that was put
pub told-put : (text room : List ℕ) {room' : List ℕ} {end : ℕ} → (length text ≡ 0 → ⊥) → length text ≤ length room
    → Written room 0 text room' end → Told text room (text_given end) room'
told-put text room {room'} {end} any h w =
    let fits : 0 + length text ≤ length room = omega arith in
    let whole : end ≡ length text = omega (arith, fits-place room 0 text fits w) in
    record {
      answered = rw (le-leb (length text) (length room) h) (ap text_given whole ∙ given-some text any);
      room-holds = rw (le-leb (length text) (length room) h) (fits-buffer room 0 text fits w ∙ front text room);
    }

-- the same text by another name
pub told-as : {text other room : List ℕ} {r : OzpText} {room' : List ℕ} → text ≡ other → Told text room r room' → Told other room r room'
told-as e t = rw (← e) t

-- the words of a number that the code knows
pub words-known : {number k : ℕ} → number ≡ k → bytes_of (words_of k) ≡ bytes_of (words_of number)
words-known e = ap (λ n. bytes_of (words_of n)) (sym e)

-- a number past 11 that no refusal has
pub words-none : (n : ℕ) → 11 < n → (n ≡ 19 → ⊥) → (n ≡ 20 → ⊥) → bytes_of (words_of n) ≡ []
unfolding words_of bytes_of
words-none n past rows room =
    let other : (k : ℕ) → k ≤ 11 → eqb n k ≡ false = λ k l. ne_eqb n k (λ e. omega arith) in
    rw (
      other 1 (omega arith),
      other 2 (omega arith),
      other 3 (omega arith),
      other 4 (omega arith),
      other 5 (omega arith),
      other 6 (omega arith),
      other 7 (omega arith),
      other 8 (omega arith),
      other 9 (omega arith),
      other 10 (omega arith),
      other 11 (omega arith),
      ne_eqb n 19 rows,
      ne_eqb n 20 room,
    )

-- ---- room for every refusal's words

-- a text that 256 bytes hold
abbrev Short : String → Type 0
Short s = leb (length (bytes_of s)) 256 ≡ true

either-short : (t : Bool) (s u : String) → Short s → Short u → Short (cond t s u)
either-short true s u a b = a
either-short false s u a b = b

all_short : (n : ℕ) → Short (words_of n)
unfolding words_of bytes_of
all_short n =
    either-short (eqb n 1) _ _ refl
    (either-short (eqb n 2) _ _ refl
    (either-short (eqb n 3) _ _ refl
    (either-short (eqb n 4) _ _ refl
    (either-short (eqb n 5) _ _ refl
    (either-short (eqb n 6) _ _ refl
    (either-short (eqb n 7) _ _ refl
    (either-short (eqb n 8) _ _ refl
    (either-short (eqb n 9) _ _ refl
    (either-short (eqb n 10) _ _ refl
    (either-short (eqb n 11) _ _ refl
    (either-short (eqb n 19) _ _ refl
    (either-short (eqb n 20) _ _ refl refl))))))))))))

-- Room of 256 bytes holds the words of every number.
pub words-fit : (n : ℕ) → length (bytes_of (words_of n)) ≤ 256
words-fit n = leb-true _ 256 (all_short n)
