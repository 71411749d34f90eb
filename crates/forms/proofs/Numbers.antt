-- Numbers as a mark shows them: how long a text can be, and the text made of the plain one.
-- Assumes nothing.
use mathlib.Core.Path.{◌≡◌, sym, ap, ◌∙◌}
use mathlib.Core.Bool.{Bool, true, false, cond, ◌&&◌}
use mathlib.Core.List.{List, [], ◌∷◌, ◌++◌, append-nil}
use Prim.Native.Nat.{ℕ, zero, suc, ◌+◌, ◌*◌, ◌/◌, ◌%◌, ◌^◌, ◌≤◌, ◌<◌}
use native.Mathlib.Nat.{div-le_self}
use native.Mathlib.Omega.{arith}
use lib.Dec.{eqb, ltb}
use lib.ListN.{length, take, length-append}
use borrow.Author.Tests.{ne_eqb}
use Rattle.laws.proofs.Cases.{by-equality}
use Rattle.text.specs.Number.{number_text}
use Rattle.text.specs.inner.Number.{decimal_text}
use Rattle.text.specs.Put.{Written}
use Rattle.text.proofs.Puts.{fits-place, written-taken}
use Rattle.text.proofs.Numbers.{length-number, length_rest}
use Rattle.forms.specs.Put.{Put}
use Rattle.forms.specs.Number.{comma, grouped, pointed, grouped_text}
use Rattle.forms.specs.Mark.{places, mark_text}
use Rattle.forms.specs.inner.Plain.{plain_text, wholes, separated}
use Rattle.forms.proofs.Puts.{put-length, put-end, put_front}
use Rattle.forms.proofs.Separated.{separated-plain, separated-whole}

length-either : (most : ℕ) (t : Bool) (a b : List ℕ) → length a ≤ most → length b ≤ most → length (cond t a b) ≤ most
length-either most true a b h k = h
length-either most false a b h k = k

length-comma : (left : ℕ) → length (comma left) ≤ 1
unfolding comma
length-comma left = length-either 1 (ltb 0 left && eqb (left % 3) 0) (44 ∷ []) [] (omega arith) (omega arith)

-- a comma for each digit at most
length-grouped : (digits : List ℕ) → length (grouped digits) ≤ 2 * length digits
unfolding grouped
length-grouped [] = omega arith
length-grouped (digit ∷ rest) =
    omega (arith, length-append (comma (length rest)) (grouped rest), length-comma (length rest), length-grouped rest)

length-pointed : (p n : ℕ) → length (pointed p n) ≤ suc p
unfolding pointed
length-pointed zero n = omega arith
length-pointed (suc p) n = omega (arith, length_rest (suc p) n (omega arith))

places-picked : (s t u : Bool) → cond s 1 (cond t 2 (cond u 3 0)) ≤ 3
places-picked true t u = omega arith
places-picked false true u = omega arith
places-picked false false true = omega arith
places-picked false false false = omega arith

places-most : (mark : ℕ) → places mark ≤ 3
unfolding places
places-most mark = places-picked (eqb mark 126) (eqb mark 36) (eqb mark 38)

length-parts : (p n : ℕ) → p ≤ 3 → n < 2 ^ 64 → length (grouped_text p n) ≤ 64
unfolding grouped_text
length-parts p n few small =
    let whole : List ℕ = number_text (n / 10 ^ p) in
    let digits : length whole ≤ 20 = length-number 19 (n / 10 ^ p) (omega (arith, div-le_self n (10 ^ p))) in
    omega (arith, length-append (grouped whole) (pointed p n), length-grouped whole, length-pointed p n)

-- a number of 64 bits has 64 letters at most, as any mark shows it
length-mark : (mark n : ℕ) → n < 2 ^ 64 → length (mark_text mark n) ≤ 64
unfolding mark_text
length-mark mark n small =
    length-either 64 (eqb mark 35) (number_text n) (grouped_text (places mark) n)
    (omega (arith, length-number 19 n (omega arith)))
    (length-parts (places mark) n (places-most mark) small)

-- a room that holds any number's text, once one was put there: its front is the text, and can be lent
pub record Made (text after : List ℕ) (end : ℕ) : Type 0 where
  pub within : end ≤ length after
  pub front : take end after ≡ text
  pub counted : end ≡ length (take end after)

pub mark_made : (room : List ℕ) (mark n : ℕ) {after : List ℕ} {end : ℕ} → length room ≡ 64 → n < 2 ^ 64
    → Put room 0 (mark_text mark n) after end → Made (mark_text mark n) after end
mark_made room mark n e small p =
    let text : List ℕ = mark_text mark n in
    let fits : length text ≤ length room = omega (arith, length-mark mark n small) in
    let all = put-end room text fits (omega arith) p in
    let front = put_front room text fits (omega arith) p in
    record {
      within = omega (arith, put-length p);
      front = front;
      counted = all ∙ sym (ap length front);
    }

-- the wholes, with a point and the rest where there are places
plain-parts : (p n : ℕ) → plain_text p n ≡ number_text (n / 10 ^ p) ++ pointed p n
unfolding plain_text pointed decimal_text
plain-parts zero n = let e : n / 1 ≡ n = omega arith in rw e (sym (append-nil (number_text n)))
plain-parts (suc p) n = rw (ne_eqb (suc p) 0 (λ e. omega arith))

length-plain : (p n : ℕ) → length (plain_text p n) ≡ length (number_text (n / 10 ^ p)) + length (pointed p n)
length-plain p n = rw (plain-parts p n) (length-append (number_text (n / 10 ^ p)) (pointed p n))

-- as many letters are separated as the whole part has digits
wholes-some : (mark p n : ℕ) → (mark ≡ 35 → ⊥) → wholes mark p (length (plain_text p n)) ≡ length (number_text (n / 10 ^ p))
unfolding wholes pointed
wholes-some mark zero n h = rw (ne_eqb mark 35 h) (omega (arith, length-plain zero n))
wholes-some mark (suc p) n h =
    rw (ne_eqb mark 35 h, ne_eqb (suc p) 0 (λ e. omega arith))
    (omega (arith, length-plain (suc p) n, length_rest (suc p) n (omega arith)))

separated-hash : (n : ℕ) → separated (wholes 35 (places 35) (length (plain_text (places 35) n))) (plain_text (places 35) n) ≡ number_text n
unfolding wholes places plain_text
separated-hash n = separated-plain (number_text n)

-- a number as a mark shows it is its plain text, separated
mark-separated : (mark n : ℕ) →
    let plain : List ℕ = plain_text (places mark) n in separated (wholes mark (places mark) (length plain)) plain ≡ mark_text mark n
unfolding mark_text grouped_text
mark-separated mark n =
    by-equality mark 35
    (λ e. rw e (separated-hash n))
    (λ h.
    rw (ne_eqb mark 35 h, wholes-some mark (places mark) n h, plain-parts (places mark) n)
    (separated-whole (number_text (n / 10 ^ places mark)) (pointed (places mark) n)))

pub text-separated : (mark n : ℕ) {p end whole : ℕ} {letters : List ℕ} → p ≡ places mark → letters ≡ plain_text p n
    → end ≡ length (plain_text p n) → whole ≡ wholes mark p end → separated whole letters ≡ mark_text mark n
text-separated mark n e l f w = rw (w, l, f, e) (mark-separated mark n)

-- a room of 41 bytes holds the plain text of a number of 64 bits
module _ (out : List ℕ) (p n : ℕ) (long : 41 ≤ length out) (few : p ≤ 3) (small : n < 2 ^ 64) where
  plain_fits : length (plain_text p n) ≤ length out
  plain_fits =
      let whole : length (number_text (n / 10 ^ p)) ≤ 20 = length-number 19 (n / 10 ^ p) (omega (arith, div-le_self n (10 ^ p))) in
      omega (arith, length-plain p n, length-pointed p n)

  module _ {after : List ℕ} {end : ℕ} (w : Written out 0 (plain_text p n) after end) where
    pub plain-front : take end after ≡ plain_text p n
    plain-front = written-taken out (plain_text p n) plain_fits w

    pub plain_end : end ≡ length (plain_text p n)
    plain_end = omega (arith, fits-place out 0 (plain_text p n) (omega (arith, plain_fits)) w)
