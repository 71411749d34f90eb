-- What bytes leave that are put over a room.
--
-- In order: bytes laid over a room one at a time, which is what `over` says; the room's length; a place past the end, no bytes,
-- one byte; two texts, one behind the other; what `Put` says of each, and what stands at the front of a room that holds it all.
-- Assumes nothing.
use mathlib.Core.Path.{◌≡◌, refl, sym, ap, ◌∙◌}
use mathlib.Core.List.{List, [], ◌∷◌, ◌++◌}
use Prim.Native.Nat.{ℕ, zero, suc, ◌+◌, ◌≤◌, min}
use native.Mathlib.Nat.{zero-add, suc-add, not-suc-le-zero, le_of_suc-le-suc, le_of_lt, min-eq_left, min-eq_right}
use native.Mathlib.Omega.{arith}
use lib.ListN.{length, take, set, length-append}
use lib.Seq.{take-length}
use Rattle.laws.proofs.Cases.{by_order}
use Rattle.forms.specs.Put.{over, behind, Put}

-- bytes laid over a room one at a time
laid : List ℕ → ℕ → List ℕ → List ℕ
laid [] at bytes = []
laid (x ∷ room) zero [] = x ∷ room
laid (x ∷ room) zero (b ∷ bytes) = b ∷ laid room zero bytes
laid (x ∷ room) (suc at) bytes = x ∷ laid room at bytes

over-laid : (room : List ℕ) (at : ℕ) (bytes : List ℕ) → over room at bytes ≡ laid room at bytes
unfolding over laid
over-laid [] at bytes = refl
over-laid (x ∷ room) zero [] = take-length (x ∷ room)
over-laid (x ∷ room) zero (b ∷ bytes) =
    rw (zero-add (suc (length bytes))) (ap (λ (r : List ℕ). b ∷ r) (rw (zero-add (length bytes)) at (over-laid room zero bytes)))
over-laid (x ∷ room) (suc at) bytes = rw (suc-add at (length bytes)) (ap (λ (r : List ℕ). x ∷ r) (over-laid room at bytes))

length-laid : (room : List ℕ) (at : ℕ) (bytes : List ℕ) → length (laid room at bytes) ≡ length room
unfolding laid
length-laid [] at bytes = refl
length-laid (x ∷ room) zero [] = refl
length-laid (x ∷ room) zero (b ∷ bytes) = ap suc (length-laid room zero bytes)
length-laid (x ∷ room) (suc at) bytes = ap suc (length-laid room at bytes)

laid-past : (room : List ℕ) (at : ℕ) (bytes : List ℕ) → length room ≤ at → laid room at bytes ≡ room
unfolding laid
laid-past [] at bytes h = refl
laid-past (x ∷ room) zero bytes h = absurd (not-suc-le-zero h)
laid-past (x ∷ room) (suc at) bytes h = ap (λ (r : List ℕ). x ∷ r) (laid-past room at bytes (le_of_suc-le-suc h))

laid_none : (room : List ℕ) (at : ℕ) → laid room at [] ≡ room
unfolding laid
laid_none [] at = refl
laid_none (x ∷ room) zero = refl
laid_none (x ∷ room) (suc at) = ap (λ (r : List ℕ). x ∷ r) (laid_none room at)

laid_one : (room : List ℕ) (at byte : ℕ) → laid room at (byte ∷ []) ≡ set room at byte
unfolding laid
laid_one [] at byte = refl
laid_one (x ∷ room) zero byte = ap (λ (r : List ℕ). byte ∷ r) (laid_none room zero)
laid_one (x ∷ room) (suc at) byte = ap (λ (r : List ℕ). x ∷ r) (laid_one room at byte)

laid-append : (room : List ℕ) (at : ℕ) (a b : List ℕ) → laid (laid room at a) (at + length a) b ≡ laid room at (a ++ b)
unfolding laid
laid-append [] at a b = refl
laid-append (x ∷ room) zero [] b = refl
laid-append (x ∷ room) zero (c ∷ a) b =
    rw (zero-add (suc (length a)))
    (ap (λ (r : List ℕ). c ∷ r) (rw (zero-add (length a)) at (laid-append room zero a b)))
laid-append (x ∷ room) (suc at) a b = rw (suc-add at (length a)) (ap (λ (r : List ℕ). x ∷ r) (laid-append room at a b))

laid-front : (room bytes : List ℕ) → length bytes ≤ length room → take (length bytes) (laid room zero bytes) ≡ bytes
unfolding laid
laid-front room [] h = refl
laid-front [] (b ∷ bytes) h = absurd (not-suc-le-zero h)
laid-front (x ∷ room) (b ∷ bytes) h = ap (λ (r : List ℕ). b ∷ r) (laid-front room bytes (le_of_suc-le-suc h))

-- a room stays as long as it is
pub length_over : (room : List ℕ) (at : ℕ) (bytes : List ℕ) → length (over room at bytes) ≡ length room
length_over room at bytes = rw (over-laid room at bytes) (length-laid room at bytes)

-- past the end nothing is put
pub over-past : (room : List ℕ) (at : ℕ) (bytes : List ℕ) → length room ≤ at → over room at bytes ≡ room
over-past room at bytes h = over-laid room at bytes ∙ laid-past room at bytes h

pub over_none : (room : List ℕ) (at : ℕ) → over room at [] ≡ room
over_none room at = over-laid room at [] ∙ laid_none room at

pub over-one : (room : List ℕ) (at byte : ℕ) → over room at (byte ∷ []) ≡ set room at byte
over-one room at byte = over-laid room at (byte ∷ []) ∙ laid_one room at byte

over-append : (room : List ℕ) (at : ℕ) (a b : List ℕ) → over (over room at a) (at + length a) b ≡ over room at (a ++ b)
over-append room at a b =
    rw (over-laid room at a, over-laid (laid room at a) (at + length a) b, over-laid room at (a ++ b)) (laid-append room at a b)

-- a text behind another is one text with it
pub over-over : (room : List ℕ) (at : ℕ) (a b : List ℕ) → length room ≤ 18446744073709551615
    → over (over room at a) (behind at a) b ≡ over room at (a ++ b)
unfolding behind
over-over room at a b small =
    by_order (at + length a) 18446744073709551615
    (λ within. rw (min-eq_left within) (over-append room at a b))
    (λ past.
    let long = length_over room at a in
    rw (min-eq_right (le_of_lt past))
    (over-past (over room at a) 18446744073709551615 b (omega arith)
    ∙ sym (over-past (over room at a) (at + length a) b (omega arith))
    ∙ over-append room at a b))

pub behind-behind : (at : ℕ) (a b : List ℕ) → behind (behind at a) b ≡ behind at (a ++ b)
unfolding behind
behind-behind at a b = rw (length-append a b) (omega arith)

pub behind-none : (at : ℕ) → at ≤ 18446744073709551615 → behind at [] ≡ at
unfolding behind
behind-none at h = omega arith

pub behind-most : (at : ℕ) (bytes : List ℕ) → behind at bytes ≤ 18446744073709551615
unfolding behind
behind-most at bytes = omega arith

-- a room stays as long as it is
pub put-length : {room : List ℕ} {at : ℕ} {bytes after : List ℕ} {end : ℕ} → Put room at bytes after end
    → length after ≡ length room
put-length {room} {at} {bytes} p = ap length p.buffer ∙ length_over room at bytes

-- nothing put leaves all as it is
pub put-none : (room : List ℕ) (at : ℕ) → at ≤ 18446744073709551615 → Put room at [] room at
put-none room at h = record { buffer = sym (over_none room at); place = sym (behind-none at h) }

-- one byte is stored where its place lies in the room, and else left out
pub put-stored : (room : List ℕ) (at byte : ℕ) {end : ℕ} → end ≡ min (at + 1) 18446744073709551615
    → Put room at (byte ∷ []) (set room at byte) end
unfolding behind
put-stored room at byte e = record { buffer = sym (over-one room at byte); place = e }

pub put-past : (room : List ℕ) (at byte : ℕ) {end : ℕ} → length room ≤ at → end ≡ min (at + 1) 18446744073709551615
    → Put room at (byte ∷ []) room end
unfolding behind
put-past room at byte h e = record { buffer = sym (over-past room at (byte ∷ []) h); place = e }

-- a text put behind another is one text with it
pub put-put : (room : List ℕ) (at : ℕ) (a b : List ℕ) {mid after : List ℕ} {place end : ℕ} → length room ≤ 18446744073709551615
    → Put room at a mid place → Put mid place b after end → Put room at (a ++ b) after end
put-put room at a b {mid} {after} {place} {end} small p q =
    let moved : Put (over room at a) (behind at a) b after end = rw (p.buffer, p.place) at q in
    record {
      buffer = moved.buffer ∙ over-over room at a b small;
      place = moved.place ∙ behind-behind at a b;
    }

-- where a text fits into a room, the place behind it is its length, and it stands at the front
pub put-end : (room bytes : List ℕ) {after : List ℕ} {end : ℕ} → length bytes ≤ length room
    → length room ≤ 18446744073709551615 → Put room 0 bytes after end → end ≡ length bytes
unfolding behind
put-end room bytes fits small p = omega (arith, p.place)

pub put_front : (room bytes : List ℕ) {after : List ℕ} {end : ℕ} → length bytes ≤ length room
    → length room ≤ 18446744073709551615 → Put room 0 bytes after end → take end after ≡ bytes
put_front room bytes fits small p =
    rw (put-end room bytes fits small p, p.buffer, over-laid room 0 bytes) (laid-front room bytes fits)
