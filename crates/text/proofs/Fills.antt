-- Bytes with a fill in front: how long they are, and the fill put into a part of the buffer.
-- Assumes nothing.
use mathlib.Core.Path.{◌≡◌, refl}
use mathlib.Core.List.{List}
use Prim.Native.Nat.{ℕ, ◌+◌, ◌-◌, ◌≤◌}
use native.Mathlib.Nat.{zero-sub}
use native.Mathlib.Omega.{arith}
use lib.ListN.{length, replicate, length-append, length-replicate}
use Rattle.text.specs.Put.{Written, right_text}
use borrow.Rule.Slice.PartMut.{put_mid}
use Rattle.std.proofs.lemmas.Slice.{put_mid-paste}
use Rattle.text.proofs.Puts.{written-fits, written-append}

pub length-right : (width fill : ℕ) (bytes : List ℕ) → length (right_text width fill bytes) ≡ width - length bytes + length bytes
unfolding right_text
length-right width fill bytes = simp (length-append, length-replicate)

-- bytes that need no fill stand alone
pub right-none : (fill : ℕ) (bytes : List ℕ) → right_text 0 fill bytes ≡ bytes
unfolding right_text
right-none fill bytes = rw zero-sub

-- the same byte, filled into a part of the buffer
pub written-fill : (out : List ℕ) (at byte i : ℕ) {k n : ℕ} {part : List ℕ} → at + i ≤ length out → k ≡ i → n ≡ i → part ≡ replicate n byte
    → Written out at (replicate i byte) (put_mid at k out part) (at + i)
written-fill out at byte i h e f filled =
    let long = length-replicate i byte in
    written-fits out at (replicate i byte) (omega arith)
    (put_mid-paste at _ out _ (replicate i byte) (length (replicate i byte)) (rw (← f) filled) (omega arith) refl) (omega arith)

-- the bytes behind their fill
pub written-right : (out : List ℕ) (at width fill : ℕ) (bytes : List ℕ) (gap : ℕ) {k n : ℕ} {part after : List ℕ} {end : ℕ}
    → gap ≡ width - length bytes → at + gap + length bytes ≤ length out → Written (put_mid at k out part) (at + gap) bytes after end
    → k ≡ gap → n ≡ gap → part ≡ replicate n fill → Written out at (right_text width fill bytes) after end
unfolding right_text
written-right out at width fill bytes gap e h w f g filled =
    let long = length-replicate gap fill in
    rw (← e) (written-append out at (replicate gap fill) bytes (omega arith) (written-fill out at fill gap (omega arith) f g filled) w)
