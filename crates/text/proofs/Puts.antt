-- What a text leaves that is put at a place.
--
-- In order: a text that doesn't fit, one that fits, two texts, one behind the other, no text, a place past the end, what then
-- stands at the front, and that a text leaves one outcome.
-- Assumes nothing.
use mathlib.Core.Path.{◌≡◌, sym, ap, ◌∙◌}
use mathlib.Core.List.{List, [], ◌++◌, append_assoc}
use Prim.Native.Nat.{ℕ, ◌+◌, ◌≤◌, ◌<◌, min}
use native.Mathlib.Nat.{le_refl, le_of_lt, add_assoc, min-eq_left, min-eq_right}
use native.Mathlib.Omega.{arith}
use lib.ListN.{length, take, length-append}
use lib.Seq.{paste, paste-zero, length-paste, take-paste, drop-paste, take-length, drop-drop}
use borrow.Author.Tests.{le-leb, lt-leb}
use Rattle.laws.proofs.Cases.{by_order}
use Rattle.io.proofs.Counting.{prefix_len_of_le}
use Rattle.text.specs.Put.{put, put_end, Written}

module _ (out : List ℕ) (at : ℕ) (bytes : List ℕ) where
  -- a text that doesn't fit is left out
  pub written-past : {end : ℕ} → length out < at + length bytes → end ≡ min at (length out) → Written out at bytes out end
  unfolding put put_end
  written-past h e =
      record {
        buffer = rw (lt-leb _ _ h);
        place = rw (lt-leb _ _ h) e;
        counts = prefix_len_of_le _ _ (omega arith);
      }

  module _ (fits : at + length bytes ≤ length out) where
    put-fits : put out at bytes ≡ paste out at bytes (length bytes)
    unfolding put
    put-fits = rw (le-leb _ _ fits)

    put_end-fits : put_end out at bytes ≡ at + length bytes
    unfolding put_end
    put_end-fits = rw (le-leb _ _ fits)

    pub length-put-fits : length (paste out at bytes (length bytes)) ≡ length out
    length-put-fits = length-paste out at bytes (length bytes) fits (le_refl _)

    module _ {after : List ℕ} {end : ℕ} where
      -- a text that fits is put whole
      pub written-fits : after ≡ paste out at bytes (length bytes) → end ≡ at + length bytes → Written out at bytes after end
      written-fits e p =
          record {
            buffer = e ∙ sym put-fits;
            place = p ∙ sym put_end-fits;
            counts = prefix_len_of_le _ _ (omega (arith, ap length e, length-put-fits));
          }

      pub fits-buffer : Written out at bytes after end → after ≡ paste out at bytes (length bytes)
      fits-buffer w = w.buffer ∙ put-fits

      pub fits-place : Written out at bytes after end → end ≡ at + length bytes
      fits-place w = w.place ∙ put_end-fits

module _ (out : List ℕ) (at : ℕ) (xs ys : List ℕ) (fits : at + length xs + length ys ≤ length out) where
  paste-append :
      paste (paste out at xs (length xs)) (at + length xs) ys (length ys) ≡ paste out at (xs ++ ys) (length (xs ++ ys))
  paste-append =
      let k : ℕ = length xs in
      let front = take-paste out at xs k (omega arith) (le_refl k) in
      let back = drop-paste out at xs k (omega arith) (le_refl k) in
      rw (front, ← drop-drop (length ys) (at + k) (paste out at xs k), back, drop-drop)
      (rw (take-length xs, take-length ys, take-length (xs ++ ys), length-append, append_assoc (take at out) xs ys, add_assoc))

  -- a text put behind another is one text with it
  pub written-append : {mid after : List ℕ} {place end : ℕ} → Written out at xs mid place → Written mid place ys after end
      → Written out at (xs ++ ys) after end
  written-append {mid} {after} {place} {end} w v =
      let first : at + length xs ≤ length out = omega arith in
      let held : List ℕ = paste out at xs (length xs) in
      let moved : Written held (at + length xs) ys after end =
      rw (fits-buffer out at xs first w, fits-place out at xs first w) at v in
      let second : at + length xs + length ys ≤ length held = omega (arith, length-put-fits out at xs first) in
      written-fits out at (xs ++ ys) (omega (arith, length-append xs ys))
      (fits-buffer held (at + length xs) ys second moved ∙ paste-append)
      (omega (arith, length-append xs ys, fits-place held (at + length xs) ys second moved))

-- nothing put leaves all as it is
pub written_none : (out : List ℕ) (at : ℕ) → at ≤ length out → Written out at [] out at
written_none out at h = written-fits out at [] (omega arith) (paste-zero out at []) (omega arith)

-- at the end nothing but nothing fits, so all stays as it is
written-end : (out bytes : List ℕ) {after : List ℕ} {end : ℕ} → Written out (length out) bytes after end
    → (after ≡ out) × (end ≡ length out)
unfolding put put_end
written-end out bytes w =
    by_order (length bytes) 0
    (λ none.
    let e : length bytes ≡ 0 = omega arith in
    let fits : length out + length bytes ≤ length out = omega arith in (
      fits-buffer out (length out) bytes fits w ∙ ap (paste out (length out) bytes) e ∙ sym (paste-zero out (length out) bytes),
      omega (arith, fits-place out (length out) bytes fits w),
    ))
    (λ some.
    let past : length out < length out + length bytes = omega arith in
    (rw (lt-leb _ _ past) at w.buffer, omega (arith, rw (lt-leb _ _ past) at w.place)))

-- a place past the end counts as the end
pub written-clamped : (out : List ℕ) (at : ℕ) (bytes : List ℕ) {after : List ℕ} {place end : ℕ} → place ≡ min at (length out)
    → Written out place bytes after end → Written out at bytes after end
written-clamped out at bytes e w =
    by_order at (length out)
    (λ within. rw (e, min-eq_left within) at w)
    (λ past.
    let kept = written-end out bytes (rw (e, min-eq_right (le_of_lt past)) at w) in
    rw kept.0 (written-past out at bytes (omega arith) (omega (arith, kept.1))))

-- what stands at the front, where the bytes were put there
pub written-taken : (out bytes : List ℕ) {after : List ℕ} {end : ℕ} → length bytes ≤ length out → Written out 0 bytes after end
    → take end after ≡ bytes
written-taken out bytes h w =
    let fits : 0 + length bytes ≤ length out = omega arith in
    rw (fits-buffer out 0 bytes fits w, fits-place out 0 bytes fits w)
    (take-paste out 0 bytes (length bytes) (omega arith) (le_refl _) ∙ take-length bytes)

-- the bytes and their place leave one outcome
pub written-alone : {out bytes a b : List ℕ} {at i j : ℕ} → Written out at bytes a i → Written out at bytes b j → (a ≡ b) × (i ≡ j)
written-alone w v = (w.buffer ∙ sym v.buffer, w.place ∙ sym v.place)
