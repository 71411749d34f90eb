-- Laws of bytes put into a list.
--
-- In order: a list copied over a part of another, and the length; a list put behind another; a list put into the second of two lists, and over the
-- front.
-- Assumes nothing.
use mathlib.Core.Path.{◌≡◌, sym, ap, ap₂, ◌∙◌}
use mathlib.Core.List.{List, ◌++◌, append_assoc}
use Prim.Native.Nat.{ℕ, ◌+◌, ◌≤◌}
use native.Mathlib.Nat.{add_assoc, zero-add}
use native.Mathlib.Omega.{arith}
use lib.ListN.{length, take, drop, length-append, length-take, length-drop}
use lib.Seq.{take_at, drop_at, drop-append-le, drop-append-add, drop-drop, take-append-add, length-take-le}
use borrow.Rule.Slice.PartMut.{put_mid}
use Rattle.places.specs.inner.Put.{put}

-- a part of a list over which another was copied
pub put-copied : (b : List ℕ) (at : ℕ) (t : List ℕ) {k : ℕ} {s : List ℕ} → s ≡ t → k ≡ length t → put_mid at k b s ≡ put b at t
unfolding put
put-copied b at t e f = rw (e, f, drop-drop)

pub length-put : (b : List ℕ) (at : ℕ) (s : List ℕ) → at + length s ≤ length b → length (put b at s) ≡ length b
unfolding put
length-put b at s h =
    simp (length-append, length-take, length-drop) (omega arith)

-- a list put behind another is both put together
pub put-join : (b : List ℕ) (at : ℕ) (s t : List ℕ) → at + length s ≤ length b
    → put (put b at s) (at + length s) t ≡ put b at (s ++ t)
unfolding put
put-join b at s t h =
    let front : List ℕ = take at b ++ s in
    let long : length front ≡ at + length s = length-append (take at b) s ∙ ap (λ (k : ℕ). k + length s) (length-take-le at b (omega arith)) in
    let rest : List ℕ = drop (at + length s) b in
    ap (λ (l : List ℕ). take (at + length s) l ++ (t ++ drop (at + length s + length t) l)) (sym (append_assoc (take at b) s rest))
    ∙ ap₂ (λ (x y : List ℕ). x ++ (t ++ y)) (take_at front rest (at + length s) long)
    (ap (λ (k : ℕ). drop (k + length t) (front ++ rest)) (sym long)
    ∙ drop-append-add front rest (length t)
    ∙ drop-drop (length t) (at + length s) b)
    ∙ append_assoc (take at b) s (t ++ drop (at + length s + length t) b)
    ∙ ap (λ (x : List ℕ). take at b ++ x)
    (sym (append_assoc s t (drop (at + length s + length t) b))
    ∙ ap (λ (k : ℕ). (s ++ t) ++ drop k b) (add_assoc at (length s) (length t) ∙ ap (λ (k : ℕ). at + k) (sym (length-append s t))))

-- the same, of what a call left and the next call made of it
pub put_next : (b : List ℕ) (at : ℕ) (s t : List ℕ) (k : ℕ) {c d : List ℕ} → length s ≡ k → at + k ≤ length b
    → c ≡ put b at s → d ≡ put c (at + k) t → d ≡ put b at (s ++ t)
put_next b at s t k e h first next =
    next
    ∙ ap₂ (λ (l : List ℕ) (n : ℕ). put l (at + n) t) first (sym e)
    ∙ put-join b at s t (rw e h)

-- a list put into the second of two
pub put-after : (p q : List ℕ) (k at : ℕ) (s : List ℕ) → length p ≡ k → put (p ++ q) (k + at) s ≡ p ++ put q at s
unfolding put
put-after p q k at s e =
    rw (← e, add_assoc, take-append-add, drop-append-add, append_assoc)

-- a list put over the front
pub put_front : (p q s : List ℕ) → length p ≡ length s → put (p ++ q) 0 s ≡ s ++ q
unfolding put
put_front p q s e = ap (λ (x : List ℕ). s ++ x) (ap (λ (k : ℕ). drop k (p ++ q)) (zero-add (length s)) ∙ drop_at p q (length s) e)

-- a list put over the front of a longer one
pub put-over : (p q s : List ℕ) → length s ≤ length p → put (p ++ q) 0 s ≡ s ++ (drop (length s) p ++ q)
unfolding put
put-over p q s l = ap (λ (x : List ℕ). s ++ x) (ap (λ (k : ℕ). drop k (p ++ q)) (zero-add (length s)) ∙ drop-append-le (length s) p q l)
