-- A turn puts what it reads behind what was read before it.
-- Assumes nothing.
use Rattle.std.proofs.Common.{ℕ, ◌+◌, ◌≡◌, ◌≤◌, List, ◌++◌, arith, length, take, drop, sym, ap, subst, ◌∙◌, le_refl, length-take-le}
use Rattle.std.proofs.lemmas.Slice.{take-put_mid_below}
use Rattle.std.specs.Io.KnownBytes.{Consumes}
use Rattle.std.proofs.KnownBytes.{Consumes-trans}
use borrow.Author.Rules.{rules}
use borrow.Rule.Slice.PartMut.{put_mid, post_of}
use lib.Seq.{take-add, take-append-le, drop_at}
use Rattle.input.proofs.read_input.Goals as goal

-- the bytes before `at`, and behind them those that were put there
joined : (at room n : ℕ) (bytes part : List ℕ) → at ≤ length bytes → n ≤ length part
    → take (at + n) (put_mid at room bytes part) ≡ take at bytes ++ take n part
joined at room n bytes part within fits =
    let after = post_of at room bytes in
    let behind = drop_at (take at bytes) (part ++ after) at (length-take-le at bytes within) in
    take-add at n (put_mid at room bytes part)
    ∙ ap (λ (l : List ℕ). l ++ take n (drop at (put_mid at room bytes part))) (take-put_mid_below at room bytes part at (le_refl at) within)
    ∙ ap (λ (l : List ℕ). take at bytes ++ take n l) behind
    ∙ ap (λ (l : List ℕ). take at bytes ++ l) (take-append-le n part after fits)

pub loop-done-preserved : goal.loop-done-preserved
loop-done-preserved g c =
    let l = c.loop-done in
    let more = joined l.done _ c.in-Ok.more l.bytes c.read.new.buf (omega arith) c.in-Ok.ensures.bound.0 in
    record {
      kept = search rules;
      within = search rules;
      taken = subst (Consumes _ _) (sym more) (Consumes-trans _ _ _ _ _ l.invariant.taken c.in-Ok.ensures.bytes.0);
    }
