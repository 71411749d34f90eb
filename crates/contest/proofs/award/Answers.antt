-- `award` tells the contest by five keys, one after another, and settles it.
-- Assumes nothing.
use Rattle.std.proofs.Common.{◌≡◌, ℕ, List, length, false, refl, ◌∙◌}
use Rattle.contest.proofs.Awarding.{awarded}
use Rattle.contest.specs.inner.Award.{Sifted}
use Rattle.contest.proofs.award.Goals as goal

-- a round leaves as many rows as there were
rows : (keys : List ℕ) (n spare left : ℕ) (entry exit : List ℕ) → Sifted keys n entry spare exit left → length exit ≡ length entry
rows keys n spare left entry exit told = (told (λ i j. false) (λ i. refl)).rows

pub returns : goal.returns
returns c =
    let a = c.args in
    let first = c.sift-left.ensures in
    let one = rows a.k1.now _ _ _ _ _ first in
    let second = rw one at c.sift-left-2.ensures in
    let two = rows a.k2.now _ _ _ _ _ second ∙ one in
    let third = rw two at c.sift-left-3.ensures in
    let three = rows a.k3.now _ _ _ _ _ third ∙ two in
    let fourth = rw three at c.sift-left-4.ensures in
    let four = rows a.k4.now _ _ _ _ _ fourth ∙ three in
    let fifth = rw four at c.sift-left-5.ensures in
    let five = rows a.k5.now _ _ _ _ _ fifth ∙ four in
    awarded a.k1.now a.k2.now a.k3.now a.k4.now a.k5.now _ _ _ _ _ _ _ _ _ _ _ _ _ _
    c.requires.standing
    c.requires.fresh
    first
    second
    third
    fourth
    fifth
    (rw five at c.settle.ensures)
