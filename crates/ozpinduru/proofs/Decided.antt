-- The contract of each exported function leaves one answer, and one content of each buffer: any two outcomes that it allows for
-- the same bytes and numbers coincide, wherever they lie.
-- Assumes nothing.
use mathlib.Core.Path.{◌≡◌, sym, ap, ◌∙◌}
use mathlib.Core.List.{List}
use Prim.Native.Nat.{ℕ}
use lib.ListN.{length}
use contract.Lifetimes.{Lfts}
use denote.Ref.{Bor, MutBor}
use Rattle.layout.specs.Read.{contents_of}
use Rattle.call.specs.Answer.{answer_of}
use Rattle.report.specs.Report.{report_text}
use Rattle.answers.specs.Answers.{exported}
use Rattle.ozpinduru.specs.Export.{Returned}
use Rattle.listing.specs.Listed.{Read}
use Rattle.words.proofs.Decided.{told_same}
use Rattle.plain.specs.Given.{contents_in}
use Rattle.convert.proofs.Decided.{converted-same}
use Rattle.lent.proofs.Decided.{wrote-same}
use Rattle.plain.specs.declared.structs.OzpAnswer.{OzpAnswer}
use Rattle.plain.specs.declared.structs.OzpContents.{OzpContents}
use Rattle.plain.specs.declared.structs.OzpCurve.{OzpCurve}
use Rattle.plain.specs.declared.structs.OzpParameters.{OzpParameters}
use Rattle.plain.specs.declared.structs.OzpPrice.{OzpPrice}
use Rattle.plain.specs.declared.structs.OzpRow.{OzpRow}
use Rattle.plain.specs.declared.structs.OzpText.{OzpText}
use Rattle.ozpinduru.proofs.export.ozp_clear.Reads as ozp-clear
use Rattle.ozpinduru.proofs.export.ozp_curve.Reads as ozp-curve
use Rattle.ozpinduru.proofs.export.ozp_days.Reads as ozp-days
use Rattle.ozpinduru.proofs.export.ozp_make_whole.Reads as ozp-make-whole
use Rattle.ozpinduru.proofs.export.ozp_price_at.Reads as ozp-price-at
use Rattle.ozpinduru.proofs.export.ozp_quote.Reads as ozp-quote
use Rattle.ozpinduru.proofs.export.ozp_version.Reads as ozp-version
use Rattle.ozpinduru.proofs.texts.ozp_report.Reads as ozp-report
use Rattle.ozpinduru.proofs.converted.ozp_convert.Reads as ozp-convert
use Rattle.ozpinduru.proofs.texts.ozp_words.Reads as ozp-words
use Rattle.ozpinduru.proofs.read.ozp_read.Reads as ozp-read
use Rattle.ozpinduru.proofs.write.ozp_write.Reads as ozp-write

-- what is returned and left in both buffers, by what a `Returned` says of the same book and buffers
returned-same : (b cleared committed : List ℕ) (r s : OzpAnswer) (cleared₁ committed₁ cleared₂ committed₂ : List ℕ)
    → Returned b cleared committed r cleared₁ committed₁
    → Returned b cleared committed s cleared₂ committed₂
    → (r ≡ s) × (cleared₁ ≡ cleared₂) × (committed₁ ≡ committed₂)
returned-same b cleared committed r s cleared₁ committed₁ cleared₂ committed₂ x y = (
  x.answer ∙ sym y.answer,
  x.outcome.cleared-holds ∙ sym y.outcome.cleared-holds,
  x.outcome.committed-holds ∙ sym y.outcome.committed-holds,
)

-- what a call returns, and both buffers, by the contract of `ozp_clear`
pub ozp-clear-decided : (κs : Lfts 3) (book₁ : Bor (List ℕ)) (cleared₁ committed₁ : MutBor (List ℕ)) (book₂ : Bor (List ℕ)) (cleared₂ committed₂ : MutBor (List ℕ))
    (cleared₁' committed₁' cleared₂' committed₂' : MutBor (List ℕ)) (r s : OzpAnswer)
    → book₁.now ≡ book₂.now → cleared₁.now ≡ cleared₂.now → committed₁.now ≡ committed₂.now
    → ozp-clear.Post κs (book₁, (cleared₁, (committed₁, tt))) r (book₁, (cleared₁', (committed₁', tt)))
    → ozp-clear.Post κs (book₂, (cleared₂, (committed₂, tt))) s (book₂, (cleared₂', (committed₂', tt)))
    → (r ≡ s) × (cleared₁'.now ≡ cleared₂'.now) × (committed₁'.now ≡ committed₂'.now)
ozp-clear-decided κs book₁ cleared₁ committed₁ book₂ cleared₂ committed₂ cleared₁' committed₁' cleared₂' committed₂' r s e f g x y =
    returned-same book₁.now cleared₁.now committed₁.now _ _ _ _ _ _ x (rw (e, f, g) y)

-- the answer with no buffers, by the contract of `ozp_quote`
pub ozp-quote-decided : (κs : Lfts 1) (book other : Bor (List ℕ)) (r s : OzpAnswer)
    → book.now ≡ other.now
    → ozp-quote.Post κs (book, tt) r (book, tt)
    → ozp-quote.Post κs (other, tt) s (other, tt)
    → r ≡ s
ozp-quote-decided κs book other r s same e f =
    e ∙ ap (λ (b : List ℕ). exported (answer_of b) (length (contents_of b).offers)) same ∙ sym f

-- the points of a curve, by the contract of `ozp_curve`
pub ozp-curve-decided : (p : OzpParameters) (r s : OzpCurve)
    → ozp-curve.Post tt (p, tt) r (p, tt) → ozp-curve.Post tt (p, tt) s (p, tt) → r ≡ s
ozp-curve-decided p r s e f = e ∙ sym f

-- the price at a quantity, by the contract of `ozp_price_at`
pub ozp-price-at-decided : (p : OzpParameters) (k : ℕ) (r s : OzpPrice)
    → ozp-price-at.Post tt (p, (k, tt)) r (p, (k, tt)) → ozp-price-at.Post tt (p, (k, tt)) s (p, (k, tt)) → r ≡ s
ozp-price-at-decided p k r s e f = e ∙ sym f

-- a row's make-whole, by the contract of `ozp_make_whole`
pub ozp-make-whole-decided : (kind price cleared committed r s : ℕ)
    → ozp-make-whole.Post tt (kind, (price, (cleared, (committed, tt)))) r (kind, (price, (cleared, (committed, tt))))
    → ozp-make-whole.Post tt (kind, (price, (cleared, (committed, tt)))) s (kind, (price, (cleared, (committed, tt))))
    → r ≡ s
ozp-make-whole-decided kind price cleared committed r s e f = e ∙ sym f

-- the days of a delivery year, by the contract of `ozp_days`
pub ozp-days-decided : (year r s : ℕ) → ozp-days.Post tt (year, tt) r (year, tt) → ozp-days.Post tt (year, tt) s (year, tt) → r ≡ s
ozp-days-decided year r s e f = e ∙ sym f

-- the version, by the contract of `ozp_version`
pub ozp-version-decided : (r s : ℕ) → ozp-version.Post tt tt r tt → ozp-version.Post tt tt s tt → r ≡ s
ozp-version-decided r s e f = e ∙ sym f

-- ---- texts

-- the words of a number and the room, by the contract of `ozp_words`
pub ozp-words-decided : (κs : Lfts 1) (number : ℕ) (room₁ room₂ room₁' room₂' : MutBor (List ℕ)) (r s : OzpText)
    → room₁.now ≡ room₂.now
    → ozp-words.Post κs (number, (room₁, tt)) r (number, (room₁', tt))
    → ozp-words.Post κs (number, (room₂, tt)) s (number, (room₂', tt))
    → (r ≡ s) × (room₁'.now ≡ room₂'.now)
ozp-words-decided κs number room₁ room₂ room₁' room₂' r s e x y = told_same _ room₁.now _ _ _ _ x (rw e y)

-- the report of a book and the room, by the contract of `ozp_report`
pub ozp-report-decided : (κs : Lfts 2) (book₁ : Bor (List ℕ)) (room₁ : MutBor (List ℕ)) (book₂ : Bor (List ℕ)) (room₂ room₁' room₂' : MutBor (List ℕ)) (r s : OzpText)
    → book₁.now ≡ book₂.now → room₁.now ≡ room₂.now
    → ozp-report.Post κs (book₁, (room₁, tt)) r (book₁, (room₁', tt))
    → ozp-report.Post κs (book₂, (room₂, tt)) s (book₂, (room₂', tt))
    → (r ≡ s) × (room₁'.now ≡ room₂'.now)
ozp-report-decided κs book₁ room₁ book₂ room₂ room₁' room₂' r s e f x y =
    told_same (report_text book₁.now) room₁.now _ _ _ _ x (rw (e, f) y)

-- ---- what a book says

read_same : (b : List ℕ) (rows : List OzpRow) (r s : OzpContents) (rows₁ rows₂ : List OzpRow) → Read b rows r rows₁ → Read b rows s rows₂
    → (r ≡ s) × (rows₁ ≡ rows₂)
read_same b rows r s rows₁ rows₂ x y = (x.contents ∙ sym y.contents, x.filled ∙ sym y.filled)

-- what is returned and left in the array, by the contract of `ozp_read`
pub ozp-read-decided : (κs : Lfts 2) (book₁ book₂ : Bor (List ℕ)) (rows₁ rows₂ rows₁' rows₂' : MutBor (List OzpRow)) (r s : OzpContents)
    → book₁.now ≡ book₂.now → rows₁.now ≡ rows₂.now
    → ozp-read.Post κs (book₁, (rows₁, tt)) r (book₁, (rows₁', tt))
    → ozp-read.Post κs (book₂, (rows₂, tt)) s (book₂, (rows₂', tt))
    → (r ≡ s) × (rows₁'.now ≡ rows₂'.now)
ozp-read-decided κs book₁ book₂ rows₁ rows₂ rows₁' rows₂' r s e f x y = read_same book₁.now rows₁.now _ _ _ _ x (rw (e, f) y)

-- ---- a book in lent room

-- what is returned and left in the room, by the contract of `ozp_write`
pub ozp-write-decided : (κs : Lfts 2) (edition : ℕ) (p : OzpParameters) (rows₁ rows₂ : Bor (List OzpRow)) (room₁ room₂ room₁' room₂' : MutBor (List ℕ)) (r s : OzpText)
    → rows₁.now ≡ rows₂.now → room₁.now ≡ room₂.now
    → ozp-write.Post κs (edition, (p, (rows₁, (room₁, tt)))) r (edition, (p, (rows₁, (room₁', tt))))
    → ozp-write.Post κs (edition, (p, (rows₂, (room₂, tt)))) s (edition, (p, (rows₂, (room₂', tt))))
    → (r ≡ s) × (room₁'.now ≡ room₂'.now)
ozp-write-decided κs edition p rows₁ rows₂ room₁ room₂ room₁' room₂' r s e f x y =
    wrote-same (contents_in edition p rows₁.now) room₁.now _ _ _ _ x (rw (e, f) y)

-- the book in the other edition and the room, by the contract of `ozp_convert`
pub ozp-convert-decided : (κs : Lfts 2) (book₁ book₂ : Bor (List ℕ)) (room₁ room₂ room₁' room₂' : MutBor (List ℕ)) (r s : OzpText)
    → book₁.now ≡ book₂.now → room₁.now ≡ room₂.now
    → ozp-convert.Post κs (book₁, (room₁, tt)) r (book₁, (room₁', tt))
    → ozp-convert.Post κs (book₂, (room₂, tt)) s (book₂, (room₂', tt))
    → (r ≡ s) × (room₁'.now ≡ room₂'.now)
ozp-convert-decided κs book₁ book₂ room₁ room₂ room₁' room₂' r s e f x y = converted-same book₁.now room₁.now _ _ _ _ x (rw (e, f) y)
