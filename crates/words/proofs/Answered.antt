-- A verdict, told by what is answered of it.
-- Assumes nothing.
use mathlib.Core.Path.{◌≡◌, refl, ap}
use Prim.Native.Nat.{ℕ}
use native.Mathlib.Omega.{arith}
use Rattle.std.specs.Prelude.{Err, Ok}
use Rattle.plain.specs.declared.structs.OzpText.{OzpText}
use Rattle.words.specs.Texts.{text_given, text_refused, text_by}
use Rattle.values.specs.Refusals.{number_of, place_of, Verdict, RefusedBy, no_fault}
use Rattle.values.specs.declared.refusal.Refusal.{Refusal}
use Rattle.values.proofs.Table.{refused-told}

-- what is refused by the answer is refused, by the number and at the place that it has
pub refused-by : (v : Verdict) (n number place : ℕ) → text_by v (text_given n) ≡ text_refused number place → RefusedBy v number place
refused-by (Ok u) n number place e = absurd (omega (arith, ap (λ (t : OzpText). t.kind) e))
refused-by (Err refusal) n number place e = (ap (λ (t : OzpText). t.number) e, ap (λ (t : OzpText). t.place) e)

-- where they are those of a refusal, it is that refusal
pub refused-as : (v : Verdict) (n : ℕ) (refusal : Refusal)
    → text_by v (text_given n) ≡ text_refused (number_of refusal) (place_of refusal) → v ≡ Err refusal
refused-as v n refusal e = refused-told v refusal (refused-by v n (number_of refusal) (place_of refusal) e)

-- and what is answered passed
pub passed-by : (v : Verdict) (n : ℕ) → (text_by v (text_given n)).kind ≡ 1 → v ≡ no_fault
passed-by (Ok u) n e = refl
passed-by (Err m) n e = absurd (omega (arith, e))
