-- A text that is put piece by piece: what is left of it, where the pieces before stand in the room.
-- Assumes nothing.
use mathlib.Core.Path.{◌≡◌, refl, sym, ◌∙◌}
use mathlib.Core.List.{List, [], ◌∷◌, ◌++◌}
use Prim.Native.Nat.{ℕ, suc, ◌+◌, ◌≤◌, ◌<◌}
use native.Mathlib.Numerals.{add-one}
use lib.ListN.{length, drop, get_or}
use lib.Seq.{drop-cons}
use Rattle.forms.specs.Put.{over, behind, Put}
use Rattle.forms.proofs.Puts.{over-over, over_none, behind-behind, behind-none, behind-most}

-- putting what is left at its place puts the whole text
pub record Left (room : List ℕ) (at : ℕ) (text now : List ℕ) (place : ℕ) (rest : List ℕ) : Type 0 where
  pub buffer : over now place rest ≡ over room at text
  pub end : behind place rest ≡ behind at text
  pub low : place ≤ 18446744073709551615

-- at first all is left
pub left-all : (room : List ℕ) (at : ℕ) (text : List ℕ) → at ≤ 18446744073709551615 → Left room at text room at text
left-all room at text h = record { buffer = refl; end = refl; low = h }

-- a piece is put
pub left_less : {room : List ℕ} {at : ℕ} {text now : List ℕ} {place : ℕ} (piece rest : List ℕ) {after : List ℕ} {next : ℕ}
    → length now ≤ 18446744073709551615 → Left room at text now place (piece ++ rest) → Put now place piece after next
    → Left room at text after next rest
left_less {now} {place} piece rest small l p =
    rw (p.buffer, p.place)
    record {
      buffer = over-over now place piece rest small ∙ l.buffer;
      end = behind-behind place piece rest ∙ l.end;
      low = behind-most place piece;
    }

-- one byte of a text is put
pub left-byte : {room : List ℕ} {at : ℕ} {whole now : List ℕ} {place : ℕ} (text : List ℕ) (i : ℕ) {after : List ℕ} {next : ℕ}
    → i < length text → length now ≤ 18446744073709551615 → Left room at whole now place (drop i text)
    → Put now place (get_or text i 0 ∷ []) after next → Left room at whole after next (drop (i + 1) text)
left-byte text i h small l p =
    rw (add-one i) (left_less (get_or text i 0 ∷ []) (drop (suc i) text) small (rw (drop-cons text i 0 h) at l) p)

-- at last nothing is left
pub left-none : {room : List ℕ} {at : ℕ} {text now : List ℕ} {place : ℕ} → Left room at text now place []
    → Put room at text now place
left-none {now} {place} l =
    record {
      buffer = sym (over_none now place) ∙ l.buffer;
      place = sym (behind-none place l.low) ∙ l.end;
    }
