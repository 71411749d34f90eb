-- Texts as the definitions give them, written out: 0, 37500, 374.50 and 0.005; and 12 put into five bytes, and left out of one.
-- Assumes nothing.
use mathlib.Core.Path.{◌≡◌, refl}
use mathlib.Core.List.{[], ◌∷◌}
use Rattle.text.specs.Put.{put, right_text}
use Rattle.text.specs.Number.{digit_count, number_text}
use Rattle.text.specs.inner.Number.{decimal_text}

number-least : number_text 0 ≡ 48 ∷ []
unfolding digit_count number_text
number-least = refl

number-price : number_text 37500 ≡ 51 ∷ 55 ∷ 53 ∷ 48 ∷ 48 ∷ []
unfolding digit_count number_text
number-price = refl

decimal-price : decimal_text 2 37450 ≡ 51 ∷ 55 ∷ 52 ∷ 46 ∷ 53 ∷ 48 ∷ []
unfolding digit_count number_text right_text decimal_text
decimal-price = refl

decimal-small : decimal_text 3 5 ≡ 48 ∷ 46 ∷ 48 ∷ 48 ∷ 53 ∷ []
unfolding digit_count number_text right_text decimal_text
decimal-small = refl

put-within : put (0 ∷ 0 ∷ 0 ∷ 0 ∷ 0 ∷ []) 1 (49 ∷ 50 ∷ []) ≡ 0 ∷ 49 ∷ 50 ∷ 0 ∷ 0 ∷ []
unfolding put
put-within = refl

put-past : put (0 ∷ []) 0 (49 ∷ 50 ∷ []) ≡ 0 ∷ []
unfolding put
put-past = refl
