-- Forms as the definitions fill them, written out: 1,234,567 and 1,000.0; a field of five letters; a choice that passes over a
-- number; a number that a form lacks; and a text cut off at the end of its room.
-- Assumes nothing.
use mathlib.Core.Path.{◌≡◌, refl}
use mathlib.Core.List.{[], ◌∷◌}
use Rattle.text.specs.Put.{right_text}
use Rattle.text.specs.Number.{digit_count, number_text}
use Rattle.forms.specs.Put.{over}
use Rattle.forms.specs.Number.{comma, grouped, pointed, grouped_text}
use Rattle.forms.specs.Mark.{is_number, is_silent, places, mark_text, next_text, byte_text}
use Rattle.forms.specs.Form.{turn_after, width_after, taken, filling, form_text}

-- `@` of 1234567
grouped-millions : form_text (64 ∷ []) (1234567 ∷ []) ≡ 49 ∷ 44 ∷ 50 ∷ 51 ∷ 52 ∷ 44 ∷ 53 ∷ 54 ∷ 55 ∷ []
unfolding comma grouped pointed grouped_text is_number is_silent places mark_text next_text byte_text turn_after
    width_after taken filling form_text right_text digit_count number_text
grouped-millions = refl

-- `~` of 10000
grouped-tenths : form_text (126 ∷ []) (10000 ∷ []) ≡ 49 ∷ 44 ∷ 48 ∷ 48 ∷ 48 ∷ 46 ∷ 48 ∷ []
unfolding comma grouped pointed grouped_text is_number is_silent places mark_text next_text byte_text turn_after
    width_after taken filling form_text right_text digit_count number_text
grouped-tenths = refl

-- `____#` of 12
widened : form_text (95 ∷ 95 ∷ 95 ∷ 95 ∷ 35 ∷ []) (12 ∷ []) ≡ 32 ∷ 32 ∷ 32 ∷ 49 ∷ 50 ∷ []
unfolding comma grouped pointed grouped_text is_number is_silent places mark_text next_text byte_text turn_after
    width_after taken filling form_text right_text digit_count number_text
widened = refl

-- `[#|b]#` of 1, 7 and 8: the first number mark is not shown, and takes the 7
passed_over : form_text (91 ∷ 35 ∷ 124 ∷ 98 ∷ 93 ∷ 35 ∷ []) (1 ∷ 7 ∷ 8 ∷ []) ≡ 98 ∷ 56 ∷ []
unfolding comma grouped pointed grouped_text is_number is_silent places mark_text next_text byte_text turn_after
    width_after taken filling form_text right_text digit_count number_text
passed_over = refl

-- `_#[a]` of nothing
lacked : form_text (95 ∷ 35 ∷ 91 ∷ 97 ∷ 93 ∷ []) [] ≡ 32 ∷ 63 ∷ []
unfolding comma grouped pointed grouped_text is_number is_silent places mark_text next_text byte_text turn_after
    width_after taken filling form_text right_text digit_count number_text
lacked = refl

cut_off : over (0 ∷ 0 ∷ 0 ∷ []) 1 (49 ∷ 50 ∷ 51 ∷ []) ≡ 0 ∷ 49 ∷ 50 ∷ []
unfolding over
cut_off = refl
