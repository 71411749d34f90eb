-- `offer_words` puts the words of a number from 6 to 11, each arm its own.
-- Assumes nothing.
use mathlib.Core.Path.{◌≡◌}
use native.Mathlib.Omega.{arith}
use Rattle.words.specs.Words.{bytes_of, words_of}
use Rattle.words.proofs.Telling.{told-as, words-known}
use Rattle.words.proofs.offer_words.Goals as goal

pub returns-in-6 : goal.returns-in-6
unfolding bytes_of words_of
returns-in-6 c = told-as (words-known c.in-6.is) c.put_text.ensures

pub returns-in-7 : goal.returns-in-7
unfolding bytes_of words_of
returns-in-7 c = told-as (words-known c.in-7.is) c.put_text-in-7.ensures

pub returns-in-8 : goal.returns-in-8
unfolding bytes_of words_of
returns-in-8 c = told-as (words-known c.in-8.is) c.put_text-in-8.ensures

pub returns-in-9 : goal.returns-in-9
unfolding bytes_of words_of
returns-in-9 c = told-as (words-known c.in-9.is) c.put_text-in-9.ensures

pub returns-in-10 : goal.returns-in-10
unfolding bytes_of words_of
returns-in-10 c = told-as (words-known c.in-10.is) c.put_text-in-10.ensures

pub returns-in_default : goal.returns-in_default
unfolding bytes_of words_of
returns-in_default c =
    let last : c.args.number ≡ 11 = omega arith in
    told-as (words-known last) c.put_text-in_default.ensures
