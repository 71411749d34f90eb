-- `book_words` puts the words of a number up to 5, each arm its own.
-- Assumes nothing.
use mathlib.Core.Path.{◌≡◌, sym, ap}
use native.Mathlib.Omega.{arith}
use lib.ListN.{length}
use Rattle.words.specs.Words.{bytes_of, words_of}
use Rattle.words.proofs.Telling.{told_none, told-as, words-known}
use Rattle.words.proofs.book_words.Goals as goal

pub returns-in-1 : goal.returns-in-1
unfolding bytes_of words_of
returns-in-1 c = told-as (words-known c.in-1.is) c.put_text.ensures

pub returns-in-2 : goal.returns-in-2
unfolding bytes_of words_of
returns-in-2 c = told-as (words-known c.in-2.is) c.put_text-in-2.ensures

pub returns-in-3 : goal.returns-in-3
unfolding bytes_of words_of
returns-in-3 c = told-as (words-known c.in-3.is) c.put_text-in-3.ensures

pub returns-in-4 : goal.returns-in-4
unfolding bytes_of words_of
returns-in-4 c = told-as (words-known c.in-4.is) c.put_text-in-4.ensures

pub returns-in-5 : goal.returns-in-5
unfolding bytes_of words_of
returns-in-5 c = told-as (words-known c.in-5.is) c.put_text-in-5.ensures

pub returns-in_default : goal.returns-in_default
unfolding bytes_of words_of
returns-in_default c =
    let none : c.args.number ≡ 0 = omega arith in
    told_none _ _ (ap length (sym (words-known none)))
