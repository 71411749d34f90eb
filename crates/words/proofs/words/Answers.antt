-- `words` puts the words of a number by its range, and past 11 each arm its own.
-- Assumes nothing.
use mathlib.Core.Path.{ap}
use native.Mathlib.Omega.{arith}
use lib.ListN.{length}
use Rattle.words.specs.Words.{bytes_of, words_of}
use Rattle.words.proofs.Telling.{told_none, told-as, words-known, words-none}
use Rattle.words.proofs.words.Goals as goal

pub returns-in-19 : goal.returns-in-19
unfolding bytes_of words_of
returns-in-19 c = told-as (words-known c.in-19.is) c.put_text.ensures

pub returns-in-20 : goal.returns-in-20
unfolding bytes_of words_of
returns-in-20 c = told-as (words-known c.in-20.is) c.put_text-in-20.ensures

pub returns-in_default : goal.returns-in_default
returns-in_default c =
    told_none _ _ (ap length (words-none c.args.number c.if-number-le11.false (omega arith) (omega arith)))
