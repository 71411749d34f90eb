-- `flag_of_product` meets its contract: a product of two numbers of 32 bits fits 64.
-- Assumes nothing.
use borrow.Author.Rules.{rules}
use Rattle.laws.proofs.Products.{product-below}
use Rattle.repeats.proofs.flags.flag_of_product.Goals as goal

pub overflow_mul-result : goal.overflow_mul-result
overflow_mul-result c = record { fits = product-below 32 (search rules) (search rules) }
