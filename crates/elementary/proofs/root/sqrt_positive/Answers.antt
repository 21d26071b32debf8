use Rattle.std.proofs.Common.{arith, rules}
use Rattle.elementary.proofs.Count.{count_exact}
use Rattle.elementary.proofs.SquareRoot.{split_twice, split_root, sqrt_no_nan, sqrt_bits}
use Rattle.elementary.proofs.root.sqrt_positive.Goals as goal

pub overflow_mul-s : goal.overflow_mul-s
overflow_mul-s c = let h = split_twice c.split-s.ensures in record { fits = omega arith }

pub whole_root-d-requires : goal.whole_root-d-requires
whole_root-d-requires c = search (split_twice, rules)

pub overflow_add-nearest : goal.overflow_add-nearest
overflow_add-nearest c = let h = split_root c.split-s.ensures c.whole_root-d.ensures in record { fits = omega arith }

pub float_from_bits-result : goal.float_from_bits-result
float_from_bits-result c = search (sqrt_no_nan, rules)

pub returns : goal.returns
returns c = search (sqrt_bits, count_exact, rules)
