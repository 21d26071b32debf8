-- `saverun::put_record` is safe: the first n bytes of a buffer that has as many are n. Assumes nothing.
use mathlib.Core.Path.{sym}
use lib.Seq.{length-take-le}
use borrow.Author.Rules.{rules}
use Rattle.saverun.proofs.put_record.Goals as goal

pub slice_bounds-put_call-end : goal.slice_bounds-put_call-end
slice_bounds-put_call-end c = sym (length-take-le _ _ (search rules))
