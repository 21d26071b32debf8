-- Past the centre stands what stands before it. Assumes nothing.
use Rattle.series.proofs.rows.Rows.last_row.Goals as goal

pub returns : goal.returns
returns c = rw (c.past_last-rf.ensures, c.past_last-upper.ensures)
