-- Each answer's letter and fields are those of the writer that is called. Assumes nothing.
use Rattle.harness.specs.Texts.{lettered, after_lettered}
use Rattle.desk.specs.Lines.{fields, after_fields, lined, after_lined, exact_letter, exact_texts}
use Rattle.desk.proofs.line.put_exact.Goals as goal

pub returns-in-Quotes : goal.returns-in-Quotes
unfolding exact_letter exact_texts
returns-in-Quotes c = rw c.in-Quotes.is (record { out_after = c.put_counted.ensures.out_after; value = c.put_counted.ensures.value })

pub returns-in-OverStepCap : goal.returns-in-OverStepCap
unfolding exact_letter exact_texts
returns-in-OverStepCap c = rw c.in-OverStepCap.is (record { out_after = c.put_cap.ensures.out_after; value = c.put_cap.ensures.value })

pub returns-in-Refused : goal.returns-in-Refused
unfolding exact_letter exact_texts lined after_lined fields after_fields lettered after_lettered
returns-in-Refused c = rw c.in-Refused.is (record { out_after = c.put_refusal.ensures.out_after; value = c.put_refusal.ensures.value })
