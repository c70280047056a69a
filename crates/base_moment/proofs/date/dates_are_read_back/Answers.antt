-- A text that writes a moment is read as that moment, and a moment has one text.
use Rattle.base_moment.proofs.Moments.{date_text_reads, one_date_text}
use Rattle.base_moment.proofs.date.dates_are_read_back.Goals as goal

pub returns-clause-read_back : goal.returns-clause-read_back
returns-clause-read_back c = date_text_reads

pub returns-clause-one_text : goal.returns-clause-one_text
returns-clause-one_text c = one_date_text
