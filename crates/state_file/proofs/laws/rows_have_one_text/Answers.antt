-- Rows have one text in each form.
use Rattle.state_file.proofs.OneText.{one_file_text}
use Rattle.state_file.proofs.laws.rows_have_one_text.Goals as goal

pub returns : goal.returns
returns c = one_file_text
