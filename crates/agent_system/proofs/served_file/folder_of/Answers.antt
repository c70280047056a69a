-- Up to the last slash.
use Rattle.std.proofs.Common.{◌≡◌, ◌∙◌, ◌+◌, ◌-◌, None, Some, ap, arith, lit<, take}
use Rattle.std.proofs.lemmas.Str.Pattern.{rfind_char}
use Rattle.std.specs.List.{slice_range}
use Rattle.agent_system.specs.Whole.{folder_of}
use Rattle.agent_system.proofs.Whole.{folder_found, folder_whole}
use Rattle.agent_system.proofs.served_file.folder_of.Goals as goal

pub returns-in-None : goal.returns-in-None
returns-in-None c = folder_whole c.args.file.now (rfind_char 47 c.args.file.now None c.in-None.ensures.cases (lit< tt))

pub returns-in-Some : goal.returns-in-Some
returns-in-Some c =
    let last = rfind_char 47 c.args.file.now (Some c.in-Some.end) c.in-Some.ensures.cases (lit< tt) in
    let cut : take (c.in-Some.end + 1) c.args.file.now ≡ folder_of c.args.file.now = folder_found c.args.file.now c.in-Some.end (last.0, (last.1, last.2)) in
    let whole : slice_range c.args.file.now 0 (c.in-Some.end + 1) ≡ take (c.in-Some.end + 1) c.args.file.now = ap (λ k. take k c.args.file.now) {x = (c.in-Some.end + 1) - 0} {y = c.in-Some.end + 1} (omega arith) in
    c.range.ensures.value ∙ (whole ∙ cut)
