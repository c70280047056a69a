use Rattle.std.proofs.Common.{◌≡◌, ◌-◌, ◌<◌, length, ◌∙◌, ap, arith, List, ℕ}
use Rattle.base_journal.specs.{Records.at_rest, declared.journal.TheConstants.MOST_BYTES}
use Rattle.base_journal.proofs.Writing.{made_anew}
use Rattle.base_journal.proofs.journal.write_anew.Goals as goal

pub returns-clause-written : goal.returns-clause-written
returns-clause-written g c known =
    let s = g.D.Disk.state in
    let text = c.deref.result.now in
    let long : length text ≡ length c.in_ok-text.text.items = ap (λ (l : List ℕ). length l) c.deref.ensures.value in
    made_anew c.args.path.now c.args.lines.now c.requires.lines (s c.args.disk.now) (s c.replace.new.disk) 384 text (c.deref.ensures.value ∙ c.in_ok-text.ensures)
    (c.len-2.result - 1) (omega (arith, long, c.len-2.ensures)) (c.in_ok-replace.ensures.replaced known).0 (c.in_ok-replace.ensures.replaced known).1

pub returns-then-len-gt-MOST_BYTES-clause-long : goal.returns-then-len-gt-MOST_BYTES-clause-long
returns-then-len-gt-MOST_BYTES-clause-long g c =
    let n = length (at_rest c.args.lines.now) in
    let same : length c.in_ok-text.text.items ≡ n = ap (λ (l : List ℕ). length l) c.in_ok-text.ensures in
    let more : MOST_BYTES < n = omega (arith, same, c.len.ensures, c.if-len-gt-MOST_BYTES.true) in
    more
