use Rattle.std.proofs.Common.{◌≡◌, ◌<◌, ◌+◌, ℕ, List, [], ◌∷◌, ◌++◌, length, get_or, drop, false, sym, ◌∙◌, ap, append_assoc, arith}
use Rattle.base_journal.specs.Records.{lines_kept, is_out}
use Rattle.base_journal.proofs.Readings.{same_item, kept_in}
use Rattle.base_journal.proofs.records.without.Goals as goal

pub loop-at-preserved : goal.loop-at-preserved
loop-at-preserved c =
    let lines = c.args.lines.now in
    let outs = c.args.outs.now in
    let at = c.loop-at.at in
    let left = c.loop-at.left.items in
    let line = get_or lines at [] in
    let rest = lines_kept (drop (at + 1) lines) (drop (at + 1) outs) in
    let below : at < length lines = omega arith in
    let stays : is_out outs at ≡ false = sym c.is_out.ensures ∙ c.if-is_out.false in
    let is : c.in_ok-of.field-0 ≡ line = cc (c.in_ok-of.ensures, c.list.ensures, c.index-lines-at.is, same_item lines at c.index-lines-at.result [] below) in
    let items : c.push.new.self.items ≡ left ++ line ∷ [] = cc (c.in_ok-push.ensures.items, is) in
    ap (λ (l : List (List ℕ)). l ++ rest) items ∙ append_assoc left (line ∷ []) rest ∙ ap (λ (l : List (List ℕ)). left ++ l) (sym (kept_in lines outs at below stays)) ∙ c.loop-at.invariant
