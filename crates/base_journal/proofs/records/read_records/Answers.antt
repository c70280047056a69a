use Rattle.std.proofs.Common.{◌≡◌, ℕ, List, [], ◌∷◌, ◌++◌, sym, ◌∙◌, ap, subst, rules}
use Rattle.base_journal.specs.Records.{IsRecordLine, AreLines, block, blocks}
use Rattle.base_journal.proofs.Readings.{blocks_push, lines_push}
use Rattle.base_journal.proofs.records.read_records.Goals as goal

pub loop-line-preserved : goal.loop-line-preserved
loop-line-preserved c =
    let lines = c.loop-line.lines.items in
    let line = c.in-Some.line.now in
    let after = c.in-Some.after.now in
    let first : IsRecordLine line × (c.loop-line.rest.now ≡ block line ++ after) = search rules in
    let items : c.push.new.self.items ≡ lines ++ line ∷ [] = cc (c.in_ok-push.ensures.items, c.in_ok-of.ensures) in
    record {
      read = ap (λ (l : List (List ℕ)). blocks l ++ after) items ∙ blocks_push lines line after ∙ ap (λ (l : List ℕ). blocks lines ++ l) (sym first.1) ∙ c.loop-line.invariant.read;
      are_lines = subst AreLines (sym items) (lines_push lines line c.loop-line.invariant.are_lines first.0);
    }
