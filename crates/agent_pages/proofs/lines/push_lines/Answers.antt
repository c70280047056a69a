-- A line that is written is the first of those to come.
use Rattle.std.proofs.Common.{◌≡◌, ◌++◌, ◌+◌, ◌∷◌, [], ℕ, List, arith, drop, refl, sym, ◌∙◌, subst}
use Rattle.std.proofs.lemmas.{Grind.common_steps, List.append-nil, List.drop_more}
use Rattle.agent_pages.specs.Lines.{AreEntryLines}
use Rattle.agent_pages.proofs.lines.push_lines.Goals as goal

-- what is written of an entry stands before what is written of the others
said_then : (new old start all line rest : List ℕ) → new ≡ old ++ line → old ++ (line ++ rest) ≡ start ++ all → new ++ rest ≡ start ++ all
said_then new old start all line rest e q = grind (arith, common_steps)

pub loop-row-preserved : goal.loop-row-preserved
loop-row-preserved c rest a =
    let w = c.in_ok-push_line.ensures in
    let rows = c.args.rows.now in
    let at = c.loop-row.row-index in
    let d = drop_more rows at c.row-item.result c.loop-row-test.true in
    let e : drop at rows ≡ c.row-item.result ∷ drop (at + 1) rows = grind (arith, common_steps) in
    let i = c.loop-row.invariant (w.0 ++ rest) (subst (λ l. AreEntryLines c.args.lines l (w.0 ++ rest)) (sym e) (w.0, rest, w.1, a, refl)) in
    (i.0, i.1, said_then _ c.loop-row.text.items c.args.text.now.items i.0 w.0 rest w.2 i.2)

pub returns : goal.returns
returns c =
    let e : drop c.loop-row.row-index c.args.rows.now ≡ [] = grind (arith, common_steps) in
    let i = c.loop-row.invariant [] (subst (λ l. AreEntryLines c.args.lines l []) (sym e) refl) in
    (i.0, i.1, sym (append-nil _) ∙ i.2)
