-- A word that is written is the first of those to come.
use Rattle.std.proofs.Common.{◌≡◌, ◌++◌, ◌+◌, ◌∷◌, [], arith, drop, refl, sym, ◌∙◌, subst}
use Rattle.std.proofs.lemmas.{Grind.common_steps, List.append-nil, List.drop_more}
use Rattle.base_log.specs.Forms.{SayWords}
use Rattle.base_log.proofs.Pieces.{said_then}
use Rattle.base_log.proofs.text_form.push_words.Goals as goal

pub loop-word-preserved : goal.loop-word-preserved
loop-word-preserved c rest a =
    let w = c.in_ok-push_word.ensures in
    let ws = c.args.words.now in
    let at = c.loop-word.word-index in
    let d = drop_more ws at c.word-item.result c.loop-word-test.true in
    let e : drop at ws ≡ c.word-item.result ∷ drop (at + 1) ws = grind (arith, common_steps) in
    let i = c.loop-word.invariant (32 ∷ (w.0 ++ rest)) (subst (λ l. SayWords l (32 ∷ (w.0 ++ rest))) (sym e) (w.0, rest, w.1, a, refl)) in
    (i.0, i.1, said_then _ _ c.loop-word.text.items c.args.text.now.items i.0 w.0 rest w.2 c.in_ok-push.ensures.items i.2)

pub returns : goal.returns
returns c =
    let e : drop c.loop-word.word-index c.args.words.now ≡ [] = grind (arith, common_steps) in
    let i = c.loop-word.invariant [] (subst (λ l. SayWords l []) (sym e) refl) in
    (i.0, i.1, sym (append-nil _) ∙ i.2)
