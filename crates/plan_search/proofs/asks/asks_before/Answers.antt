-- One entry more is asked exactly where it is wanted, and the entries that are wanted are the Asks.
use Rattle.std.proofs.Common.{◌≡◌, ◌∙◌, ◌++◌, ◌∷◌, [], true, false, ap, arith, filter, sym}
use Rattle.std.proofs.lemmas.{Bool.cond-true, Bool.cond-false, List.append-nil}
use Rattle.std.specs.List.{range_with_len}
use Rattle.plan_forest.specs.Forest.{end_of}
use Rattle.plan_rule.specs.Asks.{is_to_be_asked}
use Rattle.plan_search.specs.code.Wanted.{waits_until}
use Rattle.plan_search.proofs.Wanted.{asked_more, asks_of, test_is}
use Rattle.plan_search.proofs.asks.asks_before.Goals as goal
use Rattle.plan_search.proofs.asks.asks_before.Goals.{else-is_wanted, then-is_wanted+in_ok-push}

pub loop-index-preserved : goal.loop-index-preserved
loop-index-preserved c = λ s is.
    let g = c.args.forest.now in
    let es = g.entries in
    let i = c.loop-index.index in
    let p = is_to_be_asked es g.margin s (end_of es) c.args.at c.args.next in
    let so_far = c.loop-index.invariant s is in
    let waits : c.waits_until-until.result ≡ waits_until g.margin c.args.next = c.waits_until-until.ensures ∙ ap (λ m. waits_until m c.args.next) c.margin.ensures in
    let wanted : c.is_wanted.result ≡ p i = c.is_wanted.ensures ∙ test_is g c.len-index-end.ensures.sound.margin_above s c.args.at c.args.next c.waits_until-until.result c.args.carried.now i (omega (arith, c.len-index-end.ensures.value)) is waits in
    elim c.if-is_wanted.branch [
      | then-is_wanted+in_ok-push w ↦
          let yes : p i ≡ true = sym wanted ∙ w.if-is_wanted.true in
          ap (λ v. v.items) w.asked-is ∙ w.in_ok-push.ensures.items ∙ ap (λ xs. xs ++ i ∷ []) so_far
          ∙ ap (λ xs. filter p (range_with_len 0 i) ++ xs) (sym (cond-true (p i) (i ∷ []) [] yes)) ∙ sym (asked_more p i)
      | else-is_wanted w ↦
          let no : p i ≡ false = sym wanted ∙ w.if-is_wanted.false in
          ap (λ v. v.items) w.asked-is ∙ so_far ∙ sym (append-nil (filter p (range_with_len 0 i)))
          ∙ ap (λ xs. filter p (range_with_len 0 i) ++ xs) (sym (cond-false (p i) (i ∷ []) [] no)) ∙ sym (asked_more p i)
    ]

pub returns : goal.returns
returns c = λ s is.
    let g = c.args.forest.now in
    c.from_vec.ensures ∙ c.loop-index.invariant s is ∙ asks_of g.entries g.margin s c.args.at c.args.next c.loop-index.index (omega (arith, c.len-index-end.ensures.value))
