-- Each entry is written after those before it, and in the end all are.
use Rattle.std.proofs.Common.{◌≡◌, ◌∙◌, ◌<◌, ℕ, IfSome, ap, arith, length, set, subst, sym}
use Rattle.std.proofs.lemmas.{List.length-set, List.FromFn.fill_by_all}
use Rattle.plan_forest.specs.declared.entry.Entry.{Entry}
use Rattle.plan_forest.specs.Forest.{Forest, entry_at, no_entry}
use Rattle.plan_forest.proofs.Entries.{entry_at_set_other}
use Rattle.watch_machine.specs.declared.change.Was.{Was}
use Rattle.watch_machine.specs.Change.{entry_by, forest_after, former, former_at, was_at}
use Rattle.watch_machine.proofs.{Changing.within_some, View.written_more}
use Rattle.watch_machine.proofs.change.keep_all_terms.Goals as goal

pub keep_terms-requires-clause-within : goal.keep_terms-requires-clause-within
keep_terms-requires-clause-within c =
    let was = c.args.was.now in
    let n = length c.args.before.now.entries in
    let i = c.loop-index.index in
    subst (λ (w : Was). IfSome (former w) (λ k. k < n)) (sym c.was_at.ensures) (within_some n (former_at was i) (λ k is. c.requires.within k i is))

pub loop-index-preserved : goal.loop-index-preserved
loop-index-preserved c =
    let g = c.args.forest.now in
    let now = c.loop-index.forest in
    let was = c.args.was.now in
    let bs = c.args.before.now.entries in
    let i = c.loop-index.index in
    let so = c.loop-index.invariant in
    let count = so.count in
    let here : i < length now.entries = omega (arith, c.len-index-end.ensures.value, count) in
    let f : ℕ → Entry = λ j. entry_by g.margin bs (entry_at g.entries j) (was_at was j) in
    let new = c.keep_terms.new.forest in
    let is : new.entries ≡ set now.entries i (f i) =
    ap (λ (h : Forest). h.entries) c.keep_terms.ensures
    ∙ ap (λ e. set now.entries i e)
    (ap (λ m. entry_by m bs (entry_at now.entries i) c.was_at.result) so.margin ∙ ap (λ e. entry_by g.margin bs e c.was_at.result) (so.rest i (omega arith))
    ∙ ap (entry_by g.margin bs (entry_at g.entries i)) c.was_at.ensures) in
    record {
      count = ap length is ∙ length-set now.entries i (f i) ∙ count;
      margin = ap (λ (h : Forest). h.margin) c.keep_terms.ensures ∙ so.margin;
      written = written_more f now.entries new.entries i here is so.written;
      rest = λ k past. ap (λ es. entry_at es k) is ∙ entry_at_set_other now.entries i k (f i) (λ e. absurd (omega (arith, e, past))) ∙ so.rest k (omega (arith, past));
    }

pub returns : goal.returns
unfolding entry_at forest_after
returns c =
    let g = c.args.forest.now in
    let now = c.loop-index.forest in
    let was = c.args.was.now in
    let bs = c.args.before.now.entries in
    let n = length g.entries in
    let so = c.loop-index.invariant in
    let f : ℕ → Entry = λ j. entry_by g.margin bs (entry_at g.entries j) (was_at was j) in
    ap (λ m. record now { margin = m }) so.margin
    ∙ ap (λ es. record g { entries = es }) (fill_by_all f now.entries n no_entry so.count (λ k low. so.written k (omega (arith, low, c.len-index-end.ensures.value))))
