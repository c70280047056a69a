-- There is a fault.
use Rattle.std.proofs.Common.{◌∙◌, ◌==◌, List, ap, length, subst, sym}
use Rattle.std.proofs.lemmas.Bool.{eqb-false}
use Rattle.agent_words.specs.{Noting.AreWhysNotServed, declared.fault.StartFault.StartFault}
use Rattle.agent_words.proofs.Faulty.{says_each}
use Rattle.agent_words.proofs.unserved.why_not_served.Goals as goal

pub returns : goal.returns
returns c =
    let faults = c.in_ok-faults.faults in
    let whys = c.in_ok-words_of.field-0.items in
    says_each c.args.demands c.args.bytes.now faults.items whys c.in_ok-faults.ensures (eqb-false (length faults.items) 0 (sym (ap (λ n. n == 0) faults.ok.0) ∙ sym c.if-is_empty.ensures))
    (subst (λ (fs : List StartFault). AreWhysNotServed c.args.demands c.args.bytes.now fs whys) c.deref.ensures.value c.in_ok-words_of.ensures)
