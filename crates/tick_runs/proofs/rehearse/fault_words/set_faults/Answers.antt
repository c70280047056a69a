-- A word that writes a new fault adds it to the table, and the first that does not is named by its place.
use Rattle.std.proofs.Common.{◌≡◌, ◌∙◌, ◌+◌, ◌∷◌, ◌++◌, [], None, Some, Err, ap, arith, drop, refl, sym, subst}
use Rattle.std.proofs.Math.ListN.{drop_of_length-le}
use Rattle.std.proofs.lemmas.List.{drop_more}
use Rattle.broker_rule.specs.{Faults.fault_refusal, Table.BrokerTable}
use Rattle.tick_runs.specs.FaultWords.{SetsFaults, fault_word, faults_from}
use Rattle.program_report.specs.declared.stop.Stop.{Stop}
use Rattle.tick_runs.proofs.FaultWord.{free, no_more, set_stopped, word_bad, word_refused, word_taken}
use Rattle.tick_runs.proofs.rehearse.fault_words.set_faults.Goals as goal

pub loop-word-init : goal.loop-word-init
loop-word-init c = record {
  place = refl;
  rest = ap (λ fs. faults_from fs 1 c.args.words.now) (sym c.requires.fresh);
  table = refl;
}

pub returns-in_default : goal.returns-in_default
returns-in_default c =
    let before = c.loop-word.table.faults in
    let words = c.args.words.now in
    let w = c.word-item.result in
    let left = drop_more words c.loop-word.word-index w c.loop-word-test.true ∙ ap (λ v. v ∷ drop (c.loop-word.word-index + 1) words) (sym c.word-item.is) in
    let bad : fault_word w ≡ None = ap fault_word (sym c.list.ensures) ∙ sym c.fault_of.ensures ∙ c.in_default.is in
    c.loop-word.invariant.rest ∙ ap (faults_from before (c.loop-word.place + 1)) left ∙ word_bad before (c.loop-word.place + 1) w (drop (c.loop-word.word-index + 1) words) bad

pub returns-in-Err : goal.returns-in-Err
returns-in-Err c =
    let before = c.loop-word.table.faults in
    let words = c.args.words.now in
    let w = c.word-item.result in
    let left = drop_more words c.loop-word.word-index w c.loop-word-test.true ∙ ap (λ v. v ∷ drop (c.loop-word.word-index + 1) words) (sym c.word-item.is) in
    let says : fault_word w ≡ Some c.in-Some.fault = ap fault_word (sym c.list.ensures) ∙ sym c.fault_of.ensures ∙ c.in-Some.is in
    let none = ap (λ (t : BrokerTable). t.count) c.loop-word.invariant.table ∙ c.requires.uncounted in
    subst (λ (q : Stop). SetsFaults words c.args.table.now (Err q) c.set_fault.new.self) (sym c.stop_at.ensures)
    (set_stopped c.in-Err.why (c.loop-word.place + 1) words c.args.table.now c.set_fault.new.self (fault_refusal before c.loop-word.table.count c.in-Some.fault.number) c.set_fault.result c.in-Err.is c.set_fault.ensures.memory
    (λ fault is. c.loop-word.invariant.rest ∙ ap (faults_from before (c.loop-word.place + 1)) left
    ∙ word_refused before (c.loop-word.place + 1) w (drop (c.loop-word.word-index + 1) words) c.in-Some.fault fault says (ap (λ n. fault_refusal before n c.in-Some.fault.number) (sym none) ∙ is)))

pub loop-word-preserved : goal.loop-word-preserved
loop-word-preserved c =
    let before = c.loop-word.table.faults in
    let words = c.args.words.now in
    let w = c.word-item.result in
    let f = c.in-Some.fault in
    let rest = drop (c.loop-word.word-index + 1) words in
    let left = drop_more words c.loop-word.word-index w c.loop-word-test.true ∙ ap (λ v. v ∷ rest) (sym c.word-item.is) in
    let says : fault_word w ≡ Some f = ap fault_word (sym c.list.ensures) ∙ sym c.fault_of.ensures ∙ c.in-Some.is in
    let none = ap (λ (t : BrokerTable). t.count) c.loop-word.invariant.table ∙ c.requires.uncounted in
    let why = free (fault_refusal before c.loop-word.table.count f.number) c.set_fault.result c.in-Ok.field-0 c.in-Ok.is c.set_fault.ensures.refused in
    let taken = c.in-Ok.ensures.taken in
    let now = ap (λ (t : BrokerTable). t.faults) taken in
    record {
      place = ap (λ n. n + 1) c.loop-word.invariant.place;
      rest = c.loop-word.invariant.rest ∙ ap (faults_from before (c.loop-word.place + 1)) left
          ∙ word_taken before (c.loop-word.place + 1) w rest f says (ap (λ n. fault_refusal before n f.number) (sym none) ∙ why)
          ∙ ap (λ fs. faults_from fs (c.loop-word.place + 1 + 1) rest) (sym now);
      table = taken ∙ ap (λ (t : BrokerTable). record t { faults = before ++ f ∷ [] }) c.loop-word.invariant.table ∙ ap (λ fs. record c.args.table.now { faults = fs }) (sym now);
    }

pub returns : goal.returns
returns c =
    let before = c.loop-word.table.faults in
    let words = c.args.words.now in
    let past = drop_of_length-le words {i = c.loop-word.word-index} (let h = c.loop-word-test.false in omega arith) in (
      before,
      c.loop-word.invariant.rest ∙ ap (faults_from before (c.loop-word.place + 1)) past ∙ no_more before (c.loop-word.place + 1),
      c.loop-word.invariant.table,
    )
