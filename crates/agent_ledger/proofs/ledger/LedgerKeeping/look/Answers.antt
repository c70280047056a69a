-- There is no word yet, or there is one, or memory is wanting for it.
use Rattle.std.proofs.Common.{◌∙◌, Ok, Err, Some, None, ap, refl}
use Rattle.std.specs.Vec.{with_items}
use Rattle.agent_ledger.proofs.Asking.{heard_whole}
use Rattle.agent_ledger.proofs.ledger.LedgerKeeping.look.Goals as goal

pub returns-in-Ok-None : goal.returns-in-Ok-None
returns-in-Ok-None g c =
    let v = c.args.self.now.askers in
    let new = c.hear_first.new.askers in record {
      word = Ok None;
      heard = record c.args.self.now { askers = with_items v new };
      hears = heard_whole v c.deref_mut.result.now new c.deref_mut.ensures.value c.hear_first.ensures.many _ c.args.now.elapsed c.hear_first.result _ (c.in-Ok-None.is ∙ ap Ok c.in-Ok-None.field-0-is) c.hear_first.ensures.heard;
      beside = refl;
      looks = c.look_on.ensures;
      unproved = refl;
    }

pub returns-in-Ok-Some : goal.returns-in-Ok-Some
returns-in-Ok-Some g c =
    let v = c.args.self.now.askers in
    let new = c.hear_first.new.askers in record {
      word = Ok (Some c.in-Ok-Some.word);
      heard = record c.args.self.now { askers = with_items v new };
      hears = heard_whole v c.deref_mut.result.now new c.deref_mut.ensures.value c.hear_first.ensures.many _ c.args.now.elapsed c.hear_first.result _ (c.in-Ok-Some.is ∙ ap Ok c.in-Ok-Some.field-0-is) c.hear_first.ensures.heard;
      beside = refl;
      looks = c.judge_file.ensures;
      unproved = c.unproved_by.ensures;
    }

pub returns-in-Err : goal.returns-in-Err
returns-in-Err g c =
    let v = c.args.self.now.askers in
    let new = c.hear_first.new.askers in record {
      word = Err c.in-Err.field-0;
      heard = record c.args.self.now { askers = with_items v new };
      hears = heard_whole v c.deref_mut.result.now new c.deref_mut.ensures.value c.hear_first.ensures.many _ c.args.now.elapsed c.hear_first.result _ c.in-Err.is c.hear_first.ensures.heard;
      beside = refl;
      looks = (c.wanting.ensures, refl);
      unproved = refl;
    }
