-- Fronts: a text that was not sent whole, for `send`.
use Rattle.std.proofs.Common.{◌≡◌, ◌∙◌, ℕ, List, Option, Result, Ok, Err, IsTrue, ap, arith, length, refl, subst, sym}
use Rattle.std.specs.Prelude.{IsErrOf}
use Rattle.std.specs.{Result.IsErr, Result.IsErrAnd, Io.KnownBytes.Appends, Io.KnownBytes.Keeps}
use Rattle.std.proofs.KnownBytes.{Appends-kept}
use Rattle.std.proofs.lemmas.List.{take_all}
use Rattle.base_device.specs.{Failures.Counts, Failures.one_more, Front.AppendsFront, Seen.Change, declared.fault.SinkFault.SinkFault}
use Rattle.base_device.specs.declared.fault.SinkFault.TheVariants as sink
use Rattle.program_report.specs.{declared.stop.Stop.Stop, Exits.stop_of_sink, Sent.SendsText}
use Rattle.program_report.proofs.Counting.{failed_once}

-- all of it went out, and then the flush failed
pub whole_front : (old mid new : Option (List ℕ)) (text : List ℕ) → Appends old mid text → Keeps mid new → AppendsFront old new text
whole_front old mid new text whole kept = (length text, subst (Appends old new) (sym (take_all (length text) text (omega arith))) (Appends-kept old mid new text whole kept))

pub unsent : (answer : Result (Unit {0}) Stop) (fault : SinkFault) (text : List ℕ) (out : Change) (between : ℕ) → IsErr answer × IsErrAnd answer (λ stop. stop ≡ stop_of_sink fault) →
    AppendsFront out.old.output.written out.new.output.written text → between ≡ out.old.failed_calls → Counts {X = Unit {0}} (Err fault) between out.new.failed_calls →
    (IsErrOf {T = Unit {0}} {E = SinkFault} (Err fault) sink.OutOfMemory → IsTrue out.is_in_memory) → SendsText answer text out
unsent (Ok u) fault text out between is front kept count memory = absurd (let no = is.0 in cc)
unsent (Err stop) sink.Failed text out between is front kept count memory =
    subst (λ (s : Stop). SendsText (Err s) text out) (sym is.1) (failed_once out.old.failed_calls out.new.failed_calls (count ∙ ap one_more kept), front)
unsent (Err stop) sink.OutOfMemory text out between is front kept count memory = subst (λ (s : Stop). SendsText (Err s) text out) (sym is.1) (memory refl, front)
