-- Heard: a request that was sent, or not whole, and the answer that was read after it.
use Rattle.std.proofs.Common.{◌≡◌, ◌∙◌, ◌⊎◌, ap, ℕ, Bool, IsTrue, IfSome, IsErr, IsErrAnd, List, MatchResult, OnOk, Result, Ok, Err, refl, sym, subst, inl, inr}
use Rattle.std.specs.Prelude.{IsErrOf}
use Rattle.std.specs.Io.KnownBytes.{Appends, Keeps}
use Rattle.base_device.specs.{Failures.Counts, Failures.CountsInput, Whole.IsReadToEnd, Whole.MakesAtMost, declared.fault.InputFault.InputFault, declared.fault.SinkFault.SinkFault, declared.limits.TheConstants.MOST_READS}
use Rattle.base_device.specs.Seen.{Change, Output, ReceivesFront, Seen, change}
use Rattle.base_device.specs.declared.fault.SinkFault.TheVariants as sink
use Rattle.agent_control.specs.declared.reply.ControlReply.{ControlReply}
use Rattle.std.proofs.KnownBytes.{Appends-kept}
use Rattle.program_report.proofs.{Counting.failed_once, Counting.later_once, Fronts.whole_front}
use Rattle.program_report.specs.Sent.{IsAll}
use Rattle.program_calls.specs.{Requesting.ReadsDevice, declared.fault.CallFault.CallFault, declared.fault.CallFault.TheVariants.Memory, declared.hearing.Heard.Heard, declared.limits.TheConstants.ANSWER_MAX}
use Rattle.program_calls.specs.Hearing.{HearsReply, IsSentOrGivenUp, ListensToEnd, fault_of_read, fault_of_write, heard_of}

-- the connection gave up
pub gave_up : (r : Result (Unit {0}) SinkFault) (fault : SinkFault) (request : List ℕ) (line : Change) → r ≡ Err fault → ReceivesFront request line
    → line.new.input ≡ line.old.input → Counts {X = Unit {0}} (Err fault) line.old.failed_calls line.new.failed_calls
    → (IsErrOf {T = Unit {0}} {E = SinkFault} (Err fault) sink.OutOfMemory → IsTrue line.is_in_memory) → IsSentOrGivenUp r request line
gave_up r sink.Failed request line is front same count memory =
    subst (λ (q : Result (Unit {0}) SinkFault). IsSentOrGivenUp q request line) (sym is) (front, same, failed_once line.old.failed_calls line.new.failed_calls count)
gave_up r sink.OutOfMemory request line is front same count memory =
    subst (λ (q : Result (Unit {0}) SinkFault). IsSentOrGivenUp q request line) (sym is) (front, same, memory refl)

module _ (old mid new : Seen) (in_memory : Bool) (request : List ℕ) where
  -- all was written, and then the connection was flushed
  pub flushed : (q : Result (Unit {0}) SinkFault) → Appends old.output.written mid.output.written request → mid.input ≡ old.input → mid.failed_calls ≡ old.failed_calls
      → Keeps mid.output.written new.output.written → OnOk q (IsTrue new.output.is_flushed) → (IsErrOf q sink.OutOfMemory → IsTrue in_memory)
      → new.input ≡ mid.input → Counts q mid.failed_calls new.failed_calls → IsSentOrGivenUp q request (change in_memory old new)
  flushed (Ok u) whole same still kept is memory stays count = ((Appends-kept _ _ _ _ whole kept, is), stays ∙ same, count ∙ still)
  flushed (Err sink.Failed) whole same still kept is memory stays count = (whole_front _ _ _ request whole kept, stays ∙ same, later_once _ _ _ still count)
  flushed (Err sink.OutOfMemory) whole same still kept is memory stays count = (whole_front _ _ _ request whole kept, stays ∙ same, memory refl)

-- what was not sent whole was not answered
pub unsent : (heard : Result ControlReply CallFault) (fault : SinkFault) (request : List ℕ) (line : Change) → heard ≡ Err (fault_of_write fault) → IsSentOrGivenUp (Err fault) request line → HearsReply request heard line
unsent heard fault request line is sent = inl (fault, (is, sent))

module _ (old mid new : Seen) (in_memory : Bool) where
  reads_from : (max : ℕ) (read : Result (List ℕ) InputFault) → mid.input ≡ old.input → mid.failed_calls ≡ old.failed_calls
      → ReadsDevice max read (change in_memory mid new) → ReadsDevice max read (change in_memory old new)
  reads_from max read same still r = record {
    whole = subst (λ i. IfSome i.remaining (λ bytes. IsReadToEnd max bytes i.reads_left new.input.reads_left read)) same r.whole;
    short = r.short;
    end = r.end;
    few = subst (λ i. MakesAtMost MOST_READS i new.input) same r.few;
    count = subst (λ n. CountsInput read n new.failed_calls) still r.count;
  }

  -- what was sent whole was answered by what was read after it
  pub heard_after : (heard : Result ControlReply CallFault) (request : List ℕ) (u : Unit {0}) → IsSentOrGivenUp (Ok u) request (change in_memory old mid)
      → ListensToEnd heard (change in_memory mid new) → new.output ≡ mid.output → HearsReply request heard (change in_memory old new)
  heard_after heard request u sent listens same =
      let all : IsAll request (change in_memory old new) =
      (subst (λ (o : Output). Appends old.output.written o.written request) (sym same) sent.0.0, subst (λ (o : Output). IsTrue o.is_flushed) (sym same) sent.0.1) in
      inr (all, (listens.0, (reads_from ANSWER_MAX listens.0 sent.1 sent.2 listens.1.0, listens.1.1)))

-- what is heard, by the result of a function that hears
abbrev pub Answers : Result Heard CallFault → (Result ControlReply CallFault → Type 0) → Type 0
Answers r P = MatchResult r (λ h. P (Ok h.reply)) (λ fault. P (Err fault))

pub unsent_answers : (r : Result Heard CallFault) (fault : SinkFault) (request : List ℕ) (line : Change) → IsErr r × IsErrAnd r (λ e. e ≡ fault_of_write fault)
    → IsSentOrGivenUp (Err fault) request line → Answers r (λ heard. HearsReply request heard line)
unsent_answers (Ok h) fault request line is sent = absurd (let no = is.0 in cc)
unsent_answers (Err e) fault request line is sent = unsent (Err e) fault request line (ap Err is.1) sent

pub answers_after : (r : Result Heard CallFault) (old mid new : Seen) (in_memory : Bool) (request : List ℕ) (u : Unit {0}) → IsSentOrGivenUp (Ok u) request (change in_memory old mid)
    → Answers r (λ heard. ListensToEnd heard (change in_memory mid new)) → new.output ≡ mid.output → Answers r (λ heard. HearsReply request heard (change in_memory old new))
answers_after (Ok h) old mid new in_memory request u sent listens same = heard_after old mid new in_memory (Ok h.reply) request u sent listens same
answers_after (Err e) old mid new in_memory request u sent listens same = heard_after old mid new in_memory (Err e) request u sent listens same

pub unread_answers : (r : Result Heard CallFault) (fault : InputFault) (line : Change) → IsErr r × IsErrAnd r (λ e. e ≡ fault_of_read fault)
    → ReadsDevice ANSWER_MAX (Err fault) line → Answers r (λ heard. ListensToEnd heard line)
unread_answers (Ok h) fault line is reads = absurd (let no = is.0 in cc)
unread_answers (Err e) fault line is reads = (Err fault, (reads, inl (ap Err (sym is.1))))

read_or_memory : (e : CallFault) (text : List ℕ) (line : Change) → ReadsDevice ANSWER_MAX (Ok text) line → (heard_of text ≡ Err e) ⊎ (e ≡ Memory) → ListensToEnd (Err e) line
read_or_memory e text line reads (inl is) = (Ok text, (reads, inl is))
read_or_memory e text line reads (inr is) = (Ok text, (reads, inr (ap Err is)))

pub read_answers : (r : Result Heard CallFault) (text : List ℕ) (line : Change) → ReadsDevice ANSWER_MAX (Ok text) line
    → MatchResult r (λ h. heard_of text ≡ Ok h.reply) (λ e. (heard_of text ≡ Err e) ⊎ (e ≡ Memory)) → Answers r (λ heard. ListensToEnd heard line)
read_answers (Ok h) text line reads is = (Ok text, (reads, inl is))
read_answers (Err e) text line reads is = read_or_memory e text line reads is
