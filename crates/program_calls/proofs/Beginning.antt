-- Beginning: how an answer begins, after the request. For `open`, `begin` and `follow`.
use Rattle.std.proofs.Common.{◌≡◌, ◌∙◌, ◌≤◌, ◌⊎◌, ℕ, Bool, true, bytes_eq, length, IfOk, IsErr, IsErrAnd, IsTrue, List, ◌++◌, Some, Result, Ok, Err, ap, inl, inr, refl, subst, sym}
use Rattle.std.proofs.KnownBytes.{Consumes-trans}
use Rattle.std.proofs.lemmas.Slice.Eq.{bytes_eq-Decides}
use Rattle.std.specs.Io.KnownBytes.{Appends, Consumes, IsAtEnd}
use Rattle.std.specs.Prelude.{codes}
use Rattle.agent_control.specs.{Replies.reply_in_text, declared.reply.ControlReply.ControlReply}
use Rattle.base_device.specs.{Failures.CountsMore, Failures.one_more, Whole.MakesAtMost, Whole.input_fault, declared.fault.InputFault.InputFault, declared.one_read.MoreFault.MoreFault, declared.fault.SinkFault.SinkFault}
use Rattle.base_device.specs.Seen.{Change, Input, Output, Seen, change}
use Rattle.program_report.specs.Sent.{IsAll}
use Rattle.program_calls.specs.{declared.call.AgentCall.AgentCall, declared.ended.Ended.Ended, declared.fault.CallFault.CallFault, declared.fault.CallFault.TheVariants.Memory, declared.following.Begun.Begun}
use Rattle.program_calls.specs.{declared.following.Followed.Followed, declared.hearing.Heard.Heard}
use Rattle.program_calls.specs.Following.{AnswerOpens, CallBegins, FollowingGoesOn, IsLost, ListensToAll, PassesBy, PassesOn, ReadsFront, ReadsOther, ReadsSaid, TellsHow}
use Rattle.program_calls.specs.Hearing.{IsSentOrGivenUp, fault_of_read, fault_of_write, heard_of}
use Rattle.program_calls.specs.declared.following.Begun.TheVariants.{Lines, Answer}
use Rattle.program_calls.specs.declared.following.Followed.TheVariants as ways

-- ---- what is read

-- what the line holds and the count of its failures are those of another state
reads_front_from : (old mid new : Seen) (in_memory : Bool) (read : Result (List ℕ) MoreFault) → mid.input ≡ old.input → mid.failed_calls ≡ old.failed_calls
    → ReadsFront read (change in_memory mid new) → ReadsFront read (change in_memory old new)
reads_front_from old mid new in_memory read same still r = record {
  whole = subst (λ (i : Input). IfOk read (λ front. Consumes i.remaining new.input.remaining front)) same r.whole;
  short = r.short;
  end = r.end;
  few = subst (λ (i : Input). MakesAtMost 3 i new.input) same r.few;
  count = subst (λ n. CountsMore read n new.failed_calls) still r.count;
}

-- its front could not be read
pub unread_front_opens : (r : Result Begun CallFault) (fault : MoreFault) (line : Change) → IsErr r × IsErrAnd r (λ e. e ≡ fault_of_read (input_fault fault))
    → ReadsFront (Err fault) line → AnswerOpens r line
unread_front_opens (Ok b) fault line is reads = absurd (let no = is.0 in cc)
unread_front_opens (Err e) fault line is reads = (Err e, (inl (fault, (reads, ap Err is.1)), inl refl))

-- the others could not be read
pub unread_opens : (r : Result Begun CallFault) (fault : InputFault) (front : List ℕ) (line : Change) → IsErr r × IsErrAnd r (λ e. e ≡ fault_of_read fault)
    → ReadsOther front (Err fault) line → AnswerOpens r line
unread_opens (Ok b) fault front line is reads = absurd (let no = is.0 in cc)
unread_opens (Err e) fault front line is reads = (Err e, (inr (front, (Err fault, (reads, ap Err is.1))), inl refl))

-- memory was wanting for them
pub wanting_opens : (r : Result Begun CallFault) (front rest : List ℕ) (line : Change) → IsErr r × IsErrAnd r (λ e. e ≡ Memory) → ReadsOther front (Ok rest) line → AnswerOpens r line
wanting_opens (Ok b) front rest line is reads = absurd (let no = is.0 in cc)
wanting_opens (Err e) front rest line is reads = (heard_of (front ++ rest), (inr (front, (Ok rest, (reads, refl))), inr (ap Err is.1)))

-- all bytes are there, and they are no answer
not_answer : (e : CallFault) (front rest : List ℕ) (line : Change) → ReadsOther front (Ok rest) line → (heard_of (front ++ rest) ≡ Err e) ⊎ (e ≡ Memory) → ListensToAll (Err e) line
not_answer e front rest line reads (inl is) = (heard_of (front ++ rest), (inr (front, (Ok rest, (reads, refl))), inl is))
not_answer e front rest line reads (inr is) = (heard_of (front ++ rest), (inr (front, (Ok rest, (reads, refl))), inr (ap Err is)))

same_err : (e f : CallFault) (text : List ℕ) → e ≡ f → (heard_of text ≡ Err f) ⊎ (f ≡ Memory) → (heard_of text ≡ Err e) ⊎ (e ≡ Memory)
same_err e f text is (inl h) = inl (h ∙ ap Err (sym is))
same_err e f text is (inr h) = inr (is ∙ h)

pub not_answer_opens : (r : Result Begun CallFault) (fault : CallFault) (front rest text : List ℕ) (line : Change) → IsErr r × IsErrAnd r (λ e. e ≡ fault) → text ≡ front ++ rest
    → (heard_of text ≡ Err fault) ⊎ (fault ≡ Memory) → ReadsOther front (Ok rest) line → AnswerOpens r line
not_answer_opens (Ok b) fault front rest text line is whole says reads = absurd (let no = is.0 in cc)
not_answer_opens (Err e) fault front rest text line is whole says reads =
    not_answer e front rest line reads (subst (λ t. (heard_of t ≡ Err e) ⊎ (e ≡ Memory)) whole (same_err e fault text is.1 says))

pub answer_opens : (h : Heard) (front rest text : List ℕ) (line : Change) → text ≡ front ++ rest → heard_of text ≡ Ok h.reply → reply_in_text h.text ≡ Some h.reply → ReadsOther front (Ok rest) line
    → AnswerOpens (Ok (Answer h)) line
answer_opens h front rest text line whole says is reads =
    ((heard_of (front ++ rest), (inr (front, (Ok rest, (reads, refl))), inl (subst (λ t. heard_of t ≡ Ok h.reply) whole says))), is)

pub lines_open : (front slice : List ℕ) (is_ok : Bool) (line : Change) → is_ok ≡ true → is_ok ≡ bytes_eq slice (codes "ok\n") → slice ≡ front
    → Consumes line.old.input.remaining line.new.input.remaining front → length front ≤ 3 → (length front ≡ 3) ⊎ IsAtEnd line.new.input.remaining
    → MakesAtMost 3 line.old.input line.new.input → line.new.failed_calls ≡ line.old.failed_calls → AnswerOpens (Ok Lines) line
lines_open front slice is_ok line is says same whole short end few count =
    let ok : front ≡ codes "ok\n" = sym same ∙ (bytes_eq-Decides slice (codes "ok\n")).0 (sym says ∙ is) in
    let read : ReadsFront (Ok front) line = record { whole = whole; short = short; end = end; few = few; count = count } in
    subst (λ f. ReadsFront (Ok f) line) ok read

-- ---- after the request

pub unsent_begins : (r : Result Begun CallFault) (fault : SinkFault) (request : List ℕ) (line : Change) → IsErr r × IsErrAnd r (λ e. e ≡ fault_of_write fault)
    → IsSentOrGivenUp (Err fault) request line → CallBegins request r line
unsent_begins (Ok b) fault request line is sent = absurd (let no = is.0 in cc)
unsent_begins (Err e) fault request line is sent = inl (fault, (ap Err is.1, sent))

module _ (old mid new : Seen) (in_memory : Bool) where
  all_sent : (request : List ℕ) (u : Unit {0}) → IsSentOrGivenUp (Ok u) request (change in_memory old mid) → new.output ≡ mid.output → IsAll request (change in_memory old new)
  all_sent request u sent same =
      (subst (λ (o : Output). Appends old.output.written o.written request) (sym same) sent.0.0, subst (λ (o : Output). IsTrue o.is_flushed) (sym same) sent.0.1)

  says_from : (said : Result ControlReply CallFault) → mid.input ≡ old.input → mid.failed_calls ≡ old.failed_calls → ReadsSaid said (change in_memory mid new) → ReadsSaid said (change in_memory old new)
  says_from said same still (inl h) = inl (h.0, (reads_front_from old mid new in_memory (Err h.0) same still h.1.0, h.1.1))
  says_from said same still (inr h) = inr (
    h.0,
    (
      h.1.0,
      (
        record {
          mid = h.1.1.0.mid;
          first = reads_front_from old mid h.1.1.0.mid in_memory (Ok h.0) same still h.1.1.0.first;
          other = h.1.1.0.other;
          others = h.1.1.0.others;
        },
        h.1.1.1,
      ),
    ),
  )

  listens_from : (heard : Result ControlReply CallFault) → mid.input ≡ old.input → mid.failed_calls ≡ old.failed_calls → ListensToAll heard (change in_memory mid new)
      → ListensToAll heard (change in_memory old new)
  listens_from heard same still h = (h.0, (says_from h.0 same still h.1.0, h.1.1))

  pub begins_after : (r : Result Begun CallFault) (request : List ℕ) (u : Unit {0}) → IsSentOrGivenUp (Ok u) request (change in_memory old mid) → AnswerOpens r (change in_memory mid new) → new.output ≡ mid.output
      → CallBegins request r (change in_memory old new)
  begins_after (Ok Lines) request u sent opens same = (all_sent request u sent same, reads_front_from old mid new in_memory (Ok (codes "ok\n")) sent.1 sent.2 opens)
  begins_after (Ok (Answer h)) request u sent opens same = (inr (all_sent request u sent same, listens_from (Ok h.reply) sent.1 sent.2 opens.0), opens.1)
  begins_after (Err e) request u sent opens same = inr (all_sent request u sent same, listens_from (Err e) sent.1 sent.2 opens)

  -- ---- and then it goes on

  lost_from : (came : List ℕ) → mid.failed_calls ≡ old.failed_calls → IsLost came (change in_memory mid new) → IsLost came (change in_memory old new)
  lost_from came still (inl failed) = inl (failed ∙ ap one_more still)
  lost_from came still (inr many) = inr (many.0 ∙ still, many.1)

  passes_from : (followed : Followed) (came : List ℕ) (out : Change) → mid.failed_calls ≡ old.failed_calls → PassesBy followed came (change in_memory mid new) out
      → PassesBy followed came (change in_memory old new) out
  passes_from ways.Ended came out still h = (h.0 ∙ still, h.1, h.2)
  passes_from ways.Lost came out still h = (lost_from came still h.0, h.1)
  passes_from (ways.Stopped stop) came out still h = (h.0 ∙ still, h.1)

  pub goes_on : (call : AgentCall) (request : List ℕ) (ended : Ended) (followed : Followed) (out errors : Change) → CallBegins request (Ok Lines) (change in_memory old mid)
      → PassesOn followed (change in_memory mid new) out → TellsHow call followed ended errors → FollowingGoesOn call request ended (change in_memory old new) out errors
  goes_on call request ended followed out errors begins passes told = record {
    followed = followed;
    came = passes.0;
    sent = (subst (λ (o : Output). Appends old.output.written o.written request) (sym passes.1.0.1) begins.0.0, subst (λ (o : Output). IsTrue o.is_flushed) (sym passes.1.0.1) begins.0.1);
    read = Consumes-trans _ _ _ (codes "ok\n") passes.0 begins.1.whole passes.1.0.0;
    passes = passes_from followed passes.0 out begins.1.count passes.1.1;
    told = told;
  }
