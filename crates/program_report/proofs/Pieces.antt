-- Pieces: a text that was written piece by piece, for the fault line.
use Rattle.std.proofs.Common.{◌≡◌, ◌∙◌, ℕ, ◌+◌, ◌≤◌, ◌<◌, List, ◌++◌, Option, Bool, Result, Ok, Err, ◌⊎◌, ⊎_elim, ap, arith, length, take, subst, sym}
use Rattle.std.proofs.{KnownBytes.Appends-trans, Math.Seq.take-append-add, Math.Seq.take-append_seam}
use Rattle.std.proofs.lemmas.{Bool.cases_lt, List.take_all, List.take-append-le}
use Rattle.std.specs.{Io.KnownBytes.Appends, Result.IsErr, Result.IsErrAnd}
use Rattle.base_device.specs.{Failures.one_more, Front.AppendsFront, declared.fault.SinkFault.SinkFault}
use Rattle.base_device.specs.Seen.{Change, Seen, change}
use Rattle.base_device.specs.declared.fault.SinkFault.TheVariants as sink
use Rattle.program_report.specs.Sent.{Puts}

-- a front of the first of two pieces is one of both
pub front_cut : (old new : Option (List ℕ)) (a b : List ℕ) → AppendsFront old new a → AppendsFront old new (a ++ b)
front_cut old new a b (n, h) =
    ⊎_elim
    (λ (y : length a < n). (length a, subst (Appends old new) (take_all n a (omega (arith, y)) ∙ sym (take-append_seam a b)) h))
    (λ (y : n ≤ length a). (n, subst (Appends old new) (sym (take-append-le n a b y)) h))
    (cases_lt (length a) n)

-- the first piece, and then a front of the second, is a front of both
pub front_more : (old mid new : Option (List ℕ)) (a b : List ℕ) → Appends old mid a → AppendsFront mid new b → AppendsFront old new (a ++ b)
front_more old mid new a b first (n, h) =
    (length a + n, subst (Appends old new) (sym (take-append-add a b n)) (Appends-trans old mid new a (take n b) first h))

-- what `?` hands on is the fault
pub handed_on : (r : Result (Unit {0}) SinkFault) (fault : SinkFault) → IsErr r × IsErrAnd r (λ (e : SinkFault). e ≡ fault) → r ≡ Err fault
handed_on (Ok u) fault is = absurd is.1
handed_on (Err e) fault is = ap Err is.1

-- what went wrong in the first of two pieces is what went wrong in both
pub piece_cut : (r : Result (Unit {0}) SinkFault) (fault : SinkFault) (a b : List ℕ) (out : Change) → r ≡ Err fault → Puts (Err fault) a out → Puts r (a ++ b) out
piece_cut r sink.Failed a b out is (front, count) = subst (λ q. Puts q (a ++ b) out) (sym is) (front_cut _ _ a b front, count)
piece_cut r sink.OutOfMemory a b out is (front, count, memory) = subst (λ q. Puts q (a ++ b) out) (sym is) (front_cut _ _ a b front, count, memory)

-- the first piece went out, and then the second, or a front of it
pub piece_more : (r : Result (Unit {0}) SinkFault) (u : Unit {0}) (a b : List ℕ) (old mid new : Seen) (in_memory : Bool) →
    Puts (Ok u) a (change in_memory old mid) → Puts r b (change in_memory mid new) → Puts r (a ++ b) (change in_memory old new)
piece_more (Ok v) u a b old mid new in_memory (first, still) (second, count) = (Appends-trans _ _ _ a b first second, count ∙ still)
piece_more (Err sink.Failed) u a b old mid new in_memory (first, still) (second, count) = (front_more _ _ _ a b first second, count ∙ ap one_more still)
piece_more (Err sink.OutOfMemory) u a b old mid new in_memory (first, still) (second, count, memory) = (front_more _ _ _ a b first second, count ∙ still, memory)

-- a piece under another name
pub piece_named : (r : Result (Unit {0}) SinkFault) (a b : List ℕ) (out : Change) → Puts r a out → b ≡ a → Puts r b out
piece_named r a b out h is = subst (λ c. Puts r c out) (sym is) h
