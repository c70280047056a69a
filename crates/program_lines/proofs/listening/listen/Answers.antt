-- What each read brings goes on from what was heard before it.
use Rattle.std.proofs.Common.{◌≡◌, ◌+◌, ◌<◌, ◌≤◌, ◌∷◌, ◌++◌, [], Result, OnOk, ap, arith, drop, length, refl, subst, sym, take, ◌∙◌, inr}
use Rattle.std.proofs.lemmas.List.{take_at}
use Rattle.std.specs.Result.{IfErr}
use Rattle.base_device.specs.Seen.{Change, change}
use Rattle.program_report.specs.declared.stop.Stop.{Stop}
use Rattle.program_report.specs.declared.stop.Stop.TheVariants as stops
use Rattle.program_lines.specs.Listening.{Listens}
use Rattle.program_lines.specs.Hearing.{EndsBetweenLines, counted_line, joined_changes}
use Rattle.program_lines.specs.code.LineByLine.{HaltsWithin, HearsUpTo, IsListening, left_after, part_left_to_hear}
use Rattle.program_lines.proofs.LineByLine.{handed_on}
use Rattle.program_lines.proofs.LinesRead.{ended_as, halted, listening_first, listening_more, no_memory, no_more, not_begun, read_failed, too_many}
use Rattle.program_lines.proofs.listening.listen.Goals as goal

pub returns-in_err-room-clause-listens : goal.returns-in_err-room-clause-listens
returns-in_err-room-clause-listens g c =
    let t = g.H.Hearer in
    let first = t.key c.args.hearer.now c.args.neighbours.now in
    let m = t.hearing first in
    let limits = c.args.limits in
    let old = t.state c.args.hearer.now c.args.neighbours.now in
    let fed : Change = change g.R.Device.is_in_memory (g.R.Device.seen c.args.lines.now) (g.R.Device.seen c.args.lines.now) in
    let out : Change = change g.W.Device.is_in_memory (g.W.Device.seen c.args.out.now) (g.W.Device.seen c.args.out.now) in
    handed_on c.from_residual.result stops.Memory (λ (r : Result (Unit {0}) Stop). Listens t.State m limits old r old fed out) c.from_residual.ensures (not_begun t.State m limits old fed.old out.old fed.is_in_memory out.is_in_memory)

pub loop-init : goal.loop-init
loop-init g c =
    let t = g.H.Hearer in
    let first = t.key c.args.hearer.now c.args.neighbours.now in
    let m = t.hearing first in
    let limits = c.args.limits in
    let old = t.state c.args.hearer.now c.args.neighbours.now in
    let fed : Change = change g.R.Device.is_in_memory (g.R.Device.seen c.args.lines.now) (g.R.Device.seen c.args.lines.now) in
    let a : Change = change g.W.Device.is_in_memory (g.W.Device.seen c.args.out.now) (g.W.Device.seen c.args.out.now) in
    let long = c.in_ok-room.ensures in
    record {
      listening = subst (λ p. IsListening t.State m limits old 0 p limits.bytes old 0 fed a) (sym c.new-pending.ensures.items) (listening_first t.State m limits old (g.R.Device.seen c.args.lines.now) g.R.Device.is_in_memory a (inr (refl, refl), refl));
      room = omega (arith, long);
      numbered = omega arith;
      ready = c.requires.ready;
      same = refl;
      output = refl;
    }

pub returns-in_default-clause-listens : goal.returns-in_default-clause-listens
returns-in_default-clause-listens g c =
    let t = g.H.Hearer in
    let first = t.key c.args.hearer.now c.args.neighbours.now in
    let m = t.hearing first in
    let limits = c.args.limits in
    let old = t.state c.args.hearer.now c.args.neighbours.now in
    let now = t.state c.loop.hearer c.loop.neighbours in
    let fed : Change = change g.R.Device.is_in_memory (g.R.Device.seen c.args.lines.now) (g.R.Device.seen c.loop.lines) in
    let a : Change = change g.W.Device.is_in_memory (g.W.Device.seen c.args.out.now) (g.W.Device.seen c.loop.out) in
    let here : IsListening t.State m limits old c.loop.counter c.loop.pending.items c.loop.left now c.loop.count fed a = c.loop.invariant.listening in
    let next = g.R.Device.seen c.read_some.new.self in
    read_failed t.State m limits old c.loop.counter c.loop.pending.items c.loop.left now c.loop.count fed a here next c.in_default.ensures.bytes c.in_default.ensures.made c.in_default.ensures.count c.loop-test.true

pub returns-then-n-eq0-clause-listens : goal.returns-then-n-eq0-clause-listens
returns-then-n-eq0-clause-listens g c =
    let t = g.H.Hearer in
    let first = t.key c.args.hearer.now c.args.neighbours.now in
    let m = t.hearing first in
    let limits = c.args.limits in
    let old = t.state c.args.hearer.now c.args.neighbours.now in
    let now = t.state c.loop.hearer c.loop.neighbours in
    let fed : Change = change g.R.Device.is_in_memory (g.R.Device.seen c.args.lines.now) (g.R.Device.seen c.loop.lines) in
    let a : Change = change g.W.Device.is_in_memory (g.W.Device.seen c.args.out.now) (g.W.Device.seen c.loop.out) in
    let here : IsListening t.State m limits old c.loop.counter c.loop.pending.items c.loop.left now c.loop.count fed a = c.loop.invariant.listening in
    let next = g.R.Device.seen c.read_some.new.self in
    let length_of = c.read_some.auto.buf in
    let length_before = c.loop.invariant.room in
    let fits : length c.read_some.new.buf ≡ 4096 = omega arith in
    let none : take c.in-Ok.n c.read_some.new.buf ≡ [] = ap (λ k. take k c.read_some.new.buf) c.if-n-eq0.true in
    let some : 0 < length c.read_some.new.buf = omega (arith, fits) in
    ended_as t.State m limits old c.loop.counter c.loop.pending.items c.loop.left now c.loop.count fed a here next (take c.in-Ok.n c.read_some.new.buf) c.in-Ok.ensures.bytes.0 none (c.in-Ok.ensures.bytes.1 c.if-n-eq0.true some) c.in-Ok.ensures.made c.in-Ok.ensures.count c.loop-test.true
    c.at_end.result (subst (λ p. OnOk c.at_end.result (p ≡ [])) c.deref.ensures.value c.at_end.ensures.none)
    (subst (λ p. IfErr c.at_end.result (λ (stop : Stop). (stop ≡ stops.Line (counted_line (c.loop.count + 1))) × (0 < length p))) c.deref.ensures.value c.at_end.ensures.some)

pub returns-in_err-extend_from_slice-clause-listens : goal.returns-in_err-extend_from_slice-clause-listens
returns-in_err-extend_from_slice-clause-listens g c =
    let t = g.H.Hearer in
    let first = t.key c.args.hearer.now c.args.neighbours.now in
    let m = t.hearing first in
    let limits = c.args.limits in
    let old = t.state c.args.hearer.now c.args.neighbours.now in
    let now = t.state c.loop.hearer c.loop.neighbours in
    let fed : Change = change g.R.Device.is_in_memory (g.R.Device.seen c.args.lines.now) (g.R.Device.seen c.loop.lines) in
    let a : Change = change g.W.Device.is_in_memory (g.W.Device.seen c.args.out.now) (g.W.Device.seen c.loop.out) in
    let here : IsListening t.State m limits old c.loop.counter c.loop.pending.items c.loop.left now c.loop.count fed a = c.loop.invariant.listening in
    let next = g.R.Device.seen c.read_some.new.self in
    let after : Change = change g.R.Device.is_in_memory (g.R.Device.seen c.args.lines.now) (g.R.Device.seen c.read_some.new.self) in
    let length_of = c.read_some.auto.buf in
    let length_before = c.loop.invariant.room in
    let fits : length c.read_some.new.buf ≡ 4096 = omega arith in
    let was_so = ap length c.deref_mut.ensures.value in
    let is_long = c.loop.room.ok.0 in
    let back : take c.loop.room.len (c.read_some.new.buf ++ drop (length c.read_some.new.buf) c.loop.room.items) ≡ c.read_some.new.buf =
    take_at c.read_some.new.buf (drop (length c.read_some.new.buf) c.loop.room.items) c.loop.room.len (omega (arith, length_of, was_so, is_long)) in
    let whole : c.deref-in-loop.result.now ≡ c.read_some.new.buf = c.deref-in-loop.ensures.value ∙ back in
    let taken : c.part-taken.result ≡ part_left_to_hear c.loop.left c.in-Ok.n = c.part-taken.ensures in
    handed_on c.from_residual-in_err-extend_from_slice.result stops.Memory (λ (r : Result (Unit {0}) Stop). Listens t.State m limits old r now after a) c.from_residual-in_err-extend_from_slice.ensures
    (no_memory t.State m limits old c.loop.counter c.loop.pending.items c.loop.left now c.loop.count fed a here next c.read_some.new.buf c.in-Ok.n c.in-Ok.ensures.bytes.0 c.in-Ok.ensures.made c.in-Ok.ensures.count c.in-Ok.ensures.bound fits c.loop-test.true)

pub returns-in_err-hear_pending-clause-listens : goal.returns-in_err-hear_pending-clause-listens
returns-in_err-hear_pending-clause-listens g c =
    let t = g.H.Hearer in
    let first = t.key c.args.hearer.now c.args.neighbours.now in
    let m = t.hearing first in
    let limits = c.args.limits in
    let old = t.state c.args.hearer.now c.args.neighbours.now in
    let now = t.state c.loop.hearer c.loop.neighbours in
    let fed : Change = change g.R.Device.is_in_memory (g.R.Device.seen c.args.lines.now) (g.R.Device.seen c.loop.lines) in
    let a : Change = change g.W.Device.is_in_memory (g.W.Device.seen c.args.out.now) (g.W.Device.seen c.loop.out) in
    let here : IsListening t.State m limits old c.loop.counter c.loop.pending.items c.loop.left now c.loop.count fed a = c.loop.invariant.listening in
    let next = g.R.Device.seen c.read_some.new.self in
    let after : Change = change g.R.Device.is_in_memory (g.R.Device.seen c.args.lines.now) (g.R.Device.seen c.read_some.new.self) in
    let length_of = c.read_some.auto.buf in
    let length_before = c.loop.invariant.room in
    let fits : length c.read_some.new.buf ≡ 4096 = omega arith in
    let was_so = ap length c.deref_mut.ensures.value in
    let is_long = c.loop.room.ok.0 in
    let back : take c.loop.room.len (c.read_some.new.buf ++ drop (length c.read_some.new.buf) c.loop.room.items) ≡ c.read_some.new.buf =
    take_at c.read_some.new.buf (drop (length c.read_some.new.buf) c.loop.room.items) c.loop.room.len (omega (arith, length_of, was_so, is_long)) in
    let whole : c.deref-in-loop.result.now ≡ c.read_some.new.buf = c.deref-in-loop.ensures.value ∙ back in
    let taken : c.part-taken.result ≡ part_left_to_hear c.loop.left c.in-Ok.n = c.part-taken.ensures in
    let items : c.extend_from_slice.new.self.items ≡ c.loop.pending.items ++ take (part_left_to_hear c.loop.left c.in-Ok.n) c.read_some.new.buf =
    c.in_ok-extend_from_slice.ensures.items ∙ ap (λ xs. c.loop.pending.items ++ take c.part-taken.result xs) whole ∙ ap (λ k. c.loop.pending.items ++ take k c.read_some.new.buf) taken in
    let b : Change = change g.W.Device.is_in_memory (g.W.Device.seen c.loop.out) (g.W.Device.seen c.hear_pending.new.out) in
    let new = t.state c.hear_pending.new.hearer c.hear_pending.new.neighbours in
    let stop = c.in_err-hear_pending.field-0.0 in
    let halts : HaltsWithin t.State m c.loop.count now (c.loop.pending.items ++ take (part_left_to_hear c.loop.left c.in-Ok.n) c.read_some.new.buf) stop new b =
    subst (λ k. HaltsWithin t.State (t.hearing k) c.loop.count now (c.loop.pending.items ++ take (part_left_to_hear c.loop.left c.in-Ok.n) c.read_some.new.buf) stop new b) c.loop.invariant.same
    (subst (λ p. HaltsWithin t.State (t.hearing (t.key c.loop.hearer c.loop.neighbours)) c.loop.count now p stop new b) items c.in_err-hear_pending.ensures.halts) in
    handed_on c.from_residual-in_err-hear_pending.result stop (λ (r : Result (Unit {0}) Stop). Listens t.State m limits old r new after (joined_changes a b)) c.from_residual-in_err-hear_pending.ensures
    (halted t.State m limits old c.loop.counter c.loop.pending.items c.loop.left now c.loop.count fed a here next c.read_some.new.buf c.in-Ok.n c.in-Ok.ensures.bytes.0 c.in-Ok.ensures.made c.in-Ok.ensures.count c.in-Ok.ensures.bound fits c.loop-test.true b refl (g.met.H.Hearer.stops_after first) stop new halts)

pub returns-then-taken-n-clause-listens : goal.returns-then-taken-n-clause-listens
returns-then-taken-n-clause-listens g c =
    let t = g.H.Hearer in
    let first = t.key c.args.hearer.now c.args.neighbours.now in
    let m = t.hearing first in
    let limits = c.args.limits in
    let old = t.state c.args.hearer.now c.args.neighbours.now in
    let now = t.state c.loop.hearer c.loop.neighbours in
    let fed : Change = change g.R.Device.is_in_memory (g.R.Device.seen c.args.lines.now) (g.R.Device.seen c.loop.lines) in
    let a : Change = change g.W.Device.is_in_memory (g.W.Device.seen c.args.out.now) (g.W.Device.seen c.loop.out) in
    let here : IsListening t.State m limits old c.loop.counter c.loop.pending.items c.loop.left now c.loop.count fed a = c.loop.invariant.listening in
    let next = g.R.Device.seen c.read_some.new.self in
    let after : Change = change g.R.Device.is_in_memory (g.R.Device.seen c.args.lines.now) (g.R.Device.seen c.read_some.new.self) in
    let length_of = c.read_some.auto.buf in
    let length_before = c.loop.invariant.room in
    let fits : length c.read_some.new.buf ≡ 4096 = omega arith in
    let was_so = ap length c.deref_mut.ensures.value in
    let is_long = c.loop.room.ok.0 in
    let back : take c.loop.room.len (c.read_some.new.buf ++ drop (length c.read_some.new.buf) c.loop.room.items) ≡ c.read_some.new.buf =
    take_at c.read_some.new.buf (drop (length c.read_some.new.buf) c.loop.room.items) c.loop.room.len (omega (arith, length_of, was_so, is_long)) in
    let whole : c.deref-in-loop.result.now ≡ c.read_some.new.buf = c.deref-in-loop.ensures.value ∙ back in
    let taken : c.part-taken.result ≡ part_left_to_hear c.loop.left c.in-Ok.n = c.part-taken.ensures in
    let items : c.extend_from_slice.new.self.items ≡ c.loop.pending.items ++ take (part_left_to_hear c.loop.left c.in-Ok.n) c.read_some.new.buf =
    c.in_ok-extend_from_slice.ensures.items ∙ ap (λ xs. c.loop.pending.items ++ take c.part-taken.result xs) whole ∙ ap (λ k. c.loop.pending.items ++ take k c.read_some.new.buf) taken in
    let b : Change = change g.W.Device.is_in_memory (g.W.Device.seen c.loop.out) (g.W.Device.seen c.hear_pending.new.out) in
    let new = t.state c.hear_pending.new.hearer c.hear_pending.new.neighbours in
    let heard : HearsUpTo t.State m c.loop.count now (c.loop.pending.items ++ take (part_left_to_hear c.loop.left c.in-Ok.n) c.read_some.new.buf) (c.hear_pending.new.pending.items ∷ []) new c.hear_pending.new.count b =
    subst (λ k. HearsUpTo t.State (t.hearing k) c.loop.count now (c.loop.pending.items ++ take (part_left_to_hear c.loop.left c.in-Ok.n) c.read_some.new.buf) (c.hear_pending.new.pending.items ∷ []) new c.hear_pending.new.count b) c.loop.invariant.same
    (subst (λ p. HearsUpTo t.State (t.hearing (t.key c.loop.hearer c.loop.neighbours)) c.loop.count now p (c.hear_pending.new.pending.items ∷ []) new c.hear_pending.new.count b) items c.in_ok-hear_pending.ensures.heard) in
    let less = c.if-taken-n.true in
    let over : part_left_to_hear c.loop.left c.in-Ok.n < c.in-Ok.n = omega (arith, taken, less) in
    too_many t.State m limits old c.loop.counter c.loop.pending.items c.loop.left now c.loop.count fed a here next c.read_some.new.buf c.in-Ok.n c.in-Ok.ensures.bytes.0 c.in-Ok.ensures.made c.in-Ok.ensures.count c.in-Ok.ensures.bound fits c.loop-test.true b refl c.hear_pending.new.pending.items new c.hear_pending.new.count over c.in_ok-hear_pending.ensures.short heard

pub loop-preserved : goal.loop-preserved
loop-preserved g c =
    let t = g.H.Hearer in
    let first = t.key c.args.hearer.now c.args.neighbours.now in
    let m = t.hearing first in
    let limits = c.args.limits in
    let old = t.state c.args.hearer.now c.args.neighbours.now in
    let now = t.state c.loop.hearer c.loop.neighbours in
    let fed : Change = change g.R.Device.is_in_memory (g.R.Device.seen c.args.lines.now) (g.R.Device.seen c.loop.lines) in
    let a : Change = change g.W.Device.is_in_memory (g.W.Device.seen c.args.out.now) (g.W.Device.seen c.loop.out) in
    let here : IsListening t.State m limits old c.loop.counter c.loop.pending.items c.loop.left now c.loop.count fed a = c.loop.invariant.listening in
    let next = g.R.Device.seen c.read_some.new.self in
    let after : Change = change g.R.Device.is_in_memory (g.R.Device.seen c.args.lines.now) (g.R.Device.seen c.read_some.new.self) in
    let length_of = c.read_some.auto.buf in
    let length_before = c.loop.invariant.room in
    let fits : length c.read_some.new.buf ≡ 4096 = omega arith in
    let was_so = ap length c.deref_mut.ensures.value in
    let is_long = c.loop.room.ok.0 in
    let back : take c.loop.room.len (c.read_some.new.buf ++ drop (length c.read_some.new.buf) c.loop.room.items) ≡ c.read_some.new.buf =
    take_at c.read_some.new.buf (drop (length c.read_some.new.buf) c.loop.room.items) c.loop.room.len (omega (arith, length_of, was_so, is_long)) in
    let whole : c.deref-in-loop.result.now ≡ c.read_some.new.buf = c.deref-in-loop.ensures.value ∙ back in
    let taken : c.part-taken.result ≡ part_left_to_hear c.loop.left c.in-Ok.n = c.part-taken.ensures in
    let items : c.extend_from_slice.new.self.items ≡ c.loop.pending.items ++ take (part_left_to_hear c.loop.left c.in-Ok.n) c.read_some.new.buf =
    c.in_ok-extend_from_slice.ensures.items ∙ ap (λ xs. c.loop.pending.items ++ take c.part-taken.result xs) whole ∙ ap (λ k. c.loop.pending.items ++ take k c.read_some.new.buf) taken in
    let b : Change = change g.W.Device.is_in_memory (g.W.Device.seen c.loop.out) (g.W.Device.seen c.hear_pending.new.out) in
    let new = t.state c.hear_pending.new.hearer c.hear_pending.new.neighbours in
    let heard : HearsUpTo t.State m c.loop.count now (c.loop.pending.items ++ take (part_left_to_hear c.loop.left c.in-Ok.n) c.read_some.new.buf) (c.hear_pending.new.pending.items ∷ []) new c.hear_pending.new.count b =
    subst (λ k. HearsUpTo t.State (t.hearing k) c.loop.count now (c.loop.pending.items ++ take (part_left_to_hear c.loop.left c.in-Ok.n) c.read_some.new.buf) (c.hear_pending.new.pending.items ∷ []) new c.hear_pending.new.count b) c.loop.invariant.same
    (subst (λ p. HearsUpTo t.State (t.hearing (t.key c.loop.hearer c.loop.neighbours)) c.loop.count now p (c.hear_pending.new.pending.items ∷ []) new c.hear_pending.new.count b) items c.in_ok-hear_pending.ensures.heard) in
    let none = c.if-n-eq0.false in
    let some : 0 < c.in-Ok.n = grind (arith, none) in
    let no_less = c.if-taken-n.false in
    let all : c.in-Ok.n ≤ part_left_to_hear c.loop.left c.in-Ok.n = omega (arith, taken, no_less) in
    let number = heard.count in
    let left : c.left_after-left.result ≡ left_after c.loop.left (part_left_to_hear c.loop.left c.in-Ok.n) = c.left_after-left.ensures ∙ ap (left_after c.loop.left) taken in
    record {
      listening = subst (λ l. IsListening t.State m limits old (c.loop.counter + 1) c.hear_pending.new.pending.items l new c.hear_pending.new.count after (joined_changes a b)) (sym left)
          (listening_more t.State m limits old c.loop.counter c.loop.pending.items c.loop.left now c.loop.count fed a here next c.read_some.new.buf c.in-Ok.n c.in-Ok.ensures.bytes.0 c.in-Ok.ensures.made c.in-Ok.ensures.count c.in-Ok.ensures.bound fits c.loop-test.true b refl c.hear_pending.new.pending.items new c.hear_pending.new.count some all c.in_ok-hear_pending.ensures.short heard);
      room = ap length back ∙ fits;
      numbered = omega (arith, number);
      ready = c.in_ok-hear_pending.ensures.ready tt;
      same = c.in_ok-hear_pending.ensures.same ∙ c.loop.invariant.same;
      output = c.in-Ok.ensures.output ∙ c.loop.invariant.output;
    }

pub returns-clause-listens : goal.returns-clause-listens
returns-clause-listens g c =
    let t = g.H.Hearer in
    let first = t.key c.args.hearer.now c.args.neighbours.now in
    let m = t.hearing first in
    let limits = c.args.limits in
    let old = t.state c.args.hearer.now c.args.neighbours.now in
    let now = t.state c.loop.hearer c.loop.neighbours in
    let fed : Change = change g.R.Device.is_in_memory (g.R.Device.seen c.args.lines.now) (g.R.Device.seen c.loop.lines) in
    let a : Change = change g.W.Device.is_in_memory (g.W.Device.seen c.args.out.now) (g.W.Device.seen c.loop.out) in
    let here : IsListening t.State m limits old c.loop.counter c.loop.pending.items c.loop.left now c.loop.count fed a = c.loop.invariant.listening in
    let past = c.loop-test.false in
    let within = c.loop.auto.counter-end in
    let all : c.loop.counter ≡ limits.reads = omega arith in
    no_more t.State m limits old c.loop.counter c.loop.pending.items c.loop.left now c.loop.count fed a here all

pub returns-in_err-hear_pending-clause-ready : goal.returns-in_err-hear_pending-clause-ready
returns-in_err-hear_pending-clause-ready g c =
    handed_on c.from_residual-in_err-hear_pending.result c.in_err-hear_pending.field-0.0
    (λ (r : Result (Unit {0}) Stop). EndsBetweenLines r → g.H.Hearer.is_ready c.hear_pending.new.hearer c.hear_pending.new.neighbours (g.W.Device.seen c.hear_pending.new.out)) c.from_residual-in_err-hear_pending.ensures
    c.in_err-hear_pending.ensures.ready
