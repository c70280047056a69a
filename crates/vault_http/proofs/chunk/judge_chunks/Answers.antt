-- One chunk more, and what stops the walk.
use Rattle.std.proofs.Common.{◌≡◌, ◌+◌, ◌-◌, [], ◌++◌, take, drop, arith, refl, sym, ap, ◌∙◌, subst, append-nil, Ok, Err}
use Rattle.std.proofs.lemmas.List.{take_rest}
use Rattle.vault_http.specs.{declared.body.BodyFault.TheVariants.Truncated, Chunks.StopsAt, Chunks.IsChunked, Chunks.HasChunks, Steps.IsStep}
use Rattle.vault_http.specs.declared.chunk.Step.TheVariants as step
use Rattle.vault_http.proofs.ChunkLoop.{one_chunk, chunks_end, unless_fault}
use Rattle.vault_http.proofs.chunk.judge_chunks.Goals as goal

pub loop-start-preserved : goal.loop-start-preserved
loop-start-preserved c =
    let i = c.loop-start.invariant in
    let at = c.loop-start.at in
    let text = c.args.text.now in
    let h = subst (λ t. IsStep t (c.args.room - at) (step.Chunk c.in-Chunk.start c.in-Chunk.size)) (take_rest text at) c.in-Chunk.ensures in
    let next = one_chunk text at c.loop-start.body.items c.args.room c.in-Chunk.start c.in-Chunk.size i.so_far i.within i.fits h in
    let from = at + c.in-Chunk.start in
    let count : from + c.in-Chunk.size - from ≡ c.in-Chunk.size = omega arith in
    let grown = c.grow-grown.ensures c.if-not-grown.false ∙ ap (λ k. c.loop-start.body.items ++ take k (drop from text)) count in
    record {
      within = next.1;
      fits = next.2;
      so_far = subst (HasChunks text (at + c.in-Chunk.start + c.in-Chunk.size + 2)) (sym grown) next.0;
    }

pub returns-in-Last-clause-answer : goal.returns-in-Last-clause-answer
returns-in-Last-clause-answer c =
    let i = c.loop-start.invariant in
    let at = c.loop-start.at in
    let text = c.args.text.now in
    λ more end. chunks_end text at c.loop-start.body.items c.args.room (Ok []) (Ok c.from_vec.result) more i.so_far i.within i.fits
    (subst (λ t. StopsAt (c.args.room - at) (t ++ more) (Ok [])) (take_rest text at) (c.in-Last.ensures more)) (ap (λ b. Ok b) c.from_vec.ensures)

pub returns-in-Fault-clause-answer : goal.returns-in-Fault-clause-answer
returns-in-Fault-clause-answer c =
    let i = c.loop-start.invariant in
    let at = c.loop-start.at in
    let text = c.args.text.now in
    λ more end. unless_fault c.in-Fault.fault (IsChunked c.args.room (text ++ more) (Err c.in-Fault.fault))
    (chunks_end text at c.loop-start.body.items c.args.room (Err c.in-Fault.fault) (Err c.in-Fault.fault) more i.so_far i.within i.fits
    (subst (λ t. StopsAt (c.args.room - at) (t ++ more) (Err c.in-Fault.fault)) (take_rest text at) (c.in-Fault.ensures more)) refl)

pub returns-then-ended-clause-answer : goal.returns-then-ended-clause-answer
returns-then-ended-clause-answer c =
    let i = c.loop-start.invariant in
    let at = c.loop-start.at in
    let text = c.args.text.now in
    λ more end.
    let all : drop at text ++ more ≡ drop at text = ap (λ m. drop at text ++ m) (end c.if-ended.true) ∙ append-nil (drop at text) in
    let here = subst (λ t. StopsAt (c.args.room - at) t (Err Truncated)) (take_rest text at) c.in-Open.ensures.1 in
    chunks_end text at c.loop-start.body.items c.args.room (Err Truncated) (Err Truncated) more i.so_far i.within i.fits
    (subst (λ t. StopsAt (c.args.room - at) t (Err Truncated)) (sym all) here) refl

pub returns-else-ended-clause-waits : goal.returns-else-ended-clause-waits
returns-else-ended-clause-waits c =
    let i = c.loop-start.invariant in
    let at = c.loop-start.at in
    let text = c.args.text.now in
    let here = subst (λ t. StopsAt (c.args.room - at) t (Err Truncated)) (take_rest text at ∙ sym (append-nil (drop at text))) c.in-Open.ensures.1 in
    subst (λ t. IsChunked c.args.room t (Err Truncated)) (append-nil text)
    (chunks_end text at c.loop-start.body.items c.args.room (Err Truncated) (Err Truncated) [] i.so_far i.within i.fits here refl)
