-- The cases after the line of a size.
use Rattle.std.proofs.Common.{◌+◌, ◌<◌, arith, subst}
use Rattle.std.proofs.lemmas.List.{take_rest}
use Rattle.vault_http.specs.declared.chunk.Ending.TheVariants as ending
use Rattle.vault_http.specs.Steps.{IsEnding}
use Rattle.vault_http.proofs.ChunkSteps.{size_of, too_long, short, bad_end, open_end, last_end, whole_chunk}
use Rattle.vault_http.proofs.chunk.sized_step.Goals.{then-room-start-lt2-via-then-room-start-lt2, then-room-start-lt2-via-else-room-start-lt2+then-size-room}
use Rattle.vault_http.proofs.chunk.sized_step.Goals as goal

pub returns-then-room-start-lt2 : goal.returns-then-room-start-lt2
returns-then-room-start-lt2 c =
    let h = size_of c.args.text.now c.args.room c.args.digits c.args.size c.requires.line in
    let over : c.args.room < c.args.digits + 2 + c.args.size + 2 = elim c.then-room-start-lt2.branch [
      | then-room-start-lt2-via-then-room-start-lt2 w ↦ omega arith
      | then-room-start-lt2-via-else-room-start-lt2+then-size-room w ↦ omega arith
    ] in
    too_long c.args.text.now c.args.room c.args.digits c.args.size h c.requires.room over

pub returns-then-text-start : goal.returns-then-text-start
returns-then-text-start c =
    let h = size_of c.args.text.now c.args.room c.args.digits c.args.size c.requires.line in
    short c.args.text.now c.args.room c.args.digits c.args.size h (omega (arith, c.requires.room)) (omega (arith, c.requires.text))

pub returns-in-Bad : goal.returns-in-Bad
returns-in-Bad c =
    let h = size_of c.args.text.now c.args.room c.args.digits c.args.size c.requires.line in
    let bad = subst (λ t. IsEnding t ending.Bad) (take_rest c.args.text.now (c.args.digits + 2 + c.args.size)) c.in-Bad.ensures in
    bad_end c.args.text.now c.args.room c.args.digits c.args.size h (omega (arith, c.requires.room)) (omega (arith, c.requires.text)) bad

pub returns-in-Open : goal.returns-in-Open
returns-in-Open c =
    let h = size_of c.args.text.now c.args.room c.args.digits c.args.size c.requires.line in
    let here = subst (λ t. IsEnding t ending.Open) (take_rest c.args.text.now (c.args.digits + 2 + c.args.size)) c.in-Open.ensures in
    open_end c.args.text.now c.args.room c.args.digits c.args.size h (omega (arith, c.requires.room)) (omega (arith, c.requires.text)) here

pub returns-in-Whole : goal.returns-in-Whole
returns-in-Whole c =
    let h = size_of c.args.text.now c.args.room c.args.digits c.args.size c.requires.line in
    let here = subst (λ t. IsEnding t ending.Whole) (take_rest c.args.text.now (c.args.digits + 2 + c.args.size)) c.in-Whole.ensures in
    last_end c.args.text.now c.args.room c.args.digits c.args.size h (omega (arith, c.requires.room)) (omega (arith, c.requires.text)) c.if-size-eq0.true here

pub returns-in-Whole-2 : goal.returns-in-Whole-2
returns-in-Whole-2 c =
    let h = size_of c.args.text.now c.args.room c.args.digits c.args.size c.requires.line in
    let here = subst (λ t. IsEnding t ending.Whole) (take_rest c.args.text.now (c.args.digits + 2 + c.args.size)) c.in-Whole-2.ensures in
    let some : 0 < c.args.size = omega (arith, c.if-size-eq0.false) in
    whole_chunk c.args.text.now c.args.room c.args.digits c.args.size h (omega (arith, c.requires.room)) (omega (arith, c.requires.text)) some here
