-- An answer to a renewal is noted, taken for its entry, and then for what it says of the broker.
use Rattle.std.proofs.Common.{◌≡◌, ◌∙◌, Option, Some, ap, subst, sym}
use Rattle.watch_machine.specs.{declared.event.Operation.TheVariants.Renew, declared.lanes.Out.Out, declared.notes.Link.Link, declared.notes.Notes.Notes, Refusal.request_out, State.WatchState, code.Bounds.WentOutAtReading}
use Rattle.watch_machine.specs.{code.Line.IsLineOf}
use Rattle.watch_machine.specs.Answers.{link, noted, replied}
use Rattle.watch_machine.specs.Renewed.{state_renewed, top_by, track_renewed}
use Rattle.watch_machine.specs.Step.{StepRenewed, notes_top, nothing_noted, taken, with_link}
use Rattle.watch_machine.proofs.Cases.{of_value}
use Rattle.watch_machine.proofs.watch.Watch.take_renewed.Goals as goal

pub line_renewed-line-requires : goal.line_renewed-line-requires
line_renewed-line-requires c = of_value WentOutAtReading c.request_out.result c.in-Some.request c.request_out.ensures.bounds c.in-Some.is

pub renewed-top-requires : goal.renewed-top-requires
renewed-top-requires c = of_value WentOutAtReading c.request_out.result c.in-Some.request c.request_out.ensures.bounds c.in-Some.is

pub keep_line-requires : goal.keep_line-requires
keep_line-requires c =
    let r = c.in-Some.request in
    let reply = c.args.reply in
    subst (λ (s : WatchState). IsLineOf s c.line_renewed-line.result)
    (sym
    (c.replied-link.ensures.state ∙ ap (λ (t : WatchState). replied t r reply) c.renewed-top.ensures.state
    ∙ ap (λ (t : WatchState). replied (state_renewed t r reply) r reply) c.line_renewed-line.ensures.unchanged))
    c.line_renewed-line.ensures.line

pub returns-clause-step : goal.returns-clause-step
returns-clause-step c =
    let old = c.args.self.now in
    let i = c.args.entry in
    let r = c.in-Some.request in
    let reply = c.args.reply in
    let new = c.keep_line.new.self in
    let l = c.replied-link.result in
    let s : WatchState = noted old r reply in
    let found : request_out old.out i Renew ≡ Some r = sym c.request_out.ensures.value ∙ c.in-Some.is in
    let still = c.line_renewed-line.ensures.unchanged ∙ c.in_ok-note.ensures.value in
    let taken' : c.renewed-top.new.self ≡ state_renewed s r reply = c.renewed-top.ensures.state ∙ ap (λ (t : WatchState). state_renewed t r reply) still in
    let top : c.renewed-top.result ≡ top_by reply (track_renewed s r reply) = c.renewed-top.ensures.top ∙ ap (λ (t : WatchState). top_by reply (track_renewed t r reply)) still in
    let linked : l ≡ link (state_renewed s r reply) r reply = c.replied-link.ensures.link ∙ ap (λ (t : WatchState). link t r reply) taken' in
    subst (λ (o : Option Out). StepRenewed old o reply c.taken.result new) (sym found) (
      c.taken.ensures ∙ ap (λ (n : Notes). taken (record n { top = c.renewed-top.result; link = l })) c.none.ensures
          ∙ ap (λ t. taken (record nothing_noted { top = t; link = l })) top
          ∙ ap (λ (o : Option Link). taken (with_link (notes_top (top_by reply (track_renewed s r reply))) o)) linked,
      c.keep_line.ensures ∙ c.replied-link.ensures.state ∙ ap (λ (t : WatchState). replied t r reply) taken',
    )
