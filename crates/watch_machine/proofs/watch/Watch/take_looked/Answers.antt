-- An answer to a lookup is noted, taken for its entry, and then for what it says of the broker.
use Rattle.std.proofs.Common.{◌≡◌, ◌∙◌, Option, Some, ap, subst, sym}
use Rattle.watch_machine.specs.{declared.event.Operation.TheVariants.Look, declared.lanes.Out.Out, declared.notes.Link.Link, declared.notes.Notes.Notes, Looked.looked, Refusal.request_out, State.WatchState, code.Bounds.WentOutAtReading}
use Rattle.watch_machine.specs.Answers.{link, noted, replied}
use Rattle.watch_machine.specs.Step.{StepLooked, notes_of, taken, with_link}
use Rattle.watch_machine.proofs.Cases.{of_value}
use Rattle.watch_machine.proofs.watch.Watch.take_looked.Goals as goal

pub looked-notes-requires : goal.looked-notes-requires
looked-notes-requires c = of_value WentOutAtReading c.request_out.result c.in-Some.request c.request_out.ensures.bounds c.in-Some.is

pub returns-clause-step : goal.returns-clause-step
returns-clause-step c =
    let old = c.args.self.now in
    let i = c.args.entry in
    let r = c.in-Some.request in
    let reply = c.args.reply in
    let terms = c.args.terms in
    let new = c.replied-link.new.self in
    let s : WatchState = noted old r reply in
    let found : request_out old.out i Look ≡ Some r = sym c.request_out.ensures.value ∙ c.in-Some.is in
    let taken' : c.looked-notes.new.self ≡ looked s r reply terms = c.looked-notes.ensures.state ∙ ap (λ (t : WatchState). looked t r reply terms) c.in_ok-note.ensures.value in
    let notes : c.looked-notes.result ≡ notes_of s r reply terms = c.looked-notes.ensures.notes ∙ ap (λ (t : WatchState). notes_of t r reply terms) c.in_ok-note.ensures.value in
    let linked : c.replied-link.result ≡ link (looked s r reply terms) r reply = c.replied-link.ensures.link ∙ ap (λ (t : WatchState). link t r reply) taken' in
    subst (λ (o : Option Out). StepLooked old o reply terms c.taken.result new) (sym found) (
      c.taken.ensures ∙ ap (λ (n : Notes). taken (with_link n c.replied-link.result)) notes ∙ ap (λ (l : Option Link). taken (with_link (notes_of s r reply terms) l)) linked,
      c.replied-link.ensures.state ∙ ap (λ (t : WatchState). replied t r reply) taken',
    )
