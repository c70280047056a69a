-- StopsAfter: a line that ends short after a text ends short after what was written before it, too. A law of `Hearer`.
-- Source: this project's own.
use Rattle.std.proofs.Common.{◌≡◌, ℕ, inl, inr, List, ◌++◌, take, sym, ap, ◌∙◌, subst}
use Rattle.std.proofs.lemmas.List.{append_assoc}
use Rattle.std.specs.Io.KnownBytes.{Appends}
use Rattle.base_device.specs.{Seen.Change, Seen.Seen, Failures.HasFailed}
use Rattle.program_lines.specs.{Hearing.StopsAfter, Hearing.joined_changes, declared.event_line.HeardLine.HeardLine}
use Rattle.program_lines.proofs.LineByLine.{appends_then, said_appends}
use Rattle.program_report.specs.declared.stop.Stop.TheVariants as stops
use Rattle.tick_runs.specs.{Listening.IsCutShort, Listening.hearing_of_events, Hearing.EventIsCutOff, Hearing.IsBrokenOff, Closed.World}

module _ (a b : Change) (same : a.new ≡ b.old) where
  module _ (port : ℕ) (cs : List (List ℕ)) (old new : World) (t u : List ℕ) (first : Appends a.old.output.written a.new.output.written t) where
    cut_then : (heard : HeardLine) → EventIsCutOff port cs old heard new u b → EventIsCutOff port cs old heard new (t ++ u) (joined_changes a b)
    cut_then heard second =
        let rest = second.told ++ take second.n second.own in
        record {
          told = second.told;
          own = second.own;
          up_to = second.up_to;
          n = second.n;
          front = subst (Appends a.old.output.written b.new.output.written) (sym (append_assoc t u rest)) (appends_then a b same t (u ++ rest) first second.front);
        }

    broken_then : (heard : HeardLine) → IsBrokenOff port cs old heard new u b → IsBrokenOff port cs old heard new (t ++ u) (joined_changes a b)
    broken_then heard second = record {
      t = second.t;
      is = second.is;
      told = second.told;
      mid = second.mid;
      others = second.others;
      so_far = second.so_far;
      written = subst (Appends a.old.output.written b.new.output.written) (sym (append_assoc t u second.told)) (appends_then a b same t (u ++ second.told) first second.written);
      left = second.left;
    }

    short_then : (line : List ℕ) → IsCutShort port cs old line new u b → IsCutShort port cs old line new (t ++ u) (joined_changes a b)
    short_then line second = (second.0, (second.1.0, cut_then second.0 second.1.1))

pub events_stop_after : (port : ℕ) (cs : List (List ℕ)) → StopsAfter World (hearing_of_events port cs)
events_stop_after port cs a b old line t u stops.TooLong new same first h = (h.0, (appends_then a b same t u (said_appends t a first.0) h.1.0, h.1.1))
events_stop_after port cs a b old line t u stops.Write new same first h = (
  subst (λ n. HasFailed n b.new.failed_calls) (sym (ap (λ (s : Seen). s.failed_calls) same) ∙ first.1) h.0,
  short_then a b same port cs old new t u (said_appends t a first.0) line h.1,
)
events_stop_after port cs a b old line t u stops.Memory new same first h =
    let before = said_appends t a first.0 in
    elim h [
      | inl none ↦ inl (none.0, (none.1.0, (none.1.1.0, appends_then a b same t u before none.1.1.1)))
      | inr some ↦
          inr (
          elim some [
            | inl broken ↦ inl (broken.0, (broken.1.0, broken_then a b same port cs old new t u before broken.0 broken.1.1))
            | inr cut ↦ inr (cut.0, short_then a b same port cs old new t u before line cut.1)
          ]
          )
    ]
events_stop_after port cs a b old line t u (stops.Inventory fault) new same first h = absurd h
events_stop_after port cs a b old line t u (stops.Moments fault) new same first h = absurd h
events_stop_after port cs a b old line t u (stops.FaultWord n) new same first h = absurd h
events_stop_after port cs a b old line t u stops.Read new same first h = absurd h
events_stop_after port cs a b old line t u (stops.Broker name) new same first h = absurd h
events_stop_after port cs a b old line t u (stops.Line n) new same first h = absurd h
