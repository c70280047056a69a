-- SentTicks: what is sent of an event, whole or cut short: the lines before the first request, those of each answer, and the last.
use Rattle.std.proofs.Common.{◌≡◌, ℕ, ◌<◌, inl, inr, codes, false, IsTrue, List, [], ◌++◌, Option, Result, Ok, Err, refl, sym, ap, ◌∙◌, subst, take}
use Rattle.std.proofs.KnownBytes.{Appends-nil}
use Rattle.std.proofs.lemmas.List.{append-nil, append_assoc}
use Rattle.std.specs.Io.KnownBytes.{Appends}
use Rattle.base_device.specs.{Seen.Change, Seen.Seen, Failures.HasFailed}
use Rattle.tick_keeper.specs.{declared.event.Output.Output, State.CoreState}
use Rattle.tick_keeper.specs.declared.event.Output.TheVariants as out
use Rattle.vault_exchange.specs.Exchanges.{Behind}
use Rattle.program_report.specs.{declared.stop.Stop.Stop, Sent.SendsText}
use Rattle.program_report.specs.declared.stop.Stop.TheVariants as stops
use Rattle.tick_runs.specs.{code.Playing.Ticks, Stops.both}
use Rattle.tick_runs.specs.Closed.{World, asked_by_output, asks_some}
use Rattle.tick_runs.specs.code.Telling.{IsSentWhole, IsRoundBroken, IsRoundCut, StopsNeed, TellsRound}
use Rattle.tick_runs.specs.Hearing.{EventIsCutOff, EventIsHeard, HearingMayWantMemory, HearsTo, IsBrokenOff, IsHeardUpTo, NeedIsInForce, NeedIsOverlong, last_tick_line, next_tick_line}
use Rattle.program_lines.specs.{declared.event_line.HeardLine.HeardLine, declared.event_line.HeardLine.TheVariants.Need, Hearing.joined_changes}
use Rattle.program_lines.specs.declared.event_line.HeardLine.TheVariants as heards
use Rattle.program_lines.proofs.LineByLine.{untouched_appends}
use Rattle.tick_runs.proofs.ToldRounds.{so_far}
use Rattle.tick_runs.proofs.LineByLine.{all_then, appends, sent_then}
use Rattle.tick_runs.proofs.LiveTicks.{last_under_way, none_asked, one_more, quiet_heard, round_heard, some_answered}

-- ---- what is sent of an event

module _ (port : ℕ) (cs : List (List ℕ)) where
  -- a write that is cut short, after what was told
  pub stops_short :
      (old new : World) (heard : HeardLine) (told own : List ℕ) (stop : Stop) (a b : Change) → a.new ≡ b.old → IsSentWhole told a →
      IsHeardUpTo port cs old heard new told own → SendsText (Err stop) own b → HearsTo port cs old heard (Err stop) new (joined_changes a b)
  stops_short old new heard told own stops.Write a b same before up_to sent = (
    subst (λ n. HasFailed n b.new.failed_calls) (sym (ap (λ (s : Seen). s.failed_calls) same) ∙ before.1) sent.0,
    record { told = told; own = own; up_to = up_to; n = sent.1.0; front = appends a b same told (take sent.1.0 own) before.0.0 sent.1.1 },
  )
  stops_short old new heard told own stops.Memory a b same before up_to sent =
      inr (inr (sent.0, record { told = told; own = own; up_to = up_to; n = sent.1.0; front = appends a b same told (take sent.1.0 own) before.0.0 sent.1.1 }))
  stops_short old new heard told own _ a b same before up_to sent = absurd sent

  -- the write of its first lines is
  pub stops_at_once :
      (old new : World) (heard : HeardLine) (own : List ℕ) (stop : Stop) (a : Change) → IsTrue a.old.output.is_flushed →
      IsHeardUpTo port cs old heard new [] own → SendsText (Err stop) own a → HearsTo port cs old heard (Err stop) new a
  stops_at_once old new heard own stop a flushed up_to sent =
      let none : Change = record a { new = a.old } in
      stops_short old new heard [] own stop none a refl ((Appends-nil a.old.output.written, flushed), refl) up_to sent

  -- the write of all of its lines
  pub sent_at_once :
      (o : Option Behind) (old new : CoreState) (heard : HeardLine) (text : List ℕ) (result : Result (Unit {0}) Stop) (a : Change) →
      EventIsHeard port cs (both old o) heard (both new o) text × IsHeardUpTo port cs (both old o) heard (both new o) [] text → SendsText result text a → IsTrue a.old.output.is_flushed →
      HearsTo port cs (both old o) heard result (both new o) a
  sent_at_once o old new heard text (Ok u) a is sent flushed = (text, (is.0, sent))
  sent_at_once o old new heard text (Err stop) a is sent flushed =
      stops_at_once (both old o) (both new o) heard text stop a flushed is.1 sent

  -- the last line of a tick, after those before
  pub sent_last :
      (old new : World) (heard : HeardLine) (told own : List ℕ) (result : Result (Unit {0}) Stop) (a b : Change) → a.new ≡ b.old → IsSentWhole told a →
      EventIsHeard port cs old heard new (told ++ own) → IsHeardUpTo port cs old heard new told own →
      SendsText result own b → HearsTo port cs old heard result new (joined_changes a b)
  sent_last old new heard told own (Ok u) a b same before is up_to sent = (told ++ own, (is, all_then a b same told own before sent))
  sent_last old new heard told own (Err stop) a b same before is up_to sent = stops_short old new heard told own stop a b same before up_to sent

  -- the lines before the first request are cut short
  pub stops_at_first :
      (t : ℕ) (o : Option Behind) (old k : CoreState) (asked mid : List ℕ) → Ticks t old (out.Ask asked) k [] mid → (stop : Stop) (a : Change) → IsTrue a.old.output.is_flushed → SendsText (Err stop) mid a →
      HearsTo port cs (both old o) (heards.Tick t) (Err stop) (both k o) a
  stops_at_first t o old k asked mid ticks stop a flushed sent =
      stops_at_once (both old o) (both k o) (heards.Tick t) mid stop a flushed
      (inr (none_asked port cs t old k asked mid ticks o)) sent

  -- a round after the lines before its first request
  module _ (t : ℕ) (o new : Option Behind) (old k final : CoreState) (asked mid : List ℕ) (ticks : Ticks t old (out.Ask asked) k [] mid) (a b : Change) (same : a.new ≡ b.old) (before : IsSentWhole mid a) where
    round_cut : IsRoundCut port cs t (both k o) asked (both final new) b → EventIsCutOff port cs (both old o) (heards.Tick t) (both final new) [] (joined_changes a b)
    round_cut cut =
        let rest = take cut.n cut.own in
        record {
          told = mid ++ cut.told;
          own = cut.own;
          up_to = inr (one_more port cs t old k asked mid ticks o (both final new) cut.told cut.own cut.up_to);
          n = cut.n;
          front = subst (Appends a.old.output.written b.new.output.written) (sym (append_assoc mid cut.told rest)) (appends a b same mid (cut.told ++ rest) before.0.0 cut.front);
        }

    round_broken : IsRoundBroken port cs t (both k o) asked (both final new) b → IsBrokenOff port cs (both old o) (heards.Tick t) (both final new) [] (joined_changes a b)
    round_broken broken = record {
      t = t;
      is = refl;
      told = mid ++ broken.told;
      mid = broken.mid;
      others = broken.so_far.others;
      so_far = some_answered port cs t old k asked mid ticks o broken.mid broken.told broken.so_far;
      written = appends a b same mid broken.told before.0.0 broken.written;
      left = broken.left;
    }

    pub round_stops : (stop : Stop) → TellsRound port cs t (both k o) asked (Err stop) (both final new) b → HearsTo port cs (both old o) (heards.Tick t) (Err stop) (both final new) (joined_changes a b)
    round_stops stops.Write h = (subst (λ n. HasFailed n b.new.failed_calls) (sym (ap (λ (s : Seen). s.failed_calls) same) ∙ before.1) h.0, round_cut h.1)
    round_stops stops.Memory (inl h) = inr (inl (round_broken h))
    round_stops stops.Memory (inr h) = inr (inr (h.0, round_cut h.1))
    round_stops _ h = absurd h

    -- memory was wanting after the round
    pub round_memory : (next : Option ℕ) → TellsRound port cs t (both k o) asked (Ok next) (both final new) b → HearsTo port cs (both old o) (heards.Tick t) (Err stops.Memory) (both final new) (joined_changes a b)
    round_memory next h = inr (inl (round_broken (record {
      told = h.0;
      mid = both final new;
      so_far = so_far port cs t (both k o) (both final new) asked asked [] next h.0 (append-nil asked) h.1.0;
      left = refl;
      written = h.1.1.0.0;
    })))

    -- the last line is sent
    pub round_sent :
        (next : Option ℕ) (own : List ℕ) (result : Result (Unit {0}) Stop) (d : Change) → b.new ≡ d.old → own ≡ next_tick_line next → TellsRound port cs t (both k o) asked (Ok next) (both final new) b → SendsText result own d →
        HearsTo port cs (both old o) (heards.Tick t) result (both final new) (joined_changes (joined_changes a b) d)
    round_sent next own result d then' is h sent =
        let line = subst (λ l. SendsText result l d) is sent in
        sent_last (both old o) (both final new) (heards.Tick t) (mid ++ h.0) (next_tick_line next) result (joined_changes a b) d then' (sent_then a b same mid h.0 before h.1.1)
        (inr (round_heard port cs t old k asked mid ticks o (both final new) next h.0 h.1.0)) (inr (last_under_way port cs t old k asked mid ticks o (both final new) next h.0 h.1.0)) line

-- ---- a line that asks nobody

module _ (port : ℕ) (cs : List (List ℕ)) (o : Option Behind) (old new : CoreState) where
  -- why a need stops, and nothing is sent
  pub need_halts :
      (i until : ℕ) (heard : HeardLine) (stop : Stop) (out : Change) → heard ≡ Need i until → out.new ≡ out.old →
      StopsNeed (both old o) (Need i until) stop (both new o) → HearsTo port cs (both old o) heard (Err stop) (both new o) out
  need_halts i until heard stops.TooLong out is same h = (
    subst (λ (q : HeardLine). NeedIsOverlong (both old o) q (both new o)) (sym is) h,
    same,
  )
  need_halts i until heard stops.Memory out is same h = inl (subst (λ (q : HeardLine). HearingMayWantMemory old q) (sym is) tt, (refl, untouched_appends out same))
  need_halts i until heard _ out is same h = absurd h

  -- the lines of a need are sent
  pub need_sent :
      (i until : ℕ) (heard : HeardLine) (before after : List ℕ) (result : Result (Unit {0}) Stop) (out : Change) → heard ≡ Need i until → before ≡ [] →
      (lines : List ℕ) × (NeedIsInForce i until (both old o) (both new o) lines × (after ≡ before ++ lines)) → SendsText result after out → IsTrue out.old.output.is_flushed → HearsTo port cs (both old o) heard result (both new o) out
  need_sent i until heard before after result out is empty needed sent flushed =
      let text : after ≡ needed.0 = needed.1.1 ∙ ap (λ l. l ++ needed.0) empty in
      let one = subst (NeedIsInForce i until (both old o) (both new o)) (sym text) needed.1.0 in
      sent_at_once port cs o old new heard after result out
      (subst (λ (q : HeardLine). EventIsHeard port cs (both old o) q (both new o) after × IsHeardUpTo port cs (both old o) q (both new o) [] after) (sym is) (one, (refl, one))) sent flushed

-- the line of an unknown name is sent
pub unknown_sent :
    (port : ℕ) (cs : List (List ℕ)) (o : Option Behind) (old : CoreState) (heard : HeardLine) (result : Result (Unit {0}) Stop) (out : Change) → heard ≡ heards.Unknown → SendsText result (codes "fault unknown-name\n") out → IsTrue out.old.output.is_flushed →
    HearsTo port cs (both old o) heard result (both old o) out
unknown_sent port cs o old heard result out is sent flushed =
    sent_at_once port cs o old old heard (codes "fault unknown-name\n") result out
    (subst (λ (q : HeardLine). EventIsHeard port cs (both old o) q (both old o) (codes "fault unknown-name\n") × IsHeardUpTo port cs (both old o) q (both old o) [] (codes "fault unknown-name\n")) (sym is)
    ((refl, refl), (refl, (refl, refl))))
    sent flushed

-- the line of a tick before the last moment is sent
pub late_sent :
    (port : ℕ) (cs : List (List ℕ)) (o : Option Behind) (t : ℕ) (old : CoreState) (result : Result (Unit {0}) Stop) (out : Change) → t < old.last → SendsText result (codes "fault clock-back\n") out → IsTrue out.old.output.is_flushed →
    HearsTo port cs (both old o) (heards.Tick t) result (both old o) out
late_sent port cs o t old result out late sent flushed =
    sent_at_once port cs o old old (heards.Tick t) (codes "fault clock-back\n") result out (inl (late, (refl, refl)), inl (refl, (late, (refl, refl)))) sent flushed

-- the lines of a tick that asks nobody are sent
pub quiet_sent :
    (port : ℕ) (cs : List (List ℕ)) (o : Option Behind) (t : ℕ) (old new : CoreState) (output : Output) (mid after : List ℕ) (result : Result (Unit {0}) Stop) (out : Change) → Ticks t old output new [] mid → asked_by_output output ≡ [] →
    asks_some output ≡ false → after ≡ mid ++ last_tick_line output [] → SendsText result after out → IsTrue out.old.output.is_flushed → HearsTo port cs (both old o) (heards.Tick t) result (both new o) out
quiet_sent port cs o t old new output mid after result out ticks none nobody last sent flushed =
    sent_at_once port cs o old new (heards.Tick t) after result out (let h = quiet_heard port cs t old o new output mid after ticks none nobody last in (inr h.0, inr h.1)) sent flushed
