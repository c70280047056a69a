-- What the loops of the program keep, with a tick more or an answer more, and at the end.
use Rattle.std.proofs.Common.{◌≡◌, ◌≤◌, [], ◌∷◌, ◌++◌, Some, None, length, refl, ap, ◌∙◌, subst}
use Rattle.std.proofs.lemmas.List.{append_assoc}
use Rattle.std.specs.List.{flat_map}
use Rattle.tick_runs.specs.Closed.{IsBeat, RequestIsAnswered, next_tick, request_count, rounds, told_next}
use Rattle.tick_runs.specs.Stops.{AnswerMoreLaw, EndLaw, SplitLaw, TickMoreLaw}
use Rattle.tick_runs.specs.Text.{beat_text, course_text, done_text, short_need_lines}

pub tick_more : TickMoreLaw
tick_more port cs old mid new None [] b played beat = absurd (let bad = played.1 in cc)
tick_more port cs old mid new (Some t) [] b played beat =
    let at : b.at ≡ t = (let e = played.1 in cc) in
    (at, (new, (subst (λ w. IsBeat port cs w b new) played.0 beat, (refl, refl))))
tick_more port cs old mid new None (c ∷ bs) b played beat = absurd played
tick_more port cs old mid new (Some t) (c ∷ bs) b played beat =
    (played.0, (played.1.0, (played.1.1.0, tick_more port cs played.1.0 mid new (next_tick c) bs b played.1.1.1 beat)))

pub answer_more : AnswerMoreLaw
answer_more port cs t old mid new [] x answers one = ((new, (subst (λ w. RequestIsAnswered port cs t w x new) answers one, refl)), λ next. refl)
answer_more port cs t old mid new (y ∷ xs) x answers one =
    let more = answer_more port cs t answers.0 mid new xs x answers.1.1 one in
    ((answers.0, (answers.1.0, more.0)), λ next. more.1 (told_next next y.output))

pub at_end : EndLaw
unfolding course_text
at_end inventory faults start final wakes asked text s few = (
  record { short = s.short; beats = s.beats },
  (
    record { opening = s.opening; opened = s.opened; played = s.played; few = subst (λ n. n ≤ 100000) s.wakes_are few },
    ap (λ xs. xs ++ done_text wakes asked) s.text_is
        ∙ ap (λ n. (short_need_lines inventory.forest s.short ++ flat_map (beat_text inventory) s.beats) ++ done_text n asked) s.wakes_are
        ∙ ap (λ n. (short_need_lines inventory.forest s.short ++ flat_map (beat_text inventory) s.beats) ++ done_text (length (rounds s.beats)) n) s.asked_are
        ∙ append_assoc (short_need_lines inventory.forest s.short) (flat_map (beat_text inventory) s.beats) (done_text (length (rounds s.beats)) (request_count s.beats)),
  ),
)

pub split : SplitLaw
split port cs old new due next [] after played = (old, (due, ((refl, refl), played)))
split port cs old new None next (b ∷ bs) after played = absurd played
split port cs old new (Some t) next (b ∷ bs) after played =
    let more = split port cs played.1.0 new (next_tick b) next bs after played.1.1.1 in
    (more.0, (more.1.0, ((played.0, (played.1.0, (played.1.1.0, more.1.1.0))), more.1.1.1)))
