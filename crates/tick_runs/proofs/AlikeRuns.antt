-- Alike runs: over two brokers whose tables differ in credentials alone, two runs of one keeper go on by the same ticks, as far
-- as both go.
use Rattle.std.proofs.Common.{◌≡◌, ◌∙◌, ℕ, suc, ◌+◌, ◌<◌, ◌⊎◌, cond, List, [], ◌∷◌, ◌++◌, Option, Some, None, Result, Ok, flat_map, inl, inr, length, map, refl, sym, ap, subst}
use Rattle.std.specs.List.{All}
use Rattle.plan_forest.specs.Forest.{Forest}
use Rattle.vault_inventory.specs.{Inventories.IsInventory, Inventories.Inventory, declared.terms.Terms.Terms}
use Rattle.tick_keeper.specs.{declared.event.Event.TheVariants.Tick, declared.event.Output.Output, declared.fault.StepFault.StepFault, History.CoreTurn, State.CoreState}
use Rattle.tick_keeper.specs.declared.event.Output.TheVariants as out
use Rattle.tick_keeper.proofs.{Once.once, Shaped.shape}
use Rattle.vault_exchange.specs.Exchanges.{Behind}
use Rattle.broker_alike.specs.Alike.{AreBrokersAlike, KeepsSupplied}
use Rattle.tick_runs.specs.Stops.{both}
use Rattle.tick_runs.specs.Closed.{AreAnswered, Beat, Exchanged, IsBeat, Played, World, asked_by_output, asks_some, closing, next_by, next_tick, request_count, rounds, shorts_taken}
use Rattle.tick_runs.specs.Text.{answer_text, beat_text, short_need_lines, wake_line_of_output}
use Rattle.tick_runs.proofs.{AlikeAnswers.answers_both, Running.more_requests, Shaped.kept_shaped, Within.asked_within}

-- told by the names of a forest that has kept what this one had
module _ (g : Forest) (cs ds : List (List ℕ)) (ts : List Terms) (one : IsInventory (record { forest = g; credentials = cs; terms = ts })) (two : IsInventory (record { forest = g; credentials = ds; terms = ts })) (names : Forest) (us : List Terms) (told : KeepsSupplied g names) where
  abbrev v : Inventory
  v = record { forest = names; credentials = cs; terms = us }

  abbrev w : Inventory
  w = record { forest = names; credentials = ds; terms = us }

  -- what the ticks x and y leave
  pub record AreBeatsAlike (x y : Beat) (new last : World) : Type 0 where
    pub output : y.output ≡ x.output
    pub count : length y.answers ≡ length x.answers
    pub next : next_tick y ≡ next_tick x
    pub keeper : last.keeper ≡ new.keeper
    pub brokers : AreBrokersAlike g cs ds new.behind last.behind
    pub text : beat_text w y ≡ beat_text v x
    pub kept : KeepsSupplied g new.keeper.forest

  next_same : (o : Output) (xs ys : List Exchanged) → closing None ys ≡ closing None xs → next_by o ys ≡ next_by o xs
  next_same (out.Ask asked) xs ys same = same
  next_same _ xs ys same = refl

  pub beats_both : (port other : ℕ) (k : CoreState) (b c : Option Behind) (x y : Beat) (new last : World) → KeepsSupplied g k.forest → y.at ≡ x.at → AreBrokersAlike g cs ds b c → IsBeat port cs (both k b) x new → IsBeat other ds (both k c) y last →
      AreBeatsAlike x y new last
  unfolding beat_text
  beats_both port other k b c x y new last like at alike a d =
      let turns = once k a.keeper d.keeper (Tick x.at) (Ok x.output) (Ok y.output) (λ bad. cc) (λ bad. cc) a.turn (subst (λ t. CoreTurn k (Tick t) (Ok y.output) d.keeper) at d.turn) in
      let output : y.output ≡ x.output = (let same : ◌≡◌ {A = Result Output StepFault} (Ok x.output) (Ok y.output) = turns.0 in cc) in
      let short : y.short ≡ x.short = d.short ∙ ap (λ (z : CoreState). z.shortened) (sym turns.1) ∙ sym a.short in
      let kept : KeepsSupplied g a.keeper.forest = kept_shaped g k.forest a.keeper.forest like (shape k a.keeper (Tick x.at) (Ok x.output) a.turn) in
      let within : All (λ i. i < length g.entries) (map (λ (z : Exchanged). z.entry) x.answers) =
      subst (All (λ i. i < length g.entries)) (sym a.asked) (subst (λ n. All (λ i. i < n) (asked_by_output x.output)) kept.count (asked_within k a.keeper x.at x.output a.turn)) in
      let who : map (λ (z : Exchanged). z.entry) y.answers ≡ map (λ (z : Exchanged). z.entry) x.answers = d.asked ∙ ap asked_by_output output ∙ sym a.asked in
      let answered = subst (λ t. AreAnswered other ds t (both (shorts_taken a.keeper) c) y.answers last) at (subst (λ (z : CoreState). AreAnswered other ds y.at (both (shorts_taken z) c) y.answers last) (sym turns.1) d.answered) in
      let rest = answers_both g cs ds ts one two names us told port other x.at (shorts_taken a.keeper) b c x.answers y.answers new last kept within who alike a.answered answered in
      record {
        output = output;
        count = rest.count;
        next = ap (λ (o : Output). next_by o y.answers) output ∙ next_same x.output x.answers y.answers (rest.closes None);
        keeper = rest.keeper;
        brokers = rest.brokers;
        text = ap (λ ps. short_need_lines names ps ++ (wake_line_of_output names y.at y.output ++ flat_map (answer_text w) y.answers)) short
            ∙ ap (λ t. short_need_lines names x.short ++ (wake_line_of_output names t y.output ++ flat_map (answer_text w) y.answers)) at
            ∙ ap (λ (o : Output). short_need_lines names x.short ++ (wake_line_of_output names x.at o ++ flat_map (answer_text w) y.answers)) output
            ∙ ap (λ l. short_need_lines names x.short ++ (wake_line_of_output names x.at x.output ++ l)) rest.text;
        kept = rest.kept;
      }

  -- ---- runs

  -- ticks that are alike, and what they leave
  pub record AreRunsAlike (xs ys : List Beat) (new last : World) (next then' : Option ℕ) : Type 0 where
    pub wakes : length (rounds ys) ≡ length (rounds xs)
    pub asked : request_count ys ≡ request_count xs
    pub text : flat_map (beat_text w) ys ≡ flat_map (beat_text v) xs
    pub next_is : then' ≡ next
    pub keeper : last.keeper ≡ new.keeper
    pub brokers : AreBrokersAlike g cs ds new.behind last.behind
    pub kept : KeepsSupplied g new.keeper.forest

  -- the run by ys goes as that by xs, and on
  pub record GoesFurther (other : ℕ) (old : World) (due : Option ℕ) (xs ys : List Beat) (new last : World) (next then' : Option ℕ) : Type 0 where
    pub front : List Beat
    pub more : List Beat
    pub mid : World
    pub at : Option ℕ
    pub parts : ys ≡ front ++ more
    pub played : Played other ds old due front mid at
    pub goes_on : Played other ds mid at more last then'
    pub alike : AreRunsAlike xs front new mid next at

  -- the run by xs goes as that by ys, and on
  pub record GoneFurther (port : ℕ) (old : World) (due : Option ℕ) (xs ys : List Beat) (new last : World) (next then' : Option ℕ) : Type 0 where
    pub front : List Beat
    pub more : List Beat
    pub mid : World
    pub at : Option ℕ
    pub parts : xs ≡ front ++ more
    pub played : Played port cs old due front mid at
    pub goes_on : Played port cs mid at more new next
    pub alike : AreRunsAlike front ys mid last at then'

  none_yet : (k : CoreState) (b c : Option Behind) (due : Option ℕ) → KeepsSupplied g k.forest → AreBrokersAlike g cs ds b c → AreRunsAlike [] [] (both k b) (both k c) due due
  unfolding rounds request_count
  none_yet k b c due like alike = record { wakes = refl; asked = refl; text = refl; next_is = refl; keeper = refl; brokers = alike; kept = like }

  count_more : (o p : Output) (x y : Beat) (xs ys : List Beat) → p ≡ o → length ys ≡ length xs → length (cond (asks_some p) (y ∷ ys) ys) ≡ length (cond (asks_some o) (x ∷ xs) xs)
  count_more (out.Ask asked) p x y xs ys same rest = ap (λ (q : Output). length (cond (asks_some q) (y ∷ ys) ys)) same ∙ ap (λ n. suc n) rest
  count_more _ p x y xs ys same rest = ap (λ (q : Output). length (cond (asks_some q) (y ∷ ys) ys)) same ∙ rest

  one_more : (x y : Beat) (xs ys : List Beat) (mid mid' new last : World) (next then' : Option ℕ) → AreBeatsAlike x y mid mid' → AreRunsAlike xs ys new last next then' → AreRunsAlike (x ∷ xs) (y ∷ ys) new last next then'
  unfolding rounds
  one_more x y xs ys mid mid' new last next then' first rest =
      record {
        wakes = count_more x.output y.output x y (rounds xs) (rounds ys) first.output rest.wakes;
        asked = more_requests y ys ∙ ap (λ n. n + request_count ys) first.count ∙ ap (λ n. length x.answers + n) rest.asked ∙ sym (more_requests x xs);
        text = ap (λ l. l ++ flat_map (beat_text w) ys) first.text ∙ ap (λ l. beat_text v x ++ l) rest.text;
        next_is = rest.next_is;
        keeper = rest.keeper;
        brokers = rest.brokers;
        kept = rest.kept;
      }

  abbrev pub Compared : ℕ → ℕ → World → World → Option ℕ → List Beat → List Beat → World → World → Option ℕ → Option ℕ → Type 0
  Compared port other old begun due xs ys new last next then' = GoesFurther other begun due xs ys new last next then' ⊎ GoneFurther port old due xs ys new last next then'

  -- one of two such runs goes as the other, and on
  pub compare : (port other : ℕ) (k : CoreState) (b c : Option Behind) (due : Option ℕ) (xs ys : List Beat) (new last : World) (next then' : Option ℕ) → KeepsSupplied g k.forest → AreBrokersAlike g cs ds b c →
      Played port cs (both k b) due xs new next → Played other ds (both k c) due ys last then' → Compared port other (both k b) (both k c) due xs ys new last next then'
  compare port other k b c due [] ys new last next then' like alike a d =
      inl (record {
        front = [];
        more = ys;
        mid = both k c;
        at = due;
        parts = refl;
        played = (refl, refl);
        goes_on = d;
        alike = subst (λ (z : World). AreRunsAlike [] [] z (both k c) next due) (sym a.0) (subst (λ o. AreRunsAlike [] [] (both k b) (both k c) o due) (sym a.1) (none_yet k b c due like alike));
      })
  compare port other k b c due (x ∷ xs) [] new last next then' like alike a d =
      inr (record {
        front = [];
        more = x ∷ xs;
        mid = both k b;
        at = due;
        parts = refl;
        played = (refl, refl);
        goes_on = a;
        alike = subst (λ (z : World). AreRunsAlike [] [] (both k b) z due then') (sym d.0) (subst (λ o. AreRunsAlike [] [] (both k b) (both k c) due o) (sym d.1) (none_yet k b c due like alike));
      })
  compare port other k b c None (x ∷ xs) (y ∷ ys) new last next then' like alike a d = absurd a
  compare port other k b c (Some t) (x ∷ xs) (y ∷ ys) new last next then' like alike a d =
      let mid = a.1.0 in
      let mid' = d.1.0 in
      let first = beats_both port other k b c x y mid mid' like (d.0 ∙ sym a.0) alike a.1.1.0 d.1.1.0 in
      let rest = subst (λ (z : CoreState). Played other ds (both z mid'.behind) (next_tick x) ys last then') first.keeper (subst (λ o. Played other ds mid' o ys last then') first.next d.1.1.1) in
      elim (compare port other mid.keeper mid.behind mid'.behind (next_tick x) xs ys new last next then' first.kept first.brokers a.1.1.1 rest) [
        | inl g' ↦ inl (record {
          front = y ∷ g'.front;
          more = g'.more;
          mid = g'.mid;
          at = g'.at;
          parts = ap (λ zs. y ∷ zs) g'.parts;
          played = (d.0, (mid', (d.1.1.0, subst (λ o. Played other ds mid' o g'.front g'.mid g'.at) (sym first.next) (subst (λ (z : CoreState). Played other ds (both z mid'.behind) (next_tick x) g'.front g'.mid g'.at) (sym first.keeper) g'.played))));
          goes_on = g'.goes_on;
          alike = one_more x y xs g'.front mid mid' new g'.mid next g'.at first g'.alike;
        })
        | inr g' ↦ inr (record {
          front = x ∷ g'.front;
          more = g'.more;
          mid = g'.mid;
          at = g'.at;
          parts = ap (λ zs. x ∷ zs) g'.parts;
          played = (a.0, (mid, (a.1.1.0, g'.played)));
          goes_on = g'.goes_on;
          alike = one_more x y g'.front ys mid mid' g'.mid last g'.at then' first g'.alike;
        })
      ]
