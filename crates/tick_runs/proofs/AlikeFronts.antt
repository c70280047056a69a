-- Alike fronts: of what two inventories that differ in credentials alone have written of their rehearsals so far, the one is a
-- front of the other.
use Rattle.std.proofs.Common.{◌≡◌, ◌∙◌, ℕ, ◌⊎◌, List, [], ◌++◌, Some, None, append-nil, flat_map, inl, inr, length, refl, sym, ap, subst}
use Rattle.std.proofs.lemmas.{Grind.flat_map-append, List.append_assoc}
use Rattle.plan_forest.specs.Forest.{Forest}
use Rattle.vault_inventory.specs.{Inventories.IsInventory, Inventories.Inventory, declared.terms.Terms.Terms}
use Rattle.broker_rule.specs.declared.fault.NumberedFault.{NumberedFault}
use Rattle.tick_keeper.specs.declared.shortened.ShortNeed.{ShortNeed}
use Rattle.tick_runs.specs.{Rehearse.IsRunText, Stops.RunIsStopped}
use Rattle.tick_runs.specs.Closed.{Beat, IsClosedRun, Played, RunCourse, World, request_count, rounds}
use Rattle.tick_runs.specs.Text.{beat_text, course_text, done_text, short_need_lines}
use Rattle.tick_runs.proofs.AlikeCourses.{compare_from, ended, openings_both, whole}

-- the one is a front of the other
abbrev pub AreFronts : List ℕ → List ℕ → Type 0
AreFronts x y = ((rest : List ℕ) × (y ≡ x ++ rest)) ⊎ ((rest : List ℕ) × (x ≡ y ++ rest))

less : (x y rest : List ℕ) → y ≡ x ++ rest → AreFronts x y
less x y rest is = inl (rest, is)

more : (x y rest : List ℕ) → x ≡ y ++ rest → AreFronts x y
more x y rest is = inr (rest, is)

equal : (x y : List ℕ) → y ≡ x → AreFronts x y
equal x y same = inl ([], same ∙ sym (append-nil x))

-- ---- whole runs, and runs that stop, are such texts

pub run_of_course : (s : Inventory) (faults : List NumberedFault) (start : ℕ) (course : RunCourse) (final : World) → IsClosedRun s faults start course final → IsRunText s faults start (course_text s course)
unfolding course_text
run_of_course s faults start course final run =
    let lines = short_need_lines s.forest course.short ++ flat_map (beat_text s) course.beats in
    let wakes = length (rounds course.beats) in
    let asked = request_count course.beats in
    record {
      final = final;
      next = None;
      wakes = wakes;
      asked = asked;
      lines = lines;
      so_far = record { short = course.short; opening = run.opening; opened = run.opened; beats = course.beats; played = run.played; wakes_are = refl; asked_are = refl; text_is = refl };
      text_is = inr (refl, sym (append_assoc (short_need_lines s.forest course.short) (flat_map (beat_text s) course.beats) (done_text wakes asked)));
    }

pub run_of_stopped : (s : Inventory) (faults : List NumberedFault) (start : ℕ) (final : World) (text : List ℕ) → RunIsStopped s faults start final text → IsRunText s faults start text
run_of_stopped s faults start final text stopped = record { final = final; next = Some stopped.due; wakes = 100000; asked = stopped.asked; lines = text; so_far = stopped.so_far; text_is = inl refl }

module _ (g : Forest) (cs ds : List (List ℕ)) (ts : List Terms) (one : IsInventory (record { forest = g; credentials = cs; terms = ts })) (two : IsInventory (record { forest = g; credentials = ds; terms = ts })) where
  abbrev s : Inventory
  s = record { forest = g; credentials = cs; terms = ts }

  abbrev u : Inventory
  u = record { forest = g; credentials = ds; terms = ts }

  module _ (faults : List NumberedFault) (start : ℕ) where
    -- the lines of a run that goes further go on
    lines_on : (v : Inventory) (l : List ℕ) (short shorter : List ShortNeed) (beats front rest : List Beat) → shorter ≡ short → beats ≡ front ++ rest → flat_map (beat_text v) front ≡ l →
        short_need_lines g shorter ++ flat_map (beat_text v) beats ≡ (short_need_lines g short ++ l) ++ flat_map (beat_text v) rest
    lines_on v l short shorter beats front rest same parts text =
        ap (λ ps. short_need_lines g ps ++ flat_map (beat_text v) beats) same
        ∙ ap (λ bs. short_need_lines g short ++ flat_map (beat_text v) bs) parts
        ∙ ap (λ k. short_need_lines g short ++ k) (flat_map-append (beat_text v) front rest)
        ∙ ap (λ k. short_need_lines g short ++ (k ++ flat_map (beat_text v) rest)) text
        ∙ sym (append_assoc (short_need_lines g short) l (flat_map (beat_text v) rest))

    none_left : (v : Inventory) (x : List ℕ) (rest : List Beat) → rest ≡ [] → x ++ flat_map (beat_text v) rest ≡ x
    none_left v x rest none = ap (λ bs. x ++ flat_map (beat_text v) bs) none ∙ append-nil x

    pub fronts_both : (x y : List ℕ) → IsRunText s faults start x → IsRunText u faults start y → AreFronts x y
    fronts_both x y a b =
        let first = a.so_far in
        let second = b.so_far in
        let begun = openings_both g cs ds ts one two faults start first.short second.short first.opening second.opening first.opened second.opened in
        elim (compare_from g cs ds ts one two faults start first.short second.short first.opening second.opening first.beats second.beats a.final b.final a.next b.next first.opened second.opened first.played second.played) [
          | inl z ↦
              let rest = flat_map (beat_text u) z.more in
              let on : b.lines ≡ a.lines ++ rest =
              second.text_is ∙ lines_on u (flat_map (beat_text s) first.beats) first.short second.short second.beats z.front z.more begun.same z.parts z.alike.text ∙ ap (λ k. k ++ rest) (sym first.text_is) in
              elim a.text_is [
                | inl part ↦ elim b.text_is [
                  | inl part' ↦ less x y rest (part' ∙ on ∙ ap (λ k. k ++ rest) (sym part))
                  | inr all' ↦
                      less x y (rest ++ done_text b.wakes b.asked)
                      (all'.1 ∙ ap (λ k. k ++ done_text b.wakes b.asked) (on ∙ ap (λ k. k ++ rest) (sym part)) ∙ append_assoc x rest (done_text b.wakes b.asked))
                ]
                | inr all ↦
                    let none = (ended 8200 ds z.mid b.final b.next z.more (subst (λ o. Played 8200 ds z.mid o z.more b.final b.next) (z.alike.next_is ∙ all.0) z.goes_on)).0 in
                    let same : b.lines ≡ a.lines = on ∙ none_left u a.lines z.more none in
                    let beats : second.beats ≡ z.front = whole second.beats z.front z.more z.parts none in
                    let wakes : b.wakes ≡ a.wakes = second.wakes_are ∙ ap (λ bs. length (rounds bs)) beats ∙ z.alike.wakes ∙ sym first.wakes_are in
                    let asked : b.asked ≡ a.asked = second.asked_are ∙ ap request_count beats ∙ z.alike.asked ∙ sym first.asked_are in
                    elim b.text_is [
                      | inl part' ↦ more x y (done_text a.wakes a.asked) (all.1 ∙ ap (λ k. k ++ done_text a.wakes a.asked) (sym same ∙ sym part'))
                      | inr all' ↦
                          equal x y (all'.1 ∙ ap (λ k. k ++ done_text b.wakes b.asked) same ∙ ap (λ n. a.lines ++ done_text n b.asked) wakes ∙ ap (λ n. a.lines ++ done_text a.wakes n) asked ∙ sym all.1)
                    ]
              ]
          | inr z ↦
              let rest = flat_map (beat_text s) z.more in
              let on : a.lines ≡ b.lines ++ rest =
              first.text_is ∙ lines_on s (flat_map (beat_text u) second.beats) second.short first.short first.beats z.front z.more (sym begun.same) z.parts (sym z.alike.text) ∙ ap (λ k. k ++ rest) (sym second.text_is) in
              elim b.text_is [
                | inl part' ↦ elim a.text_is [
                  | inl part ↦ more x y rest (part ∙ on ∙ ap (λ k. k ++ rest) (sym part'))
                  | inr all ↦
                      more x y (rest ++ done_text a.wakes a.asked)
                      (all.1 ∙ ap (λ k. k ++ done_text a.wakes a.asked) (on ∙ ap (λ k. k ++ rest) (sym part')) ∙ append_assoc y rest (done_text a.wakes a.asked))
                ]
                | inr all' ↦
                    let none = (ended 8200 cs z.mid a.final a.next z.more (subst (λ o. Played 8200 cs z.mid o z.more a.final a.next) (sym z.alike.next_is ∙ all'.0) z.goes_on)).0 in
                    let same : a.lines ≡ b.lines = on ∙ none_left s b.lines z.more none in
                    let beats : first.beats ≡ z.front = whole first.beats z.front z.more z.parts none in
                    let wakes : b.wakes ≡ a.wakes = second.wakes_are ∙ z.alike.wakes ∙ ap (λ bs. length (rounds bs)) (sym beats) ∙ sym first.wakes_are in
                    let asked : b.asked ≡ a.asked = second.asked_are ∙ z.alike.asked ∙ ap request_count (sym beats) ∙ sym first.asked_are in
                    elim a.text_is [
                      | inl part ↦ less x y (done_text b.wakes b.asked) (all'.1 ∙ ap (λ k. k ++ done_text b.wakes b.asked) (sym same ∙ sym part))
                      | inr all ↦
                          equal x y (all'.1 ∙ ap (λ k. k ++ done_text b.wakes b.asked) (sym same) ∙ ap (λ n. a.lines ++ done_text n b.asked) wakes ∙ ap (λ n. a.lines ++ done_text a.wakes n) asked ∙ sym all.1)
                    ]
              ]
        ]
