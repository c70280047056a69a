-- InStep: what goes out on lanes and comes back from them, beside what the machine has out. For `send` and the law of lanes that
-- stay in step.
use Rattle.std.proofs.Common.{◌≡◌, ◌∙◌, ℕ, ◌+◌, ◌≤◌, Bool, cond, ◌==◌, List, [], ◌∷◌, ◌++◌, Ok, length, map, refl, sym, ap, subst, arith, inl, inr}
use Rattle.std.proofs.lemmas.List.{length-append, length-map}
use Rattle.vault_inventory.specs.Inventories.{Inventory}
use Rattle.vault_lanes.specs.Out as lanes
use Rattle.vault_lanes.specs.{Out.IsParted, Out.OutIsPut, declared.lanes.Answered.Answered}
use Rattle.watch_machine.specs.{declared.command.WatchOutput.WatchOutput, declared.command.WatchRequest.WatchRequest, declared.lanes.Out.Out, History.Turn, State.WatchState, State.fresh_track}
use Rattle.watch_machine.specs.declared.event.WatchEvent.TheVariants.{Need, Begin, Known}
use Rattle.vault_asking.specs.Handing.{AreHandedIn}
use Rattle.vault_asking.specs.InStep.{AreOut, IsAbreast, entries_answered, entries_on, entries_out, times}
use Rattle.vault_asking.specs.Laws.{AnswersLaw, ClockLaw, NewLaw, OtherLaw}
use Rattle.vault_asking.specs.Sending.{GoOut, GoesOut, Lanes}
use Rattle.vault_asking.proofs.AnswersOut.{are_over}
use Rattle.vault_asking.proofs.Sound.{Gone, IsQuiet, entries_asked, times_append, times_cons, turn_begin, turn_gone, turn_known, turn_need}

-- ---- requests go out

entries_on_append : (xs ys : List lanes.Out) → entries_on (xs ++ ys) ≡ entries_on xs ++ entries_on ys
entries_on_append [] ys = refl
entries_on_append (x ∷ xs) ys = ap (λ ns. x.index ∷ ns) (entries_on_append xs ys)

-- one lane more
put_times : (o : lanes.Out) (old new : List lanes.Out) → OutIsPut o old new → (i : ℕ) → times i (entries_on new) ≡ times i (o.index ∷ entries_on old)
put_times o old new h i =
    let after = ap (λ out. times i (entries_on out)) h.new_is ∙ ap (times i) (entries_on_append h.before (o ∷ h.behind)) ∙ times_append i (entries_on h.before) (entries_on (o ∷ h.behind)) in
    let before = ap (λ out. times i (entries_on out)) h.old_is ∙ ap (times i) (entries_on_append h.before h.behind) ∙ times_append i (entries_on h.before) (entries_on h.behind) in
    let more = times_cons i o.index (entries_on h.behind) in
    let all = times_cons i o.index (entries_on old) in
    omega (arith, after, before, more, all)

pub put_count : (o : lanes.Out) (old new : List lanes.Out) → OutIsPut o old new → length new ≡ length old + 1
put_count o old new h =
    let after = ap length h.new_is ∙ length-append h.before (o ∷ h.behind) in
    let before = ap length h.old_is ∙ length-append h.before h.behind in
    omega (arith, after, before)

-- all of some requests went out
pub record AreSent (old : List lanes.Out) (requests : List WatchRequest) (new : List lanes.Out) : Type 0 where
  pub count : length new ≡ length old + length requests
  pub each : (i : ℕ) → times i (entries_on new) ≡ times i (entries_on old) + times i (entries_asked requests)

pub sent_all : (port : ℕ) (s : Inventory) (m : WatchState) (t now : ℕ) (requests : List WatchRequest) (old new : Lanes) → GoOut port s m t now requests old new → AreSent old.out requests new.out
sent_all port s m t now [] old new h = subst (λ (l : Lanes). AreSent old.out [] l.out) (sym h) (record { count = omega arith; each = λ i. omega arith })
sent_all port s m t now (r ∷ rest) old new h =
    let mid = h.0 in
    let put = h.1.0.sent.put in
    let more = sent_all port s m t now rest mid new h.1.1 in
    let one = put_count _ old.out mid.out put in
    let count = more.count in
    record {
      count = omega (arith, one, count);
      each = λ i.
          (let first = put_times _ old.out mid.out put i in
          let all = more.each i in
          let here = times_cons i r.entry (entries_on old.out) in
          let there = times_cons i r.entry (entries_asked rest) in
          omega (arith, first, all, here, there));
    }

-- as many lanes are free as the machine sends requests
pub lanes_free : (old mid : WatchState) (requests : List WatchRequest) (width : ℕ) (out : List lanes.Out) → IsAbreast old width out → Gone old requests mid → length out + length requests ≤ width
lanes_free old mid requests width out abreast gone =
    let w = abreast.width_is in
    let n = abreast.in_step.count in
    let few = gone.few in
    let room = abreast.room in
    omega (arith, w, n, few, room)

pub abreast_sent : (old mid : WatchState) (requests : List WatchRequest) (width : ℕ) (out new : List lanes.Out) → IsAbreast old width out → Gone old requests mid → AreSent out requests new → IsAbreast mid width new
abreast_sent old mid requests width out new abreast gone sent =
    let n = abreast.in_step.count in
    let a = gone.count in
    let b = sent.count in
    let free = lanes_free old mid requests width out abreast gone in
    record {
      width_is = gone.width ∙ abreast.width_is;
      room = omega (arith, b, free);
      sound = gone.sound;
      in_step = record {
        count = omega (arith, n, a, b);
        each = λ i.
            (let before = abreast.in_step.each i in
            let here = sent.each i in
            let there = ap (times i) gone.entries ∙ times_append i (entries_out old) (entries_asked requests) in
            omega (arith, before, here, there));
      };
    }

-- ---- answers come back

pub parted_times : (old : List lanes.Out) (answers : List Answered) (left : List lanes.Out) → IsParted old answers left → (i : ℕ) → times i (entries_on left) + times i (entries_answered answers) ≡ times i (entries_on old)
parted_times [] answers left h i = (let a = ap (λ (xs : List Answered). times i (entries_answered xs)) h.0 in let b = ap (λ (xs : List lanes.Out). times i (entries_on xs)) h.1 in omega (arith, a, b))
parted_times (o ∷ os) answers left h i = elim h [
  | inl back ↦
      let a = back.0 in
      let rest = parted_times os back.1 left back.2.1.1 i in
      let is = ap (λ (xs : List Answered). times i (entries_answered xs)) back.2.0 in
      let here = times_cons i a.index (entries_answered back.1) in
      let there = times_cons i o.index (entries_on os) in
      let same = ap {B = ℕ} (λ n. cond (n == i) 1 0) back.2.1.0.0 in
      omega (arith, rest, is, here, there, same)
  | inr stays ↦
      let rest = parted_times os answers stays.0 stays.1.1 i in
      let is = ap (λ (xs : List lanes.Out). times i (entries_on xs)) stays.1.0 in
      let here = times_cons i o.index (entries_on stays.0) in
      let there = times_cons i o.index (entries_on os) in
      omega (arith, rest, is, here, there)
]

pub parted_count : (old : List lanes.Out) (answers : List Answered) (left : List lanes.Out) → IsParted old answers left → length left + length answers ≡ length old
parted_count [] answers left h = (let a = ap length h.0 in let b = ap length h.1 in omega (arith, a, b))
parted_count (o ∷ os) answers left h = elim h [
  | inl back ↦ (let rest = parted_count os back.1 left back.2.1.1 in let is = ap length back.2.0 in omega (arith, rest, is))
  | inr stays ↦ (let rest = parted_count os answers stays.0 stays.1.1 in let is = ap length stays.1.0 in omega (arith, rest, is))
]

-- each is to a request that the machine has out
pub parted_out : (m : WatchState) (width : ℕ) (old : List lanes.Out) (answers : List Answered) (left : List lanes.Out) → IsAbreast m width old → IsParted old answers left → AreOut m answers
parted_out m width old answers left abreast parted = λ i. (let parts = parted_times old answers left parted i in let same = abreast.in_step.each i in omega (arith, parts, same))

pub abreast_handed_in :
    (s : Inventory) (old new : WatchState) (width : ℕ) (out : List lanes.Out) (answers : List Answered) (left : List lanes.Out) → IsAbreast old width out → IsParted out answers left → AreHandedIn s answers old new → IsAbreast new width left
abreast_handed_in s old new width out answers left abreast parted handed =
    let over = are_over s answers old new handed abreast.sound (parted_out old width out answers left abreast parted) in
    let n = abreast.in_step.count in
    let a = over.count in
    let b = parted_count out answers left parted in
    let room = abreast.room in
    record {
      width_is = over.width ∙ abreast.width_is;
      room = omega (arith, b, room);
      sound = over.sound;
      in_step = record {
        count = omega (arith, n, a, b);
        each = λ i.
            (let before = abreast.in_step.each i in
            let here = parted_times out answers left parted i in
            let there = over.each i in
            omega (arith, before, here, there));
      };
    }

-- ---- nothing goes out, and nothing comes back

pub abreast_quiet : (old new : WatchState) (width : ℕ) (out : List lanes.Out) → IsAbreast old width out → IsQuiet old new → IsAbreast new width out
abreast_quiet old new width out abreast quiet = record {
  width_is = quiet.width ∙ abreast.width_is;
  room = abreast.room;
  sound = quiet.sound;
  in_step = record {
    count = abreast.in_step.count ∙ sym (ap length quiet.out);
    each = λ i. abreast.in_step.each i ∙ sym (ap (λ (o : List Out). times i (map (λ (r : Out). r.entry) o)) quiet.out);
  };
}

pub abreast_need : (old new : WatchState) (i until : ℕ) (output : WatchOutput) (width : ℕ) (out : List lanes.Out) → Turn old (Need i until) (Ok output) new → IsAbreast old width out → IsAbreast new width out
abreast_need old new i until output width out turn abreast = abreast_quiet old new width out abreast (turn_need old new i until output turn abreast.sound)

pub abreast_begin : (old new : WatchState) (output : WatchOutput) (width : ℕ) (out : List lanes.Out) → Turn old Begin (Ok output) new → IsAbreast old width out → IsAbreast new width out
abreast_begin old new output width out turn abreast = abreast_quiet old new width out abreast (turn_begin old new output turn abreast.sound)

pub abreast_known : (old new : WatchState) (i end : ℕ) (renewable : Bool) (output : WatchOutput) (width : ℕ) (out : List lanes.Out) → Turn old (Known i end renewable) (Ok output) new → IsAbreast old width out → IsAbreast new width out
abreast_known old new i end renewable output width out turn abreast = abreast_quiet old new width out abreast (turn_known old new i end renewable output turn abreast.sound)

-- one request more goes out after those before it
pub gone_more :
    (port : ℕ) (s : Inventory) (m : WatchState) (t now : ℕ) (requests : List WatchRequest) (r : WatchRequest) (old mid new : Lanes) → GoOut port s m t now requests old mid → GoesOut port s m t now r mid new → GoOut port s m t now (requests ++ r ∷ []) old new
gone_more port s m t now [] r old mid new h one = (new, (subst (λ (l : Lanes). GoesOut port s m t now r l new) h one, refl))
gone_more port s m t now (q ∷ rest) r old mid new h one = (h.0, (h.1.0, gone_more port s m t now rest r h.0 mid new h.1.1 one))

-- ---- a new machine, over lanes of which none is taken

pub abreast_new : NewLaw
abreast_new g width =
    record { width_is = refl; room = omega arith; sound = record { count = length-map g.entries fresh_track; once = λ i. omega arith }; in_step = record { count = refl; each = λ i. refl } }

-- ---- the law

pub by_clock : ClockLaw
by_clock old new wall elapsed output requests until width before turn is abreast =
    let gone = turn_gone old new wall elapsed output requests until turn is abreast.sound in
    (gone.within, (lanes_free old new requests width before.out abreast gone, λ port s t now after sent. abreast_sent old new requests width before.out after.out abreast gone (sent_all port s new t now requests before after sent)))

pub by_answers : AnswersLaw
by_answers old width out left answers abreast parted =
    (parted_out old width out answers left abreast parted, λ s new handed. abreast_handed_in s old new width out answers left abreast parted handed)

pub by_other : OtherLaw
by_other old new (Need i until) output width out other turn abreast = abreast_need old new i until output width out turn abreast
by_other old new Begin output width out other turn abreast = abreast_begin old new output width out turn abreast
by_other old new (Known i end renewable) output width out other turn abreast = abreast_known old new i end renewable output width out turn abreast
by_other old new _ output width out other turn abreast = absurd other
