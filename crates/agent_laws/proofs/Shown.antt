-- Shown: while a house goes on, whoever's answer begins with `ok` was given it before, or is shown a page. For `whoever_is_told_ok_has_it`.
use Rattle.std.proofs.Common.{◌≡◌, ◌∙◌, ◌⊎◌, ℕ, zero, suc, ◌/◌, Bool, true, false, ◌||◌, cond, inl, inr, List, [], ◌∷◌, ◌++◌, drop, filter, length, nat_lt, not, take, Option, Some, None, Result, ap, arith, codes, refl, slice_get, slice_index, slice_set, subst, sym}
use Rattle.std.specs.{List.position, List.remove, declared.alloc.AllocError.AllocError}
use Rattle.agent_standing.specs.Agent.{Agent}
use Rattle.agent_answers.specs.{Wanting.ClientWants, Wanting.TellsRequestLine, declared.control.Control.Control, declared.lines.RequestLines.RequestLines, declared.wanted.Wanted.Wanted, declared.wanted.ClientRefusal.ClientRefusal}
use Rattle.agent_answers.specs.{declared.went.Went.Went}
use Rattle.agent_answers.specs.Controlling.{ControlGoesOn, FirstIsReplied, IsShownText, RepliesTo, TextIf, refused_text}
use Rattle.agent_answers.specs.declared.wanted.Wanted.TheVariants as wanted
use Rattle.agent_pages.specs.{Naming.Around, declared.asked.Page.Page}
use Rattle.base_clients.specs.{Doors.DoorLog, declared.fed.Fed.Fed, declared.guest.Guest.Guest, declared.stage.GuestStage.GuestStage, declared.talk.TalkCall.TalkCall}
use Rattle.base_clients.specs.Guests.{GoesOnFrom, IsFedFrom, IsToldOn, answering_rest, asked_bytes, count, heard_to, in_time, is_stage_asked, is_stage_over, read_to, told_to, written_to}
use Rattle.base_clients.specs.Tables.{AnswersFirst, BecomesAt, EachGoesOn, FeedsAt, GuestTable, OneGoesOn, Turns, arrive, arrive_all, first_asked, follows_as, guest_answered, idle_since, is_idle_since, request_asked_at, request_of_guest, with_place, without_idlest, without_place}
use Rattle.base_clients.specs.declared.stage.GuestStage.TheVariants as stages
use Rattle.base_device.specs.declared.tried.Tried.{Tried}
use Rattle.base_device.specs.declared.tried.Tried.TheVariants.{Done, Waits, Failed}
use Rattle.base_clock.specs.declared.reading.Reading.{Reading}
use Rattle.base_log.specs.{declared.follower.Follower.Follower, declared.form.Form.Form}
use Rattle.agent_log.specs.Rooms.{Rooms}
use Rattle.agent_log.specs.Feeding.{AreFed, EachIsFed, FollowersGoOn}
use Rattle.agent_house.specs.Houses.{ClientsGoOn}
use Rattle.agent_laws.specs.Acknowledged.{HasOk, HasSent, IsSameAnswer, IsShown, WasThere, answer_in, guests_in}

-- ---- of each of them

abbrev the : {X : Type 0} → X → Option X → X
the d None = d
the d (Some x) = x

abbrev pub Each : {X : Type 0} → (X → Type 0) → List X → Type 0
Each P [] = Unit {0}
Each P (x ∷ xs) = P x × Each P xs

module _ {X : Type 0} (P : X → Type 0) where
  each_from : (xs : List X) → ((i : ℕ) (x : X) → slice_get xs i ≡ Some x → P x) → Each P xs
  each_from [] h = tt
  each_from (x ∷ xs) h = (h 0 x refl, each_from xs (λ i y is. h (suc i) y is))

  each_got : (xs : List X) (i : ℕ) (x : X) → Each P xs → slice_get xs i ≡ Some x → P x
  each_got [] i x all is = absurd cc
  each_got (y ∷ ys) zero x all is = subst P (ap (the y) is) all.0
  each_got (y ∷ ys) (suc i) x all is = each_got ys i x all.1 is

  each_append : (xs ys : List X) → Each P xs → Each P ys → Each P (xs ++ ys)
  each_append [] ys all more = more
  each_append (x ∷ xs) ys all more = (all.0, each_append xs ys all.1 more)

  each_take : (n : ℕ) (xs : List X) → Each P xs → Each P (take n xs)
  each_take zero xs all = tt
  each_take (suc n) [] all = tt
  each_take (suc n) (x ∷ xs) all = (all.0, each_take n xs all.1)

  each_drop : (n : ℕ) (xs : List X) → Each P xs → Each P (drop n xs)
  each_drop zero xs all = all
  each_drop (suc n) [] all = tt
  each_drop (suc n) (x ∷ xs) all = each_drop n xs all.1

  each_removed : (xs : List X) (i : ℕ) → Each P xs → Each P (remove xs i)
  each_removed xs i all = each_append (take i xs) (drop (suc i) xs) (each_take i xs all) (each_drop (suc i) xs all)

  each_cond : (b : Bool) (x : X) (xs : List X) → P x → Each P xs → Each P (cond b (x ∷ xs) xs)
  each_cond true x xs one all = (one, all)
  each_cond false x xs one all = all

  each_filter : (test : X → Bool) (xs : List X) → Each P xs → Each P (filter test xs)
  each_filter test [] all = tt
  each_filter test (x ∷ xs) all = each_cond (test x) x (filter test xs) all.0 (each_filter test xs all.1)

  each_set : (xs : List X) (i : ℕ) (x : X) → P x → Each P xs → Each P (slice_set xs i x)
  each_set [] i x one all = tt
  each_set (y ∷ ys) zero x one all = (one, all.1)
  each_set (y ∷ ys) (suc i) x one all = (all.0, each_set ys i x one all.1)

-- of one of them alone it is another
set_at : {X : Type 0} (xs : List X) (i place : ℕ) (x after : X) → slice_get (slice_set xs i x) place ≡ Some after → (after ≡ x) ⊎ (slice_get xs place ≡ Some after)
set_at [] i place x after is = absurd cc
set_at (y ∷ ys) zero zero x after is = inl (ap (the x) (sym is))
set_at (y ∷ ys) (suc i) (suc place) x after is = set_at ys i place x after is
set_at (y ∷ ys) _ _ x after is = inr is

-- ---- where a client comes from

-- what is given to one that follows changes what is left of that alone
abbrev IsFedTo : GuestStage → GuestStage → Type 0
IsFedTo old (stages.Reading bytes) = old ≡ stages.Reading bytes
IsFedTo old (stages.Asked bytes) = old ≡ stages.Asked bytes
IsFedTo old stages.Waiting = old ≡ stages.Waiting
IsFedTo old (stages.Answering left) = old ≡ stages.Answering left
IsFedTo old (stages.Following left) = (was : List ℕ) × (old ≡ stages.Following was)
IsFedTo old stages.Over = old ≡ stages.Over

fed_itself : (s : GuestStage) → IsFedTo s s
fed_itself (stages.Following left) = (left, refl)
fed_itself _ = refl

module _ {T : Type 0} (old : List (Guest T)) where
  -- there was a client of that number, of whose stage this is so
  record From (id : ℕ) (IsSo : GuestStage → Type 0) : Type 0 where
    place : ℕ
    before : Guest T
    was : slice_get old place ≡ Some before
    same : before.id ≡ id
    so : IsSo before.stage

  from_more : (id : ℕ) (P Q : GuestStage → Type 0) → ((s : GuestStage) → P s → Q s) → From id P → From id Q
  from_more id P Q more h = record { place = h.place; before = h.before; was = h.was; same = h.same; so = more h.before.stage h.so }

  abbrev IsFed : Guest T → Type 0
  IsFed g = From g.id (λ s. IsFedTo s g.stage)

  -- one that asks has sent that, and one that is answered was answered
  abbrev ComesBy : ℕ → GuestStage → Type 0
  ComesBy id (stages.Asked bytes) = From id (λ s. HasSent s bytes)
  ComesBy id (stages.Answering left) = From id (λ s. IsSameAnswer s (stages.Answering left))
  ComesBy id (stages.Following left) = From id (λ s. IsSameAnswer s (stages.Following left))
  ComesBy id _ = Unit {0}

  abbrev Comes : Guest T → Type 0
  Comes g = ComesBy g.id g.stage

  -- ---- followers are given the log's lines

  fed_first : Each IsFed old
  fed_first = each_from IsFed old (λ place g is. record { place = place; before = g; was = is; same = refl; so = fed_itself g.stage })

  fed_as_was : (g n : Guest T) → n ≡ g → IsFed g → IsFed n
  fed_as_was g n same h = subst IsFed (sym same) h

  fed_by : (stage : GuestStage) (bytes : List ℕ) (fed : Result Fed AllocError) (g n : Guest T) → g.stage ≡ stage → IsFed g → IsFedFrom stage bytes fed g n → IsFed n
  fed_by (stages.Following left) bytes fed g n is h k =
      let followed : From g.id (λ s. IsFedTo s (stages.Following left)) = subst (λ (x : GuestStage). From g.id (λ s. IsFedTo s x)) is h in
      subst IsFed (sym k.1.1) followed
  fed_by _ bytes fed g n is h k = fed_as_was g n k.1 h

  fed_at : (place : Option ℕ) (bytes : List ℕ) (fed : Result Fed AllocError) (before after : GuestTable T RequestLines) → Each IsFed before.guests → FeedsAt place bytes fed before after → Each IsFed after.guests
  fed_at None bytes fed before after all h = subst (λ (t : GuestTable T RequestLines). Each IsFed t.guests) (sym h.1) all
  fed_at (Some i) bytes fed before after all h =
      let n = h.1.0 in
      let one : IsFed n = fed_by h.0.stage bytes fed h.0 n refl (each_got IsFed before.guests i h.0 all h.1.1.0) h.1.1.1.0 in
      subst (λ (t : GuestTable T RequestLines). Each IsFed t.guests) (sym h.1.1.1.1) (each_set IsFed before.guests i n one all)

  fed_each : (form : Form) (moment : ℕ) (fs new : List Follower) (before after : GuestTable T RequestLines) → Each IsFed before.guests → EachIsFed form moment fs new before after → Each IsFed after.guests
  fed_each form moment [] new before after all h = subst (λ (t : GuestTable T RequestLines). Each IsFed t.guests) (sym h.1) all
  fed_each form moment (f ∷ fs) [] before after all h = absurd h
  fed_each form moment (f ∷ fs) (n ∷ ns) before after all h =
      fed_each form moment fs ns h.0 after (fed_at (position (follows_as f.id) before.guests) f.room.bytes h.1.0.fed before h.0 all h.1.0.feeds) h.1.1

  -- ---- each goes on

  timed_by : (id : ℕ) (is_early : Bool) (s : GuestStage) → ComesBy id s → ComesBy id (cond is_early s stages.Over)
  timed_by id true s h = h
  timed_by id false s h = tt

  timed : (id now by : ℕ) (s : GuestStage) → ComesBy id s → ComesBy id (in_time now by s)
  timed id now by (stages.Reading bytes) h = timed_by id (nat_lt now by) (stages.Reading bytes) h
  timed id now by (stages.Answering left) h = timed_by id (nat_lt now by) (stages.Answering left) h
  timed id now by _ h = h

  read_whole : (id : ℕ) (whole : Bool) (bytes : List ℕ) → From id (λ s. HasSent s bytes) → ComesBy id (cond whole (stages.Asked bytes) (stages.Reading bytes))
  read_whole id true bytes h = h
  read_whole id false bytes h = tt

  was_read : (id : ℕ) (tried : Tried) (whole : Bool) (most : ℕ) (bytes : List ℕ) → From id (λ s. HasSent s bytes) → ComesBy id (read_to tried whole most bytes)
  was_read id (Done zero) whole most bytes h = h
  was_read id (Done (suc n)) whole most bytes h = read_whole id (whole || nat_lt most (length bytes)) bytes h
  was_read id _ whole most bytes h = tt

  was_left : (id : ℕ) (rest : List ℕ) → From id (λ s. IsSameAnswer s (stages.Answering rest)) → ComesBy id (answering_rest rest)
  was_left id [] h = tt
  was_left id (b ∷ bs) h = h

  was_written : (id : ℕ) (tried : Tried) (rest : List ℕ) → From id (λ s. IsSameAnswer s (stages.Answering rest)) → ComesBy id (written_to tried rest)
  was_written id Failed rest h = tt
  was_written id _ rest h = was_left id rest h

  was_told : (id : ℕ) (tried : Tried) (rest : List ℕ) → From id (λ s. IsSameAnswer s (stages.Following rest)) → ComesBy id (told_to tried rest)
  was_told id Failed rest h = tt
  was_told id _ rest h = h

  was_heard : (id : ℕ) (tried : Tried) → From id (λ s. IsSameAnswer s (stages.Following [])) → ComesBy id (heard_to tried [])
  was_heard id Waits h = h
  was_heard id _ h = tt

  sends_more : (bytes more : List ℕ) (s : GuestStage) → s ≡ stages.Reading bytes → HasSent s (bytes ++ more)
  sends_more bytes more s is = subst (λ (x : GuestStage). HasSent x (bytes ++ more)) (sym is) (more, refl)

  has_sent : (bytes : List ℕ) (s : GuestStage) → s ≡ stages.Asked bytes → HasSent s bytes
  has_sent bytes s is = subst (λ (x : GuestStage). HasSent x bytes) (sym is) refl

  is_left : (left : List ℕ) (n : ℕ) (s : GuestStage) → s ≡ stages.Answering left → IsSameAnswer s (stages.Answering (drop n left))
  is_left left n s is = subst (λ (x : GuestStage). IsSameAnswer x (stages.Answering (drop n left))) (sym is) (n, refl)

  is_followed : (rest : List ℕ) (s : GuestStage) → (was : List ℕ) × (s ≡ stages.Following was) → IsSameAnswer s (stages.Following rest)
  is_followed rest s h = subst (λ (x : GuestStage). IsSameAnswer x (stages.Following rest)) (sym h.1) tt

  module _ (remaining written : T → Option (List ℕ)) (calls : T → Option (List TalkCall)) (tells : List ℕ → Bool → Type 0) (most now : ℕ) where
    told_on : (left : List ℕ) (g n : Guest T) → From g.id (λ s. (was : List ℕ) × (s ≡ stages.Following was)) → IsToldOn remaining written calls now left g n → Comes n
    told_on [] g n h k = subst Comes (sym k.same) (was_heard g.id k.tried (from_more g.id _ _ (is_followed []) h))
    told_on (b ∷ bs) g n h k =
        let rest : List ℕ = drop (count k.0) (b ∷ bs) in
        subst Comes (sym k.1.same) (was_told g.id k.0 rest (from_more g.id _ _ (is_followed rest) h))

    goes_by : (stage : GuestStage) (g n : Guest T) → g.stage ≡ stage → From g.id (λ s. IsFedTo s stage) → GoesOnFrom remaining written calls tells most now stage g n → Comes n
    goes_by (stages.Reading bytes) g n is h k =
        subst Comes (sym k.same)
        (timed g.id now g.by (read_to k.tried k.whole most (bytes ++ k.came)) (was_read g.id k.tried k.whole most (bytes ++ k.came) (from_more g.id _ _ (sends_more bytes k.came) h)))
    goes_by (stages.Asked bytes) g n is h k = subst Comes (sym k) (subst (ComesBy g.id) (sym is) (from_more g.id _ _ (has_sent bytes) h))
    goes_by (stages.Answering left) g n is h k =
        let rest : List ℕ = drop (count k.0) left in
        subst Comes (sym k.1.same) (timed g.id now g.by (written_to k.0 rest) (was_written g.id k.0 rest (from_more g.id _ _ (is_left left (count k.0)) h)))
    goes_by (stages.Following left) g n is h k = told_on left g n h k
    goes_by _ g n is h k = subst Comes (sym k) (subst (ComesBy g.id) (sym is) tt)

    goes_one : (enough : Bool) (g n : Guest T) → IsFed g → OneGoesOn remaining written calls tells most now enough g n → Comes n
    goes_one enough g n h (inl k) = goes_by g.stage g n refl h k
    goes_one enough g n h (inr k) = subst (ComesBy n.id) (sym k.1.over) tt

    goes_each : (enough : Bool) (gs ns : List (Guest T)) → Each IsFed gs → EachGoesOn remaining written calls tells most now enough gs ns → Each Comes ns
    goes_each enough [] ns all h = subst (Each Comes) (sym h) tt
    goes_each enough (g ∷ gs) [] all h = absurd h
    goes_each enough (g ∷ gs) (n ∷ ns) all h = (goes_one enough g n all.0 h.0, goes_each enough gs ns all.1 h.1)

  -- ---- some are let in

  without : (place : Option ℕ) (gs : List (Guest T)) → Each Comes gs → Each Comes (without_place gs place)
  without None gs all = all
  without (Some i) gs all = each_removed Comes gs i all

  without_idle : (since : Option ℕ) (gs : List (Guest T)) → Each Comes gs → Each Comes (without_idlest gs since)
  without_idle None gs all = all
  without_idle (Some since) gs all = without (position (is_idle_since since) gs) gs all

  with_room : (is : Bool) (gs : List (Guest T)) → Each Comes gs → Each Comes (cond is gs (without_idlest gs (idle_since gs)))
  with_room true gs all = all
  with_room false gs all = without_idle (idle_since gs) gs all

  module _ {F : Type 0} (now : ℕ) where
    arrives : (table : GuestTable T F) (talk : T) → Each Comes table.guests → Each Comes (arrive now table talk).guests
    arrives table talk all = each_append Comes (with_place table.limits.guests table.guests) _ (with_room (nat_lt (length table.guests) table.limits.guests) table.guests all) (tt, tt)

    arrive_each : (table : GuestTable T F) (talks : List T) → Each Comes table.guests → Each Comes (arrive_all now table talks).guests
    arrive_each table [] all = all
    arrive_each table (t ∷ ts) all = arrive_each (arrive now table t) ts (arrives table t all)

    turned : (remaining written : T → Option (List ℕ)) (calls : T → Option (List TalkCall)) (tells : F → List ℕ → Bool → Type 0) (enough : Bool) (fed new : GuestTable T F) (before after : Option (DoorLog T)) → Each IsFed fed.guests →
        Turns remaining written calls tells now enough fed new before after → Each Comes new.guests
    turned remaining written calls tells enough fed new before after all h =
        let went = goes_each remaining written calls (tells fed.framing) fed.limits.bytes now enough fed.guests h.went all h.on in
        subst (λ (t : GuestTable T F). Each Comes t.guests) (sym h.arrivals.arrived)
        (arrive_each (record fed { guests = filter (λ g. not (is_stage_over g.stage)) h.went }) h.arrivals.talks (each_filter Comes (λ g. not (is_stage_over g.stage)) h.went went))

  -- ---- one of them is answered

  had_by : (id : ℕ) (s : GuestStage) (text : List ℕ) → answer_in s ≡ Some text → ComesBy id s → From id (λ b. IsSameAnswer b s)
  had_by id (stages.Answering left) text is h = h
  had_by id (stages.Following left) text is h = h
  had_by id _ text is h = absurd cc

  asks_by : (id : ℕ) (s : GuestStage) (bytes : List ℕ) → asked_bytes s ≡ Some bytes → ComesBy id s → From id (λ b. HasSent b bytes)
  asks_by id (stages.Asked request) bytes is h = subst (λ (r : List ℕ). From id (λ b. HasSent b r)) (ap (the []) is) h
  asks_by id _ bytes is h = absurd cc

  module _ (agent : Agent) (around : Around) (now : Reading) where
    abbrev pub IsSo : Guest T → Guest T → Type 0
    IsSo client before = IsSameAnswer before.stage client.stage ⊎ IsShown agent now before client

    abbrev pub ToldSo : Guest T → Type 0
    ToldSo client = (place : ℕ) × WasThere old place client (IsSo client)

    had : (client : Guest T) (text : List ℕ) → answer_in client.stage ≡ Some text → Comes client → ToldSo client
    had client text is h = (let it = had_by client.id client.stage text is h in (it.place, record { before = it.before; was = it.was; same = it.same; so = inl it.so }))

    shown_page : (bytes : List ℕ) (page : Page) (sent : List ℕ) (client : Guest T) → ClientWants (now.wall / 1000) bytes (wanted.Show page) → IsShownText agent around page sent → client.stage ≡ stages.Answering sent → From client.id (λ b. HasSent b bytes) →
        ToldSo client
    shown_page bytes page sent client wants shown told it =
        (it.place, record { before = it.before; was = it.was; same = it.same; so = inr (record { request = bytes; sent = it.so; page = page; wants = wants; around = around; text = sent; shown = shown; told = told }) })

    -- what begins with another letter, or with none, does not begin with `ok`
    not_ok : (sent more : List ℕ) (client : Guest T) → client.stage ≡ stages.Answering sent → answer_in client.stage ≡ Some (codes "ok" ++ more) → sent ≡ codes "ok" ++ more
    not_ok sent more client told says = ap (the []) (sym (ap answer_in told) ∙ says)

    not_empty : (more : List ℕ) → [] ≡ codes "ok" ++ more → ⊥
    not_empty more is = (let first : 0 ≡ 111 = ap (λ (l : List ℕ). slice_index l 0) is in absurd (omega (arith, first)))

    refused_first : (why : ClientRefusal) → slice_index (refused_text why) 0 ≡ 101
    unfolding refused_text
    refused_first why = refl

    not_refused : (why : ClientRefusal) (more : List ℕ) → refused_text why ≡ codes "ok" ++ more → ⊥
    not_refused why more is = (let first : 101 ≡ 111 = sym (refused_first why) ∙ ap (λ (l : List ℕ). slice_index l 0) is in absurd (omega (arith, first)))

    not_said : (enough : Bool) (why : ClientRefusal) (sent more : List ℕ) → TextIf enough (refused_text why) sent → sent ≡ codes "ok" ++ more → ⊥
    not_said true why sent more is ok = not_refused why more (sym is ∙ ok)
    not_said false why sent more is ok = not_empty more (sym is ∙ ok)

    -- the one that is answered is the one that has asked, and it is told what is sent
    record IsAnswered (bytes sent : List ℕ) (client : Guest T) : Type 0 where
      asks : From client.id (λ b. HasSent b bytes)
      told : client.stage ≡ stages.Answering sent

    answered_one : (bytes sent : List ℕ) (g client : Guest T) → asked_bytes g.stage ≡ Some bytes → Comes g → client ≡ guest_answered now.elapsed sent g → IsAnswered bytes sent client
    answered_one bytes sent g client asks h is = record {
      asks = subst (λ (n : ℕ). From n (λ b. HasSent b bytes)) (sym (ap (λ (n : Guest T). n.id) is)) (asks_by g.id g.stage bytes asks h);
      told = ap (λ (n : Guest T). n.stage) is;
    }

    answered_in : (bytes sent : List ℕ) (i place : ℕ) (g client : Guest T) (gs : List (Guest T)) → Each Comes gs → slice_get gs i ≡ Some g → request_of_guest (slice_get gs i) ≡ Some bytes →
        slice_get (slice_set gs i (guest_answered now.elapsed sent g)) place ≡ Some client → IsAnswered bytes sent client ⊎ Comes client
    answered_in bytes sent i place g client gs all here asks is =
        elim (set_at gs i place (guest_answered now.elapsed sent g) client is) [
          | inl it ↦ inl (answered_one bytes sent g client (ap request_of_guest (sym here) ∙ asks) (each_got Comes gs i g all here) it)
          | inr it ↦ inr (each_got Comes gs place client all it)
        ]

    answered_at : (at : Option ℕ) (bytes sent : List ℕ) (place : ℕ) (client : Guest T) (table new : GuestTable T RequestLines) → Each Comes table.guests → request_asked_at at table.guests ≡ Some bytes →
        BecomesAt at (guest_answered now.elapsed sent) true table new → slice_get new.guests place ≡ Some client → IsAnswered bytes sent client ⊎ Comes client
    answered_at None bytes sent place client table new all asks h is = absurd (let clash : true ≡ false = h.0 in cc)
    answered_at (Some i) bytes sent place client table new all asks h is =
        answered_in bytes sent i place h.1.0 client table.guests all h.1.1.0 asks (ap (λ (t : GuestTable T RequestLines). slice_get t.guests place) (sym h.1.1.1) ∙ is)

    module _ (table new : GuestTable T RequestLines) (all : Each Comes table.guests) (ok : HasOk new.guests) where
      left_alone : new ≡ table → ToldSo ok.client
      left_alone same = had ok.client (codes "ok" ++ ok.more) ok.says (each_got Comes table.guests ok.place ok.client all (ap (λ (t : GuestTable T RequestLines). slice_get t.guests ok.place) (sym same) ∙ ok.there))

      -- where what is sent does not begin with `ok`
      sent_another : (bytes sent : List ℕ) → first_asked table ≡ Some bytes → ((more : List ℕ) → sent ≡ codes "ok" ++ more → ⊥) → AnswersFirst now.elapsed sent true table new → ToldSo ok.client
      sent_another bytes sent asks never h =
          elim (answered_at (position (λ (g : Guest T). is_stage_asked g.stage) table.guests) bytes sent ok.place ok.client table new all asks h ok.there) [
            | inl it ↦ absurd (never ok.more (not_ok sent ok.more ok.client it.told ok.says))
            | inr it ↦ had ok.client (codes "ok" ++ ok.more) ok.says it
          ]

      sent_page : (bytes sent : List ℕ) (page : Page) → first_asked table ≡ Some bytes → ClientWants (now.wall / 1000) bytes (wanted.Show page) → IsShownText agent around page sent → AnswersFirst now.elapsed sent true table new → ToldSo ok.client
      sent_page bytes sent page asks wants shown h =
          elim (answered_at (position (λ (g : Guest T). is_stage_asked g.stage) table.guests) bytes sent ok.place ok.client table new all asks h ok.there) [
            | inl it ↦ shown_page bytes page sent ok.client wants shown it.told it.asks
            | inr it ↦ had ok.client (codes "ok" ++ ok.more) ok.says it
          ]

      replied : (bytes : List ℕ) (it : Wanted) (enough : Bool) → first_asked table ≡ Some bytes → ClientWants (now.wall / 1000) bytes it → RepliesTo agent around now it enough table new → ToldSo ok.client
      replied bytes (wanted.Do asked) enough asks wants h = left_alone h.1
      replied bytes (wanted.Show page) true asks wants h = sent_page bytes h.0 page asks wants h.1.0 h.1.1
      replied bytes (wanted.Show page) false asks wants h = sent_another bytes h.0 asks (λ more is. not_empty more (sym h.1.0 ∙ is)) h.1.1
      replied bytes (wanted.Refused why) enough asks wants h = sent_another bytes h.0 asks (λ more is. not_said enough why h.0 more h.1.0 is) h.1.1

      first_replied : (first : Option (List ℕ)) (enough : Bool) → first_asked table ≡ first → FirstIsReplied agent around now first enough table new → ToldSo ok.client
      first_replied None enough asks h = left_alone h.1
      first_replied (Some bytes) enough asks (inl h) = replied bytes h.0 enough asks h.1.0 h.1.1
      first_replied (Some bytes) enough asks (inr h) = sent_another bytes [] asks not_empty h.1

-- ---- the clients go on

module _ {T D : Type 0} (remaining written : T → Option (List ℕ)) (calls : T → Option (List TalkCall)) (log : D → Option (DoorLog T)) (agent : Agent) (around : Around) (now : Reading) (went : Went) where
  no_ok : (after : Option (Control T D)) → after ≡ None → HasOk (guests_in after) → ⊥
  no_ok after none ok = absurd (let nobody : None ≡ Some ok.client = ap (λ (c : Option (Control T D)). slice_get (guests_in c) ok.place) (sym none) ∙ ok.there in cc)

  controlled : (old : List (Guest T)) (fed new : Control T D) → Each (IsFed old) fed.clients.guests → ControlGoesOn remaining written calls log agent around now went fed new → (ok : HasOk new.clients.guests) → ToldSo old agent around now ok.client
  controlled old fed new all h ok =
      let each = turned old now.elapsed remaining written calls (λ lines. TellsRequestLine) h.turned_enough fed.clients h.turned (log fed.door) (log new.door) all h.turn in
      first_replied old agent around now h.turned new.clients each ok (first_asked h.turned) h.sent_enough refl h.one

  pub clients_told : (form : Form) (moment : ℕ) (room rooms : Rooms) (before fed after : Option (Control T D)) → FollowersGoOn form moment room rooms before fed → ClientsGoOn remaining written calls log agent around now went fed after →
      (ok : HasOk (guests_in after)) → ToldSo (guests_in before) agent around now ok.client
  clients_told form moment room rooms None None after follow clients ok = absurd (no_ok after clients.1 ok)
  clients_told form moment room rooms None (Some fed) after follow clients ok = absurd (let clash : Some fed ≡ None = follow.1 in cc)
  clients_told form moment room rooms (Some before) None after follow clients ok = absurd follow
  clients_told form moment room rooms (Some before) (Some fed) None follow clients ok = absurd clients
  clients_told form moment room rooms (Some before) (Some fed) (Some after) follow clients ok =
      let are : AreFed form moment room rooms before.clients fed.clients = follow.0 in
      controlled before.clients.guests fed after (fed_each before.clients.guests form moment room.followers are.0 before.clients fed.clients (fed_first before.clients.guests) are.1.0) clients ok
