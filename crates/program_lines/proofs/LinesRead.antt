-- LinesRead: what was read so far is heard line by line, and how that goes on and ends: for `listen`.
use Rattle.std.proofs.Common.{◌≡◌, ℕ, ◌+◌, ◌-◌, ◌^◌, ◌<◌, ◌≤◌, ◌⊎◌, inl, inr, Bool, true, false, cond, min, nat_lt, List, [], ◌∷◌, ◌++◌, Option, Some, None, IfSome, OnOk, Result, Ok, Err, drop, length, length-append, take, take-append-drop, refl, sym, ap, ◌∙◌, subst, arith}
use Rattle.std.proofs.Math.Seq.{take-append-add}
use Rattle.std.proofs.KnownBytes.{Appends-nil, Consumes-kept, Consumes-nil, Consumes-trans}
use Rattle.std.proofs.lemmas.{Bool.cases_lt, Bool.Decides.nat_tests}
use Rattle.std.proofs.lemmas.List.{append-nil, length-take-le, take-append-le, take_all}
use Rattle.std.specs.Result.{IfErr}
use Rattle.std.specs.Io.KnownBytes.{Consumes, IsAtEnd, Keeps}
use Rattle.base_device.specs.{Failures.one_more, Whole.MakesAtMost}
use Rattle.base_device.specs.Seen.{Change, Input, Seen, change}
use Rattle.program_report.specs.declared.stop.Stop.{Stop}
use Rattle.program_report.specs.declared.stop.Stop.TheVariants as stops
use Rattle.program_lines.specs.{declared.limits.InputLimits.InputLimits, declared.limits.TheConstants.MOST_LINE, declared.limits.TheConstants.ROOM}
use Rattle.program_lines.specs.Hearing.{Hearing, IsSaidWhole, StopsAfter, counted_line, joined_changes}
use Rattle.program_lines.specs.Listening.{HasEnded, IsHeardFirst, IsOver, IsPrompt, IsReadWithin, ListeningHalts, Listens, ListensTo, MakesAtLeast, part_to_hear}
use Rattle.program_lines.specs.code.LineByLine.{HaltsWithin, HearsUpTo, IsListening, SoManyAreLeft, left_after, part_left_to_hear}
use Rattle.program_lines.proofs.Cut.{pieces_more}
use Rattle.program_lines.proofs.LineByLine.{halts_behind, halts_where, said_appends, up_to_first, up_to_then}
use Rattle.base_words.specs.Pieces.{pieces}

-- ---- counts

one_read : (b : Bool) (n before k : ℕ) → b ≡ nat_lt n (2 ^ 64 - 1) → (before + k ≤ n) ⊎ (2 ^ 64 - 1 ≤ n) → (before + (k + 1) ≤ cond b (n + 1) n) ⊎ (2 ^ 64 - 1 ≤ cond b (n + 1) n)
one_read true n before k e (inl h) = inl (omega (arith, h))
one_read true n before k e (inr h) = inr (omega (arith, h))
one_read false n before k e h = inr (grind (arith, nat_tests))

at_most_one : (b : Bool) (n before k : ℕ) → n ≤ before + k → cond b (n + 1) n ≤ before + (k + 1)
at_most_one true n before k h = omega (arith, h)
at_most_one false n before k h = omega (arith, h)

more_most : (old mid new : Input) (read : List ℕ) (k : ℕ) → Consumes old.remaining mid.remaining read → MakesAtMost k old mid → IfSome mid.remaining (λ _. new.reads_made ≡ one_more mid.reads_made) → MakesAtMost (k + 1) old new
more_most old mid new read k = by_known old.remaining mid.remaining where
  by_known : (o m : Option (List ℕ)) → Consumes o m read → IfSome o (λ _. mid.reads_made ≤ old.reads_made + k) → IfSome m (λ _. new.reads_made ≡ one_more mid.reads_made) → IfSome o (λ _. new.reads_made ≤ old.reads_made + (k + 1))
  by_known None m c h e = tt
  by_known (Some xs) None c h e = absurd c
  by_known (Some xs) (Some ys) c h e = subst (λ n. n ≤ old.reads_made + (k + 1)) (sym e) (at_most_one (nat_lt mid.reads_made (2 ^ 64 - 1)) mid.reads_made old.reads_made k h)

more_least : (old mid new : Input) (read : List ℕ) (k : ℕ) → Consumes old.remaining mid.remaining read → MakesAtLeast k old mid → IfSome mid.remaining (λ _. new.reads_made ≡ one_more mid.reads_made) → MakesAtLeast (k + 1) old new
more_least old mid new read k = by_known old.remaining mid.remaining where
  by_known : (o m : Option (List ℕ)) → Consumes o m read → IfSome o (λ _. (old.reads_made + k ≤ mid.reads_made) ⊎ (2 ^ 64 - 1 ≤ mid.reads_made)) → IfSome m (λ _. new.reads_made ≡ one_more mid.reads_made) →
      IfSome o (λ _. (old.reads_made + (k + 1) ≤ new.reads_made) ⊎ (2 ^ 64 - 1 ≤ new.reads_made))
  by_known None m c h e = tt
  by_known (Some xs) None c h e = absurd c
  by_known (Some xs) (Some ys) c h e =
      subst (λ n. (old.reads_made + (k + 1) ≤ n) ⊎ (2 ^ 64 - 1 ≤ n)) (sym e) (one_read (nat_lt mid.reads_made (2 ^ 64 - 1)) mid.reads_made old.reads_made k refl h)

most_within : (old new : Input) (k m : ℕ) → k ≤ m → MakesAtMost k old new → MakesAtMost m old new
most_within old new k m l = by_known old.remaining where
  by_known : (o : Option (List ℕ)) → IfSome o (λ _. new.reads_made ≤ old.reads_made + k) → IfSome o (λ _. new.reads_made ≤ old.reads_made + m)
  by_known None h = tt
  by_known (Some xs) h = omega (arith, l, h)

none_most : (old : Input) (most : ℕ) → MakesAtMost most old old
none_most old most = by_known old.remaining where
  by_known : (o : Option (List ℕ)) → IfSome o (λ _. old.reads_made ≤ old.reads_made + most)
  by_known None = tt
  by_known (Some xs) = omega arith

none_least : (old : Input) → MakesAtLeast 0 old old
none_least old = by_known old.remaining where
  by_known : (o : Option (List ℕ)) → IfSome o (λ _. (old.reads_made + 0 ≤ old.reads_made) ⊎ (2 ^ 64 - 1 ≤ old.reads_made))
  by_known None = tt
  by_known (Some xs) = inl (omega arith)

-- ---- limits

none_left : (most : Option ℕ) → SoManyAreLeft most most 0
none_left None = tt
none_left (Some n) = omega arith

none_within : (most : Option ℕ) → IsReadWithin most []
none_within None = tt
none_within (Some n) = omega arith

few_read : (most left : Option ℕ) (read : List ℕ) → SoManyAreLeft most left (length read) → IsReadWithin most read
few_read None None read h = tt
few_read (Some most) (Some left) read h = omega (arith, h)
few_read _ _ read h = absurd h

all_of : (most : Option ℕ) (read : List ℕ) → IsReadWithin most read → part_to_hear most read ≡ read
all_of None read h = refl
all_of (Some most) read h = take_all most read h

-- a front of a piece that was read, as far as more may be read
front_of : (room : List ℕ) (n left : ℕ) → n ≤ length room → take left (take n room) ≡ take (min n left) room
front_of room n left within =
    elim (cases_lt left n) [
      | inl less ↦
          let long : length (take n room) ≡ n = length-take-le n room within in
          let cut : take left (take n room ++ drop n room) ≡ take left (take n room) = take-append-le left (take n room) (drop n room) (omega (arith, long, less)) in
          let least : min n left ≡ left = omega (arith, less) in
          sym cut ∙ ap (take left) (take-append-drop n room) ∙ ap (λ m. take m room) (sym least)
      | inr more ↦
          let long : length (take n room) ≡ n = length-take-le n room within in
          let least : min n left ≡ n = omega (arith, more) in
          take_all left (take n room) (omega (arith, long, more)) ∙ ap (λ m. take m room) (sym least)
    ]

first_more : (most left : Option ℕ) (read room : List ℕ) (n : ℕ) → SoManyAreLeft most left (length read) → n ≤ length room → part_to_hear most (read ++ take n room) ≡ read ++ take (part_left_to_hear left n) room
first_more None None read room n h within = refl
first_more (Some most) (Some left) read room n h within =
    let so : most ≡ length read + left = omega (arith, h) in
    ap (λ m. take m (read ++ take n room)) so ∙ take-append-add read (take n room) left ∙ ap (λ t. read ++ t) (front_of room n left within)
first_more _ _ read room n h within = absurd h

over : (most left : Option ℕ) (read room : List ℕ) (n : ℕ) → SoManyAreLeft most left (length read) → n ≤ length room → part_left_to_hear left n < n → IsOver most (read ++ take n room)
over None None read room n h within less = omega (arith, less)
over (Some most) (Some left) read room n h within less =
    let long : length (take n room) ≡ n = length-take-le n room within in
    let l : length (read ++ take n room) ≡ length read + length (take n room) = length-append read (take n room) in
    omega (arith, h, long, l, less)
over _ _ read room n h within less = absurd h

left_more : (most left : Option ℕ) (read room : List ℕ) (n : ℕ) → SoManyAreLeft most left (length read) → n ≤ length room → n ≤ part_left_to_hear left n → SoManyAreLeft most (left_after left (part_left_to_hear left n)) (length (read ++ take n room))
left_more None None read room n h within all = tt
left_more (Some most) (Some left) read room n h within all =
    let long : length (take n room) ≡ n = length-take-le n room within in
    let l : length (read ++ take n room) ≡ length read + length (take n room) = length-append read (take n room) in
    omega (arith, h, long, l, all)
left_more _ _ read room n h within all = absurd h

part_within : (left : Option ℕ) (n : ℕ) → part_left_to_hear left n ≤ n
part_within None n = omega arith
part_within (Some left) n = omega arith

part_all : (left : Option ℕ) (n : ℕ) → n ≤ part_left_to_hear left n → part_left_to_hear left n ≡ n
part_all left n all = let w = part_within left n in omega (arith, w, all)

-- ---- under way

nothing_cut : pieces 10 [] ≡ [] ∷ []
unfolding pieces
nothing_cut = refl

module _ (S : Type 0) (m : Hearing S) (limits : InputLimits) where
  pub listening_first : (old : S) (source : Seen) (in_memory : Bool) (a : Change) → IsSaidWhole [] a → IsListening S m limits old 0 [] limits.bytes old 0 (change in_memory source source) a
  listening_first old source in_memory a sent = record {
    read = [];
    consumed = Consumes-nil source.input.remaining;
    most = none_most source.input 0;
    least = none_least source.input;
    many = omega arith;
    failed = refl;
    up_to = subst (λ ps. HearsUpTo S m 0 old [] ps old 0 a) nothing_cut (up_to_first S m 0 old [] a (omega arith) sent);
    short = omega arith;
    within = none_left limits.bytes;
  }

  ends_at :
      (read : List ℕ) (number : ℕ) (old : S) (behind : List (List ℕ)) (text : List ℕ) (stop : Stop) (new : S) (fed : Change) (out : Change) → fed.new.failed_calls ≡ fed.old.failed_calls →
      ListeningHalts S m number old behind text stop new ⊥ out → ListensTo S m limits read number old behind text (Err stop) new fed out
  ends_at read number old behind text stops.Read new fed out failed h = absurd h
  ends_at read number old behind text (stops.Line n) new fed out failed h = (failed, halts_where S m number old behind text (stops.Line n) new ⊥ (HasEnded limits read fed) out (λ e. absurd e) h)
  ends_at read number old behind text _ new fed out failed h = (failed, h)

  -- nothing is read, since memory was wanting
  pub not_begun : (old : S) (source sink : Seen) (p q : Bool) → Listens S m limits old (Err stops.Memory) old (change p source source) (change q sink sink)
  not_begun old source sink p q = record {
    read = [];
    consumed = Consumes-nil source.input.remaining;
    reads = none_most source.input limits.reads;
    lines = [];
    behind = [] ∷ [];
    mid = old;
    text = [];
    heard = subst (λ bs. IsHeardFirst S m old bs [] ([] ∷ []) old []) (sym (all_of limits.bytes [] (none_within limits.bytes))) (record { parts = nothing_cut; heard = (refl, refl) });
    prompt = record { before = []; last = []; parts = refl; room = omega arith; few = none_within limits.bytes; first = []; later = []; heard = refl; rest = []; whole = nothing_cut; short = omega arith };
    ends = (refl, inl (refl, Appends-nil sink.output.written));
  }

  module _ (old : S) (k : ℕ) (pending : List ℕ) (left : Option ℕ) (now : S) (last : ℕ) (fed : Change) (a : Change) (h : IsListening S m limits old k pending left now last fed a) where
    few : IsReadWithin limits.bytes h.read
    few = few_read limits.bytes left h.read h.within

    heard_so_far : IsHeardFirst S m old (part_to_hear limits.bytes h.read) h.up_to.lines (pending ∷ []) now h.up_to.text
    heard_so_far = subst (λ bs. IsHeardFirst S m old bs h.up_to.lines (pending ∷ []) now h.up_to.text) (sym (all_of limits.bytes h.read few)) h.up_to.heard

    prompt_so_far : IsPrompt limits.bytes h.read h.up_to.lines
    prompt_so_far = record {
      before = h.read;
      last = [];
      parts = sym (append-nil h.read);
      room = omega arith;
      few = few;
      first = h.up_to.lines;
      later = [];
      heard = sym (append-nil h.up_to.lines);
      rest = pending;
      whole = h.up_to.heard.parts;
      short = h.short;
    }

    number : counted_line (last + 1) ≡ counted_line (length h.up_to.lines + 1)
    number = let count : last ≡ counted_line (0 + length h.up_to.lines) = h.up_to.count in omega (arith, count)

    -- a read failed
    pub read_failed :
        (next : Seen) → Keeps fed.new.input.remaining next.input.remaining → IfSome fed.new.input.remaining (λ _. next.input.reads_made ≡ one_more fed.new.input.reads_made) → next.failed_calls ≡ one_more fed.new.failed_calls → k < limits.reads →
        Listens S m limits old (Err stops.Read) now (record fed { new = next }) a
    read_failed next kept made failed fewer = record {
      read = h.read;
      consumed = Consumes-kept fed.old.input.remaining fed.new.input.remaining next.input.remaining h.read h.consumed kept;
      reads = most_within fed.old.input next.input (k + 1) limits.reads (omega (arith, fewer)) (more_most fed.old.input fed.new.input next.input h.read k h.consumed h.most made);
      lines = h.up_to.lines;
      behind = pending ∷ [];
      mid = now;
      text = h.up_to.text;
      heard = heard_so_far;
      prompt = prompt_so_far;
      ends = (pending, (refl, (h.short, (inl (failed ∙ ap one_more h.failed), (refl, h.up_to.sent.0)))));
    }

    -- as many reads were made as there may be
    pub no_more : k ≡ limits.reads → Listens S m limits old (Err stops.Read) now fed a
    no_more all = record {
      read = h.read;
      consumed = h.consumed;
      reads = subst (λ n. MakesAtMost n fed.old.input fed.new.input) all h.most;
      lines = h.up_to.lines;
      behind = pending ∷ [];
      mid = now;
      text = h.up_to.text;
      heard = heard_so_far;
      prompt = prompt_so_far;
      ends = (
        pending,
        (
          refl,
          (
            h.short,
            (
              inr (h.failed, inr (let many = h.many in omega (arith, many, all), subst (λ n. MakesAtLeast n fed.old.input fed.new.input) all h.least)),
              (refl, h.up_to.sent.0),
            ),
          ),
        ),
      );
    }

    -- the input has ended
    module _ (next : Seen) (piece : List ℕ) (taken : Consumes fed.new.input.remaining next.input.remaining piece) (none : piece ≡ []) (end : IsAtEnd next.input.remaining) (made : IfSome fed.new.input.remaining (λ _. next.input.reads_made ≡ one_more fed.new.input.reads_made))
        (failed : next.failed_calls ≡ fed.new.failed_calls) (fewer : k < limits.reads) where
      consumed_all : Consumes fed.old.input.remaining next.input.remaining h.read
      consumed_all = subst (Consumes fed.old.input.remaining next.input.remaining) (ap (λ p. h.read ++ p) none ∙ append-nil h.read) (Consumes-trans fed.old.input.remaining fed.new.input.remaining next.input.remaining h.read piece h.consumed taken)

      ends_so : (result : Result (Unit {0}) Stop) → ListensTo S m limits h.read (counted_line (length h.up_to.lines + 1)) now (pending ∷ []) h.up_to.text result now (record fed { new = next }) a
          → Listens S m limits old result now (record fed { new = next }) a
      ends_so result ends = record {
        read = h.read;
        consumed = consumed_all;
        reads = most_within fed.old.input next.input (k + 1) limits.reads (omega (arith, fewer)) (more_most fed.old.input fed.new.input next.input h.read k h.consumed h.most made);
        lines = h.up_to.lines;
        behind = pending ∷ [];
        mid = now;
        text = h.up_to.text;
        heard = heard_so_far;
        prompt = prompt_so_far;
        ends = ends;
      }

      ended : pending ≡ [] → Listens S m limits old (Ok tt) now (record fed { new = next }) a
      ended empty = ends_so (Ok tt) (ap (λ p. p ∷ []) empty, ((end, few), (failed ∙ h.failed, (refl, h.up_to.sent.0))))

      ended_within : 0 < length pending → Listens S m limits old (Err (stops.Line (counted_line (last + 1)))) now (record fed { new = next }) a
      ended_within some = ends_so (Err (stops.Line (counted_line (last + 1)))) (failed ∙ h.failed, (number, (inr ((end, few), some), (refl, h.up_to.sent.0))))

      pub ended_as :
          (result : Result (Unit {0}) Stop) → OnOk result (pending ≡ []) → IfErr result (λ (stop : Stop). (stop ≡ stops.Line (counted_line (last + 1))) × (0 < length pending)) →
          Listens S m limits old result now (record fed { new = next }) a
      ended_as (Ok u) none' some' = ended none'
      ended_as (Err stop) none' some' = subst (λ (r : Stop). Listens S m limits old (Err r) now (record fed { new = next }) a) (sym some'.0) (ended_within some'.1)

    -- bytes were read, of which so many are heard
    module _ (next : Seen) (room : List ℕ) (n : ℕ) (taken : Consumes fed.new.input.remaining next.input.remaining (take n room)) (made : IfSome fed.new.input.remaining (λ _. next.input.reads_made ≡ one_more fed.new.input.reads_made))
        (failed : next.failed_calls ≡ fed.new.failed_calls) (within : n ≤ length room) (fits : length room ≡ ROOM) (fewer : k < limits.reads) where
      abbrev pub after : Change
      after = record fed { new = next }

      abbrev pub took : List ℕ
      took = take (part_left_to_hear left n) room

      abbrev now_read : List ℕ
      now_read = h.read ++ take n room

      length_piece : length (take n room) ≡ n
      length_piece = length-take-le n room within

      heard_of : part_to_hear limits.bytes now_read ≡ h.read ++ took
      heard_of = first_more limits.bytes left h.read room n h.within within

      abbrev behind_read : HearsUpTo S m 0 old (h.read ++ took) (pieces 10 (pending ++ took)) now last a
      behind_read = record {
        lines = h.up_to.lines;
        text = h.up_to.text;
        heard = record { parts = pieces_more 10 h.read took h.up_to.lines pending h.up_to.heard.parts; heard = h.up_to.heard.heard };
        count = h.up_to.count;
        sent = h.up_to.sent;
      }

      consumed_more : Consumes fed.old.input.remaining next.input.remaining now_read
      consumed_more = Consumes-trans fed.old.input.remaining fed.new.input.remaining next.input.remaining h.read (take n room) h.consumed taken

      most_more : MakesAtMost (k + 1) fed.old.input next.input
      most_more = more_most fed.old.input fed.new.input next.input h.read k h.consumed h.most made

      prompt_more : (later : List (List ℕ)) → IsPrompt limits.bytes now_read (h.up_to.lines ++ later)
      prompt_more later = record {
        before = h.read;
        last = take n room;
        parts = refl;
        room = let l = length_piece in omega (arith, l, within, fits);
        few = few;
        first = h.up_to.lines;
        later = later;
        heard = refl;
        rest = pending;
        whole = h.up_to.heard.parts;
        short = h.short;
      }

      listens_more :
          (result : Result (Unit {0}) Stop) (later : List (List ℕ)) (behind : List (List ℕ)) (mid : S) (text : List ℕ) (new : S) (out : Change) → IsHeardFirst S m old (h.read ++ took) (h.up_to.lines ++ later) behind mid text →
          ListensTo S m limits now_read (counted_line (length (h.up_to.lines ++ later) + 1)) mid behind text result new after out → Listens S m limits old result new after out
      listens_more result later behind mid text new out heard ends = record {
        read = now_read;
        consumed = consumed_more;
        reads = most_within fed.old.input next.input (k + 1) limits.reads (omega (arith, fewer)) most_more;
        lines = h.up_to.lines ++ later;
        behind = behind;
        mid = mid;
        text = text;
        heard = subst (λ bs. IsHeardFirst S m old bs (h.up_to.lines ++ later) behind mid text) (sym heard_of) heard;
        prompt = prompt_more later;
        ends = ends;
      }

      -- memory for them was wanting
      pub no_memory : Listens S m limits old (Err stops.Memory) now after a
      no_memory =
          listens_more (Err stops.Memory) [] (pieces 10 (pending ++ took)) now h.up_to.text now a
          (subst (λ ls. IsHeardFirst S m old (h.read ++ took) ls (pieces 10 (pending ++ took)) now h.up_to.text) (sym (append-nil h.up_to.lines)) behind_read.heard)
          (failed ∙ h.failed, inl (refl, said_appends h.up_to.text a h.up_to.sent.0))

      module _ (b : Change) (same : a.new ≡ b.old) where
        -- a line stops it
        pub halted : StopsAfter S m → (stop : Stop) (new : S) → HaltsWithin S m last now (pending ++ took) stop new b → Listens S m limits old (Err stop) new after (joined_changes a b)
        halted law stop new w =
            let all = halts_behind S m law 0 old (h.read ++ took) (pending ++ took) now last a b stop new same behind_read w in
            let none_before : counted_line (0 + length (h.up_to.lines ++ w.lines) + 1) ≡ counted_line (length (h.up_to.lines ++ w.lines) + 1) = omega arith in
            listens_more (Err stop) w.lines w.behind w.mid all.text new (joined_changes a b) all.heard
            (ends_at now_read (counted_line (length (h.up_to.lines ++ w.lines) + 1)) w.mid w.behind all.text stop new after (joined_changes a b) (failed ∙ h.failed)
            (subst (λ c. ListeningHalts S m c w.mid w.behind all.text stop new ⊥ (joined_changes a b)) none_before all.halts))

        -- there is more than may be
        pub too_many :
            (behind : List ℕ) (new : S) (count : ℕ) → part_left_to_hear left n < n → length behind < MOST_LINE → HearsUpTo S m last now (pending ++ took) (behind ∷ []) new count b → Listens S m limits old (Err stops.Read) new after (joined_changes a b)
        too_many behind new count less short u =
            let all = up_to_then S m 0 old (h.read ++ took) (pending ++ took) (behind ∷ []) now last a b new count same behind_read u in
            listens_more (Err stops.Read) u.lines (behind ∷ []) new all.text new (joined_changes a b) all.heard
            (behind, (refl, (short, (inr (failed ∙ h.failed, inl (over limits.bytes left h.read room n h.within within less)), (refl, all.sent.0)))))

        -- and on
        pub listening_more :
            (behind : List ℕ) (new : S) (count : ℕ) → 0 < n → n ≤ part_left_to_hear left n → length behind < MOST_LINE → HearsUpTo S m last now (pending ++ took) (behind ∷ []) new count b →
            IsListening S m limits old (k + 1) behind (left_after left (part_left_to_hear left n)) new count after (joined_changes a b)
        listening_more behind new count some all short u =
            let up = up_to_then S m 0 old (h.read ++ took) (pending ++ took) (behind ∷ []) now last a b new count same behind_read u in
            let many = h.many in
            let p = length_piece in
            let l : length now_read ≡ length h.read + length (take n room) = length-append h.read (take n room) in
            let same' : h.read ++ took ≡ now_read = ap (λ c. h.read ++ take c room) (part_all left n all) in
            record {
              read = now_read;
              consumed = consumed_more;
              most = most_more;
              least = more_least fed.old.input fed.new.input next.input h.read k h.consumed h.least made;
              many = omega (arith, many, p, l, some);
              failed = failed ∙ h.failed;
              up_to = subst (λ bs. HearsUpTo S m 0 old bs (behind ∷ []) new count (joined_changes a b)) same' up;
              short = short;
              within = left_more limits.bytes left h.read room n h.within within all;
            }
