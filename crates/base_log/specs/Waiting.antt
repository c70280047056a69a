-- Waiting: whole lines of a log that wait for their reader, and how many were dropped.
-- Source: this project's own; docs/running.md, "What the operator sees".
use Rattle.std.specs.Prelude.{ℕ, ◌+◌, ◌-◌, ◌^◌, min, Bool, not, ◌==◌, ◌&&◌, ◌||◌, if◌then◌else◌, List, [], ◌∷◌, ◌++◌, length, take, drop, nat_le, nat_lt, slice_index, Option, Some, None, is_none}
use Rattle.base_device.specs.Failures.{one_more}
use Rattle.base_log.specs.declared.room.Notice.{Notice}

-- the bytes that wait, and for how many there is room; whether they begin with the rest of a line whose front was written; the
-- notice among them, the line that tells of dropped lines, with the count that it tells; how many lines were dropped of which no
-- line tells, and how many in all. Counts go up to the greatest `u64`
pub record Waiting : Type 0 where
  pub bytes : List ℕ
  pub room : ℕ
  pub is_begun : Bool
  pub notice : Option Notice
  pub untold : ℕ
  pub dropped : ℕ

-- ---- what is dropped

-- a count after so many more
abbrev pub counted_more : ℕ → ℕ → ℕ
counted_more n more = min (n + more) (2 ^ 64 - 1)

-- so many lines were dropped
abbrev pub dropping : ℕ → Waiting → Waiting
dropping n w = record w { untold = counted_more w.untold n; dropped = counted_more w.dropped n }

-- ---- what is put

-- the notice, where lines were dropped of which none tells
abbrev pub notice_due : List ℕ → Waiting → List ℕ
notice_due notice w = if w.untold == 0 then [] else notice

-- a text is put after what waits where there is room for all of it
abbrev pub fits : List ℕ → Waiting → Bool
fits text w = nat_le (length w.bytes + length text) w.room

-- one notice waits at a time: what it tells is known to be told only once it was given
abbrev pub is_free : Waiting → Bool
is_free w = (w.untold == 0) || is_none w.notice

-- the notice is put, where one is due
abbrev pub noticed : List ℕ → Waiting → Waiting
noticed notice w =
    if w.untold == 0 then w
    else record w { bytes = w.bytes ++ notice; notice = Some (record { lines = w.untold; end = length w.bytes + length notice }); untold = 0 }

-- a line is taken whole, and before it the notice, in the place of the lines of which it tells; or it is dropped whole and counted
abbrev pub with_line : List ℕ → List ℕ → Waiting → Waiting
with_line notice line w =
    if is_free w && fits (notice_due notice w ++ line) w then record (noticed notice w) { bytes = (noticed notice w).bytes ++ line }
    else dropping 1 w

-- the notice is put where one is due and there is room for it
abbrev pub with_notice : List ℕ → Waiting → Waiting
with_notice notice w = if is_free w && fits (notice_due notice w) w then noticed notice w else w

-- ---- what is given

-- whether the first n bytes end within a line
abbrev pub begun_after : ℕ → Waiting → Bool
begun_after n w = if n == 0 then w.is_begun else not (slice_index w.bytes (n - 1) == 10)

-- the notice that still waits behind the first n bytes, and where it ends then
abbrev pub notice_after : ℕ → Option Notice → Option Notice
notice_after n None = None
notice_after n (Some notice) = if nat_lt n notice.end then Some (record notice { end = notice.end - n }) else None

-- the first n bytes were given
abbrev pub giving : ℕ → Waiting → Waiting
giving n w = record w { bytes = drop n w.bytes; is_begun = begun_after n w; notice = notice_after n w.notice }

-- how many lines end here
abbrev pub feeds : List ℕ → ℕ
feeds [] = 0
feeds (b ∷ bytes) = (if b == 10 then 1 else 0) + feeds bytes

-- how many bytes there are up to the first line feed, and with it; all where there is none
abbrev pub line_length : List ℕ → ℕ
line_length [] = 0
line_length (b ∷ bytes) = if b == 10 then 1 else 1 + line_length bytes

-- how much is kept where the rest is dropped: the rest of a line whose front was written
abbrev pub bytes_kept : Waiting → ℕ
bytes_kept w = if w.is_begun then line_length w.bytes else 0

-- the notice that ends behind the first n bytes
abbrev pub notice_past : ℕ → Option Notice → Option Notice
notice_past n None = None
notice_past n (Some notice) = if nat_lt n notice.end then Some notice else None

-- so many lines are dropped that waited. A notice among them is not counted, and no line tells any more of those of which it told
abbrev pub dropping_with : Option Notice → ℕ → Waiting → Waiting
dropping_with None lines w = dropping lines w
dropping_with (Some notice) lines w = dropping (lines - 1) (record w { notice = None; untold = counted_more w.untold notice.lines })

-- what waits is dropped and counted, but for the rest of a line whose front was written
abbrev pub closed_waiting : Waiting → Waiting
closed_waiting w =
    dropping_with (notice_past (bytes_kept w) w.notice) (feeds (drop (bytes_kept w) w.bytes)) (record w { bytes = take (bytes_kept w) w.bytes })

-- where the sink failed, what waits is dropped
abbrev pub closed_if : Bool → Waiting → Waiting
closed_if failed w = if failed then closed_waiting w else w

-- ---- what a turn gives

-- the failures of a sink after a turn: its last try alone may have failed
abbrev pub after_turn : Bool → ℕ → ℕ
after_turn failed n = if failed then one_more n else n
