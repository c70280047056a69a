-- A start: whose fault it is that nothing is kept, and the copy of the file that is served.
use Rattle.std.proofs.Common.{◌≡◌, ◌≤◌, List, [], ℕ, Bool, false, Option, Some, None, refl, sym, ap, subst, ◌∙◌}
use Rattle.std.specs.Str.{bytes_eq}
use Rattle.base_disk.specs.{Torn.MovesFile, declared.fault.DiskFault.DiskFault}
use Rattle.base_disk.specs.Image.{File, Image, SameElsewhere}
use Rattle.base_disk.specs.State.{DiskState, IsAfter, LeavesOnly}
use Rattle.base_disk.specs.declared.fault.DiskFault.TheVariants.{Failed, TooLong}
use Rattle.base_disk.specs.declared.fault.DiskFault.TheVariants as disks
use Rattle.base_disk.proofs.Moments.{started, weaker}
use Rattle.base_journal.specs.Journals.{FileIsThere, KeepsOthers, lines_of_journal}
use Rattle.state_changes.specs.declared.change.Record.{Record}
use Rattle.state_store.specs.Books.{IsFileFaultOf}
use Rattle.state_store.specs.declared.fault.FileFault.{FileFault}
use Rattle.state_store.specs.declared.fault.FileFault.TheVariants as files
use Rattle.state_store.specs.Records.{records_in}
use Rattle.state_store.proofs.{Copied.moves_elsewhere, Undamaged.same_records}
use Rattle.state_keeping.specs.{declared.fault.OpenFault.TheVariants.OutOfMemory, declared.recovering.Recovered.Recovered, Places.Places, Recovers.IsAside, Recovers.IsRecovered}
use Rattle.state_keeping.specs.Opens.{IsOfFolder, IsWhyUnopened, unheld, unserved}
use Rattle.state_keeping.proofs.Others.{at_end}

pub of_folder : (known : Bool) (places : Places) (s : DiskState) (fault : DiskFault) → IsOfFolder known places s (unheld fault)
of_folder known places s (Failed why) = tt
of_folder known places s TooLong = tt
of_folder known places s disks.OutOfMemory = tt

pub copy_elsewhere : (copy : List ℕ) (file : File) (s t : DiskState) → LeavesOnly s t (IsAfter (MovesFile copy file) s) → LeavesOnly s t (IsAfter (SameElsewhere copy) s)
copy_elsewhere copy file s t run = weaker s t (IsAfter (MovesFile copy file) s) (IsAfter (SameElsewhere copy) s) run (λ c left. (left.0, left.1, moves_elsewhere copy file left.0 c left.2))

pub synced_elsewhere : (copy : List ℕ) (s t : DiskState) → LeavesOnly s t s.may_leave → LeavesOnly s t (IsAfter (SameElsewhere copy) s)
synced_elsewhere copy s t run = weaker s t s.may_leave (IsAfter (SameElsewhere copy) s) run (λ c left. (c, left, (λ other apart. refl)))

pub nothing_copied : (copy : List ℕ) (s : DiskState) → ((c : Image) → s.left_since s.moment c → s.may_leave c) → LeavesOnly s s (IsAfter (SameElsewhere copy) s)
nothing_copied copy s only = started s (IsAfter (SameElsewhere copy) s) only (λ c left. (c, left, (λ other apart. refl)))

-- another file is still there once the copy was made
pub put_past : (copy other : List ℕ) (file : File) (s t : DiskState) → bytes_eq copy other ≡ false → KeepsOthers copy s t → LeavesOnly s t (IsAfter (SameElsewhere copy) s)
    → ((n : ℕ) (c : Image) → n ≤ t.moment → t.may_leave c → t.left_since n c) → FileIsThere other file s → FileIsThere other file t
put_past copy other file s t apart others run counts there = record {
  seen = others.seen other apart ∙ there.seen;
  is_kept = record {
    sound = others.sound other apart ∙ there.is_kept.sound;
    durable = λ c left.
        let from = at_end s t (IsAfter (SameElsewhere copy) s) run counts c left in
        from.2 other apart ∙ there.is_kept.durable from.0 from.1 ∙ sym (others.seen other apart);
  };
}

-- with the damaged lines aside or not, the records are the same
pub aside_records : (lines : List (List ℕ)) (aside : Option DiskFault) (now : List (List ℕ)) → IsAside lines aside now → records_in now ≡ records_in lines
aside_records lines None now is = ap records_in is ∙ same_records lines
aside_records lines (Some fault) now is = ap records_in is

-- where the file is not served with what the journal holds then, it is not with the lines that were read
module _ (known : Bool) (file : Option (List ℕ)) (places : Places) (s t : DiskState) (r : Recovered) (is : IsRecovered known places s t r) where
  read_so : (fault : FileFault) → IsFileFaultOf file (records_in (lines_of_journal r.journal)) [] fault → IsFileFaultOf file (records_in is.lines) [] fault
  read_so fault why = subst (λ (rs : List Record). IsFileFaultOf file rs [] fault) (aside_records is.lines r.aside (lines_of_journal r.journal) is.aside) why

  pub unserved_why : (fault : FileFault) → IsFileFaultOf file (records_in (lines_of_journal r.journal)) [] fault → IsWhyUnopened known file places s (unserved fault)
  unserved_why files.Unread why = (is.lines, is.read, read_so files.Unread why)
  unserved_why (files.Faulty fault) why = (is.lines, is.read, read_so (files.Faulty fault) why)
  unserved_why (files.Unwritten fault) why = (is.lines, is.read, read_so (files.Unwritten fault) why)
  unserved_why files.OutOfMemory why = tt
