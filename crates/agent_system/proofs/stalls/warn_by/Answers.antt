-- Standard output is looked at first, and then the folder of the ends, with what is said of the first.
use Rattle.std.proofs.Common.{◌≡◌, ◌++◌, OnOk, ℕ, List, Option, Result, Ok, Err, codes, subst}
use Rattle.std.specs.declared.alloc.AllocError.{AllocError}
use Rattle.state_secrets.specs.declared.secret_files.FileStamp.{FileStamp}
use Rattle.state_secrets.specs.Stamps.{FileCall, Made, Stamped}
use Rattle.agent_system.specs.Stalls.{WarnsBy, WarnsOfEnds, log_warning}
use Rattle.agent_words.specs.declared.said.SaidLine.{SaidLine}
use Rattle.agent_system.proofs.stalls.warn_by.Goals as goal

warned :
    {I : Type 0} (calls : I → Option (List FileCall)) (mounts : List ℕ) (ends : Option (List ℕ)) (stamp : Option FileStamp) (before mid after : I) (old logged new : List SaidLine)
    (result : Result (Unit {0}) AllocError) → Made (Stamped (codes "/proc/self/fd/1") stamp) (calls before) (calls mid) → logged ≡ old ++ log_warning mounts stamp
    → OnOk result (WarnsOfEnds calls mounts ends mid after logged new) → OnOk result (WarnsBy calls (Ok mounts) ends before after old new)
warned calls mounts ends stamp before mid after old logged new (Ok x) made logs warns = (stamp, (mid, (made, subst (λ (l : List SaidLine). WarnsOfEnds calls mounts ends mid after l new) logs warns)))
warned calls mounts ends stamp before mid after old logged new (Err e) made logs warns = tt

pub returns : goal.returns
returns g c =
    warned g.I.SecretFiles.calls c.args.mounts.now _ c.stamp-output.result c.args.files.now c.stamp-output.new.self c.warn_of_ends.new.files c.args.said.now.items c.warn_of_log.new.said.items
    c.warn_of_ends.new.said.items c.warn_of_ends.result c.stamp-output.ensures c.in_ok-warn_of_log.ensures c.warn_of_ends.ensures
