-- What has come of it is kept.
use Rattle.std.proofs.Common.{◌≡◌, ◌<◌, ◌∙◌, ◌++◌, length, take, ap, subst, arith}
use Rattle.base_clients.specs.Guests.{count, in_time, read_to}
use Rattle.base_clients.proofs.Wrote.{consumed, counted, made, within_room}
use Rattle.base_clients.proofs.guest.Guest.read_on.Goals as goal

pub add-requires : goal.add-requires
add-requires g c =
    let bound = within_room c.get-tried.result c.get-tried.new.buf c.get-tried.ensures.bound in
    let same = c.count-came.ensures in
    omega arith

pub returns-clause-on : goal.returns-clause-on
returns-clause-on g c =
    let tried = c.get-tried.result in
    let came = take (count tried) c.get-tried.new.buf in
    let many : length came ≡ count tried = counted tried c.get-tried.new.buf c.get-tried.ensures.bound in
    let bound = within_room tried c.get-tried.new.buf c.get-tried.ensures.bound in
    let long : length c.get-tried.new.buf ≡ 4096 = c.get-tried.ensures.room ∙ c.requires.room in
    let all : c.add.new.bytes.items ≡ c.args.bytes.items ++ came = c.in_ok-add.ensures.added ∙ ap (λ n. c.args.bytes.items ++ take n c.get-tried.new.buf) c.count-came.ensures in
    let here : 0 < length came → 0 < c.count-came.result = λ some. let same = c.count-came.ensures in omega arith in record {
      tried = tried;
      came = came;
      whole = c.is_whole-is_whole.result;
      logged = c.get-tried.ensures.logged;
      silent = c.get-tried.ensures.written;
      counted = many;
      few = omega arith;
      consumed = consumed tried c.get-tried.new.buf _ _ (omega arith) c.get-tried.ensures.bytes;
      told = λ some. subst (λ l. g.F.Framing.tells c.args.framing.now l c.is_whole-is_whole.result) (c.deref.ensures.value ∙ all) (c.is_whole-is_whole.ensures (here some));
      same = made c.args.self.now c.get-tried.new.self _ _ _ _ _ _
          (c.in_time.ensures ∙ ap (λ s. in_time c.args.now c.args.self.now.by s) (c.read_to.ensures ∙ ap (λ l. read_to tried c.is_whole-is_whole.result c.args.most l) all)) c.moved_by-self.ensures c.has_waited-self.ensures;
    }
