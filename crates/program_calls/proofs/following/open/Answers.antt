-- All bytes of another answer are there, and are an answer or none; or why they are not there.
use Rattle.std.proofs.Common.{◌≡◌, ◌∙◌, ◌++◌, ap, bytes_eq, codes, sym}
use Rattle.program_calls.proofs.Beginning.{answer_opens, not_answer_opens, unread_front_opens, unread_opens, wanting_opens}
use Rattle.program_calls.proofs.following.open.Goals as goal

pub returns-in_err-read_front-clause-opens : goal.returns-in_err-read_front-clause-opens
returns-in_err-read_front-clause-opens g c =
    let f = c.in_err-read_front.ensures in
    unread_front_opens c.from_residual.result c.in_err-read_front.field-0.0 _ c.from_residual.ensures
    (record { whole = f.read; short = f.short; end = f.end; few = f.few; count = f.count })

pub returns-in_err-rest-clause-opens : goal.returns-in_err-rest-clause-opens
returns-in_err-rest-clause-opens g c =
    let e = c.in_err-rest.ensures in
    let f = c.in_ok-read_front.ensures in
    let other = sym (c.is_ok_line.ensures ∙ ap (λ l. bytes_eq l (codes "ok\n")) c.as_slice.ensures.value) ∙ c.if-is_ok_line.false in
    unread_opens c.from_residual-in_err-rest.result c.in_err-rest.field-0.0 c.read_front.new.front.items _ c.from_residual-in_err-rest.ensures (record {
      mid = g.L.Device.seen c.read_front.new.line;
      first = record { whole = f.read; short = f.short; end = f.end; few = f.few; count = f.count };
      other = other;
      others = record { whole = e.read; short = e.short; end = e.end; few = e.reads; count = e.count };
    })

pub returns-in_err-extend_from_slice-clause-opens : goal.returns-in_err-extend_from_slice-clause-opens
returns-in_err-extend_from_slice-clause-opens g c =
    let e = c.in_ok-rest.ensures in
    let f = c.in_ok-read_front.ensures in
    let other = sym (c.is_ok_line.ensures ∙ ap (λ l. bytes_eq l (codes "ok\n")) c.as_slice.ensures.value) ∙ c.if-is_ok_line.false in
    wanting_opens c.from_residual-in_err-extend_from_slice.result c.read_front.new.front.items c.in_ok-rest.rest _ c.from_residual-in_err-extend_from_slice.ensures (record {
      mid = g.L.Device.seen c.read_front.new.line;
      first = record { whole = f.read; short = f.short; end = f.end; few = f.few; count = f.count };
      other = other;
      others = record { whole = e.read; short = e.short; end = e.end; few = e.reads; count = e.count };
    })

pub returns-in_err-reply_in-clause-opens : goal.returns-in_err-reply_in-clause-opens
returns-in_err-reply_in-clause-opens g c =
    let e = c.in_ok-rest.ensures in
    let f = c.in_ok-read_front.ensures in
    let other = sym (c.is_ok_line.ensures ∙ ap (λ l. bytes_eq l (codes "ok\n")) c.as_slice.ensures.value) ∙ c.if-is_ok_line.false in
    let whole : c.from_vec.result ≡ c.read_front.new.front.items ++ c.in_ok-rest.rest =
    c.from_vec.ensures ∙ c.in_ok-extend_from_slice.ensures.items ∙ ap (λ l. c.read_front.new.front.items ++ l) c.list.ensures in
    not_answer_opens c.from_residual-in_err-reply_in.result c.in_err-reply_in.field-0.0 c.read_front.new.front.items c.in_ok-rest.rest c.from_vec.result _ c.from_residual-in_err-reply_in.ensures whole
    c.in_err-reply_in.ensures.heard (record {
      mid = g.L.Device.seen c.read_front.new.line;
      first = record { whole = f.read; short = f.short; end = f.end; few = f.few; count = f.count };
      other = other;
      others = record { whole = e.read; short = e.short; end = e.end; few = e.reads; count = e.count };
    })

pub returns-clause-opens : goal.returns-clause-opens
returns-clause-opens g c =
    let e = c.in_ok-rest.ensures in
    let f = c.in_ok-read_front.ensures in
    let other = sym (c.is_ok_line.ensures ∙ ap (λ l. bytes_eq l (codes "ok\n")) c.as_slice.ensures.value) ∙ c.if-is_ok_line.false in
    let whole : c.from_vec.result ≡ c.read_front.new.front.items ++ c.in_ok-rest.rest =
    c.from_vec.ensures ∙ c.in_ok-extend_from_slice.ensures.items ∙ ap (λ l. c.read_front.new.front.items ++ l) c.list.ensures in
    answer_opens c.in_ok-reply_in.field-0 c.read_front.new.front.items c.in_ok-rest.rest c.from_vec.result _ whole c.in_ok-reply_in.ensures.heard c.in_ok-reply_in.ensures.text (record {
      mid = g.L.Device.seen c.read_front.new.line;
      first = record { whole = f.read; short = f.short; end = f.end; few = f.few; count = f.count };
      other = other;
      others = record { whole = e.read; short = e.short; end = e.end; few = e.reads; count = e.count };
    })
