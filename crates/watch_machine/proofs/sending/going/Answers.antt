-- As many of the line as lanes are free go out.
use Rattle.std.proofs.Common.{◌≡◌, ◌∙◌, ap, length, map, min, take, vec_len}
use Rattle.watch_machine.specs.{declared.sending.Place.Place, Clocks.sec, Sending.request, code.Line.requests_of, code.Places.place_is}
use Rattle.watch_machine.proofs.{InLine.going_is, InLine.line_is, RoundClock.front_many, sending.going.Goals.In_ok-requests}
use Rattle.watch_machine.proofs.sending.going.Goals as goal

made : (c : In_ok-requests) → c.in_ok-requests.requests.items ≡ requests_of c.args.presence (sec c.args.at) c.args.tracks.now c.min-picked.result c.in_order-line.result.items
made c =
    let p = c.args.presence in
    let at = c.args.at in
    let xs = c.args.tracks.now in
    let many = c.min-picked.result in
    c.in_ok-requests.ensures ∙ ap (λ now. map (λ (q : Place). request p now xs (place_is q)) (take many c.deref.result.now)) c.second.ensures.value
    ∙ ap (λ qs. map (λ (q : Place). request p (sec at) xs (place_is q)) (take many qs)) c.deref.ensures.value

pub returns-clause-going : goal.returns-clause-going
returns-clause-going c =
    let lanes = c.args.lanes in
    let line = c.in_order-line.result.items in
    let count : c.len.result ≡ length line = (let len = c.in_order-line.result.ok.0 in let e : c.len.result ≡ vec_len c.in_order-line.result = c.len.ensures in cc) in
    going_is c.args.forest.now c.args.presence c.args.at c.args.tracks.now lanes c.min-picked.result c.in_ok-due.field-0.items line c.in_ok-requests.requests.items c.in_ok-due.ensures c.in_order-line.ensures.all c.in_order-line.ensures.sorted
    (c.min-picked.ensures ∙ ap (min lanes) count) (made c)

pub returns-clause-line : goal.returns-clause-line
returns-clause-line c =
    let p = c.args.presence in
    let at = c.args.at in
    let xs = c.args.tracks.now in
    let line = c.in_order-line.result.items in record {
      order = line_is c.args.forest.now p at xs c.in_ok-due.field-0.items line c.in_ok-due.ensures c.in_order-line.ensures.all c.in_order-line.ensures.sorted;
      front = front_many p (sec at) xs c.min-picked.result line c.in_ok-requests.requests.items (made c);
    }
