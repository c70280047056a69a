-- OneText: what is told of a board is one text, since each moment has one date.
use Rattle.std.proofs.Common.{◌≡◌, ◌∙◌, ℕ, List, [], ◌∷◌, ◌++◌, Bool, true, false, ap, sym}
use Rattle.base_moment.proofs.Moments.{one_date_text}
use Rattle.agent_pages.specs.{Folders.folder_line, declared.asked.Method.Method, declared.asked.Page.Page, declared.board.Board.Board, declared.board.BoardRow.BoardRow, declared.lines.Lines.Lines, declared.point.Point.Point}
use Rattle.agent_pages.specs.{declared.state.EntryState.EntryState, declared.shown.Shown.Shown}
use Rattle.agent_pages.specs.Answers.{IsAnswer, IsBody, IsPage, IsShown, IsTold, OneAnswer, OneTold, health_code, sent_to}
use Rattle.agent_pages.specs.Health.{IsMissingLine, IsMissingLineIf, SaysWhyMoment, is_healthy, is_missing, missing_line}
use Rattle.agent_pages.specs.Lines.{AreEntryLines, IsEntryLine, IsHealthIf, IsHealthText, IsStandingText}
use Rattle.agent_pages.specs.Points.{SaysPoint, point_at, point_of}
use Rattle.agent_pages.specs.Standing.{IsStandingLine, first_line, standing_line}
use Rattle.agent_pages.specs.declared.asked.Method.TheVariants.{Get, Head, Other}
use Rattle.agent_pages.specs.declared.asked.Page.TheVariants.{Metrics, Health, Listing, Nowhere}
use Rattle.agent_pages.specs.declared.asked.Question.TheVariants.{Read, Unread, TooLong}
use Rattle.agent_pages.specs.declared.lines.Lines.TheVariants.{Standing, Missing}
use Rattle.agent_pages.specs.declared.point.Point.TheVariants.{Unknown, At, Always}
use Rattle.agent_pages.specs.declared.shown.Content.TheVariants as contents
use Rattle.agent_pages.specs.declared.state.EntryState.TheVariants as states

one_point : (p : Point) (a b : List ℕ) → SaysPoint p a → SaysPoint p b → a ≡ b
one_point Unknown a b x y = x ∙ sym y
one_point (At moment) a b x y = one_date_text a b moment x y
one_point Always a b x y = x ∙ sym y

-- ---- lines

one_standing : (row : BoardRow) (line other : List ℕ) → IsStandingLine row line → IsStandingLine row other → line ≡ other
one_standing row line other (u, n, r, s, pu, pn, pr, ps, is) (v, m, q, t, pv, pm, pq, pt, js) =
    is ∙ ap (λ x. standing_line row x n r s) (one_point (point_of row.end) u v pu pv) ∙ ap (λ x. standing_line row v x r s) (one_point (point_at row.need) n m pn pm)
    ∙ ap (λ x. standing_line row v m x s) (one_point (point_at row.in_force) r q pr pq) ∙ ap (λ x. standing_line row v m q x) (one_point (point_of row.last_success) s t ps pt) ∙ sym js

one_why : (state : EntryState) (row : BoardRow) (a b : List ℕ) → SaysWhyMoment state row a → SaysWhyMoment state row b → a ≡ b
one_why states.Gone row a b x y = x ∙ sym y
one_why states.Ended row a b x y = one_point (point_of row.end) a b x y
one_why states.Waiting row a b x y = x ∙ sym y
one_why states.Short row a b x y = one_point (point_at row.in_force) a b x y
one_why states.Unknown row a b x y = x ∙ sym y
one_why states.Trying row a b x y = x ∙ sym y
one_why states.Kept row a b x y = x ∙ sym y

one_missing : (row : BoardRow) (line other : List ℕ) → IsMissingLine row line → IsMissingLine row other → line ≡ other
one_missing row line other (w, n, pw, pn, is) (v, m, pv, pm, js) =
    is ∙ ap (λ x. missing_line row x n) (one_why row.state row w v pw pv) ∙ ap (λ x. missing_line row v x) (one_point (point_at row.carried) n m pn pm) ∙ sym js

one_missing_if : (is_missing : Bool) (row : BoardRow) (line other : List ℕ) → IsMissingLineIf is_missing row line → IsMissingLineIf is_missing row other → line ≡ other
one_missing_if true row line other x y = one_missing row line other x y
one_missing_if false row line other x y = x ∙ sym y

one_line : (lines : Lines) (row : BoardRow) (line other : List ℕ) → IsEntryLine lines row line → IsEntryLine lines row other → line ≡ other
one_line Standing row line other x y = one_standing row line other x y
one_line (Missing now) row line other x y = one_missing_if (is_missing now row) row line other x y

one_lines : (lines : Lines) (rows : List BoardRow) (a b : List ℕ) → AreEntryLines lines rows a → AreEntryLines lines rows b → a ≡ b
one_lines lines [] a b x y = x ∙ sym y
one_lines lines (row ∷ rows) a b (line, rest, x, xs, is) (other, more, y, ys, js) =
    is ∙ ap (λ z. z ++ rest) (one_line lines row line other x y) ∙ ap (λ z. other ++ z) (one_lines lines rows rest more xs ys) ∙ sym js

-- ---- texts

one_standing_text : (b : Board) (text other : List ℕ) → IsStandingText b text → IsStandingText b other → text ≡ other
unfolding IsStandingText
one_standing_text b text other (n, r, pn, pr, is) (m, s, pm, ps, js) =
    is ∙ ap (λ z. first_line b z ++ r) (one_point (point_of b.surroundings.next_wake) n m pn pm) ∙ ap (λ z. first_line b m ++ z) (one_lines Standing b.rows r s pr ps) ∙ sym js

one_health_if : (healthy : Bool) (b : Board) (text other : List ℕ) → IsHealthIf healthy b text → IsHealthIf healthy b other → text ≡ other
one_health_if true b text other x y = x ∙ sym y
one_health_if false b text other x y = one_lines (Missing b.broker_now) b.rows text other x y

one_health : (b : Board) (text other : List ℕ) → IsHealthText b text → IsHealthText b other → text ≡ other
unfolding IsHealthText
one_health b text other (x, px, is) (y, py, js) = is ∙ ap (λ z. z ++ folder_line b.surroundings.state_folder) (one_health_if (is_healthy b) b x y px py) ∙ sym js

-- ---- pages

one_page : (b : Board) (page : Page) (s t : Shown) → IsPage b page s → IsPage b page t → s ≡ t
unfolding IsPage
one_page b (Metrics format) s t x y = x ∙ sym y
one_page b Health s t (u, pu, is) (v, pv, js) =
    let shown : List ℕ → Shown = λ body. record { code = health_code b; content = contents.Plain; body = body } in
    is ∙ ap shown (one_health b u v pu pv) ∙ sym js
one_page b Listing s t x y = x ∙ sym y
one_page b Nowhere s t x y = x ∙ sym y

one_shown : (b : Board) (method : Method) (page : Page) (s t : Shown) → IsShown b method page s → IsShown b method page t → s ≡ t
unfolding IsShown
one_shown b Get page s t x y = one_page b page s t x y
one_shown b Head page s t x y = one_page b page s t x y
one_shown b Other (Metrics format) s t x y = x ∙ sym y
one_shown b Other Health s t x y = x ∙ sym y
one_shown b Other Listing s t x y = x ∙ sym y
one_shown b Other Nowhere s t x y = x ∙ sym y

pub one_answer : OneAnswer
unfolding IsAnswer
one_answer b (Read method page) answer other (s, ps, is) (t, pt, js) = is ∙ ap (sent_to method) (one_shown b method page s t ps pt) ∙ sym js
one_answer b Unread answer other x y = x ∙ sym y
one_answer b TooLong answer other x y = x ∙ sym y

one_body : (b : Board) (page : Page) (text other : List ℕ) → IsBody b page text → IsBody b page other → text ≡ other
one_body b page text other (s, ps, is) (t, pt, js) = is ∙ ap (λ (shown : Shown). shown.body) (one_page b page s t ps pt) ∙ sym js

pub one_told : OneTold
unfolding IsTold
one_told b Listing text other x y = one_standing_text b text other x y
one_told b (Metrics format) text other x y = one_body b (Metrics format) text other x y
one_told b Health text other x y = one_body b Health text other x y
one_told b Nowhere text other x y = one_body b Nowhere text other x y
