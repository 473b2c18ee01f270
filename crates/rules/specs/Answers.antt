-- The whole answer of each public function, for every input: what is returned, and every byte of the lent buffer afterwards.
-- Assumes nothing.
use Rattle.std.specs.Prelude.{ℕ, ◌≡◌, Bool, true, cond, not, ◌&&◌, List, [], ◌++◌, ◌↔◌, leb, ltb, ℤ, length, drop}
use Rattle.rules.specs.Table.{Table, nops}
use Rattle.rules.specs.Runs.{BoardsRightAt, ValuesRightAt, spaced, IsPeriod}
use Rattle.rules.specs.Gaps.{IsGap}
use Rattle.rules.specs.Places.{EachPlaces}
use Rattle.rules.specs.Rows.{Reply, reply_of, starts_of, margin}
use Rattle.rules.specs.Verdicts.{Verdict, accepted, refused, ROOM, ASK, Test, refuse_if, ◌then◌, onwards}
use Rattle.rules.specs.Bytes.{table_bytes, reply_bytes, starts_bytes, places_bytes}
use Rattle.rules.specs.Judge.{judge, Numbers, judge_numbers, judge_reply}
use Rattle.rules.specs.Text.{text_of, told, yes_no_line, margin_line, gap_line, starts_text}
use Rattle.rules.specs.Words.{Question, fold_asked, boards_asked, values_asked, margin_asked, unfold_asked, gap_asked, nothing_asked, question_of, is_asked, askable}

-- ---- a lent buffer

-- what a function that writes returns, the number of bytes written or a refusal, and what the buffer holds then
pub record Written : Type 0 where
  pub answer : Verdict ℕ
  pub buffer : List ℕ

-- ROOM: "output buffer too short", a: "bytes needed". "Success writes the stated bytes from the front and leaves the rest of the buffer."
unfoldable pub put : List ℕ → List ℕ → Written
put bytes out =
    cond (ltb (length out) (length bytes))
    (record { answer = refused ROOM (length bytes) 0; buffer = out })
    (record { answer = accepted (length bytes); buffer = bytes ++ drop (length bytes) out })

-- "A refusal returns its number, a and b, and no output byte changes."
unfoldable pub written : Verdict (List ℕ) → List ℕ → Written
unfolding put
written (accepted bytes) out = put bytes out
written (refused number a b) out = record { answer = refused number a b; buffer = out }

-- ---- an answer that is a fact about what was accepted

-- v is the refusal, or an answer y with P x y to the x that was accepted
unfoldable pub Answers : {A B : Type 0} → (A → B → Type 0) → Verdict A → Verdict B → Type 0
Answers {B = B} P (accepted x) v = (y : B) × P x y × (v ≡ accepted y)
Answers P (refused number a b) v = v ≡ refused number a b

-- ---- plan: a table's bytes in, its reply's bytes out

-- R is T folded at its period
abbrev pub Planned : Table → Reply → Type 0
Planned T R = (q : ℕ) × IsPeriod T q × (R ≡ reply_of T q)

-- the reply to a table's bytes
abbrev pub ReplyTo : List ℕ → Verdict Reply → Type 0
ReplyTo s v = Answers Planned (judge s) v

-- the bytes of what is accepted
unfoldable pub bytes_of : {A : Type 0} → (A → List ℕ) → Verdict A → Verdict (List ℕ)
unfolding onwards
bytes_of f v = onwards v (λ x. accepted (f x))

abbrev pub IsPlan : List ℕ → List ℕ → Written → Type 0
IsPlan s out w = (v : Verdict Reply) × ReplyTo s v × (w ≡ written (bytes_of reply_bytes v) out)

-- ---- fold: a table's bytes in, the text out, which tells a refusal of the table too

-- the text for a table's bytes, whole
abbrev pub IsText : List ℕ → List ℕ → Type 0
IsText s bytes = (v : Verdict Reply) × ReplyTo s v × (bytes ≡ text_of v)

-- that text, in a lent buffer
abbrev pub IsFold : List ℕ → List ℕ → Written → Type 0
IsFold s out w = (bytes : List ℕ) × IsText s bytes × (w ≡ put bytes out)

-- ---- unfold: a reply's bytes in, the starts' bytes out
abbrev pub IsUnfold : List ℕ → List ℕ → Written → Type 0
IsUnfold s out w = w ≡ written (bytes_of (λ R. starts_bytes (starts_of R)) (judge_reply s)) out

-- ---- write a table from numbers
abbrev pub IsWrite : Numbers → List ℕ → Written → Type 0
IsWrite N out w = w ≡ written (bytes_of table_bytes (judge_numbers N)) out

-- ---- questions. ASK: "an operation number, distance or period asked for is outside its range", a: "place of the first bad one"
unfoldable pub asked : Bool → ℕ → Test
unfolding refuse_if
asked ok place = refuse_if (not ok) ASK place 0

abbrev pub period_asked : Table → ℕ → ℕ → Test
period_asked T q place = asked (leb 1 q && leb q T.len) place

-- margin: "the order is i, j, n, q, places 0 to 3"; "n is 1 to 1000 and q is 1 to p"
unfoldable pub margin_test : Table → ℕ → ℕ → ℕ → ℕ → Test
unfolding asked ◌then◌
margin_test T i j n q =
    asked (ltb i (nops T)) 0 then asked (ltb j (nops T)) 1 then asked (leb 1 n && leb n 1000) 2 then period_asked T q 3

abbrev pub IsMargin : List ℕ → ℕ → ℕ → ℕ → ℕ → Verdict ℤ → Type 0
IsMargin s i j n q v = v ≡ onwards (judge s) (λ T. margin_test T i j n q then accepted (margin T i j n q))

-- the period of a table's bytes: "the smallest right q", or the refusal
abbrev pub IsPeriodOf : List ℕ → Verdict ℕ → Type 0
IsPeriodOf s v = Answers IsPeriod (judge s) v

-- ---- document 02, No. 6, "Give the smallest gap": the gap of a table's bytes, or the refusal
abbrev pub IsGapOf : List ℕ → Verdict ℕ → Type 0
IsGapOf s v = Answers IsGap (judge s) v

-- ---- document 02, No. 1, "For each cell, give the smallest number R of places for the period found"

-- the places of T's cells
abbrev pub PlacesFor : Table → List ℕ → Type 0
PlacesFor T rs = (q : ℕ) × IsPeriod T q × EachPlaces T q rs

-- the places of a table's bytes, or the refusal
abbrev pub PlacesTo : List ℕ → Verdict (List ℕ) → Type 0
PlacesTo s v = Answers PlacesFor (judge s) v

-- a table's bytes in, the numbers' bytes out
abbrev pub IsStored : List ℕ → List ℕ → Written → Type 0
IsStored s out w = (v : Verdict (List ℕ)) × PlacesTo s v × (w ≡ written (bytes_of places_bytes v) out)

-- ---- document 02, No. 10, "Ask about boards or about values": two questions, "each with its own answer for every table and period"

-- the table of a question about q; "q is place 0"
abbrev pub asked_table : List ℕ → ℕ → Verdict Table
asked_table s q = onwards (judge s) (λ T. period_asked T q 0 then accepted T)

-- a yes says that P holds of q
abbrev pub YesFor : (Table → ℕ → Type 0) → ℕ → Table → Bool → Type 0
YesFor P q T said = (said ≡ true) ↔ P T q

-- the answer whether P holds of q. "Refusals: each has the old question's, in the same order": the table's, then ASK.
abbrev pub YesNo : (Table → ℕ → Type 0) → List ℕ → ℕ → Verdict Bool → Type 0
YesNo P s q v = Answers (YesFor P q) (asked_table s q) v

-- "whether a period fits the boards"
abbrev pub Fit : Table → ℕ → Type 0
Fit T q = BoardsRightAt T (spaced q)

abbrev pub BoardsFit : List ℕ → ℕ → Verdict Bool → Type 0
BoardsFit s q v = YesNo Fit s q v

-- "whether values arrive"
abbrev pub Arrive : Table → ℕ → Type 0
Arrive T q = ValuesRightAt T (spaced q)

abbrev pub ValuesArrive : List ℕ → ℕ → Verdict Bool → Type 0
ValuesArrive s q v = YesNo Arrive s q v

-- ---- the program: what it prints for the words behind its name and the bytes on its standard input

-- the text for a question: an answer, or the line of its refusal
unfoldable pub IsSaid : Question → List ℕ → List ℕ → Type 0
unfolding told yes_no_line margin_line gap_line starts_text askable
IsSaid fold_asked s text = IsText s text
IsSaid (boards_asked q) s text = (v : Verdict Bool) × BoardsFit s q v × (text ≡ told yes_no_line v)
IsSaid (values_asked q) s text = (v : Verdict Bool) × ValuesArrive s q v × (text ≡ told yes_no_line v)
IsSaid (margin_asked i j n q) s text = (v : Verdict ℤ) × IsMargin s i j n q v × (text ≡ told margin_line v)
IsSaid unfold_asked s text = text ≡ told starts_text (judge_reply s)
IsSaid gap_asked s text = (v : Verdict ℕ) × IsGapOf s v × (text ≡ told gap_line v)
IsSaid nothing_asked s text = text ≡ askable

-- what stands on standard output and on standard error
pub record Printed : Type 0 where
  pub out : List ℕ
  pub err : List ℕ

-- words that ask nothing "get a short list of what can be asked on standard error and nothing on standard output"
unfoldable pub printed : Question → List ℕ → Printed
printed q text = cond (is_asked q) (record { out = text; err = [] }) (record { out = []; err = text })

abbrev pub IsPrinted : List (List ℕ) → List ℕ → Printed → Type 0
IsPrinted ws s p = (text : List ℕ) × IsSaid (question_of ws) s text × (p ≡ printed (question_of ws) text)
