-- Document 01, "Bench tables": K1 to K10, those marked to be proved, each with its whole answer, as one list; and a list of tables with a decider,
-- for document 02, No. 4, of tables with a hold, for No. 9, of tables that are renamed, for No. 12, of gaps, for No. 6, and of places, for No. 1.
-- Assumes nothing.
use Rattle.std.specs.Prelude.{ℕ, Bool, true, false, List, [], ◌∷◌, ◌++◌, ℤ, pos, negsuc, get_or}
use Rattle.rules.specs.Table.{Op, Decider, nobody, decides, Table}
use Rattle.rules.specs.Rows.{Row, Reply, ticks, cycles}
use Rattle.rules.specs.Renamed.{Names, in_order, boards_by, modes_by}
use Rattle.rules.specs.Verdicts.{Verdict, accepted, refused}
use Rattle.rules.specs.Bytes.{table_bytes}
use Rattle.rules.specs.Answers.{ReplyTo, IsMargin, BoardsFit, ValuesArrive, IsGapOf, PlacesTo}

-- ---- how they are written down: start, duration, boards, reads, writes, modes; and with a hold behind the duration
abbrev pub opn : ℕ → ℕ → ℕ → ℕ → ℕ → ℕ → Op
opn t d b r w m = record { start = t; dur = d; hold = 0; boards = b; reads = r; writes = w; modes = m }

abbrev pub held : ℕ → ℕ → ℕ → ℕ → ℕ → ℕ → ℕ → Op
held t d h b r w m = record { start = t; dur = d; hold = h; boards = b; reads = r; writes = w; modes = m }

-- "One mode that follows itself unless said": length, boards, cells, operations
abbrev pub one_mode : ℕ → ℕ → ℕ → List Op → Table
one_mode p b c os = record { len = p; boards = b; cells = c; modes = 1; first = 1; follow = 1 ∷ []; ops = os; decider = nobody }

-- ---- the tables

-- "K1*: the input above": its bytes, and the table that they are
unfoldable pub k1_bytes : List ℕ
k1_bytes =
    1 ∷ 0 ∷ 2 ∷ 0 ∷ 5 ∷ 2 ∷ 0 ∷ 3 ∷ 1 ∷ 0 ∷ 1 ∷ 3 ∷ 0 ∷ 8 ∷ 0 ∷ 0 ∷ 0 ∷ 1 ∷ 0 ∷ 0 ∷ 0 ∷ 1 ∷ 4 ∷ 0 ∷ 18 ∷ 0 ∷ 1 ∷ 0 ∷ 3 ∷ 0 ∷ 1
    ∷ 0 ∷ 0 ∷ 0 ∷ 0 ∷ 0 ∷ 0 ∷ 0 ∷ 0 ∷ 0 ∷ 0 ∷ 0 ∷ 1 ∷ []

abbrev pub k1 : Table
k1 = one_mode 5 1 0 (opn 1 3 1 0 0 1 ∷ [])

-- "K2*: p 6; [0,2) board 0 writes c0; [2,4) board 1 reads c0 writes c1; [4,6) board 2 reads c1."
abbrev pub k2 : Table
k2 = one_mode 6 3 2 (opn 0 2 1 0 1 1 ∷ opn 2 2 2 1 2 1 ∷ opn 4 2 4 2 0 1 ∷ [])

-- "K3*: K2, and the first also reads c1."
abbrev pub k3 : Table
k3 = one_mode 6 3 2 (opn 0 2 1 2 1 1 ∷ opn 2 2 2 1 2 1 ∷ opn 4 2 4 2 0 1 ∷ [])

-- "K4*: p 4; [0,1) and [3,4) on board 0. Period 2, though 3 is not right."
abbrev pub k4 : Table
k4 = one_mode 4 1 0 (opn 0 1 1 0 0 1 ∷ opn 3 1 1 0 0 1 ∷ [])

-- "K5*: p 4; two modes that alternate, first is mode 0; [0,4) board 0 in mode 0; [0,4) board 1 in mode 1."
abbrev two_modes : List ℕ → Table
two_modes f =
    record {
      len = 4;
      boards = 2;
      cells = 0;
      modes = 2;
      first = 1;
      follow = f;
      ops = opn 0 4 1 0 0 1 ∷ opn 0 4 2 0 0 2 ∷ [];
      decider = nobody;
    }

abbrev pub k5 : Table
k5 = two_modes (2 ∷ 1 ∷ [])

-- "K6*: K5 with every turn permitted."
abbrev pub k6 : Table
k6 = two_modes (3 ∷ 3 ∷ [])

-- "K7*: modes 0 to 1 to 2 to 0, first is 0, p 6; [4,6) board 1 writes c0 in mode 0; [0,1) board 0 reads c0 in mode 2."
abbrev pub k7 : Table
k7 =
    record {
      len = 6;
      boards = 2;
      cells = 1;
      modes = 3;
      first = 1;
      follow = 2 ∷ 4 ∷ 1 ∷ [];
      ops = opn 4 2 2 0 1 1 ∷ opn 0 1 1 1 0 4 ∷ [];
      decider = nobody;
    }

-- "K8*: p 6; [0,2) board 0 writes c0; [2,3) board 1 reads c0; [3,6) board 2 writes c0."
abbrev pub k8 : Table
k8 = one_mode 6 3 1 (opn 0 2 1 0 1 1 ∷ opn 2 1 2 1 0 1 ∷ opn 3 3 4 0 1 1 ∷ [])

-- "K9*: p 4, two modes that each follow themselves, first is 1; [0,4) in mode 0 only."
abbrev pub k9 : Table
k9 =
    record {
      len = 4;
      boards = 1;
      cells = 0;
      modes = 2;
      first = 2;
      follow = 1 ∷ 2 ∷ [];
      ops = opn 0 4 1 0 0 1 ∷ [];
      decider = nobody;
    }

-- "K10*: p 3; [0,2) and [1,3) on one board ..  With [0,2) and [2,3) accepted."
abbrev pub k10 : Table
k10 = one_mode 3 1 0 (opn 0 2 1 0 0 1 ∷ opn 1 2 1 0 0 1 ∷ [])

abbrev pub k10_touching : Table
k10_touching = one_mode 3 1 0 (opn 0 2 1 0 0 1 ∷ opn 2 1 1 0 0 1 ∷ [])

-- ---- the list
abbrev pub row : ℕ → ℕ → Row
row s f = record { start = ticks s; fst = cycles f }

abbrev pub reply : ℕ → List Row → Verdict Reply
reply q rs = accepted (record { period = ticks q; rows = rs })

-- a case: a table's bytes, what is asked of them (the reply, a margin, whether the boards fit at q, whether the values arrive, the gap), and
-- the whole answer or refusal
pub data Case : Type 0 where
  replies : List ℕ → Verdict Reply → Case
  margins : List ℕ → (i j n q : ℕ) → Verdict ℤ → Case
  fits : List ℕ → ℕ → Verdict Bool → Case
  arrives : List ℕ → ℕ → Verdict Bool → Case
  gaps : List ℕ → Verdict ℕ → Case

-- what a case claims: that the answer beside the bytes is the answer by the rules. A reply is that of the smallest period that is right in
-- every run, folded; boards fit and values arrive in every run; a gap is the smallest that serves in every run, for all starts that are so far
-- apart; a refusal is the first that is due.
unfoldable pub Holds : Case → Type 0
Holds (replies s v) = ReplyTo s v
Holds (margins s i j n q v) = IsMargin s i j n q v
Holds (fits s q v) = BoardsFit s q v
Holds (arrives s q v) = ValuesArrive s q v
Holds (gaps s v) = IsGapOf s v

-- each case of a list
unfoldable pub All : {A : Type 0} → (A → Type 0) → List A → Type 0
All P [] = Unit {0}
All P (x ∷ xs) = P x × All P xs

abbrev pub table : Table → Verdict Reply → Case
table T v = replies (table_bytes T) v

unfoldable pub bench : List Case
unfolding k1_bytes table_bytes
bench =
    replies k1_bytes (reply 3 (row 1 0 ∷ []))
    ∷ margins k1_bytes 0 0 1 3 (accepted (pos 0))
    ∷ margins k1_bytes 0 0 1 2 (accepted (negsuc 0))
    ∷ table k2 (reply 2 (row 0 0 ∷ row 0 1 ∷ row 0 2 ∷ []))
    ∷ table k3 (reply 4 (row 0 0 ∷ row 2 0 ∷ row 0 1 ∷ []))
    ∷ table k4 (reply 2 (row 0 0 ∷ row 1 1 ∷ []))
    ∷ fits (table_bytes k4) 3 (accepted false)
    ∷ arrives (table_bytes k4) 3 (accepted true)
    ∷ table k5 (reply 2 (row 0 0 ∷ row 0 0 ∷ []))
    ∷ table k6 (reply 4 (row 0 0 ∷ row 0 0 ∷ []))
    ∷ table k7 (reply 3 (row 1 1 ∷ row 0 0 ∷ []))
    ∷ fits (table_bytes k7) 2 (accepted true)
    ∷ arrives (table_bytes k7) 2 (accepted false)
    ∷ table k8 (reply 3 (row 0 0 ∷ row 2 0 ∷ row 0 1 ∷ []))
    ∷ table k9 (reply 1 (row 0 0 ∷ []))
    ∷ table k10 (refused 6 0 1)
    ∷ table k10_touching (reply 3 (row 0 0 ∷ row 2 0 ∷ []))
    ∷ []

-- ---- document 02, No. 4: tables with a decider

-- two modes, cold and warm: 6 ticks, three boards and a cell
abbrev pub cold_warm : List ℕ → List Op → Decider → Table
cold_warm follow os who =
    record { len = 6; boards = 3; cells = 1; modes = 2; first = 1; follow = follow; ops = os; decider = who }

-- each may follow each; and the second is never reached
abbrev pub each_turn : List ℕ
each_turn = 3 ∷ 3 ∷ []

abbrev pub no_turn : List ℕ
no_turn = 1 ∷ 2 ∷ []

-- "a step reads the temperature and decides": [0,2) board 0 writes c0; then on board 1 [2,5) reads it in the cold, and [2,3) in the warm
abbrev pub analyzer : Table
analyzer = cold_warm each_turn (opn 0 2 1 0 1 3 ∷ opn 2 3 2 1 0 1 ∷ opn 2 1 2 1 0 2 ∷ []) (decides 0)

-- [0,1) board 2 in both modes, before the decider, [1,3) on board 0; [3,4) board 1 in the cold
abbrev pub sampled : Table
sampled = cold_warm each_turn (opn 0 1 4 0 0 3 ∷ opn 1 2 1 0 0 3 ∷ opn 3 1 2 0 0 1 ∷ []) (decides 1)

-- the last two start too early, by a tick; the first does, by a tick, and the decider is the last
abbrev pub hasty : Table
hasty = cold_warm each_turn (opn 0 2 1 0 0 3 ∷ opn 1 2 2 0 0 1 ∷ opn 1 2 2 0 0 2 ∷ []) (decides 0)

abbrev pub hasty_first : Table
hasty_first = cold_warm each_turn (opn 3 1 2 0 0 2 ∷ opn 0 4 1 0 0 3 ∷ []) (decides 1)

-- the decider runs in the cold alone, and the first starts too early as well
abbrev pub half : Table
half = cold_warm each_turn (opn 0 1 2 0 0 1 ∷ opn 0 2 1 0 0 1 ∷ []) (decides 1)

-- the warm is never reached: a decider that runs in the cold alone; one that runs in both, and a step in the cold that starts too early
abbrev pub unreached_half : Table
unreached_half = cold_warm no_turn (opn 0 1 1 0 0 1 ∷ opn 1 1 2 0 0 1 ∷ []) (decides 0)

abbrev pub unreached_hasty : Table
unreached_hasty = cold_warm no_turn (opn 0 2 1 0 0 3 ∷ opn 1 1 2 0 0 1 ∷ []) (decides 0)

-- a step that starts too early and races with the decider; and one that clashes with it
abbrev pub racing : Table
racing = cold_warm each_turn (opn 0 2 1 0 1 3 ∷ opn 1 1 2 1 0 1 ∷ []) (decides 0)

abbrev pub clashing : Table
clashing = cold_warm each_turn (opn 0 2 1 0 0 3 ∷ opn 1 1 1 0 0 1 ∷ []) (decides 0)

-- accepted with a decider; a decider that is no operation; EARLY of each kind; CLASH and RACE before EARLY, and EARLY before ASK
unfoldable pub decider_bench : List Case
unfolding k1_bytes table_bytes
decider_bench =
    replies (k1_bytes ++ (5 ∷ 0 ∷ 1 ∷ 0 ∷ [])) (reply 3 (row 1 0 ∷ []))
    ∷ replies (k1_bytes ++ (5 ∷ 0 ∷ 1 ∷ 1 ∷ [])) (refused 4 43 46)
    ∷ table analyzer (reply 3 (row 0 0 ∷ row 2 0 ∷ row 2 0 ∷ []))
    ∷ table sampled (reply 2 (row 0 0 ∷ row 1 0 ∷ row 1 1 ∷ []))
    ∷ table hasty (refused 10 0 1)
    ∷ table hasty_first (refused 10 1 0)
    ∷ table half (refused 10 1 1)
    ∷ table unreached_half (refused 10 0 0)
    ∷ table unreached_hasty (refused 10 0 1)
    ∷ table racing (refused 7 0 1)
    ∷ table clashing (refused 6 0 1)
    ∷ margins (table_bytes hasty) 3 3 0 0 (refused 10 0 1)
    ∷ fits (table_bytes hasty) 0 (refused 10 0 1)
    ∷ arrives (table_bytes hasty) 0 (refused 10 0 1)
    ∷ []

-- ---- document 02, No. 9: tables with a hold

-- K1 with a hold
abbrev pub k1_held : ℕ → Table
k1_held h = one_mode 5 1 0 (held 1 3 h 1 0 0 1 ∷ [])

-- "After the probe is polarised, its board can't be used for some ticks": p 6; [0,2) on board 0 with this hold, and [3,4) on board 0, in either order
abbrev pub polarised : ℕ → Table
polarised h = one_mode 6 1 0 (held 0 2 h 1 0 0 1 ∷ opn 3 1 1 0 0 1 ∷ [])

abbrev pub polarised_last : ℕ → Table
polarised_last h = one_mode 6 1 0 (opn 3 1 1 0 0 1 ∷ held 0 2 h 1 0 0 1 ∷ [])

-- "though the value is already good": [0,2) board 0 with hold 2 writes c0; [2,3) board 1 reads it; and [3,4) board 0 with hold 2 writes c0; [0,1)
-- board 1 reads it, a cycle later
abbrev pub already_good : Table
already_good = one_mode 6 2 1 (held 0 2 2 1 0 1 1 ∷ opn 2 1 2 1 0 1 ∷ [])

abbrev pub good_next_cycle : Table
good_next_cycle = one_mode 6 2 1 (held 3 1 2 1 0 1 1 ∷ opn 0 1 2 1 0 1 ∷ [])

-- the decider has ended, and its board still settles
abbrev pub decides_settling : Table
decides_settling = cold_warm each_turn (held 0 2 2 1 0 0 3 ∷ opn 2 1 2 0 0 1 ∷ []) (decides 0)

-- K1's bytes with a field of 20 bytes: this duration and this hold
abbrev pub k1_20 : ℕ → ℕ → List ℕ
k1_20 d h =
    1 ∷ 0 ∷ 2 ∷ 0 ∷ 5 ∷ 2 ∷ 0 ∷ 3 ∷ 1 ∷ 0 ∷ 1 ∷ 3 ∷ 0 ∷ 8 ∷ 0 ∷ 0 ∷ 0 ∷ 1 ∷ 0 ∷ 0 ∷ 0 ∷ 1 ∷ 4 ∷ 0 ∷ 20 ∷ 0 ∷ 1 ∷ 0 ∷ d ∷ 0 ∷ h ∷ 0 ∷ 1
    ∷ 0 ∷ 0 ∷ 0 ∷ 0 ∷ 0 ∷ 0 ∷ 0 ∷ 0 ∷ 0 ∷ 0 ∷ 0 ∷ 1 ∷ []

-- and with a field of 19
abbrev pub k1_19 : List ℕ
k1_19 =
    1 ∷ 0 ∷ 2 ∷ 0 ∷ 5 ∷ 2 ∷ 0 ∷ 3 ∷ 1 ∷ 0 ∷ 1 ∷ 3 ∷ 0 ∷ 8 ∷ 0 ∷ 0 ∷ 0 ∷ 1 ∷ 0 ∷ 0 ∷ 0 ∷ 1 ∷ 4 ∷ 0 ∷ 19 ∷ 0 ∷ 1 ∷ 0 ∷ 3 ∷ 0 ∷ 1 ∷ 0
    ∷ 0 ∷ 0 ∷ 0 ∷ 0 ∷ 0 ∷ 0 ∷ 0 ∷ 0 ∷ 0 ∷ 0 ∷ 1 ∷ 0 ∷ []

-- K1 with hold 1, and its margins as before; holds that clash, and that touch; values taken while the board settles, and how long it takes then;
-- a decider's board that settles; hold 0 in 20 bytes, a hold past p, a duration past p before it, 19 bytes
unfoldable pub hold_bench : List Case
unfolding table_bytes
hold_bench =
    replies (k1_20 3 1) (reply 4 (row 1 0 ∷ []))
    ∷ table (k1_held 1) (reply 4 (row 1 0 ∷ []))
    ∷ margins (k1_20 3 1) 0 0 1 3 (accepted (pos 0))
    ∷ margins (k1_20 3 1) 0 0 1 2 (accepted (negsuc 0))
    ∷ fits (k1_20 3 1) 3 (accepted false)
    ∷ arrives (k1_20 3 1) 3 (accepted true)
    ∷ table (polarised 2) (refused 6 0 1)
    ∷ table (polarised_last 2) (refused 6 0 1)
    ∷ table (polarised 1) (reply 4 (row 0 0 ∷ row 3 0 ∷ []))
    ∷ table already_good (reply 4 (row 0 0 ∷ row 2 0 ∷ []))
    ∷ table good_next_cycle (reply 4 (row 3 0 ∷ row 0 0 ∷ []))
    ∷ table decides_settling (reply 4 (row 0 0 ∷ row 2 0 ∷ []))
    ∷ replies (k1_20 3 0) (refused 4 22 29)
    ∷ replies (k1_20 3 2) (refused 4 22 29)
    ∷ replies (k1_20 5 0) (refused 4 22 27)
    ∷ replies (k1_20 5 2) (refused 4 22 27)
    ∷ replies k1_19 (refused 3 22 0)
    ∷ []

-- ---- document 02, No. 12: tables with their operations in another order, their boards and their modes renamed

-- a map written as a row: entry i is what i is taken to
abbrev pub by_row : List ℕ → ℕ → ℕ
by_row xs i = get_or xs i i

-- K2 with its operations turned round
abbrev pub turned_round : Names
turned_round = in_order (by_row (2 ∷ 1 ∷ 0 ∷ []))

abbrev pub k2_turned : Table
k2_turned = one_mode 6 3 2 (opn 4 2 4 2 0 1 ∷ opn 2 2 2 1 2 1 ∷ opn 0 2 1 0 1 1 ∷ [])

-- K3 with its boards 0, 1, 2 named 5, 0, 3, of six
abbrev pub other_boards : Names
other_boards = boards_by (by_row (5 ∷ 0 ∷ 3 ∷ []))

abbrev pub k3_renamed : Table
k3_renamed = one_mode 6 6 2 (opn 0 2 32 2 1 1 ∷ opn 2 2 1 1 2 1 ∷ opn 4 2 8 2 0 1 ∷ [])

-- K5 with its modes exchanged
abbrev pub exchanged : Names
exchanged = modes_by (by_row (1 ∷ 0 ∷ []))

abbrev pub k5_exchanged : Table
k5_exchanged =
    record {
      len = 4;
      boards = 2;
      cells = 0;
      modes = 2;
      first = 2;
      follow = 2 ∷ 1 ∷ [];
      ops = opn 0 4 1 0 0 2 ∷ opn 0 4 2 0 0 1 ∷ [];
      decider = nobody;
    }

-- K7 with modes 0 and 1 exchanged: 1 to 0 to 2 to 1, first is 1
abbrev pub k7_exchanged : Table
k7_exchanged =
    record {
      len = 6;
      boards = 2;
      cells = 1;
      modes = 3;
      first = 2;
      follow = 4 ∷ 1 ∷ 2 ∷ [];
      ops = opn 4 2 2 0 1 2 ∷ opn 0 1 1 1 0 4 ∷ [];
      decider = nobody;
    }

-- [0,2) with hold 1 on board 0 writes c0 and decides; [2,5) board 1 reads it in the cold, [4,5) board 2 in the warm, which only the cold follows
abbrev pub sorted_before : Table
sorted_before = cold_warm (3 ∷ 1 ∷ []) (held 0 2 1 1 0 1 3 ∷ opn 2 3 2 1 0 1 ∷ opn 4 1 4 1 0 2 ∷ []) (decides 0)

-- all at once: operations 0, 1, 2 at 2, 0, 1; boards 0, 1, 2 named 1, 4, 0, of five; cold and warm exchanged
abbrev pub all_three : Names
all_three = record { place = by_row (2 ∷ 0 ∷ 1 ∷ []); board = by_row (1 ∷ 4 ∷ 0 ∷ []); mode = by_row (1 ∷ 0 ∷ []) }

abbrev pub sorted : Table
sorted =
    record {
      len = 6;
      boards = 5;
      cells = 1;
      modes = 2;
      first = 2;
      follow = 2 ∷ 3 ∷ [];
      ops = opn 2 3 16 1 0 2 ∷ opn 4 1 1 1 0 1 ∷ held 0 2 1 2 0 1 3 ∷ [];
      decider = decides 2;
    }

-- K10 with its operations turned round; behind one on another board; and before it
abbrev pub k10_turned : Table
k10_turned = one_mode 3 1 0 (opn 1 2 1 0 0 1 ∷ opn 0 2 1 0 0 1 ∷ [])

abbrev pub k10_behind : Table
k10_behind = one_mode 3 2 0 (opn 0 1 2 0 0 1 ∷ opn 0 2 1 0 0 1 ∷ opn 1 2 1 0 0 1 ∷ [])

abbrev pub k10_before : Table
k10_before = one_mode 3 2 0 (opn 0 2 1 0 0 1 ∷ opn 1 2 1 0 0 1 ∷ opn 0 1 2 0 0 1 ∷ [])

-- an operation on board 1 of one
abbrev pub no_such_board : Table
no_such_board = one_mode 3 1 0 (opn 0 2 2 0 0 1 ∷ [])

-- the tables before and after, with their replies, questions and margins; and refused ones
unfoldable pub renamed_bench : List Case
unfolding table_bytes
renamed_bench =
    table k2_turned (reply 2 (row 0 2 ∷ row 0 1 ∷ row 0 0 ∷ []))
    ∷ margins (table_bytes k2) 0 1 1 2 (accepted (pos 2))
    ∷ margins (table_bytes k2_turned) 2 1 1 2 (accepted (pos 2))
    ∷ table k3_renamed (reply 4 (row 0 0 ∷ row 2 0 ∷ row 0 1 ∷ []))
    ∷ table k5_exchanged (reply 2 (row 0 0 ∷ row 0 0 ∷ []))
    ∷ fits (table_bytes k5) 1 (accepted false)
    ∷ fits (table_bytes k5_exchanged) 1 (accepted false)
    ∷ table k7_exchanged (reply 3 (row 1 1 ∷ row 0 0 ∷ []))
    ∷ fits (table_bytes k7_exchanged) 2 (accepted true)
    ∷ arrives (table_bytes k7_exchanged) 2 (accepted false)
    ∷ table sorted_before (reply 3 (row 0 0 ∷ row 2 0 ∷ row 1 1 ∷ []))
    ∷ table sorted (reply 3 (row 2 0 ∷ row 1 1 ∷ row 0 0 ∷ []))
    ∷ table k10_turned (refused 6 0 1)
    ∷ table k10_behind (refused 6 1 2)
    ∷ table k10_before (refused 6 0 1)
    ∷ table no_such_board (refused 4 22 29)
    ∷ []

-- ---- document 02, No. 6: cycles started by the operator

-- a board held at the start of a cycle and again later, p 6: [0,1) and [3,4) on board 0. Periods 2 and 4 are right and 3 is not: the gap is 4
abbrev pub twice_held : Table
twice_held = one_mode 6 1 0 (opn 0 1 1 0 0 1 ∷ opn 3 1 1 0 0 1 ∷ [])

-- K5 with [0,3) and [0,1): two gaps have to take 3 ticks
abbrev pub k5_odd : Table
k5_odd =
    record {
      len = 4;
      boards = 2;
      cells = 0;
      modes = 2;
      first = 1;
      follow = 2 ∷ 1 ∷ [];
      ops = opn 0 3 1 0 0 1 ∷ opn 0 1 2 0 0 2 ∷ [];
      decider = nobody;
    }

-- K5's modes; [0,1) and [3,4) on board 0 in mode 0. With equal gaps two cycles of mode 0 start an even number of ticks apart and never meet, so
-- that 1 to 4 are right; with a gap of 1 and one of 2 they meet
abbrev pub every_second : Table
every_second =
    record {
      len = 4;
      boards = 1;
      cells = 0;
      modes = 2;
      first = 1;
      follow = 2 ∷ 1 ∷ [];
      ops = opn 0 1 1 0 0 1 ∷ opn 3 1 1 0 0 1 ∷ [];
      decider = nobody;
    }

abbrev pub gap : Table → ℕ → Case
gap T g = gaps (table_bytes T) (accepted g)

-- K1 to K9; gaps longer than the period, also where every period is right; a quotient that is rounded up; a hold, also behind a value that is
-- good already; refusals
unfoldable pub gap_bench : List Case
unfolding k1_bytes table_bytes
gap_bench =
    gaps k1_bytes (accepted 3)
    ∷ gap k2 2
    ∷ gap k3 4
    ∷ gap k4 4
    ∷ gap k5 2
    ∷ gap k6 4
    ∷ gap k7 3
    ∷ gap k8 3
    ∷ gap k9 1
    ∷ gap twice_held 4
    ∷ table twice_held (reply 2 (row 0 0 ∷ row 1 1 ∷ []))
    ∷ gap every_second 2
    ∷ table every_second (reply 1 (row 0 0 ∷ row 0 3 ∷ []))
    ∷ fits (table_bytes every_second) 2 (accepted true)
    ∷ fits (table_bytes every_second) 3 (accepted true)
    ∷ gap k5_odd 2
    ∷ margins (table_bytes k5_odd) 0 0 2 2 (accepted (pos 1))
    ∷ margins (table_bytes k5_odd) 0 0 2 1 (accepted (negsuc 0))
    ∷ gaps (k1_20 3 1) (accepted 4)
    ∷ gap good_next_cycle 4
    ∷ gaps (table_bytes k10) (refused 6 0 1)
    ∷ gaps (table_bytes hasty) (refused 10 0 1)
    ∷ gaps (k1_20 3 2) (refused 4 22 29)
    ∷ gaps [] (refused 2 0 0)
    ∷ []

-- ---- document 02, No. 1: places for each stored value

-- p 6: [0,1) board 0 writes c0; [1,6) board 1 reads it, and so does [2,3) board 2. At the period 5 the reader that started first ends last, and the
-- next write starts before that: 2 places
abbrev pub last_reader : Table
last_reader = one_mode 6 3 1 (opn 0 1 1 0 1 1 ∷ opn 1 5 2 1 0 1 ∷ opn 2 1 4 1 0 1 ∷ [])

-- p 6: [0,1) board 0 writes c0; [5,6) board 1 writes it too, and nobody reads it; [0,3) board 2. At the period 3 the write that is later in plain
-- order starts and ends first: 2 places
abbrev pub later_write : Table
later_write = one_mode 6 3 1 (opn 0 1 1 0 1 1 ∷ opn 5 1 2 0 1 1 ∷ opn 0 3 4 0 0 1 ∷ [])

-- the same without the third: at the period 1 a value meets the first, third, fifth, seventh and ninth after it, so that 2 places are enough and 3
-- are not
abbrev pub crossing : Table
crossing = one_mode 6 2 1 (opn 0 1 1 0 1 1 ∷ opn 5 1 2 0 1 1 ∷ [])

-- "A step that reads a value and writes the cell again", p 4: [0,2) board 0 reads and writes c0. 1 place
abbrev pub own_read : Table
own_read = one_mode 4 1 1 (opn 0 2 1 1 1 1 ∷ [])

-- p 5, mode 0 first and then mode 1 for ever: [0,5) board 0 reads c0 in mode 0; [0,1) board 1 writes it in mode 1. At the period 1 four writes start
-- while the reader still has value 0: 5 places, where the values that are written ask for one
abbrev pub initial_value : Table
initial_value =
    record {
      len = 5;
      boards = 2;
      cells = 1;
      modes = 2;
      first = 1;
      follow = 2 ∷ 2 ∷ [];
      ops = opn 0 5 1 1 0 1 ∷ opn 0 1 2 0 1 2 ∷ [];
      decider = nobody;
    }

-- the same with a mode between in which nothing runs: the first write comes two cycles after the reader, and there are 4 places
abbrev pub idle_between : Table
idle_between =
    record {
      len = 5;
      boards = 2;
      cells = 1;
      modes = 3;
      first = 1;
      follow = 2 ∷ 4 ∷ 4 ∷ [];
      ops = opn 0 5 1 1 0 1 ∷ opn 0 1 2 0 1 4 ∷ [];
      decider = nobody;
    }

-- p 6: [0,1) board 0 writes c0 in both modes; [1,2) board 1 reads it in mode 0; [1,6) board 2 reads it in mode 1, which is never reached. At the
-- period 1 there are 2 places; the long reader would ask for 6
abbrev pub unreached_reader : Table
unreached_reader =
    record {
      len = 6;
      boards = 3;
      cells = 1;
      modes = 2;
      first = 1;
      follow = 1 ∷ 2 ∷ [];
      ops = opn 0 1 1 0 1 3 ∷ opn 1 1 2 1 0 1 ∷ opn 1 5 4 1 0 2 ∷ [];
      decider = nobody;
    }

-- p 7, two modes that alternate: in mode 0 [0,1) board 0 writes c0, and [2,7) board 1 reads it; in mode 1 nothing runs. At the period 3 the next
-- write, two cycles later, starts before the reader has ended: 2 places
abbrev pub two_cycles : Table
two_cycles =
    record {
      len = 7;
      boards = 2;
      cells = 1;
      modes = 2;
      first = 1;
      follow = 2 ∷ 1 ∷ [];
      ops = opn 0 1 1 0 1 1 ∷ opn 2 5 2 1 0 1 ∷ [];
      decider = nobody;
    }

-- p 6: [0,1) board 0 writes c0 and c3; [1,6) board 1 reads c0 and c1. c1 is never written, c2 not used, c3 never read: 1 place each
abbrev pub four_cells : Table
four_cells = one_mode 6 2 4 (opn 0 1 1 0 9 1 ∷ opn 1 5 2 3 0 1 ∷ [])

-- p 6: [0,1) board 0 writes c0 and c1; [1,2) board 1 with hold 3 reads c0 and writes c1. At the period 4 the next writes start while board 1 still
-- settles, and both lives are over: 1 place each
abbrev pub settling_reader : Table
settling_reader = one_mode 6 2 2 (opn 0 1 1 0 3 1 ∷ held 1 1 3 2 1 2 1 ∷ [])

-- "Demand 3 says nothing about places.": p 6; [0,1) board 0 writes c0; [3,5) board 1 reads it; board 2 for [0,6). Period 6, and 1 place
abbrev pub slow_board : Table
slow_board = one_mode 6 3 1 (opn 0 1 1 0 1 1 ∷ opn 3 2 2 1 0 1 ∷ opn 0 6 4 0 0 1 ∷ [])

-- the same, better known, with board 2 for [0,3): period 3, and 2 places
abbrev pub quick_board : Table
quick_board = one_mode 6 3 1 (opn 0 1 1 0 1 1 ∷ opn 3 2 2 1 0 1 ∷ opn 0 3 4 0 0 1 ∷ [])

-- a case: a table's bytes, and the places of its cells at its period, or the refusal
pub record PlacesCase : Type 0 where
  pub bytes : List ℕ
  pub verdict : Verdict (List ℕ)

-- what it claims: for each cell the smallest number that is enough in every run, at the smallest period that is right in every run; a refusal is the
-- first that is due
unfoldable pub PlacesHold : PlacesCase → Type 0
PlacesHold k = PlacesTo k.bytes k.verdict

abbrev pub stores : List ℕ → Verdict (List ℕ) → PlacesCase
stores s v = record { bytes = s; verdict = v }

abbrev pub places : Table → List ℕ → PlacesCase
places T rs = stores (table_bytes T) (accepted rs)

-- K1 to K9; the tables above; a table with a decider; refusals
unfoldable pub places_bench : List PlacesCase
unfolding k1_bytes table_bytes
places_bench =
    stores k1_bytes (accepted [])
    ∷ places k2 (2 ∷ 2 ∷ [])
    ∷ places k3 (1 ∷ 1 ∷ [])
    ∷ places k4 []
    ∷ places k5 []
    ∷ places k6 []
    ∷ places k7 (1 ∷ [])
    ∷ places k8 (2 ∷ [])
    ∷ places k9 []
    ∷ places last_reader (2 ∷ [])
    ∷ places later_write (2 ∷ [])
    ∷ places crossing (2 ∷ [])
    ∷ places own_read (1 ∷ [])
    ∷ places initial_value (5 ∷ [])
    ∷ places idle_between (4 ∷ [])
    ∷ places unreached_reader (2 ∷ [])
    ∷ places two_cycles (2 ∷ [])
    ∷ places four_cells (2 ∷ 1 ∷ 1 ∷ 1 ∷ [])
    ∷ places settling_reader (1 ∷ 1 ∷ [])
    ∷ places analyzer (2 ∷ [])
    ∷ places slow_board (1 ∷ [])
    ∷ places quick_board (2 ∷ [])
    ∷ stores (table_bytes k10) (refused 6 0 1)
    ∷ stores (table_bytes hasty) (refused 10 0 1)
    ∷ stores (k1_20 3 2) (refused 4 22 29)
    ∷ stores [] (refused 2 0 0)
    ∷ []
