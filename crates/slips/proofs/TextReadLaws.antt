-- The lines of a text, read one behind the other.
use Rattle.std.specs.Prelude.{Result, Ok, Err, MatchResult}
use Prim.Native.Nat.{ℕ, zero, suc, ◌+◌, ◌-◌, ◌<◌, ◌≤◌}
use mathlib.Core.Path.{◌≡◌, refl, sym, ap, subst, ◌∙◌}
use mathlib.Core.Bool.{false}
use mathlib.Core.Logic.{◌⊎◌, inl, inr}
use mathlib.Core.List.{List, [], ◌∷◌, ◌++◌, append_assoc}
use native.Mathlib.Omega.{arith}
use borrow.Author.Tests.{ltb-true, ltb-false}
use lib.Dec.{ltb}
use Rattle.songcode.proofs.ListLaws.{by_cases}
use Rattle.songcode.proofs.MemberLaws.{either, only_one}
use lib.ListN.{length, take}
use Rattle.songcode.specs.Answer.Lines.{Line}
use Rattle.songcode.specs.Answer.Tokens.{Token, line_end, opens}
use Rattle.text.specs.declared.lines.Line as text
use Rattle.text.specs.Spans.{line_of, line_at, line_text, Found}
use Rattle.tokens.specs.Lexing.{tokens_from}
use Rattle.grammar.specs.Kinds.{kinds_of}
use Rattle.grammar.specs.Checks.{first, check_run}
use Rattle.songcode.specs.Lists.{any}
use Rattle.sections.specs.Runs.{text_lines, lines_of}
use Rattle.sections.specs.declared.runs.Run.{Run}
use Rattle.sections.proofs.RunLaws.{lines_next, lines_over}
use Rattle.slips.specs.declared.patterns.Whose.{Whose}
use Rattle.slips.specs.declared.patterns.Reading.{Reading}
use Rattle.slips.specs.declared.patterns.Stop.{Stop}
use Rattle.slips.specs.declared.slip.Slip.{Slip}
use Rattle.slips.specs.Clauses.{number_of}
use Rattle.slips.specs.Rules.{Right, text_tokens, piece, before, OnlyEnds, LastAt, Back, Latest, Told, Ruled}
use Rattle.slips.specs.RulesRead.{up_to, back_of, Opened, is_stuck, misnamed, Going, Steps, GoesOn, Stopped, Reads, ReadUp, ReadAll}
use Rattle.slips.proofs.RuleLaws.{free_begins}
use Rattle.slips.proofs.ReadingLaws.{no_opens}
use Rattle.slips.proofs.CutLaws.{up_to_more, refuses_line_end, refuses_end}
use Rattle.slips.proofs.LineReadLaws.{later}

-- Nothing is read yet.
pub going_from : (w : Whose) (at : ℕ) (r : Reading) → (r.check ≡ first) × (r.from ≡ at) × (r.open ≡ 0) → Going w [] at r
unfolding check_run kinds_of is_stuck misnamed any
going_from w at r e =
    record { check = e.0; free = rw e.0 refl; unbarred = refl; behind = rw e.1 (omega arith); opened = rw e.2 (omega arith) }

-- A line end behind them: the last token is the same.
ends_ended : (ts : List Token) → OnlyEnds ts → OnlyEnds (ts ++ (line_end ∷ []))
unfolding OnlyEnds
ends_ended [] o = (refl, tt)
ends_ended (t ∷ ts) o = (o.0, ends_ended ts o.1)

last_ended : {s : List ℕ} {lines : List Line} {ts : List Token} {from : ℕ} → OnlyEnds ts ⊎ LastAt s lines ts from
    → OnlyEnds (ts ++ (line_end ∷ [])) ⊎ LastAt s lines (ts ++ (line_end ∷ [])) from
last_ended {ts = ts} (inl o) = inl (ends_ended ts o)
last_ended (inr l) =
    inr
    (record {
      cut = l.cut;
      token = l.token;
      ends = l.ends ++ (line_end ∷ []);
      read = ap (λ (us : List Token). us ++ (line_end ∷ [])) l.read ∙ append_assoc (before l.cut) (l.token ∷ l.ends) (line_end ∷ []);
      only = ends_ended l.ends l.only;
    })

-- So is the last `[`.
latest_ended : {s : List ℕ} {lines : List Line} {ts : List Token} {b : Back} → Latest s lines ts b → Latest s lines (ts ++ (line_end ∷ [])) b
latest_ended l =
    record {
      token = last_ended l.token;
      loop = λ z.
          let p = l.loop z in
          record {
            cut = p.cut;
            behind = p.behind ++ (line_end ∷ []);
            read = ap (λ (us : List Token). us ++ (line_end ∷ [])) p.read ∙ append_assoc (before p.cut) (opens ∷ p.behind) (line_end ∷ []);
            none = λ m. either p.behind p.none (λ q. no_opens (only_one q)) m;
          };
    }

-- Nothing is known of no tokens.
latest_none : {s : List ℕ} {lines : List Line} (r : Reading) → r.open ≡ 0 → Latest s lines [] (back_of r)
unfolding OnlyEnds
latest_none r e = record { token = inl tt; loop = λ z. let y : ⊥ = omega arith in absurd y }

-- A line end moves neither.
opened_ended : {at old new : ℕ} → Opened line_end at old new → new ≡ old
opened_ended (inl o) = absurd (no_opens (sym o.0))
opened_ended (inr o) = o.1

take_none : (k : ℕ) → take {A = Line} k [] ≡ []
take_none zero = refl
take_none (suc k) = refl

module _ (s : List ℕ) (w : Whose) (lines : List Line) where
  -- So far: the lines passed, the last of them, and the lines still to come from a place on.
  pub record InText (r : Reading) (at left : ℕ) : Type 0 where
    pub passed : List Line
    pub number : ℕ
    pub start : ℕ
    pub stop : ℕ
    pub written : lines ≡ passed ++ (piece s number start stop ∷ take left (text_lines s (number + 1) at))
    pub ordered : start ≤ stop
    pub onward : stop ≤ at
    pub inside : stop ≤ length s
    pub read : GoesOn s w lines (up_to passed ++ tokens_from start stop s) stop r

  pub text_done : {r : Reading} {at left : ℕ} → (i : InText r at left) → take left (text_lines s (i.number + 1) at) ≡ [] → ReadUp s w lines r
  text_done i e =
      record {
        passed = i.passed;
        number = i.number;
        start = i.start;
        stop = i.stop;
        written = i.written ∙ ap (λ (ls : List Line). i.passed ++ (piece s i.number i.start i.stop ∷ ls)) e;
        ordered = i.ordered;
        inside = i.inside;
        read = i.read;
      }

  pub text_none : {r : Reading} {at left : ℕ} → InText r at left → left ≡ 0 → ReadUp s w lines r
  text_none {at = at} i e = text_done i (ap (λ (k : ℕ). take k (text_lines s (i.number + 1) at)) e)

  pub text_over : {r : Reading} {at left : ℕ} → InText r at left → length s ≤ at → ReadUp s w lines r
  text_over {at = at} {left = left} i h = text_done i (ap (take left) (lines_over s (i.number + 1) at h) ∙ take_none left)

  -- The line at a place is a piece of the text, whatever its number.
  line_piece : (n at : ℕ) {l : text.Line} → Found s 0 at l → line_text s (line_at s n at) ≡ piece s n l.start l.stop
  unfolding line_of
  line_piece n at f = rw f.is refl

  line_next : (n at : ℕ) {l : text.Line} → Found s 0 at l → (line_at s n at).next ≡ l.next
  unfolding line_of
  line_next n at f = rw f.is refl

  ahead : (n at left : ℕ) {l : text.Line} → Found s 0 at l → at < length s → (left ≡ 0 → ⊥)
      → take left (text_lines s n at) ≡ piece s n l.start l.stop ∷ take (left - 1) (text_lines s (n + 1) l.next)
  ahead n at left {l} f h z =
      let e : left ≡ suc (left - 1) = omega arith in
      ap (λ (k : ℕ). take k (text_lines s n at)) e
      ∙ (ap (take (suc (left - 1))) (lines_next s n at h)
      ∙ (ap (λ (m : Line). m ∷ take (left - 1) (text_lines s (n + 1) (line_at s n at).next)) (line_piece n at f)
      ∙ ap (λ (k : ℕ). piece s n l.start l.stop ∷ take (left - 1) (text_lines s (n + 1) k)) (line_next n at f)))

  -- What is known of a reading of a line, from one that goes on up to it.
  abbrev pub ReadLine : text.Line → Reading → Result Reading Stop → Type 0
  ReadLine l r x =
      (passed rest : List Line) (m : ℕ) → Going w (up_to passed) l.start r
      → Latest s (passed ++ (piece s m l.start l.stop ∷ rest)) (up_to passed) (back_of r)
      → Reads s w (passed ++ (piece s m l.start l.stop ∷ rest)) (up_to passed ++ tokens_from l.start l.stop s) l.stop x

  -- The first line.
  module _ (n at k : ℕ) {l : text.Line} (f : Found s 0 at l) (e : lines ≡ take k (text_lines s n at)) (h : at < length s) (z : k ≡ 0 → ⊥)
      (r : Reading) (g : Going w [] l.start r) (none : r.open ≡ 0) where
    abbrev first_rest : List Line
    first_rest = take (k - 1) (text_lines s (n + 1) l.next)

    first_whole : lines ≡ piece s n l.start l.stop ∷ first_rest
    first_whole = e ∙ ahead n at k f h z

    pub text_begun : (x : Reading) → ReadLine l r (Ok x) → InText x l.next (k - 1)
    unfolding up_to OnlyEnds
    text_begun x step =
        record {
          passed = [];
          number = n;
          start = l.start;
          stop = l.stop;
          written = first_whole;
          ordered = f.stop;
          onward = f.next;
          inside =
              let a = f.next in
              let b = f.over in
              omega arith;
          read =
              subst (λ (ls : List Line). GoesOn s w ls (tokens_from l.start l.stop s) l.stop x) (sym first_whole)
              (step [] first_rest n g (latest_none r none));
        }

    pub text_stops : (x : Stop) → ReadLine l r (Err x) → Stopped s w lines x
    unfolding up_to OnlyEnds
    text_stops x step = subst (λ (ls : List Line). Stopped s w ls x) (sym first_whole) (step [] first_rest n g (latest_none r none))

  -- One more line.
  module _ {r : Reading} {at left : ℕ} (i : InText r at left) {l : text.Line} (f : Found s 0 at l) (h : at < length s) (z : left ≡ 0 → ⊥) where
    abbrev Ended : Result Reading Stop → Type 0
    Ended y = (ts : List Token) (a : ℕ) → Going w ts a r → Steps w ts line_end a a (back_of r) r.from y

    abbrev now : Line
    now = piece s i.number i.start i.stop

    abbrev n : ℕ
    n = i.number + 1

    abbrev passed : List Line
    passed = i.passed ++ (now ∷ [])

    abbrev rest : List Line
    rest = take (left - 1) (text_lines s (n + 1) l.next)

    abbrev this : Line
    this = piece s n l.start l.stop

    split : lines ≡ i.passed ++ (now ∷ (this ∷ rest))
    split = i.written ∙ ap (λ (ls : List Line). i.passed ++ (now ∷ ls)) (ahead n at left f h z)

    whole : lines ≡ passed ++ (this ∷ rest)
    whole = split ∙ sym (append_assoc i.passed (now ∷ []) (this ∷ rest))

    abbrev so_far : List Token
    so_far = up_to i.passed ++ tokens_from i.start i.stop s

    ended_as : so_far ++ (line_end ∷ []) ≡ up_to passed
    ended_as = sym (up_to_more i.passed now)

    -- The line end may not stand.
    pub text_ends_not : (y : Stop) → Ended (Err y) → Stopped s w lines y
    text_ends_not y ended =
        let a = i.onward in
        let b = f.start in
        let c = f.over in
        let d = f.next in
        subst (λ (ls : List Line). Stopped s w ls y) (sym split)
        (refuses_line_end s w i.passed i.number i.start i.stop i.ordered so_far refl this rest (omega arith) y (back_of r)
        (subst (λ (ls : List Line). Latest s ls so_far (back_of r)) split i.read.1) (ended so_far i.stop i.read.0))

    -- It may, and the line is read.
    module _ (y : Reading) (ended : Ended (Ok y)) where
      same_back : y.from ≡ r.from → y.open ≡ r.open → back_of r ≡ back_of y
      same_back e f = ap (λ (n : ℕ). record { last = n; bracket = r.open }) (sym e) ∙ ap (λ (n : ℕ). record { last = y.from; bracket = n }) (sym f)

      begun : Going w (up_to passed) l.start y × Latest s (passed ++ (this ∷ rest)) (up_to passed) (back_of y)
      begun =
          let a = i.onward in
          let b = f.start in
          let g = ended so_far i.stop i.read.0 in (
            later ended_as (omega arith) g.0,
            subst (λ (ls : List Line). Latest s ls (up_to passed) (back_of y)) whole
                (subst (λ (ts : List Token). Latest s lines ts (back_of y)) ended_as
                (subst (λ (b : Back). Latest s lines (so_far ++ (line_end ∷ [])) b) (same_back g.1 (opened_ended g.2)) (latest_ended i.read.1))),
          )

      pub text_more_line : (x : Reading) → ReadLine l y (Ok x) → InText x l.next (left - 1)
      text_more_line x step =
          record {
            passed = passed;
            number = n;
            start = l.start;
            stop = l.stop;
            written = whole;
            ordered = f.stop;
            onward = f.next;
            inside =
                let a = f.next in
                let b = f.over in
                omega arith;
            read =
                subst (λ (ls : List Line). GoesOn s w ls (up_to passed ++ tokens_from l.start l.stop s) l.stop x) (sym whole)
                (step passed rest n begun.0 begun.1);
          }

      pub text_stops_later : (x : Stop) → ReadLine l y (Err x) → Stopped s w lines x
      text_stops_later x step = subst (λ (ls : List Line). Stopped s w ls x) (sym whole) (step passed rest n begun.0 begun.1)

  -- The end: what is told there, or where it has stopped before.
  abbrev Ends : Stop → Reading → Type 0
  Ends e r = (at : ℕ) → r.from ≤ at → r.open ≤ at → Told at (back_of r) (number_of e.clause) e.from × (e.from ≤ at)

  text_ends : (r : Reading) (e : Stop) → ReadUp s w lines r → Ends e r → (Right w (text_tokens lines) → ⊥) → Stopped s w lines e
  text_ends r e a told wrong =
      let g = a.read.0 in
      let k = told a.stop g.behind g.opened in
      let i = k.1 in
      let j = a.inside in
      subst (λ (ls : List Line). Stopped s w ls e) (sym a.written)
      (refuses_end s w a.passed a.number a.start a.stop a.ordered (up_to a.passed ++ tokens_from a.start a.stop s) refl e
      (free_begins (up_to a.passed ++ tokens_from a.start a.stop s) w (subst (λ c. is_stuck w c ≡ false) g.check g.free) g.unbarred)
      (λ q. wrong (subst (λ (ls : List Line). Right w (text_tokens ls)) (sym a.written) q))
      (back_of r) (subst (λ (ls : List Line). Latest s ls (up_to a.passed ++ tokens_from a.start a.stop s) (back_of r)) a.written a.read.1)
      k.0 (omega arith))

  pub text_told : (r : Result Reading Stop) (e : Stop) → ReadAll s w lines r → MatchResult r (λ x. Ends e x) (λ y. e ≡ y) → (x : Slip)
      → (x.clause ≡ number_of e.clause) × (x.from ≡ e.from) → Ruled s w lines x.clause x.from
  text_told (Ok r) e a told x p wrong = rw (p.0, p.1) (text_ends r e a told wrong)
  text_told (Err y) e a same x p wrong = rw (p.0, p.1) (subst (λ (z : Stop). Stopped s w lines z) (sym same) a)

-- Some lines are there: the text goes on at their first one.
some_lines : {A : Type 0} {x : A} {xs : List A} {X : Type 0} → [] ≡ x ∷ xs → X
some_lines {xs = xs} e = let z : 0 ≡ suc (length xs) = ap length e in absurd (omega arith)

module _ (s : List ℕ) (w : Whose) where
  module _ (run : Run) (l : text.Line) (f : Found s 0 run.at l) (m : Line) (ms : List Line) (e : lines_of s run ≡ m ∷ ms)
      (r : Reading) (g : (r.check ≡ first) × (r.from ≡ run.at) × (r.open ≡ 0)) where
    here : run.at < length s
    unfolding lines_of
    here =
        by_cases (ltb run.at (length s))
        (λ t. ltb-true run.at (length s) t)
        (λ t. some_lines (sym (ap (take run.lines) (lines_over s run.number run.at (ltb-false run.at (length s) t)) ∙ take_none run.lines) ∙ e))

    some : run.lines ≡ 0 → ⊥
    unfolding lines_of
    some z = some_lines (sym (ap (λ (k : ℕ). take k (text_lines s run.number run.at)) z) ∙ e)

    abbrev Read : Result Reading Stop → Type 0
    Read x = ReadLine s w (lines_of s run) l r x

    pub text_start : (x : Reading) → Read (Ok x) → InText s w (lines_of s run) x l.next (run.lines - 1)
    unfolding lines_of
    text_start x step =
        text_begun s w (lines_of s run) run.number run.at run.lines f refl here some r (later refl f.start (going_from w run.at r g)) g.2 x step

    pub text_stuck : (x : Stop) → Read (Err x) → Stopped s w (lines_of s run) x
    unfolding lines_of
    text_stuck x step =
        text_stops s w (lines_of s run) run.number run.at run.lines f refl here some r (later refl f.start (going_from w run.at r g)) g.2 x step

  -- A text of one line from a place on.
  module _ (n q stop : ℕ) (h : q ≤ stop) (i : stop ≤ length s) (lines : List Line) (e : lines ≡ piece s n q stop ∷ []) (r : Reading)
      (g : (r.check ≡ first) × (r.from ≡ q) × (r.open ≡ 0)) where
    abbrev ReadAlone : Result Reading Stop → Type 0
    ReadAlone x =
        (passed rest : List Line) (m : ℕ) → Going w (up_to passed) q r → Latest s (passed ++ (piece s m q stop ∷ rest)) (up_to passed) (back_of r)
        → Reads s w (passed ++ (piece s m q stop ∷ rest)) (up_to passed ++ tokens_from q stop s) stop x

    alone_read : (x : Reading) → ReadAlone (Ok x) → ReadUp s w lines x
    unfolding up_to OnlyEnds
    alone_read x step =
        record {
          passed = [];
          number = n;
          start = q;
          stop = stop;
          written = e;
          ordered = h;
          inside = i;
          read = subst (λ (ls : List Line). GoesOn s w ls (tokens_from q stop s) stop x) (sym e) (step [] [] n (going_from w q r g) (latest_none r g.2));
        }

    alone_stuck : (x : Stop) → ReadAlone (Err x) → Stopped s w lines x
    unfolding up_to OnlyEnds
    alone_stuck x step = subst (λ (ls : List Line). Stopped s w ls x) (sym e) (step [] [] n (going_from w q r g) (latest_none r g.2))

    pub line_read : (x : Result Reading Stop) → ReadAlone x → ReadAll s w lines x
    line_read (Ok x) step = alone_read x step
    line_read (Err x) step = alone_stuck x step
