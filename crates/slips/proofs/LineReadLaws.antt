-- A line of pattern text, read token by token.
use Prim.Native.Nat.{ℕ, ◌<◌, ◌≤◌}
use Rattle.std.specs.Prelude.{Result, Ok, Err}
use mathlib.Core.Path.{◌≡◌, sym, ap, subst, ◌∙◌}
use mathlib.Core.Logic.{inl, inr}
use mathlib.Core.List.Memᴰ
use mathlib.Core.List.{List, [], ◌∷◌, ◌++◌, append-nil, append_assoc}
use native.Mathlib.Omega.{arith}
use lib.ListN.{length}
use Rattle.songcode.specs.Answer.Lines.{Line}
use Rattle.songcode.specs.Answer.Tokens as songcode
use Rattle.songcode.proofs.MemberLaws.{either, only_one}
use Rattle.tokens.specs.TokenWords.{token_word}
use Rattle.tokens.specs.Fitting.{Fit}
use Rattle.tokens.specs.Lexing.{tokens_from}
use Rattle.tokens.proofs.LexLaws.{tokens_over}
use Rattle.slips.specs.declared.patterns.Whose.{Whose}
use Rattle.slips.specs.declared.patterns.Reading.{Reading}
use Rattle.slips.specs.declared.patterns.Stop.{Stop}
use Rattle.slips.specs.declared.signs.Token.{Token}
use Rattle.slips.specs.Taken.{TokenAt}
use Rattle.slips.specs.Rules.{CutAt, before, OnlyEnds, LastAt, OpenAt, Latest}
use Rattle.slips.specs.RulesRead.{up_to, back_of, Opened, Going, Steps, GoesOn, Stopped}
use Rattle.slips.proofs.CutLaws.{lines, cut, front, refuses_token}

-- The line up to a place: no word is cut there, and the reading goes on so far.
pub record InLine (s : List ℕ) (w : Whose) (from to : ℕ) (r₀ r : Reading) (at : ℕ) : Type 0 where
  pub begins : from ≤ at
  pub ends : at ≤ to
  pub split : (k : ℕ) → at ≤ k → k ≤ to → tokens_from from k s ≡ tokens_from from at s ++ tokens_from at k s
  pub read : (passed rest : List Line) (n : ℕ) → Going w (up_to passed) from r₀
      → Latest s (lines s w passed rest n from to) (up_to passed) (back_of r₀)
      → GoesOn s w (lines s w passed rest n from to) (up_to passed ++ tokens_from from at s) at r

-- A reading that goes on does so at every later place, and with the same tokens told otherwise.
pub later : {w : Whose} {ts us : List songcode.Token} {at to : ℕ} {r : Reading} → ts ≡ us → at ≤ to → Going w ts at r → Going w us to r
later {w} {ts} {us} {at} {to} {r} e h g =
    subst (λ (vs : List songcode.Token). Going w vs to r) e
    (record {
      check = g.check;
      free = g.free;
      unbarred = g.unbarred;
      behind = let b = g.behind in omega arith;
      opened = let o = g.opened in omega arith;
    })

module _ (s : List ℕ) (w : Whose) (from to : ℕ) (h : from ≤ to) (r : Reading) where
  pub line_begun : InLine s w from to r r from
  line_begun =
      let none = tokens_over s from from (omega arith) in
      record {
        begins = omega arith;
        ends = h;
        split = λ k i j. sym (ap (λ (ts : List songcode.Token). ts ++ tokens_from from k s) none);
        read =
            λ passed rest n g l.
            let e : up_to passed ≡ up_to passed ++ tokens_from from from s =
            sym (append-nil (up_to passed)) ∙ ap (λ (ts : List songcode.Token). up_to passed ++ ts) (sym none) in
            (later e (omega arith) g, subst (λ (ts : List songcode.Token). Latest s (lines s w passed rest n from to) ts (back_of r)) e l);
      }

module _ {s : List ℕ} {w : Whose} {from to : ℕ} {r₀ r : Reading} {at : ℕ} (i : InLine s w from to r₀ r at) where
  -- One more token.
  module _ (inside : to ≤ length s) (tok : Token) (t : TokenAt s at to tok) (e : tok.next ≤ to) where
    -- What is known of one that reads it.
    abbrev Read : Result Reading Stop → Type 0
    Read y =
        (ts : List songcode.Token) (a : ℕ) (u : songcode.Token) → Fit u → tok.word ≡ token_word u → a ≤ tok.from → Going w ts a r
        → Steps w ts u tok.from tok.next (back_of r) tok.from y

    abbrev here : ℕ
    here = tok.from

    abbrev next : ℕ
    next = tok.next

    -- The tokens up to the next place, and up to this token.
    up_to_next : tokens_from from next s ≡ tokens_from from at s ++ (t.token ∷ [])
    up_to_next =
        let a = t.begins in
        let b = t.solid in
        i.split next (omega arith) e
        ∙ ap (λ (ts : List songcode.Token). tokens_from from at s ++ ts)
        (t.first next (omega arith) e ∙ ap (λ (ts : List songcode.Token). t.token ∷ ts) (tokens_over s next next (omega arith)))

    up_to_here : tokens_from from here s ≡ tokens_from from at s
    up_to_here =
        let a = t.begins in
        let b = t.solid in
        i.split here (omega arith) (omega arith)
        ∙ (ap (λ (ts : List songcode.Token). tokens_from from at s ++ ts) (t.blanks here (omega arith) (omega arith) ∙ tokens_over s here here (omega arith))
        ∙ append-nil (tokens_from from at s))

    split_next : (k : ℕ) → next ≤ k → k ≤ to → tokens_from from k s ≡ tokens_from from next s ++ tokens_from next k s
    split_next k p q =
        let a = t.begins in
        let b = t.solid in
        i.split k (omega arith) q
        ∙ (ap (λ (ts : List songcode.Token). tokens_from from at s ++ ts) (t.first k p q)
        ∙ (sym (append_assoc (tokens_from from at s) (t.token ∷ []) (tokens_from next k s))
        ∙ ap (λ (ts : List songcode.Token). ts ++ tokens_from next k s) (sym up_to_next)))

    split_here : tokens_from from to s ≡ tokens_from from here s ++ tokens_from here to s
    split_here =
        let b = t.solid in
        i.split to i.ends (omega arith)
        ∙ (ap (λ (ts : List songcode.Token). tokens_from from at s ++ ts) (t.blanks to (omega arith) (omega arith))
        ∙ ap (λ (ts : List songcode.Token). ts ++ tokens_from here to s) (sym up_to_here))

    token_here : tokens_from here to s ≡ t.token ∷ tokens_from next to s
    token_here = let b = t.solid in sym (t.blanks to (omega arith) (omega arith)) ∙ t.first to e (omega arith)

    module _ (passed rest : List Line) (n : ℕ) where
      abbrev so_far : List songcode.Token
      so_far = up_to passed ++ tokens_from from at s

      abbrev whole : List Line
      whole = lines s w passed rest n from to

      more : so_far ++ (t.token ∷ []) ≡ up_to passed ++ tokens_from from next s
      more = append_assoc (up_to passed) (tokens_from from at s) (t.token ∷ []) ∙ ap (λ (ts : List songcode.Token). up_to passed ++ ts) (sym up_to_next)

      -- This token is the last one then.
      abbrev cut_here : CutAt s whole here
      cut_here =
          let a = i.begins in
          let b = t.begins in
          let c = t.solid in
          cut s w passed rest n from to here (omega arith) (omega arith) split_here

      read_here : up_to passed ++ tokens_from from next s ≡ before cut_here ++ (t.token ∷ [])
      read_here =
          let a = i.begins in
          let b = t.begins in
          let c = t.solid in
          sym more
          ∙ ap (λ (ts : List songcode.Token). ts ++ (t.token ∷ []))
          (ap (λ (ts : List songcode.Token). up_to passed ++ ts) (sym up_to_here)
          ∙ sym (front s w passed rest n from to here (omega arith) (omega arith) split_here))

      last_here : LastAt s whole (up_to passed ++ tokens_from from next s) here
      unfolding OnlyEnds
      last_here = record { cut = cut_here; token = t.token; ends = []; read = read_here; only = tt }

      -- The last `[` is this token, or the one of before.
      open_here : (x : Reading) → Latest s whole so_far (back_of r) → Opened t.token here r.open x.open → 0 < x.open
          → OpenAt s whole (up_to passed ++ tokens_from from next s) x.open
      open_here x l (inl o) z =
          subst (λ (k : ℕ). OpenAt s whole (up_to passed ++ tokens_from from next s) k) (sym o.1)
          (record {
            cut = cut_here;
            behind = [];
            read = read_here ∙ ap (λ (u : songcode.Token). before cut_here ++ (u ∷ [])) o.0;
            none = λ m. Memᴰ.not-nil m;
          })
      open_here x l (inr o) z =
          let k = o.1 in
          let p = l.loop (omega arith) in
          subst (λ (k : ℕ). OpenAt s whole (up_to passed ++ tokens_from from next s) k) (sym o.1)
          (record {
            cut = p.cut;
            behind = p.behind ++ (t.token ∷ []);
            read = sym more ∙ ap (λ (ts : List songcode.Token). ts ++ (t.token ∷ [])) p.read
                ∙ append_assoc (before p.cut) (songcode.opens ∷ p.behind) (t.token ∷ []);
            none = λ m. either p.behind p.none (λ q. o.0 (sym (only_one q))) m;
          })

      passes : (x : Reading) → Read (Ok x) → GoesOn s w whole so_far at r → GoesOn s w whole (up_to passed ++ tokens_from from next s) next x
      passes x step (o, l) =
          let a = t.begins in
          let g = step so_far at t.token t.fits t.word (omega arith) o in (
            later more (omega arith) g.0,
            record {
              token = inr (subst (λ (k : ℕ). LastAt s whole (up_to passed ++ tokens_from from next s) k) (sym g.1) last_here);
              loop = open_here x l g.2;
            },
          )

      refuses : (x : Stop) → Read (Err x) → GoesOn s w whole so_far at r → Stopped s w whole x
      refuses x step (o, l) =
          let a = i.begins in
          let b = t.begins in
          let c = t.solid in
          refuses_token s w passed rest n from to here (omega arith) (omega arith) split_here so_far
          (ap (λ (ts : List songcode.Token). up_to passed ++ ts) (sym up_to_here)) t.token (tokens_from next to s) token_here (omega arith) x (back_of r) l
          (step so_far at t.token t.fits t.word (omega arith) o)

    pub line_more : (x : Reading) → Read (Ok x) → InLine s w from to r₀ x next
    line_more x step =
        let a = i.begins in
        let b = t.begins in
        let c = t.solid in
        record {
          begins = omega arith;
          ends = e;
          split = split_next;
          read = λ passed rest n g l. passes passed rest n x step (i.read passed rest n g l);
        }

    pub line_stops : (x : Stop) → Read (Err x) → (passed rest : List Line) (n : ℕ) → Going w (up_to passed) from r₀
        → Latest s (lines s w passed rest n from to) (up_to passed) (back_of r₀) → Stopped s w (lines s w passed rest n from to) x
    line_stops x step passed rest n g l = refuses passed rest n x step (i.read passed rest n g l)

  -- No token is left.
  pub line_done : tokens_from at to s ≡ [] → (passed rest : List Line) (n : ℕ) → Going w (up_to passed) from r₀
      → Latest s (lines s w passed rest n from to) (up_to passed) (back_of r₀)
      → GoesOn s w (lines s w passed rest n from to) (up_to passed ++ tokens_from from to s) to r
  line_done none passed rest n g l =
      let f = i.read passed rest n g l in
      let e = ap (λ (ts : List songcode.Token). up_to passed ++ ts) (sym whole) in
      (later e i.ends f.0, subst (λ (ts : List songcode.Token). Latest s (lines s w passed rest n from to) ts (back_of r)) e f.1)
    where
      whole : tokens_from from to s ≡ tokens_from from at s
      whole = i.split to i.ends (omega arith) ∙ (ap (λ (ts : List songcode.Token). tokens_from from at s ++ ts) none ∙ append-nil (tokens_from from at s))
