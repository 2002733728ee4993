-- References put in: texts one behind the other, and where a `%` stands in them.
use Prim.Native.Nat.{ℕ}
use mathlib.Core.Path.{◌≡◌, refl, sym, ap, ◌∙◌, subst}
use mathlib.Core.Logic.{⊎_elim}
use mathlib.Core.List.Memᴰ
use mathlib.Core.List.{List, [], ◌∷◌, ◌++◌, append_assoc, append-nil, Memᴰ}
use mathlib.Core.Bool.{true}
use native.Mathlib.Omega.{arith}
use Rattle.songcode.specs.Song.{chord, again, silence}
use Rattle.songcode.specs.Answer.Lines as songcode
use Rattle.songcode.specs.Answer.Tokens.{Token, sound, remover, reference, semicolon, colon, line_end, opens, closes, wrong}
use Rattle.songcode.specs.Answer.Answer.{blocks_of}
use Rattle.songcode.proofs.ListLaws.{true_is_not_false}
use Rattle.text.specs.declared.lines.Line.{Line}
use Rattle.tokens.specs.Fitting.{Fit, kind, amount}
use Rattle.slips.specs.Marks.{Mark, end_mark, MarkedLines, PlainText}
use Rattle.slips.specs.PatternText.{definition_lines, Means, PutIn, PatternText, written, named}
use Rattle.slips.specs.Misfits.{is_position}
use Rattle.slips.proofs.AgainLaws.{AtAgain, lines_at}

module _ (s : List ℕ) where
  pub put_none : PutIn s [] []
  unfolding PutIn
  put_none = refl

  pub put_one : (m : Mark) (here : List Mark) → Means s m.token here → PutIn s (m ∷ []) (m ∷ here)
  unfolding PutIn
  put_one m here h = (here, [], h, refl, ap (λ (ns : List Mark). m ∷ ns) (sym (append-nil here)))

  pub put_both : (ms ns all more : List Mark) → PutIn s ms all → PutIn s ns more → PutIn s (ms ++ ns) (all ++ more)
  unfolding PutIn
  put_both [] ns all more h k = subst (λ (xs : List Mark). PutIn s ns (xs ++ more)) (sym h) k
  put_both (m ∷ ms) ns all more h k = (
    h.0,
    h.1 ++ more,
    h.2,
    put_both ms ns h.1 more h.3 k,
    ap (λ (xs : List Mark). xs ++ more) h.4 ∙ ap (λ (xs : List Mark). m ∷ xs) (append_assoc h.0 h.1 more),
  )

  pub put_apart : (ms ns all : List Mark) → PutIn s (ms ++ ns) all
      → (front : List Mark) × (back : List Mark) × PutIn s ms front × PutIn s ns back × (all ≡ front ++ back)
  unfolding PutIn
  put_apart [] ns all h = ([], all, refl, h, refl)
  put_apart (m ∷ ms) ns all h =
      let r = put_apart ms ns h.1 h.3 in (
        m ∷ (h.0 ++ r.0),
        r.1,
        (h.0, r.0, h.2, r.2, refl),
        r.3,
        h.4 ∙ ap (λ (xs : List Mark). m ∷ (h.0 ++ xs)) r.4 ∙ ap (λ (xs : List Mark). m ∷ xs) (sym (append_assoc h.0 r.0 r.1)),
      )

  -- The tokens of a line, its end, and others: so they stand with what they mean.
  pub line_put : (here rest : List Mark) (stop : ℕ) (all : List Mark) → PutIn s (here ++ (end_mark stop ∷ rest)) all
      → (front : List Mark) × (back : List Mark) × PutIn s here front × PutIn s rest back × (all ≡ front ++ (end_mark stop ∷ back))
  unfolding PutIn Means
  line_put here rest stop all h =
      let r = put_apart here (end_mark stop ∷ rest) all h in
      let k = r.3 in (
        r.0,
        k.1,
        r.2,
        k.3,
        r.4 ∙ ap (λ (xs : List Mark). r.0 ++ xs) (k.4 ∙ ap (λ (xs : List Mark). end_mark stop ∷ (xs ++ k.1)) k.2),
      )

  -- What a token means, by the parts of its word.
  pub means_nothing : (t : Token) → (kind t ≡ 55 → ⊥) → Means s t []
  unfolding Means kind
  means_nothing (reference n) h = absurd (h refl)
  means_nothing (sound x) h = refl
  means_nothing remover h = refl
  means_nothing semicolon h = refl
  means_nothing colon h = refl
  means_nothing line_end h = refl
  means_nothing opens h = refl
  means_nothing (closes n) h = refl
  means_nothing wrong h = refl

  pub means_text : (t : Token) (here : List Mark) → Fit t → kind t ≡ 55 → PlainText s (definition_lines (amount t) (blocks_of s)) here → Means s t here
  unfolding Means kind amount Fit
  means_text (reference n) here f h p = p
  means_text (sound (chord c)) here f h p =
      let g = f.0 in
      let z : ⊥ = omega arith in
      absurd z
  means_text (sound again) here f h p = let z : ⊥ = omega arith in absurd z
  means_text (sound silence) here f h p = let z : ⊥ = omega arith in absurd z
  means_text remover here f h p = let z : ⊥ = omega arith in absurd z
  means_text semicolon here f h p = let z : ⊥ = omega arith in absurd z
  means_text colon here f h p = let z : ⊥ = omega arith in absurd z
  means_text line_end here f h p = let z : ⊥ = omega arith in absurd z
  means_text opens here f h p = let z : ⊥ = omega arith in absurd z
  means_text (closes n) here f h p = let z : ⊥ = omega arith in absurd z
  means_text wrong here f h p = let z : ⊥ = omega arith in absurd z

  pub means_position : (t : Token) (here : List Mark) → is_position t ≡ true → Means s t here → here ≡ []
  unfolding Means is_position
  means_position (reference n) here p h = true_is_not_false p refl
  means_position (sound x) here p h = h
  means_position remover here p h = h
  means_position semicolon here p h = h
  means_position colon here p h = h
  means_position line_end here p h = h
  means_position opens here p h = h
  means_position (closes n) here p h = h
  means_position wrong here p h = h

  -- It is lines, or nothing.
  pub means_lines : (t : Token) (here : List Mark) → Means s t here → (ls : List Line) × MarkedLines s ls here
  unfolding Means MarkedLines
  means_lines (reference n) here h = (h.lines, h.marked)
  means_lines (sound x) here h = ([], h)
  means_lines remover here h = ([], h)
  means_lines semicolon here h = ([], h)
  means_lines colon here h = ([], h)
  means_lines line_end here h = ([], h)
  means_lines opens here h = ([], h)
  means_lines (closes n) here h = ([], h)
  means_lines wrong here h = ([], h)

  -- Where a token `%` begins, the byte is a `%`: so it is with all that is put in.
  put_at : (ms all : List Mark) → PutIn s ms all → ((m : Mark) → Memᴰ m ms → AtAgain s m) → (m : Mark) → Memᴰ m all → AtAgain s m
  unfolding PutIn
  put_at [] all h own m i = absurd (Memᴰ.not-nil (subst (λ (ns : List Mark). Memᴰ m ns) h i))
  put_at (k ∷ ms) all h own m i =
      let text = means_lines k.token h.0 h.2 in
      ⊎_elim
      (λ e. own m (Memᴰ.head e))
      (λ j.
      ⊎_elim
      (λ a. lines_at s text.0 h.0 text.1 m a)
      (λ a. put_at ms h.1 h.3 (λ n b. own n (Memᴰ.tail b)) m a)
      (Memᴰ.append_cases h.0 j))
      (Memᴰ.cases_cons (subst (λ (ns : List Mark). Memᴰ m ns) h.4 i))

  pub pattern_at_lem : (ls : List songcode.Line) (ms : List Mark) → PatternText s ls ms → (m : Mark) → Memᴰ m ms → AtAgain s m
  pattern_at_lem ls ms (written e t) m i = lines_at s t.lines ms t.marked m i
  pattern_at_lem ls ms (named e own t p) m i = put_at own ms p (lines_at s t.lines own t.marked) m i
