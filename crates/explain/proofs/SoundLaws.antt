-- What the tokens of a text sound, in their order: as its items say; and a `%` before every chord among them is a stray one.
use Prim.Native.Nat.{ℕ, zero, suc}
use mathlib.Core.Path.{◌≡◌, refl, sym, ap, ◌∙◌, subst}
use mathlib.Core.List.{List, [], ◌∷◌, ◌++◌, map, append_assoc, append-nil, tail-eq_of_cons-eq}
use mathlib.Core.Logic.{⊎_elim}
use mathlib.Core.Option.{Option, get_or}
use native.Mathlib.Omega.{arith}
use Rattle.songcode.specs.Bytes.{placed}
use Rattle.songcode.specs.Answer.Chords.{Chord}
use Rattle.songcode.specs.Song.{Sound, chord, again, silence, Sounds, only, also, nothing, a_line_end, Separator, by_semicolon, by_line_end, by_colon}
use Rattle.songcode.specs.Song.{Item, measure, loop, refer, Items, one, next}
use Rattle.songcode.specs.Answer.Tokens.{Token, sound, remover, reference, semicolon, colon, line_end, opens, closes, wrong, tokens}
use Rattle.songcode.specs.Answer.References.{glue, put_in_item, put_in}
use Rattle.songcode.proofs.WrittenBefore.{write_sounds, write_removers, write_measure, write_beside, write_separator, write_item, write_items}
use Rattle.songcode.specs.Description.StoppedSong.{sounds_written, item_written, items_written, NoChord}
use Rattle.text.specs.Spans.{part}
use Rattle.slips.specs.Marks.{Mark, MarksFrom, end_mark}
use Rattle.slips.specs.Strays.{Silent, AllSilent, StrayAt}
use Rattle.explain.proofs.PutTokens.{meant, put_tokens, ended, Tied, Says, as_written, with_put, put_measure, put_separator}

unfoldable pub sounding : List Token → List Sound
sounding [] = []
sounding (sound s ∷ ts) = s ∷ sounding ts
sounding (remover ∷ ts) = sounding ts
sounding (reference n ∷ ts) = sounding ts
sounding (semicolon ∷ ts) = sounding ts
sounding (colon ∷ ts) = sounding ts
sounding (line_end ∷ ts) = sounding ts
sounding (opens ∷ ts) = sounding ts
sounding (closes n ∷ ts) = sounding ts
sounding (wrong ∷ ts) = sounding ts

pub sounding_behind : (ts us : List Token) → sounding (ts ++ us) ≡ sounding ts ++ sounding us
unfolding sounding
sounding_behind [] us = refl
sounding_behind (sound s ∷ ts) us = ap (λ (ss : List Sound). s ∷ ss) (sounding_behind ts us)
sounding_behind (remover ∷ ts) us = sounding_behind ts us
sounding_behind (reference n ∷ ts) us = sounding_behind ts us
sounding_behind (semicolon ∷ ts) us = sounding_behind ts us
sounding_behind (colon ∷ ts) us = sounding_behind ts us
sounding_behind (line_end ∷ ts) us = sounding_behind ts us
sounding_behind (opens ∷ ts) us = sounding_behind ts us
sounding_behind (closes n ∷ ts) us = sounding_behind ts us
sounding_behind (wrong ∷ ts) us = sounding_behind ts us

-- Of written items.
of_sounds : (ss : Sounds) (k : List Token) → sounding (write_sounds ss k) ≡ sounds_written ss ++ sounding k
unfolding sounding write_sounds sounds_written
of_sounds (only s) k = refl
of_sounds (also ss s) k = of_sounds ss (sound s ∷ k) ∙ sym (append_assoc (sounds_written ss) (s ∷ []) (sounding k))

of_removers : (n : ℕ) (k : List Token) → sounding (write_removers n k) ≡ sounding k
unfolding sounding write_removers
of_removers zero k = refl
of_removers (suc n) k = of_removers n (remover ∷ k)

of_separator : (s : Separator) (k : List Token) → sounding (write_separator s k) ≡ sounding k
unfolding sounding write_separator write_beside
of_separator by_semicolon k = refl
of_separator by_line_end k = refl
of_separator (by_colon nothing nothing) k = refl
of_separator (by_colon nothing a_line_end) k = refl
of_separator (by_colon a_line_end nothing) k = refl
of_separator (by_colon a_line_end a_line_end) k = refl

mutual
  unfolding sounding write_item write_items write_measure item_written items_written

  of_item : (i : Item) (k : List Token) → sounding (write_item i k) ≡ item_written i ++ sounding k
  of_item (measure m) k =
      of_sounds m.sounds (write_removers m.removers k) ∙ ap (λ (ss : List Sound). sounds_written m.sounds ++ ss) (of_removers m.removers k)
  of_item (loop r n) k = of_items r (closes n ∷ k)
  of_item (refer n) k = refl

  pub of_items : (r : Items) (k : List Token) → sounding (write_items r k) ≡ items_written r ++ sounding k
  of_items (one i) k = of_item i k
  of_items (next r s i) k =
      of_items r (write_separator s (write_item i k))
      ∙ ap (λ (ss : List Sound). items_written r ++ ss) (of_separator s (write_item i k) ∙ of_item i k)
      ∙ sym (append_assoc (items_written r) (item_written i) (sounding k))

-- Of a text's tokens with their places.
abbrev pub tokens_in : List Mark → List Token
tokens_in ms = map (λ (m : Mark). m.token) ms

pub tokens_behind : (ms ns : List Mark) → tokens_in (ms ++ ns) ≡ tokens_in ms ++ tokens_in ns
tokens_behind [] ns = refl
tokens_behind (m ∷ ms) ns = ap (λ (ts : List Token). m.token ∷ ts) (tokens_behind ms ns)

pub of_marks : (s : List ℕ) (at stop : ℕ) (ms : List Mark) → MarksFrom s at stop ms → tokens_in ms ≡ tokens (placed at (part at stop s))
unfolding MarksFrom
of_marks s at stop [] h = sym h
of_marks s at stop (m ∷ ms) h = ap (λ (ts : List Token). m.token ∷ ts) (of_marks s m.to stop ms h.4) ∙ sym h.3

pub before_end : (ms : List Mark) (stop : ℕ) (rest : List Mark)
    → sounding (tokens_in (ms ++ (end_mark stop ∷ rest))) ≡ sounding (tokens_in ms) ++ sounding (tokens_in rest)
unfolding sounding
before_end ms stop rest = ap sounding (tokens_behind ms (end_mark stop ∷ rest)) ∙ sounding_behind (tokens_in ms) (line_end ∷ tokens_in rest)

-- With references put in.
glue_written : (r : Items) (s : Separator) (q : Items) → items_written (glue r s q) ≡ items_written r ++ items_written q
unfolding glue items_written item_written
glue_written r s (one i) = refl
glue_written r s (next q t i) =
    ap (λ (ss : List Sound). ss ++ item_written i) (glue_written r s q) ∙ append_assoc (items_written r) (items_written q) (item_written i)

module _ (f : ℕ → Option Items) (g : ℕ → List Token) (tied : Tied f g) where
  put_refer : (n : ℕ) (ts : List Token) → sounding (g n ++ ts) ≡ items_written (get_or (f n) (one (refer n))) ++ sounding ts
  unfolding items_written item_written sounding
  put_refer n ts =
      ⊎_elim (λ h. rw (h.0, h.1) refl) (λ h. rw (h.1, h.2, ended h.0 ts) (of_items h.0 (line_end ∷ ts))) (tied n)

  mutual
    unfolding write_item write_items put_tokens meant put_in put_in_item item_written items_written sounding

    put_item : (i : Item) (ts : List Token) → sounding (put_tokens g (write_item i ts)) ≡ items_written (put_in_item f i) ++ sounding (put_tokens g ts)
    put_item (measure m) ts = ap sounding (put_measure g m ts) ∙ of_item (measure m) (put_tokens g ts)
    put_item (loop r n) ts = put_items r (closes n ∷ ts)
    put_item (refer n) ts = put_refer n (put_tokens g ts)

    put_items : (r : Items) (ts : List Token) → sounding (put_tokens g (write_items r ts)) ≡ items_written (put_in f r) ++ sounding (put_tokens g ts)
    put_items (one i) ts = put_item i ts
    put_items (next r s i) ts =
        let behind = write_item i ts in
        put_items r (write_separator s behind)
        ∙ ap (λ (ss : List Sound). items_written (put_in f r) ++ ss)
        (ap sounding (put_separator g s behind) ∙ of_separator s (put_tokens g behind) ∙ put_item i ts)
        ∙ sym (append_assoc (items_written (put_in f r)) (items_written (put_in_item f i)) (sounding (put_tokens g ts)))
        ∙ ap (λ (ss : List Sound). ss ++ sounding (put_tokens g ts)) (sym (glue_written (put_in f r) s (put_in_item f i)))

  pub said_sounding : (r : Items) (ts : List Token) → Says f g r ts → sounding ts ≡ items_written r
  unfolding put_tokens meant sounding
  said_sounding r ts (as_written e) = ap sounding e ∙ of_items r (line_end ∷ []) ∙ append-nil (items_written r)
  said_sounding r ts (with_put q h e) =
      ap sounding e ∙ put_items q (line_end ∷ []) ∙ append-nil (items_written (put_in f q)) ∙ ap items_written (sym h)

-- A `%` before every chord.
abbrev pub Somewhere : List Mark → Type 0
Somewhere ms = (from : ℕ) × StrayAt ms from

past : (m : Mark) (ms : List Mark) → Silent m.token → Somewhere ms → Somewhere (m ∷ ms)
unfolding AllSilent
past m ms h (from, x) = (
  from,
  record {
    front = m ∷ x.front;
    here = x.here;
    behind = x.behind;
    text = ap (λ (ns : List Mark). m ∷ ns) x.text;
    silent = (h, x.silent);
    again = x.again;
    place = x.place;
  },
)

-- One more token, where it is known of the others.
module _ (m : Mark) (ms : List Mark) (back : List Sound)
    (others : (front : List Sound) → sounding (tokens_in ms) ≡ front ++ (again ∷ back) → NoChord front → Somewhere ms) where
  of_silence : (front : List Sound) → silence ∷ sounding (tokens_in ms) ≡ front ++ (again ∷ back) → NoChord front → m.token ≡ sound silence → Somewhere (m ∷ ms)
  unfolding NoChord Silent
  of_silence [] g k f =
      let z : ◌≡◌ {A = ℕ} 0 1 = cc in
      let y : ⊥ = omega arith in
      absurd y
  of_silence (chord c ∷ front) g k f = absurd k
  of_silence (again ∷ front) g k f = past m ms (subst Silent (sym f) tt) (others front (tail-eq_of_cons-eq g) k)
  of_silence (silence ∷ front) g k f = past m ms (subst Silent (sym f) tt) (others front (tail-eq_of_cons-eq g) k)

  no_chord : (front : List Sound) (c : Chord) → chord c ∷ sounding (tokens_in ms) ≡ front ++ (again ∷ back) → NoChord front → ⊥
  unfolding NoChord
  no_chord [] c g k =
      let z : ◌≡◌ {A = ℕ} 0 1 = cc in
      let y : ⊥ = omega arith in
      y
  no_chord (chord d ∷ front) c g k = k
  no_chord (again ∷ front) c g k =
      let z : ◌≡◌ {A = ℕ} 0 1 = cc in
      let y : ⊥ = omega arith in
      y
  no_chord (silence ∷ front) c g k =
      let z : ◌≡◌ {A = ℕ} 0 1 = cc in
      let y : ⊥ = omega arith in
      y

  one_more_lem : (front : List Sound) (t : Token) → m.token ≡ t → sounding (t ∷ tokens_in ms) ≡ front ++ (again ∷ back) → NoChord front → Somewhere (m ∷ ms)
  unfolding sounding AllSilent Silent
  one_more_lem front (sound (chord c)) f e n = absurd (no_chord front c e n)
  one_more_lem front (sound again) f e n =
      (m.from, record { front = []; here = m; behind = ms; text = refl; silent = tt; again = f; place = refl })
  one_more_lem front (sound silence) f e n = of_silence front e n f
  one_more_lem front remover f e n = past m ms (subst Silent (sym f) tt) (others front e n)
  one_more_lem front (reference k) f e n = past m ms (subst Silent (sym f) tt) (others front e n)
  one_more_lem front semicolon f e n = past m ms (subst Silent (sym f) tt) (others front e n)
  one_more_lem front colon f e n = past m ms (subst Silent (sym f) tt) (others front e n)
  one_more_lem front line_end f e n = past m ms (subst Silent (sym f) tt) (others front e n)
  one_more_lem front opens f e n = past m ms (subst Silent (sym f) tt) (others front e n)
  one_more_lem front (closes k) f e n = past m ms (subst Silent (sym f) tt) (others front e n)
  one_more_lem front wrong f e n = past m ms (subst Silent (sym f) tt) (others front e n)

nothing_sounds : (front back : List Sound) → [] ≡ front ++ (again ∷ back) → ⊥
nothing_sounds [] back e =
    let z : ◌≡◌ {A = ℕ} 0 1 = cc in
    let y : ⊥ = omega arith in
    y
nothing_sounds (f ∷ front) back e =
    let z : ◌≡◌ {A = ℕ} 0 1 = cc in
    let y : ⊥ = omega arith in
    y

pub stray_among_lem : (ms : List Mark) (front back : List Sound) → sounding (tokens_in ms) ≡ front ++ (again ∷ back) → NoChord front → Somewhere ms
unfolding sounding
stray_among_lem [] front back e n = absurd (nothing_sounds front back e)
stray_among_lem (m ∷ ms) front back e n = one_more_lem m ms back (λ f g h. stray_among_lem ms f back g h) front m.token refl e n
