-- A measure, a loop, a reference and a separator that stand written in the buffer, each walked.
use Rattle.std.proofs.Common.{◌≡◌, ℕ, ◌+◌, ◌-◌, ◌<◌, ◌≤◌, true, false, eqb, List, [], ◌∷◌, length, take, drop, sym, refl, ap, ◌∙◌, arith, drop-drop}
use mathlib.Core.Option.{Option}
use Rattle.songcode.specs.Lists.{provided◌then◌else◌, times}
use Rattle.songcode.specs.Answer.Chords.{Chord}
use Rattle.songcode.specs.Song.{Measure, Beside, nothing, a_line_end, Separator, by_semicolon, by_line_end, by_colon, Beat}
use Rattle.songcode.specs.Answer.Tokens.{Token, reference, semicolon, colon, line_end, opens, closes}
use Rattle.songcode.proofs.WrittenBefore.{write_measure, write_beside, write_separator}
use Rattle.songcode.specs.Answer.Playing.{last_sounds, beats_of, positions}
use Rattle.tokens.specs.TokenWords.{token_word, token_words}
use Rattle.score.specs.Places.{stretch_of, word_of}
use Rattle.tokens.specs.Signs.{kind_of, is_position, is_separator, is_stop}
use Rattle.player.specs.Signs.{positions_of, positions_at}
use Rattle.player.specs.Walks.{Read, and_then, one_of, passes_of, behind_of, looped, loop_of, ref_of, item_by, item_of, rows_by}
use Rattle.score.specs.Standing.{ChordsFit}
use Rattle.player.specs.Texts.{voice_word, row_words}
use Rattle.player.proofs.WalkLaws.{rows_more}
use Rattle.songcode.proofs.PlayingAgree.{positions_some}
use Rattle.player.proofs.SignLaws.{position_inside, position_there}
use Rattle.player.proofs.SoundLaws.{measure_drop, measure_positions, measure_length, measure_beats_lem, measure_chord}
use Rattle.player.proofs.RowWordLaws.{words_times}
use Rattle.player.proofs.WrittenWords.{word_here, behind_here, inside_here, closes_kind, refers_kind, Apart, position_only, times_one}

module _ (ws : List ℕ) (n : ℕ) where
  -- A walk has played the row, and ends where the tokens k stand.
  pub record Walked (to : ℕ) (x : Read) (row : List (List Beat)) (last : Option Chord) (k : List Token) : Type 0 where
    pub row_is : x.row ≡ row_words row
    pub last_is : x.last ≡ voice_word last
    pub text_is : drop x.at (take to ws) ≡ token_words k

  -- An item was walked, from a word that ends no row.
  pub record Passed (inner : ℕ → ℕ → ℕ → Read) (to at : ℕ) (before : Option Chord) (row : List (List Beat)) (last : Option Chord)
      (k : List Token) : Type 0 where
    pub walked : Walked to (item_of inner n ws to at (voice_word before)) row last k
    pub goes_on : is_stop (kind_of (word_of ws to at)) ≡ false
    pub inside : at < to

  module _ (inner : ℕ → ℕ → ℕ → Read) (to at : ℕ) (last : Option Chord) where
    pub measure_passed : (m : Measure) (k : List Token) → ChordsFit m.sounds → Apart k
        → drop at (take to ws) ≡ token_words (write_measure m k) → Passed inner to at last (beats_of n last m ∷ []) (last_sounds last m.sounds) k
    unfolding Apart positions_at item_of item_by one_of row_words
    measure_passed m k h a e =
        let ps : positions_at ws to at ≡ token_words (write_measure m []) = ap positions_of e ∙ measure_positions m k h a in
        let l : length (positions_at ws to at) ≡ positions m = ap length ps ∙ measure_length m in
        let s = positions_some m in
        let p : is_position (kind_of (word_of ws to at)) ≡ true = position_there ws to at (omega arith) in
        let o = position_only (kind_of (word_of ws to at)) p in
        record {
          walked = rw (o.not_open, o.not_refer, o.not_separator, provided◌then◌else◌) (record {
            row_is = rw (l, ps) (ap (λ x. x ∷ []) (measure_beats_lem n last m h));
            last_is = rw ps (measure_chord last m h);
            text_is = rw l (sym (drop-drop (positions m) at (take to ws)) ∙ ap (drop (positions m)) e ∙ measure_drop m k);
          });
          goes_on = o.not_stop;
          inside = position_inside ws to at p;
        }

    pub loop_passed : (j : ℕ) (row : List (List Beat)) (l : Option Chord) (x : List ℕ) (k : List Token) → 1 ≤ j → j < 67108864
        → drop at (take to ws) ≡ token_word opens ∷ x → Walked to (inner to (at + 1) (voice_word last)) row l (closes j ∷ k)
        → Passed inner to at last (times j row) l k
    unfolding item_of item_by loop_of looped passes_of behind_of token_word token_words is_stop provided◌then◌else◌
    loop_passed j row l x k h i e w =
        let r = inner to (at + 1) (voice_word last) in
        let o : word_of ws to at ≡ 3825205248 = word_here ws to at 3825205248 x e in
        let z : word_of ws to r.at ≡ token_word (closes j) = word_here ws to r.at (token_word (closes j)) (token_words k) w.text_is in
        let c = closes_kind j i in
        record {
          walked = rw (o, z, c.0, c.1) (record {
            row_is = rw w.row_is (sym (times_one j (row_words row) h) ∙ sym (words_times j row));
            last_is = w.last_is;
            text_is = behind_here ws to r.at (token_word (closes j)) (token_words k) w.text_is;
          });
          goes_on = rw o;
          inside = inside_here ws to at 3825205248 x e;
        }

    pub refer_passed : (j : ℕ) (row : List (List Beat)) (l : Option Chord) (k k' : List Token) → j < 67108864
        → drop at (take to ws) ≡ token_word (reference j) ∷ token_words k
        → Walked (stretch_of ws j).to (inner (stretch_of ws j).to (stretch_of ws j).from (voice_word last)) row l k' → Passed inner to at last row l k
    unfolding item_of item_by ref_of is_stop provided◌then◌else◌
    refer_passed j row l k k' i e w =
        let o : word_of ws to at ≡ token_word (reference j) = word_here ws to at (token_word (reference j)) (token_words k) e in
        let c = refers_kind j i in
        record {
          walked =
              rw (o, c.0, c.1) (record {
                row_is = w.row_is;
                last_is = w.last_is;
                text_is =
                    behind_here ws to at (token_word (reference j)) (token_words k) e;
              });
          goes_on = rw (o, c.0);
          inside = inside_here ws to at (token_word (reference j)) (token_words k) e;
        }

  -- Separators are passed over.
  module _ (inner : ℕ → ℕ → ℕ → Read) (to l : ℕ) where
    pub record Across (f at : ℕ) (k : List Token) : Type 0 where
      pub fuel : ℕ
      pub place : ℕ
      pub text : drop place (take to ws) ≡ token_words k
      pub enough : to ≤ place + fuel
      pub same : rows_by inner n ws f to at l ≡ rows_by inner n ws fuel to place l

    pub record Separates (w : ℕ) : Type 0 where
      pub not_open : eqb (kind_of w) 57 ≡ false
      pub not_refer : eqb (kind_of w) 55 ≡ false
      pub separator : is_separator (kind_of w) ≡ true
      pub not_stop : is_stop (kind_of w) ≡ false

    pub step_across : (f at w : ℕ) (k : List Token) → Separates w → drop at (take to ws) ≡ w ∷ token_words k → to ≤ at + f → Across f at k
    unfolding item_of item_by and_then provided◌then◌else◌
    step_across f at w k s e h =
        let i = inside_here ws to at w (token_words k) e in
        let o : word_of ws to at ≡ w = word_here ws to at w (token_words k) e in
        let g : is_stop (kind_of (word_of ws to at)) ≡ false = rw o s.not_stop in
        record {
          fuel = f - 1;
          place = at + 1;
          text = behind_here ws to at w (token_words k) e;
          enough = omega arith;
          same = rows_more inner n ws f to at l (omega arith) g ∙ rw (o, s.not_open, s.not_refer, s.separator);
        }

    pub then_across : (f at : ℕ) (j k : List Token) → Across f at j
        → ((g b : ℕ) → drop b (take to ws) ≡ token_words j → to ≤ b + g → Across g b k) → Across f at k
    then_across f at j k a more =
        let b = more a.fuel a.place a.text a.enough in
        record { fuel = b.fuel; place = b.place; text = b.text; enough = b.enough; same = a.same ∙ b.same }

    pub line_end_separates : Separates (token_word line_end)
    unfolding token_word is_separator is_stop
    line_end_separates = record { not_open = refl; not_refer = refl; separator = refl; not_stop = refl }

    pub colon_separates : Separates (token_word colon)
    unfolding token_word is_separator is_stop
    colon_separates = record { not_open = refl; not_refer = refl; separator = refl; not_stop = refl }

    pub semicolon_separates : Separates (token_word semicolon)
    unfolding token_word is_separator is_stop
    semicolon_separates = record { not_open = refl; not_refer = refl; separator = refl; not_stop = refl }

    pub beside_across : (b : Beside) (f at : ℕ) (k : List Token) → drop at (take to ws) ≡ token_words (write_beside b k) → to ≤ at + f → Across f at k
    unfolding write_beside token_words
    beside_across nothing f at k e h = record { fuel = f; place = at; text = e; enough = h; same = refl }
    beside_across a_line_end f at k e h = step_across f at (token_word line_end) k line_end_separates e h

    pub separator_across : (s : Separator) (f at : ℕ) (k : List Token) → drop at (take to ws) ≡ token_words (write_separator s k) → to ≤ at + f → Across f at k
    unfolding write_separator token_words
    separator_across by_semicolon f at k e h = step_across f at (token_word semicolon) k semicolon_separates e h
    separator_across by_line_end f at k e h = step_across f at (token_word line_end) k line_end_separates e h
    separator_across (by_colon b a) f at k e h =
        then_across f at (colon ∷ write_beside a k) k (beside_across b f at (colon ∷ write_beside a k) e h)
        (λ g c p q. then_across g c (write_beside a k) k (step_across g c (token_word colon) (write_beside a k) colon_separates p q)
        (λ i j r t. beside_across a i j k r t))
