-- The words of the lines passed are laid, those of the lines left have room behind them.
use Prim.Native.Nat.{ℕ, ◌+◌, ◌-◌, ◌*◌, ◌≤◌}
use mathlib.Core.Path.{◌≡◌, refl, sym, ap, ◌∙◌, subst}
use mathlib.Core.List.{List, [], ◌∷◌, ◌++◌, map, flat_map, append-nil, append_assoc}
use native.Mathlib.Omega.{arith}
use lib.ListN.{length, length-append, length-map}
use lib.Seq.{sets, length-sets}
use Rattle.songcode.specs.Song.{LyricLine}
use Rattle.songcode.specs.Answer.Sections.{lyric_line}
use Rattle.songcode.proofs.MemoryLaws.{sets_sets}
use Rattle.score.specs.Sections.{lyric_by, lyric_row}
use Rattle.score.specs.Fitting.{LyricFits, LyricsFit}
use Rattle.sections.specs.declared.runs.Run.{Run}
use Rattle.sections.specs.Runs.{lines_of}
use Rattle.score.proofs.ViewLaws.{lyrics_size}
use Rattle.laying.proofs.LyricRowLaws.{lyrics_at, lyric_at, lyrics_none, lyrics_over, lyrics_more}
use Rattle.laying.proofs.rows.lay_lyrics.Goals as goal
use Rattle.laying.proofs.rows.lay_lyrics.Invariants.{Passed}

start : (n : ℕ) (held : List ℕ) (all : List LyricLine) → Passed n held held n all all
unfolding flat_map LyricsFit
start n held all = record { done = []; there = refl; filled = omega arith; same = refl; fit = tt }

fits_append : (a : List LyricLine) (l : LyricLine) → LyricsFit a → LyricFits l → LyricsFit (a ++ (l ∷ []))
unfolding LyricsFit
fits_append [] l f g = (g, tt)
fits_append (k ∷ a) l f g = (f.0, fits_append a l f.1 g)

flat_append : (a b : List LyricLine) → flat_map lyric_row (a ++ b) ≡ flat_map lyric_row a ++ flat_map lyric_row b
unfolding flat_map
flat_append [] b = refl
flat_append (l ∷ a) b = ap (λ (ws : List ℕ). lyric_row l ++ ws) (flat_append a b)
    ∙ sym (append_assoc (lyric_row l) (flat_map lyric_row a) (flat_map lyric_row b))

step : (n : ℕ) (held words new : List ℕ) (fill : ℕ) (l : LyricLine) (left all : List LyricLine) → Passed n held words fill (l ∷ left) all
    → new ≡ sets words fill (lyric_row l) → LyricFits l → Passed n held new (fill + 2) left all
unfolding flat_map lyric_row lyric_by
step n held words new fill l left all p e g1 =
    let f = flat_append p.done (l ∷ []) in
    let one : flat_map lyric_row (p.done ++ (l ∷ [])) ≡ flat_map lyric_row p.done ++ lyric_row l =
    f ∙ ap (λ (ws : List ℕ). flat_map lyric_row p.done ++ ws) (append-nil (lyric_row l)) in
    let k = length-append (flat_map lyric_row p.done) (lyric_row l) in
    let g = p.filled in
    record {
      done = p.done ++ (l ∷ []);
      there = e ∙ rw p.there (sets_sets n fill (flat_map lyric_row p.done) (lyric_row l) held p.filled)
          ∙ ap (λ (ws : List ℕ). sets held n ws) (sym one);
      filled = rw one (omega arith);
      same = append_assoc p.done (l ∷ []) left ∙ p.same;
      fit = fits_append p.done l p.fit g1;
    }

over : (n : ℕ) (held words : List ℕ) (fill : ℕ) (all : List LyricLine) → Passed n held words fill [] all
    → (words ≡ sets held n (flat_map lyric_row all)) × (fill ≡ n + 2 * length all) × LyricsFit all
over n held words fill all p =
    let e : p.done ≡ all = sym (append-nil p.done) ∙ p.same in
    let k = lyrics_size all in
    let f = p.filled in
    let g : length (flat_map lyric_row p.done) ≡ length (flat_map lyric_row all) = ap (λ (ls : List LyricLine). length (flat_map lyric_row ls)) e in
    (p.there ∙ ap (λ (ls : List LyricLine). sets held n (flat_map lyric_row ls)) e, omega arith, subst LyricsFit e p.fit)

size : (n : ℕ) (held words : List ℕ) (fill : ℕ) (left all : List LyricLine) → Passed n held words fill left all → n + 2 * length all ≤ length held
    → (fill + 2 * length left ≤ length held) × (length words ≡ length held)
size n held words fill left all p room =
    let a = lyrics_size p.done in
    let b = length-append p.done left in
    let c : length (p.done ++ left) ≡ length all = ap (λ (ls : List LyricLine). length ls) p.same in
    let f = p.filled in
    (omega arith, ap length p.there ∙ length-sets held n (flat_map lyric_row p.done))

-- The same in the words of the contract.
roomy : (s : List ℕ) (run : Run) (n : ℕ) (held : List ℕ) → n + 2 * length (lines_of s run) ≤ length held
    → n + 2 * length (lyrics_at s run.number run.at run.lines) ≤ length held
unfolding lines_of
roomy s run n held h = let e = length-map (lines_of s run) lyric_line in omega arith

ended : (s : List ℕ) (run : Run) (n : ℕ) (held words : List ℕ) (fill : ℕ) (left : List LyricLine) → left ≡ []
    → Passed n held words fill left (lyrics_at s run.number run.at run.lines)
    → (words ≡ sets held n (flat_map lyric_row (map lyric_line (lines_of s run)))) × ((fill ≡ n + 2 * length (lines_of s run))
    × LyricsFit (map lyric_line (lines_of s run)))
unfolding lines_of
ended s run n held words fill left e p =
    let all = lyrics_at s run.number run.at run.lines in
    let o = over n held words fill all (subst (λ (ls : List LyricLine). Passed n held words fill ls all) e p) in
    let k = length-map (lines_of s run) lyric_line in
    let f = o.1 in
    (o.0, (omega arith, o.2))

pub loop-init : goal.loop-init
unfolding lines_of
loop-init c =
    let a = c.args in
    let p = c.requires in
    let same = length-map (lines_of a.s.now a.run) lyric_line in
    let all : a.run.lines ≡ a.run.lines - 0 = omega arith in
    let first = p.1 in (
      omega arith,
      omega arith,
      omega arith,
      (λ h. first (omega (arith, ap (λ (k : ℕ). length (lyrics_at a.s.now a.run.number a.run.at k)) all))),
      subst (λ (k : ℕ). Passed a.n a.words.now a.words.now a.n (lyrics_at a.s.now a.run.number a.run.at k)
          (lyrics_at a.s.now a.run.number a.run.at a.run.lines)) all (start _ _ _),
    )

pub returns-then-at-s : goal.returns-then-at-s
returns-then-at-s c =
    let l = c.loop in
    let a = c.args in
    let none = lyrics_over a.s.now l.number l.at (a.run.lines - l.counter) (omega arith) in
    let said = ended a.s.now a.run a.n a.words.now l.words l.fill _ none l.invariant.4 in record { held = said.0; fill = said.1.0; fits = said.1.1 }

pub lay_lyric-requires : goal.lay_lyric-requires
lay_lyric-requires c =
    let l = c.loop in
    let a = c.args in
    let more = ap (λ (ls : List LyricLine). length ls)
    (lyrics_more a.s.now l.number l.at (a.run.lines - l.counter) c.line_at-line.ensures (omega arith)
    (omega arith)) in
    let z = size _ _ _ _ _ _ l.invariant.4 (roomy a.s.now a.run a.n a.words.now c.requires.3) in
    let z0 = z.0 in
    let z1 = z.1 in
    let second = l.invariant.3 (omega arith) in
    (omega arith, omega arith, omega arith, omega arith, omega arith, omega arith, omega arith)

pub overflow_add-fill : goal.overflow_add-fill
overflow_add-fill c =
    let l = c.loop in
    let a = c.args in
    let z = (size _ _ _ _ _ _ l.invariant.4 (roomy a.s.now a.run a.n a.words.now c.requires.3)).0 in
    omega arith

pub loop-preserved : goal.loop-preserved
loop-preserved c =
    let l = c.loop in
    let a = c.args in
    let s = a.s.now in
    let line = c.line_at-line.result in
    let one : a.run.lines - l.counter - 1 ≡ a.run.lines - (l.counter + 1) = omega arith in
    let more = lyrics_more s l.number l.at (a.run.lines - l.counter) c.line_at-line.ensures
    (omega arith) (omega arith)
    ∙ ap (λ (k : ℕ). lyric_at s l.number line ∷ lyrics_at s (l.number + 1) line.next k) one in
    let fewer = ap (λ (ls : List LyricLine). length ls) more in
    let z = (size _ _ _ _ _ _ l.invariant.4 (roomy s a.run a.n a.words.now c.requires.3)).0 in
    let second = l.invariant.3 (omega arith) in (
      omega arith,
      omega arith,
      omega arith,
      (λ h. omega arith),
      step _ _ _ _ _ (lyric_at s l.number line) _ _
          (subst (λ (ls : List LyricLine). Passed a.n a.words.now l.words l.fill ls (lyrics_at s a.run.number a.run.at a.run.lines))
          more l.invariant.4) c.lay_lyric.ensures.held c.lay_lyric.ensures.fits,
    )

pub returns-after-loop : goal.returns-after-loop
returns-after-loop c =
    let l = c.loop in
    let a = c.args in
    let none = lyrics_none a.s.now l.number l.at (a.run.lines - l.counter) (omega arith) in
    let said = ended a.s.now a.run a.n a.words.now l.words l.fill _ none l.invariant.4 in record { held = said.0; fill = said.1.0; fits = said.1.1 }
