-- Each section's stretch of the tables holds the words of what it plays.
use Prim.Native.Nat.{ℕ, ◌+◌}
use mathlib.Core.Path.{◌≡◌, refl, ap, subst, ◌∙◌}
use mathlib.Core.List.{List, [], ◌∷◌, ◌++◌, map, flat_map}
use native.Mathlib.Nat.{zero-add, add-zero, add_assoc}
use native.Mathlib.Omega.{arith}
use lib.ListN.{length, length-append}
use Rattle.songcode.specs.Song.{Section, Song, Beat}
use Rattle.songcode.specs.Answer.Tables.{Tables}
use Rattle.songcode.specs.Answer.Answer.{Room, accepted, answer}
use Rattle.songcode.specs.Description.WrittenSection.{Each, none_each, and_each}
use Rattle.songcode.specs.Description.Performance.{Parts, PlaysSection, joined, total}
use Rattle.songcode.specs.Description.WrittenTables.{parts_words, row_words, beat_laid, WrittenTables}
use Rattle.songcode.specs.Description.Layout.{sections_row, measures_row, laid}
use Rattle.songcode.specs.EachSection.{Stretch, EachSection}
use Rattle.songcode.proofs.ListLaws.{gather_append, nil_is_not_cons}
use Rattle.songcode.proofs.AnswerAgree.{accepted_exactly}

-- Things that stand at the places of sections parted as the sections are.
record Parted {A B : Type 0} (R : A → B → Type 0) (front : List A) (x : A) (behind : List A) (ys : List B) : Type 0 where
  before : List B
  thing : B
  after : List B
  written : ys ≡ before ++ (thing ∷ after)
  holds : R x thing
  of_front : Each R front before
  of_behind : Each R behind after

parted : {A B : Type 0} {R : A → B → Type 0} (front : List A) (x : A) (behind xs : List A) (ys : List B) → xs ≡ front ++ (x ∷ behind) → Each R xs ys
    → Parted R front x behind ys
parted [] x behind xs ys e none_each = nil_is_not_cons e
parted {R = R} [] x behind xs ys e (and_each {x = a} {y = b} {xs = cs} {ys = bs} h hs) =
    let p : a ≡ x = cc in
    let q : cs ≡ behind = cc in
    record {
      before = [];
      thing = b;
      after = bs;
      written = refl;
      holds = subst (λ z. R z b) p h;
      of_front = none_each;
      of_behind = subst
          (λ z. Each R z bs) q hs;
    }
parted (f ∷ front) x behind xs ys e none_each = nil_is_not_cons e
parted {R = R} (f ∷ front) x behind xs ys e (and_each {x = a} {y = b} {xs = cs} {ys = bs} h hs) =
    let p : a ≡ f = cc in
    let q : cs ≡ front ++ (x ∷ behind) = cc in
    let r = parted front x behind cs bs q hs in
    record {
      before = b ∷ r.before;
      thing = r.thing;
      after = r.after;
      written = ap (λ z. b ∷ z) r.written;
      holds = r.holds;
      of_front = and_each (subst (λ z. R z b) p h) r.of_front;
      of_behind = r.of_behind;
    }

-- Words of sections, measures and beats in a row.
abbrev section_word_lem : Section → ℕ → Parts → ℕ
section_word_lem x first p = laid sections_row (x.header ∷ first ∷ length (joined p) ∷ p.meter ∷ p.tempo ∷ [])

sections_parted : {R : Section → Parts → Type 0} (first : ℕ) (front : List Section) (x : Section) (behind : List Section)
    (ps : List Parts) (p : Parts) (qs : List Parts) → Each R front ps
    → (parts_words first (front ++ (x ∷ behind)) (ps ++ (p ∷ qs))
    ≡ parts_words first front ps
    ++ (section_word_lem x (first + length (flat_map joined ps)) p ∷ parts_words (first + length (flat_map joined ps) + length (joined p)) behind qs))
    × (length (parts_words first front ps) ≡ length front)
unfolding parts_words flat_map
sections_parted first [] x behind [] p qs none_each = (rw (add-zero first), refl)
sections_parted first [] x behind (g ∷ ps) p qs h = elim h [ ]
sections_parted first (f ∷ front) x behind [] p qs h = elim h [ ]
sections_parted {R = R} first (f ∷ front) x behind (g ∷ ps) p qs (and_each h hs) =
    let r = sections_parted {R = R} (first + length (joined g)) front x behind ps p qs hs in
    let e : first + length (joined g ++ flat_map joined ps) ≡ first + length (joined g) + length (flat_map joined ps) =
    rw (length-append (joined g) (flat_map joined ps)) (omega arith) in
    (rw e (ap (λ z. section_word_lem f first g ∷ z) r.0), let s = r.1 in omega arith)

measures_joined : (first : ℕ) (a b : List (List Beat))
    → (row_words first (a ++ b) ≡ row_words first a ++ row_words (first + total a) b) × (length (row_words first a) ≡ length a)
unfolding row_words total
measures_joined first [] b = (rw (add-zero first), refl)
measures_joined first (m ∷ a) b =
    let h = measures_joined (first + length m) a b in
    let l = h.1 in
    (rw (← add_assoc first (length m) (total a)) (ap (λ z. laid measures_row (first ∷ length m ∷ []) ∷ z) h.0), omega arith)

gathered_length : {A B : Type 0} (f : A → B) (rows : List (List A)) → length (flat_map (map f) rows) ≡ total rows
unfolding flat_map total
gathered_length f [] = refl
gathered_length f ([] ∷ rows) = let h = gathered_length f rows in omega arith
gathered_length f ((x ∷ xs) ∷ rows) = let h = gathered_length f (xs ∷ rows) in omega arith

module _ (s : Song) (ps : List Parts) (t : Tables) (w : WrittenTables s ps t) (each : Each (PlaysSection s) s.sections ps) where
  stretch_of_lem : (front behind : List Section) (x : Section) → s.sections ≡ front ++ (x ∷ behind)
      → (p : Parts) × PlaysSection s x p × Stretch t (length front) x p
  unfolding flat_map
  stretch_of_lem front behind x e =
      let r = parted front x behind s.sections ps e each in
      let rows = flat_map joined r.before in
      let p = r.thing in
      let rest = flat_map joined r.after in
      let all : flat_map joined ps ≡ rows ++ (joined p ++ rest) = ap (λ z. flat_map joined z) r.written ∙ gather_append joined r.before (p ∷ r.after) in
      let words = sections_parted {R = PlaysSection s} 0 front x behind r.before p r.after r.of_front in
      let measures : t.measures ≡ row_words 0 rows ++ (row_words (total rows) (joined p) ++ row_words (total rows + total (joined p)) rest) =
      w.measures ∙ ap (λ z. row_words 0 z) all ∙ (measures_joined 0 rows (joined p ++ rest)).0
      ∙ rw (zero-add (total rows)) (ap (λ z. row_words 0 rows ++ z) (measures_joined (total rows) (joined p) rest).0) in
      let beats : t.beats ≡ flat_map (map beat_laid) rows ++ (flat_map (map beat_laid) (joined p) ++ flat_map (map beat_laid) rest) =
      w.beats ∙ ap (λ z. flat_map (map beat_laid) z) all ∙ gather_append (map beat_laid) rows (joined p ++ rest)
      ∙ ap (λ z. flat_map (map beat_laid) rows ++ z) (gather_append (map beat_laid) (joined p) rest) in
      let sections : t.sections ≡ parts_words 0 front r.before
      ++
      (section_word_lem x (0 + length rows) p ∷ parts_words (0 + length rows + length (joined p)) behind
      r.after) =
      w.sections ∙ ap (λ z. parts_words 0 z ps) e ∙ ap (λ z. parts_words 0 (front ++ (x ∷ behind)) z) r.written ∙ words.0 in
      let long : length (row_words 0 rows) ≡ length rows = (measures_joined 0 rows []).1 in
      let beaten : length (flat_map (map beat_laid) rows) ≡ total rows = gathered_length beat_laid rows in (
        p,
        r.holds,
        record {
          sections_before = parts_words 0 front r.before;
          sections_behind = parts_words (0 + length rows + length (joined p)) behind r.after;
          measures_before = row_words 0 rows;
          measures_behind = row_words (total rows + total (joined p)) rest;
          beats_before = flat_map (map beat_laid) rows;
          beats_behind = flat_map (map beat_laid) rest;
          in_place = words.1;
          sections = sections ∙ rw (zero-add (length rows), long);
          measures = rw beaten measures;
          beats = beats;
        },
      )

pub each_section : (room : Room) (bs : List ℕ) (t : Tables) → answer room bs ≡ accepted t → EachSection bs t
each_section room bs t e =
    let d = (accepted_exactly room bs t).0 e in
    record { song = d.song; written = d.written; stretches = stretch_of_lem d.song d.parts t d.words d.fits.plays }
