-- The walk over a section.
use Prim.Native.Nat.{ℕ, ◌≤◌, min, max}
use mathlib.Core.Path.{◌≡◌, refl, sym, ap, ◌∙◌}
use mathlib.Core.List.{List, [], ◌∷◌, ◌++◌, flat_map}
use mathlib.Core.Bool.{true, false}
use native.Mathlib.Omega.{arith}
use Rattle.songcode.specs.Lists.{provided◌then◌else◌, taken, left, is_empty, prepend}
use Rattle.songcode.specs.Answer.Lines.{Line, Block}
use Rattle.songcode.specs.Complaints.{Complaint, complain_if}
use Rattle.songcode.specs.Answer.Sections.{Kind, key_line, modifier_line, pattern_line, kind_of_line, twice, twice_by, key_said, modifier_said, faults}
use Rattle.songcode.specs.Answer.Sections.{pattern_run}
use Rattle.songcode.specs.Answer.Sections.{pattern_faults, header_faults, not_dashes, lyric_faults, body, from_dashes, section_faults}
use Rattle.songcode.specs.Answer.SongText.{section, block_kind}
use Rattle.songcode.proofs.ListLaws.{by_cases}
use Rattle.grammar.specs.Checks.{first}
use Rattle.grammar.specs.Verdicts.{section_fine}
use Rattle.grammar.specs.declared.checks.Check.{Check}
use Rattle.stage2.specs.declared.states.Pending.{Pending}
use Rattle.stage2.specs.declared.states.Part.{Part}
use Rattle.stage2.specs.declared.states.Part.TheVariants.{Keys, Early, Pattern, Behind}
use Rattle.stage2.specs.Places.{part_after, misplaced_at, order_at}
use Rattle.refusals.specs.Ranks.{ranked, none, least, only_if}
use Rattle.stage2.specs.Walk.{Known, known, in_body, in_lyrics, walk_at, pending, closed, fine_at, late, opens, pending_after, order_note, body_note, unless}
use Rattle.stage2.specs.Walk.{body_step, lyrics_with, pattern_pending, step_at}
use Rattle.refusals.proofs.RankLaws.{least_append, least_both, least_if, least_le, min_assoc, min_both}
use Rattle.stage2.proofs.BlockWalk.{in_block, after_block, block_note, block_after}
use Rattle.stage2.proofs.PlaceLaws.{order_at_lem}
use Rattle.stage2.proofs.PatternWalk.{wanted, pattern_left, Fits, at_end, pattern_next, fits_next, run_faults}

-- What the lines before the `--` are complained of one by one.
unfoldable pub body_left : Part → List ℕ → List ℕ → List Line → ℕ
body_left p ks ms ls =
    min
    (min (min (least (order_at p ls)) (least (twice 4 key_said ks ls))) (least (twice 8 modifier_said ms ls)))
    (least (flat_map faults ls))

body_next : (p : Part) (ks ms : List ℕ) (l : Line) (ls : List Line)
    → body_left p ks ms (l ∷ ls) ≡ min (body_note p ks ms l)
    (body_left (part_after (kind_of_line l) p) (prepend (key_said l) ks) (prepend (modifier_said l) ms) ls)
unfolding body_left body_note order_note order_at twice flat_map
body_next p ks ms l ls =
    let o = misplaced_at (kind_of_line l) p l in
    let o' = order_at (part_after (kind_of_line l) p) ls in
    let k = twice_by 4 (key_said l) ks l in
    let k' = twice 4 key_said (prepend (key_said l) ks) ls in
    let m = twice_by 8 (modifier_said l) ms l in
    let m' = twice 8 modifier_said (prepend (modifier_said l) ms) ls in
    let two = least_both o o' k k' in
    let three = min_both (min (least o) (least k)) (min (least o') (least k')) (least m) (least m') two (least_append m m') in
    min_both (min (min (least o) (least k)) (least m)) (min (min (least o') (least k')) (least m')) (least (faults l)) (least (flat_map faults ls))
    three (least_append (faults l) (flat_map faults ls))

module _ (k : Known) (ks ms : List ℕ) where
  -- Lyric lines say nothing; the first takes the complaint of the `--` away.
  sung : (w t : ℕ) (c : Check) (ls : List Line) → in_block (walk_at in_lyrics k ks ms (pending w none t c)) ls ≡ min none (min w (unless (section_fine c) t))
  unfolding in_block closed fine_at step_at
  sung w t c [] = omega arith
  sung w t c (l ∷ ls) = let h = sung w t c ls in omega arith

  dashes : (q : Pending) (n : ℕ) (ls : List Line)
      → min none (in_block (walk_at in_lyrics k ks ms (pending q.want (ranked 8 n) q.bad q.check)) ls) ≡ min
      (least (complain_if (is_empty ls) 8 n)) (min q.want (unless (section_fine q.check) q.bad))
  unfolding in_block closed fine_at step_at is_empty only_if provided◌then◌else◌
  dashes q n [] = let h = least_if true 8 n in omega arith
  dashes q n (l ∷ ls) =
      let h = least_if false 8 n in
      let j = sung q.want q.bad q.check ls in
      omega arith

bare_next : (l : Line) (p : Part) (k : Kind) (q : Pending) → q.bare ≡ none → (pending_after k p l q).bare ≡ none
unfolding pending_after pattern_pending
bare_next l p key_line q h = h
bare_next l p modifier_line q h = h
bare_next l Keys pattern_line q h = h
bare_next l Early pattern_line q h = h
bare_next l Pattern pattern_line q h = h
bare_next l Behind pattern_line q h = h

-- What is still to come of a section.
abbrev section_left : Part → List ℕ → List ℕ → Pending → List Line → ℕ
section_left p ks ms q ls =
    min (body_left p ks ms (taken not_dashes ls)) (min (pattern_left p q (taken not_dashes ls)) (least (lyric_faults (left not_dashes ls))))

no_body : (p : Part) (ks ms : List ℕ) → body_left p ks ms [] ≡ none
unfolding body_left order_at twice flat_map least
no_body p ks ms = refl

at_dashes : (x y z w : ℕ) → min none x ≡ min z y → y ≡ min none w → min none x ≡ min none (min w z)
at_dashes x y z w p q = omega arith

module _ (k : Known) where
  section_lines : (p : Part) (ks ms : List ℕ) (q : Pending) (ls : List Line) → q.bare ≡ none → Fits p q
      → in_block (walk_at (in_body p) k ks ms q) ls ≡ section_left p ks ms q ls
  unfolding in_block closed fine_at step_at taken left lyric_faults provided◌then◌else◌ body_step least
  section_lines p ks ms q [] b f =
      let h = at_end p q f in
      let j = no_body p ks ms in
      omega arith
  section_lines p ks ms q (l ∷ ls) b f =
      by_cases
      (not_dashes l)
      (λ e. rw e
      (let body = taken not_dashes ls in
      let p' = part_after (kind_of_line l) p in
      let q' = pending_after (kind_of_line l) p l q in
      let ks' = prepend (key_said l) ks in
      let ms' = prepend (modifier_said l) ms in
      let note = body_note p ks ms l in
      let rest = min (pattern_left p' q' body) (least (lyric_faults (left not_dashes ls))) in
      rw (body_next p ks ms l body, pattern_next l body p q)
      (ap (min note) (section_lines p' ks' ms' q' ls (bare_next l p (kind_of_line l) q b) (fits_next l p (kind_of_line l) q f))
      ∙ sym (min_assoc note (body_left p' ks' ms' body) rest))))
      (λ e. rw (e, no_body p ks ms)
      (at_dashes (in_block (lyrics_with (walk_at (in_body p) k ks ms q) (ranked 8 l.number)) ls)
      (min q.want (unless (section_fine q.check) q.bad)) (least (complain_if (is_empty ls) 8 l.number)) (pattern_left p q [])
      (dashes k ks ms q l.number ls) (at_end p q f)))

  sung_after : (ks ms : List ℕ) (q : Pending) (ls : List Line) → after_block (walk_at in_lyrics k ks ms q) ls ≡ k
  unfolding after_block step_at
  sung_after ks ms q [] = refl
  sung_after ks ms q (l ∷ ls) = sung_after ks ms (pending q.want none q.bad q.check) ls

  section_after : (p : Part) (ks ms : List ℕ) (q : Pending) (ls : List Line) → after_block (walk_at (in_body p) k ks ms q) ls ≡ k
  unfolding after_block step_at provided◌then◌else◌ body_step
  section_after p ks ms q [] = refl
  section_after p ks ms q (l ∷ ls) =
      by_cases
      (not_dashes l)
      (λ e. rw e
      (section_after (part_after (kind_of_line l) p) (prepend (key_said l) ks) (prepend (modifier_said l) ms) (pending_after (kind_of_line l) p l q) ls))
      (λ e. rw e (sung_after ks ms (pending q.want (ranked 8 l.number) q.bad q.check) ls))

-- The complaints of a section, in songcode's order.
section_least : (h o k m f p l : List Complaint)
    → least (h ++ o ++ k ++ m ++ f ++ p ++ l) ≡ min (least h) (min (min (min (min (least o) (least k)) (least m)) (least f)) (min (least p) (least l)))
section_least h o k m f p l =
    simp (
      least_append (h ++ o ++ k ++ m ++ f ++ p) l,
      least_append (h ++ o ++ k ++ m ++ f) p,
      least_append (h ++ o ++ k ++ m) f,
      least_append
          (h ++ o ++ k) m,
      least_append (h ++ o) k,
      least_append h o,
      min_assoc,
    )

under_none : (w y : ℕ) → y ≤ none → min w y ≡ min (min none w) y
under_none w y c = omega arith

capped : (l h b w y : ℕ) → y ≤ none → min (min l h) (min b (min w y)) ≡ min l (min h (min b (min (min none w) y)))
capped l h b w y c = min_assoc l h (min b (min w y)) ∙ ap (λ (x : ℕ). min l (min h (min b x))) (under_none w y c)

module _ (k : Known) (b : Block) (e : block_kind b ≡ section) where
  abbrev opened : Known
  opened = known (max k.turn 2) k.keys k.sofar k.heads

  pub section_block : block_note k b ≡ min (late 2 k.turn b.first) (least (section_faults b))
  unfolding in_block step_at opens block_kind section_faults pattern_left body_left body from_dashes Fits
  section_block =
      let ls = body b in
      let want = ranked 8 b.first.number in
      let q = pending want none none first in
      let said = section_least (header_faults b.first) (order_at Keys ls) (twice 4 key_said [] ls) (twice 8 modifier_said [] ls) (flat_map faults ls)
      (pattern_faults b.first.number (pattern_run ls)) (lyric_faults (from_dashes b)) in
      rw (e, order_at_lem ls, section_lines opened Keys [] [] q b.others refl refl, said, run_faults b.first.number (pattern_run ls))
      (capped (late 2 k.turn b.first) (least (header_faults b.first)) (body_left Keys [] [] ls) (wanted want (pattern_run ls))
      (least (lyric_faults (from_dashes b))) (least_le (lyric_faults (from_dashes b))))

  pub section_block_after : block_after k b ≡ opened
  unfolding after_block step_at opens block_kind
  section_block_after = rw e (section_after opened Keys [] [] (pending (ranked 8 b.first.number) none none first) b.others)
