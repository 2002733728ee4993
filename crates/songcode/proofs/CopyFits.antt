-- Request 1: the song of a copy fits its stages, and plays what the song played with every head set.
use Prim.Native.Nat.{ℕ, suc, ◌≤◌}
use mathlib.Core.Path.{◌≡◌, refl, ap, sym, subst, ◌∙◌}
use mathlib.Core.List.{List, [], ◌∷◌, ◌++◌, append-nil, reverse}
use mathlib.Core.Bool.{Bool, true, false, ◌||◌}
use mathlib.Core.Option.{Option, none, some, bind}
use mathlib.Core.Logic.{inl, inr}
use native.Mathlib.Omega.{arith}
use lib.Dec.{eqb}
use lib.ListN.{length, length-append}
use Rattle.songcode.specs.Lists.{provided◌then◌else◌, is_empty, any, when, times}
use Rattle.songcode.specs.Bytes.{Byte, values}
use Rattle.songcode.specs.Song.{KeyName, bpm, time, Key, Items, items, named, Cut, LyricLine, Definition, Section, Song, Modifiers, unmodified, Beat}
use Rattle.songcode.specs.Answer.Keys.{key_place}
use Rattle.songcode.specs.Answer.References.{definition_of, items_of, pattern_items}
use Rattle.songcode.specs.Answer.Playing.{setting_named}
use Rattle.songcode.specs.Answer.Flat.{flat_measure}
use Rattle.songcode.specs.Description.WrittenPattern.{Number}
use Rattle.songcode.specs.Description.WrittenSection.{Each, none_each, and_each, TimeText}
use Rattle.songcode.specs.Description.Performance.{total, CutsFront, CutsBack, CutIf, Said, Says, Inherits}
use Rattle.songcode.specs.Description.Performance.{as_often, Parts, PlaysAlone, PlaysSide, PlaysPattern, PlaysSection, joined, uncut}
use Rattle.songcode.specs.Description.Fits.{DefinitionRefers, DefinitionsRefer, PatternRefers, SectionsRefer, uncut_length, Counted, none_counted}
use Rattle.songcode.specs.Description.Fits.{and_counted, Uncounted, SumsBy, AllSum, UncountedBy, NoneCounted, Fits}
use Rattle.songcode.specs.FlatDemands.{Within}
use Rattle.songcode.specs.Description.WrittenFlat.{silent_part}
use Rattle.songcode.specs.Description.WrittenLyrics.{CountedLine}
use Rattle.songcode.proofs.InheritsAgree.{said_exact, unsaid_exact}
use Rattle.songcode.proofs.ListLaws.{by_cases, nil_is_not_cons}
use Rattle.songcode.proofs.MeterAgree.{plays_section}
use Rattle.songcode.proofs.CopyLines.{behind}
use Rattle.songcode.proofs.CopyMeasure.{measure_heads}
use Rattle.songcode.proofs.CopyPattern.{row_heads, items_at, pattern_plays}
use Rattle.songcode.proofs.Alike.{AlikeKey, Split, split, length_alike, blanks_alike, stops_alike, number_alike, time_alike}
use Rattle.songcode.proofs.CopySection.{AlikeLyric, FlatSection, pattern_at}
use Rattle.songcode.proofs.CopySong.{Ready, FlatSections, no_flat, a_flat, empty_definition, FlatSong, parts_at, flat_parts}
use Rattle.songcode.proofs.StyleAgree.{values_reverse}

-- One song is played in one way.
each_same : (s : Song) {xs : List Section} {ps qs : List Parts} → Each (PlaysSection s) xs ps → Each (PlaysSection s) xs qs → ps ≡ qs
each_same s none_each none_each = refl
each_same s (and_each {x} {y = p} h hs) (and_each {y = q} k ks) =
    let e : p ≡ q = (plays_section s x p h).same ∙ sym (plays_section s x q k).same in rw (e, each_same s hs ks)

pub same_parts : (s : Song) (ps qs : List Parts) → Fits s ps → Fits s qs → ps ≡ qs
same_parts s ps qs f g = each_same s f.plays g.plays

-- What keys say.
unfoldable pub OptAlike : Option (List Byte) → Option (List Byte) → Type 0
OptAlike none none = Unit {0}
OptAlike none (some b) = ⊥
OptAlike (some a) none = ⊥
OptAlike (some a) (some b) = values a ≡ values b

pub setting_of_lem : (k : KeyName) {js ks : List Key} → Each AlikeKey js ks → OptAlike (setting_named k js) (setting_named k ks)
unfolding setting_named OptAlike provided◌then◌else◌
setting_of_lem k none_each = tt
setting_of_lem k (and_each {x = j} {y = i} a more) =
    by_cases (eqb (key_place i.key) (key_place k)) (λ e. rw (a.key, e) a.setting) (λ e. rw (a.key, e) (setting_of_lem k more))

module _ (k : KeyName) (meaning : List Byte → ℕ → Type 0) (moves : (a b : List Byte) (n : ℕ) → values a ≡ values b → meaning b n → meaning a n) where
  says_alike : {js ks : List Key} → Each AlikeKey js ks → (o : Option ℕ) → Says k meaning ks o → Says k meaning js o
  unfolding Says OptAlike
  says_alike {js} {ks} a none h = (unsaid_exact k js).0 (go (setting_named k js) (setting_of_lem k a))
    where
      go : (q : Option (List Byte)) → OptAlike q (setting_named k ks) → q ≡ none
      go none r = refl
      go (some b) r = absurd (subst (λ x. OptAlike (some b) x) ((unsaid_exact k ks).1 h) r)
  says_alike {js} {ks} a (some n) h = go (setting_named k js) refl (setting_of_lem k a)
    where
      named : setting_named k ks ≡ some h.0
      named = (said_exact k ks h.0).1 h.1

      go : (q : Option (List Byte)) → setting_named k js ≡ q → OptAlike q (setting_named k ks) → (setting : List Byte) × Said k setting js × meaning setting n
      go none e r = absurd (subst (λ x. OptAlike none x) named r)
      go (some b) e r = (b, (said_exact k js b).0 e, moves b h.0 n (subst (λ x. OptAlike (some b) x) named r) h.2)

  inherits_alike : {default : ℕ} {s t : Song} {x y : Section} {n : ℕ} → Each AlikeKey t.keys s.keys → Each AlikeKey y.keys x.keys
      → Inherits k meaning default s x n → Inherits k meaning default t y n
  inherits_alike a b h =
      record {
        own = h.own;
        songs = h.songs;
        own_says = says_alike b h.own h.own_says;
        song_says = says_alike a h.songs h.song_says;
        chosen = h.chosen;
      }

pub empty_named : (head : ℕ) → pattern_items (empty_definition true head) (named 1) ≡ none
unfolding pattern_items empty_definition when items_of definition_of bind provided◌then◌else◌
empty_named head = refl

some_beat : (k at : ℕ) (b : Beat) (m : List Beat) (ms : List (List Beat)) → 1 ≤ total (row_heads k at ((b ∷ m) ∷ ms))
unfolding row_heads measure_heads total
some_beat k at b m ms = omega arith

alone_plays : (k : ℕ) (r : Items) (ds : List Definition) (pass : List (List Beat)) → PlaysAlone k r pass → 1 ≤ total pass
    → PlaysPattern k unmodified (pattern_items ds (items r)) pass pass
unfolding PlaysPattern pattern_items as_often unmodified times CutIf
alone_plays k r ds pass p t = (pass, p, sym (append-nil pass), refl, t)

pattern_again : (k at : ℕ) (row : List (List Beat)) (needed : Bool) (head : ℕ) → Within k row → (is_empty row ≡ true → needed ≡ true)
    → PlaysPattern k unmodified (pattern_items (empty_definition needed head) (pattern_at k at row)) (row_heads k at row) (row_heads k at row)
unfolding PlaysPattern pattern_at row_heads is_empty Within
pattern_again k at [] needed head w h = rw (h refl, empty_named head) (refl, refl, refl)
pattern_again k at ([] ∷ ms) needed head w h = absurd (let l = w.0 in omega arith)
pattern_again k at ((b ∷ m) ∷ ms) needed head w h =
    alone_plays k (items_at k at b m ms) (empty_definition needed head) (row_heads k at ((b ∷ m) ∷ ms)) (pattern_plays k at b m ms w) (some_beat k at b m ms)

-- The copy of a section is played.
section_plays : (s t : Song) (x y : Section) (p : Parts) (needed : Bool) (head at : ℕ) → Each AlikeKey t.keys s.keys
    → t.definitions ≡ empty_definition needed head → FlatSection x p.meter at (joined p) y → (silent_part p ≡ true → needed ≡ true)
    → Within p.meter (joined p) → PlaysSection s x p → PlaysSection t y (parts_at p at)
unfolding parts_at silent_part PlaysSide unmodified
section_plays s t x y p needed head at k d f n w h =
    record {
      meter = inherits_alike time TimeText (λ a b n e m. time_alike a b e m) k f.keys h.meter;
      tempo = inherits_alike bpm (Number 0 400) (λ a b n e m. number_alike a b e m) k f.keys h.tempo;
      lead_in = rw f.modifiers refl;
      pattern = rw (f.modifiers, d, f.pattern) (pattern_again p.meter at (joined p) needed head w n);
      tail = rw f.modifiers refl;
    }

unfoldable pub Needs : Bool → List Parts → Type 0
Needs needed [] = Unit {0}
Needs needed (p ∷ ps) = (silent_part p ≡ true → needed ≡ true) × Needs needed ps

needs_more : (a b : Bool) (ps : List Parts) → (a ≡ true → b ≡ true) → Needs a ps → Needs b ps
unfolding Needs
needs_more a b [] f n = tt
needs_more a b (p ∷ ps) f n = ((λ e. f (n.0 e)), needs_more a b ps f n.1)

pub any_needs : (ps : List Parts) → Needs (any silent_part ps) ps
unfolding Needs any
any_needs [] = tt
any_needs (p ∷ ps) = ((λ e. rw e), needs_more (any silent_part ps) (silent_part p || any silent_part ps) ps (λ e. either (silent_part p) e) (any_needs ps))
  where
    either : (a : Bool) {b : Bool} → b ≡ true → a || b ≡ true
    either true e = refl
    either false e = e

plays_again : (s t : Song) (needed : Bool) (head : ℕ) → Each AlikeKey t.keys s.keys → t.definitions ≡ empty_definition needed head
    → {xs : List Section} {ps : List Parts} {ys : List Section} (g : FlatSections xs ps ys) → Needs needed ps → Ready ps → Each (PlaysSection s) xs ps
    → Each (PlaysSection t) ys (flat_parts g)
unfolding flat_parts Needs Ready
plays_again s t needed head k d no_flat n r none_each = none_each
plays_again s t needed head k d (a_flat {x} {y} {p} at f fs) n r (and_each h hs) =
    and_each (section_plays s t x y p needed head at k d f n.0 r.0.0 h) (plays_again s t needed head k d fs n.1 r.1 hs)

-- Definitions and references.
definitions_refer_lem : (needed : Bool) (head : ℕ) → DefinitionsRefer [] (empty_definition needed head)
unfolding DefinitionsRefer DefinitionRefers empty_definition when
definitions_refer_lem true head = (tt, tt)
definitions_refer_lem false head = tt

pattern_refers : (k at : ℕ) (row : List (List Beat)) (needed : Bool) (head : ℕ) → Within k row → (is_empty row ≡ true → needed ≡ true)
    → PatternRefers (empty_definition needed head) (pattern_at k at row)
unfolding PatternRefers pattern_at is_empty Within empty_definition when definition_of provided◌then◌else◌
pattern_refers k at [] needed head w h = rw (h refl) (record { head = head; id = 1; items = none }, refl)
pattern_refers k at ([] ∷ ms) needed head w h = absurd (let l = w.0 in omega arith)
pattern_refers k at ((b ∷ m) ∷ ms) needed head w h = tt

sections_refer_lem : (needed : Bool) (head : ℕ) {xs : List Section} {ps : List Parts} {ys : List Section} → FlatSections xs ps ys → Needs needed ps
    → Ready ps → SectionsRefer (empty_definition needed head) ys
unfolding SectionsRefer Needs Ready silent_part
sections_refer_lem needed head no_flat n r = tt
sections_refer_lem needed head (a_flat {p} at f fs) n r =
    (rw f.pattern (pattern_refers p.meter at (joined p) needed head r.0.0 n.0), sections_refer_lem needed head fs n.1 r.1)

-- Its length: no more measures than before the cuts.
heads_length : (k at : ℕ) (row : List (List Beat)) → Within k row → length (row_heads k at row) ≡ length row
unfolding row_heads Within
heads_length k at [] w = refl
heads_length k at ([] ∷ ms) w = absurd (let l = w.0 in omega arith)
heads_length k at ((b ∷ m) ∷ ms) w = ap suc (heads_length k (behind at (flat_measure k (b ∷ m))) ms w.2)

front_shorter : (o : Option Cut) (row kept : List (List Beat)) → CutIf CutsFront o row kept → length kept ≤ length row
unfolding CutIf
front_shorter none row kept p = rw p (omega arith)
front_shorter (some c) row kept p = rw (p.keeps, p.written, length-append, length-append) (omega arith)

back_shorter : (o : Option Cut) (row kept : List (List Beat)) → CutIf CutsBack o row kept → length kept ≤ length row
unfolding CutIf
back_shorter none row kept p = rw p (omega arith)
back_shorter (some c) row kept p = rw (p.keeps, p.written, length-append, length-append, length-append) (omega arith)

pub middle_shorter : (n : ℕ) (ms : Modifiers) (o : Option Items) (pass middle : List (List Beat)) → PlaysPattern n ms o pass middle
    → length middle ≤ length (times (as_often ms) pass)
unfolding PlaysPattern
middle_shorter n ms none pass middle p = rw p.2 (omega arith)
middle_shorter n ms (some r) pass middle (shorter, alone, front, back, some_left) =
    let a = front_shorter ms.cut_start (times (as_often ms) pass) shorter front in
    let b = back_shorter ms.cut_end shorter middle back in omega arith

one_pass : (ms : Modifiers) (row : List (List Beat)) → ms ≡ unmodified → length (times (as_often ms) row ++ []) ≡ length row
unfolding as_often unmodified times
one_pass ms row e = rw (e, append-nil (row ++ []), append-nil row) refl

pub uncut_longer : (k : ℕ) (p : Parts) → length p.middle ≤ length (times k p.pass) → length (joined p) ≤ length (uncut k p)
unfolding joined uncut
uncut_longer k p h =
    let a = length-append p.lead_in (p.middle ++ p.tail) in
    let b = length-append p.middle p.tail in
    let c = length-append p.lead_in (times k p.pass ++ p.tail) in
    let d = length-append (times k p.pass) p.tail in
    omega arith

short_again : (s : Song) {xs : List Section} {ps : List Parts} {ys : List Section} (g : FlatSections xs ps ys) → Ready ps
    → Each (PlaysSection s) xs ps → uncut_length ys (flat_parts g) ≤ uncut_length xs ps
unfolding uncut_length flat_parts parts_at uncut Ready
short_again s no_flat r none_each = omega arith
short_again s (a_flat {x} {y} {p} at f fs) r (and_each h hs) =
    let more = short_again s fs r.1 hs in
    let l = heads_length p.meter at (joined p) r.0.0 in
    let m = uncut_longer (as_often x.modifiers) p (middle_shorter p.meter x.modifiers _ p.pass p.middle h.pattern) in
    let o = one_pass y.modifiers (row_heads p.meter at (joined p)) f.modifiers in
    omega arith

-- Counts. A lyric line has the same count wherever it stands.
pub counted_alike : (a b : List Byte) (n : ℕ) → values a ≡ values b → (words : List Byte) → CountedLine b words n
    → (other : List Byte) × CountedLine a other n × (values other ≡ values words)
unfolding values
counted_alike a b n e words c =
    let p = split a words (c.gap ++ (c.under ∷ c.digits)) (rw c.written at e) in
    let q = split p.back c.gap (c.under ∷ c.digits) p.back_alike in
    go q.back p q refl q.back_alike
  where
    go : (back : List Byte) → (p : Split a words (c.gap ++ (c.under ∷ c.digits))) (q : Split p.back c.gap (c.under ∷ c.digits))
        → back ≡ q.back → values back ≡ values (c.under ∷ c.digits) → (other : List Byte) × CountedLine a other n × (values other ≡ values words)
    go [] p q j f = nil_is_not_cons f
    go (u ∷ ds) p q j f = (
      p.front,
      record {
        gap = q.front;
        under = u;
        digits = ds;
        written = p.joined ∙ ap (λ w. p.front ++ w) (q.joined ∙ ap (λ w. q.front ++ w) (sym j));
        blanks = blanks_alike q.front c.gap q.front_alike c.blanks;
        parted = rw (length_alike q.front c.gap q.front_alike) c.parted;
        signs = (let v : u.value ≡ c.under.value = cc in v ∙ c.signs);
        number = (let v : values ds ≡ values c.digits = cc in number_alike ds c.digits v c.number);
        solid =
            stops_alike (reverse p.front) (reverse words) (values_reverse p.front ∙ ap reverse p.front_alike ∙ sym (values_reverse words)) c.solid;
      },
      p.front_alike,
    )

pub counts_alike : {ms ls : List LyricLine} {n : ℕ} → Each AlikeLyric ms ls → Counted ls n → Counted ms n
counts_alike none_each none_counted = none_counted
counts_alike (and_each {x = m} {y = l} a more) (and_counted {words} {n} c k e) =
    let d = counted_alike m.text l.text n a.text words c in and_counted d.1 (counts_alike more k) e

uncounted_alike : {ms ls : List LyricLine} → Each AlikeLyric ms ls → Uncounted ls → Uncounted ms
unfolding Uncounted
uncounted_alike none_each u = tt
uncounted_alike (and_each {x = m} {y = l} a more) u =
    ((λ words n c. let d = counted_alike l.text m.text n (sym a.text) words c in u.0 d.0 n d.1), uncounted_alike more u.1)

sums_by : (k at : ℕ) (row : List (List Beat)) (needed : Bool) (head : ℕ) (o : Option Items) (ms ls : List LyricLine) → Each AlikeLyric ms ls
    → (o ≡ none → row ≡ []) → Within k row → (is_empty row ≡ true → needed ≡ true) → SumsBy o ls (length row)
    → SumsBy (pattern_items (empty_definition needed head) (pattern_at k at row)) ms (length row)
unfolding SumsBy pattern_at pattern_items Within is_empty
sums_by k at [] needed head o ms ls a n w h t =
    subst (λ q. SumsBy q ms 0) (sym (ap (λ b. pattern_items (empty_definition b head) (named 1)) (h refl) ∙ empty_named head)) tt
sums_by k at ([] ∷ r) needed head o ms ls a n w h t = absurd (let l = w.0 in omega arith)
sums_by k at ((b ∷ m) ∷ r) needed head none ms ls a n w h t = nil_is_not_cons (sym (n refl))
sums_by k at ((b ∷ m) ∷ r) needed head (some q) ms ls none_each n w h t = tt
sums_by k at ((b ∷ m) ∷ r) needed head (some q) ms ls (and_each c a) n w h t = counts_alike (and_each c a) t

uncounted_by : (k at : ℕ) (row : List (List Beat)) (needed : Bool) (head : ℕ) (o : Option Items) (ms ls : List LyricLine) → Each AlikeLyric ms ls
    → (o ≡ none → row ≡ []) → Within k row → (is_empty row ≡ true → needed ≡ true) → UncountedBy o ls
    → UncountedBy (pattern_items (empty_definition needed head) (pattern_at k at row)) ms
unfolding UncountedBy pattern_at pattern_items Within is_empty
uncounted_by k at [] needed head o ms ls a n w h t =
    subst (λ q. UncountedBy q ms) (sym (ap (λ b. pattern_items (empty_definition b head) (named 1)) (h refl) ∙ empty_named head)) tt
uncounted_by k at ([] ∷ r) needed head o ms ls a n w h t = absurd (let l = w.0 in omega arith)
uncounted_by k at ((b ∷ m) ∷ r) needed head none ms ls a n w h t = nil_is_not_cons (sym (n refl))
uncounted_by k at ((b ∷ m) ∷ r) needed head (some q) ms ls a n w h t = uncounted_alike a t

-- An empty pattern plays nothing.
pub plays_nothing_lem : (s : Song) (x : Section) (p : Parts) → PlaysSection s x p → pattern_items s.definitions x.pattern ≡ none → joined p ≡ []
unfolding joined PlaysPattern PlaysSide unmodified
plays_nothing_lem s x p h e =
    let q : PlaysPattern p.meter x.modifiers none p.pass p.middle =
    subst (λ o. PlaysPattern p.meter x.modifiers o p.pass p.middle) e h.pattern in
    let l : p.lead_in ≡ [] = subst (λ m. PlaysSide p.meter m.before p.lead_in) q.0 h.lead_in in
    let t : p.tail ≡ [] = subst (λ m. PlaysSide p.meter m.after p.tail) q.0 h.tail in
    rw (l, q.2, t) refl

pub joined_length : (p : Parts) (at : ℕ) → Within p.meter (joined p) → length (joined (parts_at p at)) ≡ length (joined p)
unfolding parts_at joined
joined_length p at w = rw append-nil (heads_length p.meter at (joined p) w)

sum_again : (s t : Song) (needed : Bool) (head : ℕ) → t.definitions ≡ empty_definition needed head
    → {xs : List Section} {ps : List Parts} {ys : List Section} (g : FlatSections xs ps ys) → Needs needed ps → Ready ps → Each (PlaysSection s) xs ps
    → AllSum s xs ps → AllSum t ys (flat_parts g)
unfolding AllSum flat_parts Needs Ready silent_part
sum_again s t needed head d no_flat n r none_each a = tt
sum_again s t needed head d (a_flat {x} {y} {p} at f fs) n r (and_each h hs) a =
    let o = pattern_items s.definitions x.pattern in
    let b = sums_by p.meter at (joined p) needed head o y.lyrics x.lyrics f.lyrics (plays_nothing_lem s x p h) r.0.0 n.0 a.0 in
    (rw (d, f.pattern, joined_length p at r.0.0) b, sum_again s t needed head d fs n.1 r.1 hs a.1)

none_again : (s t : Song) (needed : Bool) (head : ℕ) → t.definitions ≡ empty_definition needed head
    → {xs : List Section} {ps : List Parts} {ys : List Section} (g : FlatSections xs ps ys) → Needs needed ps → Ready ps → Each (PlaysSection s) xs ps
    → NoneCounted s xs → NoneCounted t ys
unfolding NoneCounted Needs Ready silent_part
none_again s t needed head d no_flat n r none_each a = tt
none_again s t needed head d (a_flat {x} {y} {p} at f fs) n r (and_each h hs) a =
    let o = pattern_items s.definitions x.pattern in
    let b = uncounted_by p.meter at (joined p) needed head o y.lyrics x.lyrics f.lyrics (plays_nothing_lem s x p h) r.0.0 n.0 a.0 in
    (rw (d, f.pattern) b, none_again s t needed head d fs n.1 r.1 hs a.1)

pub fits_again : (s t : Song) (ps : List Parts) → Fits s ps → Ready ps → (g : FlatSong s ps t) → Fits t (flat_parts g.sections)
fits_again s t ps f r g =
    let needed = any silent_part ps in
    let n = any_needs ps in
    let more = short_again s g.sections r f.plays in
    let k = f.short in
    let sums = sum_again s t needed g.head g.definitions g.sections n r f.plays in
    let nones = none_again s t needed g.head g.definitions g.sections n r f.plays in
    record {
      definitions_refer = rw g.definitions (definitions_refer_lem needed g.head);
      sections_refer = rw g.definitions (sections_refer_lem needed g.head g.sections n r);
      plays = plays_again s t needed g.head g.keys g.definitions g.sections n r f.plays;
      short = omega arith;
      counts = elim f.counts [ inl a ↦ inl (sums a) | inr a ↦ inr (nones a) ];
    }
