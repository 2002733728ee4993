-- Stage 4 of a section: what its three texts are complained of in N is the least of the complaints that the definitions make of it.
use Prim.Native.Nat.{ℕ, ◌≤◌, ◌%◌, min}
use mathlib.Core.Path.{◌≡◌, refl, sym, ap, ◌∙◌}
use mathlib.Core.List.{List, [], ◌++◌}
use mathlib.Core.Bool.{not}
use mathlib.Core.Option.{Option, none, some, bind}
use native.Mathlib.Omega.{arith}
use borrow.Author.Tests.{eq-eqb}
use Rattle.std.specs.Prelude as std
use Rattle.std.specs.Prelude.{Some, None}
use Rattle.songcode.specs.Lists.{when}
use Rattle.songcode.specs.Bytes.{placed}
use Rattle.songcode.specs.Complaints.{Complaint, complain_if}
use Rattle.songcode.specs.Song.{Items, Section, Song, Side}
use Rattle.songcode.specs.Answer.PatternText.{side_text}
use Rattle.songcode.specs.Answer.References.{pattern_items}
use Rattle.songcode.specs.Answer.Playing.{time_of}
use Rattle.songcode.specs.Answer.Meter.{all_fit, stray, row_faults, played_faults, side_faults, section_meter}
use Rattle.songcode.proofs.ListLaws.{Each, each_append}
use Rattle.songcode.proofs.PatternLaws.{none_some}
use Rattle.text.specs.Spans.{part}
use Rattle.refusals.specs.Ranks.{least}
use Rattle.refusals.proofs.RankLaws.{least_append, Ranked, ranked_if}
use Rattle.outlines.specs.declared.readings.Outline.{Outline}
use Rattle.outlines.specs.Sizes.{divides}
use Rattle.outlines.specs.Words.{vacant}
use Rattle.outlines.specs.Told.{Tells}
use Rattle.sections.specs.declared.slots.Said.{Said}
use Rattle.sections.specs.declared.values.Modifiers.{Modifiers}
use Rattle.sections.specs.Slots.{setting_at}
use Rattle.sections.specs.SectionSays.{side_on, side_said}
use Rattle.laying.specs.declared.texts.Text.{Text}
use Rattle.laying.specs.declared.texts.Texts.{Texts}
use Rattle.laying.specs.Scores.{Carries, side_items, TextsAre}
use Rattle.judging.specs.Meters.{text_fault, side_fault, meter_fault}

-- A text that tells of its items.
told_fault : (o : Outline) (n line : ℕ) (r : Items) → Tells o r → 1 ≤ n → n ≤ 32 → text_fault o n line ≡ least (row_faults n line r)
unfolding row_faults
told_fault o n line r t a b =
    rw (t.sizes n a b, t.wants) (sym (least_append (complain_if (not (all_fit n r)) 12 line) (complain_if (stray none r) 13 line)))

vacant_fault : (n line : ℕ) → text_fault vacant n line ≡ least []
unfolding vacant divides least complain_if when
vacant_fault n line = rw (eq-eqb (n % 1) 0 (omega arith)) refl

-- A text that carries items, or none.
pub carried_fault : (ws : List ℕ) (t : Text) (o : Option Items) (n line : ℕ) → Carries ws t o → 1 ≤ n → n ≤ 32
    → text_fault t.outline n line ≡ least (played_faults n line o)
unfolding Carries played_faults
carried_fault ws t none n line w a b = ap (λ (x : Outline). text_fault x n line) w.0 ∙ vacant_fault n line
carried_fault ws t (some r) n line w a b = told_fault t.outline n line r w.1 a b

-- A lead-in or tail is on the line of its setting.
side_line_lem : (s : List ℕ) (r : Said) {o : Option Side} → bind (setting_at s (Some r)) side_said ≡ o → (x : Side) → o ≡ some x → x.line ≡ r.line
unfolding setting_at side_said side_on bind
side_line_lem s r e x h = go (side_text (placed r.start (part r.start r.stop s))) (e ∙ h)
  where
    go : (o : Option Items) → side_on r.line o ≡ some x → x.line ≡ r.line
    go none z = none_some refl z
    go (some q) z = let y : record { line = r.line; items = q } ≡ x = cc in sym (ap (λ (k : Side). k.line) y)

side_faults_lem : (n line : ℕ) (o : Option Side) → ((x : Side) → o ≡ some x → x.line ≡ line) → played_faults n line (side_items o) ≡ side_faults n o
unfolding played_faults side_items side_faults bind
side_faults_lem n line none h = refl
side_faults_lem n line (some x) h = ap (λ (l : ℕ). row_faults n l x.items) (sym (h x refl))

-- What is found of a lead-in or tail, if it is said.
side_fault_lem : (s ws : List ℕ) (r : std.Option Said) (t : Text) (n : ℕ) {o : Option Side} → bind (setting_at s r) side_said ≡ o → Carries ws t (side_items o)
    → 1 ≤ n → n ≤ 32 → side_fault r t.outline n ≡ least (side_faults n o)
unfolding setting_at bind least side_faults
side_fault_lem s ws None t n e w a b = rw (← e) refl
side_fault_lem s ws (Some r) t n {o} e w a b =
    carried_fault ws t (side_items o) n r.line w a b ∙ ap least (side_faults_lem n r.line o (side_line_lem s r e))

-- Every complaint of the stage has a number that ranks tell apart.
ranked_row : (n line : ℕ) (r : Items) → Each Ranked (row_faults n line r)
unfolding row_faults
ranked_row n line r =
    each_append Ranked (complain_if (not (all_fit n r)) 12 line) (complain_if (stray none r) 13 line)
    (ranked_if (not (all_fit n r)) 12 line (omega arith) (omega arith)) (ranked_if (stray none r) 13 line (omega arith) (omega arith))

ranked_played : (n line : ℕ) (o : Option Items) → Each Ranked (played_faults n line o)
unfolding played_faults Each
ranked_played n line none = tt
ranked_played n line (some r) = ranked_row n line r

ranked_side : (n : ℕ) (o : Option Side) → Each Ranked (side_faults n o)
unfolding side_faults Each
ranked_side n none = tt
ranked_side n (some x) = ranked_row n x.line x.items

pub ranked_section : (s : Song) (x : Section) → Each Ranked (section_meter s x)
unfolding section_meter
ranked_section s x =
    let n = time_of s x in
    let p = pattern_items s.definitions x.pattern in
    let y = x.modifiers.before in
    let z = x.modifiers.after in
    each_append Ranked (played_faults n x.header p ++ side_faults n y) (side_faults n z)
    (each_append Ranked (played_faults n x.header p) (side_faults n y) (ranked_played n x.header p) (ranked_side n y))
    (ranked_side n z)

-- The three texts of a section.
three : (p y z : List Complaint) → min (least p) (min (least y) (least z)) ≡ least (p ++ y ++ z)
three p y z =
    let a = least_append p y in
    let b = least_append (p ++ y) z in
    omega arith

pub section_fault_lem : (song : Song) (x : Section) (s ws : List ℕ) (m : Modifiers) (t : Texts) → TextsAre song.definitions x ws t
    → bind (setting_at s m.before) side_said ≡ x.modifiers.before
    → bind (setting_at s m.after) side_said ≡ x.modifiers.after
    → 1 ≤ time_of song x → time_of song x ≤ 32
    → meter_fault x.header m t (time_of song x) ≡ least (section_meter song x)
unfolding section_meter
section_fault_lem song x s ws m t w before after a b =
    let n = time_of song x in
    let p = played_faults n x.header (pattern_items song.definitions x.pattern) in
    let y = x.modifiers.before in
    let z = x.modifiers.after in
    let f = carried_fault ws t.pattern (pattern_items song.definitions x.pattern) n x.header w.pattern a b in
    let g = side_fault_lem s ws m.before t.lead n before w.lead a b in
    let h = side_fault_lem s ws m.after t.tail n after w.tail a b in
    rw (f, g, h) (three p (side_faults n y) (side_faults n z))
