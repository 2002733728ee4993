-- Where stage 2 states 7 the text of a definition, a section, or a lead-in or tail begins on that line, and is not right.
use Prim.Native.Nat.{ℕ}
use mathlib.Core.Path.{◌≡◌, refl, sym, ap, subst, ◌∙◌}
use mathlib.Core.List.{List, [], ◌∷◌, Memᴰ}
use mathlib.Core.Logic.{⊎_elim}
use native.Mathlib.Omega.{arith}
use Rattle.songcode.specs.Bytes.{Byte}
use Rattle.songcode.specs.Complaints.{Complaint, complaint}
use Rattle.songcode.specs.Answer.Lines.{Line, Block}
use Rattle.songcode.specs.Song.{Items, KeyName}
use Rattle.songcode.specs.Answer.Sections.{setting_of, pattern_run}
use Rattle.songcode.specs.Answer.Modifiers.{ModifierName}
use Rattle.songcode.specs.Answer.PatternText.{section_text, definition_text}
use Rattle.songcode.specs.Answer.Tokens.{tokens_of}
use Rattle.songcode.specs.Answer.Answer.{blocks_of}
use Rattle.songcode.specs.Description.WrittenPattern.{WrittenSide}
use Rattle.songcode.specs.Description.StoppedText.{KeyStops, key_unknown, key_not_allowed, key_setting, KeyDoubled, key_twice, CallsModifier, ModifierStops}
use Rattle.songcode.specs.Description.StoppedText.{modifier_unknown, repeat_setting, cut_start_setting, cut_end_setting, lead_in_text, tail_text}
use Rattle.songcode.specs.Description.StoppedText.{ModifierDoubled, modifier_twice, PlaceStops, key_after, modifier_before, pattern_past, AllPattern, Split}
use Rattle.songcode.specs.Description.StoppedText.{SectionStops, name_wrong, out_of_place, key_doubled, modifier_doubled, key_stops, modifier_stops}
use Rattle.songcode.specs.Description.StoppedText.{pattern_text_lem, no_pattern, no_lyrics, MetadataStops, of_key, of_keys_lem, no_key}
use Rattle.songcode.specs.Description.StoppedText.{DefinitionStops, head_malformed, head_twice, head_27th, definition_text_lem, OfKind, no_more, this_one}
use Rattle.songcode.specs.Description.StoppedText.{another}
use Rattle.songcode.specs.Description.StoppedText.{IsDefinition, IsSection}
use Rattle.songcode.specs.Description.StoppedText.{TextStops, kind_late, in_metadata_lem, in_definition_lem, in_section, Stops2, stated, no_section_lem}
use Rattle.songcode.proofs.ChoiceLaws.{is_some_exact}
use Rattle.songcode.proofs.PatternAgree.{definition_exact, pattern_exact as text_exact}
use Rattle.songcode.proofs.LineStops.{modifier_exact, pattern_exact, worded_once}
use Rattle.songcode.proofs.SectionStops.{split_once, run_once}
use Rattle.songcode.proofs.TextStops.{definition_kind, section_kind, kind_member}
use Rattle.slips.specs.declared.patterns.Whose.TheVariants.{Definition, Section, Side}
use Rattle.slips.specs.Rules.{Right, text_tokens}
use Rattle.slips.specs.Finds.{of_definition, of_pattern_lem, of_side}
use Rattle.slips.specs.WrongText.{WrongText}
use Rattle.slips.proofs.SideLaws.{side_written}

-- A block of a kind is a block.
of_kind : {kind : Block → Type 0} {bs cs : List Block} {b : Block} → OfKind kind bs cs → Memᴰ b cs → Memᴰ b bs
of_kind no_more m = m
of_kind (this_one k h) m = ⊎_elim (λ e. mathlib.Core.List.Memᴰ.head e) (λ i. mathlib.Core.List.Memᴰ.tail (of_kind h i)) (mathlib.Core.List.Memᴰ.cases_cons m)
of_kind (another n h) m = mathlib.Core.List.Memᴰ.tail (of_kind h m)

-- 7 and no other number.
abbrev No7 : Complaint → Type 0
No7 c = c.number ≡ 7 → ⊥

no_key_stops : {allowed : KeyName → Type 0} {l : Line} {c : Complaint} → KeyStops allowed l c → No7 c
no_key_stops (key_unknown s h) e = omega arith
no_key_stops (key_not_allowed k t w h) e = omega arith
no_key_stops (key_setting k t w h) e = omega arith

no_key_doubled : {before : List Line} {l : Line} {c : Complaint} → KeyDoubled before l c → No7 c
no_key_doubled (key_twice k o t d m w v) e = omega arith

no_modifier_doubled : {before : List Line} {l : Line} {c : Complaint} → ModifierDoubled before l c → No7 c
no_modifier_doubled (modifier_twice k o t d m w v) e = omega arith

no_place : {before : List Line} {l : Line} {c : Complaint} → PlaceStops before l c → No7 c
no_place (key_after d s m n) e = omega arith
no_place (modifier_before s h) e = omega arith
no_place (pattern_past s h) e = omega arith

no_metadata : {before : List Line} {l : Line} {c : Complaint} → MetadataStops before l c → No7 c
no_metadata (of_key h) e = no_key_stops h e
no_metadata (of_keys_lem h) e = no_key_doubled h e
no_metadata (no_key n) e = omega arith

module _ (s : List ℕ) (line : ℕ) (b : Block) (listed : Memᴰ b (blocks_of s)) where
  text_of_definition : IsDefinition b → {before : List Block} {c : Complaint} → DefinitionStops before b c → c.number ≡ 7 → c.line ≡ line → WrongText s line
  unfolding Right text_tokens definition_text
  text_of_definition k (head_malformed n) e f = let z : ⊥ = omega arith in absurd z
  text_of_definition k (head_twice n d m w v) e f = let z : ⊥ = omega arith in absurd z
  text_of_definition k (head_27th n) e f = let z : ⊥ = omega arith in absurd z
  text_of_definition k (definition_text_lem l ls o n) e f =
      let held : Memᴰ l b.others = subst (λ (ms : List Line). Memᴰ l ms) (sym o) (mathlib.Core.List.Memᴰ.head refl) in
      record {
        whose = Definition;
        lines = l ∷ ls;
        named = of_definition (record { listed = listed; held = held; number = f }) ((definition_kind b).0 k) o;
        wrong = λ r. let x = (is_some_exact (definition_text l ls) (definition_exact l ls)).0 r in n x.0 x.1;
      }

  module _ (k : IsSection b) where
    abbrev Held : Line → Type 0
    Held l = Memᴰ l b.others

    in_body_lem : {x y : List Line} → Split b x y → (l : Line) → Memᴰ l x → Held l
    in_body_lem {y = y} w l m = subst (λ (ms : List Line). Memᴰ l ms) (sym w.written) (mathlib.Core.List.Memᴰ.append_left y m)

    text_of_side : (l : Line) → Held l → l.number ≡ line → {m : ModifierName} {setting : List Byte} → CallsModifier l m setting
        → ((r : Items) → WrittenSide setting r → ⊥) → WrongText s line
    unfolding text_tokens tokens_of
    text_of_side l held f {setting = setting} w n =
        record {
          whose = Side;
          lines = record { number = l.number; text = setting_of l } ∷ [];
          named = of_side (record { listed = listed; held = held; number = f }) ((section_kind b).0 k) ((modifier_exact l).0 w.sign);
          wrong = λ r. let x = side_written (setting_of l) r in n x.0 (rw (← (worded_once w.worded).1) x.1);
        }

    text_of_modifier : (l : Line) → Held l → {c : Complaint} → ModifierStops l c → c.number ≡ 7 → c.line ≡ line → WrongText s line
    text_of_modifier l held (modifier_unknown t h) e f = let z : ⊥ = omega arith in absurd z
    text_of_modifier l held (repeat_setting t w h) e f = let z : ⊥ = omega arith in absurd z
    text_of_modifier l held (cut_start_setting t w h) e f = let z : ⊥ = omega arith in absurd z
    text_of_modifier l held (cut_end_setting t w h) e f = let z : ⊥ = omega arith in absurd z
    text_of_modifier l held (lead_in_text t w h) e f = text_of_side l held f w h
    text_of_modifier l held (tail_text t w h) e f = text_of_side l held f w h

    text_of_section : {c : Complaint} → SectionStops b c → c.number ≡ 7 → c.line ≡ line → WrongText s line
    unfolding Right text_tokens section_text AllPattern
    text_of_section (name_wrong n) e f = let z : ⊥ = omega arith in absurd z
    text_of_section (out_of_place x y before rest l w o h) e f = absurd (no_place h e)
    text_of_section (key_doubled x y before rest l w o h) e f = absurd (no_key_doubled h e)
    text_of_section (modifier_doubled x y before rest l w o h) e f = absurd (no_modifier_doubled h e)
    text_of_section (key_stops x y l w m h) e f = absurd (no_key_stops h e)
    text_of_section (modifier_stops x y l w m h) e f = text_of_modifier l (in_body_lem w l m) h e f
    text_of_section (pattern_text_lem x y run l w r n) e f =
        let there : Memᴰ l x =
        subst (λ (ms : List Line). Memᴰ l ms) (sym r.written) (mathlib.Core.List.Memᴰ.append_right r.front (mathlib.Core.List.Memᴰ.head refl)) in
        record {
          whose = Section;
          lines = l ∷ run;
          named =
              of_pattern_lem (record { listed = listed; held = in_body_lem w l there; number = f }) ((section_kind b).0 k) ((pattern_exact l).0 r.of_pattern.0)
              (ap pattern_run (split_once w).0 ∙ run_once r);
          wrong = λ q. let v = (is_some_exact (section_text l run) (text_exact l run)).0 q in n v.0 v.1;
        }
    text_of_section (no_pattern x y w n) e f = let z : ⊥ = omega arith in absurd z
    text_of_section (no_lyrics x d w) e f = let z : ⊥ = omega arith in absurd z

module _ (s : List ℕ) (line : ℕ) where
  of_text : {c : Complaint} → TextStops (blocks_of s) c → c.number ≡ 7 → c.line ≡ line → WrongText s line
  of_text (kind_late before behind a b o m h) e f = let z : ⊥ = omega arith in absurd z
  of_text (in_metadata_lem ms before behind l k o h) e f = absurd (no_metadata h e)
  of_text (in_definition_lem ds before behind b k o h) e f =
      let there : Memᴰ b ds = subst (λ (xs : List Block). Memᴰ b xs) (sym o) (mathlib.Core.List.Memᴰ.append_right before (mathlib.Core.List.Memᴰ.head refl)) in
      text_of_definition s line b (of_kind k there) (kind_member k there) h e f
  of_text (in_section ss b k m h) e f = text_of_section s line b (of_kind k m) (kind_member k m) h e f

  of_stage : {c : Complaint} → Stops2 (blocks_of s) c → c.number ≡ 7 → c.line ≡ line → WrongText s line
  of_stage (stated h) e f = of_text h e f
  of_stage (no_section_lem k n) e f = let z : ⊥ = omega arith in absurd z

  pub wrong_text : Stops2 (blocks_of s) (complaint 7 line) → WrongText s line
  wrong_text h = of_stage h refl refl
