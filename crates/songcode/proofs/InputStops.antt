-- What stops a chart in stage 1 is stated exactly where the answer complains of it.
use Prim.Native.Nat.{ℕ}
use mathlib.Core.Path.{◌≡◌, refl, ap, sym, subst, ◌∙◌}
use mathlib.Core.Logic.{◌↔◌}
use mathlib.Core.List.{List, Memᴰ}
use lib.Dec.{ltb}
use lib.ListN.{length, take}
use lib.Seq.{take-append_seam}
use borrow.Author.Tests.{ltb-true, ltb-false, lt-ltb, le-ltb}
use Rattle.songcode.specs.Lists.{provided◌then◌else◌}
use Rattle.songcode.specs.Bytes.{placed}
use Rattle.songcode.specs.Answer.Characters.{good_bytes}
use Rattle.songcode.specs.Answer.Lines.{cut_lines}
use Rattle.songcode.specs.Complaints.{Complaint, complaint, complain_if}
use Rattle.songcode.specs.Answer.Answer.{most_bytes, line_of_place, input_faults}
use Rattle.songcode.specs.Description.WrittenText.{FirstBad}
use Rattle.songcode.specs.Description.StoppedSong.{Stops1, over_long, bad_bytes}
use Rattle.songcode.proofs.ListLaws.{by_cases}
use Rattle.songcode.proofs.MemberLaws.{only_one, in_complaint, complaint_in}
use Rattle.songcode.proofs.CharactersAgree.{first_bad}
use Rattle.songcode.proofs.CutsAgree.{pieces, cuts_complete, cuts_sound}

-- The text before the first bad place, and its lines.
front_taken : (bs : List ℕ) (place : ℕ) (w : FirstBad bs place) → take place bs ≡ w.front
front_taken bs place w = rw (← w.size, w.joins) (take-append_seam w.front w.rest)

line_counted : (bs : List ℕ) (place : ℕ) (w : FirstBad bs place) → length (pieces (cut_lines (placed 0 w.front))) ≡ line_of_place place bs
unfolding line_of_place pieces
line_counted bs place w = rw (front_taken bs place w)

input_stated : (bs : List ℕ) {c : Complaint} → Memᴰ c (input_faults bs) → Stops1 bs c
unfolding input_faults most_bytes provided◌then◌else◌
input_stated bs {c} m =
    by_cases (ltb 65536 (length bs))
    (λ t. let e : c ≡ complaint 1 0 = only_one (rw t at m) in subst (λ x. Stops1 bs x) (sym e) (over_long (ltb-true 65536 (length bs) t)))
    (λ f.
    let i : Memᴰ c (complain_if (ltb (good_bytes 0 bs) (length bs)) 2 (line_of_place (good_bytes 0 bs) bs)) = rw f at m in
    let h = in_complaint (ltb (good_bytes 0 bs) (length bs)) 2 (line_of_place (good_bytes 0 bs) bs) i in
    let w = (first_bad bs (good_bytes 0 bs)).0 refl in
    subst (λ x. Stops1 bs x) (sym (h.1 ∙ ap (λ n. complaint 2 n) (sym (line_counted bs (good_bytes 0 bs) w))))
    (bad_bytes (good_bytes 0 bs) w (pieces (cut_lines (placed 0 w.front))) (ltb-false 65536 (length bs) f) (ltb-true _ _ h.0)
    (cuts_sound (placed 0 w.front))))

stated_input : (bs : List ℕ) {c : Complaint} → Stops1 bs c → Memᴰ c (input_faults bs)
unfolding input_faults most_bytes provided◌then◌else◌
stated_input bs (over_long h) = rw (lt-ltb 65536 (length bs) h) (mathlib.Core.List.Memᴰ.head refl)
stated_input bs (bad_bytes place w lines h k cuts) =
    let at : good_bytes 0 bs ≡ place = (first_bad bs place).1 w in
    let line : length lines ≡ line_of_place place bs = sym (ap (λ x. length x) (cuts_complete cuts)) ∙ line_counted bs place w in
    rw (le-ltb 65536 (length bs) h, at, line) (complaint_in 2 (line_of_place place bs) (lt-ltb place (length bs) k))

pub input_stops_exact : (bs : List ℕ) {c : Complaint} → Memᴰ c (input_faults bs) ↔ Stops1 bs c
input_stops_exact bs = (input_stated bs, stated_input bs)
