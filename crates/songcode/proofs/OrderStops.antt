-- Lines out of place, keys and modifiers said twice: stated exactly where the answer complains of them.
use Prim.Native.Nat.{ℕ}
use mathlib.Core.Path.{◌≡◌, refl, ap, sym, subst, ◌∙◌}
use mathlib.Core.Logic.{◌↔◌, ◌⊎◌, inl, inr, ⊎_elim}
use mathlib.Core.List.Memᴰ
use mathlib.Core.List.{List, [], ◌∷◌, ◌++◌, append-nil, append_assoc, Memᴰ}
use mathlib.Core.Bool.{true, false, not}
use mathlib.Core.Option.{Option, none, some}
use lib.Dec.{eqb}
use borrow.Author.Tests.{eqb-true, eq-eqb}
use Rattle.songcode.specs.Lists.{provided◌then◌else◌, left, is_empty, any, prepend}
use Rattle.songcode.specs.Answer.Lines.{Line}
use Rattle.songcode.specs.Complaints.{Complaint, complaint}
use Rattle.songcode.specs.Answer.Sections.{Kind, key_line, modifier_line, pattern_line, kind_of_line, is_pattern_line, not_key_line, twice_by}
use Rattle.songcode.specs.Answer.Sections.{twice, past_run, misplaced, order}
use Rattle.songcode.specs.Description.StoppedText.{IsKey, IsPattern, Past, PlaceStops, key_after, modifier_before, pattern_past}
use Rattle.songcode.proofs.ListLaws.{by_cases, true_is_not_false}
use Rattle.songcode.proofs.ChoiceLaws.{zero_is_not_one}
use Rattle.songcode.proofs.MemberLaws.{either, any_found, found_any, in_complaint, complaint_in}
use Rattle.songcode.proofs.LineAgree.{by_kind}
use Rattle.songcode.proofs.StandLaws.{pattern_passes, key_stops, modifier_stops, key_passes, modifier_passes, other_passes, past_from, past_before}
use Rattle.songcode.proofs.LineStops.{key_exact, modifier_exact, pattern_exact}

-- What the tests say of a line.
pub pattern_test : (l : Line) → (is_pattern_line l ≡ true) ↔ IsPattern l
pattern_test l = (
  (λ e. by_kind (kind_of_line l) (λ k. true_is_not_false e (key_stops l k)) (λ k. true_is_not_false e (modifier_stops l k)) (λ k. (pattern_exact l).1 k)),
  (λ i. pattern_passes l ((pattern_exact l).0 i)),
)

no_pattern : (l : Line) → (IsPattern l → ⊥) → is_pattern_line l ≡ false
no_pattern l n = by_cases (is_pattern_line l) (λ t. absurd (n ((pattern_test l).0 t))) (λ f. f)

other_test : (l : Line) → (not_key_line l ≡ true) ↔ (IsKey l → ⊥)
other_test l = (
  (λ e k. true_is_not_false e (key_passes l ((key_exact l).0 k))),
  (λ n. by_kind (kind_of_line l) (λ k. absurd (n ((key_exact l).1 k))) (λ k. modifier_passes l k) (λ k. other_passes l k)),
)

-- The first run has ended: some line behind it is no pattern line.
ends_run : (ls : List Line) → is_empty (left is_pattern_line ls) ≡ false → (q : Line) × Memᴰ q ls × (is_pattern_line q ≡ false)
unfolding left provided◌then◌else◌ is_empty
ends_run [] e = true_is_not_false refl e
ends_run (l ∷ ls) e =
    by_cases (is_pattern_line l) (λ t. let r = ends_run ls (rw t at e) in (r.0, Memᴰ.tail r.1, r.2)) (λ f. (l, Memᴰ.head refl, f))

run_ends : {q : Line} {ls : List Line} → Memᴰ q ls → is_pattern_line q ≡ false → is_empty (left is_pattern_line ls) ≡ false
unfolding left provided◌then◌else◌ is_empty
run_ends {ls = []} m f = elim m [ ]
run_ends {ls = l ∷ ls} (Memᴰ.head e) f = rw (sym (ap is_pattern_line e) ∙ f)
run_ends {ls = l ∷ ls} (Memᴰ.tail m) f = by_cases (is_pattern_line l) (λ t. rw t (run_ends m f)) (λ g. rw g)

past_other : (ls : List Line) → Past ls → (q : Line) × Memᴰ q ls × (IsPattern q → ⊥)
unfolding Past
past_other [] h = absurd h
past_other (p ∷ ls) h =
    ⊎_elim (λ a. (a.1.0, Memᴰ.tail a.1.1, a.1.2)) (λ a. let r = past_other ls a in (r.0, Memᴰ.tail r.1, r.2)) h

past_stated : (ls : List Line) → is_empty (past_run ls) ≡ false → Past ls
unfolding past_run left is_empty Past
past_stated [] e = true_is_not_false refl e
past_stated (l ∷ ls) e =
    by_cases
    (is_pattern_line l)
    (λ t.
    let r = ends_run ls (sym (ap is_empty (past_from l ls t)) ∙ e) in
    inl ((pattern_test l).0 t, (r.0, r.1, λ i. true_is_not_false ((pattern_test r.0).1 i) r.2)))
    (λ f. inr (past_stated ls (sym (ap is_empty (past_before l ls f)) ∙ e)))

stated_past : (ls : List Line) → Past ls → is_empty (past_run ls) ≡ false
unfolding Past
stated_past [] h = absurd h
stated_past (l ∷ ls) h =
    by_cases
    (is_pattern_line l)
    (λ t. ap is_empty (past_from l ls t)
    ∙ ⊎_elim (λ a. run_ends a.1.1 (no_pattern a.1.0 a.1.2)) (λ a. let q = past_other ls a in run_ends q.1 (no_pattern q.0 q.2)) h)
    (λ f. ap is_empty (past_before l ls f) ∙ ⊎_elim (λ a. true_is_not_false ((pattern_test l).1 a.0) f) (λ a. stated_past ls a) h)

module _ (l : Line) (before : List Line) where
  in_place : (k : Kind) → kind_of_line l ≡ k → {c : Complaint} → Memᴰ c (misplaced k before l) → PlaceStops before l c
  unfolding misplaced
  in_place key_line e m =
      let h = in_complaint (any not_key_line before) 4 l.number m in
      let r = any_found not_key_line before h.0 in
      subst (λ x. PlaceStops before l x) (sym h.1) (key_after r.0 ((key_exact l).1 e) r.1 ((other_test r.0).0 r.2))
  in_place modifier_line e m =
      let h = in_complaint (not (any is_pattern_line before)) 8 l.number m in
      subst (λ x. PlaceStops before l x) (sym h.1)
      (modifier_before ((modifier_exact l).1 e) (λ x i p. true_is_not_false h.0 (ap not (found_any is_pattern_line i ((pattern_test x).1 p)))))
  in_place pattern_line e m =
      let h = in_complaint (not (is_empty (past_run before))) 8 l.number m in
      let past = by_cases (is_empty (past_run before)) (λ t. true_is_not_false h.0 (ap not t)) (λ f. f) in
      subst (λ x. PlaceStops before l x) (sym h.1) (pattern_past ((pattern_exact l).1 e) (past_stated before past))

  place_in : {c : Complaint} → PlaceStops before l c → Memᴰ c (misplaced (kind_of_line l) before l)
  unfolding misplaced
  place_in (key_after e s m n) = rw ((key_exact l).0 s) (complaint_in 4 l.number (found_any not_key_line m ((other_test e).1 n)))
  place_in (modifier_before s h) =
      rw ((modifier_exact l).0 s)
      (complaint_in 8 l.number
      (by_cases (any is_pattern_line before)
      (λ t. let r = any_found is_pattern_line before t in absurd (h r.0 r.1 ((pattern_test r.0).0 r.2)))
      (λ f. ap not f)))
  place_in (pattern_past s h) = rw ((pattern_exact l).0 s) (complaint_in 8 l.number (ap not (stated_past before h)))

-- A line among others, of which something is stated behind those before it.
pub record Among (ls : List Line) (P : List Line → Line → Type 0) : Type 0 where
  pub before : List Line
  pub line : Line
  pub behind : List Line
  pub written : ls ≡ before ++ (line ∷ behind)
  pub holds : P before line

order_in : (before ls : List Line) {c : Complaint} → Memᴰ c (order before ls) → Among ls (λ xs l. PlaceStops (before ++ xs) l c)
unfolding order
order_in before [] m = absurd (Memᴰ.not-nil m)
order_in before (l ∷ ls) {c} m =
    either (misplaced (kind_of_line l) before l)
    (λ i. record {
      before = [];
      line = l;
      behind = ls;
      written = refl;
      holds = subst (λ x. PlaceStops x l c) (sym (append-nil before)) (in_place l before (kind_of_line l) refl i);
    })
    (λ i.
    let r = order_in (before ++ (l ∷ [])) ls i in
    record {
      before = l ∷ r.before;
      line = r.line;
      behind = r.behind;
      written = ap (λ x. l ∷ x) r.written;
      holds = subst (λ x. PlaceStops x r.line c) (append_assoc before (l ∷ []) r.before) r.holds;
    })
    m

in_order : (before xs : List Line) (l : Line) (ys : List Line) {c : Complaint} → PlaceStops (before ++ xs) l c → Memᴰ c (order before (xs ++ (l ∷ ys)))
unfolding order
in_order before [] l ys {c} h = Memᴰ.append_left _ (place_in l before (subst (λ x. PlaceStops x l c) (append-nil before) h))
in_order before (x ∷ xs) l ys {c} h =
    Memᴰ.append_right (misplaced (kind_of_line x) before x)
    (in_order (before ++ (x ∷ [])) xs l ys (subst (λ z. PlaceStops z l c) (sym (append_assoc before (x ∷ []) xs)) h))

pub order_stated : (ls : List Line) {c : Complaint} → Memᴰ c (order [] ls) → Among ls (λ xs l. PlaceStops xs l c)
order_stated ls m = order_in [] ls m

pub stated_order : (before : List Line) (l : Line) (behind : List Line) {c : Complaint} → PlaceStops before l c
    → Memᴰ c (order [] (before ++ (l ∷ behind)))
stated_order before l rest h = in_order [] before l rest h

-- What is said a second time.
any_member : (k : ℕ) (seen : List ℕ) → any (λ x. eqb x k) seen ≡ true → Memᴰ k seen
unfolding any
any_member k [] e = zero_is_not_one (cc)
any_member k (x ∷ seen) e =
    by_cases (eqb x k) (λ t. Memᴰ.head (sym (eqb-true x k t))) (λ f. Memᴰ.tail (any_member k seen (rw f at e)))

member_any : (k : ℕ) {seen : List ℕ} → Memᴰ k seen → any (λ x. eqb x k) seen ≡ true
unfolding any
member_any k {seen = []} m = elim m [ ]
member_any k {seen = x ∷ seen} (Memᴰ.head e) = rw (eq-eqb x k (sym e))
member_any k {seen = x ∷ seen} (Memᴰ.tail m) = by_cases (eqb x k) (λ t. rw t) (λ f. rw (f, member_any k m))

module _ (number : ℕ) (said : Line → Option ℕ) where
  -- A line says what a number in `seen`, or an earlier line, has said.
  pub record Again (seen : List ℕ) (before : List Line) (l : Line) (c : Complaint) : Type 0 where
    pub what : ℕ
    pub says : said l ≡ some what
    pub earlier : Memᴰ what seen ⊎ ((e : Line) × Memᴰ e before × (said e ≡ some what))
    pub complained : c ≡ complaint number l.number

  again_by : (o : Option ℕ) (seen : List ℕ) (l : Line) → said l ≡ o → {c : Complaint} → Memᴰ c (twice_by number o seen l) → Again seen [] l c
  unfolding twice_by
  again_by none seen l e m = absurd (Memᴰ.not-nil m)
  again_by (some k) seen l e m =
      let h = in_complaint (any (λ x. eqb x k) seen) number l.number m in
      record { what = k; says = e; earlier = inl (any_member k seen h.0); complained = h.1 }

  seen_more : (o : Option ℕ) (k : ℕ) (seen : List ℕ) (l : Line) → said l ≡ o → Memᴰ k (prepend o seen) → Memᴰ k seen ⊎ (said l ≡ some k)
  unfolding prepend
  seen_more none k seen l e m = inl m
  seen_more (some j) k seen l e m = ⊎_elim (λ p. inr (e ∙ ap (λ x. some x) (sym p))) (λ i. inl i) (Memᴰ.cases_cons m)

  more_seen : (o : Option ℕ) (k : ℕ) (seen : List ℕ) → Memᴰ k seen → Memᴰ k (prepend o seen)
  unfolding prepend
  more_seen none k seen m = m
  more_seen (some j) k seen m = Memᴰ.tail m

  pub twice_in : (seen : List ℕ) (ls : List Line) {c : Complaint} → Memᴰ c (twice number said seen ls) → Among ls (λ xs l. Again seen xs l c)
  unfolding twice
  twice_in seen [] m = absurd (Memᴰ.not-nil m)
  twice_in seen (l ∷ ls) {c} m =
      either (twice_by number (said l) seen l)
      (λ i. record { before = []; line = l; behind = ls; written = refl; holds = again_by (said l) seen l refl i })
      (λ i.
      let r = twice_in (prepend (said l) seen) ls i in
      let h = r.holds in
      record {
        before = l ∷ r.before;
        line = r.line;
        behind = r.behind;
        written = ap (λ x. l ∷ x) r.written;
        holds = record {
          what = h.what;
          says = h.says;
          earlier =
              ⊎_elim
              (λ j. ⊎_elim (λ q. inl q) (λ q. inr (l, Memᴰ.head refl, q)) (seen_more (said l) h.what seen l refl j))
              (λ j. inr (j.0, Memᴰ.tail j.1, j.2))
              h.earlier;
          complained = h.complained;
        };
      })
      m

  pub in_twice : (seen : List ℕ) (xs : List Line) (l : Line) (ys : List Line) {c : Complaint} → Again seen xs l c
      → Memᴰ c (twice number said seen (xs ++ (l ∷ ys)))
  unfolding twice twice_by prepend
  in_twice seen [] l ys {c} h =
      let m = ⊎_elim (λ i. i) (λ i. absurd (Memᴰ.not-nil i.1)) h.earlier in
      Memᴰ.append_left {s = twice_by number (said l) seen l} _ (rw (h.says, h.complained) (complaint_in number l.number (member_any h.what m)))
  in_twice seen (x ∷ xs) l ys {c} h =
      Memᴰ.append_right (twice_by number (said x) seen x)
      (in_twice (prepend (said x) seen) xs l ys
      (record {
        what = h.what;
        says = h.says;
        earlier =
            ⊎_elim
            (λ i. inl (more_seen (said x) h.what seen i))
            (λ (i : (e : Line) × Memᴰ e (x ∷ xs) × (said e ≡ some h.what)).
            ⊎_elim
            (λ p. let q : said x ≡ some h.what = ap said (sym p) ∙ i.2 in inl (rw q (Memᴰ.head refl)))
            (λ m. inr (i.0, m, i.2))
            (Memᴰ.cases_cons i.1))
            h.earlier;
        complained = h.complained;
      }))
