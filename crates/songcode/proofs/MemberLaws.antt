-- What stands in a list of complaints: in one part or the other, in what some element gives, where a test passes.
use Prim.Native.Nat.{ℕ}
use mathlib.Core.Path.{◌≡◌, refl, ap, sym, subst, ◌∙◌}
use mathlib.Core.Logic.{◌⊎◌, inl, inr, ⊎_elim}
use mathlib.Core.List.{List, [], ◌∷◌, ◌++◌, flat_map, filter_map}
use mathlib.Core.List.Memᴰ
use mathlib.Core.List.{Memᴰ}
use mathlib.Core.List.{map}
use mathlib.Core.Bool.{Bool, true, false, ◌||◌}
use mathlib.Core.Option.{Option}
use Rattle.songcode.specs.Lists.{any, when}
use Rattle.songcode.specs.Complaints.{Complaint, complaint, complain_if}
use Rattle.songcode.proofs.ListLaws.{by_cases, true_is_not_false}

module _ {A : Type 0} where
  -- Some element, with what stands before and behind it.
  pub record Found (x : A) (xs : List A) : Type 0 where
    pub before : List A
    pub behind : List A
    pub written : xs ≡ before ++ (x ∷ behind)

  pub found : {x : A} {xs : List A} → Memᴰ x xs → Found x xs
  found {xs = []} m = elim m [ ]
  found {xs = y ∷ ys} (Memᴰ.head e) = record { before = []; behind = ys; written = ap (λ z. z ∷ ys) (sym e) }
  found {xs = y ∷ ys} (Memᴰ.tail m) =
      let f = found m in
      record { before = y ∷ f.before; behind = f.behind; written = ap (λ z. y ∷ z) f.written }

  pub either : {X : Type 0} {c : A} (xs : List A) {ys : List A} → (Memᴰ c xs → X) → (Memᴰ c ys → X) → Memᴰ c (xs ++ ys) → X
  either xs f g m = ⊎_elim f g (Memᴰ.append_cases xs m)

  pub only_one : {c x : A} → Memᴰ c (x ∷ []) → c ≡ x
  only_one m = ⊎_elim (λ e. e) (λ i. absurd (Memᴰ.not-nil i)) (Memᴰ.cases_cons m)

module _ {A B : Type 0} where
  pub in_gather : (f : A → List B) (xs : List A) {c : B} → Memᴰ c (flat_map f xs) → (x : A) × Memᴰ x xs × Memᴰ c (f x)
  unfolding flat_map
  in_gather f [] m = absurd (Memᴰ.not-nil m)
  in_gather f (x ∷ xs) m =
      either (f x)
      (λ i. (x, Memᴰ.head refl, i))
      (λ i. let g = in_gather f xs i in (g.0, Memᴰ.tail g.1, g.2))
      m

  pub gather_in : (f : A → List B) {x : A} {xs : List A} {c : B} → Memᴰ x xs → Memᴰ c (f x) → Memᴰ c (flat_map f xs)
  unfolding flat_map
  gather_in f {xs = []} i m = elim i [ ]
  gather_in f {xs = y ∷ ys} {c = c} (Memᴰ.head e) m = Memᴰ.append_left (flat_map f ys) (subst (λ z. Memᴰ c (f z)) e m)
  gather_in f {xs = y ∷ ys} (Memᴰ.tail i) m = Memᴰ.append_right (f y) (gather_in f i m)

-- What gives the same of every element gives the same of the list.
module _ {A B : Type 0} where
  pub gather_alike : {f g : A → List B} (xs : List A) → ((x : A) → Memᴰ x xs → f x ≡ g x) → flat_map f xs ≡ flat_map g xs
  unfolding flat_map
  gather_alike [] h = refl
  gather_alike (x ∷ xs) h = rw (h x (Memᴰ.head refl), gather_alike xs (λ y i. h y (Memᴰ.tail i)))

  pub collect_alike : {f g : A → Option B} (xs : List A) → ((x : A) → Memᴰ x xs → f x ≡ g x) → filter_map f xs ≡ filter_map g xs
  unfolding filter_map
  collect_alike [] h = refl
  collect_alike (x ∷ xs) h = rw (h x (Memᴰ.head refl), collect_alike xs (λ y i. h y (Memᴰ.tail i)))

  pub map_alike : {f g : A → B} (xs : List A) → ((x : A) → Memᴰ x xs → f x ≡ g x) → map f xs ≡ map g xs
  unfolding map
  map_alike [] h = refl
  map_alike (x ∷ xs) h = rw (h x (Memᴰ.head refl), map_alike xs (λ y i. h y (Memᴰ.tail i)))

-- One of two tests passes.
pub either_passes : (a b : Bool) → a || b ≡ true → (a ≡ true) ⊎ (b ≡ true)
either_passes true b e = inl refl
either_passes false b e = inr e

pub pass_left : {a : Bool} (b : Bool) → a ≡ true → a || b ≡ true
pass_left b e = rw e

pub pass_right : (a : Bool) {b : Bool} → b ≡ true → a || b ≡ true
pass_right true e = refl
pass_right false e = e

-- Complained of exactly where the test passes.
-- Some element passes.
pub any_found : {A : Type 0} (p : A → Bool) (xs : List A) → any p xs ≡ true → (x : A) × Memᴰ x xs × (p x ≡ true)
unfolding any
any_found p [] e = true_is_not_false e refl
any_found p (x ∷ xs) e =
    by_cases (p x) (λ t. (x, Memᴰ.head refl, t)) (λ f. let r = any_found p xs (rw f at e) in (r.0, Memᴰ.tail r.1, r.2))

pub found_any : {A : Type 0} (p : A → Bool) {x : A} {xs : List A} → Memᴰ x xs → p x ≡ true → any p xs ≡ true
unfolding any
found_any p {xs = []} m t = elim m [ ]
found_any p {xs = y ∷ xs} (Memᴰ.head e) t = rw (sym (ap p e) ∙ t)
found_any p {xs = y ∷ xs} (Memᴰ.tail m) t = by_cases (p y) (λ u. rw u) (λ f. rw (f, found_any p m t))

pub in_complaint : (b : Bool) (number line : ℕ) {c : Complaint} → Memᴰ c (complain_if b number line) → (b ≡ true) × (c ≡ complaint number line)
unfolding complain_if when
in_complaint true number line m = (refl, only_one m)
in_complaint false number line m = absurd (Memᴰ.not-nil m)

pub complaint_in : {b : Bool} (number line : ℕ) → b ≡ true → Memᴰ (complaint number line) (complain_if b number line)
unfolding complain_if when
complaint_in number line e = rw e (Memᴰ.head refl)
