-- For which families windows stand that are begun, noted in and merged.
use Rattle.std.proofs.Common.{
  ◌≡◌,
  ℕ,
  ◌+◌,
  ◌-◌,
  ◌%◌,
  ◌<◌,
  ◌≤◌,
  false,
  ltb,
  eqb,
  ◌||◌,
  ◌&&◌,
  not,
  List,
  ◌++◌,
  length,
  get_or,
  min,
  ℤ,
  pos,
  arith,
  sym,
  ap,
  ◌∙◌,
  subst,
  inl,
  inr,
  refl,
}
use Rattle.std.specs.Prelude.{◌+ℤ◌, ◌-ℤ◌, ◌<ℤ◌}
use Rattle.std.proofs.Math.Bool.{or-false}
use Rattle.std.proofs.lemmas.Int.{ints}
use Rattle.std.proofs.lemmas.Bool.{cases_eq, cases_lt, eq-eqb, ne_eqb, lt-ltb, le-ltb, cond-true, cond-false}
use Rattle.std.proofs.lemmas.List.{
  get_or-set_same,
  get_or-set_other,
  length-set,
  length-take,
  length-append,
  length-replicate,
  get_or-take,
  get_or_append_left,
  get_or-append_right,
  get_or-replicate,
  ext_get_or,
}
use Rattle.std.proofs.lemmas.Simd.{get_or-zip2, length-zip2}
use Rattle.std.specs.Ordering.{on}
use Rattle.std.specs.Cmp.Lexicographic.{pointwise, pointwise_decides}
use Rattle.std.specs.Bool.{Decides}
use Rattle.std.proofs.lemmas.Bool.Decides.{Decides-eqb, Decides-like, Decides-and}
use lib.Lanes.{zip2}
use Rattle.sr_sequence.specs.declared.Distance.{Distance}
use Rattle.sr_sequence.specs.declared.Distance.TheVariants.{Behind, Ahead}
use Rattle.sr_sequence.specs.Numbers.{wire, IsNear}
use Rattle.sr_sequence.specs.NumberLemmas.{wire-lt, behind_is, ahead_is}
use Rattle.sr_sequence.specs.Places.{place_of, steps, IsTheOne}
use Rattle.sr_dup_window.specs.declared.lane_sets.Lane.{Lane}
use Rattle.sr_dup_window.specs.declared.lane_sets.Lanes.{Lanes}
use Rattle.sr_dup_window.specs.LaneSets.{has, none, union, is_empty}
use Rattle.sr_dup_window.specs.LaneLemmas.{has-lanes_where, lanes_where-same}
use Rattle.sr_dup_window.specs.Bins.{IsWidth}
use Rattle.sr_dup_window.specs.Windows.{
  Window,
  no_marks,
  marks_with,
  marks_slid,
  window_begun,
  window_noted,
  noted_at,
  window_merged,
  merged_at,
  lanes_of,
  lanes_behind,
  has_of,
  fresh_lanes,
  same_window,
}
use Rattle.sr_dup_window.specs.Families.{
  Family,
  IsGreatest,
  lanes_with,
  lacking,
  singleton,
  join,
  greater,
  IsClose,
  SameCut,
  StandsFor,
  Begins,
  NotesAs,
  Merges,
}
use Rattle.sr_dup_window.specs.FamilyLemmas.{
  int_eq-back,
  greater_same,
  greater_more,
  lacks_above,
  join_greatest,
  singleton_greatest,
  same_greatest,
}

pub width-some : (w : ℕ) → IsWidth w → 0 < w
width-some w (inl e) = omega arith
width-some w (inr e) = omega arith

pub width-most : (w : ℕ) → IsWidth w → w ≤ 2048
width-most w (inl e) = omega arith
width-most w (inr e) = omega arith

-- where a number near the greatest one lies, and that it is the number at that distance
data Lies (w reference seq : ℕ) (m n : ℤ) : Type 0 where
  behind : (k : ℕ) → k < w → place_of reference seq w ≡ Behind k → n ≡ (m -ℤ pos k) → Lies w reference seq m n
  ahead : (a : ℕ) → m <ℤ n → place_of reference seq w ≡ Ahead a → n ≡ (m +ℤ pos a) → Lies w reference seq m n

lies : (w reference seq : ℕ) (m n : ℤ) → 0 < w → w ≤ 65536 → reference ≡ wire m → IsNear w m n → wire n ≡ seq → Lies w reference seq m n
lies w reference seq m n some most ref near carried =
    let small : seq < 65536 = omega (arith, wire-lt n) in
    elim (cases_lt (steps seq reference) w) [
      | inl less ↦
          let one : IsTheOne w m seq (m -ℤ pos (steps seq reference)) = behind_is w m reference seq some most small less (sym ref) in
          behind (steps seq reference) less
          (cond-true (ltb (steps seq reference) w) (Behind (steps seq reference)) (Ahead (steps reference seq))
          (lt-ltb (steps seq reference) w less)) (one.alone n near carried)
      | inr more ↦
          let one : IsTheOne w m seq (m +ℤ pos (steps reference seq)) = ahead_is w m reference seq some most small more (sym ref) in
          let e : n ≡ (m +ℤ pos (steps reference seq)) = one.alone n near carried in
          let moved : 0 < steps reference seq = step_up reference seq w (omega (arith, wire-lt m)) small some more in
          ahead (steps reference seq) (omega (arith, ints))
          (cond-false (ltb (steps seq reference) w) (Behind (steps seq reference)) (Ahead (steps reference seq))
          (le-ltb (steps seq reference) w more)) e
    ]
  where
    step_up : (r s w : ℕ) → r < 65536 → s < 65536 → 0 < w → w ≤ (r + (65536 - s)) % 65536 → 0 < (s + (65536 - r)) % 65536
    step_up r s w h g i j = omega arith

-- numbers that are noted on no lane
pub length-no_marks : (count : ℕ) → length (no_marks count) ≡ count
unfolding no_marks
length-no_marks count = length-replicate count none

pub get_or-no_marks : (count k : ℕ) → k < count → get_or (no_marks count) k none ≡ none
unfolding no_marks
get_or-no_marks count k h = get_or-replicate count k none none h

-- marks that show a family up to a number, and what more lanes at one place show
marked_shows : (w : ℕ) (marks : List Lanes) (f : Family) (t : ℤ) (k : ℕ) (lanes : Lanes) → length marks ≡ w → k < w →
    ((j : ℕ) → j < w → get_or marks j none ≡ lanes_with f (t -ℤ pos j)) → (j : ℕ) → j < w →
    get_or (marks_with marks k lanes) j none ≡ lanes_with (join f (singleton lanes (t -ℤ pos k))) (t -ℤ pos j)
marked_shows w marks f t k lanes count inside shows = λ j h.
    let both : Family = join f (singleton lanes (t -ℤ pos k)) in
    elim (cases_eq j k) [
      | inl e ↦ ap (λ i. get_or (marks_with marks k lanes) i none) e
          ∙ get_or-set_same marks k (union (get_or marks k none) lanes) none (omega (arith, count))
          ∙ ap (λ x. union x lanes) (shows k inside)
          ∙ lanes_where-same (λ lane. has (lanes_with f (t -ℤ pos k)) lane || has lanes lane) (λ lane. both lane (t -ℤ pos k))
          (λ lane. ap (λ x. x || has lanes lane) (has-lanes_where (λ l. f l (t -ℤ pos k)) lane) ∙ ap
          (λ x. f lane (t -ℤ pos k) || (x && has lanes lane)) (sym (int_eq-back t k k ∙ eq-eqb k k refl)))
          ∙ ap (λ i. lanes_with both (t -ℤ pos i)) (sym e)
      | inr ne ↦ get_or-set_other marks k j (union (get_or marks k none) lanes) none ne
          ∙ shows j h
          ∙ lanes_where-same (λ lane. f lane (t -ℤ pos j)) (λ lane. both lane (t -ℤ pos j))
          (λ lane. sym (or-false (f lane (t -ℤ pos j))) ∙ ap (λ x. f lane (t -ℤ pos j) || (x && has lanes lane))
          (sym (int_eq-back t j k ∙ ne_eqb j k ne)))
    ]

pub length-slid : (w a : ℕ) (marks : List Lanes) → length marks ≡ w → length (marks_slid w a marks) ≡ w
length-slid w a marks count =
    length-take w (no_marks a ++ marks)
    ∙ ap (λ n. min w n) (length-append (no_marks a) marks ∙ ap (λ n. n + length marks) (length-no_marks a) ∙ ap (λ n. a + n) count)
    ∙ omega arith

-- the places of marks that slide on: the new ones are noted on no lane
pub slid-new : (w a : ℕ) (marks : List Lanes) (j : ℕ) → j < w → j < a → get_or (marks_slid w a marks) j none ≡ none
slid-new w a marks j h less =
    get_or-take w (no_marks a ++ marks) j none h ∙ get_or_append_left (no_marks a) marks none j (omega (arith, length-no_marks a)) ∙
    get_or-no_marks a j less

pub slid-old : (w a : ℕ) (marks : List Lanes) (j : ℕ) → j < w → a ≤ j → get_or (marks_slid w a marks) j none ≡ get_or marks (j - a) none
slid-old w a marks j h more = get_or-take w (no_marks a ++ marks) j none h ∙ get_or-append_right (no_marks a) marks a j none
    (length-no_marks a) more

-- marks that slide on show the family up to the later number
slid_shows : (w : ℕ) (marks : List Lanes) (f : Family) (m n : ℤ) (a : ℕ) → IsGreatest f m → n ≡ (m +ℤ pos a) →
    ((j : ℕ) → j < w → get_or marks j none ≡ lanes_with f (m -ℤ pos j)) → (j : ℕ) → j < w →
    get_or (marks_slid w a marks) j none ≡ lanes_with f (n -ℤ pos j)
slid_shows w marks f m n a top e shows = λ j h.
    elim (cases_lt j a) [
      | inl less ↦
          let above : m <ℤ (n -ℤ pos j) = omega (arith, ints) in
          slid-new w a marks j h less ∙ lanes_where-same (λ lane. false) (λ lane. f lane (n -ℤ pos j))
          (λ lane. sym (lacks_above f m (n -ℤ pos j) lane top above))
      | inr more ↦
          let same : (n -ℤ pos j) ≡ (m -ℤ pos (j - a)) = omega (arith, ints) in
          slid-old w a marks j h more ∙ shows (j - a) (omega arith) ∙ ap (lanes_with f) (sym same)
    ]

-- a window that stands for a family at a number stands for it at an equal one
stands_at : (w : ℕ) (r : Window) (f : Family) (t u : ℤ) → u ≡ t → StandsFor w r f t → StandsFor w r f u
stands_at w r f t u e s = let Q : ℤ → Type 0 = λ x. StandsFor w r f x in subst Q (sym e) s

-- one number, on some lanes
pub begun-stands : (w : ℕ) (lanes : Lanes) (n : ℤ) (seq : ℕ) → IsWidth w → is_empty lanes ≡ false → wire n ≡ seq →
    StandsFor w (window_begun w seq lanes) (singleton lanes n) n
begun-stands w lanes n seq width some carried =
    let here : (n -ℤ pos 0) ≡ n = omega (arith, ints) in
    let nothing : Family = λ lane x. false in
    record {
      top = singleton_greatest lanes n some;
      reference = sym carried;
      count = length-set (no_marks w) 0 (union (get_or (no_marks w) 0 none) lanes) ∙ length-no_marks w;
      shows = λ j h.
          marked_shows w (no_marks w) nothing n 0 lanes (length-no_marks w) (width-some w width) (get_or-no_marks w) j h
          ∙ ap (λ x. lanes_with (singleton lanes x) (n -ℤ pos j)) here;
    }

-- a number near the greatest one, noted on some lanes
pub noted-stands : (w : ℕ) (r : Window) (f : Family) (m n : ℤ) (seq : ℕ) (lanes : Lanes) → IsWidth w → is_empty lanes ≡ false →
    StandsFor w r f m → IsNear w m n → wire n ≡ seq → StandsFor w (window_noted w r seq lanes) (join f (singleton lanes n)) (greater m n)
noted-stands w r f m n seq lanes width some s near carried =
    let Q : Distance → Type 0 = λ d. StandsFor w (noted_at w r seq lanes d) (join f (singleton lanes n)) (greater m n) in
    elim (lies w r.reference seq m n (width-some w width) (omega (arith, width-most w width)) s.reference near carried) [
      | behind k inside place e ↦
          let same : greater m n ≡ m = greater_same m n (omega (arith, ints)) in
          let top : IsGreatest (join f (singleton lanes n)) (greater m n) = join_greatest f (singleton lanes n) m n s.top
          (singleton_greatest lanes n some) in
          let P : ℤ → Type 0 = λ x. IsGreatest (join f (singleton lanes n)) x in
          subst Q (sym place) (stands_at w (noted_at w r seq lanes (Behind k)) (join f (singleton lanes n)) m (greater m n) same (record {
            top = subst P same top;
            reference = s.reference;
            count = length-set r.marks k (union (get_or r.marks k none) lanes) ∙ s.count;
            shows = λ j h. marked_shows w r.marks f m k lanes s.count inside s.shows j h ∙ ap
                (λ x. lanes_with (join f (singleton lanes x)) (m -ℤ pos j)) (sym e);
          }))
      | ahead a later place e ↦
          let same : greater m n ≡ n = greater_more m n (omega (arith, ints)) in
          let here : (n -ℤ pos 0) ≡ n = omega (arith, ints) in
          let top : IsGreatest (join f (singleton lanes n)) (greater m n) = join_greatest f (singleton lanes n) m n s.top
          (singleton_greatest lanes n some) in
          let P : ℤ → Type 0 = λ x. IsGreatest (join f (singleton lanes n)) x in
          subst Q (sym place) (stands_at w (noted_at w r seq lanes (Ahead a)) (join f (singleton lanes n)) n (greater m n) same (record {
            top = subst P same top;
            reference = sym carried;
            count = length-set (marks_slid w a r.marks) 0 (union (get_or (marks_slid w a r.marks) 0 none) lanes) ∙ length-slid w a r.marks
                s.count;
            shows = λ j h.
                marked_shows w (marks_slid w a r.marks) f n 0 lanes (length-slid w a r.marks s.count) (width-some w width)
                (slid_shows w r.marks f m n a s.top e s.shows) j h
                ∙ ap (λ x. lanes_with (join f (singleton lanes x)) (n -ℤ pos j)) here;
          }))
    ]

-- the lanes of a number near the greatest one are those that the family has it on
pub lanes-by-family : (w : ℕ) (r : Window) (f : Family) (m n : ℤ) (seq : ℕ) → IsWidth w → StandsFor w r f m → IsNear w m n → wire n ≡ seq →
    lanes_of w r seq ≡ lanes_with f n
lanes-by-family w r f m n seq width s near carried =
    elim (lies w r.reference seq m n (width-some w width) (omega (arith, width-most w width)) s.reference near carried) [
      | behind k inside place e ↦ ap (lanes_behind r) place ∙ s.shows k inside ∙ ap (lanes_with f) (sym e)
      | ahead a later place e ↦ ap (lanes_behind r) place ∙ lanes_where-same (λ lane. false) (λ lane. f lane n)
          (λ lane. sym (lacks_above f m n lane s.top later))
    ]

pub has-by-family : (w : ℕ) (r : Window) (f : Family) (m n : ℤ) (seq : ℕ) (lane : Lane) → IsWidth w → StandsFor w r f m → IsNear w m n →
    wire n ≡ seq → has_of w r lane seq ≡ f lane n
has-by-family w r f m n seq lane width s near carried =
    ap (λ x. has x lane) (lanes-by-family w r f m n seq width s near carried) ∙ has-lanes_where (λ l. f l n) lane

-- the asked lanes on which a number is new are those that the family lacks it on
pub fresh-lanes-by-family : (w : ℕ) (r : Window) (f : Family) (m n : ℤ) (seq : ℕ) (lanes : Lanes) → IsWidth w → StandsFor w r f m →
    IsNear w m n → wire n ≡ seq → fresh_lanes w r seq lanes ≡ lacking lanes f n
fresh-lanes-by-family w r f m n seq lanes width s near carried =
    lanes_where-same (λ lane. has lanes lane && not (has_of w r lane seq)) (λ lane. has lanes lane && not (f lane n))
    (λ lane. ap (λ x. has lanes lane && not x) (has-by-family w r f m n seq lane width s near carried))

-- two windows together
zip2_shows : (w : ℕ) (a b : List Lanes) (f g : Family) (t : ℤ) → length a ≡ w → length b ≡ w →
    ((j : ℕ) → j < w → get_or a j none ≡ lanes_with f (t -ℤ pos j)) → ((j : ℕ) → j < w → get_or b j none ≡ lanes_with g (t -ℤ pos j)) →
    (j : ℕ) → j < w → get_or (zip2 union a b) j none ≡ lanes_with (join f g) (t -ℤ pos j)
zip2_shows w a b f g t many more shows others = λ j h.
    let x = t -ℤ pos j in
    get_or-zip2 union a b j none none none (omega (arith, many)) (omega (arith, more))
    ∙ ap (λ y. union y (get_or b j none)) (shows j h)
    ∙ ap (union (lanes_with f x)) (others j h)
    ∙ lanes_where-same (λ lane. has (lanes_with f x) lane || has (lanes_with g x) lane) (λ lane. join f g lane x)
    (λ lane. ap (λ y. y || has (lanes_with g x) lane) (has-lanes_where (λ l. f l x) lane) ∙ ap (λ y. f lane x || y)
    (has-lanes_where (λ l. g l x) lane))

pub merged-stands : (w : ℕ) (a b : Window) (f g : Family) (m n : ℤ) → IsWidth w → StandsFor w a f m → StandsFor w b g n → IsClose m n →
    StandsFor w (window_merged w a b) (join f g) (greater m n)
merged-stands w a b f g m n width s t close =
    let Q : Distance → Type 0 = λ d. StandsFor w (merged_at w a b d) (join f g) (greater m n) in
    let P : ℤ → Type 0 = λ x. IsGreatest (join f g) x in
    let top : IsGreatest (join f g) (greater m n) = join_greatest f g m n s.top t.top in
    let near : IsNear 32768 m n = record { above = omega (arith, ints, close.1, close.0); below = omega (arith, ints, close.1, close.0) } in
    elim (lies 32768 a.reference b.reference m n (omega arith) (omega arith) s.reference near (sym t.reference)) [
      | behind k inside place e ↦
          let same : greater m n ≡ m = greater_same m n (omega (arith, ints)) in
          let back : m ≡ (n +ℤ pos k) = omega (arith, ints) in
          subst Q (sym place) (stands_at w (merged_at w a b (Behind k)) (join f g) m (greater m n) same (record {
            top = subst P same top;
            reference = s.reference;
            count = length-zip2 union a.marks (marks_slid w k b.marks) (s.count ∙ sym (length-slid w k b.marks t.count)) ∙ s.count;
            shows = zip2_shows w a.marks (marks_slid w k b.marks) f g m s.count (length-slid w k b.marks t.count) s.shows
                (slid_shows w b.marks g n m k t.top back t.shows);
          }))
      | ahead k later place e ↦
          let same : greater m n ≡ n = greater_more m n (omega (arith, ints)) in
          subst Q (sym place) (stands_at w (merged_at w a b (Ahead k)) (join f g) n (greater m n) same (record {
            top = subst P same top;
            reference = t.reference;
            count = length-zip2 union (marks_slid w k a.marks) b.marks (length-slid w k a.marks s.count ∙ sym t.count) ∙ length-slid w k
                a.marks s.count;
            shows = zip2_shows w (marks_slid w k a.marks) b.marks f g n (length-slid w k a.marks s.count) t.count
                (slid_shows w a.marks f m n k s.top e s.shows) t.shows;
          }))
    ]

-- so a call that leaves such a window does what the families say
pub begins-from : (w : ℕ) (new : Window) (seq : ℕ) (lanes : Lanes) → IsWidth w → is_empty lanes ≡ false → new ≡ window_begun w seq lanes →
    Begins w new seq lanes
begins-from w new seq lanes width some e =
    λ n carried. let Q : Window →
    Type 0 = λ r. StandsFor w r (singleton lanes n) n in subst Q (sym e) (begun-stands w lanes n seq width some carried)

pub notes-from : (w : ℕ) (old new : Window) (seq : ℕ) (lanes answer : Lanes) → IsWidth w → is_empty lanes ≡ false →
    new ≡ window_noted w old seq lanes → answer ≡ fresh_lanes w old seq lanes → NotesAs w old new seq lanes answer
notes-from w old new seq lanes answer width some e fresh =
    λ f m n s near carried.
    let Q : Window → Type 0 = λ r. StandsFor w r (join f (singleton lanes n)) (greater m n) in
    record {
      fresh = fresh ∙ fresh-lanes-by-family w old f m n seq lanes width s near carried;
      stands = subst Q (sym e) (noted-stands w old f m n seq lanes width some s near carried);
    }

pub merges-from : (w : ℕ) (old other new : Window) → IsWidth w → new ≡ window_merged w old other → Merges w old other new
merges-from w old other new width e =
    λ f g m n s t close. let Q : Window →
    Type 0 = λ r. StandsFor w r (join f g) (greater m n) in subst Q (sym e) (merged-stands w old other f g m n width s t close)

-- windows that stand for the same cut are equal, and so are those of families of the same numbers
pub same-windows : (w : ℕ) (a b : Window) (f g : Family) (m : ℤ) → StandsFor w a f m → StandsFor w b g m → SameCut w m f g → a ≡ b
same-windows w a b f g m s t same =
    let reference : a.reference ≡ b.reference = s.reference ∙ sym t.reference in
    let marks : a.marks ≡ b.marks =
    ext_get_or none a.marks b.marks (s.count ∙ sym t.count) (λ k h.
    let inside : k < w = omega (arith, s.count) in
    s.shows k inside ∙ lanes_where-same (λ lane. f lane (m -ℤ pos k)) (λ lane. g lane (m -ℤ pos k)) (λ lane. same lane k inside) ∙ sym
    (t.shows k inside)) in
    λ i. record { reference = reference i; marks = marks i }

pub same-numbers : (w : ℕ) (a b : Window) (f g : Family) (m n : ℤ) → StandsFor w a f m → StandsFor w b g n →
    ((lane : Lane) (x : ℤ) → f lane x ≡ g lane x) → a ≡ b
same-numbers w a b f g m n s t same =
    let P : ℤ → Type 0 = λ x. StandsFor w b g x in
    let top : n ≡ m = sym (same_greatest f g m n s.top t.top same) in
    same-windows w a b f g m s (subst P top t) (λ lane k h. same lane (m -ℤ pos k))

-- the test says whether two windows are one
Decides-lanes : (a b : Lanes) → Decides (eqb a.0 b.0) (a ≡ b)
Decides-lanes a b = Decides-like (eqb a.0 b.0) (λ e. λ i. record { 0 = e i }) (λ e. ap (λ (l : Lanes). l.0) e) (Decides-eqb a.0 b.0)

pub Decides-same_window : (a b : Window) → Decides (same_window a b) (a ≡ b)
Decides-same_window a b =
    Decides-like (same_window a b) (λ e. λ i. record { reference = e.0 i; marks = e.1 i })
    (λ e. (ap (λ (w : Window). w.reference) e, ap (λ (w : Window). w.marks) e))
    (Decides-and (eqb a.reference b.reference) (pointwise (on (λ (l : Lanes). l.0) eqb) a.marks b.marks)
    (Decides-eqb a.reference b.reference) (pointwise_decides Decides-lanes a.marks b.marks))
