-- What holds of all records, and of every tree of calls.
use Rattle.std.proofs.Common.{◌≡◌, ℕ, ◌*◌, ◌<◌, get_or, ℤ, pos, arith, refl, sym, ap, ◌∙◌, subst}
use Rattle.std.specs.Prelude.{◌-ℤ◌}
use Rattle.std.proofs.lemmas.Int.{ints}
use Rattle.sr_sequence.specs.Numbers.{wire, IsNear}
use Rattle.sr_dup_window.specs.declared.lane_sets.Lane.{Lane}
use Rattle.sr_dup_window.specs.declared.record.Record.{Record}
use Rattle.sr_dup_window.specs.LaneSets.{has, none}
use Rattle.sr_dup_window.specs.LaneLemmas.{lanes_where-same}
use Rattle.sr_dup_window.specs.Bins.{IsWidth}
use Rattle.sr_dup_window.specs.Windows.{Window, window_of, lanes_behind}
use Rattle.sr_dup_window.specs.WindowLemmas.{begun-stands, noted-stands, merged-stands, width-most, has-by-family, fresh-lanes-by-family, same-numbers}
use Rattle.sr_dup_window.specs.Families.{Family, StandsFor}
use Rattle.sr_dup_window.specs.Records.{WindowsTell, WindowsAreWhole, EachStands, StandsByHas, EqualWhereOneServes, MergeCommutes, MergeIsIdempotent, MergeAssociates}
use Rattle.sr_dup_window.specs.RecordLemmas.{record-width, record-whole}
use Rattle.sr_dup_window.specs.Trees.{Tree, begin, note, merge, made, family_of, greatest_of, IsSteady, TreesStand, AnswersByTheUnion, TreesAgree}
use Rattle.sr_dup_window.specs.OwnLemmas.{own_family, own-stands, lies_behind}
use Rattle.sr_dup_window.specs.MergeLemmas.{carried, merged-commutes, merged-self, merged-associates}
use Rattle.sr_dup_window.proofs.SameLemmas.{same_shown}

-- a window that is made along a steady tree stands for all that the tree took
made_stands : (w : ℕ) (t : Tree) → IsWidth w → IsSteady w t → StandsFor w (made w t) (family_of t) (greatest_of t)
made_stands w (begin lanes n) width steady = begun-stands w lanes n (wire n) width steady refl
made_stands w (note t lanes n) width steady =
    noted-stands w (made w t) (family_of t) (greatest_of t) n (wire n) lanes width steady.1 (made_stands w t width steady.0) steady.2 refl
made_stands w (merge s t) width steady =
    merged-stands w (made w s) (made w t) (family_of s) (family_of t) (greatest_of s) (greatest_of t) width (made_stands w s width steady.0) (made_stands w t width steady.1) steady.2

pub trees_stand_lem : (N : ℕ) → TreesStand N
trees_stand_lem N t r steady e =
    let Q : Window → Type 0 = λ x. StandsFor (64 * N) x (family_of t) (greatest_of t) in
    subst Q (sym e) (made_stands (64 * N) t (record-width r) steady)

pub answers_by_the_union_lem : (N : ℕ) → AnswersByTheUnion N
answers_by_the_union_lem N t r lanes n steady e =
    fresh-lanes-by-family (64 * N) (window_of r) (family_of t) (greatest_of t) n (wire n) lanes (record-width r) (trees_stand_lem N t r steady.0 e) steady.2 refl

-- records that stand for families of the same numbers are equal
same_numbers : {N : ℕ} (a b : Record N) (f g : Family) (m n : ℤ) → StandsFor (64 * N) (window_of a) f m → StandsFor (64 * N) (window_of b) g n → ((lane : Lane) (x : ℤ) → f lane x ≡ g lane x) → a ≡ b
same_numbers {N} a b f g m n s t same = same_shown a b (same-numbers (64 * N) (window_of a) (window_of b) f g m n s t same)

pub trees_agree_lem : (N : ℕ) → TreesAgree N
trees_agree_lem N s t a b steady_s steady_t made_s made_t same =
    same_numbers a b (family_of s) (family_of t) (greatest_of s) (greatest_of t) (trees_stand_lem N s a steady_s made_s) (trees_stand_lem N t b steady_t made_t) same

-- each record by its own numbers
own : {N : ℕ} (r : Record N) (m : ℤ) → wire m ≡ (window_of r).reference → StandsFor (64 * N) (window_of r) (own_family (64 * N) (window_of r) m) m
own {N} r m e = own-stands (64 * N) (window_of r) m (record-width r) (record-whole r) e

pub each_stands_lem : (N : ℕ) → EachStands N
each_stands_lem N r =
    let m : ℤ = pos (window_of r).reference in
    (own_family (64 * N) (window_of r) m, m, own r m (carried (window_of r).reference (record-whole r).carried))

-- what `has` answers of the numbers of the window says for which families it stands
pub stands_by_has_lem : (N : ℕ) → StandsByHas N
stands_by_has_lem N r f m =
    let w = 64 * N in
    let shown = window_of r in
    let width = record-width r in
    let near : (k : ℕ) → k < w → IsNear w m (m -ℤ pos k) = λ k h. record { above = omega (arith, ints); below = omega (arith, ints, width-most w width) } in
    let whole = record-whole r in (
      λ s. (s.top, s.reference, λ lane k h. has-by-family w shown f m (m -ℤ pos k) (wire (m -ℤ pos k)) lane width s (near k h) refl),
      λ h. record {
        top = h.0;
        reference = h.1;
        count = whole.count;
        shows = λ k inside.
            let at = get_or shown.marks k none in
            sym (whole.plain k inside)
            ∙ lanes_where-same (has at) (λ lane. f lane (m -ℤ pos k))
            (λ lane. sym (ap (λ d. has (lanes_behind shown d) lane) (lies_behind w shown.reference k m width (sym h.1) inside)) ∙ h.2 lane k inside);
      },
    )

pub windows_are_whole_lem : (N : ℕ) → WindowsAreWhole N
windows_are_whole_lem N r = record-whole r

pub windows_tell_lem : (N : ℕ) → WindowsTell N
windows_tell_lem N a b e = same_shown a b e

pub equal_where_one_serves_lem : (N : ℕ) → EqualWhereOneServes N
equal_where_one_serves_lem N a b =
    let stands = each_stands_lem N a in
    let P : Record N → Type 0 = λ x. StandsFor (64 * N) (window_of x) stands.0 stands.1 in (
      λ e. (stands.0, stands.1, stands.2, subst P e stands.2),
      λ s. same_numbers a b s.0 s.0 s.1 s.1 s.2 s.3 (λ lane x. refl),
    )

pub merge_commutes_lem : (N : ℕ) → MergeCommutes N
merge_commutes_lem N a b c d apart left right =
    same_shown c d (left ∙ merged-commutes (64 * N) (window_of a) (window_of b) (record-width a) (record-whole a) (record-whole b) apart ∙ sym right)

pub merge_is_idempotent_lem : (N : ℕ) → MergeIsIdempotent N
merge_is_idempotent_lem N a b e = same_shown b a (e ∙ merged-self (64 * N) (window_of a) (record-width a) (record-whole a))

pub merge_associates_lem : (N : ℕ) → MergeAssociates N
merge_associates_lem N a b c d e m n k at_m at_n at_k mn nk mk left right =
    same_shown d e (left
    ∙ merged-associates (64 * N) (window_of a) (window_of b) (window_of c) m n k (record-width a) (record-whole a) (record-whole b) (record-whole c) at_m at_n at_k mn nk mk
    ∙ sym right)
