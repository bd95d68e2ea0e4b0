-- A node that is resumed with one number of one source.
use Rattle.std.proofs.Common.{◌≡◌, ℕ, zero, suc, ◌+◌, ◌<◌, ◌≤◌, Bool, true, false, ◌||◌, ◌&&◌, not, List, [], ◌∷◌, ◌++◌, filter, None, Some, option_to_list, ℤ, pos, refl, sym, ap, ◌∙◌, subst, inl, inr, arith, if◌then◌else◌}
use Rattle.std.specs.Prelude.{nat_lt, ◌-◌, ◌-ℤ◌, ◌+ℤ◌}
use Rattle.std.specs.List.{list_any}
use Rattle.std.specs.Ordering.{int_eq}
use Rattle.std.proofs.lemmas.Bool.{cases_Bool, false_from_ne_true}
use Rattle.std.proofs.lemmas.Bool.Decides.{Decides-int_eq}
use Rattle.std.proofs.lemmas.Int.{ints}
use Rattle.sr_frame.specs.declared.fields.Mac.{Mac}
use Rattle.sr_frame.specs.declared.ports.Port.TheVariants.{H}
use Rattle.sr_frame.specs.Addresses.{mac_eq}
use Rattle.sr_frame.specs.AddressLemmas.{mac_refl}
use Rattle.sr_sequence.specs.Numbers.{wire, IsNear}
use Rattle.sr_dup_window.specs.declared.lane_sets.Lane.TheVariants as lane
use Rattle.sr_dup_window.specs.declared.lane_sets.Lanes.{Lanes}
use Rattle.sr_dup_window.specs.LaneSets.{is_empty}
use Rattle.sr_dup_window.specs.Bins.{IsWidth}
use Rattle.sr_dup_window.specs.Windows.{no_marks}
use Rattle.sr_dup_table.specs.declared.width.Width.{Width}
use Rattle.sr_dup_table.specs.Limits.{forget_time}
use Rattle.sr_dup_table.specs.JoinLaws.{IsSound}
use Rattle.sr_dup_table.specs.Widths.{numbers_in}
use Rattle.sr_dup_table.specs.Sources.{Remembered, Sources}
use Rattle.sr_laws_dup.specs.TableRuns.{Arrival, Noting, epoch, copies_of, was_noted, IsNearAll, AreSteady, arrivals_of}
use Rattle.sr_laws_dup.specs.Starts.{pairs}
use Rattle.sr_forwarding.specs.declared.role_image.RoleImage.{RoleImage}
use Rattle.sr_forwarding.specs.Outlets.{has}
use Rattle.sr_node.specs.declared.event.Event.TheVariants as event
use Rattle.sr_node.specs.declared.mode.Mode.{Mode}
use Rattle.sr_node.specs.Images.{time_at}
use Rattle.sr_node.specs.Resuming as node
use Rattle.sr_node.specs.Arriving.{is_own}
use Rattle.sr_laws_node.specs.Origins.{stands_before, HasTops, CanBeResumedWith}
use Rattle.sr_laws_node.specs.NodeRuns.{Turn, happened, swapped}
use Rattle.sr_laws_node.specs.Brought.{Brought, arrival_brings, brings, number_if, next_number, is_barred, stood_bars, goes_at, went_after}
use Rattle.sr_laws_node.specs.SteadyNodes.{IsSteadyFrom}
use Rattle.sr_laws_node.specs.SteadyExamples.{IsFrameOf, ComesIn}
use Rattle.sr_laws_node.specs.ResumedExamples.{resumed_with_one, RepeatsAreHeldBack, LaterFramesGoUp}
use Rattle.sr_laws_node.proofs.OriginLemmas.{first_width}
use Rattle.sr_laws_node.proofs.SteadyLemmas.{not_interlink, are_all}

pub can_be_resumed_lem : (w : ℕ) (s : Sources) → IsSound w s → CanBeResumedWith w s
can_be_resumed_lem w s sound role mode width top is = (subst (λ n. IsSound n s) (sym is) sound, ap (λ n. node.resumed role mode n s) (sym is))

-- numbers that are noted on no lane are no pairs
no_pairs : (src : Mac) (n : ℤ) (time k : ℕ) → pairs src n time (no_marks k) ≡ []
unfolding no_marks
no_pairs src n time zero = refl
no_pairs src n time (suc k) = no_pairs src (n -ℤ pos 1) time k

abbrev one_arrival : Mac → ℤ → ℕ → Arrival
one_arrival src n time = record { src = src; number = n; time = time }

abbrev one_pair : Mac → ℤ → Lanes → ℕ → Noting
one_pair src n lanes time = record { arrival = one_arrival src n time; lanes = lanes }

-- what stands before
one_stands : (role : RoleImage) (mode : Mode) (width : Width) (src : Mac) (n : ℤ) (lanes : Lanes) (time : ℕ) → mac_eq role.mac src ≡ false → is_empty lanes ≡ false
    → stands_before (resumed_with_one role mode width src n lanes time) ≡ one_pair src n lanes time ∷ []
one_stands role mode width src n lanes time other some =
    rw (other, some) (ap (λ xs. one_pair src n lanes time ∷ (xs ++ [])) (no_pairs src (n -ℤ pos 1) time (numbers_in width - 1)))

has_one_top : (role : RoleImage) (mode : Mode) (width : Width) (src : Mac) (n : ℤ) (lanes : Lanes) (time : ℕ) → HasTops (resumed_with_one role mode width src n lanes time)
has_one_top role mode width src n lanes time q h found =
    let heard : Remembered = record { seen = record { reference = wire n; marks = lanes ∷ no_marks (numbers_in width - 1) }; time = time } in
    elim (cases_Bool (mac_eq q src)) [
      | inl same ↦
          let is : Some heard ≡ Some h = rw same at found in
          let here : heard ≡ h = cc in
          subst (λ x. x.seen.reference ≡ wire n) here refl
      | inr other ↦ absurd (let no : None ≡ Some h = rw other at found in cc)
    ]

near_itself : (w : ℕ) → IsWidth w → (n : ℤ) → IsNear w n n
near_itself w (inl is) n = record { above = omega (arith, ints, is); below = omega (arith, ints, is) }
near_itself w (inr is) n = record { above = omega (arith, ints, is); below = omega (arith, ints, is) }

is_soon : (now time : ℕ) → now < time + forget_time → nat_lt (now - time) forget_time ≡ true
is_soon now time soon = grind (arith, soon)

is_late : (now time : ℕ) → time + forget_time ≤ now → nat_lt (now - time) forget_time ≡ false
is_late now time late = grind (arith, late)

-- a copy within 400 ms
soon_steady : (w : ℕ) → IsWidth w → (src : Mac) (n : ℤ) (time now : ℕ) → now < time + forget_time → AreSteady w (one_arrival src n now ∷ one_arrival src n time ∷ [])
soon_steady w width src n time now soon =
    let first : AreSteady w (one_arrival src n time ∷ []) = (tt, (tt, refl)) in
    let epochs : epoch src now (one_arrival src n time ∷ []) ≡ one_arrival src n time ∷ [] = rw (mac_refl src, is_soon now time soon) refl in
    let near : IsNearAll w (epoch src now (one_arrival src n time ∷ [])) n = subst (λ e. IsNearAll w e n) (sym epochs) (near_itself w width n) in
    (first, (near, ap (copies_of src n) (sym epochs)))

-- a later frame with the same 16 bits
next_differs : (n : ℤ) → int_eq (n +ℤ pos 65536) n ≡ false
next_differs n = false_from_ne_true (int_eq (n +ℤ pos 65536) n) (λ t. let same : (n +ℤ pos 65536) ≡ n = (Decides-int_eq (n +ℤ pos 65536) n).0 t in absurd (omega (arith, ints, same)))

late_steady : (w : ℕ) (src : Mac) (n : ℤ) (time now : ℕ) → time + forget_time ≤ now → AreSteady w (one_arrival src (n +ℤ pos 65536) now ∷ one_arrival src n time ∷ [])
late_steady w src n time now late =
    let m = n +ℤ pos 65536 in
    let first : AreSteady w (one_arrival src n time ∷ []) = (tt, (tt, refl)) in
    let epochs : epoch src now (one_arrival src n time ∷ []) ≡ [] = rw (mac_refl src, is_late now time late) refl in
    let near : IsNearAll w (epoch src now (one_arrival src n time ∷ [])) m = subst (λ e. IsNearAll w e m) (sym epochs) tt in
    let copies : copies_of src m (one_arrival src n time ∷ []) ≡ [] = rw (mac_refl src, next_differs n) refl in
    (first, (near, copies ∙ ap (copies_of src m) (sym epochs)))

one_steady : (role : RoleImage) (mode : Mode) (width : Width) (src : Mac) (n m : ℤ) (lanes : Lanes) (time now : ℕ) (turn : Turn) → mac_eq role.mac src ≡ false → is_empty lanes ≡ false → ComesIn src now m turn
    → AreSteady (numbers_in width) (one_arrival src m now ∷ one_arrival src n time ∷ []) → IsSteadyFrom (resumed_with_one role mode width src n lanes time) (turn ∷ [])
one_steady role mode width src n m lanes time now turn other some come steady =
    let r = are_all src now (m ∷ []) (turn ∷ []) (come, tt) in (
      has_one_top role mode width src n lanes time,
      r.numbered,
      subst (λ xs. AreSteady (numbers_in width) (xs ++ arrivals_of (stands_before (resumed_with_one role mode width src n lanes time)))) (sym r.arrivals)
          (subst (λ xs. AreSteady (numbers_in width) (one_arrival src m now ∷ arrivals_of xs)) (sym (one_stands role mode width src n lanes time other some)) steady),
    )

or_false : (b : Bool) → (b || false) ≡ b
or_false true = refl
or_false false = refl

-- what bars the first frame of a run from the host
barred_first : (stood : List Noting) (b : Brought) (src : Mac) (m : ℤ) → b.src ≡ src → b.number ≡ Some m → is_barred H stood [] b ≡ was_noted src m lane.H stood
barred_first stood b src m source number =
    ap (λ k. list_any (λ j. stood_bars H b.mode b.src j stood || false) (option_to_list k)) number
    ∙ or_false (stood_bars H b.mode b.src m stood || false)
    ∙ or_false (stood_bars H b.mode b.src m stood)
    ∙ or_false (was_noted b.src m lane.H stood)
    ∙ ap (λ x. was_noted x m lane.H stood) source

-- what goes up of a frame that comes in first
first_goes : (stood : List Noting) (src : Mac) (now : ℕ) (m : ℤ) (turn : Turn) (goes : Brought → Bool) → ComesIn src now m turn
    → ((b : Brought) → is_barred H stood [] b ≡ was_noted src m lane.H stood → goes_at H stood [] b ≡ goes b)
    → went_after stood H (turn ∷ []) ≡ filter goes (brings [] turn)
first_goes stood src now m (happened s (event.Arrive port p at) a k) goes come so =
    let f : IsFrameOf src now m s port p at = come.1 in
    let b = arrival_brings [] s port p (time_at s at) k in
    let plain = not_interlink port p.form f.ring in
    let own : is_own s p ≡ false = ap (λ x. mac_eq x s.role.mac) f.source ∙ f.other in
    let number : b.number ≡ Some m =
    ap (λ y. number_if (if y then Some s.core.next else p.seq) (if y then next_number [] else k)) plain
    ∙ ap (λ x. number_if x k) f.seq ∙ ap (λ x. Some x) come.0 in
    let here : goes_at H stood [] b ≡ goes b = so b (barred_first stood b src m f.source number) in
    ap (λ y. filter (goes_at H stood []) (if y then [] else b ∷ [])) own
    ∙ ap (λ y. if y then b ∷ [] else []) here
    ∙ ap (λ y. filter goes (if y then [] else b ∷ [])) (sym own)
first_goes stood src now m (happened s (event.Send octets at) a k) goes come so = absurd come
first_goes stood src now m (happened s (event.Tick at) a k) goes come so = absurd come
first_goes stood src now m (happened s (event.Take port) a k) goes come so = absurd come
first_goes stood src now m (swapped s r) goes come so = absurd come

none_goes : (bs : List Brought) → filter (λ b. false) bs ≡ []
none_goes [] = refl
none_goes (b ∷ bs) = none_goes bs

pub repeats_lem : RepeatsAreHeldBack
repeats_lem role mode width src n lanes time now turn other some up soon come =
    let start = resumed_with_one role mode width src n lanes time in
    let stands = one_stands role mode width src n lanes time other some in
    let noted : was_noted src n lane.H (stands_before start) ≡ true =
    ap (was_noted src n lane.H) stands ∙ rw (mac_refl src, (Decides-int_eq n n).1 refl, up) refl in (
      one_steady role mode width src n n lanes time now turn other some come (soon_steady (numbers_in width) (first_width start) src n time now soon),
      first_goes (stands_before start) src now n turn (λ b. false) come (λ b is. ap (λ y. has b.wanted H && not y) (is ∙ noted) ∙ none (has b.wanted H))
          ∙ none_goes (brings [] turn),
    )
  where
    none : (b : Bool) → (b && false) ≡ false
    none true = refl
    none false = refl

pub later_lem : LaterFramesGoUp
later_lem role mode width src n lanes time now turn other some late come =
    let start = resumed_with_one role mode width src n lanes time in
    let m = n +ℤ pos 65536 in
    let stands = one_stands role mode width src n lanes time other some in
    let fresh : was_noted src m lane.H (stands_before start) ≡ false =
    ap (was_noted src m lane.H) stands ∙ rw (mac_refl src, next_differs n) refl in (
      one_steady role mode width src n m lanes time now turn other some come (late_steady (numbers_in width) src n time now late),
      first_goes (stands_before start) src now m turn (λ b. has b.wanted H) come (λ b is. ap (λ y. has b.wanted H && not y) (is ∙ fresh) ∙ all (has b.wanted H)),
    )
  where
    all : (b : Bool) → (b && true) ≡ b
    all true = refl
    all false = refl
