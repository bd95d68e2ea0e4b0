-- Figures of packets, one by one.
use Rattle.std.proofs.Common.{◌≡◌, ℕ, ◌+◌, ◌-◌, ◌^◌, Bool, true, false, ◌&&◌, List, [], ◌∷◌, ◌++◌, length, take, drop, Option, None, Some, refl, sym, ap, ◌∙◌, arith}
use Rattle.std.specs.Prelude.{min, cond}
use Rattle.std.specs.List.{count_by, All}
use Rattle.std.specs.Str.{bytes_eq}
use Rattle.std.proofs.lemmas.List.{append-nil, take_rest}
use Rattle.std.proofs.lemmas.List.Elements.{filter-append, All-head, All-tail}
use Rattle.std.proofs.lemmas.List.Sums.{sum_by-append}
use Rattle.sr_frame.specs.Frame.{least_len}
use Rattle.sr_audit.specs.declared.side.Side.{Side}
use Rattle.sr_audit.specs.declared.side.Side.TheVariants.{A, B}
use Rattle.sr_capture_audit.specs.declared.counts.SideCounts.{SideCounts}
use Rattle.sr_capture_audit.specs.declared.counts.Counts.{Counts}
use Rattle.sr_capture_audit.specs.declared.kind.Kind.{Kind}
use Rattle.sr_capture_audit.specs.declared.kind.Kind.TheVariants.{Plain, Misfit, Cut, Long, Empty}
use Rattle.sr_capture_audit.specs.declared.kind.Kind.TheVariants as kind
use Rattle.sr_capture_audit.specs.declared.kind.Numbered.{Numbered}
use Rattle.sr_capture_audit.specs.declared.network.Tap.{Tap}
use Rattle.sr_capture_audit.specs.declared.network.Tap.TheVariants as tap
use Rattle.sr_capture_audit.specs.Kinds.{is_checked, is_tagged}
use Rattle.sr_capture_audit.specs.Counting.{Seen, has_number, names_other_lan, is_plain_packet, is_misfit_packet, is_cut_packet, is_long_packet, is_empty_packet, number_with, side_figures, seen_side, is_of_side, seen_at, all_figures, with_one, with_kind, CountsOne, IsMirrored}

-- a figure has one more where the packet has the property
number_by : (f : Seen → Bool) (xs : List Seen) (x : Seen) (b : Bool) → f x ≡ b → number_with f (xs ++ x ∷ []) ≡ with_one b (number_with f xs)
number_by f xs x true e =
    let own : Seen → ℕ = λ y. cond (f y) 1 0 in
    let one : own x ≡ 1 = ap (λ t. cond t 1 0) e in
    omega (arith, sum_by-append own xs (x ∷ []), one)
number_by f xs x false e =
    let own : Seen → ℕ = λ y. cond (f y) 1 0 in
    let none : own x ≡ 0 = ap (λ t. cond t 1 0) e in
    omega (arith, sum_by-append own xs (x ∷ []), none)

number_more : (f : Seen → Bool) (xs : List Seen) (x : Seen) → number_with f (xs ++ x ∷ []) ≡ with_one (f x) (number_with f xs)
number_more f xs x = number_by f xs x (f x) refl

figures_are : (a b c d e f g h i j k l m n o p q r s t : ℕ) → a ≡ k → b ≡ l → c ≡ m → d ≡ n → e ≡ o → f ≡ p → g ≡ q → h ≡ r → i ≡ s → j ≡ t →
    (let x : SideCounts = record { packets = a; numbered = b; plain = c; misfit = d; wrong_lan = e; cut = f; long = g; empty = h; checked = i; tagged = j } in x)
    ≡ record { packets = k; numbered = l; plain = m; misfit = n; wrong_lan = o; cut = p; long = q; empty = r; checked = s; tagged = t }
figures_are a b c d e f g h i j k l m n o p q r s t ea eb ec ed ee ef eg eh ei ej = cc

-- of a frame without number the octets count
plain_by : (k : Kind) (f : List ℕ → Bool) (octets own : List ℕ) → (k ≡ Plain → own ≡ octets) → (is_plain_packet k && f own) ≡ (is_plain_packet k && f octets)
plain_by (kind.Numbered n) f octets own e = refl
plain_by Plain f octets own e = ap f (e refl)
plain_by Misfit f octets own e = refl
plain_by Cut f octets own e = refl
plain_by Long f octets own e = refl
plain_by Empty f octets own e = refl

figures_more : (k : Kind) (octets : List ℕ) (xs : List Seen) (x : Seen) → x.kind ≡ k → (k ≡ Plain → x.packet.octets ≡ octets) →
    with_kind k octets (side_figures xs) ≡ side_figures (xs ++ x ∷ [])
figures_more k octets xs x is own =
    let one : (f : Kind → Bool) → with_one (f k) (number_with (λ y. f y.kind) xs) ≡ number_with (λ y. f y.kind) (xs ++ x ∷ []) =
    λ f. ap (λ j. with_one (f j) (number_with (λ y. f y.kind) xs)) (sym is) ∙ sym (number_more (λ y. f y.kind) xs x) in
    let two : (f : List ℕ → Bool) → with_one (is_plain_packet k && f octets) (number_with (λ y. is_plain_packet y.kind && f y.packet.octets) xs)
    ≡ number_with (λ y. is_plain_packet y.kind && f y.packet.octets) (xs ++ x ∷ []) =
    λ f. ap (λ b. with_one b (number_with (λ y. is_plain_packet y.kind && f y.packet.octets) xs))
    (sym (ap (λ j. is_plain_packet j && f x.packet.octets) is ∙ plain_by k f octets x.packet.octets own))
    ∙ sym (number_more (λ y. is_plain_packet y.kind && f y.packet.octets) xs x) in
    figures_are _ _ _ _ _ _ _ _ _ _ _ _ _ _ _ _ _ _ _ _ (one (λ j. true)) (one has_number) (one is_plain_packet) (one is_misfit_packet) (one names_other_lan)
    (one is_cut_packet) (one is_long_packet) (one is_empty_packet) (two is_checked) (two is_tagged)

-- a packet stands among those of its side alone
seen_more : (side : Option Side) (xs : List Seen) (x : Seen) (b : Bool) → is_of_side side (seen_side x.tap x.kind) ≡ b →
    seen_at side (xs ++ x ∷ []) ≡ seen_at side xs ++ cond b (x ∷ []) []
seen_more side xs x b e =
    filter-append (λ y. is_of_side side (seen_side y.tap y.kind)) xs (x ∷ []) ∙ ap (λ t. seen_at side xs ++ cond t (x ∷ []) []) e

figures_here : (side : Option Side) (k : Kind) (octets : List ℕ) (xs : List Seen) (x : Seen) → x.kind ≡ k → (k ≡ Plain → x.packet.octets ≡ octets) →
    is_of_side side (seen_side x.tap x.kind) ≡ true →
    with_kind k octets (side_figures (seen_at side xs)) ≡ side_figures (seen_at side (xs ++ x ∷ []))
figures_here side k octets xs x is own at =
    figures_more k octets (seen_at side xs) x is own ∙ ap side_figures (sym (seen_more side xs x true at))

figures_apart : (side : Option Side) (xs : List Seen) (x : Seen) → is_of_side side (seen_side x.tap x.kind) ≡ false →
    side_figures (seen_at side xs) ≡ side_figures (seen_at side (xs ++ x ∷ []))
figures_apart side xs x at = ap side_figures (sym (seen_more side xs x false at ∙ append-nil (seen_at side xs)))

counts_are : (a b c d e f : SideCounts) → a ≡ d → b ≡ e → c ≡ f →
    (let x : Counts = record { a = a; b = b; neither = c } in x) ≡ record { a = d; b = e; neither = f }
counts_are a b c d e f ea eb ec = cc

-- the figures of the packet's side have one packet more
module _ (where_ : Tap) (k : Kind) (octets : List ℕ) (old : Counts) (own : SideCounts) (at : Option Side) where
  pub counts_a : (s : Side) → at ≡ seen_side where_ k → at ≡ Some s → s ≡ A → own ≡ with_kind k octets old.a →
      CountsOne where_ k octets old (record old { a = own })
  counts_a s from is same noted xs x seen e =
      let side : seen_side x.tap x.kind ≡ Some A =
      ap (λ t. seen_side t x.kind) seen.at ∙ ap (seen_side where_) seen.is ∙ sym from ∙ is ∙ ap (λ t. Some t) same in
      counts_are _ _ _ _ _ _
      (noted ∙ ap (λ c. with_kind k octets c.a) e ∙ figures_here (Some A) k octets xs x seen.is seen.octets_are (ap (is_of_side (Some A)) side))
      (ap (λ c. c.b) e ∙ figures_apart (Some B) xs x (ap (is_of_side (Some B)) side))
      (ap (λ c. c.neither) e ∙ figures_apart None xs x (ap (is_of_side None) side))

  pub counts_b : (s : Side) → at ≡ seen_side where_ k → at ≡ Some s → s ≡ B → own ≡ with_kind k octets old.b →
      CountsOne where_ k octets old (record old { b = own })
  counts_b s from is same noted xs x seen e =
      let side : seen_side x.tap x.kind ≡ Some B =
      ap (λ t. seen_side t x.kind) seen.at ∙ ap (seen_side where_) seen.is ∙ sym from ∙ is ∙ ap (λ t. Some t) same in
      counts_are _ _ _ _ _ _ (ap (λ c. c.a) e ∙ figures_apart (Some A) xs x (ap (is_of_side (Some A)) side))
      (noted ∙ ap (λ c. with_kind k octets c.b) e ∙ figures_here (Some B) k octets xs x seen.is seen.octets_are (ap (is_of_side (Some B)) side))
      (ap (λ c. c.neither) e ∙ figures_apart None xs x (ap (is_of_side None) side))

  pub counts_neither : at ≡ seen_side where_ k → at ≡ None → own ≡ with_kind k octets old.neither →
      CountsOne where_ k octets old (record old { neither = own })
  counts_neither from is noted xs x seen e =
      let side : seen_side x.tap x.kind ≡ None =
      ap (λ t. seen_side t x.kind) seen.at ∙ ap (seen_side where_) seen.is ∙ sym from ∙ is in
      counts_are _ _ _ _ _ _ (ap (λ c. c.a) e ∙ figures_apart (Some A) xs x (ap (is_of_side (Some A)) side))
      (ap (λ c. c.b) e ∙ figures_apart (Some B) xs x (ap (is_of_side (Some B)) side))
      (noted ∙ ap (λ c. with_kind k octets c.neither) e ∙ figures_here None k octets xs x seen.is seen.octets_are (ap (is_of_side None) side))

-- the type of a frame stands two octets before what is behind it
pub tagged_is : (octets behind : List ℕ) (at : ℕ) (r : Bool) → at + 2 ≡ least_len octets → behind ≡ take (length octets - at) (drop at octets) →
    r ≡ bytes_eq (0x89 ∷ 0x2F ∷ []) (take 2 behind) → r ≡ is_tagged octets
tagged_is octets behind at r place is value =
    let same : at ≡ least_len octets - 2 = omega (arith, place) in
    value ∙ ap (λ l. bytes_eq (0x89 ∷ 0x2F ∷ []) (take 2 l)) (is ∙ take_rest octets at ∙ ap (λ n. drop n octets) same)

-- the packets of the sides, and those of none, are all
here : (side : Option Side) (x : Seen) (xs : List Seen) → is_of_side side (seen_side x.tap x.kind) ≡ true → seen_at side (x ∷ xs) ≡ x ∷ seen_at side xs
here side x xs e = ap (λ b. cond b (x ∷ seen_at side xs) (seen_at side xs)) e

apart : (side : Option Side) (x : Seen) (xs : List Seen) → is_of_side side (seen_side x.tap x.kind) ≡ false → seen_at side (x ∷ xs) ≡ seen_at side xs
apart side x xs e = ap (λ b. cond b (x ∷ seen_at side xs) (seen_at side xs)) e

count_first : (f : Seen → Bool) (x : Seen) (xs : List Seen) → count_by f (x ∷ xs) ≡ cond (f x) 1 0 + count_by f xs
count_first f x xs =
    let weight : Seen → ℕ = λ y. cond (f y) 1 0 in
    omega (arith, sum_by-append weight (x ∷ []) xs)

abbrev HasParts : (Seen → Bool) → List Seen → Type 0
HasParts f xs = count_by f xs ≡ count_by f (seen_at None xs) + count_by f (seen_at (Some A) xs) + count_by f (seen_at (Some B) xs)

parts_more : (f : Seen → Bool) (x : Seen) (xs : List Seen) → HasParts f xs → HasParts f (x ∷ xs)
parts_more f x xs rest = by (seen_side x.tap x.kind) refl
  where
    by : (s : Option Side) → seen_side x.tap x.kind ≡ s → HasParts f (x ∷ xs)
    by None e =
        let n = ap (count_by f) (here None x xs (ap (is_of_side None) e)) ∙ count_first f x (seen_at None xs) in
        let a = ap (count_by f) (apart (Some A) x xs (ap (is_of_side (Some A)) e)) in
        let b = ap (count_by f) (apart (Some B) x xs (ap (is_of_side (Some B)) e)) in
        omega (arith, n, a, b, rest, count_first f x xs)
    by (Some A) e =
        let n = ap (count_by f) (apart None x xs (ap (is_of_side None) e)) in
        let a = ap (count_by f) (here (Some A) x xs (ap (is_of_side (Some A)) e)) ∙ count_first f x (seen_at (Some A) xs) in
        let b = ap (count_by f) (apart (Some B) x xs (ap (is_of_side (Some B)) e)) in
        omega (arith, n, a, b, rest, count_first f x xs)
    by (Some B) e =
        let n = ap (count_by f) (apart None x xs (ap (is_of_side None) e)) in
        let a = ap (count_by f) (apart (Some A) x xs (ap (is_of_side (Some A)) e)) in
        let b = ap (count_by f) (here (Some B) x xs (ap (is_of_side (Some B)) e)) ∙ count_first f x (seen_at (Some B) xs) in
        omega (arith, n, a, b, rest, count_first f x xs)

parts : (f : Seen → Bool) (xs : List Seen) → HasParts f xs
parts f [] = refl
parts f (x ∷ xs) = parts_more f x xs (parts f xs)

-- no packet of a side has a property that none there has
none_more : (f : Seen → Bool) (side : Option Side) (x : Seen) (xs : List Seen) → (is_of_side side (seen_side x.tap x.kind) ≡ true → f x ≡ false) →
    count_by f (seen_at side xs) ≡ 0 → count_by f (seen_at side (x ∷ xs)) ≡ 0
none_more f side x xs none rest = by (is_of_side side (seen_side x.tap x.kind)) refl
  where
    by : (b : Bool) → is_of_side side (seen_side x.tap x.kind) ≡ b → count_by f (seen_at side (x ∷ xs)) ≡ 0
    by true e =
        let weight : Bool → ℕ = λ b. cond b 1 0 in
        let own : weight (f x) ≡ 0 = ap weight (none e) in
        ap (count_by f) (here side x xs e) ∙ omega (arith, own, rest, count_first f x (seen_at side xs))
    by false e = ap (count_by f) (apart side x xs e) ∙ rest

none_with : (f : Seen → Bool) (side : Option Side) (xs : List Seen) →
    ((x : Seen) → IsMirrored x → is_of_side side (seen_side x.tap x.kind) ≡ true → f x ≡ false) → All IsMirrored xs → count_by f (seen_at side xs) ≡ 0
none_with f side [] none all = refl
none_with f side (x ∷ xs) none all =
    none_more f side x xs (none x (All-head IsMirrored x xs all)) (none_with f side xs none (All-tail IsMirrored x xs all))

-- at a mirror port a packet of a side has a number, and one of none has not
sided_numbered : (g : Kind → List ℕ → Bool) (own : Side) → ((n : Numbered) (o : List ℕ) → g (kind.Numbered n) o ≡ false) → (x : Seen) → IsMirrored x →
    is_of_side (Some own) (seen_side x.tap x.kind) ≡ true → g x.kind x.packet.octets ≡ false
sided_numbered g own none x m e = by own x.kind (ap (λ t. is_of_side (Some own) (seen_side t x.kind)) (sym m.0) ∙ e)
  where
    by : (s : Side) (k : Kind) → is_of_side (Some s) (seen_side tap.Mirror k) ≡ true → g k x.packet.octets ≡ false
    by s (kind.Numbered n) h = none n x.packet.octets
    by A Plain h = cc
    by A Misfit h = cc
    by A Cut h = cc
    by A Long h = cc
    by A Empty h = cc
    by B Plain h = cc
    by B Misfit h = cc
    by B Cut h = cc
    by B Long h = cc
    by B Empty h = cc

unsided_unnumbered : (x : Seen) → IsMirrored x → is_of_side None (seen_side x.tap x.kind) ≡ true → has_number x.kind ≡ false
unsided_unnumbered x m e = by x.kind (ap (λ t. is_of_side None (seen_side t x.kind)) (sym m.0) ∙ e)
  where
    by : (k : Kind) → is_of_side None (seen_side tap.Mirror k) ≡ true → has_number k ≡ false
    by (kind.Numbered n) h = cc
    by Plain h = refl
    by Misfit h = refl
    by Cut h = refl
    by Long h = refl
    by Empty h = refl

-- a figure of packets without a number is that of those that name no side
unnumbered_only : (g : Kind → List ℕ → Bool) (xs : List Seen) → All IsMirrored xs → ((n : Numbered) (o : List ℕ) → g (kind.Numbered n) o ≡ false) →
    number_with (λ x. g x.kind x.packet.octets) (seen_at None xs) ≡ number_with (λ x. g x.kind x.packet.octets) xs
unnumbered_only g xs all none =
    let f : Seen → Bool = λ x. g x.kind x.packet.octets in
    let a = none_with f (Some A) xs (sided_numbered g A none) all in
    let b = none_with f (Some B) xs (sided_numbered g B none) all in
    omega (arith, a, b, parts f xs)

pub mirrored : (c : Counts) (xs : List Seen) (m p n : ℕ) → All IsMirrored xs → c ≡ all_figures xs → m ≡ min (c.neither.packets + c.a.packets) (2 ^ 64 - 1) →
    p ≡ min (m + c.b.packets) (2 ^ 64 - 1) → n ≡ min (c.a.numbered + c.b.numbered) (2 ^ 64 - 1) →
    (let x : SideCounts = record {
      packets = p;
      numbered = n;
      plain = c.neither.plain;
      misfit = c.neither.misfit;
      wrong_lan = c.neither.wrong_lan;
      cut = c.neither.cut;
      long = c.neither.long;
      empty = c.neither.empty;
      checked = c.neither.checked;
      tagged = c.neither.tagged;
    } in x) ≡ side_figures xs
mirrored c xs m p n all e me pe ne =
    let every : Seen → Bool = λ x. true in
    let numbered : Seen → Bool = λ x. has_number x.kind in
    let astray : Seen → Bool = λ x. names_other_lan x.kind in
    let packets_n : c.neither.packets ≡ number_with every (seen_at None xs) = ap (λ k. k.neither.packets) e in
    let packets_a : c.a.packets ≡ number_with every (seen_at (Some A) xs) = ap (λ k. k.a.packets) e in
    let packets_b : c.b.packets ≡ number_with every (seen_at (Some B) xs) = ap (λ k. k.b.packets) e in
    let numbered_a : c.a.numbered ≡ number_with numbered (seen_at (Some A) xs) = ap (λ k. k.a.numbered) e in
    let numbered_b : c.b.numbered ≡ number_with numbered (seen_at (Some B) xs) = ap (λ k. k.b.numbered) e in
    let none_numbered = none_with numbered None xs unsided_unnumbered all in
    let astray_n = none_with astray None xs (λ x own at. own.1) all in
    let astray_a = none_with astray (Some A) xs (λ x own at. own.1) all in
    let astray_b = none_with astray (Some B) xs (λ x own at. own.1) all in
    let astray_is : number_with astray (seen_at None xs) ≡ number_with astray xs = omega (arith, astray_n, astray_a, astray_b, parts astray xs) in
    figures_are _ _ _ _ _ _ _ _ _ _ _ _ _ _ _ _ _ _ _ _ (omega (arith, me, pe, packets_n, packets_a, packets_b, parts every xs))
    (omega (arith, ne, numbered_a, numbered_b, none_numbered, parts numbered xs))
    (ap (λ k. k.neither.plain) e ∙ unnumbered_only (λ k o. is_plain_packet k) xs all (λ n o. refl))
    (ap (λ k. k.neither.misfit) e ∙ unnumbered_only (λ k o. is_misfit_packet k) xs all (λ n o. refl)) (ap (λ k. k.neither.wrong_lan) e ∙ astray_is)
    (ap (λ k. k.neither.cut) e ∙ unnumbered_only (λ k o. is_cut_packet k) xs all (λ n o. refl))
    (ap (λ k. k.neither.long) e ∙ unnumbered_only (λ k o. is_long_packet k) xs all (λ n o. refl))
    (ap (λ k. k.neither.empty) e ∙ unnumbered_only (λ k o. is_empty_packet k) xs all (λ n o. refl))
    (ap (λ k. k.neither.checked) e ∙ unnumbered_only (λ k o. is_plain_packet k && is_checked o) xs all (λ n o. refl))
    (ap (λ k. k.neither.tagged) e ∙ unnumbered_only (λ k o. is_plain_packet k && is_tagged o) xs all (λ n o. refl))
