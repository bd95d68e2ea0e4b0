-- Files that are read in one way.
use Rattle.std.proofs.Common.{◌≡◌, ℕ, ◌-◌, List, [], ◌∷◌, ◌++◌, length, take, sym, ap, subst, refl, ◌∙◌, arith, append_assoc, inl, inr}
use Rattle.std.proofs.lemmas.List.{length-append, take_at, append_cancel_left}
use Rattle.sr_capture.specs.declared.header.Form.{Form}
use Rattle.sr_capture.specs.declared.header.TimeUnit.{TimeUnit}
use Rattle.sr_capture.specs.declared.header.TimeUnit.TheVariants.{Micro, Nano}
use Rattle.sr_capture.specs.declared.numbers.ByteOrder.{ByteOrder}
use Rattle.sr_capture.specs.declared.numbers.ByteOrder.TheVariants.{Little, Big}
use Rattle.sr_capture.specs.declared.packet.Extent.{Extent}
use Rattle.sr_capture.specs.Numbers.{word_at}
use Rattle.sr_capture.specs.Headers.{magic_of, check_len_of, IsHeader}
use Rattle.sr_capture.specs.Records.{Captured, IsHead, IsRecord, AreRecords, EndsEarly}
use Rattle.sr_capture.specs.Laws.{RecordsAreUnique, PacketsAreUnique, BrokenFilesAreNone}

-- fronts of one length
pub same_front : (a b c d : List ℕ) → a ++ b ≡ c ++ d → length a ≡ length c → a ≡ c
same_front a b c d e size = sym (take_at a b (length c) size) ∙ ap (take (length c)) e ∙ take_at c d (length c) refl

pub same_rest : (a b c d : List ℕ) → a ++ b ≡ c ++ d → a ≡ c → b ≡ d
same_rest a b c d e same = append_cancel_left c b d (ap (λ (l : List ℕ). l ++ b) (sym same) ∙ e)

-- the four magic numbers differ
one_order : (o p : ByteOrder) (u v : TimeUnit) → magic_of o u ≡ magic_of p v → o ≡ p
one_order Little Little u v e = refl
one_order Big Big u v e = refl
one_order Little Big Micro Micro e = absurd (omega (arith, e))
one_order Little Big Micro Nano e = absurd (omega (arith, e))
one_order Little Big Nano Micro e = absurd (omega (arith, e))
one_order Little Big Nano Nano e = absurd (omega (arith, e))
one_order Big Little Micro Micro e = absurd (omega (arith, e))
one_order Big Little Micro Nano e = absurd (omega (arith, e))
one_order Big Little Nano Micro e = absurd (omega (arith, e))
one_order Big Little Nano Nano e = absurd (omega (arith, e))

one_unit : (o : ByteOrder) (u v : TimeUnit) → magic_of o u ≡ magic_of o v → u ≡ v
one_unit o Micro Micro e = refl
one_unit o Nano Nano e = refl
one_unit Little Micro Nano e = absurd (omega (arith, e))
one_unit Little Nano Micro e = absurd (omega (arith, e))
one_unit Big Micro Nano e = absurd (omega (arith, e))
one_unit Big Nano Micro e = absurd (omega (arith, e))

form_is : (o p : ByteOrder) (u v : TimeUnit) (m n : ℕ) → o ≡ p → u ≡ v → m ≡ n
    → (let f : Form = record { order = o; unit = u; check_len = m } in f) ≡ record { order = p; unit = v; check_len = n }
form_is o p u v m n a b c = cc

-- a header tells one form
pub one_form : (octets : List ℕ) (f g : Form) → IsHeader octets f → IsHeader octets g → f ≡ g
one_form octets f g h k =
    let order : f.order ≡ g.order = one_order f.order g.order f.unit g.unit (sym h.magic.1 ∙ k.magic.1) in
    let magics : magic_of g.order f.unit ≡ magic_of g.order g.unit = ap (λ (o : ByteOrder). magic_of o f.unit) (sym order) ∙ sym h.magic.1 ∙ k.magic.1 in
    let check : f.check_len ≡ g.check_len = h.check_len ∙ ap (λ (o : ByteOrder). check_len_of (word_at o octets 20)) order ∙ sym k.check_len in
    form_is f.order g.order f.unit g.unit f.check_len g.check_len order (one_unit g.order f.unit g.unit magics) check

captured_is : (t u : ℕ) (e f : Extent) (xs ys : List ℕ) → t ≡ u → e ≡ f → xs ≡ ys
    → (let p : Captured = record { time = t; extent = e; octets = xs } in p) ≡ record { time = u; extent = f; octets = ys }
captured_is t u e f xs ys a b c = cc

-- two records at the front of the same octets
record Agree (x y : Captured) (a c : List ℕ) : Type 0 where
  octets : a ≡ c
  packet : x ≡ y

one_record : (form : Form) (a b c d : List ℕ) (x y : Captured) → a ++ b ≡ c ++ d → IsRecord form a x → IsRecord form c y → Agree x y a c
one_record form a b c d x y e r s =
    let whole : r.front ++ (r.body ++ b) ≡ s.front ++ (s.body ++ d) =
    sym (append_assoc r.front r.body b) ∙ ap (λ (l : List ℕ). l ++ b) (sym r.spelled) ∙ e ∙ ap (λ (l : List ℕ). l ++ d) s.spelled ∙ append_assoc s.front s.body d in
    let front : r.front ≡ s.front = same_front r.front (r.body ++ b) s.front (s.body ++ d) whole (r.is_head.size ∙ sym s.is_head.size) in
    let left : r.body ++ b ≡ s.body ++ d = same_rest r.front (r.body ++ b) s.front (s.body ++ d) whole front in
    let own : IsHead form s.front r.head = subst (λ (l : List ℕ). IsHead form l r.head) front r.is_head in
    let held : r.head.held ≡ s.head.held = own.held ∙ sym s.is_head.held in
    let body : r.body ≡ s.body = same_front r.body b s.body d left (r.size ∙ held ∙ sym s.size) in
    let time : x.time ≡ y.time = r.time ∙ own.time ∙ sym s.is_head.time ∙ sym s.time in
    let extent : x.extent ≡ y.extent = r.extent ∙ own.extent ∙ sym s.is_head.extent ∙ sym s.extent in
    let kept : x.octets ≡ y.octets = r.octets ∙ ap (λ (l : List ℕ). take (length l - form.check_len) l) body ∙ sym s.octets in
    record {
      octets = r.spelled ∙ ap (λ (l : List ℕ). l ++ r.body) front ∙ ap (λ (l : List ℕ). s.front ++ l) body ∙ sym s.spelled;
      packet = captured_is x.time y.time x.extent y.extent x.octets y.octets time extent kept;
    }

no_record : (form : Form) (a b : List ℕ) (x : Captured) → [] ≡ a ++ b → IsRecord form a x → ⊥
no_record form a b x e r = omega (arith, ap length e, length-append a b, ap length r.spelled, length-append r.front r.body, r.is_head.size)

cons_is : (x y : Captured) (xs ys : List Captured) → x ≡ y → xs ≡ ys → x ∷ xs ≡ y ∷ ys
cons_is x y xs ys a b = cc

pub records_are_unique : RecordsAreUnique
records_are_unique form octets [] [] h k = refl
records_are_unique form octets [] (y ∷ ys) h k = absurd (no_record form k.0 k.1 y (sym h ∙ k.2) k.3)
records_are_unique form octets (x ∷ xs) [] h k = absurd (no_record form h.0 h.1 x (sym k ∙ h.2) h.3)
records_are_unique form octets (x ∷ xs) (y ∷ ys) h k =
    let agree = one_record form h.0 h.1 k.0 k.1 x y (sym h.2 ∙ k.2) h.3 k.3 in
    let rest : h.1 ≡ k.1 = same_rest h.0 h.1 k.0 k.1 (sym h.2 ∙ k.2) agree.octets in
    let others : AreRecords form k.1 xs = subst (λ (l : List ℕ). AreRecords form l xs) rest h.4 in
    cons_is x y xs ys agree.packet (records_are_unique form k.1 xs ys others k.4)

pub packets_are_unique : PacketsAreUnique
packets_are_unique octets xs ys h k =
    let whole : h.1 ++ h.2 ≡ k.1 ++ k.2 = sym h.3 ∙ k.3 in
    let front : h.1 ≡ k.1 = same_front h.1 h.2 k.1 k.2 whole (h.4.size ∙ sym k.4.size) in
    let rest : h.2 ≡ k.2 = same_rest h.1 h.2 k.1 k.2 whole front in
    let form : h.0 ≡ k.0 = one_form k.1 h.0 k.0 (subst (λ (l : List ℕ). IsHeader l h.0) front h.4) k.4 in
    let own : AreRecords k.0 h.2 xs = subst (λ (f : Form). AreRecords f h.2 xs) form h.5 in
    records_are_unique k.0 k.2 xs ys (subst (λ (l : List ℕ). AreRecords k.0 l xs) rest own) k.5

-- the beginning of a record begins no records
no_early : (form : Form) (rest : List ℕ) (packets : List Captured) → EndsEarly form rest → AreRecords form rest packets → ⊥
no_early form rest [] early h = omega (arith, early.0, ap length h)
no_early form rest (x ∷ xs) (some, inl short) h =
    let r = h.3 in
    omega (arith, short, ap length h.2, length-append h.0 h.1, ap length r.spelled, length-append r.front r.body, r.is_head.size)
no_early form rest (x ∷ xs) (some, inr part) h =
    let r = h.3 in
    let whole : part.0 ++ part.2 ≡ r.front ++ (r.body ++ h.1) =
    sym part.3 ∙ h.2 ∙ ap (λ (l : List ℕ). l ++ h.1) r.spelled ∙ append_assoc r.front r.body h.1 in
    let front : part.0 ≡ r.front = same_front part.0 part.2 r.front (r.body ++ h.1) whole (part.4.size ∙ sym r.is_head.size) in
    let left : part.2 ≡ r.body ++ h.1 = same_rest part.0 part.2 r.front (r.body ++ h.1) whole front in
    let own : IsHead form r.front part.1 = subst (λ (l : List ℕ). IsHead form l part.1) front part.4 in
    let held : part.1.held ≡ r.head.held = own.held ∙ sym r.is_head.held in
    omega (arith, part.5, held, r.size, ap length left, length-append r.body h.1)

-- nor behind whole records
no_break : (form : Form) (body rest : List ℕ) (xs ys : List Captured) → AreRecords form body xs → EndsEarly form rest → AreRecords form (body ++ rest) ys → ⊥
no_break form body rest [] ys none early h =
    no_early form rest ys early (subst (λ (l : List ℕ). AreRecords form (l ++ rest) ys) none h)
no_break form body rest (x ∷ xs) [] h early none =
    no_record form h.0 (h.1 ++ rest) x (sym none ∙ ap (λ (l : List ℕ). l ++ rest) h.2 ∙ append_assoc h.0 h.1 rest) h.3
no_break form body rest (x ∷ xs) (y ∷ ys) h early k =
    let whole : h.0 ++ (h.1 ++ rest) ≡ k.0 ++ k.1 = sym (append_assoc h.0 h.1 rest) ∙ ap (λ (l : List ℕ). l ++ rest) (sym h.2) ∙ k.2 in
    let agree = one_record form h.0 (h.1 ++ rest) k.0 k.1 x y whole h.3 k.3 in
    let left : h.1 ++ rest ≡ k.1 = same_rest h.0 (h.1 ++ rest) k.0 k.1 whole agree.octets in
    no_break form h.1 rest xs ys h.4 early (subst (λ (l : List ℕ). AreRecords form l ys) (sym left) k.4)

pub broken_files_are_none : BrokenFilesAreNone
broken_files_are_none octets packets b k =
    let whole : b.front ++ (b.body ++ b.rest) ≡ k.1 ++ k.2 = sym b.spelled ∙ k.3 in
    let front : b.front ≡ k.1 = same_front b.front (b.body ++ b.rest) k.1 k.2 whole (b.header.size ∙ sym k.4.size) in
    let left : b.body ++ b.rest ≡ k.2 = same_rest b.front (b.body ++ b.rest) k.1 k.2 whole front in
    let form : k.0 ≡ b.form = one_form k.1 k.0 b.form k.4 (subst (λ (l : List ℕ). IsHeader l b.form) front b.header) in
    let own : AreRecords b.form k.2 packets = subst (λ (f : Form). AreRecords f k.2 packets) form k.5 in
    no_break b.form b.body b.rest b.packets packets b.records b.early (subst (λ (l : List ℕ). AreRecords b.form l packets) (sym left) own)
