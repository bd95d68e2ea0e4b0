-- Joins in any order and in any grouping.
use Rattle.std.proofs.Common.{◌≡◌, ◌≢◌, ℕ, ◌*◌, ◌-◌, ◌<◌, max, Bool, true, false, cond, List, [], ◌∷◌, Option, None, Some, ℤ, refl, sym, ap, ◌∙◌, subst, arith}
use Rattle.std.specs.Prelude.{find}
use Rattle.std.specs.Map.{lookup}
use Rattle.std.specs.Option.{option_map}
use Rattle.std.proofs.lemmas.Bool.{ltb-true, lt-ltb, eq-eqb}
use Rattle.sr_frame.specs.declared.fields.Mac.{Mac}
use Rattle.sr_frame.specs.Addresses.{mac_eq}
use Rattle.sr_frame.specs.AddressLemmas.{mac_same}
use Rattle.sr_slots.specs.EntryLemmas.{lookup-passing}
use Rattle.sr_slots.specs.Calls.{passing}
use Rattle.sr_sequence.specs.Places.{steps}
use Rattle.sr_dup_window.specs.Bins.{IsWidth}
use Rattle.sr_dup_window.specs.WindowLemmas.{merged-stands}
use Rattle.sr_dup_window.specs.MergeLemmas.{merged-commutes, merged-self, merged-associates}
use Rattle.sr_dup_window.specs.declared.record.Record.{Record}
use Rattle.sr_dup_window.specs.RecordLemmas.{record-whole}
use Rattle.sr_aged_slots.specs.declared.aged.Aged.{Aged}
use Rattle.sr_dup_table.specs.Shown.{heard_of, sources_of}
use Rattle.sr_dup_table.proofs.SourceLemmas.{lookup-shown}
use Rattle.sr_dup_window.specs.Records.{IsWhole}
use Rattle.sr_dup_window.specs.Families.{Family, IsClose, join, greater}
use Rattle.sr_dup_table.specs.Sources.{Remembered, Sources, IsTable, is_live, live_at}
use Rattle.sr_dup_table.specs.Joins.{joined, joined_heard, is_apart, first_apart}
use Rattle.sr_dup_table.specs.JoinLaws.{IsSound, MergesTo, AreClose, Stands, MergeCommutes, MergeIsIdempotent, MergeAssociates, MergeStands}

-- records of an address, or none, each of w numbers
abbrev pub WholeRecord : ℕ → Option Remembered → Type 0
WholeRecord w o = (h : Remembered) → o ≡ Some h → IsWhole w h.seen

heard-same : (a b : Remembered) → a.seen ≡ b.seen → a.time ≡ b.time → a ≡ b
heard-same a b e f = λ i. record { seen = e i; time = f i }

max-turned : (x y : ℕ) → max x y ≡ max y x
max-turned x y = omega arith

max-grouped : (x y z : ℕ) → max (max x y) z ≡ max x (max y z)
max-grouped x y z = omega arith

-- each record of a table is
pub whole-shown : {N : ℕ} (es : List (Mac × Aged (Record N))) (src : Mac) → WholeRecord (64 * N) (lookup (mac_eq src) (sources_of es))
whole-shown {N} es src h e = by (lookup (mac_eq src) es) (sym (lookup-shown (mac_eq src) es) ∙ e)
  where
    by : (o : Option (Aged (Record N))) → option_map heard_of o ≡ Some h → IsWhole (64 * N) h.seen
    by None p = cc
    by (Some x) p = let same : heard_of x ≡ h = cc in subst (λ (g : Remembered). IsWhole (64 * N) g.seen) same (record-whole x.value)

-- no two records that are looked at are apart
abbrev AreNear : Option Remembered → Option Remembered → Type 0
AreNear a b = (x y : Remembered) → a ≡ Some x → b ≡ Some y → steps x.seen.reference y.seen.reference ≢ 32768

joined-commutes : (w : ℕ) → IsWidth w → (a b : Option Remembered) → WholeRecord w a → WholeRecord w b → AreNear a b → joined w a b ≡ joined w b a
joined-commutes w width None None one two near = refl
joined-commutes w width None (Some b) one two near = refl
joined-commutes w width (Some a) None one two near = refl
joined-commutes w width (Some a) (Some b) one two near =
    ap Some (heard-same (joined_heard w a b) (joined_heard w b a) (merged-commutes w a.seen b.seen width (one a refl) (two b refl) (near a b refl refl)) (max-turned a.time b.time))

joined-self : (w : ℕ) → IsWidth w → (a : Option Remembered) → WholeRecord w a → joined w a a ≡ a
joined-self w width None one = refl
joined-self w width (Some a) one = ap Some (heard-same (joined_heard w a a) a (merged-self w a.seen width (one a refl)) (omega arith))

joined-none : (w : ℕ) (a : Option Remembered) → joined w a None ≡ a
joined-none w None = refl
joined-none w (Some a) = refl

joined-associates : (w : ℕ) → IsWidth w → (a b c : Option Remembered) → WholeRecord w a → WholeRecord w b → WholeRecord w c → AreClose a b c → joined w (joined w a b) c ≡ joined w a (joined w b c)
joined-associates w width None b c one two three close = refl
joined-associates w width (Some a) None c one two three close = refl
joined-associates w width (Some a) (Some b) None one two three close = refl
joined-associates w width (Some a) (Some b) (Some c) one two three close =
    ap Some (heard-same (joined_heard w (joined_heard w a b) c) (joined_heard w a (joined_heard w b c))
    (merged-associates w a.seen b.seen c.seen close.0 close.1 close.2 width (one a refl) (two b refl) (three c refl) close.3 close.4 close.5 close.6 close.7 close.8)
    (max-grouped a.time b.time c.time))

-- no record that is found is apart
find-near : (one other : Sources) → first_apart one other ≡ None → (src : Mac) → AreNear (lookup (mac_eq src) one) (lookup (mac_eq src) other)
find-near one [] none src x y p q = cc
find-near one (e ∷ other) none src x y p q = by (is_apart (lookup (mac_eq e.0) one) e.1) refl none (mac_eq src e.0) refl q (λ rest found. find-near one other rest src x y p found)
  where
    by : (b : Bool) → is_apart (lookup (mac_eq e.0) one) e.1 ≡ b
        → option_map (λ e. e.0) (cond b (Some e) (find (λ e. is_apart (lookup (mac_eq e.0) one) e.1) other)) ≡ None
        → (t : Bool) → mac_eq src e.0 ≡ t → cond t (Some e.1) (lookup (mac_eq src) other) ≡ Some y
        → (first_apart one other ≡ None → lookup (mac_eq src) other ≡ Some y → steps x.seen.reference y.seen.reference ≢ 32768)
        → steps x.seen.reference y.seen.reference ≢ 32768
    by true is h t same found rest = cc
    by false is h false same found rest = rest h found
    by false is h true same found rest =
        λ far.
        let there : lookup (mac_eq e.0) one ≡ Some x = ap (λ m. lookup (mac_eq m) one) (sym (mac_same src e.0 same)) ∙ p in
        let value : e.1 ≡ y = cc in
        let bad : true ≡ false =
        sym (eq-eqb (steps x.seen.reference y.seen.reference) 32768 far)
        ∙ (λ i. is_apart (sym there i) (sym value i)) ∙ is in cc

-- what is live of a table at an address
live-lookup : (now : ℕ) (s : Sources) (src : Mac) → IsTable s → lookup (mac_eq src) (live_at now s) ≡ passing (is_live now) (lookup (mac_eq src) s)
live-lookup now s src table = lookup-passing (is_live now) src s table.unique

passing-some : (now : ℕ) (o : Option Remembered) (h : Remembered) → passing (is_live now) o ≡ Some h → (o ≡ Some h) × (is_live now h ≡ true)
passing-some now None h e = cc
passing-some now (Some g) h e = by (is_live now g) refl e
  where
    by : (b : Bool) → is_live now g ≡ b → cond b (Some g) None ≡ Some h → (Some g ≡ Some h) × (is_live now h ≡ true)
    by true p e = let same : g ≡ h = cc in (e, sym (ap (is_live now) same) ∙ p)
    by false p e = cc

live-whole : (w : ℕ) (now : ℕ) (s : Sources) (src : Mac) → IsSound w s → WholeRecord w (lookup (mac_eq src) (live_at now s))
live-whole w now s src sound h e = sound.1 src h (passing-some now (lookup (mac_eq src) s) h (sym (live-lookup now s src sound.0) ∙ e)).0

-- what live sources join to is live
later-live : (w : ℕ) (now : ℕ) (a b : Remembered) → is_live now a ≡ true → is_live now (joined_heard w a b) ≡ true
later-live w now a b live = let l : now - a.time < 400 = ltb-true (now - a.time) 400 live in lt-ltb (now - max a.time b.time) 400 (omega arith)

AllLive : ℕ → Option Remembered → Type 0
AllLive now o = (h : Remembered) → o ≡ Some h → is_live now h ≡ true

passing-live : (now : ℕ) (o : Option Remembered) → AllLive now o → passing (is_live now) o ≡ o
unfolding AllLive
passing-live now None live = refl
passing-live now (Some h) live = ap (λ b. cond b (Some h) None) (live h refl)

joined-live : (w : ℕ) (now : ℕ) (a b : Option Remembered) → AllLive now a → AllLive now b → AllLive now (joined w a b)
unfolding AllLive
joined-live w now None b one two = two
joined-live w now (Some a) None one two = one
joined-live w now (Some a) (Some b) one two = λ h e. let same : joined_heard w a b ≡ h = cc in ap (is_live now) (sym same) ∙ later-live w now a b (one a refl)

live-live : (now : ℕ) (s : Sources) (src : Mac) → IsTable s → AllLive now (lookup (mac_eq src) (live_at now s))
unfolding AllLive
live-live now s src table h e = (passing-some now (lookup (mac_eq src) s) h (sym (live-lookup now s src table) ∙ e)).1

-- a join at a time stays as it is at that time
join-live : (w : ℕ) (now : ℕ) (one other both : Sources) (src : Mac) → IsTable one → IsTable other → IsTable both → MergesTo w now one other both
    → lookup (mac_eq src) (live_at now both) ≡ joined w (lookup (mac_eq src) (live_at now one)) (lookup (mac_eq src) (live_at now other))
join-live w now one other both src first second table joins =
    live-lookup now both src table
    ∙ ap (passing (is_live now)) (joins.each src)
    ∙ passing-live now (joined w (lookup (mac_eq src) (live_at now one)) (lookup (mac_eq src) (live_at now other)))
    (joined-live w now (lookup (mac_eq src) (live_at now one)) (lookup (mac_eq src) (live_at now other)) (live-live now one src first) (live-live now other src second))

pub merge_commutes_lem : MergeCommutes
merge_commutes_lem w width now one other both turned first second near joins turns src =
    joins.each src
    ∙ joined-commutes w width (lookup (mac_eq src) (live_at now one)) (lookup (mac_eq src) (live_at now other)) (live-whole w now one src first) (live-whole w now other src second)
    (find-near (live_at now one) (live_at now other) near src)
    ∙ sym (turns.each src)

pub merge_is_idempotent_lem : MergeIsIdempotent
merge_is_idempotent_lem w width now one both sound joins src = joins.each src ∙ joined-self w width (lookup (mac_eq src) (live_at now one)) (live-whole w now one src sound)

pub merge_associates_lem : MergeAssociates
merge_associates_lem w width now one other third first second left right a b c d e close ab abc bc a_bc src =
    let x = lookup (mac_eq src) (live_at now one) in
    let y = lookup (mac_eq src) (live_at now other) in
    let z = lookup (mac_eq src) (live_at now third) in
    abc.each src
    ∙ ap (λ o. joined w o z) (join-live w now one other first src a.0 b.0 d ab)
    ∙ joined-associates w width x y z (live-whole w now one src a) (live-whole w now other src b) (live-whole w now third src c) (close src)
    ∙ sym (ap (joined w x) (join-live w now other third second src b.0 c.0 e bc))
    ∙ sym (a_bc.each src)

joined-stands : (w : ℕ) → IsWidth w → (a b : Option Remembered) (f g : Family) (m n : ℤ) (time late : ℕ) → Stands w a f m time → Stands w b g n late → IsClose m n
    → Stands w (joined w a b) (join f g) (greater m n) (max time late)
joined-stands w width None b f g m n time late s t close = absurd s
joined-stands w width (Some a) None f g m n time late s t close = absurd t
joined-stands w width (Some a) (Some b) f g m n time late s t close =
    (merged-stands w a.seen b.seen f g m n width s.0 t.0 close, (λ i. max (s.1 i) (t.1 i)))

pub merge_stands_lem : MergeStands
merge_stands_lem w width now one other both src f g m n time late s t close joins =
    subst (λ o. Stands w o (join f g) (greater m n) (max time late)) (sym (joins.each src))
    (joined-stands w width (lookup (mac_eq src) (live_at now one)) (lookup (mac_eq src) (live_at now other)) f g m n time late s t close)
