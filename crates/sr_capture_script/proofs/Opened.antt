-- Files from their first octet on.
use Rattle.std.proofs.Common.{◌≡◌, ℕ, ◌+◌, List, [], ◌∷◌, ◌++◌, length, Option, Some, None, Bool, sym, ap, subst, refl, ◌∙◌, arith, inl, inr}
use Rattle.std.specs.Prelude.{IfSome, is_some}
use Rattle.std.specs.Io.KnownBytes.{Appends}
use Rattle.std.proofs.lemmas.List.{length-append, append-nil}
use Rattle.sr_capture.specs.declared.fault.CaptureFault.{CaptureFault}
use Rattle.sr_capture_file.specs.declared.format.Format.{Format}
use Rattle.sr_capture_file.specs.declared.front.Reading.{Reading}
use Rattle.sr_capture.specs.Taking.{Loses}
use Rattle.sr_capture.specs.TakingLemmas.{loses_nothing}
use Rattle.sr_capture.specs.Records.{Captured}
use Rattle.sr_capture_file.specs.Formats.{front_len, AreTaken, HasPackets}
use Rattle.sr_capture_file.specs.TakenLemmas.{taken_none, none_taken, front_few}
use Rattle.sr_capture_script.specs.declared.choice.Choice.{Choice}
use Rattle.sr_capture_script.specs.declared.choice.Inlet.{Inlet}
use Rattle.sr_capture_script.specs.declared.choice.Inlet.TheVariants.{A, B, C}
use Rattle.sr_capture_script.specs.declared.fault.ScriptFault.{ScriptFault}
use Rattle.sr_capture_script.specs.declared.fault.ScriptFault.TheVariants.{File}
use Rattle.sr_capture_script.specs.declared.source.Source.{Source}
use Rattle.sr_capture_script.specs.Items.{Item, items_of, came_at}
use Rattle.sr_capture_script.specs.Sources.{left_of, Feeds, GoesOn, IsUntaken, IsStuck}
use Rattle.sr_capture_script.specs.SourceViews.{progress_of, IsSame}
use Rattle.sr_capture_script.specs.Texts.{lines_of}
use Rattle.sr_capture_script.specs.Merging.{feed_of, Stands, Scripts, Halts, fault_at}
use Rattle.sr_capture_file.specs.Fronts.{TakesFront, HasNoFront}
use Rattle.sr_capture_script.specs.Opening.{BeginsWith, IsFile, FileHas, HasBegun, IsOpened, HasFault, HasFaultAtFront, FailsAtFront, IsScript, HasComeIn, HasFaultIn, StandsIn, FileStands, IsScriptTo, IsScriptUpTo}
use Rattle.sr_capture_script.proofs.Feeding.{feeds_first, stuck_at}

pub opened_none : {R : Type 0} (remaining : R → Option (List ℕ)) (inlet : Inlet) (how : Reading) (delay : ℕ) (file : Option R) (form : Format) (s : Source R)
    → file ≡ None → s.reader ≡ None → s.form ≡ form → s.delay ≡ delay → IsUntaken form (progress_of s) → IsOpened remaining inlet how delay file s
opened_none {R = R} remaining inlet how delay file form s absent reader same put_off none =
    let q = progress_of s in
    let still : GoesOn s.state s.delay None (Some []) (Some []) q q =
    ([], refl, taken_none s.state, refl, refl, refl, omega (arith, none.place, front_few form), refl) in
    let goes : GoesOn s.state s.delay s.due (Some []) (Some []) q q = subst (λ (o : Option ℕ). GoesOn s.state s.delay o (Some []) (Some []) q q) (sym none.due) still in
    let fed : Feeds inlet form s.delay (Some []) (Some []) q [] = feeds_first inlet form s.delay (Some []) (Some []) q q none goes in
    let own = subst (λ (f : Format). Feeds inlet f s.delay (Some []) (Some []) q []) (sym same) fed in
    let begun : HasBegun remaining how s.form None (Some []) = refl in
    record {
      start = Some [];
      begun = subst (λ (f : Option R). HasBegun remaining how s.form f (Some [])) (sym absent) begun;
      fed = subst (λ (r : Option R). Feeds inlet s.form s.delay (Some []) (left_of remaining r) q []) (sym reader) own;
      there = ap (λ (o : Option R). is_some o) (reader ∙ sym absent);
      put_off = put_off;
    }

pub opened_some : {R : Type 0} (remaining : R → Option (List ℕ)) (inlet : Inlet) (how : Reading) (delay : ℕ) (file : Option R) (reader after : R) (form : Format) (s t : Source R)
    → file ≡ Some reader → TakesFront how form (remaining reader) (remaining after) → s.reader ≡ Some after → s.form ≡ form → s.delay ≡ delay
    → IsUntaken form (progress_of s) → GoesOn s.state s.delay t.due (left_of remaining s.reader) (left_of remaining t.reader) (progress_of s) (progress_of t)
    → IsSame s t → IsOpened remaining inlet how delay file t
opened_some {R = R} remaining inlet how delay file reader after form s t there front at is put_off none goes same =
    let start = remaining after in
    let now = left_of remaining t.reader in
    let own_goes = subst (λ (r : Option R). GoesOn s.state s.delay t.due (left_of remaining r) now (progress_of s) (progress_of t)) at goes in
    let fed = feeds_first inlet form s.delay start now (progress_of s) (progress_of t) none own_goes in
    let fed_form = subst (λ (f : Format). Feeds inlet f s.delay start now (progress_of t) []) (sym (same.form ∙ is)) fed in
    let fed_both = subst (λ (n : ℕ). Feeds inlet t.form n start now (progress_of t) []) (sym same.delay) fed_form in
    let takes = subst (λ (f : Format). TakesFront how f (remaining reader) start) (sym (same.form ∙ is)) front in
    record {
      start = start;
      begun = subst (λ (f : Option R). HasBegun remaining how t.form f start) (sym there) takes;
      fed = fed_both;
      there = same.file ∙ ap (λ (o : Option R). is_some o) at ∙ sym (ap (λ (o : Option R). is_some o) there);
      put_off = same.delay ∙ put_off;
    }

-- what begins a file, up to any place of its packets
begins : (how : Reading) (form last : Format) (known start left : Option (List ℕ)) (octets : List ℕ) (packets : List Captured) (P : List ℕ → Type 0)
    → TakesFront how form known start → Loses octets start left → AreTaken form octets packets last
    → ((xs rest : List ℕ) → left ≡ Some rest → BeginsWith how xs packets last (front_len form + length octets) rest → P xs) → IfSome known P
begins how form last None start left octets packets P t lost records f = tt
begins how form last (Some xs) None left octets packets P t lost records f = absurd t.lost
begins how form last (Some xs) (Some ys) None octets packets P t lost records f = absurd lost
begins how form last (Some xs) (Some ys) (Some rest) octets packets P t lost records f = f xs rest refl (record {
  form = form;
  front = t.front;
  body = octets;
  spelled = t.lost ∙ ap (λ (l : List ℕ). t.front ++ l) lost;
  header = t.header;
  records = records;
  place_is = ap (λ n. n + length octets) (sym t.size);
})

whole_file : (how : Reading) (state : Format) (xs : List ℕ) (packets : List Captured) (place : ℕ) → BeginsWith how xs packets state place [] → IsFile how xs packets
whole_file how state xs packets place b = (
  state,
  record {
    form = b.form;
    front = b.front;
    body = b.body;
    spelled = b.spelled;
    header = b.header;
    records = b.records;
    place_is = omega (arith, ap length b.spelled, length-append b.front (b.body ++ []), length-append b.body []);
  },
)

loses_all : (start : Option (List ℕ)) (form : Format) (packets : List Captured) (known : Option (List ℕ)) (how : Reading)
    → TakesFront how form known start → IfSome start (λ octets. HasPackets form octets packets) → IfSome known (λ octets. IsFile how octets packets)
loses_all start form packets None how t h = tt
loses_all None form packets (Some xs) how t h = absurd t.lost
loses_all (Some ys) form packets (Some xs) how t h =
    begins how form h.0 (Some xs) (Some ys) (Some []) ys packets (λ octets. IsFile how octets packets) t (sym (append-nil ys)) h.1
    (λ octets rest none b. whole_file how h.0 octets packets (front_len form + length ys)
    (subst (λ (l : List ℕ). BeginsWith how octets packets h.0 (front_len form + length ys) l) (sym (the_rest [] rest none)) b))
  where
    the_rest : (a b : List ℕ) → Some a ≡ Some b → a ≡ b
    the_rest a b e = cc

-- of no octets there are no packets
no_packets : (form : Format) (start : Option (List ℕ)) (packets : List Captured) → start ≡ Some [] → IfSome start (λ octets. HasPackets form octets packets)
    → packets ≡ []
no_packets form start packets none h =
    let own : HasPackets form [] packets = subst (λ (o : Option (List ℕ)). IfSome o (λ octets. HasPackets form octets packets)) none h in
    none_taken form own.0 packets own.1

pub file_has : {R : Type 0} (remaining : R → Option (List ℕ)) (how : Reading) (form : Format) (file : Option R) (start : Option (List ℕ)) (packets : List Captured)
    → HasBegun remaining how form file start → IfSome start (λ octets. HasPackets form octets packets) → FileHas remaining how file packets
file_has remaining how form None start packets b h = no_packets form start packets b h
file_has remaining how form (Some reader) start packets b h = loses_all start form packets (remaining reader) how b h

header_fault : (how : Reading) (fault : CaptureFault) (known now : Option (List ℕ)) → HasNoFront fault known now → IfSome known (λ octets. HasFaultAtFront how octets fault)
header_fault how fault None now h = tt
header_fault how fault (Some xs) now h = inl (now, h)

-- a file without a front
pub fails_in_front : {R : Type 0} (remaining : R → Option (List ℕ)) (inlet : Inlet) (how : Reading) (file : Option R) (reader after : R) (fault : CaptureFault)
    → file ≡ Some reader → HasNoFront fault (remaining reader) (remaining after) → FailsAtFront remaining inlet how file (File inlet fault)
fails_in_front remaining inlet how file reader after fault there h =
    (fault, reader, refl, there, header_fault how fault (remaining reader) (remaining after) h)

-- a fault behind packets
fault_behind : (how : Reading) (form last : Format) (fault : CaptureFault) (known start left after : Option (List ℕ)) (octets : List ℕ) (packets : List Captured)
    → TakesFront how form known start → Loses octets start left → AreTaken form octets packets last
    → IsStuck last (front_len form + length octets) fault left after → IfSome known (λ xs. HasFault how xs packets fault)
fault_behind how form last fault known start left after octets packets t lost records stuck =
    begins how form last known start left octets packets (λ xs. HasFault how xs packets fault) t lost records
    (λ xs rest is b. record {
      state = last;
      place = front_len form + length octets;
      rest = rest;
      left = after;
      begins = b;
      stuck = subst (λ (o : Option (List ℕ)). IsStuck last (front_len form + length octets) fault o after) is stuck;
    })

-- a file without a first packet
pub fails_behind_front : {R : Type 0} (remaining : R → Option (List ℕ)) (inlet : Inlet) (how : Reading) (file : Option R) (reader after : R) (form : Format)
    (s : Source R) (fault : CaptureFault) (now : Option (List ℕ)) → file ≡ Some reader → TakesFront how form (remaining reader) (remaining after)
    → s.reader ≡ Some after → IsUntaken form (progress_of s) → IsStuck s.state s.place fault (left_of remaining s.reader) now
    → FailsAtFront remaining inlet how file (File inlet fault)
fails_behind_front {R = R} remaining inlet how file reader after form s fault now there front at none stuck =
    let start = remaining after in
    let by_reader = subst (λ (r : Option R). IsStuck s.state s.place fault (left_of remaining r) now) at stuck in
    let by_state = subst (λ (f : Format). IsStuck f s.place fault start now) none.state by_reader in
    let own : IsStuck form (front_len form + 0) fault start now =
    stuck_at form s.place (front_len form + 0) fault start now (omega (arith, none.place, front_few form)) by_state in
    (fault, reader, refl, there, at_front how fault (remaining reader) (fault_behind how form form fault (remaining reader) start start now [] [] front (loses_nothing start) (taken_none form) own))
  where
    at_front : (n : Reading) (x : CaptureFault) (known : Option (List ℕ)) → IfSome known (λ xs. HasFault n xs [] x) → IfSome known (λ xs. HasFaultAtFront n xs x)
    at_front n x None h = tt
    at_front n x (Some xs) h = inr h

if_some_map : {T : Type 0} (o : Option T) (P Q : T → Type 0) → IfSome o P → ((x : T) → P x → Q x) → IfSome o Q
if_some_map None P Q h f = tt
if_some_map (Some x) P Q h f = f x h

nil_front : (a b : List ℕ) → [] ≡ a ++ b → a ≡ []
nil_front [] b e = refl
nil_front (x ∷ xs) b e = absurd (omega (arith, ap length e))

-- of no octets there are no items
no_items : (inlet : Inlet) (form last : Format) (delay : ℕ) (start left : Option (List ℕ)) (octets : List ℕ) (packets : List Captured) → start ≡ Some []
    → Loses octets start left → AreTaken form octets packets last → items_of inlet delay packets ≡ []
no_items inlet form last delay start left octets packets none lost records =
    let own : Loses octets (Some []) left = subst (λ (o : Option (List ℕ)). Loses octets o left) none lost in
    ap (items_of inlet delay) (none_taken form last packets (subst (λ (l : List ℕ). AreTaken form l packets last) (no_front left own) records))
  where
    no_front : (o : Option (List ℕ)) → Loses octets (Some []) o → octets ≡ []
    no_front None l = absurd l
    no_front (Some ys) l = nil_front octets ys l

absent_stands : (o : Option CaptureFault) (inlet : Inlet) (form : Format) (delay : ℕ) (start : Option (List ℕ)) (printed : List Item) → start ≡ Some []
    → Stands o inlet (record { form = form; delay = delay; start = start }) printed → came_at inlet printed ≡ []
absent_stands (Some fault) inlet form delay start printed none h = sym h.items ∙ no_items inlet form h.last delay start h.left h.octets h.packets none h.lost h.records
absent_stands None inlet form delay start printed none (packets, inl h) =
    h.1 ∙ ap (items_of inlet delay) (no_packets form start packets none h.0)
absent_stands None inlet form delay start printed none (packets, inr h) =
    front_nil (came_at inlet printed) h.next.0 (sym h.next.1 ∙ no_items inlet form h.last delay start h.left h.octets packets none h.lost h.records)
  where
    front_nil : (xs : List Item) (x : Item) → xs ++ x ∷ [] ≡ [] → xs ≡ []
    front_nil [] x e = refl
    front_nil (y ∷ ys) x e = absurd (omega (arith, ap length e))

reader_stands : (o : Option CaptureFault) (inlet : Inlet) (how : Reading) (form : Format) (delay : ℕ) (known start : Option (List ℕ)) (printed : List Item)
    → TakesFront how form known start → Stands o inlet (record { form = form; delay = delay; start = start }) printed
    → IfSome known (λ octets. StandsIn o inlet how delay octets printed)
reader_stands (Some fault) inlet how form delay known start printed t h =
    if_some_map known (λ xs. HasFault how xs h.packets fault) (λ octets. HasFaultIn inlet how delay fault octets printed)
    (fault_behind how form h.last fault known start h.left h.after h.octets h.packets t h.lost h.records h.stuck) (λ xs f. (h.packets, h.items, f))
reader_stands None inlet how form delay known start printed t (packets, inl h) =
    if_some_map known (λ xs. IsFile how xs packets) (λ octets. HasComeIn inlet how delay octets printed)
    (loses_all start form packets known how t h.0) (λ xs f. (packets, inl (f, h.1)))
reader_stands None inlet how form delay known start printed t (packets, inr h) =
    begins how form h.last known start h.left h.octets packets (λ octets. HasComeIn inlet how delay octets printed) t h.lost h.records
    (λ xs rest is b. (packets, inr (h.last, front_len form + length h.octets, rest, b, h.next)))

file_stands : {R : Type 0} (remaining : R → Option (List ℕ)) (o : Option CaptureFault) (inlet : Inlet) (how : Reading) (form : Format) (delay : ℕ) (file : Option R)
    (start : Option (List ℕ)) (printed : List Item) → HasBegun remaining how form file start
    → Stands o inlet (record { form = form; delay = delay; start = start }) printed → FileStands remaining o inlet how delay file printed
file_stands remaining o inlet how form delay None start printed b h = absent_stands o inlet form delay start printed b h
file_stands remaining o inlet how form delay (Some reader) start printed b h = reader_stands o inlet how form delay (remaining reader) start printed b h

-- three files that are open, each with its delay
pub record AreOpened {R : Type 0} (remaining : R → Option (List ℕ)) (hows : Inlet → Reading) (fa fb fc : Option R) (a b c : Source R) (da db dc : ℕ) : Type 0 where
  pub at_a : IsOpened remaining A (hows A) da fa a
  pub at_b : IsOpened remaining B (hows B) db fb b
  pub at_c : IsOpened remaining C (hows C) dc fc c

pub are_opened : {R : Type 0} (remaining : R → Option (List ℕ)) (hows : Inlet → Reading) (fa fb fc : Option R) (a b c : Source R) (da db dc : ℕ)
    → IsOpened remaining A (hows A) da fa a → IsOpened remaining B (hows B) db fb b → IsOpened remaining C (hows C) dc fc c
    → AreOpened remaining hows fa fb fc a b c da db dc
are_opened remaining hows fa fb fc a b c da db dc x y z = record { at_a = x; at_b = y; at_c = z }

-- what is printed of the files is their script
pub is_script : {R : Type 0} (remaining : R → Option (List ℕ)) (choice : Choice) (hows : Inlet → Reading) (fa fb fc : Option R) (a b c : Source R) (da db dc : ℕ)
    (text : List ℕ) (o : AreOpened remaining hows fa fb fc a b c da db dc)
    → Scripts choice (feed_of a o.at_a.start) (feed_of b o.at_b.start) (feed_of c o.at_c.start) (is_some a.reader) (is_some b.reader) (is_some c.reader) text
    → IsScript remaining choice hows fa fb fc da db dc text
is_script remaining choice hows fa fb fc a b c da db dc text o h =
    let x = feed_of a o.at_a.start in
    let y = feed_of b o.at_b.start in
    let z = feed_of c o.at_c.start in
    let one = subst (λ (t : Bool). Scripts choice x y z t (is_some b.reader) (is_some c.reader) text) o.at_a.there h in
    let two = subst (λ (t : Bool). Scripts choice x y z (is_some fa) t (is_some c.reader) text) o.at_b.there one in
    let s = subst (λ (t : Bool). Scripts choice x y z (is_some fa) (is_some fb) t text) o.at_c.there two in
    let own : IsScript remaining choice hows fa fb fc a.delay b.delay c.delay text = record {
      packets_a = s.packets_a;
      packets_b = s.packets_b;
      packets_c = s.packets_c;
      has_a = file_has remaining (hows A) a.form fa o.at_a.start s.packets_a o.at_a.begun s.has_a;
      has_b = file_has remaining (hows B) b.form fb o.at_b.start s.packets_b o.at_b.begun s.has_b;
      has_c = file_has remaining (hows C) c.form fc o.at_c.start s.packets_c o.at_c.begun s.has_c;
      merged = s.merged;
      is_merge = s.is_merge;
      is = s.is;
    } in
    let own_a = subst (λ (n : ℕ). IsScript remaining choice hows fa fb fc n b.delay c.delay text) o.at_a.put_off own in
    let own_b = subst (λ (n : ℕ). IsScript remaining choice hows fa fb fc da n c.delay text) o.at_b.put_off own_a in
    subst (λ (n : ℕ). IsScript remaining choice hows fa fb fc da db n text) o.at_c.put_off own_b

-- what is printed before a fault
pub is_script_to : {R : Type 0} (remaining : R → Option (List ℕ)) (choice : Choice) (hows : Inlet → Reading) (fa fb fc : Option R) (a b c : Source R) (da db dc : ℕ)
    (fault : ScriptFault) (held now : Option (List ℕ)) (o : AreOpened remaining hows fa fb fc a b c da db dc)
    → Halts choice (feed_of a o.at_a.start) (feed_of b o.at_b.start) (feed_of c o.at_c.start) fault held now
    → (text : List ℕ) × IsScriptUpTo remaining choice hows fa fb fc da db dc fault text × Appends held now text
is_script_to remaining choice hows fa fb fc a b c da db dc fault held now o h =
    let text = lines_of choice h.printed in
    let own : IsScriptTo remaining choice hows fa fb fc a.delay b.delay c.delay fault text = record {
      printed = h.printed;
      at_a = file_stands remaining (fault_at A fault) A (hows A) a.form a.delay fa o.at_a.start h.printed o.at_a.begun h.at_a;
      at_b = file_stands remaining (fault_at B fault) B (hows B) b.form b.delay fb o.at_b.start h.printed o.at_b.begun h.at_b;
      at_c = file_stands remaining (fault_at C fault) C (hows C) c.form c.delay fc o.at_c.start h.printed o.at_c.begun h.at_c;
      order = h.order;
      is = refl;
    } in
    let own_a = subst (λ (n : ℕ). IsScriptTo remaining choice hows fa fb fc n b.delay c.delay fault text) o.at_a.put_off own in
    let own_b = subst (λ (n : ℕ). IsScriptTo remaining choice hows fa fb fc da n c.delay fault text) o.at_b.put_off own_a in
    (text, inr (subst (λ (n : ℕ). IsScriptTo remaining choice hows fa fb fc da db n fault text) o.at_c.put_off own_b), h.wrote)
