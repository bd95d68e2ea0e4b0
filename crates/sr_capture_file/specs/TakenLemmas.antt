-- Packets behind packets, of either kind of file.
use Rattle.std.proofs.Common.{◌≡◌, ℕ, ◌≤◌, List, [], ◌∷◌, ◌++◌, length, sym, ap, subst, refl, ◌∙◌, arith, append_assoc}
use Rattle.std.proofs.lemmas.List.{length-append, append-nil}
use Rattle.sr_capture.specs.declared.header.Form.{Form}
use Rattle.sr_capture.specs.Records.{Captured, AreRecords}
use Rattle.sr_pcapng.specs.StepLemmas.{blocks_none, blocks_on, no_blocks}
use Rattle.sr_capture_file.specs.declared.format.Format.{Format}
use Rattle.sr_capture_file.specs.declared.format.Format.TheVariants.{Pcap, Pcapng}
use Rattle.sr_capture_file.specs.Formats.{front_len, AreTaken}

-- records behind records
records_on : (form : Form) (a b : List ℕ) (xs ys : List Captured) → AreRecords form a xs → AreRecords form b ys → AreRecords form (a ++ b) (xs ++ ys)
records_on form a b [] ys h k = subst (λ (l : List ℕ). AreRecords form (l ++ b) ys) (sym h) k
records_on form a b (x ∷ xs) ys h k =
    (h.0, h.1 ++ b, ap (λ (l : List ℕ). l ++ b) h.2 ∙ append_assoc h.0 h.1 b, h.3, records_on form h.1 b xs ys h.4 k)

no_records : (form : Form) (packets : List Captured) → AreRecords form [] packets → packets ≡ []
no_records form [] h = refl
no_records form (p ∷ ps) h =
    absurd (omega (arith, ap length h.2, length-append h.0 h.1, ap length h.3.spelled, length-append h.3.front h.3.body, h.3.is_head.size))

-- nothing was taken
pub taken_none : (form : Format) → AreTaken form [] [] form
taken_none (Pcap form) = (refl, refl)
taken_none (Pcapng track) = (track, blocks_none track, refl)

-- more was taken
pub taken_on : (f g h : Format) (a b : List ℕ) (xs ys : List Captured) → AreTaken f a xs g → AreTaken g b ys h → AreTaken f (a ++ b) (xs ++ ys) h
taken_on (Pcap form) g h a b xs ys s t =
    let own = subst (λ (x : Format). AreTaken x b ys h) s.1 t in
    (records_on form a b xs ys s.0 own.0, own.1)
taken_on (Pcapng track) g h a b xs ys s t =
    let own = subst (λ (x : Format). AreTaken x b ys h) s.2 t in
    (own.0, blocks_on track s.0 own.0 a b xs ys s.1 own.1, own.2)

-- of no octets there are no packets
pub none_taken : (f g : Format) (xs : List Captured) → AreTaken f [] xs g → xs ≡ []
none_taken (Pcap form) g xs h = no_records form xs h.0
none_taken (Pcapng track) g xs h = no_blocks track h.0 xs h.1

-- a front is short
pub front_few : (form : Format) → front_len form ≤ 24
front_few (Pcap form) = omega arith
front_few (Pcapng track) = omega arith
