-- Lines of parcels that are taken one by one.
use Rattle.std.proofs.Common.{◌≡◌, ℕ, List, [], ◌∷◌, ◌++◌, take, drop, Some, None, refl, sym, subst, ◌∙◌, ap, append_assoc, length, arith}
use Rattle.std.proofs.lemmas.List.{append-nil}
use Rattle.sr_frame.specs.declared.ports.Port.{Port}
use Rattle.sr_frame.specs.declared.ports.Port.TheVariants.{H, A, B, C}
use Rattle.sr_forwarding.specs.Parcels.{ParcelImage}
use Rattle.sr_node.specs.Images.{State}
use Rattle.sr_node.specs.Outboxes.{Outboxes, box_at, first_of}
use Rattle.sr_node.specs.PerPort.{with_at}
use Rattle.sr_forwarding.specs.declared.kind.RoleKind.{RoleKind}
use Rattle.sr_script.specs.Texts.{IsLine, AreLines}
use Rattle.sr_script.specs.Replies.{left_at, emptied}

-- what is to be printed of a queue, once this is printed of what is left of it
abbrev pub Printed : RoleKind → Port → List ParcelImage → List ParcelImage → List ℕ → List ℕ → Type 0
Printed role port whole left before text =
    (rest : List ℕ) → AreLines role port left rest → (lines : List ℕ) × AreLines role port whole lines × (text ++ rest ≡ before ++ lines)

pub printed_none : (role : RoleKind) (port : Port) (whole : List ParcelImage) (before : List ℕ) → Printed role port whole whole before before
printed_none role port whole before rest lines = (rest, lines, refl)

-- the line of the first, if there is one, and then the lines of the others
first_and_rest : (role : RoleKind) (port : Port) (q : List ParcelImage) (line rest : List ℕ)
    → AreLines role port (take 1 q) line → AreLines role port (drop 1 q) rest → AreLines role port q (line ++ rest)
first_and_rest role port [] line rest e more = subst (λ (l : List ℕ). l ++ rest ≡ []) (sym e) more
first_and_rest role port (x ∷ xs) line rest (l, none, is, e, same) more =
    (l, rest, is, more, ap (λ (t : List ℕ). t ++ rest) (same ∙ ap (λ (t : List ℕ). l ++ t) e ∙ append-nil l))

pub printed_more : (role : RoleKind) (port : Port) (whole q : List ParcelImage) (before text line : List ℕ)
    → AreLines role port (take 1 q) line → Printed role port whole q before text → Printed role port whole (drop 1 q) before (text ++ line)
printed_more role port whole q before text line first so_far rest more =
    let all = so_far (line ++ rest) (first_and_rest role port q line rest first more) in
    (all.0, all.1, append_assoc text line rest ∙ all.2)

pub line_of_first : (role : RoleKind) (port : Port) (q : List ParcelImage) (p : ParcelImage) (line : List ℕ)
    → first_of q ≡ Some p → IsLine role port p line → AreLines role port (take 1 q) line
line_of_first role port [] p line e is = absurd cc
line_of_first role port (x ∷ xs) p line e is =
    let same : p ≡ x = cc in (line, [], subst (λ (v : ParcelImage). IsLine role port v line) same is, refl, sym (append-nil line))

nothing_left : (role : RoleKind) (port : Port) (q : List ParcelImage) → first_of q ≡ None → AreLines role port q []
nothing_left role port [] e = refl
nothing_left role port (x ∷ xs) e = absurd cc

pub printed_all : (role : RoleKind) (port : Port) (whole q : List ParcelImage) (before text : List ℕ)
    → first_of q ≡ None → Printed role port whole q before text → (lines : List ℕ) × AreLines role port whole lines × (text ≡ before ++ lines)
printed_all role port whole q before text e so_far =
    let all = so_far [] (nothing_left role port q e) in (all.0, all.1, sym (append-nil text) ∙ all.2)

pub box_left : (s : State) (port : Port) → box_at (left_at s port).core.out port ≡ drop 1 (box_at s.core.out port)
box_left s H = refl
box_left s A = refl
box_left s B = refl
box_left s C = refl

pub emptied_left : (s : State) (port : Port) → emptied (left_at s port) port ≡ emptied s port
emptied_left s H = refl
emptied_left s A = refl
emptied_left s B = refl
emptied_left s C = refl

nothing_behind : (q : List ParcelImage) → first_of q ≡ None → drop 1 q ≡ []
nothing_behind [] e = refl
nothing_behind (x ∷ xs) e = absurd cc

left_is_emptied : (s : State) (port : Port) → first_of (box_at s.core.out port) ≡ None → left_at s port ≡ emptied s port
left_is_emptied s port e =
    ap (λ (q : List ParcelImage). record s { core = record s.core { out = with_at s.core.out port q } }) (nothing_behind (box_at s.core.out port) e)

same_box : (s : State) (port : Port) → with_at s.core.out port (box_at s.core.out port) ≡ s.core.out
same_box s H = refl
same_box s A = refl
same_box s B = refl
same_box s C = refl

unchanged : (q : List ParcelImage) → first_of q ≡ None → q ≡ drop 1 q
unchanged [] e = refl
unchanged (x ∷ xs) e = absurd cc

pub none_first : (q : List ParcelImage) → length q ≡ 0 → first_of q ≡ None
none_first [] e = refl
none_first (x ∷ xs) e = absurd (omega arith)

-- where nothing waits, all is taken
pub is_emptied : (s : State) (port : Port) → first_of (box_at s.core.out port) ≡ None → s ≡ emptied s port
is_emptied s port e =
    ap (λ (o : Outboxes). record s { core = record s.core { out = o } })
    (sym (same_box s port) ∙ ap (λ (q : List ParcelImage). with_at s.core.out port q) (unchanged (box_at s.core.out port) e))
    ∙ left_is_emptied s port e

pub four_parts : (t h a b c : List ℕ) → (((t ++ h) ++ a) ++ b) ++ c ≡ t ++ (h ++ (a ++ (b ++ c)))
four_parts t h a b c = append_assoc ((t ++ h) ++ a) b c ∙ append_assoc (t ++ h) a (b ++ c) ∙ append_assoc t h (a ++ (b ++ c))
