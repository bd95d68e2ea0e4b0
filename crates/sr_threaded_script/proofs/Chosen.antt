-- The frames of a node, of what is to be sent.
use Rattle.std.proofs.Common.{◌≡◌, ◌≢◌, ◌+◌, ◌<◌, ◌++◌, ◌∷◌, [], ℕ, List, Bool, false, length, get_or, take, map, ap, ◌∙◌, append-nil, sym, arith}
use Rattle.std.specs.Prelude.{◌==◌, filter, if◌then◌else◌}
use Rattle.std.proofs.lemmas.Bool.{eq-eqb}
use Rattle.std.proofs.lemmas.Bool.Decides.{nat_tests}
use Rattle.std.proofs.lemmas.List.{map-append, take_more}
use Rattle.std.proofs.lemmas.List.Elements.{filter-append}
use Rattle.sr_threaded_script.specs.Sent.{own_frames}

abbrev own : ℕ → ℕ × List ℕ → Bool
own node s = s.0 == node

abbrev frame : ℕ × List ℕ → List ℕ
frame s = s.1

not_equal : (a b : ℕ) → a ≢ b → (a == b) ≡ false
not_equal a b h = grind (arith, nat_tests)

-- one of another's is passed over
pub passed : (node : ℕ) (x : ℕ × List ℕ) (frames : List (List ℕ)) → x.0 ≢ node → frames ≡ frames ++ own_frames node (x ∷ [])
passed node x frames other =
    sym (append-nil frames)
    ∙ ap (λ (b : Bool). frames ++ map frame (if b then x ∷ [] else [])) (sym (not_equal x.0 node other))

-- one of the node's own is taken
pub taken : (node : ℕ) (x : ℕ × List ℕ) (frames later : List (List ℕ)) (copy : List ℕ) → x.0 ≡ node → copy ≡ x.1
    → later ≡ frames ++ copy ∷ [] → later ≡ frames ++ own_frames node (x ∷ [])
taken node x frames later copy here same grown =
    grown ∙ ap (λ (f : List ℕ). frames ++ f ∷ []) same
    ∙ ap (λ (b : Bool). frames ++ map frame (if b then x ∷ [] else [])) (sym (eq-eqb x.0 node here))

-- one more is looked at
pub frames_more : (node : ℕ) (sent : List (ℕ × List ℕ)) (i : ℕ) (x : ℕ × List ℕ) → i < length sent → x ≡ get_or sent i x
    → own_frames node (take (i + 1) sent) ≡ own_frames node (take i sent) ++ own_frames node (x ∷ [])
frames_more node sent i x within is =
    ap (own_frames node) (take_more sent i x within)
    ∙ ap (map frame) (filter-append (own node) (take i sent) (get_or sent i x ∷ []))
    ∙ map-append frame (filter (own node) (take i sent)) (filter (own node) (get_or sent i x ∷ []))
    ∙ ap (λ (y : ℕ × List ℕ). own_frames node (take i sent) ++ own_frames node (y ∷ [])) (sym is)
