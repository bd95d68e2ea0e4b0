-- Two tables gone over together.
use Rattle.std.proofs.Common.{◌≡◌, ℕ, Bool, true, false, eqb, ◌&&◌, List, [], ◌∷◌, sym, ◌∙◌}
use Rattle.std.specs.Cmp.Lexicographic.{pointwise}
use Rattle.sr_frame.specs.declared.fields.Mac.{Mac}
use Rattle.sr_dup_window.specs.declared.record.Record.{Record}
use Rattle.sr_aged_slots.specs.declared.aged.Aged.{Aged}
use Rattle.sr_dup_table.specs.Sources.{same_remembered, same_sources}
use Rattle.sr_dup_table.specs.Shown.{heard_of, sources_of}

-- the first of both are the same: so the rest says all
pub same_first : {N : ℕ} (a b : Mac × Aged (Record N)) (xs ys es os : List (Mac × Aged (Record N))) (all : Bool) → es ≡ a ∷ xs → os ≡ b ∷ ys
    → pointwise eqb a.0.0 b.0.0 ≡ true → same_remembered (heard_of a.1) (heard_of b.1) ≡ true
    → same_sources (sources_of es) (sources_of os) ≡ all → same_sources (sources_of xs) (sources_of ys) ≡ all
same_first a b xs ys es os all e o p q whole =
    let rest : Bool = same_sources (sources_of xs) (sources_of ys) in
    let parts : same_sources (sources_of es) (sources_of os) ≡ ((pointwise eqb a.0.0 b.0.0 && same_remembered (heard_of a.1) (heard_of b.1)) && rest) =
    λ i. same_sources (sources_of (e i)) (sources_of (o i)) in
    let last : ((pointwise eqb a.0.0 b.0.0 && same_remembered (heard_of a.1) (heard_of b.1)) && rest) ≡ rest = λ i. (p i && q i) && rest in
    sym last ∙ sym parts ∙ whole

-- one of them ends first
pub ends_first : {N : ℕ} (a : Mac × Aged (Record N)) (xs es os : List (Mac × Aged (Record N))) (all : Bool) → es ≡ a ∷ xs → os ≡ []
    → same_sources (sources_of es) (sources_of os) ≡ all → false ≡ all
ends_first a xs es os all e o whole =
    let parts : same_sources (sources_of es) (sources_of os) ≡ false = λ i. same_sources (sources_of (e i)) (sources_of (o i)) in
    sym parts ∙ whole
