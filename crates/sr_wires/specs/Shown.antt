-- What a pass shows.
use Rattle.std.specs.Prelude.{ℕ, List, refl}
use Rattle.std.specs.Coded.{Coded, code_by, coded×, coded_ℕ, coded_list}
use Rattle.atomic_table.specs.Seated.{TableId, table_id_coded}

-- which wire it is of, all that went by it, and what of that which went by the other pass it has seen: that is where both were compared
pub record WireEnd : Type 0 where
  pub wire : TableId
  pub frames : List (List ℕ)
  pub seen : List (List ℕ)

abbrev pub wire_end : TableId → List (List ℕ) → List (List ℕ) → WireEnd
wire_end w f s = record { wire = w; frames = f; seen = s }

abbrev pub wire_end_code : Coded WireEnd
wire_end_code =
    code_by (TableId × (List (List ℕ) × List (List ℕ)))
    (coded× table_id_coded (coded× (coded_list (coded_list coded_ℕ)) (coded_list (coded_list coded_ℕ))))
    (λ w. (w.wire, (w.frames, w.seen))) (λ p. wire_end p.0 p.1.0 p.1.1) (λ _. refl)
