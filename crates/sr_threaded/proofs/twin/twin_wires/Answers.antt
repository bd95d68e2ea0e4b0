use Rattle.std.proofs.Common.{◌≡◌, ◌<◌, ℕ, Vec, Global, map, vec_len, get_or, sym, ap, ◌∙◌, subst}
use Rattle.sr_lines.specs.declared.ends.Ends.{Ends}
use Rattle.sr_lines.specs.Names.{all_wires}
use Rattle.sr_threaded.specs.declared.twin.TwinEnds.{TwinEnds}
use Rattle.sr_threaded.specs.Joined.{IsLan}
use Rattle.sr_threaded.proofs.Running.{if_both}
use Rattle.sr_threaded.proofs.Zipped.{same_maps}
use Rattle.sr_threaded.proofs.twin.twin_wires.Goals as goal

abbrev Row : Type 0
Row = Vec Ends Global

-- what stands at each place of these is made of what stands there in those
abbrev At : (TwinEnds → Row) → Vec Row Global → Vec TwinEnds Global → Type 0
At side rows v = (i : ℕ) (r : Row) (t : TwinEnds) → i < vec_len rows → side (get_or v.items i t) ≡ get_or rows.items i r

lan_of : (side : TwinEnds → Row) (rows : Vec Row Global) (v : Vec TwinEnds Global) → vec_len v ≡ vec_len rows → At side rows v
    → IsLan (map (λ r. all_wires r.items) rows.items) → IsLan (map (λ t. all_wires (side t).items) v.items)
lan_of side rows v len at lan =
    let same : map (λ r. all_wires r.items) rows.items ≡ map (λ t. all_wires (side t).items) v.items =
    same_maps (λ r. all_wires r.items) (λ t. all_wires (side t).items) rows.items v.items (sym rows.ok.0 ∙ sym len ∙ v.ok.0)
    (λ i r t low. ap (λ x. all_wires x.items) (sym (at i r t (subst (λ n. i < n) (sym rows.ok.0) low)))) in
    subst (λ l. IsLan l) same lan

-- these are made of what stands at each place of the two
abbrev Both : Vec Row Global → Vec Row Global → Vec TwinEnds Global → Type 0
Both a b v = (i : ℕ) (r s : Row) (t : TwinEnds) → i < vec_len a → ((get_or v.items i t).a ≡ get_or a.items i r) × ((get_or v.items i t).b ≡ get_or b.items i s)

pub returns-clause-a : goal.returns-clause-a
returns-clause-a c =
    if_both (λ v. vec_len v ≡ vec_len c.in_ok-a.a) (λ v. Both c.in_ok-a.a c.in_ok-b.b v) (λ v. IsLan (map (λ t. all_wires t.a.items) v.items))
    c.join_all.result c.join_all.ensures.len c.join_all.ensures.each
    (λ v len each. lan_of (λ t. t.a) c.in_ok-a.a v len (λ i r t low. (each i r r t low).0) c.in_ok-a.ensures.lan)

pub returns-clause-b : goal.returns-clause-b
returns-clause-b c =
    let same : vec_len c.in_ok-a.a ≡ vec_len c.in_ok-b.b = c.in_ok-a.ensures.len ∙ sym c.in_ok-b.ensures.len in
    if_both (λ v. vec_len v ≡ vec_len c.in_ok-a.a) (λ v. Both c.in_ok-a.a c.in_ok-b.b v) (λ v. IsLan (map (λ t. all_wires t.b.items) v.items))
    c.join_all.result c.join_all.ensures.len c.join_all.ensures.each
    (λ v len each. lan_of (λ t. t.b) c.in_ok-b.b v (len ∙ same) (λ i r t low. (each i r r t (subst (λ n. i < n) (sym same) low)).1) c.in_ok-b.ensures.lan)
