use Rattle.std.proofs.Common.{◌≡◌, ◌∙◌, ap, subst, refl, inl, inr, None, Some, Err}
use Rattle.std.specs.Prelude.{unwrap_or}
use Rattle.sr_dup_snapshots.specs.Reading.{IsReadAs}
use Rattle.sr_node.specs.Absorbing.{Absorbed, absorb_fault}
use Rattle.sr_node.specs.declared.fault.MergeFault.TheVariants.{NoMemory}
use Rattle.sr_node.specs.Images.{Image, node_state, shown}
use Rattle.sr_endpoint.specs.AnyRoles.{image_of}
use Rattle.sr_endpoint.specs.declared.any_role.AnyRole.{AnyRole}
use Rattle.sr_endpoint.specs.Snapshots.{noting}
use Rattle.sr_endpoint.proofs.endpoint.Endpoint.absorb_at.Goals as goal

pub returns-in-Err-clause-takes : goal.returns-in-Err-clause-takes
returns-in-Err-clause-takes c = (
  elim c.in-Err.ensures.refused [
    | inl memory ↦ inl memory
    | inr bad ↦ inr (inl (bad, c.read_snapshot.ensures.exact.0 (c.in-Err.is ∙ ap (λ e. Err e) bad)))
  ],
  refl,
)

pub returns-in-Ok-absorb-clause-takes : goal.returns-in-Ok-absorb-clause-takes
returns-in-Ok-absorb-clause-takes c =
    let t = c.in-Ok.table in
    let i = shown c.args.self.now.node.core in
    let is = c.in_ok-other.ensures ∙ ap (λ w. noting w t.sources) (c.in-Ok.ensures.width ∙ c.requires) in
    record {
      sources = t.sources;
      read = subst (λ w. IsReadAs w c.args.octets.now t.sources) c.requires c.in-Ok.ensures.found;
      joinable = subst (λ (o : Image). absorb_fault i o ≡ None) is c.in-Ok-absorb.ensures.joinable;
      joined = subst (λ (o : Image). Absorbed i o (shown c.absorb.new.self.core)) is c.in-Ok-absorb.ensures.joined;
      role = ap image_of c.absorb.ensures.role;
    }

pub returns-clause-takes : goal.returns-clause-takes
returns-clause-takes c =
    let t = c.in-Ok.table in
    let i = shown c.args.self.now.node.core in
    let is = c.in_ok-other.ensures ∙ ap (λ w. noting w t.sources) (c.in-Ok.ensures.width ∙ c.requires) in (
      inr (inr (record {
        sources = t.sources;
        read = subst (λ w. IsReadAs w c.args.octets.now t.sources) c.requires c.in-Ok.ensures.found;
        why = c.dup_fault.ensures ∙ ap (λ e. Some e) (c.in-Err-absorb.ensures.refused ∙ ap (λ o. unwrap_or (absorb_fault i o) NoMemory) is);
      })),
      ap (λ (r : AnyRole). node_state (image_of r) c.absorb.new.self.core) c.absorb.ensures.role
          ∙ ap (λ k. node_state (image_of c.args.self.now.node.role) k) c.in-Err-absorb.ensures.same,
    )
