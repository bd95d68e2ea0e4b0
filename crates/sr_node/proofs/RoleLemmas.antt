-- What a role learns of a frame that does not come in at its interlink: nothing.
use Rattle.std.proofs.Common.{◌≡◌, ℕ, Bool, true, false, cond, refl}
use Rattle.sr_frame.specs.declared.ports.Port.TheVariants.{H, A, B}
use Rattle.sr_forwarding.specs.declared.header.Header.{Header}
use Rattle.sr_forwarding.specs.declared.role_image.RoleImage.{RoleImage}
use Rattle.sr_forwarding.specs.Kinds.{stands_alone}
use Rattle.sr_forwarding.specs.Proxies.{learned}

either : {X : Type 0} (t : Bool) (x : X) → cond t x x ≡ x
either true x = refl
either false x = refl

pub learned_of_host : (r : RoleImage) (h : Header) (now : ℕ) → learned r h H now ≡ r
learned_of_host r h now = either (stands_alone r.kind) r

pub learned_of_a : (r : RoleImage) (h : Header) (now : ℕ) → learned r h A now ≡ r
learned_of_a r h now = either (stands_alone r.kind) r

pub learned_of_b : (r : RoleImage) (h : Header) (now : ℕ) → learned r h B now ≡ r
learned_of_b r h now = either (stands_alone r.kind) r
