-- A role that stands for its own address alone learns nothing.
use Rattle.std.proofs.Common.{◌≡◌, ℕ, true, refl}
use Rattle.sr_frame.specs.declared.fields.Mac.{Mac}
use Rattle.sr_frame.specs.declared.ports.Port.{Port}
use Rattle.sr_frame.specs.declared.learn_outcome.LearnOutcome.TheVariants.{Known}
use Rattle.sr_forwarding.specs.declared.header.Header.{Header}
use Rattle.sr_forwarding.specs.declared.kind.RoleKind.{RoleKind}
use Rattle.sr_forwarding.specs.RoleImages.{role_of}
use Rattle.sr_forwarding.specs.Kinds.{stands_alone}
use Rattle.sr_forwarding.specs.Proxies.{learned, learnt}

pub knows_all : (kind : RoleKind) (mac : Mac) (h : Header) (inlet : Port) (now : ℕ) → stands_alone kind ≡ true → Known ≡ learnt (role_of kind mac) h inlet now
knows_all kind mac h inlet now alone = rw alone refl

pub learns_none : (kind : RoleKind) (mac : Mac) (h : Header) (inlet : Port) (now : ℕ) → stands_alone kind ≡ true → role_of kind mac ≡ learned (role_of kind mac) h inlet now
learns_none kind mac h inlet now alone = rw alone refl
