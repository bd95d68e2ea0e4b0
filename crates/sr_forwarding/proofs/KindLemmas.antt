-- What is proved of the routes of each kind, by its lines.
use Rattle.std.proofs.Common.{◌≡◌, ℕ, ◌==◌, ◌/◌, true, false, refl}
use Rattle.sr_frame.specs.declared.ports.Port.{Port}
use Rattle.sr_frame.specs.declared.ports.Port.TheVariants.{H, A, B, C}
use Rattle.sr_forwarding.specs.declared.header.Header.{Header}
use Rattle.sr_forwarding.specs.declared.role_image.RoleImage.{RoleImage}
use Rattle.sr_forwarding.specs.declared.kind.RoleKind.{RoleKind}
use Rattle.sr_forwarding.specs.declared.kind.RoleKind.TheVariants.{Danp, Danh, San, Prp, Hsr}
use Rattle.sr_forwarding.specs.Outlets.{has}
use Rattle.sr_forwarding.specs.Kinds.{stands_alone}
use Rattle.sr_forwarding.specs.NetIds.{number_of}
use Rattle.sr_forwarding.specs.KindLemmas.{lan_to_host}
use Rattle.sr_forwarding.specs.Routes.{routes, routes_of, IgnoresKnown}
use Rattle.sr_forwarding.proofs.RouteLemmas.{danh_no, san_no, box_no, box_linked_no}

-- the routes of a role that stands for its own address alone read not whether the destination is known
pub ignores_known : (kind : RoleKind) → stands_alone kind ≡ true → IgnoresKnown kind
ignores_known Danp alone r h known H now = refl
ignores_known Danp alone r h known A now = refl
ignores_known Danp alone r h known B now = refl
ignores_known Danp alone r h known C now = refl
ignores_known Danh alone r h known H now = refl
ignores_known Danh alone r h known A now = refl
ignores_known Danh alone r h known B now = refl
ignores_known Danh alone r h known C now = refl
ignores_known San alone r h known inlet now = absurd cc
ignores_known (Prp lan net) alone r h known H now = refl
ignores_known (Prp lan net) alone r h known A now = refl
ignores_known (Prp lan net) alone r h known B now = refl
ignores_known (Prp lan net) alone r h known C now = refl
ignores_known Hsr alone r h known H now = refl
ignores_known Hsr alone r h known A now = refl
ignores_known Hsr alone r h known B now = refl
ignores_known Hsr alone r h known C now = refl

-- no route has the inlet
kind_no : (kind : RoleKind) (r : RoleImage) (h : Header) (inlet : Port) (now : ℕ) → has (routes_of kind r h inlet now) inlet ≡ false
kind_no Danp r h H now = refl
kind_no Danp r h A now = lan_to_host r h A refl refl
kind_no Danp r h B now = lan_to_host r h B refl refl
kind_no Danp r h C now = refl
kind_no Danh r h H now = refl
kind_no Danh r h A now = danh_no r h A refl refl refl refl
kind_no Danh r h B now = danh_no r h B refl refl refl refl
kind_no Danh r h C now = refl
kind_no San r h inlet now = san_no r h inlet now
kind_no (Prp lan net) r h inlet now = box_no (h.path / 2 == number_of net) r h inlet
kind_no Hsr r h inlet now = box_linked_no r h inlet

pub no_inlet : (r : RoleImage) (h : Header) (inlet : Port) (now : ℕ) → has (routes r h inlet now) inlet ≡ false
no_inlet r h inlet now = kind_no r.kind r h inlet now
